-- Parts in order, cut where a put ends.
use Rattle.std.proofs.Common.{◌≡◌, ◌∙◌, ℕ, ◌+◌, ◌-◌, ◌<◌, ◌≤◌, List, [], ◌∷◌, ◌++◌, length, get_or, take, drop, sym, ap, subst, ⊎_elim, arith}
use Rattle.std.proofs.lemmas.Bool.{cases_lt}
use Rattle.std.proofs.lemmas.List.{get_or-drop, get_or-take, get_or_read, length-drop, length-take, length-take-le, take-append-drop, take-take, drop-take}
use Rattle.cs_salvage.specs.declared.parts.Part.{Part}
use Rattle.cs_salvage.specs.declared.parts.Put.{Put}
use Rattle.cs_salvage.specs.Puts.{AreBefore, AreInOrder, AreOf, IsEndOfPut, Precedes}
use Rattle.cs_salvage.specs.Shards.{AreNewest, IsWhole, put_of}
use Rattle.cs_salvage.proofs.Orders.{precedes_on}

-- each part before the place is of a put before that of each from there on
abbrev pub IsCut : List Part → ℕ → Type 0
IsCut parts n = (i j : ℕ) (d : Part) → i < n → n ≤ j → j < length parts → Precedes (put_of (get_or parts i d)) (put_of (get_or parts j d))

pub first_cut : (parts : List Part) → IsCut parts 0
first_cut parts i j d less le inside = absurd (omega (arith, less))

-- where the put ends that begins at a cut there is a cut
pub next_cut : (parts : List Part) (start end : ℕ) → AreInOrder parts → IsCut parts start → IsEndOfPut parts start end → IsCut parts end
next_cut parts start end order cut put i j d less le inside = ⊎_elim
    (λ (before : i < start). cut i j d before (omega (arith, put.above, le)) inside)
    (λ (from : start ≤ i). subst (λ (p : Put). Precedes p (put_of (get_or parts j d))) (sym (put.own i d from less)) behind)
    (cases_lt i start)
  where
    -- the put that begins there comes before the one behind it
    next : Precedes (put_of (get_or parts start d)) (put_of (get_or parts end d))
    next = ⊎_elim
        (λ (p : Precedes (put_of (get_or parts start d)) (put_of (get_or parts end d))). p)
        (λ (same : put_of (get_or parts start d) ≡ put_of (get_or parts end d)). absurd (put.next d (omega (arith, le, inside)) (sym same)))
        (order start end d put.above (omega (arith, le, inside)))

    behind : Precedes (put_of (get_or parts start d)) (put_of (get_or parts j d))
    behind = ⊎_elim
        (λ (further : end < j). ⊎_elim
        (λ (p : Precedes (put_of (get_or parts end d)) (put_of (get_or parts j d))). precedes_on (put_of (get_or parts start d)) (put_of (get_or parts end d)) (put_of (get_or parts j d)) next p)
        (λ (same : put_of (get_or parts end d) ≡ put_of (get_or parts j d)). subst (λ (p : Put). Precedes (put_of (get_or parts start d)) p) same next)
        (order end j d further inside))
        (λ (here : j ≤ end). let same : end ≡ j = omega (arith, here, le) in subst (λ (n : ℕ). Precedes (put_of (get_or parts start d)) (put_of (get_or parts n d))) same next)
        (cases_lt end j)

module _ (parts : List Part) (start end : ℕ) (put : IsEndOfPut parts start end) where
  -- the parts between
  abbrev group : List Part
  group = take (end - start) (drop start parts)

  length-group : length group ≡ end - start
  length-group = length-take-le (end - start) (drop start parts) (omega (arith, length-drop start parts, put.inside))

  pub some_there : 0 < length group
  some_there = omega (arith, length-group, put.above)

  at_group : (k : ℕ) (d : Part) → k < length group → get_or group k d ≡ get_or parts (start + k) d
  at_group k d lt = get_or-take (end - start) (drop start parts) k d (omega (arith, lt, length-group)) ∙ get_or-drop start parts k d

  pub all_of : (first : Put) → ((d : Part) → first ≡ put_of (get_or parts start d)) → AreOf first group
  all_of first is k d lt = ap put_of (at_group k d lt) ∙ put.own (start + k) d (omega arith) (omega (arith, lt, length-group)) ∙ sym (is d)

  pub all_before : (first : Put) → ((d : Part) → first ≡ put_of (get_or parts start d)) → IsCut parts start → AreBefore first (take start parts)
  all_before first is cut k d lt =
      let low : k < start = omega (arith, lt, length-take start parts) in
      let there : start < length parts = omega (arith, put.above, put.inside) in
      subst (λ (p : Put). Precedes (put_of (get_or (take start parts) k d)) p) (sym (is d))
      (subst (λ (x : Part). Precedes (put_of x) (put_of (get_or parts start d))) (sym (get_or-take start parts k d low)) (cut k start d low (omega arith) there))

  -- with those before they are all up to the end
  pub joined : take start parts ++ group ≡ take end parts
  joined =
      let sum : start + (end - start) ≡ end = omega (arith, put.above) in
      let behind : group ≡ drop start (take end parts) = sym (drop-take start (end - start) parts) ∙ ap (λ n. drop start (take n parts)) sum in
      let front : take start parts ≡ take start (take end parts) = sym (take-take start end parts (omega (arith, put.above))) in
      ap (λ (xs : List Part). xs ++ group) front ∙ ap (λ (xs : List Part). take start (take end parts) ++ xs) behind ∙ take-append-drop start (take end parts)

-- ---- the loops

no_whole : (put : Put) → IsWhole [] put → ⊥
no_whole put (p ∷ ps, all) = absurd (omega (arith, (all.there 0 p (omega arith)).1))
no_whole put ([], all) = absurd (omega (arith, all.some))

pub newest_none : AreNewest [] []
newest_none = record {
  whole = λ k d lt. absurd (omega (arith, lt));
  newest = λ k d lt. absurd (omega (arith, lt));
  there = λ put is. absurd (no_whole put is);
  ordered = λ i j d less inside. absurd (omega (arith, inside));
}

-- the parts of the put that begins there are added to those before
pub next_found : {S : Type 0} (P : List Part → S → Type 0) (old new : S) (parts seen other : List Part) (start end : ℕ) → seen ≡ parts → other ≡ parts → IsEndOfPut seen start end → AreInOrder parts → IsCut parts start
    → (first : Put) (r : Part) → first ≡ put_of r → r ≡ get_or parts start r
    → (AreBefore first (take start parts) → P (take start parts) old → P (take start parts ++ take (end - start) (drop start other)) new) → P (take start parts) old
    → (end ≤ length parts) × IsCut parts end × P (take end parts) new
next_found P old new parts seen other start end is_seen is_other seen_ends order cut first r is at more was =
    let ends : IsEndOfPut parts start end = subst (λ (ps : List Part). IsEndOfPut ps start end) is_seen seen_ends in
    let at_start : (d : Part) → first ≡ put_of (get_or parts start d) = λ d. is ∙ ap put_of (get_or_read parts start r (omega (arith, ends.above, ends.inside)) at d) in
    let added : P (take start parts ++ take (end - start) (drop start other)) new = more (all_before parts start end ends first at_start cut) was in (
      ends.inside,
      next_cut parts start end order cut ends,
      subst (λ (ps : List Part). P ps new) (ap (λ (ps : List Part). take start parts ++ take (end - start) (drop start ps)) is_other ∙ joined parts start end ends) added,
    )
