-- The newest puts that aren't whole, of the parts of one put more.
use Rattle.std.proofs.Common.{◌≡◌, ◌∙◌, ◌⊎◌, ◌↔◌, ℕ, ◌-◌, ◌<◌, ◌≤◌, Bool, true, false, MatchBool, MatchOption, Option, Some, None, List, [], ◌∷◌, ◌++◌, length, get_or, take, refl, sym, ap, subst, ⊎_elim, arith}
use Rattle.std.specs.List.{Contains}
use Rattle.std.specs.List.Sorted.{IsPermutation}
use Rattle.std.specs.Option.{is_some}
use Rattle.std.proofs.lemmas.Bool.{cases_lt}
use Rattle.std.proofs.lemmas.List.{get_or-take, length-take}
use Rattle.std.proofs.lemmas.List.Elements.{All-contains, All-push, Contains-append_cases, Contains-append_left, Contains-append_right, Contains-get_or, Contains-push}
use Rattle.std.proofs.lemmas.List.Quantifiers.{all_pairs_push}
use Rattle.std.proofs.lemmas.List.Sorted.{Contains-permutation, IsPermutation-sym}
use Rattle.cs_frame.specs.declared.identifiers.ShardId.{ShardId}
use Rattle.cs_salvage.specs.declared.whole_shards.Missing.{Missing}
use Rattle.cs_salvage.specs.declared.parts.Part.{Part}
use Rattle.cs_salvage.specs.declared.parts.Put.{Put}
use Rattle.cs_salvage.specs.Missing.{AreMissing, HasPart, IsMissing, IsNewestPut, LastIsOther}
use Rattle.cs_salvage.specs.Puts.{AreBefore, AreInOrder, AreOf, Precedes}
use Rattle.cs_salvage.specs.Shards.{ComesBefore, IsAmbiguous, IsWhole, put_of}
use Rattle.cs_salvage.proofs.Groups.{AreSame, ambiguous_in, before_it, of_it, permuted, same_before, same_here, turned, which, whole_in}
use Rattle.cs_salvage.proofs.Orders.{comes_on, not_before_itself, precedes_by}
use Rattle.cs_salvage.proofs.Sames.{no_part}

-- ---- two lists with the same parts of a put

-- what is told of it is the same
missing_in : (xs ys : List Part) (it : Missing) → AreSame xs ys it.put → IsNewestPut ys it.put → IsMissing xs it → IsMissing ys it
missing_in xs ys it same newest is = record {
  newest = newest;
  not_whole = λ whole. is.not_whole (whole_in ys xs it.put (turned xs ys it.put same) whole);
  ambiguous = (
    λ told. ambiguous_in xs ys it.put same (is.ambiguous.0 told),
    λ two. is.ambiguous.1 (ambiguous_in ys xs it.put (turned xs ys it.put same) two),
  );
}

newest_of_moved : (xs ys : List Part) (put : Put) → IsPermutation xs ys → IsNewestPut ys put → IsNewestPut xs put
newest_of_moved xs ys put moves is = record {
  part = is.part;
  there = Contains-permutation ys xs is.part (IsPermutation-sym xs ys moves) is.there;
  own = is.own;
  newest = λ other there same. is.newest other (Contains-permutation xs ys other moves there) same;
}

pub missing_of_permuted : (xs ys : List Part) (missing : List Missing) → IsPermutation xs ys → AreMissing ys missing → AreMissing xs missing
missing_of_permuted xs ys missing moves are = record {
  sound = λ k d lt.
      let it : Missing = get_or missing k d in
      let is : IsMissing ys it = are.sound k d lt in
      missing_in ys xs it (turned xs ys it.put (permuted xs ys moves it.put)) (newest_of_moved xs ys it.put moves is.newest) is;
  complete = λ put newest not_whole. are.complete put (newest_of_moved ys xs put (IsPermutation-sym xs ys moves) newest)
      (λ whole. not_whole (whole_in ys xs put (turned xs ys put (permuted xs ys moves put)) whole));
  ordered = are.ordered;
}

-- ---- parts in order

pub front_in_order : (parts : List Part) (n : ℕ) → AreInOrder parts → AreInOrder (take n parts)
front_in_order parts n order i j d less inside =
    let long = length-take n parts in
    subst (λ (p : Part). Precedes (put_of p) (put_of (get_or (take n parts) j d)) ⊎ (put_of p ≡ put_of (get_or (take n parts) j d))) (sym (get_or-take n parts i d (omega (arith, less, inside, long))))
    (subst (λ (p : Part). Precedes (put_of (get_or parts i d)) (put_of p) ⊎ (put_of (get_or parts i d) ≡ put_of p)) (sym (get_or-take n parts j d (omega (arith, inside, long)))) (order i j d less (omega (arith, inside, long))))

-- where none was found there is none
pub none_found : {V : Type 0} (P : Type 0) (Q : V → Type 0) (found : Option V) → false ≡ is_some found → MatchOption found P Q → P
none_found P Q None none is = is
none_found P Q (Some v) none is = absurd (cc none)

-- all parts of one put
module _ (put : Put) (parts : List Part) (some : 0 < length parts) (own : AreOf put parts) where
  newest_here : IsNewestPut parts put
  newest_here = record {
    part = get_or parts 0 no_part;
    there = Contains-get_or parts 0 no_part some;
    own = own 0 no_part some;
    newest = λ other there same. let is : put_of other ≡ put = All-contains (λ (part : Part). put_of part ≡ put) parts other own there in omega (arith, ap (λ (p : Put). p.command) is);
  }

  -- which isn't whole
  pub missing_here : (r : Bool) → (IsWhole parts put → ⊥) → MatchBool r (IsAmbiguous parts put) (IsAmbiguous parts put → ⊥) → IsMissing parts (record { put = put; ambiguous = r })
  missing_here r not_whole is = record {
    newest = newest_here;
    not_whole = not_whole;
    ambiguous = told r is;
  }
    where
      told : (b : Bool) → MatchBool b (IsAmbiguous parts put) (IsAmbiguous parts put → ⊥) → (b ≡ true) ↔ IsAmbiguous parts put
      told true two = (λ same. two, λ also. refl)
      told false clear = (λ same. absurd (cc same), λ two. absurd (clear two))

-- ---- a group of parts of one put behind those before it

module _ (before group : List Part) (put : Put) (own : AreOf put group) (earlier : AreBefore put before) where
  abbrev all : List Part
  all = before ++ group

  -- the part of a put that is the newest before it is before it
  put_before : (q : Put) → IsNewestPut before q → Precedes q put
  put_before q is = subst (λ (r : Put). Precedes r put) is.own (before_it before group put own earlier is.part is.there)

  -- an earlier put of the same identifier is newer
  newer : (q : Put) → Precedes q put → q.id ≡ put.id → put.command < q.command
  newer q is same = ⊎_elim
      (λ (c : ComesBefore q.id put.id). absurd (not_before_itself put.id (subst (λ (id : ShardId). ComesBefore id put.id) same c)))
      (λ (c : (q.id ≡ put.id) × (put.command < q.command)). c.1)
      (precedes_by q put is)

  newest_still : (q : Put) → IsNewestPut before q → IsNewestPut all q
  newest_still q is = record {
    part = is.part;
    there = Contains-append_left before group is.part is.there;
    own = is.own;
    newest = λ other there same. ⊎_elim
        (λ (h : Contains before other). is.newest other h same)
        (λ (h : Contains group other).
        let of : put_of other ≡ put = of_it before group put own earlier other h in
        let lower : put.command < q.command = newer q (put_before q is) (sym same ∙ ap (λ (p : Put). p.id) of) in
        omega (arith, lower, ap (λ (p : Put). p.command) of))
        (Contains-append_cases before group other there);
  }

  newest_back : (q : Put) → Precedes q put → IsNewestPut all q → IsNewestPut before q
  newest_back q earlier_put is = record {
    part = is.part;
    there = (same_before before group put own earlier q earlier_put).there is.part is.own is.there;
    own = is.own;
    newest = λ other there same. is.newest other (Contains-append_left before group other there) same;
  }

  module _ (missing : List Missing) (are : AreMissing before missing) where
    it_before : (k : ℕ) (d : Missing) → k < length missing → Precedes (get_or missing k d).put put
    it_before k d lt = put_before (get_or missing k d).put (are.sound k d lt).newest

    still : (k : ℕ) (d : Missing) → k < length missing → IsMissing all (get_or missing k d)
    still k d lt =
        let it : Missing = get_or missing k d in
        let is : IsMissing before it = are.sound k d lt in
        missing_in before all it (turned all before it.put (same_before before group put own earlier it.put (it_before k d lt))) (newest_still it.put is.newest) is

    -- the earlier puts are told
    earlier_told : (q : Put) → Precedes q put → IsNewestPut all q → (IsWhole all q → ⊥) → (it : Missing) × Contains missing it × (it.put ≡ q)
    earlier_told q is newest not_whole = are.complete q (newest_back q is newest)
        (λ whole. not_whole (whole_in before all q (turned all before q (same_before before group put own earlier q is)) whole))

    -- the group adds none
    kept : (IsNewestPut all put → (IsWhole all put → ⊥) → ⊥) → AreMissing all missing
    kept none = record {
      sound = still;
      complete = λ q newest not_whole. ⊎_elim
          (λ (h : Precedes q put). earlier_told q h newest not_whole)
          (λ (h : q ≡ put). absurd (none (subst (IsNewestPut all) h newest) (λ whole. not_whole (subst (IsWhole all) (sym h) whole))))
          (which before group put own earlier q newest.part newest.there newest.own);
      ordered = are.ordered;
    }

    -- there is a newer put of the same identifier
    pub kept_behind : HasPart put.id before → AreMissing all missing
    kept_behind had = kept (λ newest not_whole.
        let earlier_put : Precedes (put_of had.0) put = before_it before group put own earlier had.0 had.1 in
        let above = newer (put_of had.0) earlier_put had.2 in
        let below = newest.newest had.0 (Contains-append_left before group had.0 had.1) had.2 in
        absurd (omega (arith, above, below)))

    -- the put is whole
    pub kept_whole : IsWhole group put → AreMissing all missing
    kept_whole whole = kept (λ newest not_whole. not_whole (whole_in group all put (turned all group put (same_here before group put own earlier)) whole))

    module _ (order : AreInOrder before) (last : LastIsOther put.id before) where
      -- where the last part is of another identifier none is of this one
      none_has : (p : Part) → Contains before p → p.head.id ≡ put.id → ⊥
      none_has p there same = ⊎_elim
          (λ (less : there.0 < length before - 1).
          let place : get_or before there.0 p ≡ p = there.2 in
          ⊎_elim
          (λ (h : Precedes (put_of (get_or before there.0 p)) (put_of end)). ⊎_elim
          (λ (c : ComesBefore (get_or before there.0 p).head.id end.head.id).
          not_before_itself put.id (comes_on put.id end.head.id put.id (subst (λ (id : ShardId). ComesBefore id end.head.id) (ap (λ (q : Part). q.head.id) place ∙ same) c) end_before))
          (λ (c : ((get_or before there.0 p).head.id ≡ end.head.id) × (end.head.command < (get_or before there.0 p).head.command)).
          last p some (sym c.0 ∙ ap (λ (q : Part). q.head.id) place ∙ same))
          (precedes_by (put_of (get_or before there.0 p)) (put_of end) h))
          (λ (h : put_of (get_or before there.0 p) ≡ put_of end). last p some (sym (ap (λ (q : Put). q.id) h) ∙ ap (λ (q : Part). q.head.id) place ∙ same))
          (order there.0 (length before - 1) p less (omega (arith, some))))
          (λ (le : length before - 1 ≤ there.0).
          let here : there.0 ≡ length before - 1 = omega (arith, le, there.1) in
          last p some (ap (λ (n : ℕ). (get_or before n p).head.id) (sym here) ∙ ap (λ (q : Part). q.head.id) there.2 ∙ same))
          (cases_lt there.0 (length before - 1))
        where
          some : 0 < length before
          some = omega (arith, there.1)

          end : Part
          end = get_or before (length before - 1) p

          end_before : ComesBefore end.head.id put.id
          end_before = ⊎_elim
              (λ (c : ComesBefore end.head.id put.id). c)
              (λ (c : (end.head.id ≡ put.id) × (put.command < end.head.command)). absurd (last p some c.0))
              (precedes_by (put_of end) put (before_it before group put own earlier end (Contains-get_or before (length before - 1) p (omega (arith, some)))))

      newest_new : IsNewestPut group put → IsNewestPut all put
      newest_new is = record {
        part = is.part;
        there = Contains-append_right before group is.part is.there;
        own = is.own;
        newest = λ other there same. ⊎_elim
            (λ (h : Contains before other). absurd (none_has other h same))
            (λ (h : Contains group other). is.newest other h same)
            (Contains-append_cases before group other there);
      }

      before_new : (k : ℕ) (d : Missing) → k < length missing → ComesBefore (get_or missing k d).put.id put.id
      before_new k d lt =
          let q : Put = (get_or missing k d).put in
          let is : IsNewestPut before q = (are.sound k d lt).newest in
          ⊎_elim
          (λ (c : ComesBefore q.id put.id). c)
          (λ (c : (q.id ≡ put.id) × (put.command < q.command)). absurd (none_has is.part is.there (ap (λ (p : Put). p.id) is.own ∙ c.0)))
          (precedes_by q put (it_before k d lt))

      -- the group's put is told
      pub added : (it : Missing) → it.put ≡ put → IsMissing group it → AreMissing all (missing ++ it ∷ [])
      added it is here =
          let moved : AreSame group all it.put = subst (λ (p : Put). AreSame group all p) (sym is) (turned all group put (same_here before group put own earlier)) in
          let newest : IsNewestPut all it.put = subst (IsNewestPut all) (sym is) (newest_new (subst (IsNewestPut group) is here.newest)) in
          record {
            sound = All-push (IsMissing all) missing it still (missing_in group all it moved newest here);
            complete = λ q newest_all not_whole. ⊎_elim
                (λ (h : Precedes q put). let old = earlier_told q h newest_all not_whole in (old.0, Contains-append_left missing (it ∷ []) old.0 old.1, old.2))
                (λ (h : q ≡ put). (it, Contains-push missing it, is ∙ sym h))
                (which before group put own earlier q newest_all.part newest_all.there newest_all.own);
            ordered = all_pairs_push (λ (a b : Missing). ComesBefore a.put.id b.put.id) missing it are.ordered
                (λ k d lt. subst (λ (p : Put). ComesBefore (get_or missing k d).put.id p.id) (sym is) (before_new k d lt));
          }
