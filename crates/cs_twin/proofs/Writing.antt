-- A write to a pair.
use Rattle.std.proofs.Common.{◌≡◌, ◌⊎◌, inl, inr, ⊎_elim, if◌then◌else◌, ◌==◌, ℕ, zero, suc, ◌<◌, ◌≤◌, Bool, true, false, not, List, [], ◌∷◌, ◌++◌, Some, slice_get, get_or, set, length, map, nat_le, refl, Result, Ok, Err, OnOk, sym, ◌∙◌, ap, subst, arith}
use Rattle.std.proofs.lemmas.Bool.Decides.{leb_tells}
use Rattle.std.proofs.lemmas.List.{get_or-map, map_push}
use Rattle.std.proofs.lemmas.Option.{get_or_from_slice_get, same_Some, slice_get-get_or, slice_get_within}
use Rattle.cs_disk.specs.Disk.{Image, State, Write, latest, page, seen, written}
use Rattle.cs_disk.proofs.Images.{applied_push, page_other}
use Rattle.cs_twin.specs.declared.notes.Notes.{Notes}
use Rattle.cs_twin.specs.declared.notes.Trust.TheVariants.{Doubted, Read}
use Rattle.cs_twin.specs.declared.pairs.Held.{Held}
use Rattle.cs_twin.specs.declared.pairs.Pair.{Pair}
use Rattle.cs_twin.specs.Fences.{AreFenced, AreWhole, IsGuarded}
use Rattle.cs_twin.specs.Noted.{AreRight}
use Rattle.cs_twin.specs.Pairs.{ArePairs, AreNoOlder, IsNoOlder, Versions, half, held_in, is_turned, shown_state, shown_write, version_at}
use Rattle.cs_twin.proofs.Fencing.{alike_whole, guarded_fenced}
use Rattle.cs_twin.proofs.Right.{in_doubt, is_read, pushed_at, same_map, undoubted}
use Rattle.cs_twin.proofs.Roles.{if_same, shown_half-whole, shown_write-half}
use Rattle.cs_twin.proofs.Shown.{held_same, newest_stays, turned_held}

-- ---- lists

-- the last of a list with one more
last_at : {A : Type 0} (xs : List A) (y : A) → slice_get (xs ++ y ∷ []) (length xs) ≡ Some y
last_at [] y = refl
last_at (z ∷ xs) y = last_at xs y

latest_pushed : (writes : List Write) (w : Write) (p : ℕ) (bytes : List ℕ) → w.0 ≡ p → latest (writes ++ w ∷ []) p bytes ≡ w.1
latest_pushed [] w p bytes goes = subst (λ q. (if w.0 == q then w.1 else bytes) ≡ w.1) goes (if_same w.0 w.1 bytes)
latest_pushed (x ∷ writes) w p bytes goes = latest_pushed writes w p (if x.0 == p then x.1 else bytes) goes

-- a map of which one value changed
set_map : {A B : Type 0} (f g : A → B) (xs : List A) (k : ℕ) (h : B) → ((j : ℕ) (x : A) → slice_get xs j ≡ Some x → (j ≡ k → ⊥) → f x ≡ g x) → ((x : A) → slice_get xs k ≡ Some x → h ≡ g x)
    → set (map f xs) k h ≡ map g xs
set_map f g [] k h others here = refl
set_map f g (x ∷ xs) zero h others here =
    ap (λ b. b ∷ map f xs) (here x refl) ∙ ap (λ l. g x ∷ l) (same_map f g xs (λ j y at. others (suc j) y at (λ e. absurd (omega (arith, e)))))
set_map f g (x ∷ xs) (suc k) h others here =
    ap (λ b. b ∷ set (map f xs) k h) (others 0 x refl (λ e. absurd (omega (arith, e)))) ∙ ap (λ l. g x ∷ l) (set_map f g xs k h (λ j y at ne. others (suc j) y at (λ e. ne (omega (arith, e)))) here)

-- a write shows as one to the number under which its page shows
pub shows_as_written : (V : Versions) (pairs : List Pair) (s : State) (p q : ℕ) (bytes : List ℕ) → shown_write V pairs (p, bytes) ≡ (q, bytes) → shown_state V pairs (written s p bytes) ≡ written (shown_state V pairs s) q bytes
shows_as_written V pairs s p q bytes same =
    let volatile : map (shown_write V pairs) (s.volatile ++ (p, bytes) ∷ []) ≡ map (shown_write V pairs) s.volatile ++ (q, bytes) ∷ [] =
    map_push (shown_write V pairs) s.volatile (p, bytes) ∙ ap (λ (w : Write). map (shown_write V pairs) s.volatile ++ w ∷ []) same in
    ap (λ (v : List Write). record { durable = (shown_state V pairs s).durable; volatile = v }) volatile

-- ---- where it goes

-- what is noted of a pair
noted_at : (V : Versions) (image : Image) (pairs : List Pair) (held : List Held) (k : ℕ) (x : Pair) (h : Held) → held ≡ map (held_in V image) pairs → slice_get pairs k ≡ Some x → h ≡ get_or held k h → h ≡ held_in V image x
noted_at V image pairs held k x h is at read =
    let lt : k < length pairs = slice_get_within pairs k x at in
    read ∙ ap (λ (l : List Held). get_or l k h) is ∙ get_or-map (held_in V image) pairs k x h lt ∙ ap (held_in V image) (get_or_from_slice_get pairs k x x at)

-- the half that isn't the newest of the durable image
pub goes_to : (V : Versions) (image : Image) (pairs : List Pair) (durable : List Held) (k p : ℕ) (x d : Pair) (h : Held) → durable ≡ map (held_in V image) pairs → slice_get pairs k ≡ Some x → h ≡ get_or durable k h
    → p ≡ half (get_or pairs k d) (not h.turned) → p ≡ half x (not (is_turned V image x))
goes_to V image pairs durable k p x d h is at read goes =
    goes ∙ ap (λ (z : Pair). half z (not h.turned)) (get_or_from_slice_get pairs k x d at) ∙ ap (λ (z : Held). half x (not z.turned)) (noted_at V image pairs durable k x h is at read)

-- the newest half has the greatest version
pub greatest : (f : Bool → ℕ) (b : Bool) → f b ≤ f (nat_le (f false) (f true))
greatest f b = ⊎_elim
    (λ (le : (nat_le (f false) (f true) ≡ true) × (f false ≤ f true)). subst (λ (t : Bool). f b ≤ f t) (sym le.0) (up b le.1))
    (λ (lt : (nat_le (f false) (f true) ≡ false) × (f true < f false)). subst (λ (t : Bool). f b ≤ f t) (sym lt.0) (down b lt.1))
    (leb_tells (f false) (f true))
  where
    up : (b : Bool) → f false ≤ f true → f b ≤ f true
    up true le = omega arith
    up false le = le

    down : (b : Bool) → f true < f false → f b ≤ f false
    down true lt = omega (arith, lt)
    down false lt = omega arith

module _ (V : Versions) (pairs : List Pair) (s : State) (p k version : ℕ) (bytes : List ℕ) (x : Pair) (are : ArePairs pairs (length s.durable)) (newer : AreNoOlder V pairs s) (whole : AreWhole V pairs s) (fenced : AreFenced V pairs s.durable) (at : slice_get pairs k ≡ Some x)
    (goes : p ≡ half x (not (is_turned V s.durable x))) (is : version ≡ V x.page bytes) (above : version_at V s.durable x (is_turned V s.durable x) < version) where
  not_itself : (t : Bool) → t ≡ not t → ⊥
  not_itself true e = cc
  not_itself false e = cc

  same_pair : (j : ℕ) (z : Pair) (twin : Bool) → slice_get pairs j ≡ Some z → p ≡ half z twin → (x ≡ z) × (not (is_turned V s.durable x) ≡ twin)
  same_pair j z twin at_j here =
      let both = are.apart k j x z (not (is_turned V s.durable x)) twin at at_j (sym goes ∙ here) in
      (same_Some x z (sym at ∙ ap (slice_get pairs) both.0 ∙ at_j), both.1)

  -- volatile writes to pairs are whole still
  whole_written : AreWhole V pairs (written s p bytes)
  whole_written j i z w twin at_j at_i goes_w = ⊎_elim
      (λ (old : slice_get s.volatile i ≡ Some w). whole j i z w twin at_j old goes_w)
      (λ (new : (p, bytes) ≡ w).
      let same = (same_pair j z twin at_j (ap (λ (v : Write). v.0) new ∙ goes_w)).0 in
      let bytes_of = ap (λ (v : Write). V x.page v.1) new in
      subst (λ (y : Pair). 0 < V y.page w.1) same (omega (arith, bytes_of, is, above)))
      (pushed_at s.volatile (p, bytes) i w at_i)

  -- and no older
  pub newer_written : AreNoOlder V pairs (written s p bytes)
  newer_written = record {
    each = λ j i z w at_j at_i. ⊎_elim (λ (old : slice_get s.volatile i ≡ Some w). newer.each j i z w at_j old) (λ (new : (p, bytes) ≡ w). subst (λ (v : Write). IsNoOlder V s.durable z v) new (one j z at_j)) (pushed_at s.volatile (p, bytes) i w at_i);
    alike = alike_whole V pairs (written s p bytes) whole_written;
  }
    where
      here : IsNoOlder V s.durable x (p, bytes)
      here twin there =
          let both = same_pair k x twin at there in (
            (λ e. not_itself (is_turned V s.durable x) (sym e ∙ sym both.1)),
            (λ some. (omega (arith, is, above), λ e. absurd (omega (arith, is, above, e)))),
            (λ none. absurd (omega (arith, is, above, none))),
          )

      one : (j : ℕ) (z : Pair) → slice_get pairs j ≡ Some z → IsNoOlder V s.durable z (p, bytes)
      one j z at_j twin there = subst (λ (y : Pair). IsNoOlder V s.durable y (p, bytes)) (same_pair j z twin at_j there).0 here twin there

  -- the half that was written is the newest
  held_here : held_in V (seen (written s p bytes)) x ≡ record { turned = not (is_turned V s.durable x); version = version }
  held_here =
      turned_held V pairs s.durable (s.volatile ++ (p, bytes) ∷ []) are newer_written k x
      (record { place = length s.volatile; write = (p, bytes); at = last_at s.volatile (p, bytes); goes = goes; is = λ b. latest_pushed s.volatile (p, bytes) (half x (not (is_turned V s.durable x))) b goes }) at
      (subst (λ n. version_at V s.durable x (is_turned V s.durable x) < n) is above)
      ∙ ap (λ n. record { turned = not (is_turned V s.durable x); version = n }) (sym is)

  -- other pairs are as they were
  held_else : (j : ℕ) (z : Pair) → slice_get pairs j ≡ Some z → (j ≡ k → ⊥) → held_in V (seen s) z ≡ held_in V (seen (written s p bytes)) z
  held_else j z at_j other =
      held_same V (seen s) (seen (written s p bytes)) z (λ twin.
      sym (page_other (seen s) p (half z twin) bytes (λ e. other (sym (are.apart k j x z (not (is_turned V s.durable x)) twin at at_j (sym goes ∙ sym e)).0)))
      ∙ ap (λ (image : Image). page image (half z twin)) (sym (applied_push s.durable s.volatile (p, bytes))))

  -- so the notes are right that say so
  pub written_right : (notes new : Notes) (now : State) → now ≡ written s p bytes → AreRight V pairs notes s → notes.trust ≡ Read → new.durable.items ≡ notes.durable.items
      → new.newest.items ≡ set notes.newest.items k (record { turned = not (is_turned V s.durable x); version = version }) → new.trust ≡ Read → AreRight V pairs new now
  written_right notes new now same right read durable newest trust = subst (λ (z : State). AreRight V pairs new z) (sym same) (record {
    newer = newer_written;
    durable = λ _. durable ∙ right.durable (is_read notes.trust read);
    newest = λ _.
        newest ∙ ap (λ (l : List Held). set l k (record { turned = not (is_turned V s.durable x); version = version })) (right.newest (is_read notes.trust read))
        ∙ set_map (held_in V (seen s)) (held_in V (seen (written s p bytes))) pairs k (record { turned = not (is_turned V s.durable x); version = version }) held_else
        (λ z at_z. sym held_here ∙ ap (λ (y : Pair). held_in V (seen (written s p bytes)) y) (same_Some x z (sym at ∙ at_z)));
    unwritten = λ unread. cc;
    unfenced = λ unfenced. cc;
    damaged = λ unfenced. cc;
    fenced = λ _. fenced;
    whole = λ _. whole_written;
    guarded = guarded_fenced V pairs (written s p bytes) fenced;
  })

  -- and where it isn't known whether the write is there, what isn't said of the notes stays
  pub doubted_right : (notes new : Notes) (now : State) → (now ≡ s) ⊎ (now ≡ written s p bytes) → new.trust ≡ Doubted → AreRight V pairs new now
  doubted_right notes new now either trust = in_doubt V pairs new now trust
      (⊎_elim (λ (same : now ≡ s). subst (λ (z : State). AreNoOlder V pairs z) (sym same) newer) (λ (same : now ≡ written s p bytes). subst (λ (z : State). AreNoOlder V pairs z) (sym same) newer_written) either)
      (⊎_elim (λ (same : now ≡ s). subst (λ (z : State). IsGuarded V pairs z) (sym same) (guarded_fenced V pairs s fenced))
      (λ (same : now ≡ written s p bytes). subst (λ (z : State). IsGuarded V pairs z) (sym same) (guarded_fenced V pairs (written s p bytes) fenced)) either)

-- what is noted as the newest is no older than what is durable
pub above_durable : (V : Versions) (pairs : List Pair) (notes : Notes) (s : State) (k version : ℕ) (x : Pair) (h : Held) → ArePairs pairs (length s.durable) → AreRight V pairs notes s → notes.trust ≡ Read
    → slice_get pairs k ≡ Some x → h ≡ get_or notes.newest.items k h → h.version < version → version_at V s.durable x (is_turned V s.durable x) < version
above_durable V pairs notes s k version x h are right read at is above =
    let noted = ap (λ (z : Held). z.version) (noted_at V (seen s) pairs notes.newest.items k x h (right.newest (is_read notes.trust read)) at is) in
    let most = greatest (version_at V (seen s) x) (is_turned V s.durable x) in
    let stays = ap (V x.page) (newest_stays V pairs s.durable s.volatile are right.newer k x at) in
    omega (arith, noted, most, stays, above)

-- ---- a write of what is noted

module _ (V : Versions) (pairs : List Pair) (notes : Notes) (s : State) (n p k version : ℕ) (bytes : List ℕ) (d : Pair) (durable newest : Held) (are : ArePairs pairs n) (sized : length s.durable ≡ n)
    (right : AreRight V pairs notes s) (read : notes.trust ≡ Read) (inside : k < length pairs) (durable_at : durable ≡ get_or notes.durable.items k durable) (newest_at : newest ≡ get_or notes.newest.items k newest)
    (above : newest.version < version) (is : version ≡ V (get_or pairs k d).page bytes) (goes : p ≡ half (get_or pairs k d) (not durable.turned)) where
  here : slice_get pairs k ≡ Some (get_or pairs k d)
  here = slice_get-get_or pairs k d inside

  sized_pairs : ArePairs pairs (length s.durable)
  sized_pairs = subst (λ m. ArePairs pairs m) (sym sized) are

  goes_there : p ≡ half (get_or pairs k d) (not (is_turned V s.durable (get_or pairs k d)))
  goes_there = goes_to V s.durable pairs notes.durable.items k p (get_or pairs k d) d durable (right.durable (is_read notes.trust read)) here durable_at goes

  turned_there : not (is_turned V s.durable (get_or pairs k d)) ≡ not durable.turned
  turned_there = ap (λ (h : Held). not h.turned) (sym (noted_at V s.durable pairs notes.durable.items k (get_or pairs k d) durable (right.durable (is_read notes.trust read)) here durable_at))

  above_there : version_at V s.durable (get_or pairs k d) (is_turned V s.durable (get_or pairs k d)) < version
  above_there = above_durable V pairs notes s k version (get_or pairs k d) newest sized_pairs right read here newest_at above

  -- that succeeds
  pub written_at : (new : Notes) (now : State) → now ≡ written s p bytes → new.durable.items ≡ notes.durable.items
      → new.newest.items ≡ set notes.newest.items k (record { turned = not durable.turned; version = version }) → new.trust ≡ Read → AreRight V pairs new now
  written_at new now same durable_new newest_new trust =
      written_right V pairs s p k version bytes (get_or pairs k d) sized_pairs right.newer (right.whole (undoubted notes.trust read)) (right.fenced read) here goes_there is above_there notes new now same right read durable_new
      (newest_new ∙ ap (λ (t : Bool). set notes.newest.items k (record { turned = t; version = version })) (sym turned_there)) trust

  -- that fails
  pub doubted_at : (new : Notes) (now : State) → (now ≡ s) ⊎ (now ≡ written s p bytes) → new.trust ≡ Doubted → AreRight V pairs new now
  doubted_at new now either trust = doubted_right V pairs s p k version bytes (get_or pairs k d) sized_pairs right.newer (right.whole (undoubted notes.trust read)) (right.fenced read) here goes_there is above_there notes new now either trust

-- what is newer is whole
pub whole_at : (V : Versions) (pairs : List Pair) (k version newest : ℕ) (bytes : List ℕ) (d : Pair) → newest < version → version ≡ V (get_or pairs k d).page bytes → (x : Pair) → slice_get pairs k ≡ Some x → 0 < V x.page bytes
whole_at V pairs k version newest bytes d above is x at =
    let same = ap (λ (z : Pair). V z.page bytes) (get_or_from_slice_get pairs k x d at) in
    omega (arith, above, is, same)

-- where it went, and that it is whole
pub went_to : (V : Versions) (pairs : List Pair) (notes : Notes) (s now : State) (k p version newest : ℕ) (bytes : List ℕ) (d : Pair) (durable : Held) → AreRight V pairs notes s → notes.trust ≡ Read → durable ≡ get_or notes.durable.items k durable
    → newest < version → version ≡ V (get_or pairs k d).page bytes → p ≡ half (get_or pairs k d) (not durable.turned) → (now ≡ s) ⊎ (now ≡ written s p bytes) → (x : Pair) → slice_get pairs k ≡ Some x
    → (now ≡ s) ⊎ ((0 < V x.page bytes) × (now ≡ written s (half x (not (is_turned V s.durable x))) bytes))
went_to V pairs notes s now k p version newest bytes d durable right read durable_at above is goes (inl same) x at = inl same
went_to V pairs notes s now k p version newest bytes d durable right read durable_at above is goes (inr new) x at = inr (
  whole_at V pairs k version newest bytes d above is x at,
  new ∙ ap (λ q. written s q bytes) (goes_to V s.durable pairs notes.durable.items k p x d durable (right.durable (is_read notes.trust read)) at durable_at goes),
)

-- ---- as it shows

-- a write of a whole page to a half shows as one to the pair
pub shows_written : (V : Versions) (pairs : List Pair) (n : ℕ) (s : State) (k : ℕ) (x : Pair) (twin : Bool) (bytes : List ℕ) → ArePairs pairs n → slice_get pairs k ≡ Some x → 0 < V x.page bytes
    → shown_state V pairs (written s (half x twin) bytes) ≡ written (shown_state V pairs s) x.page bytes
shows_written V pairs n s k x twin bytes are at some =
    shows_as_written V pairs s (half x twin) x.page bytes (shown_write-half V pairs n are k x twin (half x twin, bytes) at refl ∙ shown_half-whole V x bytes some)

pub shows_now : (V : Versions) (pairs : List Pair) (n : ℕ) (s mid now : State) (k : ℕ) (x : Pair) (twin : Bool) (bytes : List ℕ) → ArePairs pairs n → slice_get pairs k ≡ Some x → mid ≡ s → 0 < V x.page bytes
    → now ≡ written mid (half x twin) bytes → shown_state V pairs now ≡ written (shown_state V pairs s) x.page bytes
shows_now V pairs n s mid now k x twin bytes are at same some is =
    ap (shown_state V pairs) (is ∙ ap (λ (z : State). written z (half x twin) bytes) same) ∙ shows_written V pairs n s k x twin bytes are at some

pub shows_ok : {T E : Type 0} (result : Result T E) (V : Versions) (pairs : List Pair) (n : ℕ) (s mid now : State) (k : ℕ) (x : Pair) (twin : Bool) (bytes : List ℕ) → ArePairs pairs n → slice_get pairs k ≡ Some x → mid ≡ s
    → OnOk result (0 < V x.page bytes) → OnOk result (now ≡ written mid (half x twin) bytes) → OnOk result (shown_state V pairs now ≡ written (shown_state V pairs s) x.page bytes)
shows_ok (Ok t) V pairs n s mid now k x twin bytes are at same some is = shows_now V pairs n s mid now k x twin bytes are at same some is
shows_ok (Err e) V pairs n s mid now k x twin bytes are at same some is = tt

pub shows_either : (V : Versions) (pairs : List Pair) (n : ℕ) (s mid now : State) (k : ℕ) (x : Pair) (twin : Bool) (bytes : List ℕ) → ArePairs pairs n → slice_get pairs k ≡ Some x → mid ≡ s
    → (now ≡ mid) ⊎ ((0 < V x.page bytes) × (now ≡ written mid (half x twin) bytes)) → (shown_state V pairs now ≡ shown_state V pairs s) ⊎ (shown_state V pairs now ≡ written (shown_state V pairs s) x.page bytes)
shows_either V pairs n s mid now k x twin bytes are at same (inl still) = inl (ap (shown_state V pairs) (still ∙ same))
shows_either V pairs n s mid now k x twin bytes are at same (inr is) = inr (shows_now V pairs n s mid now k x twin bytes are at same is.0 is.1)
