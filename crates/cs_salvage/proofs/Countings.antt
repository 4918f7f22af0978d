-- Namings of shards, and identifiers that shards have.
use Rattle.std.proofs.Common.{◌≡◌, ◌≢◌, ◌∙◌, ◌⊎◌, ℕ, ◌+◌, ◌<◌, ◌≤◌, Bool, true, false, List, [], ◌∷◌, ◌++◌, All, MatchBool, length, get_or, take, refl, sym, ap, subst, inl, inr, ⊎_elim, arith, Equal, Greater, Less, is_lt, nat_cmp}
use Rattle.std.specs.Cmp.{IsTotalOrder}
use Rattle.std.specs.Cmp.Lexicographic.{slice_cmp}
use Rattle.std.specs.List.{HoldsAt}
use Rattle.std.specs.List.Sorted.{IsNonDecreasingBy, IsPartitionPoint, IsSortedBy}
use Rattle.std.specs.Ordering.{ordering_index, ordering_reverse}
use Rattle.std.proofs.lemmas.Bool.{cases_lt}
use Rattle.std.proofs.lemmas.Cmp.{nat_list_cmp_total, on_total}
use Rattle.std.proofs.lemmas.List.{take_all, take_more}
use Rattle.std.proofs.lemmas.List.Elements.{All-nil, All-push}
use Rattle.std.proofs.lemmas.List.Sorted.{searchable_from_sorted}
use Rattle.cs_frame.specs.declared.identifiers.ShardId.{ShardId}
use Rattle.cs_salvage.specs.Namings.{AreCounted, AreLacking, HasShard}
use Rattle.cs_salvage.specs.Shards.{AreOrdered}
use Rattle.cs_salvage.specs.declared.namings.Naming.{Naming}
use Rattle.cs_salvage.specs.declared.whole_shards.WholeShard.{WholeShard}
use Rattle.cs_salvage.proofs.Orders.{not_before_itself, same_id}
use Rattle.cs_salvage.proofs.Sames.{at_any}

module _ (naming : Naming) where
  counted_push : (xs : List Naming) (x : Naming) (n : ℕ) → x ≡ naming → AreCounted naming xs n → AreCounted naming (xs ++ x ∷ []) (n + 1)
  counted_push [] x n is h = inl (is, n, refl, h)
  counted_push (y ∷ xs) x n is (inl (same, rest, more, h)) = inl (same, rest + 1, ap (λ (k : ℕ). k + 1) more, counted_push xs x rest is h)
  counted_push (y ∷ xs) x n is (inr (other, h)) = inr (other, counted_push xs x n is h)

  passed_push : (xs : List Naming) (x : Naming) (n : ℕ) → x ≢ naming → AreCounted naming xs n → AreCounted naming (xs ++ x ∷ []) n
  passed_push [] x n isnt h = inr (isnt, h)
  passed_push (y ∷ xs) x n isnt (inl (same, rest, more, h)) = inl (same, rest, more, passed_push xs x rest isnt h)
  passed_push (y ∷ xs) x n isnt (inr (other, h)) = inr (other, passed_push xs x n isnt h)

  -- a loop's step, by a test of one more, and its end
  pub counted_more : (xs : List Naming) (k : ℕ) (d : Naming) (r : Bool) (n m : ℕ) → k < length xs → MatchBool r (get_or xs k d ≡ naming) (get_or xs k d ≢ naming)
      → ((r ≡ true) × (m ≡ n + 1)) ⊎ ((r ≡ false) × (m ≡ n)) → AreCounted naming (take k xs) n → AreCounted naming (take (k + 1) xs) m
  counted_more xs k d r n m lt test (inl more) h =
      let is : get_or xs k d ≡ naming = subst (λ (b : Bool). MatchBool b (get_or xs k d ≡ naming) (get_or xs k d ≢ naming)) more.0 test in
      subst (λ (zs : List Naming). AreCounted naming zs m) (sym (take_more xs k d lt))
      (subst (AreCounted naming (take k xs ++ get_or xs k d ∷ [])) (sym more.1) (counted_push (take k xs) (get_or xs k d) n is h))
  counted_more xs k d r n m lt test (inr same) h =
      let isnt : get_or xs k d ≢ naming = subst (λ (b : Bool). MatchBool b (get_or xs k d ≡ naming) (get_or xs k d ≢ naming)) same.0 test in
      subst (λ (zs : List Naming). AreCounted naming zs m) (sym (take_more xs k d lt))
      (subst (AreCounted naming (take k xs ++ get_or xs k d ∷ [])) (sym same.1) (passed_push (take k xs) (get_or xs k d) n isnt h))

  pub counted_all : (xs : List Naming) (k n : ℕ) → length xs ≤ k → AreCounted naming (take k xs) n → AreCounted naming xs n
  counted_all xs k n le h = subst (λ (zs : List Naming). AreCounted naming zs n) (take_all k xs le) h

  -- there is one count
  pub one_count : (xs : List Naming) (n m : ℕ) → AreCounted naming xs n → AreCounted naming xs m → n ≡ m
  one_count [] n m is also = is ∙ sym also
  one_count (x ∷ xs) n m (inl is) (inl also) = is.2 ∙ ap (λ (k : ℕ). k + 1) (one_count xs is.1 also.1 is.3 also.3) ∙ sym also.2
  one_count (x ∷ xs) n m (inr is) (inr also) = one_count xs n m is.1 also.1
  one_count (x ∷ xs) n m (inl is) (inr also) = absurd (also.0 is.0)
  one_count (x ∷ xs) n m (inr is) (inl also) = absurd (is.0 also.0)

-- what a binary search for an identifier finds among shards
module _ (shards : List WholeShard) (id : ShardId) where
  ids_total : IsTotalOrder (λ (a b : ShardId). slice_cmp nat_cmp a.0 b.0)
  ids_total = on_total (λ (a : ShardId). a.0) nat_list_cmp_total

  sorted : AreOrdered shards → IsSortedBy (λ (a b : WholeShard). is_lt (slice_cmp nat_cmp a.put.id.0 b.put.id.0)) shards
  sorted ordered k d low lt =
      let a : ShardId = (get_or shards k d).put.id in
      let b : ShardId = (get_or shards (k + 1) d).put.id in
      ap is_lt (ids_total.antisymm b a ∙ ap ordering_reverse (ordered k (k + 1) d (omega arith) lt))

  rises : AreOrdered shards → IsNonDecreasingBy (λ (shard : WholeShard). ordering_index (slice_cmp nat_cmp shard.put.id.0 id.0)) shards
  rises ordered = searchable_from_sorted ids_total (λ (shard : WholeShard). shard.put.id) shards id (sorted ordered)

  -- one that comes before or after isn't it
  not_less : (x : WholeShard) → slice_cmp nat_cmp x.put.id.0 id.0 ≡ Less → x.put.id ≡ id → ⊥
  not_less x is same = not_before_itself id (subst (λ (i : ShardId). slice_cmp nat_cmp i.0 id.0 ≡ Less) same is)

  not_greater : (x : WholeShard) → slice_cmp nat_cmp x.put.id.0 id.0 ≡ Greater → x.put.id ≡ id → ⊥
  not_greater x is same = not_before_itself id (ids_total.antisymm id id ∙ ap ordering_reverse (subst (λ (i : ShardId). slice_cmp nat_cmp i.0 id.0 ≡ Greater) same is))

  pub found_at : (k : ℕ) → k < length shards → HoldsAt (λ (shard : WholeShard). slice_cmp nat_cmp shard.put.id.0 id.0 ≡ Equal) shards k → HasShard shards id
  found_at k lt equal = go shards lt equal
    where
      go : (xs : List WholeShard) → k < length xs → HoldsAt (λ (shard : WholeShard). slice_cmp nat_cmp shard.put.id.0 id.0 ≡ Equal) xs k → HasShard xs id
      go [] lt equal = absurd (omega (arith, lt))
      go (x ∷ xs) lt equal =
          let there : WholeShard = get_or (x ∷ xs) k x in
          (there, (k, lt, at_any (x ∷ xs) k lt there x), same_id there.put.id id (equal x))

  pub none_at : (i : ℕ) → (IsNonDecreasingBy (λ (shard : WholeShard). ordering_index (slice_cmp nat_cmp shard.put.id.0 id.0)) shards
      → IsPartitionPoint (λ (shard : WholeShard). slice_cmp nat_cmp shard.put.id.0 id.0 ≡ Less) (λ (shard : WholeShard). slice_cmp nat_cmp shard.put.id.0 id.0 ≡ Greater) shards i)
      → AreOrdered shards → HasShard shards id → ⊥
  none_at i parted ordered (shard, (k, lt, at), same) =
      let parts = parted (rises ordered) in
      ⊎_elim
      (λ (before : k < i). not_less (get_or shards k shard) (parts.0 k shard (omega arith) before) (ap (λ (s : WholeShard). s.put.id) at ∙ same))
      (λ (behind : i ≤ k). not_greater (get_or shards k shard) (parts.1 k shard behind lt) (ap (λ (s : WholeShard). s.put.id) at ∙ same))
      (cases_lt k i)

module _ (shards : List WholeShard) where
  lacking_push : (ids : List ShardId) (id : ShardId) (n : ℕ) → (HasShard shards id → ⊥) → AreLacking shards ids n → AreLacking shards (ids ++ id ∷ []) (n + 1)
  lacking_push [] id n none h = inl (none, n, refl, h)
  lacking_push (x ∷ ids) id n none (inl (lacks, rest, more, h)) = inl (lacks, rest + 1, ap (λ (k : ℕ). k + 1) more, lacking_push ids id rest none h)
  lacking_push (x ∷ ids) id n none (inr (has, h)) = inr (has, lacking_push ids id n none h)

  having_push : (ids : List ShardId) (id : ShardId) (n : ℕ) → HasShard shards id → AreLacking shards ids n → AreLacking shards (ids ++ id ∷ []) n
  having_push [] id n is h = inr (is, h)
  having_push (x ∷ ids) id n is (inl (lacks, rest, more, h)) = inl (lacks, rest, more, having_push ids id rest is h)
  having_push (x ∷ ids) id n is (inr (has, h)) = inr (has, having_push ids id n is h)

  -- what is known of the first so many identifiers
  pub record AreTested (ids : List ShardId) (k n : ℕ) : Type 0 where
    pub few : n ≤ k
    pub all : n ≡ 0 → All (HasShard shards) (take k ids)
    pub count : AreOrdered shards → AreLacking shards (take k ids) n

  pub none_tested : (ids : List ShardId) → AreTested ids 0 0
  none_tested ids = record { few = omega arith; all = λ is. All-nil (HasShard shards); count = λ ordered. refl }

  -- and one more
  module _ (ids : List ShardId) (k : ℕ) (d : ShardId) (n : ℕ) (inside : k < length ids) (was : AreTested ids k n) where
    abbrev id : ShardId
    id = get_or ids k d

    one_lacking : (m : ℕ) → m ≡ n + 1 → (AreOrdered shards → HasShard shards id → ⊥) → AreTested ids (k + 1) m
    one_lacking m more none = record {
      few = omega (arith, was.few, more);
      all = λ is. absurd (omega (arith, is, more));
      count = λ ordered. subst (λ (xs : List ShardId). AreLacking shards xs m) (sym (take_more ids k d inside))
          (subst (AreLacking shards (take k ids ++ id ∷ [])) (sym more) (lacking_push (take k ids) id n (none ordered) (was.count ordered)));
    }

    one_there : (m : ℕ) → m ≡ n → HasShard shards id → AreTested ids (k + 1) m
    one_there m same is = record {
      few = omega (arith, was.few, same);
      all = λ zero. subst (All (HasShard shards)) (sym (take_more ids k d inside)) (All-push (HasShard shards) (take k ids) id (was.all (sym same ∙ zero)) is);
      count = λ ordered. subst (λ (xs : List ShardId). AreLacking shards xs m) (sym (take_more ids k d inside))
          (subst (AreLacking shards (take k ids ++ id ∷ [])) (sym same) (having_push (take k ids) id n is (was.count ordered)));
    }

    pub one_tested : (r : Bool) (m : ℕ) → MatchBool r (HasShard shards id) (AreOrdered shards → HasShard shards id → ⊥) → ((r ≡ true) × (m ≡ n)) ⊎ ((r ≡ false) × (m ≡ n + 1)) → AreTested ids (k + 1) m
    one_tested r m test (inl it) = one_there m it.1 (subst (λ (b : Bool). MatchBool b (HasShard shards id) (AreOrdered shards → HasShard shards id → ⊥)) it.0 test)
    one_tested r m test (inr it) = one_lacking m it.1 (subst (λ (b : Bool). MatchBool b (HasShard shards id) (AreOrdered shards → HasShard shards id → ⊥)) it.0 test)

  -- all of them
  module _ (ids : List ShardId) (k n : ℕ) (le : length ids ≤ k) (was : AreTested ids k n) where
    pub all_there : n ≡ 0 → All (HasShard shards) ids
    all_there is = subst (All (HasShard shards)) (take_all k ids le) (was.all is)

    pub all_counted : AreOrdered shards → AreLacking shards ids n
    all_counted ordered = subst (λ (xs : List ShardId). AreLacking shards xs n) (take_all k ids le) (was.count ordered)

  -- there is one count
  pub one_lack : (ids : List ShardId) (n m : ℕ) → AreLacking shards ids n → AreLacking shards ids m → n ≡ m
  one_lack [] n m is also = is ∙ sym also
  one_lack (x ∷ ids) n m (inl is) (inl also) = is.2 ∙ ap (λ (k : ℕ). k + 1) (one_lack ids is.1 also.1 is.3 also.3) ∙ sym also.2
  one_lack (x ∷ ids) n m (inr is) (inr also) = one_lack ids n m is.1 also.1
  one_lack (x ∷ ids) n m (inl is) (inr also) = absurd (is.0 also.0)
  one_lack (x ∷ ids) n m (inr is) (inl also) = absurd (also.0 is.0)
