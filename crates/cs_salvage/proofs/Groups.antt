-- The parts of one put behind those of the puts before it.
use Rattle.std.proofs.Common.{◌≡◌, ◌≢◌, ◌∙◌, ◌⊎◌, ℕ, ◌-◌, ◌<◌, ◌≤◌, List, [], ◌∷◌, ◌++◌, All, length, get_or, sym, ap, subst, inl, inr, ⊎_elim, arith}
use Rattle.std.specs.List.{Contains}
use Rattle.std.specs.List.Sorted.{IsPermutation}
use Rattle.std.proofs.lemmas.Bool.{cases_lt}
use Rattle.std.proofs.lemmas.List.Elements.{All-contains, All-push, Contains-append_cases, Contains-append_left, Contains-append_right, Contains-push}
use Rattle.std.proofs.lemmas.List.Quantifiers.{all_pairs_push}
use Rattle.std.proofs.lemmas.List.Sorted.{Contains-permutation, IsPermutation-sym}
use Rattle.cs_frame.specs.declared.identifiers.ShardId.{ShardId}
use Rattle.cs_salvage.specs.declared.parts.Part.{Part}
use Rattle.cs_salvage.specs.declared.parts.Put.{Put}
use Rattle.cs_salvage.specs.declared.whole_shards.WholeShard.{WholeShard}
use Rattle.cs_salvage.specs.Puts.{AreBefore, AreOf, Precedes}
use Rattle.cs_salvage.specs.Shards.{AreAllOf, AreAmbiguous, AreNewest, ComesBefore, IsAmbiguous, IsListedBefore, IsWhole, put_of}
use Rattle.cs_salvage.proofs.Orders.{comes_on, not_before_itself, not_itself, precedes_by}

-- ---- two lists with the same parts of a put

pub record AreSame (xs ys : List Part) (put : Put) : Type 0 where
  pub there : (p : Part) → put_of p ≡ put → Contains xs p → Contains ys p
  pub back : (p : Part) → put_of p ≡ put → Contains ys p → Contains xs p

pub turned : (xs ys : List Part) (put : Put) → AreSame xs ys put → AreSame ys xs put
turned xs ys put same = record { there = same.back; back = same.there }

pub ambiguous_in : (xs ys : List Part) (put : Put) → AreSame xs ys put → IsAmbiguous xs put → IsAmbiguous ys put
ambiguous_in xs ys put same is = record {
  one = is.one;
  other = is.other;
  one_there = same.there is.one is.one_of is.one_there;
  other_there = same.there is.other is.other_of is.other_there;
  one_of = is.one_of;
  other_of = is.other_of;
  conflict = is.conflict;
}

all_in : (xs ys : List Part) (put : Put) (pieces : List Part) → AreSame xs ys put → AreAllOf xs put pieces → AreAllOf ys put pieces
all_in xs ys put pieces same all = record {
  some = all.some;
  there = λ k d lt. same.there (get_or pieces k d) (all.own k d lt) (all.there k d lt);
  own = all.own;
  numbered = all.numbered;
  counted = all.counted;
  clear = λ is. all.clear (ambiguous_in ys xs put (turned xs ys put same) is);
}

pub whole_in : (xs ys : List Part) (put : Put) → AreSame xs ys put → IsWhole xs put → IsWhole ys put
whole_in xs ys put same is = (is.0, all_in xs ys put is.0 same is.1)

-- a permutation has the same parts of each
pub permuted : (xs ys : List Part) → IsPermutation xs ys → (put : Put) → AreSame xs ys put
permuted xs ys moves put = record {
  there = λ p is there. Contains-permutation xs ys p moves there;
  back = λ p is there. Contains-permutation ys xs p (IsPermutation-sym xs ys moves) there;
}

pub newest_of_permuted : (xs ys : List Part) (shards : List WholeShard) → IsPermutation xs ys → AreNewest ys shards → AreNewest xs shards
newest_of_permuted xs ys shards moves are = record {
  whole = λ k d lt. let shard : WholeShard = get_or shards k d in all_in ys xs shard.put shard.parts.items (turned xs ys shard.put (permuted xs ys moves shard.put)) (are.whole k d lt);
  newest = λ k d lt put same whole. are.newest k d lt put same (whole_in xs ys put (permuted xs ys moves put) whole);
  there = λ put whole. are.there put (whole_in xs ys put (permuted xs ys moves put) whole);
  ordered = are.ordered;
}

pub ambiguous_of_permuted : (xs ys : List Part) (puts : List Put) → IsPermutation xs ys → AreAmbiguous ys puts → AreAmbiguous xs puts
ambiguous_of_permuted xs ys puts moves are = record {
  sound = λ k d lt. let put : Put = get_or puts k d in ambiguous_in ys xs put (turned xs ys put (permuted xs ys moves put)) (are.sound k d lt);
  complete = λ put is. are.complete put (ambiguous_in xs ys put (permuted xs ys moves put) is);
  once = are.once;
  ordered = are.ordered;
}

-- the first part of what is whole
first_part : (xs : List Part) (put : Put) (pieces : List Part) → AreAllOf xs put pieces → (p : Part) × Contains xs p × (put_of p ≡ put)
first_part xs put [] all = absurd (omega (arith, all.some))
first_part xs put (p ∷ ps) all = (p, all.there 0 p (omega arith), all.own 0 p (omega arith))

-- ---- a group of parts of one put behind those before it

module _ (before group : List Part) (put : Put) (own : AreOf put group) (earlier : AreBefore put before) where
  -- a part before it is of a put before it
  pub before_it : (p : Part) → Contains before p → Precedes (put_of p) put
  before_it p there = All-contains (λ (part : Part). Precedes (put_of part) put) before p earlier there

  pub of_it : (p : Part) → Contains group p → put_of p ≡ put
  of_it p there = All-contains (λ (part : Part). put_of part ≡ put) group p own there

  pub not_both : (q : Put) → Precedes q put → q ≡ put → ⊥
  not_both q is same = not_itself put (subst (λ (r : Put). Precedes r put) same is)

  -- the parts of the put are the group's, those of an earlier one are those before
  pub same_here : AreSame (before ++ group) group put
  same_here = record {
    there = λ p is there. ⊎_elim
        (λ (h : Contains before p). absurd (not_both (put_of p) (before_it p h) is))
        (λ (h : Contains group p). h)
        (Contains-append_cases before group p there);
    back = λ p is there. Contains-append_right before group p there;
  }

  pub same_before : (q : Put) → Precedes q put → AreSame (before ++ group) before q
  same_before q is = record {
    there = λ p of there. ⊎_elim
        (λ (h : Contains before p). h)
        (λ (h : Contains group p). absurd (not_both q is (sym of ∙ of_it p h)))
        (Contains-append_cases before group p there);
    back = λ p of there. Contains-append_left before group p there;
  }

  -- a part of a put that is there says which
  pub which : (q : Put) (p : Part) → Contains (before ++ group) p → put_of p ≡ q → Precedes q put ⊎ (q ≡ put)
  which q p there of = ⊎_elim
      (λ (h : Contains before p). inl (subst (λ (r : Put). Precedes r put) of (before_it p h)))
      (λ (h : Contains group p). inr (sym of ∙ of_it p h))
      (Contains-append_cases before group p there)

  which_whole : (q : Put) → IsWhole (before ++ group) q → (Precedes q put × IsWhole before q) ⊎ ((q ≡ put) × IsWhole group put)
  which_whole q is =
      let first = first_part (before ++ group) q is.0 is.1 in
      ⊎_elim
      (λ (h : Precedes q put). inl (h, whole_in (before ++ group) before q (same_before q h) is))
      (λ (h : q ≡ put). inr (h, whole_in (before ++ group) group put same_here (subst (λ (r : Put). IsWhole (before ++ group) r) h is)))
      (which q first.0 first.1 first.2)

  which_ambiguous : (q : Put) → IsAmbiguous (before ++ group) q → (Precedes q put × IsAmbiguous before q) ⊎ ((q ≡ put) × IsAmbiguous group put)
  which_ambiguous q is = ⊎_elim
      (λ (h : Precedes q put). inl (h, ambiguous_in (before ++ group) before q (same_before q h) is))
      (λ (h : q ≡ put). inr (h, ambiguous_in (before ++ group) group put same_here (subst (λ (r : Put). IsAmbiguous (before ++ group) r) h is)))
      (which q is.one is.one_there is.one_of)

  -- what is whole before it is of an earlier put
  whole_before : (q : Put) (pieces : List Part) → AreAllOf before q pieces → Precedes q put
  whole_before q pieces all = let first = first_part before q pieces all in subst (λ (r : Put). Precedes r put) first.2 (before_it first.0 first.1)

  module _ (shards : List WholeShard) (are : AreNewest before shards) where
    shard_before : (k : ℕ) (d : WholeShard) → k < length shards → Precedes (get_or shards k d).put put
    shard_before k d lt = whole_before (get_or shards k d).put (get_or shards k d).parts.items (are.whole k d lt)

    still_whole : All (λ (shard : WholeShard). AreAllOf (before ++ group) shard.put shard.parts.items) shards
    still_whole k d lt =
        let shard : WholeShard = get_or shards k d in
        all_in before (before ++ group) shard.put shard.parts.items (turned (before ++ group) before shard.put (same_before shard.put (shard_before k d lt))) (are.whole k d lt)

    still_newest : All (λ (shard : WholeShard). (q : Put) → q.id ≡ shard.put.id → IsWhole (before ++ group) q → q.command ≤ shard.put.command) shards
    still_newest k d lt q same is =
        let shard : WholeShard = get_or shards k d in
        ⊎_elim
        (λ (h : Precedes q put × IsWhole before q). are.newest k d lt q same h.1)
        (λ (h : (q ≡ put) × IsWhole group put). ⊎_elim
        (λ (c : ComesBefore shard.put.id put.id).
        absurd (not_before_itself put.id (subst (λ (id : ShardId). ComesBefore id put.id) (sym same ∙ ap (λ (p : Put). p.id) h.0) c)))
        (λ (c : (shard.put.id ≡ put.id) × (put.command < shard.put.command)). omega (arith, c.1, ap (λ (p : Put). p.command) h.0))
        (precedes_by shard.put put (shard_before k d lt)))
        (which_whole q is)

    -- the group adds none
    pub kept : (IsWhole group put → (shard : WholeShard) × Contains shards shard × (shard.put.id ≡ put.id)) → AreNewest (before ++ group) shards
    kept had = record {
      whole = still_whole;
      newest = still_newest;
      there = λ q is. ⊎_elim
          (λ (h : Precedes q put × IsWhole before q). are.there q h.1)
          (λ (h : (q ≡ put) × IsWhole group put). let old = had h.1 in (old.0, old.1, old.2 ∙ sym (ap (λ (p : Put). p.id) h.0)))
          (which_whole q is);
      ordered = are.ordered;
    }

    module _ (last : (d : WholeShard) → 0 < length shards → (get_or shards (length shards - 1) d).put.id ≢ put.id) where
      -- where the last shard is of another identifier none is of this one
      all_before : (k : ℕ) (d : WholeShard) → k < length shards → ComesBefore (get_or shards k d).put.id put.id
      all_before k d lt = ⊎_elim
          (λ (c : ComesBefore (get_or shards k d).put.id put.id). c)
          (λ (c : ((get_or shards k d).put.id ≡ put.id) × (put.command < (get_or shards k d).put.command)). absurd (not_this c.0))
          (precedes_by (get_or shards k d).put put (shard_before k d lt))
        where
          end : ℕ
          end = length shards - 1

          end_before : ComesBefore (get_or shards end d).put.id put.id
          end_before = ⊎_elim
              (λ (c : ComesBefore (get_or shards end d).put.id put.id). c)
              (λ (c : ((get_or shards end d).put.id ≡ put.id) × (put.command < (get_or shards end d).put.command)). absurd (last d (omega (arith, lt)) c.0))
              (precedes_by (get_or shards end d).put put (shard_before end d (omega (arith, lt))))

          not_this : (get_or shards k d).put.id ≡ put.id → ⊥
          not_this same = ⊎_elim
              (λ (less : k < length shards - 1).
              not_before_itself put.id (comes_on put.id (get_or shards end d).put.id put.id
              (subst (λ (id : ShardId). ComesBefore id (get_or shards end d).put.id) same (are.ordered k end d less (omega (arith, lt)))) end_before))
              (λ (le : length shards - 1 ≤ k).
              let here : k ≡ length shards - 1 = omega (arith, le, lt) in
              last d (omega (arith, lt)) (ap (λ (n : ℕ). (get_or shards n d).put.id) (sym here) ∙ same))
              (cases_lt k (length shards - 1))

      none_is : (shard : WholeShard) → Contains shards shard → shard.put.id ≡ put.id → ⊥
      none_is shard there same =
          let before_all = all_before there.0 shard there.1 in
          not_before_itself put.id (subst (λ (id : ShardId). ComesBefore id put.id) (ap (λ (s : WholeShard). s.put.id) there.2 ∙ same) before_all)

      -- the group's shard is added
      pub added : (shard : WholeShard) → shard.put ≡ put → AreAllOf group put shard.parts.items → AreNewest (before ++ group) (shards ++ shard ∷ [])
      added shard is all =
          let id : shard.put.id ≡ put.id = ap (λ (p : Put). p.id) is in
          record {
            whole = All-push (λ (s : WholeShard). AreAllOf (before ++ group) s.put s.parts.items) shards shard still_whole
                (subst (λ (p : Put). AreAllOf (before ++ group) p shard.parts.items) (sym is)
                (all_in group (before ++ group) put shard.parts.items (turned (before ++ group) group put same_here) all));
            newest = All-push (λ (s : WholeShard). (q : Put) → q.id ≡ s.put.id → IsWhole (before ++ group) q → q.command ≤ s.put.command) shards shard still_newest
                (λ q same whole. ⊎_elim
                (λ (h : Precedes q put × IsWhole before q). let old = are.there q h.1 in absurd (none_is old.0 old.1 (old.2 ∙ same ∙ id)))
                (λ (h : (q ≡ put) × IsWhole group put). omega (arith, ap (λ (p : Put). p.command) h.0, ap (λ (p : Put). p.command) is))
                (which_whole q whole));
            there = λ q whole. ⊎_elim
                (λ (h : Precedes q put × IsWhole before q). let old = are.there q h.1 in (old.0, Contains-append_left shards (shard ∷ []) old.0 old.1, old.2))
                (λ (h : (q ≡ put) × IsWhole group put). (shard, Contains-push shards shard, id ∙ sym (ap (λ (p : Put). p.id) h.0)))
                (which_whole q whole);
            ordered = all_pairs_push (λ (a b : WholeShard). ComesBefore a.put.id b.put.id) shards shard are.ordered
                (λ k d lt. subst (λ (i : ShardId). ComesBefore (get_or shards k d).put.id i) (sym id) (all_before k d lt));
          }

  module _ (puts : List Put) (are : AreAmbiguous before puts) where
    put_before : (k : ℕ) (d : Put) → k < length puts → Precedes (get_or puts k d) put
    put_before k d lt =
        let is = are.sound k d lt in
        subst (λ (r : Put). Precedes r put) is.one_of (before_it is.one is.one_there)

    still_ambiguous : All (IsAmbiguous (before ++ group)) puts
    still_ambiguous k d lt =
        ambiguous_in before (before ++ group) (get_or puts k d) (turned (before ++ group) before (get_or puts k d) (same_before (get_or puts k d) (put_before k d lt))) (are.sound k d lt)

    -- the group is clear
    pub clear_kept : (IsAmbiguous group put → ⊥) → AreAmbiguous (before ++ group) puts
    clear_kept clear = record {
      sound = still_ambiguous;
      complete = λ q is. ⊎_elim
          (λ (h : Precedes q put × IsAmbiguous before q). are.complete q h.1)
          (λ (h : (q ≡ put) × IsAmbiguous group put). absurd (clear h.1))
          (which_ambiguous q is);
      once = are.once;
      ordered = are.ordered;
    }

    pub ambiguous_added : IsAmbiguous group put → AreAmbiguous (before ++ group) (puts ++ put ∷ [])
    ambiguous_added here = record {
      sound = All-push (IsAmbiguous (before ++ group)) puts put still_ambiguous (ambiguous_in group (before ++ group) put (turned (before ++ group) group put same_here) here);
      complete = λ q is. ⊎_elim
          (λ (h : Precedes q put × IsAmbiguous before q). Contains-append_left puts (put ∷ []) q (are.complete q h.1))
          (λ (h : (q ≡ put) × IsAmbiguous group put). subst (λ (r : Put). Contains (puts ++ put ∷ []) r) (sym h.0) (Contains-push puts put))
          (which_ambiguous q is);
      once = all_pairs_push (λ (a b : Put). a ≢ b) puts put are.once (λ k d lt same. not_both (get_or puts k d) (put_before k d lt) same);
      ordered = all_pairs_push IsListedBefore puts put are.ordered (λ k d lt. precedes_by (get_or puts k d) put (put_before k d lt));
    }
