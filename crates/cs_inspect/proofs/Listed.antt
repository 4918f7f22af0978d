-- Listing identifiers, one after another.
use Rattle.std.proofs.Common.{◌≡◌, ◌≢◌, ◌∙◌, ◌⊎◌, inl, inr, ⊎_elim, ◌++◌, ◌∷◌, ◌≤◌, ◌<◌, ◌==◌, ℕ, zero, suc, Bool, true, false, not, MatchBool, replicate, eq-eqb, ne_eqb, List, [], Option, None, Some, refl, sym, ap, subst, arith, length, length-append}
use Rattle.std.proofs.lemmas.Bool.{cases_lt}
use Rattle.cs_frame.specs.declared.identifiers.ShardId.{ShardId}
use Rattle.cs_frame.specs.Identifiers.{id_number}
use Rattle.cs_index.specs.State.{IsNext}
use Rattle.law_machine.specs.Element.{Entry, Locator as Place}
use Rattle.law_machine.specs.Index.{live, live_at}
use Rattle.law_machine.specs.Lists.{◌∈◌}
use Rattle.cs_inspect.specs.Listings.{AreAll, AreFirst, Rising}

-- an identifier is there
abbrev pub IsThere : List Entry → ℕ → Type 0
IsThere index id = live_at index id ≢ []

-- those that are there from one up to another, at most so many
pub record AreUpTo (index : List Entry) (from most last : ℕ) (ids : List ℕ) : Type 0 where
  pub begun : from ≤ last
  pub rising : Rising ids
  pub each : (id : ℕ) → id ∈ ids → (from ≤ id) × (id ≤ last) × IsThere index id
  pub few : length ids ≤ most
  pub rest : (id : ℕ) → from ≤ id → id ≤ last → IsThere index id → id ∈ ids

abbrev pub AreListed : List Entry → (from most : ℕ) → Option ℕ → List ℕ → Type 0
AreListed index from most None ids = ⊥
AreListed index from most (Some last) ids = AreUpTo index from most last ids

in_last : (xs : List ℕ) (y id : ℕ) → id ∈ xs ++ y ∷ [] → (id ∈ xs) ⊎ (id ≡ y)
in_last [] y id (inl is) = inr is
in_last [] y id (inr there) = absurd there
in_last (x ∷ xs) y id (inl is) = inl (inl is)
in_last (x ∷ xs) y id (inr there) = ⊎_elim (λ (a : id ∈ xs). inl (inr a)) (λ (b : id ≡ y). inr b) (in_last xs y id there)

at_front : (xs : List ℕ) (y id : ℕ) → id ∈ xs → id ∈ xs ++ y ∷ []
at_front (x ∷ xs) y id (inl is) = inl is
at_front (x ∷ xs) y id (inr there) = inr (at_front xs y id there)
at_front [] y id there = absurd there

at_end : (xs : List ℕ) (y : ℕ) → y ∈ xs ++ y ∷ []
at_end [] y = inl refl
at_end (x ∷ xs) y = inr (at_end xs y)

rising_last : (xs : List ℕ) (y : ℕ) → Rising xs → ((x : ℕ) → x ∈ xs → x < y) → Rising (xs ++ y ∷ [])
rising_last [] y order below = tt
rising_last (x ∷ []) y order below = (below x (inl refl), tt)
rising_last (x ∷ z ∷ xs) y order below = (order.0, rising_last (z ∷ xs) y order.1 (λ w there. below w (inr there)))

module _ (index : List Entry) (from most : ℕ) where
  listed_one : 0 < most → IsThere index from → AreUpTo index from most from (from ∷ [])
  listed_one some there = record {
    begun = omega arith;
    rising = tt;
    each = λ id at. ⊎_elim (λ (is : id ≡ from). (omega (arith, is), omega (arith, is), subst (IsThere index) (sym is) there)) (λ (none : ⊥). absurd none) at;
    few = omega (arith, some);
    rest = λ id le ge here. inl (omega (arith, le, ge));
  }

  listed_not : live_at index from ≡ [] → AreUpTo index from most from []
  listed_not none = record {
    begun = omega arith;
    rising = tt;
    each = λ id there. absurd there;
    few = omega arith;
    rest = λ id le ge here. (let is : id ≡ from = omega (arith, le, ge) in absurd (here (ap (live_at index) is ∙ none)));
  }

  -- the first identifier is listed where it is there
  pub listed_start : (here : Bool) (olds new : List ℕ) → 0 < most → MatchBool here (live_at index from ≢ []) (live_at index from ≡ []) → olds ≡ []
      → MatchBool here (new ≡ olds ++ from ∷ []) (new ≡ olds) → AreUpTo index from most from new
  listed_start true olds new some there none is = subst (AreUpTo index from most from) (sym (is ∙ ap (λ (xs : List ℕ). xs ++ from ∷ []) none)) (listed_one some there)
  listed_start false olds new some there none is = subst (AreUpTo index from most from) (sym (is ∙ none)) (listed_not there)

  module _ (last : ℕ) (ids : List ℕ) (was : AreUpTo index from most last ids) where
    -- what is listed are the first, where there are enough
    pub first_enough : most ≤ length ids → AreFirst (IsThere index) from most ids
    first_enough enough = record {
      rising = was.rising;
      each = λ id there. ((was.each id there).0, (was.each id there).2);
      few = was.few;
      rest = λ id le there. elim (cases_lt last id) [
        | inl behind ↦ inr (omega (arith, enough, was.few), λ x at. (let before : x ≤ last = (was.each x at).1 in omega arith))
        | inr before ↦ inl (was.rest id le before there)
      ];
    }

    -- and where no more are named
    pub first_all : IsNext index (Some last) None → AreFirst (IsThere index) from most ids
    first_all none = record {
      rising = was.rising;
      each = λ id there. ((was.each id there).0, (was.each id there).2);
      few = was.few;
      rest = λ id le there. elim (cases_lt last id) [
        | inl behind ↦ absurd (there (ap live (none id behind)))
        | inr before ↦ inl (was.rest id le before there)
      ];
    }

    module _ (id : ℕ) (ls : List Place) (next : IsNext index (Some last) (Some (record { id = id; locators = ls }))) where
      later : last < id
      later = next.0

      -- nothing is there between the two
      up_to : (d : ℕ) → from ≤ d → d ≤ id → IsThere index d → (d ∈ ids) ⊎ (d ≡ id)
      up_to d le ge there = elim (cases_lt last d) [
        | inl behind ↦ elim (cases_lt d id) [
          | inl between ↦ absurd (there (ap live (next.2 d behind between)))
          | inr from_id ↦ inr (omega (arith, ge, from_id))
        ]
        | inr before ↦ inl (was.rest d le before there)
      ]

      further : (d : ℕ) → d ∈ ids → (from ≤ d) × (d ≤ id) × IsThere index d
      further d at = let e = was.each d at in let le : d ≤ last = e.1 in (e.0, omega (arith, le, later), e.2)

      listed_past : ls ≡ [] → AreUpTo index from most id ids
      listed_past gone = record {
        begun = omega (arith, was.begun, later);
        rising = was.rising;
        each = further;
        few = was.few;
        rest = λ d le ge there. ⊎_elim (λ (a : d ∈ ids). a) (λ (b : d ≡ id). absurd (there (ap (live_at index) b ∙ ap live next.1 ∙ gone))) (up_to d le ge there);
      }

      listed_more : length ids < most → ls ≢ [] → AreUpTo index from most id (ids ++ id ∷ [])
      listed_more room some = record {
        begun = omega (arith, was.begun, later);
        rising = rising_last ids id was.rising (λ x at. (let le : x ≤ last = (was.each x at).1 in omega (arith, le, later)));
        each = λ d at. ⊎_elim
            (λ (a : d ∈ ids). further d a)
            (λ (b : d ≡ id). (omega (arith, was.begun, later, b), omega (arith, b), λ none. some (sym (ap live next.1) ∙ ap (live_at index) (sym b) ∙ none)))
            (in_last ids id d at);
        few = omega (arith, length-append ids (id ∷ []), room);
        rest = λ d le ge there. ⊎_elim (λ (a : d ∈ ids). at_front ids id d a) (λ (b : d ≡ id). subst (λ (n : ℕ). n ∈ ids ++ id ∷ []) (sym b) (at_end ids id)) (up_to d le ge there);
      }

      -- the next identifier is listed where it is there
      pub listed_next : (count : ℕ) → count ≡ length ls → (wanted : Bool) (new : List ℕ) → wanted ≡ not (count == 0) → length ids < most
          → MatchBool wanted (new ≡ ids ++ id ∷ []) (new ≡ ids) → AreUpTo index from most id new
      listed_next count size true new is room added = subst (AreUpTo index from most id) (sym added) (listed_more room (λ none. counted count (size ∙ ap (λ (ks : List Place). length ks) none) is))
        where
          counted : (n : ℕ) → n ≡ 0 → true ≡ not (n == 0) → ⊥
          counted zero e h = (let is : not (0 == 0) ≡ false = ap not (eq-eqb 0 0 refl) in cc (h ∙ is))
          counted (suc n) e h = absurd (omega (arith, e))
      listed_next count size false new is room added = subst (AreUpTo index from most id) (sym added) (listed_past (none ls (sym size ∙ counted count is)))
        where
          counted : (n : ℕ) → false ≡ not (n == 0) → n ≡ 0
          counted zero h = refl
          counted (suc n) h = (let is : not (suc n == 0) ≡ true = ap not (ne_eqb (suc n) 0 (λ e. absurd (omega (arith, e)))) in absurd (cc (h ∙ is)))

          none : (ks : List Place) → length ks ≡ 0 → ks ≡ []
          none [] e = refl
          none (k ∷ ks) e = absurd (omega (arith, e))

-- ---- over what a reading has

pub next_listed : (index : List Entry) (from most : ℕ) (after : Option ℕ) (ids : List ℕ) → AreListed index from most after ids → (id : ℕ) (ls : List Place)
    → IsNext index after (Some (record { id = id; locators = ls })) → (count : ℕ) → count ≡ length ls → (wanted : Bool) (new : List ℕ) → wanted ≡ not (count == 0) → length ids < most
    → MatchBool wanted (new ≡ ids ++ id ∷ []) (new ≡ ids) → AreListed index from most (Some id) new
next_listed index from most None ids was id ls next count size wanted new is room added = absurd was
next_listed index from most (Some last) ids was id ls next count size wanted new is room added = listed_next index from most last ids was id ls next count size wanted new is room added

pub listed_enough : (index : List Entry) (from most : ℕ) (after : Option ℕ) (ids : List ℕ) → AreListed index from most after ids → most ≤ length ids → AreFirst (IsThere index) from most ids
listed_enough index from most None ids was enough = absurd was
listed_enough index from most (Some last) ids was enough = first_enough index from most last ids was enough

pub listed_all : (index : List Entry) (from most : ℕ) (after : Option ℕ) (ids : List ℕ) → AreListed index from most after ids → IsNext index after None → AreFirst (IsThere index) from most ids
listed_all index from most None ids was none = absurd was
listed_all index from most (Some last) ids was none = first_all index from most last ids was none

pub zero_number : (id : ShardId) → id.0 ≡ replicate 16 0 → id_number id ≡ 0
unfolding id_number
zero_number id is = rw is

-- from the first number on, and fewer than so many: all
pub all_of_first : (is_there : ℕ → Type 0) (from most : ℕ) (ids : List ℕ) → from ≡ 0 → length ids < most → AreFirst is_there from most ids → AreAll is_there ids
all_of_first is_there from most ids first few are = record {
  rising = are.rising;
  each = λ id. (
    λ at. (are.each id at).1,
    λ there. ⊎_elim (λ (a : id ∈ ids). a) (λ (b : (length ids ≡ most) × ((x : ℕ) → x ∈ ids → x < id)). (let is : length ids ≡ most = b.0 in absurd (omega (arith, is, few)))) (are.rest id (omega (arith, first)) there),
  );
}
