-- The places of an index, read entry by entry.
use Rattle.std.proofs.Common.{◌≡◌, ◌⊎◌, inl, inr, ⊎_elim, ◌∙◌, ℕ, ◌<◌, List, [], ◌∷◌, ◌++◌, Some, None, Option, map, sym, ap, subst, arith}
use Rattle.std.proofs.lemmas.Bool.{cases_eq, cases_lt}
use Rattle.cs_frame.specs.declared.locators.Locator.{Locator}
use Rattle.cs_frame.specs.Formats.{as_locator, place_of}
use Rattle.cs_index.specs.State.{IsAfter, IsNext}
use Rattle.law_machine.specs.Element.{Entry, Locator as Place}
use Rattle.law_machine.specs.Index.{live, live_at}
use Rattle.law_machine.specs.Lists.{◌∈◌}
use Rattle.cs_mount.specs.MadeSections.{AddsLive}

-- To these places those were added that the identifiers up to this one have.
pub record AddsUpTo (index : List Entry) (places : List Locator) (after : Option ℕ) (named : List Locator) : Type 0 where
  pub before : (l : Locator) → l ∈ places → l ∈ named
  pub live : (id : ℕ) → (IsAfter after id → ⊥) → (l : Place) → l ∈ live_at index id → as_locator l ∈ named
  pub only : (l : Locator) → l ∈ named → (l ∈ places) ⊎ ((id : ℕ) × (place_of l ∈ live_at index id))

in_first : (xs ys : List Locator) (z : Locator) → z ∈ xs → z ∈ xs ++ ys
in_first [] ys z has = absurd has
in_first (x ∷ xs) ys z (inl is) = inl is
in_first (x ∷ xs) ys z (inr has) = inr (in_first xs ys z has)

in_last : (xs ys : List Locator) (z : Locator) → z ∈ ys → z ∈ xs ++ ys
in_last [] ys z has = has
in_last (x ∷ xs) ys z has = inr (in_last xs ys z has)

in_either : (xs ys : List Locator) (z : Locator) → z ∈ xs ++ ys → (z ∈ xs) ⊎ (z ∈ ys)
in_either [] ys z has = inr has
in_either (x ∷ xs) ys z (inl is) = inl (inl is)
in_either (x ∷ xs) ys z (inr has) = ⊎_elim (λ first. inl (inr first)) (λ last. inr last) (in_either xs ys z has)

-- places, as the machine has them and as they are spelled
spelled_in : (ls : List Locator) (l : Place) → l ∈ map place_of ls → as_locator l ∈ ls
spelled_in [] l has = has
spelled_in (k ∷ ls) l (inl is) = inl (ap as_locator is)
spelled_in (k ∷ ls) l (inr has) = inr (spelled_in ls l has)

placed_in : (ls : List Locator) (l : Locator) → l ∈ ls → place_of l ∈ map place_of ls
placed_in [] l has = has
placed_in (k ∷ ls) l (inl is) = inl (ap place_of is)
placed_in (k ∷ ls) l (inr has) = inr (placed_in ls l has)

after_or_not : (after : Option ℕ) (d : ℕ) → (IsAfter after d) ⊎ (IsAfter after d → ⊥)
after_or_not None d = inl tt
after_or_not (Some a) d = elim (cases_lt a d) [ inl lt ↦ inl lt | inr ge ↦ inr (λ lt. omega arith) ]

pub none_added : (index : List Entry) (places : List Locator) → AddsUpTo index places None places
none_added index places = record {
  before = λ l has. has;
  live = λ id not. absurd (not tt);
  only = λ l has. inl has;
}

module _ (index : List Entry) (places : List Locator) (after : Option ℕ) (id : ℕ) (ls named : List Locator)
    (next : IsNext index after (Some (record { id = id; locators = map place_of ls }))) where
  its : live_at index id ≡ map place_of ls
  its = ap live next.1

  pub more_added : AddsUpTo index places after named → AddsUpTo index places (Some id) (named ++ ls)
  more_added was = record {
    before = λ l has. in_first named ls l (was.before l has);
    live = λ d not l has. elim (cases_eq d id) [
      | inl here ↦ in_last named ls (as_locator l) (spelled_in ls l (subst (λ (ps : List Place). l ∈ ps) (ap (λ (n : ℕ). live_at index n) here ∙ its) has))
      | inr other ↦ ⊎_elim
          (λ (later : IsAfter after d). absurd (subst (λ (ps : List Place). l ∈ ps) (ap live (next.2 d later (let le : ¬ (id < d) = not in omega (arith, le, other)))) has))
          (λ (earlier : IsAfter after d → ⊥). in_first named ls (as_locator l) (was.live d earlier l has))
          (after_or_not after d)
    ];
    only = λ l has. ⊎_elim
        (λ (old : l ∈ named). was.only l old)
        (λ (new : l ∈ ls). inr (id, subst (λ (ps : List Place). place_of l ∈ ps) (sym its) (placed_in ls l new)))
        (in_either named ls l has);
  }

pub all_added : (index : List Entry) (places : List Locator) (after : Option ℕ) (named : List Locator) → AddsUpTo index places after named → IsNext index after None → AddsLive index places named
all_added index places after named was none = record {
  before = was.before;
  live = λ id l has. ⊎_elim
      (λ (later : IsAfter after id). absurd (subst (λ (ps : List Place). l ∈ ps) (ap live (none id later)) has))
      (λ (earlier : IsAfter after id → ⊥). was.live id earlier l has)
      (after_or_not after id);
  only = was.only;
}
