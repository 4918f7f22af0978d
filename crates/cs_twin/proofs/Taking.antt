-- Which writes a disk in pairs takes after one of them.
use Rattle.std.proofs.Common.{◌≡◌, ◌≢◌, ◌<◌, ⊎_elim, ℕ, Bool, List, Some, Result, Ok, Err, OnOk, slice_get, set, length, arith, sym, ◌∙◌, ap, subst}
use Rattle.std.proofs.lemmas.Bool.{cases_eq}
use Rattle.std.proofs.lemmas.Option.{same_Some}
use Rattle.cs_disk.proofs.Images.{applied_push, length-applied, page_other, page_same}
use Rattle.cs_disk.specs.Disk.{Image, State, page, seen, written}
use Rattle.cs_twin.specs.declared.pairs.Held.{Held}
use Rattle.cs_twin.specs.declared.pairs.Pair.{Pair}
use Rattle.cs_twin.specs.Kept.{TakesWrite}
use Rattle.cs_twin.specs.Fences.{AreFenced}
use Rattle.cs_twin.specs.Pairs.{ArePairs, Versions, fence, half}
use Rattle.cs_twin.proofs.Roles.{IsOwn}
use Rattle.cs_twin.proofs.Shown.{held_same}

module _ (V : Versions) (allowed : ℕ → List ℕ → Bool) (pairs : List Pair) where
  -- what it takes for a page no half of whose pair was written
  taken_on : (s now : State) (p other : ℕ) (bytes later : List ℕ) → now ≡ written s p bytes → (AreFenced V pairs (seen s) → AreFenced V pairs (seen now)) → ((k : ℕ) (z : Pair) (twin : Bool) → slice_get pairs k ≡ Some z → other ≡ z.page → half z twin ≡ p → ⊥)
      → TakesWrite V allowed pairs (seen s) other later → TakesWrite V allowed pairs (seen now) other later
  taken_on s now p other bytes later is fenced apart takes = record {
    shown = takes.shown;
    newer = λ k z at here. subst (λ (h : Held). h.version < V z.page later)
        (held_same V (seen s) (seen now) z (λ twin.
        sym (page_other (seen s) p (half z twin) bytes (λ e. apart k z twin at here e))
        ∙ ap (λ (image : Image). page image (half z twin)) (sym (applied_push s.durable s.volatile (p, bytes)) ∙ ap seen (sym is))))
        (takes.newer k z at here);
    fenced = λ k z at here. fenced (takes.fenced k z at here);
    may = takes.may;
  }

  -- each half is whole or a fence still, but for the page that was written
  fenced_on : (s now : State) (p : ℕ) (bytes : List ℕ) → now ≡ written s p bytes → p < length (seen s) → ((k : ℕ) (z : Pair) (twin : Bool) → slice_get pairs k ≡ Some z → half z twin ≡ p → V z.page bytes ≡ 0 → bytes ≡ fence)
      → AreFenced V pairs (seen s) → AreFenced V pairs (seen now)
  fenced_on s now p bytes is inside here fenced k z twin at none = ⊎_elim
      (λ (e : half z twin ≡ p).
      let there : page (seen now) (half z twin) ≡ bytes = ap (page (seen now)) e ∙ ap (λ (image : Image). page image p) after ∙ page_same (seen s) p bytes inside in
      there ∙ here k z twin at e (ap (V z.page) (sym there) ∙ none))
      (λ (ne : half z twin ≢ p).
      let there : page (seen now) (half z twin) ≡ page (seen s) (half z twin) = ap (λ (image : Image). page image (half z twin)) after ∙ page_other (seen s) p (half z twin) bytes ne in
      there ∙ fenced k z twin at (ap (V z.page) (sym there) ∙ none))
      (cases_eq (half z twin) p)
    where
      after : seen now ≡ set (seen s) p bytes
      after = ap seen is ∙ applied_push s.durable s.volatile (p, bytes)

  -- a page of no pair was written
  pub others_own : {T E : Type 0} (result : Result T E) (s now : State) (p : ℕ) (bytes : List ℕ) → p < length s.durable → IsOwn pairs p → OnOk result (now ≡ written s p bytes)
      → OnOk result ((other : ℕ) (later : List ℕ) → other ≢ p → TakesWrite V allowed pairs (seen s) other later → TakesWrite V allowed pairs (seen now) other later)
  others_own (Ok t) s now p bytes inside own is = λ other later ne takes. taken_on s now p other bytes later is
      (fenced_on s now p bytes is (omega (arith, inside, length-applied s.durable s.volatile)) (λ k z twin at e. absurd (own k z twin at (sym e)))) (λ k z twin at here e. own k z twin at (sym e)) takes
  others_own (Err e) s now p bytes inside own is = tt

  -- a half of a pair was written
  pub others_pair : {T E : Type 0} (result : Result T E) (n : ℕ) (s now : State) (p k : ℕ) (x : Pair) (bytes : List ℕ) → ArePairs pairs n → length s.durable ≡ n → slice_get pairs k ≡ Some x → p ≡ x.page → OnOk result (0 < V x.page bytes)
      → OnOk result ((twin : Bool) × (now ≡ written s (half x twin) bytes))
      → OnOk result ((other : ℕ) (later : List ℕ) → other ≢ p → TakesWrite V allowed pairs (seen s) other later → TakesWrite V allowed pairs (seen now) other later)
  others_pair (Ok t) n s now p k x bytes are sized at here some is = λ other later ne takes. taken_on s now (half x is.0) other bytes later is.1
      (fenced_on s now (half x is.0) bytes is.1 (let lies = are.inside k x is.0 at in omega (arith, lies, sized, length-applied s.durable s.volatile))
      (λ j z twin at_j e none.
      let both = are.apart j k z x twin is.0 at_j at e in
      let same = ap (λ (y : Pair). V y.page bytes) (same_Some z x (sym at_j ∙ ap (slice_get pairs) both.0 ∙ at)) in
      absurd (omega (arith, some, same, none))))
      (λ j z twin at_j there e.
      let both = are.apart j k z x twin is.0 at_j at e in
      ne (there ∙ ap (λ (y : Pair). y.page) (same_Some z x (sym at_j ∙ ap (slice_get pairs) both.0 ∙ at)) ∙ sym here))
      takes
  others_pair (Err e) n s now p k x bytes are sized at here some is = tt
