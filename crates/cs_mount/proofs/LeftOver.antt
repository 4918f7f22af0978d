-- What a store has left to write is left in the state of the machine.
use Rattle.std.proofs.Common.{◌≡◌, ◌⊎◌, inl, inr, ℕ, zero, suc, ◌≤◌, true, false, List, [], ◌∷◌, Some, drop, map, slice_get, true≢false, refl, sym, ◌∙◌, ap, subst, arith}
use Rattle.std.proofs.lemmas.Option.{same_Some}
use Rattle.cs_core.specs.cs_extent.State.{shape}
use Rattle.cs_core.specs.law_refinement.Bridge.{name}
use Rattle.cs_core.specs.States.{IsStateOf}
use Rattle.cs_core.specs.Stored.{Stored, members_of}
use Rattle.cs_deps.specs.declared.elements.Element.{Element as Name}
use Rattle.cs_deps.specs.State.{write_of}
use Rattle.cs_frame.specs.Formats.{formats_of}
use Rattle.law_machine.specs.Disk.{page_write}
use Rattle.law_machine.specs.Element.{Element}
use Rattle.law_machine.specs.Lists.{◌∈◌}
use Rattle.law_machine.specs.State.{State}
use Rattle.law_refinement.proofs.Members.{member_waits}
use Rattle.cs_mount.specs.Takes.{IsLeftToWrite}

-- an element that isn't dropped
dropped : {A : Type 0} (xs : List A) (n k : ℕ) (x : A) → n ≤ k → slice_get xs k ≡ Some x → (i : ℕ) × (slice_get (drop n xs) i ≡ Some x)
dropped [] n k x le at = cc
dropped (y ∷ xs) zero k x le at = (k, at)
dropped (y ∷ xs) (suc n) zero x le at = absurd (omega (arith, le))
dropped (y ∷ xs) (suc n) (suc k) x le at = dropped xs n k x (omega (arith, le)) at

mapped_from : {A B : Type 0} (f : A → B) (xs : List A) (i : ℕ) (y : B) → slice_get (map f xs) i ≡ Some y → (x : A) × (x ∈ xs) × (f x ≡ y)
mapped_from f [] i y at = cc
mapped_from f (x ∷ xs) zero y at = (x, inl refl, same_Some (f x) y at)
mapped_from f (x ∷ xs) (suc i) y at = let more = mapped_from f xs i y at in (more.0, inr more.1, more.2)

-- what a store has left to write is left in the state of the machine
pub left_in : (v : Stored) (s : State) → IsStateOf v s → v.halted ≡ false → (p : ℕ) (bytes : List ℕ) → IsLeftToWrite v p bytes
    → (m : Element) × (m ∈ s.left) × (page_write (shape v.extents) (formats_of (shape v.extents)) m ≡ (p, bytes))
left_in v s is running p bytes left =
    let rest = dropped (members_of v.out) is.gone left.place left.member (subst (λ (n : ℕ). n ≤ left.place) (sym gone) left.unwritten) left.is_there in
    let from = mapped_from name s.left rest.0 left.member (ap (λ (l : List Name). slice_get l rest.0) is.left ∙ rest.1) in
    let waits = member_waits (shape v.extents) s.world from.0 (is.sound.left from.0 from.1) in
    (from.0, from.1, sym (is.parts.world.writes from.0 (p, bytes) waits (ap (write_of v.graph) from.2 ∙ left.kept)))
  where
    by : (is.gone ≡ v.issued) ⊎ ((v.halted ≡ true) × (is.gone ≡ suc v.issued)) → is.gone ≡ v.issued
    by (inl same) = same
    by (inr fault) = absurd (true≢false (sym fault.0 ∙ running))

    gone : is.gone ≡ v.issued
    gone = by is.gone_is
