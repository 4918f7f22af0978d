-- What a store keeps of its resets.
use Rattle.std.proofs.Common.{◌≡◌, ℕ, ◌≤◌, Bool, true, false, ap, arith}
use Rattle.std.specs.Prelude.{◌==◌, if◌then◌else◌, Result, Ok, Err, OnOk, OnErr}
use Rattle.law_machine.specs.Extents.{Extents, emptied, forgotten, marked}
use Rattle.cs_extent.specs.State.{State, extents_of, shape}

pub resets_after : {A E : Type 0} (r : Result A E) (old new : State) (e root bound : ℕ) → OnOk r (extents_of new ≡ forgotten (shape old).apart (emptied (extents_of old) e root) e) → OnErr r (new ≡ old) → root ≤ bound
    → ((d : ℕ) → (extents_of old).reset d ≤ bound) → (d : ℕ) → (extents_of new).reset d ≤ bound
resets_after (Ok a) old new e root bound ok err le was d =
    let same : (extents_of new).reset d ≡ (if d == e then root else (extents_of old).reset d) = ap (λ (x : Extents). x.reset d) ok in
    omega (arith, same, either (d == e) (was d))
  where
    either : (b : Bool) → (extents_of old).reset d ≤ bound → (if b then root else (extents_of old).reset d) ≤ bound
    either true h = le
    either false h = h
resets_after (Err f) old new e root bound ok err le was d =
    let same : (extents_of new).reset d ≡ (extents_of old).reset d = ap (λ (s : State). (extents_of s).reset d) err in
    omega (arith, same, was d)

pub resets_marked : (old new : State) (e : ℕ) (b : Bool) (bound : ℕ) → extents_of new ≡ marked (extents_of old) e b → ((d : ℕ) → (extents_of old).reset d ≤ bound) → (d : ℕ) → (extents_of new).reset d ≤ bound
resets_marked old new e b bound is was d = let same : (extents_of new).reset d ≡ (extents_of old).reset d = ap (λ (x : Extents). x.reset d) is in omega (arith, same, was d)

pub resets_begun : {A E : Type 0} (r : Result A E) (old new : State) (e : ℕ) (b : Bool) (bound : ℕ) → OnOk r (extents_of new ≡ marked (extents_of old) e b) → OnErr r (new ≡ old) → ((d : ℕ) → (extents_of old).reset d ≤ bound) → (d : ℕ) → (extents_of new).reset d ≤ bound
resets_begun (Ok a) old new e b bound ok err was d = resets_marked old new e b bound ok was d
resets_begun (Err f) old new e b bound ok err was d = let same : (extents_of new).reset d ≡ (extents_of old).reset d = ap (λ (s : State). (extents_of s).reset d) err in omega (arith, same, was d)
