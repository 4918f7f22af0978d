-- A store that is closed with an extent left out, and opened again.
use Rattle.std.proofs.Common.{◌≡◌, ◌⊎◌, inl, inr, ◌∙◌, [], Err, Ok, Result, ap, arith, subst, sym}
use Rattle.cs_chunk.specs.Reads.{IsNoAnswer}
use Rattle.cs_disk.proofs.Crashes.{MayLeave-settled}
use Rattle.cs_disk.specs.Disk.{Image, MayLeave, State, applied, seen}
use Rattle.cs_refusal.specs.declared.refusals.Refusal.{Refusal}
use Rattle.cs_reader.specs.Openings.{IsOpeningRefusal}
use Rattle.cs_refusal.specs.Refusals.{number_of}
use Rattle.cs_refusal.specs.declared.refusals.Refusal.TheVariants.{DeviceFault, NotAStore, NotSweepable, OutOfMemory, Unsettled, WornOut}
use Rattle.cs_store.specs.LeftOut.{IsWhyNotLeftOut}

-- what a disk on which nothing waits leaves
pub settled_leaves : (s : State) (P : Image → Type 0) → s.volatile ≡ [] → P (seen s) → (c : Image) → MayLeave s c → P c
settled_leaves s P none here c left = subst P (sym (MayLeave-settled s c none left ∙ sym (ap (applied s.durable) none))) here

-- why an extent isn't left out
pub why_of : (r : Refusal) (P : Type 0) → IsNoAnswer r ⊎ (r ≡ Unsettled) ⊎ (r ≡ NotSweepable) ⊎ ((r ≡ WornOut) × P) → IsWhyNotLeftOut r
why_of r P (inl refused) = inl refused
why_of r P (inr (inl waits)) = inr (inr (inr waits))
why_of r P (inr (inr (inl missing))) = inr (inr (inl missing))
why_of r P (inr (inr (inr worn))) = inr (inl worn.0)

-- 35 is no answer of the device or the memory, and no refusal of an opening
answer_unworn : (r : Refusal) → IsNoAnswer r → r ≡ WornOut → ⊥
answer_unworn r (inl e) is = let clash : DeviceFault ≡ WornOut = sym e ∙ is in cc clash
answer_unworn r (inr e) is = let clash : OutOfMemory ≡ WornOut = sym e ∙ is in cc clash

pub opening_unworn : (r : Refusal) → IsOpeningRefusal r → r ≡ WornOut → ⊥
opening_unworn r (inl answer) is = answer_unworn r answer is
opening_unworn r (inr (inl range)) is = let n : number_of r ≡ 35 = ap number_of is in let high = range.1 in omega (arith, high, n)
opening_unworn r (inr (inr e)) is = let clash : NotAStore ≡ WornOut = sym e ∙ is in cc clash

-- why it is refused 35
pub worn_of : (r : Refusal) (P : Type 0) → IsNoAnswer r ⊎ (r ≡ Unsettled) ⊎ (r ≡ NotSweepable) ⊎ ((r ≡ WornOut) × P) → r ≡ WornOut → P
worn_of r P (inl answer) is = absurd (answer_unworn r answer is)
worn_of r P (inr (inl waits)) is = absurd (let clash : Unsettled ≡ WornOut = sym waits ∙ is in cc clash)
worn_of r P (inr (inr (inl missing))) is = absurd (let clash : NotSweepable ≡ WornOut = sym missing ∙ is in cc clash)
worn_of r P (inr (inr (inr worn))) is = worn.1

-- what succeeds isn't refused
pub never_refused : {T E : Type 0} (x : T) (e : E) → ◌≡◌ {A = Result T E} (Ok x) (Err e) → ⊥
never_refused x e is = cc
