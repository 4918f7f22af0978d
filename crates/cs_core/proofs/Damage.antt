-- Which ground of the machine a refusal of a read is.
use Rattle.std.proofs.Common.{◌≡◌, ◌⊎◌, inl, inr, ◌≤◌, refl, sym, subst, arith}
use Rattle.cs_chunk.specs.Reads.{IsNoAnswer, IsReadRefusal}
use Rattle.cs_frame.specs.Refusals.{refusal_for as code_of}
use Rattle.cs_refusal.specs.declared.refusals.Refusal.{Refusal as Code}
use Rattle.cs_refusal.specs.declared.refusals.Refusal.TheVariants as code
use Rattle.cs_refusal.specs.Refusals.{number_of}
use Rattle.cs_frame.specs.declared.faults.FormatFault.{FormatFault}
use Rattle.cs_frame.specs.declared.faults.FormatFault.TheVariants as fault
use Rattle.cs_frame.specs.Formats.{refusal_of}
use Rattle.law_machine.specs.Refusal.{BadDigest, BadLength, BadMagic, BadPadding, BadVersion, Misplaced, Refusal as Ground}
use Rattle.law_refinement.specs.Refusals.{refusal_for}

-- the refusal is that of damage: only faults of this ground have it, and neither the device nor want of a place or
-- number
pub record IsDamage (r : Code) : Type 0 where
  pub ground : Ground
  pub number : r ≡ refusal_for ground
  pub of_fault : (f : FormatFault) → r ≡ code_of f → refusal_of f ≡ ground
  pub answered : IsNoAnswer r → ⊥
  pub placed : (r ≡ code.Full) ⊎ (r ≡ code.WornOut) → ⊥

magic : (f : FormatFault) → code.BadMagic ≡ code_of f → refusal_of f ≡ BadMagic
magic fault.BadMagic e = refl
magic f e = absurd (cc e)

digest : (f : FormatFault) → code.BadDigest ≡ code_of f → refusal_of f ≡ BadDigest
digest fault.BadDigest e = refl
digest f e = absurd (cc e)

size : (f : FormatFault) → code.BadLength ≡ code_of f → refusal_of f ≡ BadLength
size fault.BadLength e = refl
size f e = absurd (cc e)

padding : (f : FormatFault) → code.BadPadding ≡ code_of f → refusal_of f ≡ BadPadding
padding fault.BadPadding e = refl
padding f e = absurd (cc e)

version : (f : FormatFault) → code.BadVersion ≡ code_of f → refusal_of f ≡ BadVersion
version fault.BadVersion e = refl
version f e = absurd (cc e)

misplaced : (f : FormatFault) → code.Misplaced ≡ code_of f → refusal_of f ≡ Misplaced
misplaced fault.Misplaced e = refl
misplaced f e = absurd (cc e)

-- a refusal of these numbers is none of these four
other : (r : Code) → 20 ≤ number_of r → number_of r ≤ 26 → (IsNoAnswer r → ⊥) × ((r ≡ code.Full) ⊎ (r ≡ code.WornOut) → ⊥)
other r low high = (
  (λ e. elim e [ inl d ↦ absurd (clash r code.DeviceFault d low high (λ l h. omega (arith, l, h))) | inr m ↦ absurd (clash r code.OutOfMemory m low high (λ l h. omega (arith, l, h))) ]),
  (λ e. elim e [ inl d ↦ absurd (clash r code.Full d low high (λ l h. omega (arith, l, h))) | inr m ↦ absurd (clash r code.WornOut m low high (λ l h. omega (arith, l, h))) ]),
)
  where
    clash : (r q : Code) → r ≡ q → 20 ≤ number_of r → number_of r ≤ 26 → (20 ≤ number_of q → number_of q ≤ 26 → ⊥) → ⊥
    clash r q same l h none = none (subst (λ (k : Code). 20 ≤ number_of k) same l) (subst (λ (k : Code). number_of k ≤ 26) same h)

-- a refusal of a read: there was no memory, the device failed, or the frame is damaged or another one
pub read_refusal : (r : Code) → IsReadRefusal r → (r ≡ code.OutOfMemory) ⊎ (r ≡ code.DeviceFault) ⊎ IsDamage r
read_refusal r (inl (inl device)) = inr (inl device)
read_refusal r (inl (inr memory)) = inl memory
read_refusal r (inr (inl (low, high))) = inr (inr (go r low high))
  where
    go : (r : Code) → 20 ≤ number_of r → number_of r ≤ 24 → IsDamage r
    go code.BadMagic low high = let no = other code.BadMagic (omega arith) (omega arith) in record { ground = BadMagic; number = refl; of_fault = magic; answered = no.0; placed = no.1 }
    go code.BadDigest low high = let no = other code.BadDigest (omega arith) (omega arith) in record { ground = BadDigest; number = refl; of_fault = digest; answered = no.0; placed = no.1 }
    go code.BadLength low high = let no = other code.BadLength (omega arith) (omega arith) in record { ground = BadLength; number = refl; of_fault = size; answered = no.0; placed = no.1 }
    go code.BadPadding low high = let no = other code.BadPadding (omega arith) (omega arith) in record { ground = BadPadding; number = refl; of_fault = padding; answered = no.0; placed = no.1 }
    go code.BadVersion low high = let no = other code.BadVersion (omega arith) (omega arith) in record { ground = BadVersion; number = refl; of_fault = version; answered = no.0; placed = no.1 }
    go r low high = absurd (omega (arith, low, high))
read_refusal r (inr (inr is)) = inr (inr (subst IsDamage (sym is) (
    let no = other code.Misplaced (omega arith) (omega arith) in
    record { ground = Misplaced; number = refl; of_fault = misplaced; answered = no.0; placed = no.1 })))
