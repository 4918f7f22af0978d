-- Which events don't answer that the disk failed, what an Issue writes, and what a write that failed leaves.
use Rattle.std.proofs.Common.{◌≡◌, ◌≢◌, ◌⊎◌, inl, inr, ℕ, List, Some, false, subst}
use Rattle.std.specs.Prelude.{slice_get}
use Rattle.cs_deps.specs.declared.elements.Element.{Element as Name}
use Rattle.cs_refusal.specs.declared.refusals.Refusal.{Refusal as Code}
use Rattle.cs_refusal.specs.declared.refusals.Refusal.TheVariants as code
use Rattle.cs_deps.specs.State.{write_of}
use Rattle.cs_disk.specs.Disk.{State as DiskState, written}
use Rattle.cs_core.specs.declared.events.Event.TheVariants.{Settle}
use Rattle.cs_core.specs.declared.events.Reply.{Reply}
use Rattle.cs_core.specs.declared.events.Reply.TheVariants.{Refused}
use Rattle.cs_core.specs.Answered.{IsAnswered}
use Rattle.cs_core.specs.Disks.{IsMemberWritten, IsWrittenNext}
use Rattle.cs_core.specs.Replies.{MayRefuse}
use Rattle.cs_core.specs.Stored.{Stored, members_of, but_for_room}

pub settle_never : (v w : Stored) (n : ℕ) (r : Reply) → IsAnswered v (Settle n) r w → r ≢ Refused code.DeviceFault
unfolding IsAnswered
settle_never v w n (Refused f) is = λ fault. let same : f ≡ code.DeviceFault = cc fault in subst (λ (k : Code). MayRefuse (Settle n) k) same is.0
settle_never v w n r is = λ fault. cc fault

-- an Issue writes the next member of the round
pub written_next : (v : Stored) → v.halted ≡ false → (x : Name) → slice_get (members_of v.out) v.issued ≡ Some x → (p : ℕ) (bytes : List ℕ) → write_of v.graph x ≡ Some (p, bytes) → IsWrittenNext (but_for_room v) p bytes
written_next v runs x next p bytes kept = record { running = runs; member = x; next = next; kept = kept }

-- the member of a write that failed may be there or not
pub fault_written : (v : Stored) (x : Name) → slice_get (members_of v.out) v.issued ≡ Some x → (p : ℕ) (bytes : List ℕ) → write_of v.graph x ≡ Some (p, bytes)
    → (disk after : DiskState) → (after ≡ disk) ⊎ (after ≡ written disk p bytes) → (after ≡ disk) ⊎ ((y : Name) × (q : ℕ) × IsMemberWritten (but_for_room v) disk y q after)
fault_written v x next p bytes kept disk after (inl same) = inl same
fault_written v x next p bytes kept disk after (inr done) = inr (x, p, record { next = next; bytes = bytes; kept = kept; write = done })
