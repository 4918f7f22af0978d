-- The refusals of frames, by the machine and by the store's calls.
use Rattle.std.proofs.Common.{◌≡◌, ◌⊎◌, ◌==◌, ⊎_elim, ℕ, ◌≤◌, arith, List, Some, None, refl, sym, subst}
use Rattle.cs_reclaim.proofs.cs_chunk.FrameFaults.{in_range}
use Rattle.cs_reclaim.specs.cs_chunk.Reads.{fault_in, pages_in}
use Rattle.cs_frame.specs.Refusals.{refusal_for as refusal_of_fault}
use Rattle.cs_refusal.specs.Refusals.{number_of}
use Rattle.cs_extent.specs.State.{State as ExtentsState, shape}
use Rattle.cs_frame.proofs.MarkLaws.{meant_finds}
use Rattle.cs_frame.specs.declared.faults.FormatFault.{FormatFault}
use Rattle.cs_frame.specs.declared.faults.FormatFault.TheVariants as fault
use Rattle.cs_frame.specs.declared.frames.FrameKind.{FrameKind}
use Rattle.cs_frame.specs.declared.locators.Locator.{Locator}
use Rattle.cs_frame.specs.Faults.{fault_number}
use Rattle.cs_frame.specs.FormatNumbers.{number_in}
use Rattle.cs_frame.specs.Formats.{refusal_of}
use Rattle.cs_frame.specs.Frames.{first_page, frame_fault, kind_byte}
use Rattle.cs_frame.specs.Heads.{is_long_in}
use Rattle.law_machine.specs.Geometry.{mark_in}
use Rattle.law_machine.specs.Numbers.{number_of as number_in_machine}
use Rattle.law_machine.specs.Refusal.{BadDigest, BadLength, BadMagic, BadPadding, BadVersion, DeviceFault, Full, Halted, InFlight, IndexFull, Misplaced, NoRound, NotSweepable, Refusal as Ground, StillLive, TooLarge, WornOut}
use Rattle.law_refinement.specs.Refusals.{refusal_for}

pub same_number : (f : Ground) → number_of (refusal_for f) ≡ number_in_machine f
same_number DeviceFault = refl
same_number InFlight = refl
same_number BadMagic = refl
same_number BadDigest = refl
same_number BadLength = refl
same_number BadPadding = refl
same_number BadVersion = refl
same_number Misplaced = refl
same_number Full = refl
same_number TooLarge = refl
same_number IndexFull = refl
same_number NotSweepable = refl
same_number StillLive = refl
same_number WornOut = refl
same_number Halted = refl
same_number NoRound = refl

-- a fault that a frame may have of its own is one refusal by both
in_range_one : (f : FormatFault) → 20 ≤ fault_number f → fault_number f ≤ 24 → refusal_of_fault f ≡ refusal_for (refusal_of f)
in_range_one fault.BadGeometry low high = absurd (let le : 20 ≤ 7 = low in omega arith)
in_range_one fault.OutOfMemory low high = absurd (let le : 20 ≤ 9 = low in omega arith)
in_range_one fault.OutOfOrder low high = absurd (let le : 25 ≤ 24 = high in omega arith)
in_range_one fault.Misplaced low high = refl
in_range_one fault.BadMagic low high = refl
in_range_one fault.BadDigest low high = refl
in_range_one fault.BadLength low high = refl
in_range_one fault.BadPadding low high = refl
in_range_one fault.BadVersion low high = refl

pub one_refusal : (x : ExtentsState) (view : ℕ → List ℕ) (kind : FrameKind) (l : Locator) (f : FormatFault) → fault_in x view kind l ≡ Some f
    → refusal_of_fault f ≡ refusal_for (refusal_of f)
one_refusal x view kind l f at = ⊎_elim
    (λ (own : frame_fault (number_in (shape x).format) (kind_byte kind) (pages_in x view l) ≡ Some f).
    let range = in_range (number_in (shape x).format) (kind_byte kind) (pages_in x view l) f own in in_range_one f range.0 range.1)
    (λ (other : (frame_fault (number_in (shape x).format) (kind_byte kind) (pages_in x view l) ≡ None) × ((f ≡ fault.Misplaced) ⊎ (f ≡ fault.BadLength))). ⊎_elim
    (λ (is : f ≡ fault.Misplaced). subst (λ (g : FormatFault). refusal_of_fault g ≡ refusal_for (refusal_of g)) (sym is) refl)
    (λ (is : f ≡ fault.BadLength). subst (λ (g : FormatFault). refusal_of_fault g ≡ refusal_for (refusal_of g)) (sym is) refl) other.1)
    (meant_finds (frame_fault (number_in (shape x).format) (kind_byte kind) (pages_in x view l)) (mark_in (shape x).format (first_page (pages_in x view l)) == l.mark)
    (is_long_in (shape x).format (first_page (pages_in x view l))) f at)
