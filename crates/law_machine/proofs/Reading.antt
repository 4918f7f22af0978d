-- What is appended is read, and what was read before is read as before.
use Rattle.std.proofs.Common.{◌≡◌, Bool, true, inl, inr, ⊎_elim, ℕ, ◌<◌, ◌≤◌, List, subst, sym}
use Rattle.std.proofs.lemmas.Bool.{cases_lt}
use Rattle.law_machine.proofs.Carries.{carry_reads}
use Rattle.law_machine.proofs.Frames.{added, put_in}
use Rattle.law_machine.specs.Append.{AppendsChunksBy, AppendsFrameBy}
use Rattle.law_machine.specs.Device.{IsShape, Shape}
use Rattle.law_machine.specs.Element.{Locator, Opening}
use Rattle.law_machine.specs.Events.{ReadsNow, newest_page}
use Rattle.law_machine.specs.Extents.{Purpose}
use Rattle.law_machine.specs.Formats.{Formats, FrameKind, is_long_frame}
use Rattle.law_machine.specs.Frames.{AreLong, IsFormat}
use Rattle.law_machine.specs.Index.{Chunks, Reads}
use Rattle.law_machine.specs.Machine.{PastGreatest, World}
use Rattle.law_machine.specs.Sound.{Sound}
use Rattle.law_machine.specs.State.{State}

in_bounds : (S : Shape) (w : World) → (PastGreatest S w → ⊥) → (j : ℕ) → j < S.sections
    → w.superblocks j ≤ S.greatest_number
in_bounds S w fits j lt = ⊎_elim
    (λ (past : S.greatest_number < w.superblocks j). absurd (fits (inr (inl (j, lt, past)))))
    (λ (le : w.superblocks j ≤ S.greatest_number). le)
    (cases_lt S.greatest_number (w.superblocks j))

pub frame_sound_by : (S : Shape) (F : Formats) (apart : Bool) (s t : State) (purpose : Purpose) (kind : FrameKind)
    (payload : List ℕ) (l : Locator) → (apart ≡ true → S.apart ≡ true)
    → IsShape S → IsFormat S F → Sound S F s → (PastGreatest S t.world → ⊥)
    → AppendsFrameBy S F apart s purpose kind payload l t → Sound S F t
frame_sound_by S F apart s t purpose kind payload l by shape format sound fits a =
    (added S F shape format apart by s t purpose kind payload l sound a (in_bounds S t.world fits)).sound

pub frame_read_by : (S : Shape) (F : Formats) (apart : Bool) (s t : State) (purpose : Purpose) (kind : FrameKind)
    (payload : List ℕ) (l : Locator) → (apart ≡ true → S.apart ≡ true)
    → IsShape S → IsFormat S F → Sound S F s → (PastGreatest S t.world → ⊥)
    → is_long_frame F (F.frame kind payload) ≡ true
    → AppendsFrameBy S F apart s purpose kind payload l t → ReadsNow S F t l kind payload
frame_read_by S F apart s t purpose kind payload l by shape format sound fits long a =
    (added S F shape format apart by s t purpose kind payload l sound a (in_bounds S t.world fits)).reads (λ inside. long)

pub read_before_by : (S : Shape) (F : Formats) (apart : Bool) (s t : State) (purpose : Purpose) (kind old : FrameKind)
    (payload bytes : List ℕ) (l k : Locator) → (apart ≡ true → S.apart ≡ true)
    → IsShape S → IsFormat S F → Sound S F s → (PastGreatest S t.world → ⊥)
    → AppendsFrameBy S F apart s purpose kind payload l t
    → ReadsNow S F s k old bytes → ReadsNow S F t k old bytes
read_before_by S F apart s t purpose kind old payload bytes l k by shape format sound fits a reads =
    let step = added S F shape format apart by s t purpose kind payload l sound a (in_bounds S t.world fits) in
    subst (λ (o : Opening). Reads S F o (newest_page t) t.world.extents.pointer t.world.extents.generation k
    (F.frame old bytes)) (sym step.opening)
    (carry_reads S F s.opening (newest_page t)
    (newest_page s) s.world.extents.pointer s.world.extents.generation t.world.extents.pointer
    t.world.extents.generation
    step.carries step.still k (F.frame old bytes) reads)

pub chunks_read_by : (S : Shape) (F : Formats) (apart : Bool) (s t : State) (cs : List (List ℕ)) (ls : List Locator)
    → (apart ≡ true → S.apart ≡ true)
    → IsShape S → IsFormat S F → Sound S F s → (PastGreatest S t.world → ⊥) → AreLong S F cs
    → AppendsChunksBy S F apart s cs ls t
    → Chunks S F t.opening (newest_page t) t.world.extents.pointer t.world.extents.generation ls cs
chunks_read_by S F apart s t cs ls by shape format sound fits long a =
    (put_in S F shape format apart by s t cs ls sound a (in_bounds S t.world fits)).chunks long
