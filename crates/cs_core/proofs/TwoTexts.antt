-- What places mean is one text, or two at one place agree in eight bytes of their digests.
use Rattle.std.proofs.Common.{◌≡◌, ◌∙◌, ℕ, true, List, map, sym, ap, inl, inr, ⊎_elim}
use Rattle.cs_chunk.proofs.Digests.{agree, one_or_two}
use Rattle.cs_chunk.specs.Chunks.{TwoAgree}
use Rattle.cs_extent.specs.State.{shape}
use Rattle.cs_frame.specs.Formats.{as_locator, formats_of}
use Rattle.cs_index.specs.State.{index_of}
use Rattle.law_machine.specs.Geometry.{marks_in}
use Rattle.law_machine.specs.Index.{joined_bodies, live_at}
use Rattle.cs_core.specs.Lookups.{AreMeantBytes, SameOrTwoAgree}
use Rattle.cs_core.specs.Stored.{Stored}

pub same_or_two : (v : Stored) (id : ℕ) (bytes told : List ℕ) → marks_in v.extents.format ≡ true → AreMeantBytes v id bytes → AreMeantBytes v id told
    → SameOrTwoAgree v id bytes told
same_or_two v id bytes told on had meant =
    ⊎_elim (λ (same : meant.0 ≡ had.0). inl (meant.2 ∙ ap (joined_bodies (formats_of (shape v.extents))) same ∙ sym had.2))
    (λ (two : TwoAgree meant.0 had.0). inr (meant, had, two))
    (one_or_two meant.0 had.0 (agree v.extents (map as_locator (live_at (index_of v.index) id)) meant.0 had.0 on meant.1 had.1))
