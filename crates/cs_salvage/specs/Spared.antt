-- What damage left of a device that was whole.
use Rattle.std.specs.Prelude.{◌≡◌, ◌<◌, ℕ, List}
use Rattle.cs_extent.specs.State.{State as ExtentsState, shape}
use Rattle.cs_frame.specs.Formats.{formats_of}
use Rattle.cs_index.specs.State.{index_of}
use Rattle.law_machine.specs.Element.{Locator as Place}
use Rattle.law_machine.specs.Formats.{ChunkFrame, FrameKind, RunFrame, Stand, places}
use Rattle.law_machine.specs.Index.{live_at}
use Rattle.law_machine.specs.Lists.{◌∈◌}
use Rattle.cs_salvage.specs.Founds.{Found}

-- a frame of this kind that lay at a place in the one image lies there in the other too
abbrev pub LiesStill : ExtentsState → (whole view : ℕ → List ℕ) → FrameKind → Place → Type 0
LiesStill x whole view kind l = (payload : List ℕ)
    → Stand (shape x) (formats_of (shape x)) whole l.extent l.page ((formats_of (shape x)).frame kind payload)
    → Stand (shape x) (formats_of (shape x)) view l.extent l.page ((formats_of (shape x)).frame kind payload)

-- Of a device that read as `whole` these are left as they were: the pages of superblock and root, the frames of the
-- runs that were read, and those of the chunks that these runs name under an identifier. All else may be damaged.
pub record IsSpared (f : Found) (whole view : ℕ → List ℕ) (id : ℕ) : Type 0 where
  pub superblock : (j : ℕ) → j < (shape f.extents).sections → view ((shape f.extents).section_page j) ≡ whole ((shape f.extents).section_page j)
  pub root : view (shape f.extents).root_page ≡ whole (shape f.extents).root_page
  pub runs : (l : Place) → l ∈ places f.index.runs → LiesStill f.extents whole view RunFrame l
  pub chunks : (l : Place) → l ∈ live_at (index_of f.index) id → LiesStill f.extents whole view ChunkFrame l
