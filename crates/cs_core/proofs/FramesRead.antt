-- The frames of a state are read of the store that is in it.
use Rattle.std.proofs.Common.{◌≡◌, ℕ, suc, ◌+◌, ◌<◌, ◌≤◌, List, [], ◌∷◌, length, le_of_eq, le_trans, sym, ap, ◌∙◌, arith}
use Rattle.cs_chunk.specs.Chunks.{IsFrameIn, end_in}
use Rattle.cs_disk.specs.Disk.{Image, page}
use Rattle.cs_extent.specs.State.{IsWhole, State as ExtentsState, extents_of, shape}
use Rattle.cs_frame.specs.Formats.{as_locator, formats_of}
use Rattle.law_machine.proofs.Frozen.{reach_now, within_now}
use Rattle.law_machine.specs.Device.{Page, PageKind}
use Rattle.law_machine.specs.Element.{Locator as Place}
use Rattle.law_machine.specs.Events.{ReadsNow, newest_page}
use Rattle.law_machine.specs.Extents.{Extents, reach}
use Rattle.law_machine.specs.Formats.{ChunkFrame, Stand}
use Rattle.law_machine.specs.Sound.{Sound}
use Rattle.law_machine.specs.State.{State}
use Rattle.law_refinement.proofs.Shapes.{store_shape}
use Rattle.law_refinement.specs.Devices.{pages_now, read_by}
use Rattle.law_refinement.specs.Stores.{FoundAsMuch}

module _ (x : ExtentsState) (s : State) (same : s.world.extents ≡ extents_of x) where
  -- as many pages were found of its extents
  pub found_as_much : FoundAsMuch x s.world
  found_as_much on e = ap (λ (g : Extents). g.found e) (sym same)

  module _ (held : Image) (whole : IsWhole x) (sound : Sound (shape x) (formats_of (shape x)) s) where
    read_back : (e i : ℕ) (bs : List Page) → e < (shape x).extents → i + length bs ≤ (shape x).pages
        → Stand (shape x) (formats_of (shape x)) (newest_page s) e i bs → Stand (shape x) (formats_of (shape x)) (pages_now (shape x) s held) e i bs
    read_back e i [] there fits stand = tt
    read_back e i (b ∷ bs) there fits stand = (
      ap (λ (k : PageKind). read_by k (newest_page s ((shape x).address e i)) (page held ((shape x).address e i))) ((store_shape x whole).frame_kind e i (there, omega arith)) ∙ stand.0,
      read_back e (suc i) bs there (omega arith) stand.1,
    )

    -- a frame reaches no further than the extents let it
    within : (l : Place) (payload : List ℕ) → ReadsNow (shape x) (formats_of (shape x)) s l ChunkFrame payload
        → l.page + length ((formats_of (shape x)).frame ChunkFrame payload) ≤ end_in x (as_locator l)
    within l payload reads =
        let end : reach_now (shape x) (formats_of (shape x)) s sound l ≡ end_in x (as_locator l) = ap (λ (g : Extents). reach (shape x) (g.found l.extent) l.page) same in
        le_trans (within_now (shape x) (formats_of (shape x)) s sound l ((formats_of (shape x)).frame ChunkFrame payload) reads) (le_of_eq end)

    -- a frame that the newest pages have is read
    pub frame_read : (l : Place) (payload : List ℕ) → ReadsNow (shape x) (formats_of (shape x)) s l ChunkFrame payload → IsFrameIn x (pages_now (shape x) s held) ChunkFrame (as_locator l) payload
    frame_read l payload reads = (
      within l payload reads,
      read_back l.extent l.page ((formats_of (shape x)).frame ChunkFrame payload) reads.passes.inside.0 reads.inside reads.stand,
      reads.marked,
      reads.long,
    )
