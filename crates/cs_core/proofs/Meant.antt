-- What the places of an identifier mean is what the map has.
use Rattle.std.proofs.Common.{◌≡◌, inl, inr, ◌∙◌, ℕ, true, List, [], ◌∷◌, ◌++◌, Some, map, ap}
use Rattle.cs_core.proofs.TwoTexts.{same_or_two}
use Rattle.cs_chunk.specs.Chunks.{AreMeant}
use Rattle.cs_extent.specs.State.{State as ExtentsState, shape}
use Rattle.cs_frame.specs.Formats.{as_locator, formats_of}
use Rattle.cs_index.specs.State.{index_of}
use Rattle.law_machine.specs.Device.{Page}
use Rattle.law_machine.specs.Element.{Bytes, Damaged, Locator as Place, Opening}
use Rattle.law_machine.specs.Events.{newest_page}
use Rattle.law_machine.specs.Geometry.{marks_in}
use Rattle.law_machine.specs.Index.{ReadsAs, joined_bodies, live_at}
use Rattle.law_machine.specs.State.{State, map_now}
use Rattle.cs_core.specs.Lookups.{AreMeantBytes, SameOrTwoAgree}
use Rattle.cs_core.specs.States.{IsStateOf}
use Rattle.cs_core.specs.Stored.{Stored}
use Rattle.cs_core.proofs.Sizes.{reads_there}

-- where reading gives bytes, the places mean chunks of these bytes
module _ (x : ExtentsState) (opening : Opening) (view : ℕ → Page) (pointers generations : ℕ → ℕ) where
  meant_there : (ks : List Place) (bytes : List ℕ) → ReadsAs (shape x) (formats_of (shape x)) opening view pointers generations ks (Bytes bytes)
      → (cs : List (List ℕ)) × AreMeant (shape x) (map as_locator ks) cs × (bytes ≡ joined_bodies (formats_of (shape x)) cs)
  meant_there [] bytes reads = ([], tt, (let e : Bytes bytes ≡ Bytes [] = reads in cc))
  meant_there (k ∷ ks) bytes (inl (chunk, Bytes rest, reads, more, is)) =
      let others = meant_there ks rest more in
      let joins : bytes ≡ (formats_of (shape x)).body chunk ++ rest = (let e : Bytes bytes ≡ Bytes ((formats_of (shape x)).body chunk ++ rest) = is in cc) in
      (chunk ∷ others.0, (reads.marked, others.1), joins ∙ ap (λ (ys : List ℕ). (formats_of (shape x)).body chunk ++ ys) others.2)
  meant_there (k ∷ ks) bytes (inl (chunk, Damaged f, reads, more, is)) = absurd (let e : Bytes bytes ≡ Damaged f = is in cc)
  meant_there (k ∷ ks) bytes (inr (f, damage, is)) = absurd (cc is)

-- bytes that they mean are those, or two different texts at one place have one mark
pub told_is_there : (v : Stored) (s : State) (id : ℕ) (bytes told : List ℕ) → IsStateOf v s → marks_in v.extents.format ≡ true → map_now s id ≡ Some (Bytes bytes)
    → AreMeantBytes v id told → SameOrTwoAgree v id bytes told
told_is_there v s id bytes told is on there meant =
    same_or_two v id bytes told on (meant_there v.extents s.opening (newest_page s) s.world.extents.pointer s.world.extents.generation (live_at (index_of v.index) id) bytes
    (reads_there (shape v.extents) (formats_of (shape v.extents)) s is.sound v.index is.parts.index id bytes there)) meant
