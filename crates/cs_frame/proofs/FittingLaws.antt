-- Each run and each chunk fits on an extent.
use Rattle.std.proofs.Common.{◌≡◌, le_of_eq, le_trans, ℕ, ◌+◌, ◌≤◌, List, length, map, ap, ◌∙◌, arith}
use Rattle.law_machine.specs.Device.{Shape}
use Rattle.law_machine.specs.Element.{Entry as NamedEntry}
use Rattle.law_machine.specs.Format.{Format, Four, Two}
use Rattle.law_machine.specs.Formats.{ChunkFrame, RunFrame}
use Rattle.law_machine.specs.Geometry.{chunk_bytes_in, head_bytes_in, shape_of}
use Rattle.law_machine.specs.Index.{IsRunList, run_weight}
use Rattle.cs_frame.specs.Formats.{as_entry, formats_of}
use Rattle.cs_frame.specs.FormatNumbers.{number_in}
use Rattle.cs_frame.specs.Frames.{frame_bytes, page_count, spelled_frame}
use Rattle.cs_frame.specs.Heads.{chunk_in}
use Rattle.cs_frame.specs.Geometries.{IsGeometry, section_size, weight_bytes}
use Rattle.cs_frame.specs.FormatRuns.{spelled_run}
use Rattle.cs_frame.proofs.HeadLaws.{length-chunk}
use Rattle.cs_frame.proofs.Pieces.{length-first_chunks}
use Rattle.cs_frame.proofs.RunWeights.{fits_where, payload_weighs}

-- a head and a piece as long as may be have no more than one extent
whole_fits : (format : Format) (pages piece whole : ℕ) → 2 ≤ pages → piece ≤ chunk_bytes_in format pages → whole ≡ piece + head_bytes_in format → page_count whole ≤ pages
whole_fits Two pages piece whole some short is = omega (arith, short, is, some)
whole_fits (Four store device) pages piece whole some short is = omega (arith, short, is, some)

module _ (extents pages sections : ℕ) (format : Format) (is : IsGeometry format extents pages sections) where
  abbrev S : Shape
  S = shape_of extents pages sections (section_size extents sections) format

  pub runs_fit : (entries : List NamedEntry) → IsRunList S entries
      → length ((formats_of S).frame RunFrame ((formats_of S).run entries)) ≤ S.pages
  runs_fit entries list =
      let payload : List ℕ = spelled_run format (map as_entry entries) in
      let frame : length (spelled_frame (number_in format) 1 payload) ≡ page_count (length payload) =
      length-first_chunks 4096 (page_count (length payload)) (frame_bytes (number_in format) 1 payload) in
      let whole : length payload ≡ weight_bytes format (run_weight S.weigh entries) =
      payload_weighs extents pages sections (section_size extents sections) format entries is.fits_format (λ x there. (list.locators x there).0) in
      le_trans (le_of_eq (frame ∙ ap page_count whole))
      ((fits_where format pages (run_weight S.weigh entries) (le_trans (omega arith) is.fewest_pages)).1 list.weight_fits)

  pub chunks_fit : (id number count command : ℕ) (piece : List ℕ) → length piece ≤ S.chunk_bytes
      → length ((formats_of S).frame ChunkFrame ((formats_of S).chunk id number count command piece)) ≤ S.pages
  chunks_fit id number count command piece short =
      let chunk : List ℕ = chunk_in format id number count command piece in
      let frame : length (spelled_frame (number_in format) 0 chunk) ≡ page_count (length chunk) =
      length-first_chunks 4096 (page_count (length chunk)) (frame_bytes (number_in format) 0 chunk) in
      le_trans (le_of_eq frame) (whole_fits format pages (length piece) (length chunk) is.fewest_pages short (length-chunk format id number count command piece is.fits_format))
