-- The formats have room.
use Rattle.std.proofs.Common.{◌≡◌, ℕ, true, length, true≢false, refl, sym, arith}
use Rattle.cs_extent.specs.State.{State as ExtentsState, shape}
use Rattle.cs_frame.proofs.FittingLaws.{chunks_fit, runs_fit}
use Rattle.cs_frame.proofs.FormatLaws.{is_format}
use Rattle.cs_frame.proofs.GeometryLaws.{bounds}
use Rattle.cs_frame.proofs.TellingLaws.{tells}
use Rattle.cs_frame.specs.Formats.{formats_of}
use Rattle.cs_frame.specs.Geometries.{IsGeometry, section_size}
use Rattle.law_machine.specs.Device.{Shape}
use Rattle.law_machine.specs.Format.{Format, Four, Two}
use Rattle.law_machine.specs.Frames.{IsFormat}
use Rattle.law_machine.specs.Geometry.{apart_in, fills_in, shape_of}
use Rattle.law_room.specs.Lives.{IsFormatWithRoom}
use Rattle.law_room.specs.OfMachine.{ChunksFit}
use Rattle.law_room_in_store.specs.Images.{HasGeometry}

-- where chunks and runs lie apart extents are filled up
pub fills_apart : (format : Format) → apart_in format ≡ true → fills_in format ≡ true
fills_apart Two wrong = absurd (true≢false (sym wrong))
fills_apart (Four store device) apart = refl

module _ (format : Format) (extents pages sections : ℕ) (geometry : IsGeometry format extents pages sections) where
  abbrev S : Shape
  S = shape_of extents pages sections (section_size extents sections) format

  pub have_room : IsFormatWithRoom S (formats_of S)
  have_room = record {
    tells = λ f k j v w a b p g q h inside first second fits also same e lt at.
        tells S geometry.fits_format (omega (arith, (bounds format extents pages sections geometry).most_pages)) (omega arith)
        j p g q h fits also f k v w a b same e lt at;
    fits = λ entries list. runs_fit extents pages sections format geometry entries list;
  }

  pub chunks_have_room : ChunksFit S (formats_of S)
  chunks_have_room = λ id number count command piece short.
      chunks_fit extents pages sections format geometry id number count command piece short

module _ (x : ExtentsState) (geometry : HasGeometry x) where
  pub store_has_room : IsFormatWithRoom (shape x) (formats_of (shape x))
  store_has_room = have_room x.format (length x.written) x.pages x.sections geometry

  pub chunks_of_store : ChunksFit (shape x) (formats_of (shape x))
  chunks_of_store = chunks_have_room x.format (length x.written) x.pages x.sections geometry

  pub format_is : IsFormat (shape x) (formats_of (shape x))
  format_is = is_format x.format (length x.written) x.pages x.sections geometry
