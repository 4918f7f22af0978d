-- Whole shards and puts.
use Rattle.std.proofs.Common.{◌≡◌, ◌∙◌, ℕ, zero, suc, ◌+◌, ◌<◌, ◌^◌, true, List, [], ◌∷◌, ◌++◌, length, get_or, refl, sym, ap, subst, arith}
use Rattle.std.specs.List.{AllZip}
use Rattle.std.proofs.lemmas.List.{ext_get_or, get_or_read, length-take-le}
use Rattle.cs_disk.specs.Disk.{Image}
use Rattle.cs_frame.specs.Geometries.{Dimensions, FitsFormat, IsGeometry}
use Rattle.cs_frame.specs.Heads.{chunk_in, spelled_head}
use Rattle.cs_frame.specs.Identifiers.{id_number}
use Rattle.cs_frame.proofs.FormatLaws.{is_format}
use Rattle.cs_frame.proofs.HeadTelling.{one_head}
use Rattle.law_machine.proofs.Payloads.{length_heads, payloads_bytes}
use Rattle.law_machine.specs.Events.{ArePayloads, headed}
use Rattle.law_machine.specs.Format.{Format, Four, Two}
use Rattle.law_machine.specs.Formats.{Formats}
use Rattle.law_machine.specs.Geometry.{heads_in, store_front}
use Rattle.law_machine.specs.Index.{joined_bodies}
use Rattle.cs_salvage.specs.declared.parts.Part.{Part}
use Rattle.cs_salvage.specs.declared.parts.Put.{Put}
use Rattle.cs_salvage.specs.declared.searches.Sought.{Sought}
use Rattle.cs_salvage.specs.Parts.{IsPart, formats_in, shape_in}
use Rattle.cs_salvage.specs.Shards.{AreAllOf, HasOnly, put_of}
use Rattle.cs_salvage.proofs.Zips.{length_zip, zip_at}

-- the payload of a number
head_at : (F : Formats) (id number count command : ℕ) (pieces : List (List ℕ)) (j : ℕ) → j < length pieces
    → get_or (headed F id number count command pieces) j [] ≡ F.chunk id (number + j) count command (get_or pieces j [])
head_at F id number count command [] j lt = absurd (omega (arith, lt))
head_at F id number count command (piece ∷ pieces) zero lt = let same : number ≡ number + 0 = omega arith in ap (λ (n : ℕ). F.chunk id n count command piece) same
head_at F id number count command (piece ∷ pieces) (suc j) lt =
    let same : suc number + j ≡ number + suc j = omega arith in
    head_at F id (suc number) count command pieces j (omega (arith, lt)) ∙ ap (λ (n : ℕ). F.chunk id n count command (get_or pieces j [])) same

-- in a format that has heads a payload ends with its own
with_head : (format : Format) (id number count command : ℕ) (piece : List ℕ) → heads_in format ≡ true
    → chunk_in format id number count command piece ≡ piece ++ spelled_head id number count command (store_front format)
with_head Two id number count command piece heads = absurd (cc heads)
with_head (Four store device) id number count command piece heads = refl

-- and the front of its store's identity has eight bytes
pub eight_bytes : (format : Format) → FitsFormat format → heads_in format ≡ true → length (store_front format) ≡ 8
eight_bytes Two fits heads = absurd (cc heads)
eight_bytes (Four store device) fits heads = length-take-le 8 store (omega (arith, fits.0.size))

module _ (g : Dimensions) (put : Put) (bytes : List ℕ) (payloads : List (List ℕ))
    (are : ArePayloads (shape_in g) (formats_in g) (id_number put.id) put.command bytes payloads) where
  pub many : length payloads ≡ length are.0
  many = ap length are.2 ∙ length_heads (formats_in g) (id_number put.id) 0 (length are.0) put.command are.0

  -- the payload of a number, in a format that has heads
  pub payload_at : heads_in g.format ≡ true → (k : ℕ) → k < length payloads
      → get_or payloads k [] ≡ get_or are.0 k [] ++ spelled_head (id_number put.id) k (length payloads) put.command (store_front g.format)
  payload_at heads k lt =
      let from_zero : 0 + k ≡ k = omega arith in
      ap (λ (cs : List (List ℕ)). get_or cs k []) are.2 ∙ head_at (formats_in g) (id_number put.id) 0 (length are.0) put.command are.0 k (omega (arith, lt, many))
      ∙ ap (λ (n : ℕ). chunk_in g.format (id_number put.id) n (length are.0) put.command (get_or are.0 k [])) from_zero
      ∙ with_head g.format (id_number put.id) k (length are.0) put.command (get_or are.0 k []) heads
      ∙ ap (λ (n : ℕ). get_or are.0 k [] ++ spelled_head (id_number put.id) k n put.command (store_front g.format)) (sym many)

module _ (sought : Sought) (image : Image) (put : Put) (bytes : List ℕ) (payloads : List (List ℕ))
    (are : ArePayloads (shape_in sought.geometry) (formats_in sought.geometry) (id_number put.id) put.command bytes payloads) where
  -- a part of the put has the payload of its number, is of the store, and says as many as there are
  pub record IsOfPut (part : Part) (payload : List ℕ) : Type 0 where
    pub inside : part.head.number < length payloads
    pub own : payload ≡ get_or payloads part.head.number []
    pub store : part.store ≡ store_front sought.geometry.format
    pub count : part.head.count ≡ length payloads

  pub part_of_put : FitsFormat sought.geometry.format → HasOnly sought image put payloads → (part : Part) (payload : List ℕ) → IsPart sought image part payload → put_of part ≡ put → IsOfPut part payload
  part_of_put fits only part payload is of =
      let has = only part payload is of in
      let small : put.command < 2 ^ 64 = subst (λ (p : Put). p.command < 2 ^ 64) of is.spellable.1 in
      let there : payload ≡ get_or payloads has.0 [] = get_or_read payloads has.0 payload has.1 (sym has.2) [] in
      let own : payload ≡ is.head.0 ++ spelled_head (id_number put.id) part.head.number part.head.count put.command part.store =
      is.head.1 ∙ ap (λ (p : Put). is.head.0 ++ spelled_head (id_number p.id) part.head.number part.head.count p.command part.store) of in
      let same = one_head (id_number put.id) part.head.number part.head.count put.command (id_number put.id) has.0 (length payloads) put.command
      part.store (store_front sought.geometry.format) is.head.0 (get_or are.0 has.0 []) is.spellable.2 (eight_bytes sought.geometry.format fits is.heads) small small
      (sym own ∙ there ∙ payload_at sought.geometry put bytes payloads are is.heads has.0 has.1) in
      record {
        inside = omega (arith, same.1, has.1);
        own = there ∙ ap (λ (n : ℕ). get_or payloads n []) (sym same.1);
        store = same.4;
        count = same.2;
      }

  pub is_put : IsGeometry sought.geometry.format sought.geometry.extents sought.geometry.pages sought.geometry.sections → HasOnly sought image put payloads → (parts pieces : List Part) (read : List (List ℕ))
      → AreAllOf parts put pieces → AllZip (IsPart sought image) pieces read → joined_bodies (formats_in sought.geometry) read ≡ bytes
  is_put known only parts pieces read all zip = go pieces all.some each (length_zip (IsPart sought image) pieces read zip)
    where
      -- what was read of a number is the payload of that number, of as many
      each : (k : ℕ) → k < length pieces → (d : Part) → (length pieces ≡ length payloads) × (get_or read k [] ≡ get_or payloads k [])
      each k lt d =
          let is = part_of_put known.fits_format only (get_or pieces k d) (get_or read k []) (zip_at (IsPart sought image) pieces read k d [] zip lt) (all.own k d lt) in
          (sym (all.counted k d lt) ∙ is.count, is.own ∙ ap (λ (n : ℕ). get_or payloads n []) (all.numbered k d lt))

      go : (ps : List Part) → 0 < length ps → ((k : ℕ) → k < length ps → (d : Part) → (length ps ≡ length payloads) × (get_or read k [] ≡ get_or payloads k []))
          → length ps ≡ length read → joined_bodies (formats_in sought.geometry) read ≡ bytes
      go [] some all_same size = absurd (omega (arith, some))
      go (p ∷ ps) some all_same size =
          let count = (all_same 0 some p).0 in
          let same : read ≡ payloads = ext_get_or [] read payloads (sym size ∙ count) (λ k lt. (all_same k (omega (arith, lt, size)) p).1) in
          ap (joined_bodies (formats_in sought.geometry)) same ∙ payloads_bytes (shape_in sought.geometry) (formats_in sought.geometry) (is_format sought.geometry.format sought.geometry.extents sought.geometry.pages sought.geometry.sections known) (id_number put.id) put.command bytes payloads are
