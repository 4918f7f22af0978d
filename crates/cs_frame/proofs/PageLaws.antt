-- A page that is sealed and padded: what its tests say of it, and that they pass where it was written.
use Rattle.std.proofs.Common.{◌≡◌, ℕ, ◌+◌, ◌-◌, ◌≤◌, true, List, [], ◌∷◌, ◌++◌, length, take, drop, slice_index, refl, sym, ap, ◌∙◌, arith, append_assoc, length-append}
use Rattle.std.proofs.lemmas.List.{take_at, drop_at, length-drop, length-take-le, length-replicate, take-append-drop}
use Rattle.sha2.specs.Sha256.{sha256}
use Rattle.sha2.proofs.Facts256.{length-sha256}
use Rattle.cs_frame.specs.Bytes.{all_zero, field, zeros}
use Rattle.cs_frame.specs.Pages.{padded, sealed}
use Rattle.cs_frame.proofs.Fields.{field_1, field_at, take-field}
use Rattle.cs_frame.proofs.TestLaws.{all_zeros, all_zero-zeros}

-- the fourth byte after the first three
pub four_bytes : (page magic : List ℕ) (digit : ℕ) → 4 ≤ length page → field 0 3 page ≡ magic → slice_index page 3 ≡ digit → take 4 page ≡ magic ++ digit ∷ []
four_bytes page magic digit long three fourth =
    take-field page 3 4 (omega arith) ∙ ap (λ (xs : List ℕ). xs ++ field 3 4 page) three ∙ ap (λ (xs : List ℕ). magic ++ xs) (field_1 page 3 4 refl long ∙ ap (λ (b : ℕ). b ∷ []) fourth)

-- a page with its digest and zeros after it is what was read before the digest, sealed and padded
pub page_is_padded : (page : List ℕ) (end : ℕ) → length page ≡ 4096 → end + 32 ≤ 4096 → field end (end + 32) page ≡ sha256 (take end page) → all_zero (drop (end + 32) page) ≡ true → page ≡ padded (sealed (take end page))
page_is_padded page end size fits digest padding =
    let text : List ℕ = take end page in
    let long : length (sealed text) ≡ end + 32 = omega (arith, length-append text (sha256 text), length-sha256 text, length-take-le end page (omega arith)) in
    let rest : length (drop (end + 32) page) ≡ 4096 - length (sealed text) = omega (arith, length-drop (end + 32) page) in
    sym (take-append-drop (end + 32) page)
    ∙ ap (λ (xs : List ℕ). xs ++ drop (end + 32) page) (take-field page end (end + 32) (omega arith) ∙ ap (λ (xs : List ℕ). text ++ xs) digest)
    ∙ ap (λ (xs : List ℕ). sealed text ++ xs) (all_zeros (drop (end + 32) page) padding ∙ ap zeros rest)

module _ (text : List ℕ) (fits : length text + 32 ≤ 4096) where
  long : length (sealed text) ≡ length text + 32
  long = omega (arith, length-append text (sha256 text), length-sha256 text)

  -- what was sealed and padded is a page
  pub length-padded : length (padded (sealed text)) ≡ 4096
  length-padded = omega (arith, length-append (sealed text) (zeros (4096 - length (sealed text))), length-replicate {A = ℕ} (4096 - length (sealed text)) 0, long)

  grouped : padded (sealed text) ≡ text ++ (sha256 text ++ zeros (4096 - length (sealed text)))
  grouped = append_assoc text (sha256 text) (zeros (4096 - length (sealed text)))

  pub text_of_padded : (end : ℕ) → length text ≡ end → take end (padded (sealed text)) ≡ text
  text_of_padded end e = ap (take end) grouped ∙ take_at text _ end e

  pub digest_of_padded : (end : ℕ) → length text ≡ end → field end (end + 32) (padded (sealed text)) ≡ sha256 (take end (padded (sealed text)))
  digest_of_padded end e =
      field_at (padded (sealed text)) (sha256 text) (zeros (4096 - length (sealed text))) end (end + 32) (ap (drop end) grouped ∙ drop_at text _ end e) (omega (arith, length-sha256 text)) ∙ ap sha256 (sym (text_of_padded end e))

  pub zeros_of_padded : (end : ℕ) → length text ≡ end → all_zero (drop (end + 32) (padded (sealed text))) ≡ true
  zeros_of_padded end e =
      ap all_zero (drop_at (sealed text) (zeros (4096 - length (sealed text))) (end + 32) (omega (arith, long))) ∙ all_zero-zeros (4096 - length (sealed text))
