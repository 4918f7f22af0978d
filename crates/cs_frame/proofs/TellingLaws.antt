-- The page of a section tells the pointers of its extents.
use Rattle.std.proofs.Common.{◌≡◌, inl, inr, ℕ, zero, suc, ◌+◌, ◌*◌, ◌≤◌, ◌<◌, ◌^◌, ◌==◌, Bool, true, false, List, [], ◌∷◌, ◌++◌, ◌-◌, length, length-append, take, drop, codes, slice_index, if◌then◌else◌, eq-eqb, refl, sym, ap, ◌∙◌, subst, arith, append_assoc}
use Rattle.std.specs.List.{AllByRecursion}
use Rattle.std.proofs.lemmas.Bool.{cases_eq, true≢false}
use Rattle.std.proofs.lemmas.List.{drop_at, take_at}
use Rattle.byteorder.specs.Endian.{big_bytes}
use Rattle.sha2.specs.Sha256.{sha256}
use Rattle.law_machine.specs.Device.{Shape}
use Rattle.law_machine.specs.Safe.{FitsExtent as IsInBounds}
use Rattle.cs_frame.specs.Bytes.{zeros}
use Rattle.cs_frame.specs.FirstFormat.{first_format_fields, spelled_first_format}
use Rattle.cs_frame.specs.Formats.{extents_of, formats_of, is_first_format}
use Rattle.cs_frame.specs.FormatNumbers.{number_in, section_digit}
use Rattle.cs_frame.specs.Geometries.{FitsFormat}
use Rattle.cs_frame.specs.Pages.{padded, sealed}
use Rattle.cs_frame.specs.Pointers.{FitsExtent, extents_from, spelled_extents}
use Rattle.cs_frame.specs.Superblocks.{spelled_store, spelled_superblock, superblock_fields, superblock_start}
use Rattle.cs_frame.proofs.ExtentPageLaws.{extents_from-spelled}
use Rattle.cs_frame.proofs.FirstFormatLaws.{length-first_format_fields, not_first}
use Rattle.cs_frame.proofs.SuperblockLaws.{length-spelled_store, length-superblock_fields}

-- two texts of one length that are sealed and padded to one page are one
one_text : (a b : List ℕ) → length a ≡ length b → padded (sealed a) ≡ padded (sealed b) → a ≡ b
one_text a b same is = sym (front a (length a) refl) ∙ ap (take (length a)) is ∙ front b (length a) (sym same)
  where
    front : (text : List ℕ) (end : ℕ) → length text ≡ end → take end (padded (sealed text)) ≡ text
    front text end e = ap (take end) (append_assoc text (sha256 text) (zeros (4096 - length (sealed text))))
        ∙ take_at text _ end e

module _ (speaks : ℕ → ℕ) (j : ℕ) where
  same_length : (p g q h : ℕ → ℕ) (first count : ℕ)
      → length (extents_of speaks p g j first count) ≡ length (extents_of speaks q h j first count)
  same_length p g q h first zero = refl
  same_length p g q h first (suc count) = go (speaks first == j) (same_length p g q h (suc first) count)
    where
      go : (b : Bool) → length (extents_of speaks p g j (suc first) count) ≡ length (extents_of speaks q h j (suc first) count)
          → length (if b then (p first, g first) ∷ extents_of speaks p g j (suc first) count else extents_of speaks p g j (suc first) count)
          ≡ length (if b then (q first, h first) ∷ extents_of speaks q h j (suc first) count else extents_of speaks q h j (suc first) count)
      go true more = ap suc more
      go false more = more

  -- the list has the pointer of each of the section's extents
  told : (p g q h : ℕ → ℕ) (first count : ℕ) → extents_of speaks p g j first count ≡ extents_of speaks q h j first count
      → (e : ℕ) → first ≤ e → e < first + count → speaks e ≡ j → p e ≡ q e
  told p g q h first zero is e from to at = absurd (omega arith)
  told p g q h first (suc count) is e from to at = go (speaks first == j) refl is
      (λ (other : first < e) more. told p g q h (suc first) count more e (omega arith) (omega arith) at)
    where
      go : (b : Bool) → (speaks first == j) ≡ b
          → (if b then (p first, g first) ∷ extents_of speaks p g j (suc first) count else extents_of speaks p g j (suc first) count)
          ≡ (if b then (q first, h first) ∷ extents_of speaks q h j (suc first) count else extents_of speaks q h j (suc first) count)
          → (first < e → extents_of speaks p g j (suc first) count ≡ extents_of speaks q h j (suc first) count → p e ≡ q e)
          → p e ≡ q e
      go true on both rest =
          let pair : (p first, g first) ≡ (q first, h first) = cc in
          let here : p first ≡ q first = ap (λ (x : ℕ × ℕ). x.0) pair in
          let more : extents_of speaks p g j (suc first) count ≡ extents_of speaks q h j (suc first) count = cc in
          elim (cases_eq e first) [
            | inl same ↦ subst (λ (x : ℕ). p x ≡ q x) (sym same) here
            | inr other ↦ rest (omega arith) more
          ]
      go false off more rest = elim (cases_eq e first) [
        | inl same ↦ absurd (true≢false (sym (eq-eqb (speaks first) j (ap speaks (sym same) ∙ at)) ∙ off))
        | inr other ↦ rest (omega arith) more
      ]

module _ (S : Shape) (known : FitsFormat S.format) (small : S.pages < 2 ^ 16) (few : S.greatest_generation < 2 ^ 32) (j : ℕ) where
  all_fit : (p g : ℕ → ℕ) → ((e : ℕ) → IsInBounds S (p e) (g e)) → (first count : ℕ)
      → AllByRecursion (FitsExtent S.pages) (extents_of S.section p g j first count)
  all_fit p g fits first zero = tt
  all_fit p g fits first (suc count) = go (S.section first == j) (all_fit p g fits (suc first) count)
    where
      go : (b : Bool) → AllByRecursion (FitsExtent S.pages) (extents_of S.section p g j (suc first) count)
          → AllByRecursion (FitsExtent S.pages) (if b then (p first, g first) ∷ extents_of S.section p g j (suc first) count
          else extents_of S.section p g j (suc first) count)
      go true more = (
        record {
          pointer = (fits first).0;
          generation = (let below : g first ≤ S.greatest_generation = (fits first).1 in omega arith);
        },
        more,
      )
      go false more = more

  module _ (p g q h : ℕ → ℕ) (fits : (e : ℕ) → IsInBounds S (p e) (g e)) (also : (e : ℕ) → IsInBounds S (q e) (h e)) where
    abbrev es : List (ℕ × ℕ)
    es = extents_of S.section p g j 0 S.extents

    abbrev ds : List (ℕ × ℕ)
    ds = extents_of S.section q h j 0 S.extents

    lengths : length es ≡ length ds
    lengths = same_length S.section j p g q h 0 S.extents

    one_list : spelled_extents es ≡ spelled_extents ds → es ≡ ds
    one_list is = sym (extents_from-spelled S.pages small es (all_fit p g fits 0 S.extents)) ∙ ap extents_from is
        ∙ extents_from-spelled S.pages small ds (all_fit q h also 0 S.extents)

    second : (v w r s : ℕ) → spelled_superblock S.format v r S.extents S.pages S.sections j es
        ≡ spelled_superblock S.format w s S.extents S.pages S.sections j ds → es ≡ ds
    second v w r s is =
        let texts = one_text (superblock_fields S.format v r S.extents S.pages S.sections j es)
        (superblock_fields S.format w s S.extents S.pages S.sections j ds)
        (length-superblock_fields S.format v r S.extents S.pages S.sections j es known ∙ ap (λ (n : ℕ). superblock_start (number_in S.format) + 6 * n) lengths
        ∙ sym (length-superblock_fields S.format w s S.extents S.pages S.sections j ds known)) is in
        one_list (sym (behind v r es) ∙ ap (drop (superblock_start (number_in S.format))) texts ∙ behind w s ds)
      where
        behind : (u r : ℕ) (xs : List (ℕ × ℕ)) → drop (superblock_start (number_in S.format)) (superblock_fields S.format u r S.extents S.pages S.sections j xs) ≡ spelled_extents xs
        behind u r xs =
            let before : List ℕ = codes "CSS" ++ section_digit (number_in S.format) ∷ [] ++ big_bytes 8 u ++ big_bytes 2 S.extents ++ big_bytes 2 S.pages ++ S.sections ∷ [] ++ j ∷ [] in
            let size : length before ≡ 18 = refl in
            drop_at (before ++ spelled_store S.format r) (spelled_extents xs) (superblock_start (number_in S.format))
            (omega (arith, size, length-append before (spelled_store S.format r), length-spelled_store S.format r known))

    first : (v w : ℕ) → spelled_first_format v S.pages es ≡ spelled_first_format w S.pages ds → es ≡ ds
    first v w is =
        let texts = one_text (first_format_fields v S.pages es) (first_format_fields w S.pages ds)
        (length-first_format_fields v S.pages es ∙ ap (λ (n : ℕ). 16 + 6 * n) lengths
        ∙ sym (length-first_format_fields w S.pages ds)) is in
        one_list (sym (behind v es) ∙ ap (drop 16) texts ∙ behind w ds)
      where
        behind : (u : ℕ) (xs : List (ℕ × ℕ)) → drop 16 (first_format_fields u S.pages xs) ≡ spelled_extents xs
        behind u xs = drop_at (codes "CSS1" ++ big_bytes 8 u ++ big_bytes 2 (length xs) ++ big_bytes 2 S.pages)
            (spelled_extents xs) 16 refl

    -- the two formats have no page in common
    mixed : (v w s : ℕ) (xs ys : List (ℕ × ℕ)) → spelled_first_format v S.pages xs
        ≡ spelled_superblock S.format w s S.extents S.pages S.sections j ys → ⊥
    mixed v w s xs ys is = let digit : 49 ≡ section_digit (number_in S.format) = ap (λ (bytes : List ℕ). slice_index bytes 3) is in
        not_first (number_in S.format) (sym digit)

    pub tells : (f k v w r s : ℕ) → (formats_of S).superblock f j v r p g ≡ (formats_of S).superblock k j w s q h
        → (e : ℕ) → e < S.extents → S.section e ≡ j → p e ≡ q e
    tells f k v w r s is e lt at = told S.section j p g q h 0 S.extents
        (go (is_first_format S.format f S.sections) (is_first_format S.format k S.sections) is) e (omega arith) (omega arith) at
      where
        go : (a b : Bool) → (if a then spelled_first_format v S.pages es else spelled_superblock S.format v r S.extents S.pages S.sections j es)
            ≡ (if b then spelled_first_format w S.pages ds else spelled_superblock S.format w s S.extents S.pages S.sections j ds)
            → es ≡ ds
        go true true same = first v w same
        go true false same = absurd (mixed v w s es ds same)
        go false true same = absurd (mixed w v r ds es (sym same))
        go false false same = second v w r s same
