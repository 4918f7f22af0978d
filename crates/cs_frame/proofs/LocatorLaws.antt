-- Locators spelled and read.
use Rattle.std.proofs.Common.{zero, suc, ◌+◌, ◌∷◌, add-one, append-nil, append_assoc, get_or, ◌≡◌, ℕ, ◌*◌, ◌/◌, ◌<◌, ◌^◌, Bool, true, false, List, [], ◌++◌, length, take, map, refl, sym, ap, subst, ◌∙◌, arith, le_refl}
use Rattle.std.specs.List.{AllByRecursion}
use Rattle.std.specs.Simd.{first_chunks}
use Rattle.std.proofs.lemmas.List.{take_all, length-map}
use Rattle.byteorder.specs.Endian.{big_bytes}
use Rattle.cs_frame.specs.Bytes.{IsBytes, number}
use Rattle.cs_frame.specs.Locators.{FitsLocator, locator_in, locator_size, locators_in, spelled_locator, spelled_locators}
use Rattle.cs_frame.specs.declared.locators.Locator.{Locator}
use Rattle.cs_frame.proofs.Fields.{field_2, field_4, field_8, number_at, number_below, take_more}
use Rattle.cs_frame.proofs.Pieces.{AllByRecursion-map, each_piece, length-first_chunks, length-spelled, read_pieces, spelled_pieces}

pub length-spelled_locator : (marked : Bool) (l : Locator) → length (spelled_locator marked l) ≡ locator_size marked
length-spelled_locator false l = refl
length-spelled_locator true l = refl

-- so many bytes each
pub length-spelled_locators : (marked : Bool) (ls : List Locator) → length (spelled_locators marked ls) ≡ locator_size marked * length ls
length-spelled_locators marked ls =
    length-spelled (spelled_locator marked) (locator_in marked) (locator_size marked) (length-spelled_locator marked) ls

-- a locator is read from what spells it
pub locator_in-spelled : (marked : Bool) (l : Locator) → FitsLocator marked l → locator_in marked (spelled_locator marked l) ≡ l
locator_in-spelled false l fits =
    let bytes = spelled_locator false l in
    let extent : number 0 2 bytes ≡ l.extent = number_at bytes (big_bytes 2 l.page ++ big_bytes 4 l.generation) 0 2 2 l.extent refl refl refl (omega (arith, fits.extent)) in
    let page : number 2 4 bytes ≡ l.page = number_at bytes (big_bytes 4 l.generation) 2 4 2 l.page refl refl refl (omega (arith, fits.page)) in
    let generation : number 4 8 bytes ≡ l.generation = number_at bytes [] 4 8 4 l.generation refl refl refl (omega (arith, fits.generation)) in
    let mark : 0 ≡ l.mark = omega (arith, fits.mark) in
    λ i. record { extent = extent i; page = page i; generation = generation i; mark = mark i }
locator_in-spelled true l fits =
    let bytes = spelled_locator true l in
    let extent : number 0 2 bytes ≡ l.extent = number_at bytes (big_bytes 2 l.page ++ big_bytes 4 l.generation ++ big_bytes 8 l.mark) 0 2 2 l.extent refl refl refl (omega (arith, fits.extent)) in
    let page : number 2 4 bytes ≡ l.page = number_at bytes (big_bytes 4 l.generation ++ big_bytes 8 l.mark) 2 4 2 l.page refl refl refl (omega (arith, fits.page)) in
    let generation : number 4 8 bytes ≡ l.generation = number_at bytes (big_bytes 8 l.mark) 4 8 4 l.generation refl refl refl (omega (arith, fits.generation)) in
    let mark : number 8 16 bytes ≡ l.mark = number_at bytes [] 8 16 8 l.mark refl refl refl (omega (arith, fits.mark)) in
    λ i. record { extent = extent i; page = page i; generation = generation i; mark = mark i }

-- so many bytes are spelled by the locator read from them
pub spelled-locator_in : (marked : Bool) (bytes : List ℕ) → IsBytes bytes → length bytes ≡ locator_size marked
    → spelled_locator marked (locator_in marked bytes) ≡ bytes
spelled-locator_in false bytes are long =
    let two : take 2 bytes ≡ big_bytes 2 (number 0 2 bytes) = field_2 bytes 0 2 refl (omega arith) are in
    let four : take 4 bytes ≡ big_bytes 2 (number 0 2 bytes) ++ big_bytes 2 (number 2 4 bytes) = take_more bytes _ _ 2 4 (omega arith) two (field_2 bytes 2 4 refl (omega arith) are) in
    let eight : take 8 bytes ≡ spelled_locator false (locator_in false bytes) = take_more bytes _ _ 4 8 (omega arith) four (field_4 bytes 4 8 refl (omega arith) are) in
    sym eight ∙ take_all 8 bytes (omega arith)
spelled-locator_in true bytes are long =
    let two : take 2 bytes ≡ big_bytes 2 (number 0 2 bytes) = field_2 bytes 0 2 refl (omega arith) are in
    let four : take 4 bytes ≡ big_bytes 2 (number 0 2 bytes) ++ big_bytes 2 (number 2 4 bytes) = take_more bytes _ _ 2 4 (omega arith) two (field_2 bytes 2 4 refl (omega arith) are) in
    let eight : take 8 bytes ≡ spelled_locator false (locator_in false bytes) = take_more bytes _ _ 4 8 (omega arith) four (field_4 bytes 4 8 refl (omega arith) are) in
    let all : take 16 bytes ≡ spelled_locator true (locator_in true bytes) = take_more bytes _ _ 8 16 (omega arith) eight (field_8 bytes 8 16 refl (omega arith) are) in
    sym all ∙ take_all 16 bytes (omega arith)

-- as many pieces as there are locators
pub pieces_are : (marked : Bool) (n count : ℕ) → n ≡ locator_size marked * count → n / locator_size marked ≡ count
pieces_are false n count long = omega (arith, long)
pieces_are true n count long = omega (arith, long)

-- bytes in pieces are spelled by the locators read from them
pub spelled-locators_in : (marked : Bool) (count : ℕ) (bytes : List ℕ) → IsBytes bytes → length bytes ≡ locator_size marked * count
    → spelled_locators marked (locators_in marked bytes) ≡ bytes
spelled-locators_in marked count bytes are long =
    ap (λ (n : ℕ). spelled_locators marked (map (locator_in marked) (first_chunks (locator_size marked) n bytes))) (pieces_are marked (length bytes) count long)
    ∙ spelled_pieces (spelled_locator marked) (locator_in marked) (locator_size marked) count bytes (each_piece _ (locator_size marked) count bytes (spelled-locator_in marked) are long) long

-- locators are read from what spells them
pub locators_in-spelled : (marked : Bool) (ls : List Locator) → AllByRecursion (FitsLocator marked) ls → locators_in marked (spelled_locators marked ls) ≡ ls
locators_in-spelled marked ls fits =
    ap (λ (n : ℕ). map (locator_in marked) (first_chunks (locator_size marked) n (spelled_locators marked ls)))
    (pieces_are marked (length (spelled_locators marked ls)) (length ls) (length-spelled_locators marked ls))
    ∙ read_pieces (spelled_locator marked) (locator_in marked) (locator_size marked) (FitsLocator marked) (length-spelled_locator marked) (locator_in-spelled marked) ls fits

-- what is read fits
pub fits-locator_in : (marked : Bool) (bytes : List ℕ) → IsBytes bytes → FitsLocator marked (locator_in marked bytes)
fits-locator_in false bytes are = record {
  extent = number_below bytes 0 2 are;
  page = number_below bytes 2 4 are;
  generation = number_below bytes 4 8 are;
  mark = le_refl _;
}
fits-locator_in true bytes are = record {
  extent = number_below bytes 0 2 are;
  page = number_below bytes 2 4 are;
  generation = number_below bytes 4 8 are;
  mark = (let low : number 8 16 bytes < 2 ^ 64 = number_below bytes 8 16 are in omega (arith, low));
}

pub fit-locators_in : (marked : Bool) (count : ℕ) (bytes : List ℕ) → IsBytes bytes → length bytes ≡ locator_size marked * count
    → AllByRecursion (FitsLocator marked) (locators_in marked bytes)
fit-locators_in marked count bytes are long =
    let each = each_piece (λ (piece : List ℕ). FitsLocator marked (locator_in marked piece)) (locator_size marked) count bytes (λ piece is n. fits-locator_in marked piece is) are long in
    subst (λ (n : ℕ). AllByRecursion (FitsLocator marked) (map (locator_in marked) (first_chunks (locator_size marked) n bytes))) (sym (pieces_are marked (length bytes) count long))
    (AllByRecursion-map (FitsLocator marked) (locator_in marked) (first_chunks (locator_size marked) count bytes) each)

pub length-locators_in : (marked : Bool) (count : ℕ) (bytes : List ℕ) → length bytes ≡ locator_size marked * count → length (locators_in marked bytes) ≡ count
length-locators_in marked count bytes long =
    length-map (first_chunks (locator_size marked) (length bytes / locator_size marked) bytes) (locator_in marked)
    ∙ length-first_chunks (locator_size marked) (length bytes / locator_size marked) bytes ∙ pieces_are marked (length bytes) count long

-- one locator more
pub spelled_more : (marked : Bool) (ls : List Locator) (i : ℕ) (d : Locator) → i < length ls
    → spelled_locators marked (take (i + 1) ls) ≡ spelled_locators marked (take i ls) ++ spelled_locator marked (get_or ls i d)
spelled_more marked ls i d inside = ap (λ (n : ℕ). spelled_locators marked (take n ls)) (add-one i) ∙ by ls i inside
  where
    by : (ls : List Locator) (i : ℕ) → i < length ls
        → spelled_locators marked (take (suc i) ls) ≡ spelled_locators marked (take i ls) ++ spelled_locator marked (get_or ls i d)
    by [] i inside = absurd (omega arith)
    by (l ∷ ls) zero inside = append-nil (spelled_locator marked l)
    by (l ∷ ls) (suc i) inside = ap (λ (xs : List ℕ). spelled_locator marked l ++ xs) (by ls i (omega arith))
        ∙ sym (append_assoc (spelled_locator marked l) (spelled_locators marked (take i ls)) (spelled_locator marked (get_or ls i d)))
