-- Locators, identifiers and runs of the machine, as they are spelled here: each has one spelling.
use Rattle.std.proofs.Common.{◌≡◌, ◌≢◌, ℕ, zero, suc, ◌+◌, ◌-◌, ◌*◌, ◌/◌, ◌%◌, ◌≤◌, ◌<◌, ◌^◌, ◌&&◌, true, false, Bool, List, [], ◌∷◌, ◌++◌, length, take, drop, map, refl, sym, ap, ap₂, ◌∙◌, arith, append_assoc, append-nil, length-append, nat_le, nat_lt}
use Rattle.std.specs.List.{AllByRecursion, list_all, flat_map}
use Rattle.std.specs.Int.{bytes_high_first}
use Rattle.std.proofs.Math.Nat.{div-eq_of_lt, mod-eq_of_lt, mod-lt, mul-add-div_right, mul-add-mod_self_right}
use Rattle.std.proofs.lemmas.Nat.{div-add-mod'}
use Rattle.std.proofs.lemmas.Bool.{and_parts, and_from, leb-true, ltb-true, lt-ltb}
use Rattle.std.proofs.lemmas.List.{take_at, drop_at, length-map, length-replicate}
use Rattle.byteorder.specs.Endian.{big_bytes, big_from, big_number}
use Rattle.byteorder.specs.Numbers.{big_from-bytes, big_from-cons, big_from-lt, length-bytes_high_first}
use Rattle.law_machine.specs.Element.{Entry as NamedEntry, Locator as Place}
use Rattle.law_machine.specs.Format.{Format, Four, Two}
use Rattle.law_machine.specs.Geometry.{marks_in}
use Rattle.law_machine.specs.Index.{Ascending}
use Rattle.cs_frame.specs.declared.locators.Locator.{Locator}
use Rattle.cs_frame.specs.Bytes.{IsBytes, zeros}
use Rattle.cs_frame.specs.FormatRuns.{spelled_run}
use Rattle.cs_frame.specs.Formats.{as_entry, as_locator, fits_entry, fits_locator, fits_run, id_bytes, rises}
use Rattle.cs_frame.specs.Locators.{FitsLocator, most_mark, spelled_locators}
use Rattle.cs_frame.specs.PackedRuns.{packed_run}
use Rattle.cs_frame.specs.Runs.{Entry, FitsRun, entries_in, plain_run, spelled_entry}
use Rattle.cs_frame.proofs.LocatorLaws.{length-spelled_locators}
use Rattle.cs_frame.proofs.PackedLaws.{HasFields, one_packing}
use Rattle.cs_frame.proofs.RunLaws.{run_is_read}

-- ---- locators

one_locator : (l m : Place) → as_locator l ≡ as_locator m → l ≡ m
one_locator l m is = λ i. record { extent = (is i).extent; page = (is i).page; generation = (is i).generation; mark = (is i).mark }

pub one_list : (ls ms : List Place) → map as_locator ls ≡ map as_locator ms → ls ≡ ms
one_list [] [] is = refl
one_list [] (m ∷ ms) is = cc
one_list (l ∷ ls) [] is = cc
one_list (l ∷ ls) (m ∷ ms) is =
    let e : as_locator l ∷ map as_locator ls ≡ as_locator m ∷ map as_locator ms = is in
    let here : as_locator l ≡ as_locator m = cc in
    let more : map as_locator ls ≡ map as_locator ms = cc in
    ap₂ (λ (x : Place) (xs : List Place). x ∷ xs) (one_locator l m here) (one_list ls ms more)

fits_of : (marked : Bool) (l : Place) → fits_locator marked l ≡ true → FitsLocator marked (as_locator l)
fits_of marked l h =
    let o = and_parts (nat_lt l.extent (2 ^ 16) && nat_lt l.page (2 ^ 16) && nat_lt l.generation (2 ^ 32)) (nat_le l.mark (most_mark marked)) h in
    let p = and_parts (nat_lt l.extent (2 ^ 16) && nat_lt l.page (2 ^ 16)) (nat_lt l.generation (2 ^ 32)) o.0 in
    let q = and_parts (nat_lt l.extent (2 ^ 16)) (nat_lt l.page (2 ^ 16)) p.0 in
    record { extent = ltb-true _ _ q.0; page = ltb-true _ _ q.1; generation = ltb-true _ _ p.1; mark = leb-true _ _ o.1 }

pub all_fit : (marked : Bool) (ls : List Place) → list_all (fits_locator marked) ls ≡ true → AllByRecursion (FitsLocator marked) (map as_locator ls)
all_fit marked [] h = tt
all_fit marked (l ∷ ls) h =
    let both = and_parts (fits_locator marked l) (list_all (fits_locator marked) ls) h in
    (fits_of marked l both.0, all_fit marked ls both.1)

-- ---- runs

-- a number is known from what is above so many bytes and those bytes
pub one_number : (n a b : ℕ) → a / 256 ^ n ≡ b / 256 ^ n → bytes_high_first n a ++ [] ≡ bytes_high_first n b ++ [] → a ≡ b
one_number n a b above below =
    let low : a % 256 ^ n ≡ b % 256 ^ n = sym (big_from-bytes n a []) ∙ ap (big_from 0 n) below ∙ big_from-bytes n b [] in
    sym (div-add-mod' a (256 ^ n)) ∙ ap₂ (λ (x y : ℕ). x * 256 ^ n + y) above low ∙ div-add-mod' b (256 ^ n)

pub one_id : (a b : ℕ) → id_bytes a ≡ id_bytes b → a ≡ b
one_id a b is =
    let above : a / 256 ^ 15 ≡ b / 256 ^ 15 = ap (λ (xs : List ℕ). first xs) is in
    one_number 15 a b above (ap (λ (xs : List ℕ). drop 1 xs ++ []) is)
  where
    first : List ℕ → ℕ
    first [] = 0
    first (x ∷ xs) = x

-- a number that 16 bytes can spell is spelled so
pub id_in_16 : (id : ℕ) → id < 2 ^ 128 → id_bytes id ≡ big_bytes 16 id
id_in_16 id small =
    let above : id / 256 ^ 15 < 256 = omega (arith, small) in
    ap (λ (b : ℕ). b ∷ big_bytes 15 id) (sym (mod-eq_of_lt above))

-- bytes are known from their number
one_spelling : (n : ℕ) (xs ys : List ℕ) → IsBytes xs → IsBytes ys → length xs ≡ n → length ys ≡ n
    → big_from 0 n xs ≡ big_from 0 n ys → xs ≡ ys
one_spelling zero [] [] are are' size size' is = refl
one_spelling zero [] (y ∷ ys) are are' size size' is = absurd (omega arith)
one_spelling zero (x ∷ xs) ys are are' size size' is = absurd (omega arith)
one_spelling (suc n) [] ys are are' size size' is = absurd (omega arith)
one_spelling (suc n) (x ∷ xs) [] are are' size size' is = absurd (omega arith)
one_spelling (suc n) (x ∷ xs) (y ∷ ys) are are' size size' is =
    let r : big_from 0 n xs < 256 ^ n = big_from-lt 0 n xs (λ i. are (suc i)) in
    let s : big_from 0 n ys < 256 ^ n = big_from-lt 0 n ys (λ i. are' (suc i)) in
    let some : 0 < 256 ^ n = omega (arith, r) in
    let e : x * 256 ^ n + big_from 0 n xs ≡ y * 256 ^ n + big_from 0 n ys =
    ap (λ (k : ℕ). x * 256 ^ n + k) (sym (big_from-cons 0 n x xs)) ∙ is ∙ ap (λ (k : ℕ). y * 256 ^ n + k) (big_from-cons 0 n y ys) in
    let low : big_from 0 n xs ≡ big_from 0 n ys =
    sym (mul-add-mod_self_right x (256 ^ n) (big_from 0 n xs) ∙ mod-eq_of_lt r) ∙ ap (λ (k : ℕ). k % 256 ^ n) e ∙ mul-add-mod_self_right y (256 ^ n) (big_from 0 n ys) ∙ mod-eq_of_lt s in
    let p : (x * 256 ^ n + big_from 0 n xs) / 256 ^ n ≡ x + big_from 0 n xs / 256 ^ n = mul-add-div_right some x (big_from 0 n xs) in
    let q : (y * 256 ^ n + big_from 0 n ys) / 256 ^ n ≡ y + big_from 0 n ys / 256 ^ n = mul-add-div_right some y (big_from 0 n ys) in
    let high : x ≡ y = omega (arith, p, q, ap (λ (k : ℕ). k / 256 ^ n) e, div-eq_of_lt r, div-eq_of_lt s) in
    ap₂ (λ (z : ℕ) (zs : List ℕ). z ∷ zs) high
    (one_spelling n xs ys (λ i. are (suc i)) (λ i. are' (suc i)) (omega (arith, size)) (omega (arith, size')) low)

bytes_of_number : (n x : ℕ) → IsBytes (bytes_high_first n x)
bytes_of_number zero x i = omega arith
bytes_of_number (suc zero) x zero = mod-lt x (omega arith)
bytes_of_number (suc (suc n)) x zero = mod-lt (x / 256 ^ suc n) (omega arith)
bytes_of_number (suc n) x (suc i) = bytes_of_number n x i

number_spelled : (n : ℕ) (xs : List ℕ) → IsBytes xs → length xs ≡ n → bytes_high_first n (big_from 0 n xs) ≡ xs
number_spelled n xs are size =
    let again : big_from 0 n (bytes_high_first n (big_from 0 n xs)) ≡ big_from 0 n xs =
    ap (big_from 0 n) (sym (append-nil (bytes_high_first n (big_from 0 n xs)))) ∙ big_from-bytes n (big_from 0 n xs) [] ∙ mod-eq_of_lt (big_from-lt 0 n xs are) in
    one_spelling n (bytes_high_first n (big_from 0 n xs)) xs (bytes_of_number n (big_from 0 n xs)) are (length-bytes_high_first n (big_from 0 n xs)) size again

-- 16 bytes are spelled by their number
pub id_of_16 : (bytes : List ℕ) → IsBytes bytes → length bytes ≡ 16 → id_bytes (big_number 16 bytes) ≡ bytes
id_of_16 bytes are size =
    id_in_16 (big_number 16 bytes) (big_from-lt 0 16 bytes are) ∙ number_spelled 16 bytes are size

-- two joined lists are known part by part where the first parts have one length
pub one_split : (a b rest other : List ℕ) → length a ≡ length b → a ++ rest ≡ b ++ other → (a ≡ b) × (rest ≡ other)
one_split a b rest other size is = (
  sym (take_at a rest (length a) refl) ∙ ap (take (length a)) is ∙ take_at b other (length a) (sym size),
  sym (drop_at a rest (length a) refl) ∙ ap (drop (length a)) is ∙ drop_at b other (length a) (sym size),
)

-- what follows the identifier in an entry
abbrev tail_of : List Locator → List ℕ
tail_of ls = (length ls ∷ []) ++ (spelled_locators false ls ++ zeros (64 - 8 * length ls))

grouped : (id k ls rest : List ℕ) → id ++ k ++ ls ++ rest ≡ id ++ (k ++ (ls ++ rest))
grouped id k ls rest = simp append_assoc

entry_is : (e : Entry) → spelled_entry e ≡ e.id ++ tail_of e.locators
entry_is e = grouped e.id (length e.locators ∷ []) (spelled_locators false e.locators) (zeros (64 - 8 * length e.locators))

length-entry : (e : Entry) → length e.id ≡ 16 → length e.locators ≤ 8 → length (spelled_entry e) ≡ 81
length-entry e size few =
    let left : ℕ = 64 - 8 * length e.locators in
    omega (
      arith,
      ap length (entry_is e),
      length-append e.id (length e.locators ∷ spelled_locators false e.locators ++ zeros left),
      length-append (spelled_locators false e.locators) (zeros left),
      length-spelled_locators false e.locators,
      length-replicate {A = ℕ} left 0,
      size,
      few,
    )

bytes_of_zeros : (n : ℕ) → IsBytes (zeros n)
bytes_of_zeros zero i = omega arith
bytes_of_zeros (suc n) zero = omega arith
bytes_of_zeros (suc n) (suc i) = bytes_of_zeros n i

-- one tail has one list of locators: it is read in a run of one entry
one_tail : (ls ms : List Locator) → length ls ≤ 8 → length ms ≤ 8 → AllByRecursion (FitsLocator false) ls → AllByRecursion (FitsLocator false) ms
    → tail_of ls ≡ tail_of ms → ls ≡ ms
one_tail ls ms few few' fit fit' is =
    let same : spelled_entry (entry ms) ≡ spelled_entry (entry ls) = entry_is (entry ms) ∙ ap (λ (t : List ℕ). zeros 16 ++ t) (sym is) ∙ sym (entry_is (entry ls)) in
    let payload : List ℕ = plain_run (entry ms ∷ []) in
    let x : entries_in (plain_run (entry ms ∷ [])) ≡ entry ls ∷ [] = run_is_read _ (entry ls ∷ []) (record { fits = fits ls few fit; spelled = ap (λ (b : List ℕ). big_bytes 4 1 ++ (b ++ [])) same }) in
    let y : entries_in (plain_run (entry ms ∷ [])) ≡ entry ms ∷ [] = run_is_read _ (entry ms ∷ []) (record { fits = fits ms few' fit'; spelled = refl }) in
    ap of_first (sym x ∙ y)
  where
    entry : List Locator → Entry
    entry ls = record { id = zeros 16; locators = ls }

    of_first : List Entry → List Locator
    of_first [] = []
    of_first (e ∷ es) = e.locators

    fits : (ls : List Locator) → length ls ≤ 8 → AllByRecursion (FitsLocator false) ls → FitsRun false (entry ls ∷ [])
    fits ls few fit = record {
      some = omega arith;
      most = omega arith;
      each = (record { size = refl; bytes = bytes_of_zeros 16; count = few; each = fit }, tt);
      rising = tt;
    }

record Fits (x : NamedEntry) : Type 0 where
  count : length (map as_locator x.locators) ≤ 8
  each : AllByRecursion (FitsLocator false) (map as_locator x.locators)
  size : length (spelled_entry (as_entry x)) ≡ 81

fits_from : (x : NamedEntry) → fits_entry false x ≡ true → Fits x
fits_from x h =
    let both = and_parts (nat_le (length x.locators) 8) (list_all (fits_locator false) x.locators) h in
    let few : length x.locators ≤ 8 = leb-true _ _ both.0 in
    let count : length (map as_locator x.locators) ≤ 8 = omega (arith, length-map x.locators as_locator, few) in
    record { count = count; each = all_fit false x.locators both.1; size = length-entry (as_entry x) refl count }

one_entry : (x y : NamedEntry) → Fits x → Fits y → spelled_entry (as_entry x) ≡ spelled_entry (as_entry y) → x ≡ y
one_entry x y fx fy is =
    let split = one_split (id_bytes x.id) (id_bytes y.id) (tail_of (map as_locator x.locators)) (tail_of (map as_locator y.locators)) refl
    (sym (entry_is (as_entry x)) ∙ is ∙ entry_is (as_entry y)) in
    let id : x.id ≡ y.id = one_id x.id y.id split.0 in
    let locators : x.locators ≡ y.locators = one_list x.locators y.locators
    (one_tail (map as_locator x.locators) (map as_locator y.locators) fx.count fy.count fx.each fy.each split.1) in
    λ i. record { id = id i; locators = locators i }

one_entries : (xs ys : List NamedEntry) → list_all (fits_entry false) xs ≡ true → list_all (fits_entry false) ys ≡ true
    → flat_map spelled_entry (map as_entry xs) ≡ flat_map spelled_entry (map as_entry ys) → xs ≡ ys
one_entries [] [] fx fy is = refl
one_entries [] (y ∷ ys) fx fy is =
    let b = fits_from y (and_parts (fits_entry false y) (list_all (fits_entry false) ys) fy).0 in
    absurd (omega (arith, ap length is, length-append (spelled_entry (as_entry y)) (flat_map spelled_entry (map as_entry ys)), b.size))
one_entries (x ∷ xs) [] fx fy is =
    let a = fits_from x (and_parts (fits_entry false x) (list_all (fits_entry false) xs) fx).0 in
    absurd (omega (arith, ap length is, length-append (spelled_entry (as_entry x)) (flat_map spelled_entry (map as_entry xs)), a.size))
one_entries (x ∷ xs) (y ∷ ys) fx fy is =
    let fx' = and_parts (fits_entry false x) (list_all (fits_entry false) xs) fx in
    let fy' = and_parts (fits_entry false y) (list_all (fits_entry false) ys) fy in
    let a = fits_from x fx'.0 in
    let b = fits_from y fy'.0 in
    let split = one_split (spelled_entry (as_entry x)) (spelled_entry (as_entry y)) (flat_map spelled_entry (map as_entry xs)) (flat_map spelled_entry (map as_entry ys)) (a.size ∙ sym b.size) is in
    ap₂ (λ (z : NamedEntry) (zs : List NamedEntry). z ∷ zs) (one_entry x y a b split.0) (one_entries xs ys fx'.1 fy'.1 split.1)

entries_fit : (xs : List NamedEntry) → fits_run false xs ≡ true → list_all (fits_entry false) xs ≡ true
entries_fit xs h = (and_parts _ (list_all (fits_entry false) xs) (and_parts _ (rises xs) h).0).1

-- ---- packed runs

one_named : (x y : NamedEntry) → as_entry x ≡ as_entry y → x ≡ y
one_named x y is =
    let id : x.id ≡ y.id = one_id x.id y.id (ap (λ (e : Entry). e.id) is) in
    let locators : x.locators ≡ y.locators = one_list x.locators y.locators (ap (λ (e : Entry). e.locators) is) in
    λ i. record { id = id i; locators = locators i }

all_named : (xs ys : List NamedEntry) → map as_entry xs ≡ map as_entry ys → xs ≡ ys
all_named [] [] is = refl
all_named [] (y ∷ ys) is = cc
all_named (x ∷ xs) [] is = cc
all_named (x ∷ xs) (y ∷ ys) is =
    let e : as_entry x ∷ map as_entry xs ≡ as_entry y ∷ map as_entry ys = is in
    let here : as_entry x ≡ as_entry y = cc in
    let more : map as_entry xs ≡ map as_entry ys = cc in
    ap₂ (λ (z : NamedEntry) (zs : List NamedEntry). z ∷ zs) (one_named x y here) (all_named xs ys more)

have_fields : (xs : List NamedEntry) → list_all (fits_entry true) xs ≡ true → AllByRecursion HasFields (map as_entry xs)
have_fields [] h = tt
have_fields (x ∷ xs) h =
    let both = and_parts (fits_entry true x) (list_all (fits_entry true) xs) h in
    let of_entry = and_parts (nat_le (length x.locators) 8) (list_all (fits_locator true) x.locators) both.0 in
    (record { size = refl; each = all_fit true x.locators of_entry.1 }, have_fields xs both.1)

one_packed : (xs ys : List NamedEntry) → fits_run true xs ≡ true → fits_run true ys ≡ true
    → packed_run (map as_entry xs) ≡ packed_run (map as_entry ys) → xs ≡ ys
one_packed xs ys fx fy is =
    let a = (and_parts _ (rises xs) fx).0 in
    let b = (and_parts _ (rises ys) fy).0 in
    let c = and_parts (nat_le 1 (length xs) && nat_lt (length xs) (2 ^ 32)) (list_all (fits_entry true) xs) a in
    let d = and_parts (nat_le 1 (length ys) && nat_lt (length ys) (2 ^ 32)) (list_all (fits_entry true) ys) b in
    let few = ltb-true _ _ (and_parts (nat_le 1 (length xs)) (nat_lt (length xs) (2 ^ 32)) c.0).1 in
    let few' = ltb-true _ _ (and_parts (nat_le 1 (length ys)) (nat_lt (length ys) (2 ^ 32)) d.0).1 in
    all_named xs ys (one_packing (map as_entry xs) (map as_entry ys) (omega (arith, length-map xs as_entry, few)) (omega (arith, length-map ys as_entry, few'))
    (have_fields xs c.1) (have_fields ys d.1) is)

pub it_rises : (xs : List NamedEntry) → Ascending xs → rises xs ≡ true
it_rises [] h = refl
it_rises (x ∷ []) h = refl
it_rises (x ∷ y ∷ xs) h = and_from (nat_lt x.id y.id) (rises (y ∷ xs)) (lt-ltb _ _ h.0) (it_rises (y ∷ xs) h.1)

pub some_entry : (xs : List NamedEntry) → xs ≢ [] → 1 ≤ length xs
some_entry [] h = absurd (h refl)
some_entry (x ∷ xs) h = omega arith

pub one_run_by : (format : Format) (xs ys : List NamedEntry) → fits_run (marks_in format) xs ≡ true → fits_run (marks_in format) ys ≡ true
    → spelled_run format (map as_entry xs) ≡ spelled_run format (map as_entry ys) → xs ≡ ys
one_run_by Two xs ys fx fy is = one_entries xs ys (entries_fit xs fx) (entries_fit ys fy) (ap (drop 4) is)
one_run_by (Four store device) xs ys fx fy is =
    one_packed xs ys fx fy (one_split (take 8 store) (take 8 store) (packed_run (map as_entry xs)) (packed_run (map as_entry ys)) refl is).1
