-- Entries that can be spelled, as a page has them and as the machine has them.
use Rattle.std.proofs.Common.{◌≡◌, inl, inr, ℕ, ◌-◌, ◌*◌, ◌/◌, ◌<◌, ◌≤◌, ◌^◌, Bool, true, nat_le, nat_lt, List, [], ◌∷◌, ◌++◌, length, map, append-nil, append_assoc, false, subst, refl, sym, ap, ap₂, ◌∙◌, arith}
use Rattle.std.specs.List.{AllByRecursion, flat_map, list_all}
use Rattle.std.proofs.Math.Nat.{mod-eq_of_lt}
use Rattle.std.proofs.lemmas.Bool.{and_from, and_parts, le-leb, leb-true, lt-ltb, ltb-true}
use Rattle.std.proofs.lemmas.List.{length-map}
use Rattle.byteorder.specs.Endian.{big_bytes, big_from}
use Rattle.byteorder.specs.Numbers.{big_from-bytes}
use Rattle.cs_frame.specs.declared.identifiers.ShardId.{ShardId}
use Rattle.cs_frame.specs.declared.locators.Locator.{Locator}
use Rattle.cs_frame.specs.Bytes.{IsBytes, zeros}
use Rattle.cs_frame.specs.FormatRuns.{spelled_run}
use Rattle.cs_frame.specs.Formats.{as_entry, as_locator, fits_entry, fits_locator, fits_run, id_bytes, place_of, rises}
use Rattle.cs_frame.specs.Locators.{FitsLocator, most_mark, spelled_locators}
use Rattle.cs_frame.specs.PackedRuns.{packed_entry, packed_run}
use Rattle.cs_frame.specs.Runs.{Entry as SpelledEntry, FitsEntry, FitsRun, Rises, entries_of as spelled_entries, entry_of, is_before, spelled_entry}
use Rattle.cs_frame.specs.Places.{Listed}
use Rattle.cs_index.proofs.Numbers.{before_is}
use Rattle.cs_frame.specs.Identifiers.{id_number}
use Rattle.cs_index.specs.State.{named_entry}
use Rattle.law_machine.specs.Element.{Entry, Locator as Place}
use Rattle.law_machine.specs.Format.{Format, Four, Two}
use Rattle.law_machine.specs.Geometry.{store_front}
use Rattle.law_machine.specs.Index.{Ascending}
use Rattle.law_machine.specs.Lists.{◌∈◌}
use Rattle.cs_reader.proofs.Listed.{bytes_back, bytes_front}

-- ---- from a page

fits_place : (marked : Bool) (l : Locator) → FitsLocator marked l → fits_locator marked (place_of l) ≡ true
fits_place marked l fits = and_from _ _ (and_from _ _ (and_from _ _ (lt-ltb _ _ fits.extent) (lt-ltb _ _ fits.page)) (lt-ltb _ _ fits.generation)) (le-leb l.mark (most_mark marked) fits.mark)

fit_places : (marked : Bool) (ls : List Locator) → AllByRecursion (FitsLocator marked) ls → list_all (fits_locator marked) (map place_of ls) ≡ true
fit_places marked [] all = refl
fit_places marked (l ∷ ls) all = and_from _ _ (fits_place marked l all.0) (fit_places marked ls all.1)

fit_entries : (marked : Bool) (xs : List (ShardId × Listed)) → AllByRecursion (FitsEntry marked) (spelled_entries xs) → list_all (fits_entry marked) (map named_entry xs) ≡ true
fit_entries marked [] all = refl
fit_entries marked (x ∷ xs) all = and_from _ _
    (and_from _ _ (le-leb (length (map place_of x.1.items)) 8 (let same : length (map place_of x.1.items) ≡ length x.1.items = length-map x.1.items place_of in let few : length x.1.items ≤ 8 = all.0.count in omega arith))
    (fit_places marked x.1.items all.0.each))
    (fit_entries marked xs all.1)

ascending_rises : (xs : List Entry) → Ascending xs → rises xs ≡ true
ascending_rises [] up = refl
ascending_rises (x ∷ []) up = refl
ascending_rises (x ∷ y ∷ xs) up = and_from _ _ (lt-ltb _ _ up.0) (ascending_rises (y ∷ xs) up.1)

-- entries that a page spells fit a run
pub spelled_fit : (marked : Bool) (xs : List (ShardId × Listed)) → FitsRun marked (spelled_entries xs) → Ascending (map named_entry xs)
    → fits_run marked (map named_entry xs) ≡ true
spelled_fit marked xs fits up =
    let a : length (spelled_entries xs) ≡ length xs = length-map xs entry_of in
    let b : length (map named_entry xs) ≡ length xs = length-map xs named_entry in
    let some : 1 ≤ length (map named_entry xs) = (let low = fits.some in omega (arith, low, a, b)) in
    let most : length (map named_entry xs) < 2 ^ 32 = (let high = fits.most in omega (arith, high, a, b)) in
    and_from _ _
    (and_from _ _
    (and_from _ _ (le-leb 1 (length (map named_entry xs)) some) (lt-ltb (length (map named_entry xs)) (2 ^ 32) most))
    (fit_entries marked xs fits.each))
    (ascending_rises (map named_entry xs) up)

-- ---- from the machine

rises_ascending : (xs : List Entry) → rises xs ≡ true → Ascending xs
rises_ascending [] up = tt
rises_ascending (x ∷ []) up = tt
rises_ascending (x ∷ y ∷ xs) up = let both = and_parts (nat_lt x.id y.id) (rises (y ∷ xs)) up in (ltb-true _ _ both.0, rises_ascending (y ∷ xs) both.1)

all_true : {X : Type 0} (test : X → Bool) (xs : List X) → list_all test xs ≡ true → (x : X) → x ∈ xs → test x ≡ true
all_true test [] all x none = absurd none
all_true test (y ∷ xs) all x (inl is) = ap test is ∙ (and_parts (test y) (list_all test xs) all).0
all_true test (y ∷ xs) all x (inr has) = all_true test xs (and_parts (test y) (list_all test xs) all).1 x has

place_fits : (marked : Bool) (l : Place) → fits_locator marked l ≡ true → FitsLocator marked (as_locator l)
place_fits marked l fits =
    let all = and_parts _ (nat_le l.mark (most_mark marked)) fits in
    let both = and_parts _ (nat_lt l.generation (2 ^ 32)) all.0 in
    let place = and_parts (nat_lt l.extent (2 ^ 16)) (nat_lt l.page (2 ^ 16)) both.0 in
    record { extent = ltb-true _ _ place.0; page = ltb-true _ _ place.1; generation = ltb-true _ _ both.1; mark = leb-true l.mark (most_mark marked) all.1 }

pub record FitsTests (marked : Bool) (entries : List Entry) : Type 0 where
  pub some : 1 ≤ length entries
  pub most : length entries < 2 ^ 32
  pub ascending : Ascending entries
  pub short : (e : Entry) → e ∈ entries → length e.locators ≤ 8
  pub fit : (e : Entry) → e ∈ entries → (l : Place) → l ∈ e.locators → FitsLocator marked (as_locator l)

pub tests_of : (marked : Bool) (entries : List Entry) → fits_run marked entries ≡ true → FitsTests marked entries
tests_of marked entries fits =
    let a = and_parts _ (rises entries) fits in
    let b = and_parts _ (list_all (fits_entry marked) entries) a.0 in
    let c = and_parts (nat_le 1 (length entries)) (nat_lt (length entries) (2 ^ 32)) b.0 in
    record {
      some = leb-true _ _ c.0;
      most = ltb-true _ _ c.1;
      ascending = rises_ascending entries a.1;
      short = λ e has. leb-true _ _ (and_parts (nat_le (length e.locators) 8) (list_all (fits_locator marked) e.locators) (all_true (fits_entry marked) entries b.1 e has)).0;
      fit = λ e has l at. place_fits marked l (all_true (fits_locator marked) e.locators
          (and_parts (nat_le (length e.locators) 8) (list_all (fits_locator marked) e.locators) (all_true (fits_entry marked) entries b.1 e has)).1 l at);
    }

-- an identifier whose first byte is one is a number of 128 bits
small : (id : ℕ) → IsBytes (id_bytes id) → id < 2 ^ 128
small id are = let first : id / 256 ^ 15 < 256 = are 0 in omega (arith, first)

-- so its bytes are those of the number, high byte first
high_first : (id : ℕ) → id < 2 ^ 128 → id_bytes id ≡ big_bytes 16 id
high_first id low =
    let above : id / 256 ^ 15 < 256 = omega (arith, low) in
    ap (λ (b : ℕ). b ∷ big_bytes 15 id) (sym (mod-eq_of_lt above))

number_again : (id : ℕ) → IsBytes (id_bytes id) → id_number (record { 0 = id_bytes id }) ≡ id
unfolding id_number
number_again id are =
    ap (big_from 0 16) (high_first id (small id are) ∙ sym (append-nil (big_bytes 16 id))) ∙ big_from-bytes 16 id [] ∙ mod-eq_of_lt (let lt : id < 2 ^ 128 = small id are in omega (arith, lt))

before_ids : (a b : ℕ) → IsBytes (id_bytes a) → IsBytes (id_bytes b) → a < b → is_before (id_bytes a) (id_bytes b) ≡ true
before_ids a b are are' lt =
    before_is (record { 0 = id_bytes a }) (record { 0 = id_bytes b }) (record { bytes = are; size = refl }) (record { bytes = are'; size = refl })
    ∙ ap₂ (λ (i j : ℕ). nat_lt i j) (number_again a are) (number_again b are') ∙ lt-ltb a b lt

rising : (xs : List Entry) → Ascending xs → AllByRecursion (λ x. IsBytes (id_bytes x.id)) xs → Rises (map as_entry xs)
rising [] up are = tt
rising (x ∷ []) up are = tt
rising (x ∷ y ∷ xs) up are = (before_ids x.id y.id are.0 are.1.0 up.0, rising (y ∷ xs) up.1 are.1)

-- what spells an entry begins with its identifier
abbrev Begins : (SpelledEntry → List ℕ) → Type 0
Begins spell = (e : SpelledEntry) → (rest : List ℕ) × (spell e ≡ e.id ++ rest)

plain_begins : Begins spelled_entry
plain_begins e = (
  length e.locators ∷ [] ++ (spelled_locators false e.locators ++ zeros (64 - 8 * length e.locators)),
  append_assoc (e.id ++ length e.locators ∷ []) (spelled_locators false e.locators) (zeros (64 - 8 * length e.locators))
      ∙ append_assoc e.id (length e.locators ∷ []) (spelled_locators false e.locators ++ zeros (64 - 8 * length e.locators)),
)

packed_begins : Begins packed_entry
packed_begins e = (length e.locators ∷ [] ++ spelled_locators true e.locators, append_assoc e.id (length e.locators ∷ []) (spelled_locators true e.locators))

ids_of : (spell : SpelledEntry → List ℕ) → Begins spell → (xs : List Entry) → IsBytes (flat_map spell (map as_entry xs)) → AllByRecursion (λ x. IsBytes (id_bytes x.id)) xs
ids_of spell begins [] are = tt
ids_of spell begins (x ∷ xs) are = (
  (let front = begins (as_entry x) in bytes_front (id_bytes x.id) front.0 (subst IsBytes front.1 (bytes_front (spell (as_entry x)) (flat_map spell (map as_entry xs)) are))),
  ids_of spell begins xs (bytes_back (spell (as_entry x)) (flat_map spell (map as_entry xs)) are),
)

-- the identifiers of a run whose payload's bytes are bytes
pub ids_in_run : (format : Format) (xs : List Entry) → IsBytes (spelled_run format (map as_entry xs)) → AllByRecursion (λ x. IsBytes (id_bytes x.id)) xs
ids_in_run Two xs are = ids_of spelled_entry plain_begins xs (bytes_back (big_bytes 4 (length (map as_entry xs))) (flat_map spelled_entry (map as_entry xs)) are)
ids_in_run (Four store device) xs are = ids_of packed_entry packed_begins xs
    (bytes_back (big_bytes 4 (length (map as_entry xs))) (flat_map packed_entry (map as_entry xs))
    (bytes_back (store_front (Four store device)) (packed_run (map as_entry xs)) are))

located_fit : (marked : Bool) (ls : List Place) → ((l : Place) → l ∈ ls → FitsLocator marked (as_locator l)) → AllByRecursion (FitsLocator marked) (map as_locator ls)
located_fit marked [] all = tt
located_fit marked (l ∷ ls) all = (all l (inl refl), located_fit marked ls (λ k has. all k (inr has)))

entries_fit : (marked : Bool) (xs : List Entry) → AllByRecursion (λ x. IsBytes (id_bytes x.id)) xs → ((e : Entry) → e ∈ xs → length e.locators ≤ 8)
    → ((e : Entry) → e ∈ xs → (l : Place) → l ∈ e.locators → FitsLocator marked (as_locator l)) → AllByRecursion (FitsEntry marked) (map as_entry xs)
entries_fit marked [] ids short fit = tt
entries_fit marked (x ∷ xs) ids short fit = (
  record {
    size = refl;
    bytes = ids.0;
    count = (let same : length (map as_locator x.locators) ≡ length x.locators = length-map x.locators as_locator in let few : length x.locators ≤ 8 = short x (inl refl) in omega arith);
    each = located_fit marked x.locators (fit x (inl refl));
  },
  entries_fit marked xs ids.1 (λ e has. short e (inr has)) (λ e has. fit e (inr has)),
)

-- entries of the machine that fit a run have a spelling, where the bytes of their identifiers are bytes
pub named_fit : (marked : Bool) (xs : List Entry) → FitsTests marked xs → AllByRecursion (λ x. IsBytes (id_bytes x.id)) xs → FitsRun marked (map as_entry xs)
named_fit marked xs tests ids =
    let same : length (map as_entry xs) ≡ length xs = length-map xs as_entry in
    record {
      some = (let some = tests.some in omega (arith, some, same));
      most = (let most = tests.most in omega (arith, most, same));
      each = entries_fit marked xs ids tests.short tests.fit;
      rising = rising xs tests.ascending ids;
    }
