-- Formats of pages without bounds: examples, one of which shows that the laws of a format hold together.
use Rattle.std.specs.Prelude.{◌∷◌, ◌==◌, ℕ, zero, suc, true, List, drop, length, None, [], if◌then◌else◌}
use Rattle.law_machine.specs.Device.{Shape}
use Rattle.law_machine.specs.Element.{Entry, Locator}
use Rattle.law_machine.specs.Formats.{Formats}

-- the numbers of these locators, and what follows
abbrev pub flat_locators : List Locator → List ℕ → List ℕ
flat_locators [] rest = rest
flat_locators (l ∷ ls) rest =
    l.extent ∷ l.page ∷ l.generation ∷ l.mark ∷ flat_locators ls rest

-- the numbers of these entries
abbrev pub flat_entries : List Entry → List ℕ
flat_entries [] = []
flat_entries (x ∷ xs) = x.id ∷ length x.locators ∷ flat_locators x.locators (flat_entries xs)

-- a frame is one page, and nothing is ever damaged
abbrev pub example_format : Formats
example_format = record {
  superblock = λ f j v r p g. f ∷ j ∷ v ∷ r ∷ [];
  root = λ v n ls. v ∷ n ∷ length ls ∷ flat_locators ls [];
  frame = λ kind payload. payload ∷ [];
  fault = λ kind pages. None;
  is_long = λ page. true;
  chunk = λ id number count command piece. id ∷ number ∷ count ∷ command ∷ piece;
  body = λ payload. drop 4 payload;
  run = flat_entries;
  fits_root = λ v n ls. true;
  fits_run = λ es. true;
}

-- the pointers of a section's extents of those below n, and 0 for those of other sections
abbrev pub told : Shape → (section : ℕ) → (pointers : ℕ → ℕ) → (n : ℕ) → List ℕ
told S j pointers zero = []
told S j pointers (suc n) = (if S.section n == j then pointers n else 0) ∷ told S j pointers n

-- the same format, but that the page of a section has the pointers of its extents
abbrev pub telling_format : Shape → Formats
telling_format S = record example_format { superblock = λ f j v r p g. told S j p S.extents }
