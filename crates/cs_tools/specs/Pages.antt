-- Pages that a store has twice and of which one isn't whole, and what is printed of them.
use Rattle.std.specs.Prelude.{◌≡◌, ◌+◌, ◌∷◌, ◌++◌, ℕ, Bool, true, false, List, [], Option, Some, None, codes, count_by, decimal, flat_map, if◌then◌else◌, length}
use Rattle.cs_store.specs.Opening.{NoneIsPassedOver}
use Rattle.cs_twin.specs.declared.findings.Finding.{Finding}
use Rattle.cs_twin.specs.Findings.{held_of, is_halved, passed_over}
use Rattle.cs_twin.specs.Pairs.{half}
use Rattle.cs_advice.specs.Members.{member}
use Rattle.cs_advice.specs.declared.outputs.Style.{Style}
use Rattle.cs_advice.specs.declared.outputs.Style.TheVariants.{Json, Text}
use Rattle.cs_tools.specs.declared.pages.FoundPages.{FoundPages}

-- none of the pages of these pairs is passed over for its damage
abbrev pub AreWhole : List Finding → Type 0
AreWhole findings = NoneIsPassedOver findings

-- what is left of damaged pages: nothing where they were written anew
abbrev pub left_damaged : (mended : Bool) → List Finding → List Finding
left_damaged true findings = []
left_damaged false findings = findings

-- what is left of the pages on which a section was lost: nothing where the sections that were made were written there
abbrev pub left_made : (mended : Bool) → List ℕ → List ℕ
left_made true made = []
left_made false made = made

-- no page is left damaged of those that were found, and no section lost
abbrev pub AreLeftWhole : FoundPages → Type 0
AreLeftWhole pages = AreWhole (left_damaged pages.mended pages.findings.now) × (left_made pages.mended pages.made.now ≡ [])

-- how many pages are left damaged, and sections lost
abbrev pub left_count : FoundPages → ℕ
left_count pages = count_by is_halved (left_damaged pages.mended pages.findings.now) + length (left_made pages.mended pages.made.now)

-- ---- what is printed

-- whether a page was written anew, as the last member of a JSON object
abbrev pub mended_member : Bool → List ℕ
mended_member mended = 44 ∷ member (codes "mended") ++ ((if mended then codes "true" else codes "false") ++ 125 ∷ 10 ∷ [])

-- the line of a page that isn't whole: its other copy, the version there, and whether the page was written anew from it
abbrev pub half_line : Style → (mended : Bool) → (page other version : ℕ) → List ℕ
half_line Text true page other version = codes "page " ++ decimal page ++ (codes " written anew from page " ++ decimal other ++ (codes " version " ++ decimal version ++ 10 ∷ []))
half_line Text false page other version = codes "page " ++ decimal page ++ (codes " not whole, page " ++ decimal other ++ (codes " has version " ++ decimal version ++ 10 ∷ []))
half_line Json mended page other version =
    123 ∷ member (codes "page") ++ decimal page ++ (44 ∷ member (codes "other") ++ decimal other ++ (44 ∷ member (codes "version") ++ decimal version ++ mended_member mended))

-- that of the page of a pair that was passed over, where one was
abbrev pub line_where : Style → (mended : Bool) → Finding → (passed : Option ℕ) → List ℕ
line_where style mended it None = []
line_where style mended it (Some page) = half_line style mended page (half it.pair (held_of it).turned) (held_of it).version

abbrev pub pair_line : Style → (mended : Bool) → Finding → List ℕ
pair_line style mended it = line_where style mended it (passed_over it)

-- the line of a page on which a section was lost, and whether it was written there since
abbrev pub section_line : Style → (mended : Bool) → (page : ℕ) → List ℕ
section_line Text true page = codes "page " ++ decimal page ++ codes " written anew from the index\n"
section_line Text false page = codes "page " ++ decimal page ++ codes " not whole, its section is made from the index\n"
section_line Json mended page = 123 ∷ member (codes "page") ++ decimal page ++ 44 ∷ member (codes "other") ++ codes "null" ++ 44 ∷ member (codes "version") ++ codes "null" ++ mended_member mended

-- the lines of all of these pages: those that the store has twice, and then those of lost sections
abbrev pub pages_text : Style → FoundPages → List ℕ
pages_text style pages = flat_map (pair_line style pages.mended) pages.findings.now ++ flat_map (section_line style pages.mended) pages.made.now
