-- Sections that are made, by the store that is found.
use Rattle.std.proofs.Common.{◌≡◌, ◌≢◌, ◌∙◌, ◌<◌, ◌+◌, ◌==◌, if◌then◌else◌, ℕ, zero, suc, Bool, false, List, [], ◌∷◌, Option, Some, None, drop, length, get_or, true≢false, refl, sym, ap, subst, arith}
use Rattle.std.specs.Prelude.{◌&&◌, IfOk, MatchOption, Result, Ok, Err, nat_lt}
use Rattle.std.proofs.lemmas.Bool.{lt-ltb}
use Rattle.cs_disk.specs.declared.fault.DiskFault.{DiskFault}
use Rattle.cs_frame.specs.declared.faults.FormatFault.{FormatFault}
use Rattle.cs_frame.specs.declared.faults.FormatFault.TheVariants.{OutOfMemory}
use Rattle.cs_frame.specs.declared.formats.FormatNumber.{FormatNumber}
use Rattle.cs_frame.specs.declared.formats.FormatNumber.TheVariants as of_number
use Rattle.cs_frame.specs.declared.superblocks.Superblock.{Superblock}
use Rattle.cs_frame.specs.FormatNumbers.{number_in}
use Rattle.cs_frame.specs.Superblocks.{SpellsSuperblock, superblock_extents, superblock_record}
use Rattle.cs_frame.proofs.SuperblockLaws as superblocks
use Rattle.std.specs.List.{AllByRecursion}
use Rattle.std.proofs.lemmas.List.{drop_more}
use Rattle.cs_disk.specs.Disk.{Image, Write}
use Rattle.cs_frame.specs.declared.locators.Locator.{Locator}
use Rattle.cs_frame.specs.Geometries.{Dimensions}
use Rattle.cs_twin.proofs.Roles.{if_other, if_same}
use Rattle.law_machine.specs.Geometry.{twins_in}
use Rattle.cs_mount.specs.MadeSections.{AreMade, AreMadeOn, IsInside, made_row}
use Rattle.cs_mount.specs.StorePairs.{dimensions_on, pages_of}
use Rattle.cs_mount.proofs.Telling.{found_third}

-- ---- one row

none_left : (named : List Locator) (k : ℕ) → (k < length named → ⊥) → drop k named ≡ []
none_left [] zero not = refl
none_left [] (suc k) not = refl
none_left (l ∷ named) zero not = absurd (not (let lt : 0 < suc (length named) = omega arith in lt))
none_left (l ∷ named) (suc k) not = none_left named k (λ lt. not (let more : suc k < suc (length named) = omega (arith, lt) in more))

pub row_step : (pages : ℕ) (named : List Locator) (k e : ℕ) (l d : Locator) → k < length named → get_or named k d ≡ l → l.extent ≢ e
    → made_row pages (drop k named) e ≡ made_row pages named e → made_row pages (drop (k + 1) named) e ≡ made_row pages named e
row_step pages named k e l d lt at other was =
    sym (if_other l.extent e (pages, l.generation) (made_row pages (drop (k + 1) named) e) other)
    ∙ ap (λ (z : Locator). if z.extent == e then (pages, z.generation) else made_row pages (drop (k + 1) named) e) (sym at)
    ∙ sym (ap (λ (ls : List Locator). made_row pages ls e) (drop_more named k d lt)) ∙ was

pub row_here : (pages : ℕ) (named : List Locator) (k e : ℕ) (l d : Locator) → k < length named → get_or named k d ≡ l → l.extent ≡ e
    → made_row pages (drop k named) e ≡ made_row pages named e → (pages, l.generation) ≡ made_row pages named e
row_here pages named k e l d lt at here was =
    sym (ap (λ (n : ℕ). if l.extent == n then (pages, l.generation) else made_row pages (drop (k + 1) named) e) (sym here) ∙ if_same l.extent (pages, l.generation) (made_row pages (drop (k + 1) named) e))
    ∙ ap (λ (z : Locator). if z.extent == e then (pages, z.generation) else made_row pages (drop (k + 1) named) e) (sym at)
    ∙ sym (ap (λ (ls : List Locator). made_row pages ls e) (drop_more named k d lt)) ∙ was

pub row_end : (pages : ℕ) (named : List Locator) (k e : ℕ) → (k < length named → ⊥) → made_row pages (drop k named) e ≡ made_row pages named e → (0, 0) ≡ made_row pages named e
row_end pages named k e not was = sym (ap (λ (ls : List Locator). made_row pages ls e) (none_left named k not)) ∙ was

-- ---- whether a section serves

pub page_rows : (bytes : List ℕ) (it : Superblock) → number_in it.format ≡ of_number.Four → SpellsSuperblock bytes it.format it.version it.recorded it.extent_count it.pages it.sections it.section it.extents.items
    → (it.recorded ≡ superblock_record of_number.Four bytes) × (it.extents.items ≡ superblock_extents of_number.Four bytes)
page_rows bytes it four spells =
    let one = superblocks.one_section bytes it.format it.version it.recorded it.extent_count it.pages it.sections it.section it.extents.items spells in (
      sym one.of_record ∙ ap (λ (n : FormatNumber). superblock_record n bytes) four,
      sym one.of_written ∙ ap (λ (n : FormatNumber). superblock_extents n bytes) four,
    )

pub whole_unfaulty : {T : Type 0} (told : Result T DiskFault) (fault : FormatFault) (none : T) (found : Option FormatFault) (P : T → Type 0)
    → IfOk told (λ it. (it ≡ none) × (fault ≢ OutOfMemory)) → (fault ≢ OutOfMemory → found ≡ Some fault) → found ≡ None → IfOk told P
whole_unfaulty (Ok it) fault none found P is has whole = absurd (let clash : None ≡ Some fault = sym whole ∙ has is.1 in cc clash)
whole_unfaulty (Err refused) fault none found P is has whole = tt

pub serves_by : (told : Result Bool DiskFault) (version start : ℕ) (rows : ℕ → Bool) (from : ℕ) → version ≢ 0 → from ≡ start → IfOk told (λ it. it ≡ rows from) → IfOk told (λ it. it ≡ (nat_lt 0 version && rows start))
serves_by (Ok it) version start rows from some same is = is ∙ ap rows same ∙ ap (λ (b : Bool). b && rows start) (sym (lt-ltb 0 version (omega (arith, some))))
serves_by (Err refused) version start rows from some same is = tt

-- ---- what is found

pub made_found : (pages : ℕ) (image : Image) (d : Dimensions) (writes : List Write) → Some d ≡ dimensions_on pages image → AreMade d image writes → AreMadeOn pages image writes
made_found pages image d writes found is = subst (λ (o : Option Dimensions). MatchOption o (writes ≡ []) (λ e. AreMade e image writes)) found is

pub none_found : (pages : ℕ) (image : Image) (writes : List Write) → None ≡ dimensions_on pages image → writes ≡ [] → AreMadeOn pages image writes
none_found pages image writes found is = subst (λ (o : Option Dimensions). MatchOption o (writes ≡ []) (λ e. AreMade e image writes)) found is

pub twins_found : (pages : ℕ) (image : Image) (d : Dimensions) → Some d ≡ dimensions_on pages image → twins_in d.format ≡ false → ⊥
twins_found pages image d found off = true≢false (sym (found_third pages image d (sym found)).0 ∙ off)

pub inside_found : (d : Dimensions) (pages : ℕ) (writes : List Write) → pages_of d ≡ pages → IsInside d writes → AllByRecursion (λ (w : Write). w.0 < pages) writes
inside_found d pages writes sized is = subst (λ (n : ℕ). AllByRecursion (λ (w : Write). w.0 < n) writes) sized is
