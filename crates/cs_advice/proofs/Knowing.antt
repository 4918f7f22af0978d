-- What is known of a device by pages that were read one after another.
use Rattle.std.proofs.Common.{◌≡◌, ◌≢◌, ◌⊎◌, ◌-◌, ◌<◌, ◌≤◌, ◌∙◌, ℕ, Bool, true, false, List, None, Some, arith, inl, inr, refl, sym, subst}
use Rattle.std.specs.Prelude.{◌↔◌, Contains, IfSome, IsTrue, Option}
use Rattle.cs_disk.specs.declared.disk.PageDisk.{Ghosts as PageDisk}
use Rattle.cs_disk.specs.Disk.{Image, State, page, seen}
use Rattle.cs_disk.specs.Reads.{OnlyReads}
use Rattle.cs_frame.specs.declared.formats.FormatNumber.{FormatNumber}
use Rattle.cs_frame.specs.declared.formats.FormatNumber.TheVariants.{Four, Two}
use Rattle.cs_frame.specs.declared.identities.StoreId.{StoreId}
use Rattle.cs_frame.specs.declared.superblocks.Superblock.{Superblock}
use Rattle.cs_frame.specs.FirstFormat.{page_zero_fault}
use Rattle.cs_frame.specs.FormatNumbers.{number_in}
use Rattle.cs_reader.specs.Openings.{SpellsFirst, SpellsFurther}
use Rattle.cs_twin.specs.declared.findings.Finding.{Finding}
use Rattle.cs_twin.specs.Findings.{held_of}
use Rattle.cs_mount.specs.Identities.{stores_on}
use Rattle.cs_mount.specs.Showing.{findings_on}
use Rattle.cs_advice.specs.declared.knowns.Content.{Content}
use Rattle.cs_advice.specs.declared.knowns.Content.TheVariants.{Broken, Empty, Length, Store, Torn, TwoStores}
use Rattle.cs_advice.specs.Knowns.{IsContentOf, IsFirstOf, IsSuperseded, Names, NamesStore, begins_superseded}

-- what a test that failed would have shown
pub denied : {P : Type 0} (b : Bool) → b ≡ false → IsTrue b ↔ P → ¬ P
denied true is h p = cc is
denied false is h p = let t : IsTrue false = h.1 p in cc

-- page 0 isn't whole, and the last page begins so; the disk held the same at each reading
pub superseded_at_end : (pages last : ℕ) (s t u : State) → t ≡ s → u ≡ t → last ≡ pages - 1
    → page_zero_fault (page (seen t) 0) ≢ None → begins_superseded (page (seen u) last) ≡ true → IsSuperseded pages (seen s)
superseded_at_end pages last s t u first then_ is fault begins =
    inr (
      subst (λ (x : State). page_zero_fault (page (seen x) 0) ≢ None) first fault,
      subst (λ (n : ℕ). begins_superseded (page (seen s) n) ≡ true) is (subst (λ (x : State). begins_superseded (page (seen x) last) ≡ true) (then_ ∙ first) begins),
    )

-- ---- what was read of a disk that only reads were asked of

module _ {D : Type 0} (disks : PageDisk D) (P : ℕ → Image → Type 0) (old new : D) (reads : OnlyReads disks old new) (honest : disks.honest old) where
  pub read_before : P (disks.page_count new) (seen (disks.state new)) → P (disks.page_count old) (seen (disks.state old))
  read_before is = subst (λ (n : ℕ). P n (seen (disks.state old))) reads.pages (subst (λ (s : State). P (disks.page_count new) (seen s)) (reads.same honest) is)

  pub read_after : P (disks.page_count old) (seen (disks.state old)) → P (disks.page_count new) (seen (disks.state new))
  read_after is = subst (λ (n : ℕ). P n (seen (disks.state new))) (sym reads.pages) (subst (λ (s : State). P (disks.page_count old) (seen s)) (sym (reads.same honest)) is)

-- a page among the last names this store
pub named_back : {D : Type 0} (disks : PageDisk D) (old now : D) (pages back : ℕ) (format : FormatNumber) (wanted : ℕ) → OnlyReads disks old now → disks.honest old → pages ≡ disks.page_count old → 1 ≤ back → back < pages
    → Names (pages - back) (page (seen (disks.state now)) (pages - back)) format wanted → NamesStore (disks.page_count old) (seen (disks.state old)) format wanted
named_back disks old now pages back format wanted reads honest all some few names =
    (pages - back, omega (arith, all, some, few), subst (λ (s : State). Names (pages - back) (page (seen s) (pages - back)) format wanted) (reads.same honest) names)

-- ---- which content is told

-- a store, or the pair of a finding of which neither page is whole
abbrev pub IsOfFindings : List Finding → Content → Type 0
IsOfFindings findings content = (content ≡ Store Four) ⊎ ((it : Finding) × Contains findings it × ((held_of it).version ≡ 0) × (content ≡ Torn it.pair.page it.pair.twin))

pub findings_some : (findings : List Finding) (content : Content) → IsOfFindings findings content → content ≢ Empty
findings_some findings content (inl is) empty = let clash : Store Four ≡ Empty = sym is ∙ empty in absurd (cc clash)
findings_some findings content (inr torn) empty = let clash : Torn torn.0.pair.page torn.0.pair.twin ≡ Empty = sym torn.3 ∙ empty in absurd (cc clash)

pub findings_length : (findings : List Finding) (content : Content) → IsOfFindings findings content → (pages wanted : ℕ) → content ≢ Length pages wanted
findings_length findings content (inl is) pages wanted length = let clash : Store Four ≡ Length pages wanted = sym is ∙ length in absurd (cc clash)
findings_length findings content (inr torn) pages wanted length = let clash : Torn torn.0.pair.page torn.0.pair.twin ≡ Length pages wanted = sym torn.3 ∙ length in absurd (cc clash)

pub findings_content : (pages : ℕ) (image : Image) (findings : List Finding) (content : Content) → findings ≡ findings_on pages image → IsOfFindings findings content → NamesStore pages image Four pages → IsContentOf pages image content
findings_content pages image findings content are (inl is) names = subst (IsContentOf pages image) (sym is) names
findings_content pages image findings content are (inr torn) names =
    subst (IsContentOf pages image) (sym torn.3) (names, (torn.0, subst (λ (l : List Finding). Contains l torn.0) are torn.1, refl, refl, torn.2))

-- a store of format 2, or one with a page that isn't whole
pub sections_some : (content : Content) → (content ≡ Store Two) ⊎ (content ≡ Broken) → content ≢ Empty
sections_some content (inl is) empty = let clash : Store Two ≡ Empty = sym is ∙ empty in absurd (cc clash)
sections_some content (inr is) empty = let clash : Broken ≡ Empty = sym is ∙ empty in absurd (cc clash)

pub sections_length : (content : Content) → (content ≡ Store Two) ⊎ (content ≡ Broken) → (pages wanted : ℕ) → content ≢ Length pages wanted
sections_length content (inl is) pages wanted length = let clash : Store Two ≡ Length pages wanted = sym is ∙ length in absurd (cc clash)
sections_length content (inr is) pages wanted length = let clash : Broken ≡ Length pages wanted = sym is ∙ length in absurd (cc clash)

pub sections_content : (pages : ℕ) (image : Image) (content : Content) → (content ≡ Store Two) ⊎ (content ≡ Broken) → NamesStore pages image Two pages → IsContentOf pages image content
sections_content pages image content (inl is) names = subst (IsContentOf pages image) (sym is) names
sections_content pages image content (inr is) names = subst (IsContentOf pages image) (sym is) names

-- both stores, where two were found
pub two_content : (pages : ℕ) (image : Image) (first last : StoreId) (content : Content) → Some (first.0, last.0) ≡ stores_on pages image → content ≡ TwoStores first last → IsContentOf pages image content
two_content pages image first last content stores is = subst (IsContentOf pages image) (sym is) (sym stores)

-- ---- which store a page names

pub where_some : {T : Type 0} (P Q : T → Type 0) (o : Option T) → ((x : T) → P x → Q x) → IfSome o P → IfSome o Q
where_some P Q None f h = tt
where_some P Q (Some x) f h = f x h

pub first_names : (bytes : List ℕ) (it : Superblock) (format : FormatNumber) (pages : ℕ) → SpellsFirst bytes it → IsFirstOf it format pages → Names 0 bytes format pages
first_names bytes it format pages spelled is = record { it = it; is_first = is; spelled = inl (refl, spelled) }

pub last_names : (number : ℕ) (bytes : List ℕ) (it : Superblock) (format : FormatNumber) (pages less : ℕ) → less ≡ number → less ≡ pages - 1 → number_in it.format ≡ Four → SpellsFurther bytes it → IsFirstOf it format pages
    → Names number bytes format pages
last_names number bytes it format pages less is one four spelled first = record { it = it; is_first = first; spelled = inr (sym is ∙ one, first.format_is ∙ four, spelled) }
