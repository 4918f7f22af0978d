-- Which chunks are noted, once one more is.
use Rattle.std.proofs.Common.{◌≡◌, ◌⊎◌, ◌∙◌, inl, inr, ⊎_elim, ℕ, ◌+◌, ◌-◌, ◌<◌, ◌≤◌, List, [], ◌∷◌, ◌++◌, Some, Result, Ok, Err, length, get_or, take, sym, ap, ap₂, subst, take_all}
use Rattle.std.specs.Prelude.{OnErr, OnOk}
use Rattle.std.specs.List.{AllByRecursion}
use Rattle.std.proofs.lemmas.Bool.{cases_eq}
use Rattle.std.proofs.lemmas.List.{take_more}
use Rattle.cs_chunk.specs.Chunks.{end_in}
use Rattle.cs_chunk.specs.Lengths.{length_at}
use Rattle.cs_deps.specs.State.{State as GraphState}
use Rattle.cs_extent.specs.State.{State as ExtentsState, extents_of, shape}
use Rattle.cs_frame.specs.declared.frames.FrameKind.TheVariants.{Chunk}
use Rattle.cs_frame.specs.declared.locators.Locator.{Locator}
use Rattle.cs_frame.specs.FormatNumbers.{number_in}
use Rattle.cs_frame.specs.Frames.{header_fault, kind_byte}
use Rattle.cs_frame.proofs.MarkLaws.{header_passes}
use Rattle.law_machine.specs.Geometry.{mark_in}
use Rattle.cs_core.specs.Known.{AreNotedIfWaiting, HasHeader, IsNotedAs, IsNotedIfWaits, NotesWhatWaits, StayNoted}
use Rattle.cs_core.specs.Lengths.{Row, noted_at, noted_then}
use Rattle.cs_core.proofs.NotedLengths.{noted_here, noted_still, same_place}

-- ---- a result

-- it is a success or it isn't
pub either_way : {A E : Type 0} {P Q : Type 0} (r : Result A E) → OnOk r P → OnErr r Q → P ⊎ Q
either_way (Ok a) ok err = inl ok
either_way (Err e) ok err = inr err

-- ---- headers in one page

module _ (x : ExtentsState) (view : ℕ → List ℕ) where
  mark_there : (l : Locator) → HasHeader x view l → mark_in (shape x).format (view ((shape x).address l.extent l.page)) ≡ l.mark
  mark_there l is = (header_passes (header_fault (number_in (shape x).format) (kind_byte Chunk) (view ((shape x).address l.extent l.page)) (end_in x l - l.page))
      (mark_in (shape x).format (view ((shape x).address l.extent l.page))) l.mark is.passes).1

  one_generation : (k l : Locator) → k.extent ≡ l.extent → HasHeader x view k → HasHeader x view l → k.generation ≡ l.generation
  one_generation k l extent here there = sym here.given.generation ∙ ap (λ (e : ℕ). (extents_of x).generation e) extent ∙ there.given.generation

  -- two places whose headers are in one page are one
  one_place : (k l : Locator) → k.extent ≡ l.extent → k.page ≡ l.page → HasHeader x view k → HasHeader x view l → k ≡ l
  one_place k l extent page here there = same_place k l extent page (one_generation k l extent here there)
      (sym (mark_there k here) ∙ ap₂ (λ (e p : ℕ). mark_in (shape x).format (view ((shape x).address e p))) extent page ∙ mark_there l there)

  -- ---- one more is noted

  module _ (old new : List Row) (place : Locator) (count : ℕ) (noted : (l : Locator) → noted_at new l ≡ noted_then (noted_at old) place count l) (says : count ≡ length_at (shape x) view place) where
    pub noted_place : IsNotedAs (shape x) view new place
    noted_place = noted place ∙ noted_here (noted_at old) place count ∙ ap (λ (n : ℕ). Some n) says

    pub noted_stays : HasHeader x view place → (l : Locator) → HasHeader x view l → IsNotedAs (shape x) view old l → IsNotedAs (shape x) view new l
    noted_stays here l there was = elim (cases_eq place.extent l.extent) [
      | inr not ↦ noted l ∙ noted_still (noted_at old) place count l (λ extent. absurd (not extent)) ∙ was
      | inl extent ↦ elim (cases_eq place.page l.page) [
        | inr not ↦ noted l ∙ noted_still (noted_at old) place count l (λ same. (one_generation place l same here there, not)) ∙ was
        | inl page ↦ subst (IsNotedAs (shape x) view new) (one_place place l extent page here there) noted_place
      ]
    ]

-- ---- one place after another

some_stay : (P Q : Locator → Type 0) (ls : List Locator) → ((l : Locator) → P l → Q l) → AllByRecursion P ls → AllByRecursion Q ls
some_stay P Q [] stay are = tt
some_stay P Q (l ∷ ls) stay are = (stay l are.0, some_stay P Q ls stay are.1)

one_more : (P : Locator → Type 0) (ls : List Locator) (l : Locator) → AllByRecursion P ls → P l → AllByRecursion P (ls ++ l ∷ [])
one_more P [] l are is = (is, tt)
one_more P (k ∷ ls) l are is = (are.0, one_more P ls l are.1 is)

module _ (x : ExtentsState) (graph : GraphState) where
  pub waiting_more : (old new : List Row) (ls : List Locator) (k : ℕ) (l d : Locator) → k < length ls → l ≡ get_or ls k d → AreNotedIfWaiting x graph old (take k ls)
      → StayNoted x graph old new → AreNotedIfWaiting x graph new (l ∷ []) → AreNotedIfWaiting x graph new (take (k + 1) ls)
  waiting_more old new ls k l d lt at were stay more image view are =
      let longer : take (k + 1) ls ≡ take k ls ++ l ∷ [] = take_more ls k d lt ∙ ap (λ (m : Locator). take k ls ++ m ∷ []) (sym at) in
      subst (AllByRecursion (IsNotedIfWaits x graph view new)) (sym longer)
      (one_more (IsNotedIfWaits x graph view new) (take k ls) l
      (some_stay (IsNotedIfWaits x graph view old) (IsNotedIfWaits x graph view new) (take k ls) (λ m was there. ⊎_elim (λ (it : IsNotedAs (shape x) view old m). inl (stay image view are m there it)) (λ none. inr none) (was there)) (were image view are))
      (more image view are).0)

  pub all_waiting : (new : List Row) (ls : List Locator) (k : ℕ) → length ls ≤ k → AreNotedIfWaiting x graph new (take k ls) → AreNotedIfWaiting x graph new ls
  all_waiting new ls k le were = subst (AreNotedIfWaiting x graph new) (take_all k ls le) were

  -- what was noted one after the other is what waits
  pub waits_then : (old mid new : List Row) → NotesWhatWaits x graph old mid → NotesWhatWaits x graph mid new → NotesWhatWaits x graph old new
  waits_then old mid new first second l count is = ⊎_elim (λ was. first l count was) (λ said. inr said) (second l count is)
