-- The runs that are read as a store is opened, and what a reading is refused for.
use Rattle.std.proofs.Common.{◌≡◌, ◌≢◌, ◌⊎◌, inl, inr, ⊎_elim, ◌∙◌, ℕ, suc, ◌+◌, ◌<◌, ◌≤◌, Bool, true, false, List, [], ◌∷◌, ◌++◌, Some, Err, Vec, length, map, take, refl, sym, ap, subst, arith}
use Rattle.std.specs.Prelude.{MatchBool, Option, slice_get}
use Rattle.std.specs.List.{AllByRecursion}
use Rattle.std.specs.declared.alloc.Global.{Global}
use Rattle.std.proofs.lemmas.Bool.{cases_lt}
use Rattle.std.proofs.lemmas.List.{length-map, map-append}
use Rattle.cs_chunk.specs.Chunks.{IsFrameIn}
use Rattle.cs_chunk.specs.Newest.{AreNewest}
use Rattle.cs_chunk.specs.Reads.{IsCaused, IsNoAnswer, IsOfFault, fault_in}
use Rattle.cs_frame.specs.Refusals.{refusal_for}
use Rattle.cs_refusal.specs.declared.refusals.Refusal.{Refusal}
use Rattle.cs_refusal.specs.declared.refusals.Refusal.TheVariants.{DeviceFault, OutOfMemory as NoMemory}
use Rattle.cs_deps.specs.State.{NoneOn, State as GraphState}
use Rattle.cs_disk.specs.Disk.{Image, page}
use Rattle.cs_extent.specs.State.{State as ExtentsState}
use Rattle.cs_frame.specs.declared.faults.FormatFault.{FormatFault}
use Rattle.cs_frame.specs.declared.faults.FormatFault.TheVariants.{BadGeometry, OutOfMemory, BadMagic, BadDigest, BadLength, BadPadding, BadVersion, OutOfOrder, Misplaced}
use Rattle.cs_frame.specs.declared.frames.FrameKind.TheVariants.{Run}
use Rattle.cs_frame.specs.declared.identifiers.ShardId.{ShardId}
use Rattle.cs_frame.specs.declared.locators.Locator.{Locator}
use Rattle.cs_frame.specs.FormatRuns.{SpellsRun, run_fault}
use Rattle.cs_frame.specs.Locators.{FitsLocator, KeepFormat}
use Rattle.cs_frame.specs.Runs.{FitsEntry, IsRun, entries_of as spelled_entries, entry_of}
use Rattle.cs_frame.specs.Places.{Listed}
use Rattle.cs_reader.specs.ImageReads.{AreRunsRead, HasRunAt, IsLocated}
use Rattle.cs_index.proofs.Sorted.{all_append, take_at_get}
use Rattle.cs_index.specs.declared.stored_runs.StoredRun.{StoredRun}
use Rattle.law_machine.specs.Format.{Format}
use Rattle.law_machine.specs.Formats.{RunFrame}
use Rattle.law_machine.specs.Geometry.{marks_in}
use Rattle.cs_reader.specs.Openings.{IsWhyNoRuns, IsWhyNotRead}

-- ---- refusals

not_device : (f : FormatFault) → refusal_for f ≢ DeviceFault
not_device BadGeometry e = cc e
not_device OutOfMemory e = cc e
not_device BadMagic e = cc e
not_device BadDigest e = cc e
not_device BadLength e = cc e
not_device BadPadding e = cc e
not_device BadVersion e = cc e
not_device OutOfOrder e = cc e
not_device Misplaced e = cc e

-- the refusal of a fault isn't the device's
pub no_device : (f : FormatFault) (r : Refusal) → r ≡ refusal_for f → r ≢ DeviceFault
no_device f r is e = not_device f (sym is ∙ e)

-- what the device isn't to blame for has its cause whatever the device's count
pub not_caused : {T : Type 0} (before now : ℕ) (r : Refusal) → before ≤ now → r ≢ DeviceFault → IsCaused {T = T} before now (Err r)
not_caused before now r le other = record { later = le; failed = λ e. let is : r ≡ DeviceFault = cc in absurd (other is) }

-- the refusal of a fault that was found, unless memory ran out
pub memory_or_fault : (f : FormatFault) (found : Option FormatFault) (r : Refusal) → r ≡ refusal_for f → (f ≢ OutOfMemory → found ≡ Some f) → (r ≡ NoMemory) ⊎ IsOfFault found r
memory_or_fault OutOfMemory found r is h = inl is
memory_or_fault BadGeometry found r is h = inr (BadGeometry, h (λ e. cc e), is)
memory_or_fault BadMagic found r is h = inr (BadMagic, h (λ e. cc e), is)
memory_or_fault BadDigest found r is h = inr (BadDigest, h (λ e. cc e), is)
memory_or_fault BadLength found r is h = inr (BadLength, h (λ e. cc e), is)
memory_or_fault BadPadding found r is h = inr (BadPadding, h (λ e. cc e), is)
memory_or_fault BadVersion found r is h = inr (BadVersion, h (λ e. cc e), is)
memory_or_fault OutOfOrder found r is h = inr (OutOfOrder, h (λ e. cc e), is)
memory_or_fault Misplaced found r is h = inr (Misplaced, h (λ e. cc e), is)

-- the same, where the device or memory may have refused
pub fault_or_none : (f : FormatFault) (found : Option FormatFault) (r : Refusal) → r ≡ refusal_for f → (f ≢ OutOfMemory → found ≡ Some f) → IsNoAnswer r ⊎ IsOfFault found r
fault_or_none f found r is h = ⊎_elim (λ m. inl (inr m)) inr (memory_or_fault f found r is h)

-- what isn't more
pub no_heavier : (most n : ℕ) → (most < n → ⊥) → n ≤ most
no_heavier most n not = elim (cases_lt most n) [ inl more ↦ absurd (not more) | inr le ↦ le ]

-- what a test says
pub passed : (P Q : Type 0) (b : Bool) → MatchBool b P Q → b ≡ true → P
passed P Q true m e = m
passed P Q false m e = absurd (cc e)

pub failed : (P Q : Type 0) (b : Bool) → MatchBool b P Q → b ≡ false → Q
failed P Q true m e = absurd (cc e)
failed P Q false m e = m

-- one of the first of a list more
pub all_more : {X : Type 0} (P : X → Type 0) (xs : List X) (k : ℕ) (x : X) → AllByRecursion P (take k xs) → slice_get xs k ≡ Some x → P x → AllByRecursion P (take (k + 1) xs)
all_more P xs k x all at is =
    let same : suc k ≡ k + 1 = omega arith in
    subst (λ n. AllByRecursion P (take n xs)) same (subst (AllByRecursion P) (sym (take_at_get xs k x at)) (all_append P (take k xs) (x ∷ []) all (is, tt)))

-- where nothing waits, pages read as the device has them
pub fresh_view : (g : GraphState) (image : Image) → ((p : ℕ) → NoneOn g p) → AreNewest g image (page image)
fresh_view g image none p = inr (none p, refl)

-- ---- one run

counts_of : (marked : Bool) (xs : List (ShardId × Listed)) → AllByRecursion (FitsEntry marked) (spelled_entries xs) → AllByRecursion (λ entry. length entry.1.items ≤ 8) xs
counts_of marked [] all = tt
counts_of marked (x ∷ xs) all = (all.0.count, counts_of marked xs all.1)

-- locators that are spelled without marks have none
none_marked : (ls : List Locator) → AllByRecursion (FitsLocator false) ls → AllByRecursion (λ l. l.mark ≡ 0) ls
none_marked [] all = tt
none_marked (l ∷ ls) all = ((let low : l.mark ≤ 0 = all.0.mark in omega arith), none_marked ls all.1)

pub fits_keep : (format : Format) (ls : List Locator) → AllByRecursion (FitsLocator (marks_in format)) ls → KeepFormat format ls
fits_keep format ls all = λ off. none_marked ls (subst (λ (b : Bool). AllByRecursion (FitsLocator b) ls) off all)

marks_of : (format : Format) (xs : List (ShardId × Listed)) → AllByRecursion (FitsEntry (marks_in format)) (spelled_entries xs) → AllByRecursion (λ entry. KeepFormat format entry.1.items) xs
marks_of format [] all = tt
marks_of format (x ∷ xs) all = (fits_keep format x.1.items all.0.each, marks_of format xs all.1)

pub is_run : (format : Format) (entries : Vec (ShardId × Listed) Global) (payload : List ℕ) → SpellsRun payload format (spelled_entries entries.items) → IsRun format (record { entries = entries })
is_run format entries payload is = record {
  some = (let e : length (spelled_entries entries.items) ≡ length entries.items = length-map entries.items entry_of in let some : 1 ≤ length (spelled_entries entries.items) = is.fits.some in omega arith);
  most = (let e : length (spelled_entries entries.items) ≡ length entries.items = length-map entries.items entry_of in omega (arith, is.fits.most, e));
  counts = counts_of (marks_in format) entries.items is.fits.each;
  rising = is.fits.rising;
  marks = marks_of format entries.items is.fits.each;
}

module _ (x : ExtentsState) (view : ℕ → List ℕ) (place : Locator) (located : IsLocated x place) (payload given : List ℕ) (same : given ≡ payload) (frame : IsFrameIn x view RunFrame place payload)
    (format : Format) (of_format : format ≡ x.format) where
  pub run_read : (entries : Vec (ShardId × Listed) Global) → SpellsRun given format (spelled_entries entries.items) → HasRunAt x view place (spelled_entries entries.items)
  run_read entries spelled = record {
    located = located;
    payload = payload;
    frame = frame;
    spelled = subst (λ (f : Format). SpellsRun payload f (spelled_entries entries.items)) of_format
        (subst (λ (b : List ℕ). SpellsRun b format (spelled_entries entries.items)) same spelled);
  }

  pub run_not_read : (r : Refusal) → IsNoAnswer r ⊎ IsOfFault (run_fault format given) r → IsNoAnswer r ⊎ IsWhyNotRead x view place r
  run_not_read r why =
      ⊎_elim inl (λ f. inr (inr (inr (located, (payload, frame, subst (λ (n : Format). IsOfFault (run_fault n payload) r) of_format (subst (λ (b : List ℕ). IsOfFault (run_fault format b) r) same f)))))) why

pub frame_not_read : (x : ExtentsState) (view : ℕ → List ℕ) (place : Locator) (r : Refusal) → IsLocated x place → IsNoAnswer r ⊎ IsOfFault (fault_in x view Run place) r → IsNoAnswer r ⊎ IsWhyNotRead x view place r
frame_not_read x view place r located why = ⊎_elim (λ n. inl n) (λ f. inr (inr (inl (located, f)))) why

-- ---- one run after another

-- one run more, at the next place
pub listed_more : (places : List Locator) (runs : List StoredRun) (run : StoredRun) (k : ℕ) → map (λ run. run.place) runs ≡ take k places → slice_get places k ≡ Some run.place
    → map (λ run. run.place) (runs ++ run ∷ []) ≡ take (k + 1) places
listed_more places runs run k listed at =
    let more : suc k ≡ k + 1 = omega arith in
    map-append (λ (r : StoredRun). r.place) runs (run ∷ [])
    ∙ ap (λ (ls : List Locator). ls ++ run.place ∷ []) listed
    ∙ sym (take_at_get places k run.place at)
    ∙ ap (λ (n : ℕ). take n places) more

pub no_runs : (x : ExtentsState) (view : ℕ → List ℕ) (places : List Locator) (runs : List StoredRun) (k : ℕ) (place : Locator) (r : Refusal)
    → AreRunsRead x view places runs → length runs ≡ k → slice_get places k ≡ Some place → IsNoAnswer r ⊎ IsWhyNotRead x view place r → IsNoAnswer r ⊎ IsWhyNoRuns x view places r
no_runs x view places runs k place r older many at why =
    ⊎_elim (λ n. inl n) (λ w. inr (record { runs = runs; older = older; place = place; next = subst (λ (n : ℕ). slice_get places n ≡ Some place) (sym many) at; why = w })) why
