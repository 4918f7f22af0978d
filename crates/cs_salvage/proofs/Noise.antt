-- Runs of whose frames other bytes than zeros follow the payload.
use Rattle.std.proofs.Common.{◌≡◌, ◌∙◌, ◌⊎◌, ◌==◌, ℕ, ◌+◌, ◌-◌, ◌<◌, ◌≤◌, ◌++◌, Bool, true, false, List, [], ◌∷◌, Option, Some, None, Result, Ok, Err, IfErr, IfOk, bytes_eq, codes, length, map, get_or, take, nat_le, refl, sym, ap, subst, inl, inr, arith}
use Rattle.std.specs.Prelude.{drop, slice_index}
use Rattle.std.specs.List.{AllByRecursion}
use Rattle.std.proofs.lemmas.List.{ext_get_or, get_or-take, length-take-le}
use Rattle.sha2.specs.Sha256.{sha256}
use Rattle.cs_chunk.proofs.Framed.{end_low, no_fault_there}
use Rattle.cs_chunk.specs.Chunks.{IsFrameIn, end_in}
use Rattle.cs_chunk.specs.Reads.{IsFrameFront, IsNoAnswer, IsOfFault, fault_in, pages_in}
use Rattle.cs_extent.specs.State.{IsWhole, State as ExtentsState, shape}
use Rattle.cs_frame.specs.declared.faults.FormatFault.{FormatFault}
use Rattle.cs_frame.specs.declared.faults.FormatFault.TheVariants.{BadDigest, BadGeometry, BadLength, BadMagic, BadPadding, BadVersion, Misplaced, OutOfMemory, OutOfOrder}
use Rattle.cs_frame.specs.declared.formats.FormatNumber.{FormatNumber}
use Rattle.cs_frame.specs.declared.frames.FrameKind.TheVariants.{Run}
use Rattle.cs_frame.specs.declared.locators.Locator.{Locator}
use Rattle.cs_frame.proofs.FormatRunLaws.{fault-spelled}
use Rattle.cs_frame.proofs.GeometryLaws.{bounds}
use Rattle.cs_frame.proofs.FrameLaws.{fault_of_taken, payload_is_read, payload_of_taken}
use Rattle.cs_frame.proofs.Pieces.{length-first_chunks}
use Rattle.cs_frame.specs.Bytes.{all_zero, field}
use Rattle.cs_frame.specs.Faults.{fault_in as told_of, first_fault, unless}
use Rattle.cs_frame.specs.FormatNumbers.{number_in, page_digit}
use Rattle.cs_frame.specs.FormatRuns.{SpellsRun, run_fault}
use Rattle.cs_frame.specs.Formats.{formats_of, place_of}
use Rattle.cs_frame.specs.Frames.{bytes_in, first_page, frame_bytes, frame_count, frame_fault, header_fault, page_count, payload_in, payload_length, spelled_frame}
use Rattle.cs_frame.specs.Heads.{is_long_in}
use Rattle.cs_frame.specs.MeantFrames.{mark_test, meant_header_fault}
use Rattle.cs_frame.specs.Refusals.{refusal_for}
use Rattle.cs_frame.specs.Runs.{Entry, entries_of as spelled_entries}
use Rattle.cs_index.specs.declared.stored_runs.StoredRun.{StoredRun}
use Rattle.cs_index.specs.State.{newest_first, run_of}
use Rattle.cs_reader.proofs.OneByOne.{place_inside}
use Rattle.cs_reader.specs.ImageReads.{IsLocated, IsReadable, IsRunRead}
use Rattle.cs_reader.specs.Openings.{IsWhyNotRead}
use Rattle.cs_refusal.specs.declared.refusals.Refusal.{Refusal}
use Rattle.cs_refusal.specs.declared.refusals.Refusal.TheVariants as refusal
use Rattle.law_machine.specs.Format.{Format}
use Rattle.law_machine.specs.Formats.{RunFrame, places}
use Rattle.law_machine.specs.Lists.{◌∈◌}
use Rattle.law_machine.specs.Geometry.{mark_in}
use Rattle.cs_salvage.specs.Runs.{HasMeantRun, HasNoRun, HasRightDigest, HasRunBeforeNoise, IsMeantFront, IsOtherHeader, IsRunRescued, IsWhyNoRun, NoneBeforeNoise}
use Rattle.cs_salvage.specs.Spared.{LiesStill}
use Rattle.cs_salvage.proofs.Fronts.{has_place}
use Rattle.cs_salvage.proofs.Standing.{at_from, front_of, length-from}

-- ---- tests in order

-- where the zeros are the first fault all tests before them pass
right_so : (a b c d e f : Bool) → first_fault (unless a BadMagic ∷ unless b BadVersion ∷ unless c BadVersion ∷ unless d BadLength ∷ unless e BadDigest ∷ unless f BadPadding ∷ []) ≡ Some BadPadding
    → (first_fault (unless a BadMagic ∷ unless b BadVersion ∷ unless c BadVersion ∷ unless d BadLength ∷ []) ≡ None) × (unless e BadDigest ≡ None)
right_so false b c d e f is = absurd (cc is)
right_so true false c d e f is = absurd (cc is)
right_so true true false d e f is = absurd (cc is)
right_so true true true false e f is = absurd (cc is)
right_so true true true true false f is = absurd (cc is)
right_so true true true true true f is = (refl, refl)

pub right_digest : (form : FormatNumber) (pages : List (List ℕ)) → frame_fault form 1 pages ≡ Some BadPadding → HasRightDigest form pages
right_digest form pages is =
    let both = right_so (bytes_eq (field 0 3 (first_page pages)) (codes "CSF")) (slice_index (first_page pages) 3 == page_digit form) (slice_index (first_page pages) 4 == 1)
    (nat_le (page_count (payload_length (first_page pages))) (length pages)) (bytes_eq (field 9 41 (bytes_in pages)) (sha256 (payload_in pages)))
    (all_zero (drop (41 + payload_length (first_page pages)) (bytes_in pages))) is in
    record { header = both.0; digest = both.1 }

-- the frame's own fault is that of the frame that is meant
own_so : (o : Option FormatFault) (a b : Bool) → first_fault (o ∷ unless a Misplaced ∷ unless b BadLength ∷ []) ≡ Some BadPadding → o ≡ Some BadPadding
own_so (Some f) a b is = is
own_so None false b is = absurd (cc is)
own_so None true false is = absurd (cc is)
own_so None true true is = absurd (cc is)

-- where a header is the one that is meant its mark is
mark_so : (o m : Option FormatFault) → first_fault (o ∷ m ∷ []) ≡ None → m ≡ None
mark_so (Some f) m is = absurd (cc is)
mark_so None (Some f) is = absurd (cc is)
mark_so None None is = refl

pub header_marked : (format : Format) (mark : ℕ) (all pages : List (List ℕ)) → IsMeantFront format mark all pages → mark_test format mark (first_page all) ≡ None
header_marked format mark all pages it = mark_so (header_fault (number_in format) 1 (first_page all) (length all)) (mark_test format mark (first_page all)) it.meant

-- the refusal of bad padding is of that fault alone
is_padding : (f : FormatFault) → refusal.BadPadding ≡ refusal_for f → f ≡ BadPadding
is_padding BadPadding is = refl
is_padding BadGeometry is = absurd (cc is)
is_padding OutOfMemory is = absurd (cc is)
is_padding BadMagic is = absurd (cc is)
is_padding BadDigest is = absurd (cc is)
is_padding BadLength is = absurd (cc is)
is_padding BadVersion is = absurd (cc is)
is_padding OutOfOrder is = absurd (cc is)
is_padding Misplaced is = absurd (cc is)

-- ---- the pages at a place

module _ (x : ExtentsState) (view : ℕ → List ℕ) (l : Locator) where
  abbrev all : List (List ℕ)
  all = pages_in x view l

  own_fault : fault_in x view Run l ≡ Some BadPadding → frame_fault (number_in x.format) 1 all ≡ Some BadPadding
  own_fault is = own_so (frame_fault (number_in x.format) 1 all) (mark_in x.format (first_page all) == l.mark) (is_long_in x.format (first_page all)) is

  -- of another header no run lies there, whatever follows it
  pub other_header : IsOtherHeader x.format l.mark all → NoneBeforeNoise x view l
  other_header other entries noise =
      let right = right_digest (number_in x.format) all (own_fault noise.fault) in
      let none : meant_header_fault x.format 1 l.mark (first_page all) (length all) ≡ None = both (header_fault (number_in x.format) 1 (first_page all) (length all)) (mark_test x.format l.mark (first_page all)) right.header noise.run.marked in
      let clash : None ≡ Some other.0 = sym none ∙ other.1 in
      cc clash
    where
      both : (o m : Option FormatFault) → o ≡ None → m ≡ None → first_fault (o ∷ m ∷ []) ≡ None
      both o m first second = ap (λ (k : Option FormatFault). first_fault (k ∷ m ∷ [])) first ∙ ap (λ (k : Option FormatFault). first_fault (k ∷ [])) second

  module _ (pages : List (List ℕ)) (front : IsFrameFront all pages) where
    same_payload : payload_in pages ≡ payload_in all
    same_payload = ap payload_in front.taken ∙ payload_of_taken all (frame_count all) (omega arith) front.enough

    same_fault : frame_fault (number_in x.format) 1 pages ≡ frame_fault (number_in x.format) 1 all
    same_fault = ap (frame_fault (number_in x.format) 1) front.taken ∙ fault_of_taken all (frame_count all) (omega arith) front.enough (number_in x.format) 1

    -- where none is in the frame's pages none lies there
    pub none_in_front : HasNoRun x.format pages → NoneBeforeNoise x view l
    none_in_front none entries noise =
        none entries (right_digest (number_in x.format) pages (same_fault ∙ own_fault noise.fault)) (subst (λ (p : List ℕ). SpellsRun p x.format entries) (sym same_payload) noise.run.spelled)

    -- what is in them is meant there
    pub meant_in_front : IsLocated x l → mark_test x.format l.mark (first_page all) ≡ None → (entries : List Entry) → SpellsRun (payload_in pages) x.format entries → HasMeantRun x view l entries
    meant_in_front located marked entries spelled = record {
      located = located;
      marked = marked;
      spelled = subst (λ (p : List ℕ). SpellsRun p x.format entries) same_payload spelled;
    }

  -- pages that were read from there on
  module _ (there : ℕ) (long : there ≡ end_in x l - l.page) (some : 0 < there) (number : ℕ) (at : number ≡ (shape x).address l.extent l.page) (first : List ℕ) (read : first ≡ view number) where
    pub first_read : first_page all ≡ first
    first_read =
        let same : l.page + 0 ≡ l.page = omega arith in
        at_from (shape x) (formats_of (shape x)) view l.extent l.page (end_in x l - l.page) 0 (omega (arith, some, long)) ∙ ap (λ (q : ℕ). view ((shape x).address l.extent q)) same ∙ ap view (sym at) ∙ sym read

    pub length_all : length all ≡ there
    length_all = length-from (shape x) (formats_of (shape x)) view l.extent l.page (end_in x l - l.page) ∙ sym long

    pub front_read : (pages : List (List ℕ)) (count : ℕ) → count ≡ page_count (payload_length first) → count ≤ there → length pages ≡ count → ((i : ℕ) → i < count → get_or pages i [] ≡ view (number + i)) → IsFrameFront all pages
    front_read pages count is fits sized were =
        let same : frame_count all ≡ count = ap (λ (b : List ℕ). page_count (payload_length b)) first_read ∙ sym is in
        let size : length (take count all) ≡ count = length-take-le count all (omega (arith, fits, length_all)) in
        record {
          enough = omega (arith, same, fits, length_all);
          taken = ext_get_or [] pages (take count all) (sized ∙ sym size) (λ k lt.
              let inner : k < count = omega (arith, lt, sized) in
              let next : number + k ≡ (shape x).address l.extent (l.page + k) = omega (arith, at) in
              were k inner ∙ ap view next
              ∙ sym (get_or-take count all k [] inner ∙ at_from (shape x) (formats_of (shape x)) view l.extent l.page (end_in x l - l.page) k (omega (arith, inner, fits, long))))
              ∙ ap (λ (n : ℕ). take n all) (sym same);
        }

    same_header : (format : Format) → format ≡ x.format → meant_header_fault format 1 l.mark first there ≡ meant_header_fault x.format 1 l.mark (first_page all) (length all)
    same_header format same =
        ap (λ (f : Format). meant_header_fault f 1 l.mark first there) same
        ∙ ap (λ (b : List ℕ). meant_header_fault x.format 1 l.mark b there) (sym first_read) ∙ ap (λ (n : ℕ). meant_header_fault x.format 1 l.mark (first_page all) n) (sym length_all)

    -- what a header is that is refused, or isn't
    pub header_other : {H : Type 0} (format : Format) → format ≡ x.format → (result : Result H FormatFault) → told_of result ≡ meant_header_fault format 1 l.mark first there → ((h : H) → result ≡ Ok h → ⊥) → IsOtherHeader x.format l.mark all
    header_other format same (Ok h) is not = absurd (not h refl)
    header_other format same (Err f) is not = (f, sym (same_header format same) ∙ sym is)

    pub header_meant : {H : Type 0} (format : Format) → format ≡ x.format → (result : Result H FormatFault) → told_of result ≡ meant_header_fault format 1 l.mark first there → (h : H) → result ≡ Ok h → meant_header_fault x.format 1 l.mark (first_page all) (length all) ≡ None
    header_meant format same (Ok k) is h ok = sym (same_header format same) ∙ sym is
    header_meant format same (Err f) is h ok = absurd (cc ok)

-- ---- what a whole frame tells

module _ (x : ExtentsState) (whole : IsWhole x) (view : ℕ → List ℕ) (l : Locator) (located : IsLocated x l) where
  -- where it lies there the zeros are no fault
  pub no_noise : (payload : List ℕ) → IsFrameIn x view RunFrame l payload → fault_in x view Run l ≡ Some BadPadding → ⊥
  no_noise payload frame is =
      let none = no_fault_there x whole view Run l (place_inside x l whole located).1 payload frame in
      let clash : None ≡ Some BadPadding = sym none ∙ is in
      cc clash

  -- why none was read tells that none lies there, if the zeros aren't why
  pub not_padding : (r : Refusal) → (r ≡ refusal.BadPadding → ⊥) → IsWhyNotRead x view l r → IsWhyNoRun x view l r
  not_padding r other (inl away) = absurd (away.0 located)
  not_padding r other (inr (inl (on, broken))) = (
    (λ entries noise. other (broken.2 ∙ ap refusal_for (same broken.0 (sym broken.1 ∙ noise.fault)))),
    inr (inl (on, broken)),
  )
    where
      same : (f : FormatFault) → Some f ≡ Some BadPadding → f ≡ BadPadding
      same f is = cc is
  not_padding r other (inr (inr (on, spoiled))) = ((λ entries noise. no_noise spoiled.0 spoiled.1 noise.fault), inr (inr (on, spoiled)))

  -- and what was read of a run whose zeros are why lies there but for them
  pub before_noise : IsWhyNotRead x view l refusal.BadPadding → (run : StoredRun) → run.place ≡ l → HasMeantRun x view l (spelled_entries run.entries.items)
      → ((payload : List ℕ) → IsFrameIn x view RunFrame l payload → payload_in (pages_in x view l) ≡ payload) → IsRunRescued x view run
  before_noise (inl away) run at it one = absurd (away.0 located)
  before_noise (inr (inl (on, broken))) run at it one = inr (subst (λ (p : Locator). HasRunBeforeNoise x view p (spelled_entries run.entries.items)) (sym at)
      (record { fault = broken.1 ∙ ap (λ (f : FormatFault). Some f) (is_padding broken.0 broken.2); run = it }))
  before_noise (inr (inr (on, spoiled))) run at it one =
      let spelled : SpellsRun spoiled.0 x.format (spelled_entries run.entries.items) = subst (λ (p : List ℕ). SpellsRun p x.format (spelled_entries run.entries.items)) (one spoiled.0 spoiled.1) it.spelled in
      let none = fault-spelled x.format spoiled.0 (spelled_entries run.entries.items) whole.geometry.fits_format spelled in
      absurd (let clash : None ≡ Some spoiled.2.0 = sym none ∙ spoiled.2.1 in cc clash)

  -- a frame that lies there has the payload that its pages say
  pub payload_there : (payload : List ℕ) → IsFrameIn x view RunFrame l payload → payload_in (pages_in x view l) ≡ payload
  payload_there payload frame =
      let size : length (spelled_frame (number_in x.format) 1 payload) ≡ page_count (length payload) = length-first_chunks 4096 (page_count (length payload)) (frame_bytes (number_in x.format) 1 payload) in
      let low = end_low x whole l in
      let few = (bounds _ _ _ _ whole.geometry).most_pages in
      let above = (place_inside x l whole located).1 in
      payload_is_read (number_in x.format) 1 (pages_in x view l) payload (record {
        fits = omega (arith, frame.0, size, low, few);
        spelled = ap (λ (k : ℕ). take k (pages_in x view l)) (sym size)
            ∙ front_of (shape x) (formats_of (shape x)) view l.extent l.page (end_in x l - l.page) (spelled_frame (number_in x.format) 1 payload) (omega (arith, frame.0, above)) frame.1;
      })

  -- of a refusal for the zeros, what is read again
  padding_why : IsNoAnswer refusal.BadPadding ⊎ IsWhyNotRead x view l refusal.BadPadding → IsWhyNotRead x view l refusal.BadPadding
  padding_why (inl (inl e)) = absurd (cc e)
  padding_why (inl (inr e)) = absurd (cc e)
  padding_why (inr why) = why

  pub read_again : IsNoAnswer refusal.BadPadding ⊎ IsWhyNotRead x view l refusal.BadPadding → (result : Result StoredRun Refusal) → IfOk result (λ run. HasMeantRun x view l (spelled_entries run.entries.items)) → IfOk result (λ run. run.place ≡ l)
      → IfOk result (λ run. IsRunRescued x view run)
  read_again why (Ok run) it at = before_noise (padding_why why) run at it payload_there
  read_again why (Err r) it at = tt

  pub none_again : IsNoAnswer refusal.BadPadding ⊎ IsWhyNotRead x view l refusal.BadPadding → (result : Result StoredRun Refusal) → IfErr result (λ r. IsNoAnswer r ⊎ ((r ≡ refusal.BadPadding) × NoneBeforeNoise x view l))
      → IfErr result (λ r. IsNoAnswer r ⊎ IsWhyNoRun x view l r)
  none_again why (Ok run) none = tt
  none_again why (Err r) (inl away) = inl away
  none_again why (Err r) (inr (is, none)) = inr (subst (λ (q : Refusal). IsWhyNoRun x view l q) (sym is) (none, go (padding_why why)))
    where
      go : IsWhyNotRead x view l refusal.BadPadding → ((¬ IsLocated x l) × (refusal.BadPadding ≡ refusal.Misplaced))
          ⊎ (IsLocated x l × IsOfFault (fault_in x view Run l) refusal.BadPadding)
          ⊎ (IsLocated x l × ((payload : List ℕ) × IsFrameIn x view RunFrame l payload × IsOfFault (run_fault x.format payload) refusal.BadPadding))
      go (inl away) = absurd (away.0 located)
      go (inr others) = inr others

  -- and of another refusal
  pub none_otherwise : (r : Refusal) → (r ≡ refusal.BadPadding → ⊥) → IsNoAnswer r ⊎ IsWhyNotRead x view l r → IsNoAnswer r ⊎ IsWhyNoRun x view l r
  none_otherwise r other (inl away) = inl away
  none_otherwise r other (inr why) = inr (not_padding r other why)

-- ---- runs of which the frames lie there

-- what was read of such a run is it
pub rescued_is_read : (x : ExtentsState) → IsWhole x → (view : ℕ → List ℕ) (run : StoredRun) → IsLocated x run.place → (payload : List ℕ) → IsFrameIn x view RunFrame run.place payload → IsRunRescued x view run → IsRunRead x view run
rescued_is_read x whole view run located payload frame (inl read) = read
rescued_is_read x whole view run located payload frame (inr noise) = absurd (no_noise x whole view run.place located payload frame noise.fault)

pub all_read : (x : ExtentsState) → IsWhole x → (view : ℕ → List ℕ) (runs : List StoredRun) (places : List Locator) → map (λ run. run.place) runs ≡ places → AllByRecursion (λ place. IsReadable x view place) places → AllByRecursion (IsRunRescued x view) runs
    → AllByRecursion (IsRunRead x view) runs
all_read x whole view [] places same there rescued = tt
all_read x whole view (run ∷ runs) [] same there rescued = absurd (cc same)
all_read x whole view (run ∷ runs) (l ∷ places) same there rescued =
    let at : run.place ≡ l = cc same in
    let rest : map (λ run. run.place) runs ≡ places = cc same in
    let readable : IsReadable x view run.place = subst (λ (p : Locator). IsReadable x view p) (sym at) there.0 in
    (rescued_is_read x whole view run readable.1.located readable.1.payload readable.1.frame rescued.0, all_read x whole view runs places rest there.1 rescued.1)

-- so where the frames lay before, and lie still
pub all_read_still : (x : ExtentsState) → IsWhole x → (before view : ℕ → List ℕ) (runs : List StoredRun) (places : List Locator) → map (λ run. run.place) runs ≡ places → AllByRecursion (λ place. IsReadable x before place) places
    → ((run : StoredRun) → run ∈ runs → LiesStill x before view RunFrame (place_of run.place)) → AllByRecursion (IsRunRescued x view) runs → AllByRecursion (IsRunRead x view) runs
all_read_still x whole before view [] places same there still rescued = tt
all_read_still x whole before view (run ∷ runs) [] same there still rescued = absurd (cc same)
all_read_still x whole before view (run ∷ runs) (l ∷ places) same there still rescued =
    let at : run.place ≡ l = cc same in
    let rest : map (λ run. run.place) runs ≡ places = cc same in
    let readable : IsReadable x before run.place = subst (λ (p : Locator). IsReadable x before p) (sym at) there.0 in
    let was = readable.1.frame in
    let frame : IsFrameIn x view RunFrame run.place readable.1.payload = (was.0, still run (inl refl) readable.1.payload was.1, was.2, was.3) in
    (rescued_is_read x whole view run readable.1.located readable.1.payload frame rescued.0, all_read_still x whole before view runs places rest there.1 (λ q has. still q (inr has)) rescued.1)

-- the place of a run that was read is one of the index's
in_left : {X : Type 0} (x : X) (xs ys : List X) → x ∈ xs → x ∈ xs ++ ys
in_left x [] ys none = absurd none
in_left x (y ∷ xs) ys (inl is) = inl is
in_left x (y ∷ xs) ys (inr has) = inr (in_left x xs ys has)

in_last : {X : Type 0} (x : X) (xs : List X) → x ∈ xs ++ x ∷ []
in_last x [] = inl refl
in_last x (y ∷ xs) = inr (in_last x xs)

has_run : (runs : List StoredRun) (run : StoredRun) → run ∈ runs → run_of run ∈ newest_first runs
has_run [] run none = absurd none
has_run (q ∷ runs) run (inl is) = subst (λ (r : StoredRun). run_of run ∈ newest_first runs ++ run_of r ∷ []) is (in_last (run_of run) (newest_first runs))
has_run (q ∷ runs) run (inr has) = in_left (run_of run) (newest_first runs) (run_of q ∷ []) (has_run runs run has)

pub has_stored : (runs : List StoredRun) (run : StoredRun) → run ∈ runs → place_of run.place ∈ places (newest_first runs)
has_stored runs run has = has_place (newest_first runs) (run_of run) (has_run runs run has)
