-- Frames in the pages from a place on.
use Rattle.std.proofs.Common.{◌≡◌, ◌∙◌, ℕ, zero, suc, ◌+◌, ◌-◌, ◌<◌, ◌≤◌, List, [], ◌∷◌, length, take, get_or, Option, Some, None, true, Result, Ok, Err, MatchResult, IfOk, eq-eqb, eqb-true, refl, sym, ap, subst, ⊎_elim, arith}
use Rattle.std.specs.Prelude.{option_map}
use Rattle.std.proofs.lemmas.List.{ext_get_or, get_or-take, length-take, length-take-le, take-take}
use Rattle.cs_chunk.specs.Chunks.{IsFrameIn, IsLong, IsMeant, end_in, kind_of}
use Rattle.cs_chunk.specs.Newest.{AreNewest, IsReadAs}
use Rattle.cs_chunk.specs.Reads.{AnswersFault, AreReadAs, IsFrameFront, IsNoAnswer, IsOfFault, fault_in, pages_in}
use Rattle.cs_chunk.proofs.Chunkings.{length-spelled}
use Rattle.cs_chunk.proofs.Newest.{reads_image, reads_newest}
use Rattle.cs_refusal.specs.declared.refusals.Refusal.{Refusal}
use Rattle.cs_deps.specs.State.{IsNewestOn, NoneOn, State as Graph}
use Rattle.cs_disk.specs.Disk.{Image, page}
use Rattle.cs_extent.specs.State.{IsWhole, State, extents_of, shape}
use Rattle.cs_frame.specs.declared.faults.FormatFault.{FormatFault}
use Rattle.cs_frame.specs.declared.frames.FrameKind.{FrameKind}
use Rattle.cs_frame.specs.declared.frames.FrameKind.TheVariants.{Chunk, Run}
use Rattle.cs_frame.specs.declared.locators.Locator.{Locator}
use Rattle.cs_frame.specs.declared.formats.FormatNumber.{FormatNumber}
use Rattle.cs_frame.specs.FormatNumbers.{number_in}
use Rattle.cs_frame.specs.Formats.{formats_of, kind_number, refusal_of}
use Rattle.cs_frame.specs.Frames.{SpellsFrame, first_page, frame_count, frame_fault, header_fault, kind_byte, page_count, payload_length, spelled_frame}
use Rattle.cs_frame.specs.Heads.{is_long_in}
use Rattle.cs_frame.specs.MeantFrames.{long_test, mark_test, meant_fault}
use Rattle.cs_frame.proofs.FormatLaws.{is_format}
use Rattle.cs_frame.specs.Faults.{first_fault}
use Rattle.cs_frame.proofs.FrameLaws.{fault_of_taken, header_first}
use Rattle.cs_frame.proofs.MarkLaws.{finds_meant, mark_of_pages, meant_passes, passes_meant}
use Rattle.law_machine.proofs.Filled.{reach_above, reach_low}
use Rattle.law_machine.proofs.Meant.{stands_first}
use Rattle.law_machine.specs.Device.{Shape, mark_of}
use Rattle.law_machine.specs.Format.{Format}
use Rattle.law_machine.specs.Formats.{Formats, Stand, is_long_frame, pages_from}
use Rattle.law_machine.specs.Geometry.{mark_in}

-- what is read is what the view has
pub reads_same : (g : Graph) (image : Image) (view : ℕ → List ℕ) (p : ℕ) (b : List ℕ) → AreNewest g image view → IsReadAs g image p b → b ≡ view p
reads_same g image view p b are is = ⊎_elim
    (λ (n : IsNewestOn g p b). sym (reads_newest g image view p b are n))
    (λ (h : NoneOn g p × (b ≡ page image p)). h.1 ∙ sym (reads_image g image view p are h.0))
    is

length-from : (S : Shape) (F : Formats) (view : ℕ → List ℕ) (e p n : ℕ) → length (pages_from S F view e p n) ≡ n
length-from S F view e p zero = refl
length-from S F view e p (suc n) = ap suc (length-from S F view e (suc p) n)

at_from : (S : Shape) (F : Formats) (view : ℕ → List ℕ) (e p n i : ℕ) → i < n → get_or (pages_from S F view e p n) i [] ≡ view (S.address e (p + i))
at_from S F view e p zero i lt = absurd (omega (arith, lt))
at_from S F view e p (suc n) zero lt = let same : p ≡ p + 0 = omega arith in ap (λ q. view (S.address e q)) same
at_from S F view e p (suc n) (suc i) lt = let same : suc p + i ≡ p + suc i = omega arith in at_from S F view e (suc p) n i (omega (arith, lt)) ∙ ap (λ q. view (S.address e q)) same

-- a list that the front of the pages is stands there
stand_front : (S : Shape) (F : Formats) (view : ℕ → List ℕ) (e p n : ℕ) (bs : List (List ℕ)) → length bs ≤ n → take (length bs) (pages_from S F view e p n) ≡ bs → Stand S F view e p bs
stand_front S F view e p n [] le is = tt
stand_front S F view e p zero (b ∷ bs) le is = absurd (omega (arith, le))
stand_front S F view e p (suc n) (b ∷ bs) le is =
    let both : view (S.address e p) ∷ take (length bs) (pages_from S F view e (suc p) n) ≡ b ∷ bs = is in
    let head : view (S.address e p) ≡ b = cc in
    let tail : take (length bs) (pages_from S F view e (suc p) n) ≡ bs = cc in
    (head, stand_front S F view e (suc p) n bs (omega (arith, le)) tail)

same_kind : (kind : FrameKind) → kind_number (kind_of kind) ≡ kind_byte kind
same_kind Chunk = refl
same_kind Run = refl

-- the frame of what pages spell reaches no further than they do
pub fits_there : (S : Shape) (kind : FrameKind) (l : Locator) (pages : List (List ℕ)) (payload : List ℕ) (end : ℕ) → l.page + length pages ≤ end → SpellsFrame (number_in S.format) (kind_byte kind) pages payload
    → l.page + length ((formats_of S).frame (kind_of kind) payload) ≤ end
fits_there S kind l pages payload end le spells =
    subst (λ k. l.page + length (spelled_frame (number_in S.format) k payload) ≤ end) (sym (same_kind kind))
    (omega (arith, le, length-spelled (number_in S.format) (kind_byte kind) payload, ap length spells.spelled, length-take (page_count (length payload)) pages))

pub of_format : {V : Type 0} (format n : Format) (kind mark : ℕ) (pages : List (List ℕ)) (result : Result V Refusal) → format ≡ n → AnswersFault (meant_fault format kind mark pages) result → AnswersFault (meant_fault n kind mark pages) result
of_format format n kind mark pages result is was = subst (λ (f : Format). AnswersFault (meant_fault f kind mark pages) result) is was

pub spelled_of : {V : Type 0} (format n : Format) (kind : ℕ) (pages : List (List ℕ)) (items : V → List ℕ) (result : Result V Refusal) → format ≡ n → IfOk result (λ v. SpellsFrame (number_in format) kind pages (items v))
    → IfOk result (λ v. SpellsFrame (number_in n) kind pages (items v))
spelled_of format n kind pages items result is was = subst (λ (f : Format). IfOk result (λ v. SpellsFrame (number_in f) kind pages (items v))) is was

-- pages that begin with a frame are long enough where it is
long_first : (S : Shape) (F : Formats) (view : ℕ → List ℕ) (e p n : ℕ) (bs : List (List ℕ)) → 0 < length bs → length bs ≤ n → Stand S F view e p bs → is_long_frame F (pages_from S F view e p n) ≡ is_long_frame F bs
long_first S F view e p n [] some fits stand = absurd (omega (arith, some))
long_first S F view e p zero (b ∷ bs) some fits stand = absurd (omega (arith, fits))
long_first S F view e p (suc n) (b ∷ bs) some fits stand = ap F.is_long stand.0

-- the frame of what pages spell whose mark is that of the place is the one that the place means
first_of_taken : (n : ℕ) (pages : List (List ℕ)) → 1 ≤ n → first_page (take n pages) ≡ first_page pages
first_of_taken n pages some = get_or-take n pages 0 [] (omega arith)

-- whether a frame is long enough shows on its first page
long_of_first : (S : Shape) (pages : List (List ℕ)) → 0 < length pages → is_long_frame (formats_of S) pages ≡ is_long_in S.format (first_page pages)
long_of_first S [] some = absurd (omega (arith, some))
long_of_first S (b ∷ pages) some = refl

module _ (x : State) (kind : FrameKind) (l : Locator) (pages : List (List ℕ)) (payload : List ℕ) (spells : SpellsFrame (number_in (shape x).format) (kind_byte kind) pages payload)
    (none : meant_fault (shape x).format (kind_byte kind) l.mark pages ≡ None) where
  tests_pass : (frame_fault (number_in (shape x).format) (kind_byte kind) pages ≡ None) × (mark_in (shape x).format (first_page pages) ≡ l.mark) × (is_long_in (shape x).format (first_page pages) ≡ true)
  tests_pass = meant_passes (frame_fault (number_in (shape x).format) (kind_byte kind) pages) (mark_in (shape x).format (first_page pages)) l.mark (is_long_in (shape x).format (first_page pages)) none

  own_first_page : first_page (spelled_frame (number_in (shape x).format) (kind_byte kind) payload) ≡ first_page pages
  own_first_page = ap first_page (sym spells.spelled) ∙ first_of_taken (page_count (length payload)) pages (omega arith)

  meant_there : IsMeant (shape x) (kind_of kind) l payload
  meant_there =
      eq-eqb (mark_of (shape x) ((formats_of (shape x)).frame (kind_of kind) payload)) l.mark
      (mark_of_pages (shape x) (shape x).format refl ((formats_of (shape x)).frame (kind_of kind) payload)
      ∙ ap (λ k. mark_in (shape x).format (first_page (spelled_frame (number_in (shape x).format) k payload))) (same_kind kind)
      ∙ ap (mark_in (shape x).format) own_first_page ∙ tests_pass.1)

  long_there : IsLong (shape x) (kind_of kind) payload
  long_there =
      long_of_first (shape x) ((formats_of (shape x)).frame (kind_of kind) payload) (omega (arith, length-spelled (number_in (shape x).format) (kind_number (kind_of kind)) payload))
      ∙ ap (λ k. is_long_in (shape x).format (first_page (spelled_frame (number_in (shape x).format) k payload))) (same_kind kind)
      ∙ ap (is_long_in (shape x).format) own_first_page ∙ tests_pass.2

module _ {V : Type 0} (x : State) (kind : FrameKind) (l : Locator) (pages : List (List ℕ)) (items : V → List ℕ) where
  pub all_meant : (result : Result V Refusal) → IfOk result (λ v. SpellsFrame (number_in (shape x).format) (kind_byte kind) pages (items v))
      → AnswersFault (meant_fault (shape x).format (kind_byte kind) l.mark pages) result → IfOk result (λ v. IsMeant (shape x) (kind_of kind) l (items v))
  all_meant (Ok v) spells none = meant_there x kind l pages (items v) spells none
  all_meant (Err r) spells none = tt

  pub all_long : (result : Result V Refusal) → IfOk result (λ v. SpellsFrame (number_in (shape x).format) (kind_byte kind) pages (items v))
      → AnswersFault (meant_fault (shape x).format (kind_byte kind) l.mark pages) result → IfOk result (λ v. IsLong (shape x) (kind_of kind) (items v))
  all_long (Ok v) spells none = long_there x kind l pages (items v) spells none
  all_long (Err r) spells none = tt

pub all_fit : {V : Type 0} (S : Shape) (kind : FrameKind) (l : Locator) (pages : List (List ℕ)) (items : V → List ℕ) (result : Result V Refusal) (end : ℕ) → l.page + length pages ≤ end → IfOk result (λ v. SpellsFrame (number_in S.format) (kind_byte kind) pages (items v))
    → IfOk result (λ v. l.page + length ((formats_of S).frame (kind_of kind) (items v)) ≤ end)
all_fit S kind l pages items (Ok v) end le spells = fits_there S kind l pages (items v) end le spells
all_fit S kind l pages items (Err r) end le spells = tt

-- the end of a frame lies in the extent
pub end_low : (x : State) → IsWhole x → (l : Locator) → end_in x l ≤ x.pages
end_low x whole l = reach_low (shape x) ((extents_of x).found l.extent) l.page (whole.found_pages l.extent)

module _ (x : State) (whole : IsWhole x) (view : ℕ → List ℕ) (kind : FrameKind) (l : Locator) (inside : l.page < x.pages) where
  abbrev there : ℕ
  there = end_in x l - l.page

  -- the end lies behind the place, and no further than the extent
  above : l.page < end_in x l
  above = reach_above (shape x) ((extents_of x).found l.extent) l.page inside

  low : end_in x l ≤ x.pages
  low = end_low x whole l

  -- the number of the store's format
  abbrev number_here : FormatNumber
  number_here = number_in (shape x).format

  -- all pages from the place on
  abbrev all : List (List ℕ)
  all = pages_in x view l

  length-all : length all ≡ end_in x l - l.page
  length-all = length-from (shape x) (formats_of (shape x)) view l.extent l.page (end_in x l - l.page)

  pub first_is : first_page all ≡ view ((shape x).address l.extent l.page)
  first_is =
      let same : l.page + 0 ≡ l.page = omega arith in
      at_from (shape x) (formats_of (shape x)) view l.extent l.page (end_in x l - l.page) 0 (omega (arith, above)) ∙ ap (λ q. view ((shape x).address l.extent q)) same

  -- what the header at the place is refused for, the frame is
  pub header_at : (f : FormatFault) → header_fault number_here (kind_byte kind) (view ((shape x).address l.extent l.page)) (end_in x l - l.page) ≡ Some f → fault_in x view kind l ≡ Some f
  header_at f is =
      finds_meant (frame_fault number_here (kind_byte kind) all) (mark_test (shape x).format l.mark (first_page all) ∷ long_test (shape x).format (first_page all) ∷ []) f
      (header_first number_here (kind_byte kind) all f
      (ap (λ b. header_fault number_here (kind_byte kind) b (length all)) first_is ∙ ap (λ n. header_fault number_here (kind_byte kind) (view ((shape x).address l.extent l.page)) n) length-all ∙ is))

  module _ (g : Graph) (image : Image) (are : AreNewest g image view) (number : ℕ) (at : number ≡ (shape x).address l.extent l.page) (first : List ℕ) (read : IsReadAs g image number first) where
    first_read : first_page all ≡ first
    first_read = first_is ∙ ap view (sym at) ∙ sym (reads_same g image view number first are read)

    -- what the header is refused for, the frame is
    pub header_refused : (f : FormatFault) → header_fault number_here (kind_byte kind) first (end_in x l - l.page) ≡ Some f → fault_in x view kind l ≡ Some f
    header_refused f is =
        finds_meant (frame_fault number_here (kind_byte kind) all) (mark_test (shape x).format l.mark (first_page all) ∷ long_test (shape x).format (first_page all) ∷ []) f
        (header_first number_here (kind_byte kind) all f
        (ap (λ b. header_fault number_here (kind_byte kind) b (length all)) first_read ∙ ap (λ n. header_fault number_here (kind_byte kind) first n) length-all ∙ is))

    -- the pages that the header counts are the frame's
    pub front_read : (pages : List (List ℕ)) (count : ℕ) → count ≡ page_count (payload_length first) → count ≤ end_in x l - l.page → AreReadAs g image number count pages → IsFrameFront all pages
    front_read pages count counted fits were =
        let same : frame_count all ≡ count = ap (λ b. page_count (payload_length b)) first_read ∙ sym counted in
        let long : length (take count all) ≡ count = length-take-le count all (omega (arith, fits, length-all)) in
        record {
          enough = omega (arith, same, fits, length-all);
          taken = ext_get_or [] pages (take count all) (were.size ∙ sym long) (λ i lt. each i (omega (arith, lt, were.size)))
              ∙ ap (λ n. take n all) (sym same);
        }
      where
        each : (i : ℕ) → i < count → get_or pages i [] ≡ get_or (take count all) i []
        each i lt =
            let next : number + i ≡ (shape x).address l.extent (l.page + i) = omega (arith, at) in
            reads_same g image view (number + i) (get_or pages i []) are (were.each i lt) ∙ ap view next
            ∙ sym (get_or-take count all i [] lt ∙ at_from (shape x) (formats_of (shape x)) view l.extent l.page (end_in x l - l.page) i (omega (arith, lt, fits)))

    pub fronts_read : {V : Type 0} (items : V → List (List ℕ)) (result : Result V Refusal) (count : ℕ) → count ≡ page_count (payload_length first) → count ≤ end_in x l - l.page → IfOk result (λ v. AreReadAs g image number count (items v)) → IfOk result (λ v. IsFrameFront all (items v))
    fronts_read items (Ok v) count counted fits were = front_read (items v) count counted fits were
    fronts_read items (Err r) count counted fits were = tt

  module _ (pages : List (List ℕ)) (front : IsFrameFront all pages) where
    -- these pages have the fault of all
    pub same_fault : meant_fault (shape x).format (kind_byte kind) l.mark pages ≡ fault_in x view kind l
    same_fault =
        let own : frame_fault number_here (kind_byte kind) pages ≡ frame_fault number_here (kind_byte kind) all =
        ap (frame_fault number_here (kind_byte kind)) front.taken ∙ fault_of_taken all (frame_count all) (omega arith) front.enough number_here (kind_byte kind) in
        let first : first_page pages ≡ first_page all = ap first_page front.taken ∙ first_of_taken (frame_count all) all (omega arith) in
        ap (λ (found : Option FormatFault). first_fault (found ∷ mark_test (shape x).format l.mark (first_page pages) ∷ long_test (shape x).format (first_page pages) ∷ [])) own
        ∙ ap (λ (b : List ℕ). first_fault (frame_fault number_here (kind_byte kind) all ∷ mark_test (shape x).format l.mark b ∷ long_test (shape x).format b ∷ [])) first

    -- what they spell is a frame there
    pub frame_there : (payload : List ℕ) → SpellsFrame number_here (kind_byte kind) pages payload → IsMeant (shape x) (kind_of kind) l payload → IsLong (shape x) (kind_of kind) payload → IsFrameIn x view (kind_of kind) l payload
    frame_there payload spells meant long =
        let n : ℕ = page_count (length payload) in
        let size : length (spelled_frame number_here (kind_byte kind) payload) ≡ page_count (length payload) = length-spelled number_here (kind_byte kind) payload in
        let is : take (page_count (length payload)) (take (frame_count all) all) ≡ spelled_frame number_here (kind_byte kind) payload = ap (take (page_count (length payload))) (sym front.taken) ∙ spells.spelled in
        let few : page_count (length payload) ≤ frame_count all = omega (arith, ap length is, size, length-take (page_count (length payload)) (take (frame_count all) all), length-take (frame_count all) all) in
        let fits : page_count (length payload) ≤ end_in x l - l.page = omega (arith, few, front.enough, length-all) in
        let taken : take (length (spelled_frame number_here (kind_byte kind) payload)) all ≡ spelled_frame number_here (kind_byte kind) payload =
        ap (λ k. take k all) size ∙ sym (take-take (page_count (length payload)) (frame_count all) all few) ∙ is in
        let there = subst (λ k. (l.page + length (spelled_frame number_here k payload) ≤ end_in x l) × Stand (shape x) (formats_of (shape x)) view l.extent l.page (spelled_frame number_here k payload)) (sym (same_kind kind))
        (omega (arith, size, fits, above), stand_front (shape x) (formats_of (shape x)) view l.extent l.page (end_in x l - l.page) (spelled_frame number_here (kind_byte kind) payload) (omega (arith, size, fits)) taken) in
        (there.0, there.1, meant, long)

    pub frames_there : {V : Type 0} (items : V → List ℕ) (result : Result V Refusal) → IfOk result (λ v. SpellsFrame number_here (kind_byte kind) pages (items v)) → IfOk result (λ v. IsMeant (shape x) (kind_of kind) l (items v)) → IfOk result (λ v. IsLong (shape x) (kind_of kind) (items v)) → IfOk result (λ v. IsFrameIn x view (kind_of kind) l (items v))
    frames_there items (Ok v) spells meant long = frame_there (items v) spells meant long
    frames_there items (Err r) spells meant long = tt

    pub answers : {V : Type 0} (result : Result V Refusal) → AnswersFault (meant_fault (shape x).format (kind_byte kind) l.mark pages) result → AnswersFault (fault_in x view kind l) result
    answers result was = subst (λ found. AnswersFault found result) same_fault was

  -- a frame that is there has no fault
  pub no_fault_there : (payload : List ℕ) → IsFrameIn x view (kind_of kind) l payload → fault_in x view kind l ≡ None
  no_fault_there payload at =
      let law = is_format x.format (length x.written) x.pages x.sections whole.geometry in
      let own : frame_fault number_here (kind_byte kind) all ≡ None =
      ap (λ k. frame_fault number_here k all) (sym (same_kind kind)) ∙ is_none (frame_fault number_here (kind_number (kind_of kind)) all) (law.no_fault view l.extent l.page (end_in x l - l.page) (kind_of kind) payload
      (omega (arith, at.0, above)) (omega (arith, above, low)) at.1) in
      let frame : List (List ℕ) = (formats_of (shape x)).frame (kind_of kind) payload in
      let mark : mark_in (shape x).format (first_page all) ≡ l.mark =
      sym (mark_of_pages (shape x) (shape x).format refl all)
      ∙ stands_first (shape x) (formats_of (shape x)) view l.extent l.page (end_in x l - l.page) frame (law.some_page (kind_of kind) payload) (omega (arith, at.0, above)) at.1
      ∙ eqb-true (mark_of (shape x) frame) l.mark at.2 in
      let some : 0 < length all = omega (arith, length-all, above) in
      let long : is_long_in (shape x).format (first_page all) ≡ true =
      sym (long_of_first (shape x) all some)
      ∙ long_first (shape x) (formats_of (shape x)) view l.extent l.page (end_in x l - l.page) frame (law.some_page (kind_of kind) payload) (omega (arith, at.0, above)) at.1
      ∙ at.3 in
      passes_meant (frame_fault number_here (kind_byte kind) all) (mark_in (shape x).format (first_page all)) l.mark (is_long_in (shape x).format (first_page all)) own mark long
    where
      is_none : (o : Option FormatFault) → option_map refusal_of o ≡ None → o ≡ None
      is_none None h = refl
      is_none (Some f) h = absurd (cc h)

  pub one_frame : (a b : List ℕ) → IsFrameIn x view (kind_of kind) l a → IsFrameIn x view (kind_of kind) l b → a ≡ b
  one_frame a b at bt =
      let law = is_format x.format (length x.written) x.pages x.sections whole.geometry in
      law.one_payload view l.extent l.page (kind_of kind) a b (omega (arith, at.0, low)) (omega (arith, bt.0, low)) at.1 bt.1

  -- what is there is read
  pub reads_it : {V : Type 0} (items : V → List ℕ) (result : Result V Refusal) (payload : List ℕ) → AnswersFault (fault_in x view kind l) result → IfOk result (λ v. IsFrameIn x view (kind_of kind) l (items v)) → IsFrameIn x view (kind_of kind) l payload
      → MatchResult result (λ v. items v ≡ payload) IsNoAnswer
  reads_it items (Ok v) payload answer at there = one_frame (items v) payload at there
  reads_it items (Err r) payload answer at there = ⊎_elim
      (λ (n : IsNoAnswer r). n)
      (λ (f : IsOfFault (fault_in x view kind l) r). let none = no_fault_there payload there in absurd (cc (none, f.1)))
      answer
