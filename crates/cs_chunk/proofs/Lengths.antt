-- What first pages of frames tell.
use Rattle.std.proofs.Common.{◌≡◌, ◌∙◌, ℕ, zero, suc, ◌+◌, ◌-◌, ◌^◌, ◌<◌, ◌≤◌, ◌⊎◌, Bool, true, false, List, [], ◌∷◌, ◌++◌, codes, length, length-append, take, drop, get_or, slice_get, slice_index, Option, Some, None, Result, Ok, Err, MatchResult, IfOk, refl, sym, ap, ap₂, subst, inl, inr, ⊎_elim, arith, bytes_eq, nat_le, ◌==◌, take_all}
use Rattle.std.specs.Simd.{first_chunks}
use Rattle.std.proofs.lemmas.List.{length-take-le, take_more}
use Rattle.std.proofs.lemmas.List.Sums.{sum_by-append, sum_by-cons}
use Rattle.std.proofs.lemmas.Option.{same_Some}
use Rattle.cs_chunk.specs.Chunks.{AreChunksIn, IsFrameIn, end_in, kind_of}
use Rattle.cs_chunk.specs.Lengths.{AreHeadersIn, IsHeaderRefusal, IsOfFaultOrMark, IsOfHeaderIn, body_length_at, header_fault_in, length_at, lengths_at}
use Rattle.cs_chunk.specs.Newest.{AreNewest, IsReadAs}
use Rattle.cs_chunk.specs.Reads.{AnswersFault, IsCaused, IsNoAnswer, IsOfFault, fault_in, pages_in}
use Rattle.cs_frame.specs.Refusals.{refusal_for}
use Rattle.cs_chunk.proofs.Chunkings.{length-spelled}
use Rattle.cs_chunk.proofs.Framed.{end_low, first_is, header_at, no_fault_there, reads_same}
use Rattle.cs_chunk.proofs.Newest.{of_stand}
use Rattle.cs_chunk.proofs.Sharded.{at_place, chunk_at}
use Rattle.cs_refusal.specs.declared.refusals.Refusal.{Refusal}
use Rattle.cs_refusal.specs.declared.refusals.Refusal.TheVariants.{DeviceFault}
use Rattle.cs_deps.specs.State.{State as Graph}
use Rattle.cs_disk.specs.Disk.{Image}
use Rattle.cs_extent.specs.State.{IsWhole, State, shape}
use Rattle.cs_frame.specs.declared.faults.FormatFault.{FormatFault}
use Rattle.cs_frame.specs.declared.faults.FormatFault.TheVariants as fault
use Rattle.cs_frame.specs.declared.faults.FormatFault.TheVariants.{BadLength, BadMagic, BadVersion}
use Rattle.cs_frame.specs.declared.frames.FrameKind.{FrameKind}
use Rattle.cs_frame.specs.declared.frames.FrameKind.TheVariants.{Chunk}
use Rattle.cs_frame.specs.declared.locators.Locator.{Locator}
use Rattle.cs_frame.specs.Bytes.{field}
use Rattle.cs_frame.specs.Faults.{first_fault, unless}
use Rattle.cs_frame.specs.Formats.{formats_of, kind_number}
use Rattle.cs_frame.specs.declared.formats.FormatNumber.{FormatNumber}
use Rattle.cs_frame.specs.FormatNumbers.{number_in, page_digit}
use Rattle.cs_frame.specs.Frames.{first_page, frame_bytes, frame_fault, header_fault, kind_byte, kind_test, page_count, payload_length, room_test, spelled_frame}
use Rattle.cs_frame.specs.Heads.{body_in, is_long_in}
use Rattle.cs_frame.specs.MeantFrames.{meant_header_fault}
use Rattle.cs_frame.specs.Pages.{digit_test}
use Rattle.cs_frame.proofs.Fields.{number_at}
use Rattle.cs_frame.proofs.MarkLaws.{header_finds, meant_passes, passes_header}
use Rattle.cs_frame.proofs.GeometryLaws.{bounds}
use Rattle.law_machine.specs.Format.{Format, Four, Two}
use Rattle.law_machine.specs.Formats.{Formats}
use Rattle.law_machine.specs.Geometry.{head_bytes_in, mark_in}
use Rattle.law_machine.specs.Index.{joined_bodies}

-- ---- the refusals of a header

-- one test more, that finds this fault if any
more : (P : FormatFault → Type 0) (b : Bool) (g : FormatFault) (tests : List (Option FormatFault)) → P g → ((f : FormatFault) → first_fault tests ≡ Some f → P f) → (f : FormatFault) → first_fault (unless b g ∷ tests) ≡ Some f → P f
more P true g tests here rest f h = rest f h
more P false g tests here rest f h = subst P (same_Some g f h) here

abbrev Refuses : FormatFault → Type 0
Refuses f = IsHeaderRefusal (refusal_for f)

header_refuses : (number : FormatNumber) (kind : ℕ) (first : List ℕ) (there : ℕ) (f : FormatFault) → header_fault number kind first there ≡ Some f → Refuses f
header_refuses number kind first there =
    more Refuses (bytes_eq (field 0 3 first) (codes "CSF")) BadMagic (digit_test (page_digit number) first ∷ kind_test kind first ∷ room_test first there ∷ []) (inr (inl refl))
    (more Refuses (slice_index first 3 == page_digit number) BadVersion (kind_test kind first ∷ room_test first there ∷ []) (inr (inr (inl refl)))
    (more Refuses (slice_index first 4 == kind) BadVersion (room_test first there ∷ []) (inr (inr (inl refl)))
    (more Refuses (nat_le (page_count (payload_length first)) there) BadLength [] (inr (inr (inr (inl refl))))
    (λ f h. absurd (cc h)))))

pub header_is_refused : (format : Format) (kind mark : ℕ) (first : List ℕ) (there : ℕ) (f : FormatFault) (r : Refusal) → r ≡ refusal_for f → Some f ≡ meant_header_fault format kind mark first there → IsHeaderRefusal r
header_is_refused format kind mark first there f r is found = subst IsHeaderRefusal (sym is) (⊎_elim
    (λ (own : header_fault (number_in format) kind first there ≡ Some f). header_refuses (number_in format) kind first there f own)
    (λ (other : (header_fault (number_in format) kind first there ≡ None) × (f ≡ fault.Misplaced)). subst Refuses (sym other.1) (inr (inr (inr (inr refl)))))
    (header_finds (header_fault (number_in format) kind first there) (mark_in format first == mark) f (sym found)))

-- none of them is the device's
not_device : (f : FormatFault) → refusal_for f ≡ DeviceFault → ⊥
not_device fault.BadGeometry e = cc e
not_device fault.OutOfMemory e = cc e
not_device fault.BadMagic e = cc e
not_device fault.BadDigest e = cc e
not_device fault.BadLength e = cc e
not_device fault.BadPadding e = cc e
not_device fault.BadVersion e = cc e
not_device fault.OutOfOrder e = cc e
not_device fault.Misplaced e = cc e

pub header_caused : {T U : Type 0} (before after : ℕ) (page : Result U Refusal) (f : FormatFault) (r : Refusal) → r ≡ refusal_for f → IsCaused before after page → IsCaused {T = T} before after (Err r)
header_caused before after page f r is cause = record { later = cause.later; failed = λ device. (let e : r ≡ DeviceFault = cc device in absurd (not_device f (sym is ∙ e))) }

-- ---- the first page of a frame

front_of_chunks : (n : ℕ) (bytes : List ℕ) → 1 ≤ n → first_page (first_chunks 4096 n bytes) ≡ take 4096 bytes
front_of_chunks zero bytes some = absurd (omega (arith, some))
front_of_chunks (suc n) bytes some = refl

-- it tells the payload's length
length_spelled : (number : FormatNumber) (kind : ℕ) (payload : List ℕ) → length payload < 2 ^ 32 → payload_length (first_page (spelled_frame number kind payload)) ≡ length payload
length_spelled number kind payload small =
    let front : List ℕ = take 4096 (frame_bytes number kind payload) in
    ap payload_length (front_of_chunks (page_count (length payload)) (frame_bytes number kind payload) (omega arith))
    ∙ number_at front (drop 9 front) 5 9 4 (length payload) refl refl refl small

-- all of a payload but its head
length-body : (format : Format) (payload : List ℕ) → length (body_in format payload) ≡ length payload - head_bytes_in format
length-body Two payload = omega arith
length-body (Four store device) payload = length-take-le (length payload - 34) payload (omega arith)

add_zero : (a : ℕ) → a + 0 ≡ a
add_zero a = omega arith

both : (a b c d : ℕ) → a ≡ c → b ≡ d → a + b ≡ c + d
both a b c d first second = omega (arith, first, second)

-- the headers at the first k places were read, and say so many bytes
abbrev pub AreTold : State → (view : ℕ → List ℕ) → List Locator → ℕ → ℕ → Type 0
AreTold x view ls k total = AreHeadersIn x view (take k ls) × (total ≡ lengths_at (shape x) view (take k ls))

-- where a frame has no fault its header has none
none_of_header : (x : State) → IsWhole x → (view : ℕ → List ℕ) (kind : FrameKind) (l : Locator) → l.page < x.pages → fault_in x view kind l ≡ None → header_fault_in x view kind l ≡ None
none_of_header x whole view kind l inside none =
    let passes = meant_passes (frame_fault (number_in (shape x).format) (kind_byte kind) (pages_in x view l)) (mark_in (shape x).format (first_page (pages_in x view l))) l.mark (is_long_in (shape x).format (first_page (pages_in x view l))) none in
    passes_header (header_fault (number_in (shape x).format) (kind_byte kind) first (end_in x l - l.page)) (mark_in (shape x).format first) l.mark
    (go (header_fault (number_in (shape x).format) (kind_byte kind) first (end_in x l - l.page)) refl)
    (ap (mark_in (shape x).format) (sym (first_is x whole view kind l inside)) ∙ passes.1)
  where
    first : List ℕ
    first = view ((shape x).address l.extent l.page)

    go : (found : Option FormatFault) → header_fault (number_in (shape x).format) (kind_byte kind) first (end_in x l - l.page) ≡ found → found ≡ None
    go None is = refl
    go (Some f) is = let some = header_at x whole view kind l inside f is in absurd (cc (none, some))

-- what a header is refused for, the frame is, or it has another mark, and a fault
pub mark_or_fault : (x : State) → IsWhole x → (view : ℕ → List ℕ) (kind : FrameKind) (l : Locator) → l.page < x.pages → (f : FormatFault) (r : Refusal) → header_fault_in x view kind l ≡ Some f → r ≡ refusal_for f
    → IsOfFaultOrMark (fault_in x view kind l) r
mark_or_fault x whole view kind l inside f r found is =
    let first : List ℕ = view ((shape x).address l.extent l.page) in
    ⊎_elim
    (λ (own : header_fault (number_in (shape x).format) (kind_byte kind) first (end_in x l - l.page) ≡ Some f). inl (f, header_at x whole view kind l inside f own, is))
    (λ (other : (header_fault (number_in (shape x).format) (kind_byte kind) first (end_in x l - l.page) ≡ None) × (f ≡ fault.Misplaced)). inr (is ∙ ap refusal_for other.1, λ none. let no = none_of_header x whole view kind l inside none in cc (no, found)))
    (header_finds (header_fault (number_in (shape x).format) (kind_byte kind) first (end_in x l - l.page)) (mark_in (shape x).format first == l.mark) f found)

module _ (x : State) (whole : IsWhole x) (view : ℕ → List ℕ) where
  module _ (kind : FrameKind) (l : Locator) where
    module _ (payload : List ℕ) (at : IsFrameIn x view (kind_of kind) l payload) where
      abbrev pages : List (List ℕ)
      pages = spelled_frame (number_in (shape x).format) (kind_number (kind_of kind)) payload

      size : length pages ≡ page_count (length payload)
      size = length-spelled (number_in (shape x).format) (kind_number (kind_of kind)) payload

      low : end_in x l ≤ x.pages
      low = end_low x whole l

      -- where a frame is, its header tells the payload's length
      pub length_there : length_at (shape x) view l ≡ length payload
      length_there =
          let first : l.page ≡ l.page + 0 = omega arith in
          let small : length payload < 2 ^ 32 = omega (arith, at.0, low, size, (bounds _ _ _ _ whole.geometry).most_pages) in
          ap (λ q. payload_length (view ((shape x).address l.extent q))) first
          ∙ ap payload_length (of_stand (shape x) (formats_of (shape x)) view l.extent l.page pages at.1 0 (omega (arith, size)))
          ∙ length_spelled (number_in (shape x).format) (kind_number (kind_of kind)) payload small

      -- and has no fault
      pub header_there : header_fault_in x view kind l ≡ None
      header_there = none_of_header x whole view kind l (omega (arith, at.0, low, size)) (no_fault_there x whole view kind l (omega (arith, at.0, low, size)) payload at)

    -- what is there is told
    pub tells_it : (result : Result ℕ Refusal) (payload : List ℕ) → AnswersFault (header_fault_in x view kind l) result → IfOk result (λ n. n ≡ length_at (shape x) view l)
        → IsFrameIn x view (kind_of kind) l payload → MatchResult result (λ n. n ≡ length payload) IsNoAnswer
    tells_it (Ok n) payload answer told at = told ∙ length_there payload at
    tells_it (Err r) payload answer told at = ⊎_elim
        (λ (n : IsNoAnswer r). n)
        (λ (f : IsOfFault (header_fault_in x view kind l) r). let none = header_there payload at in absurd (cc (none, f.1)))
        answer

    module _ (g : Graph) (image : Image) (are : AreNewest g image view) (number : ℕ) (is : number ≡ (shape x).address l.extent l.page) (first : List ℕ) (read : IsReadAs g image number first) where
      -- the page that was read is that of the place
      first_there : first ≡ view ((shape x).address l.extent l.page)
      first_there = reads_same g image view number first are read ∙ ap view is

      pub told_there : (n : ℕ) → n ≡ payload_length first → n ≡ length_at (shape x) view l
      told_there n told = told ∙ ap payload_length first_there

      pub fault_there : (format : Format) (there : ℕ) → format ≡ (shape x).format → there ≡ end_in x l - l.page → header_fault_in x view kind l ≡ meant_header_fault format (kind_byte kind) l.mark first there
      fault_there format there is same =
          ap (λ b. meant_header_fault (shape x).format (kind_byte kind) l.mark b (end_in x l - l.page)) (sym first_there)
          ∙ ap (λ n. meant_header_fault (shape x).format (kind_byte kind) l.mark first n) (sym same)
          ∙ ap (λ (f : Format). meant_header_fault f (kind_byte kind) l.mark first there) (sym is)

  -- ---- of a shard

  headers_more : (ls : List Locator) (l : Locator) → AreHeadersIn x view ls → header_fault_in x view Chunk l ≡ None → AreHeadersIn x view (ls ++ l ∷ [])
  headers_more [] l are is = (is, tt)
  headers_more (k ∷ ls) l are is = (are.0, headers_more ls l are.1 is)

  lengths_more : (ls : List Locator) (l : Locator) → lengths_at (shape x) view (ls ++ l ∷ []) ≡ lengths_at (shape x) view ls + body_length_at (shape x) view l
  lengths_more ls l = sum_by-append (body_length_at (shape x) view) ls (l ∷ []) ∙ ap (λ n. lengths_at (shape x) view ls + n) (sum_by-cons (body_length_at (shape x) view) l [] ∙ add_zero (body_length_at (shape x) view l))

  pub told_more : (ls : List Locator) (k : ℕ) (l : Locator) (total n head new : ℕ) → k < length ls → l ≡ get_or ls k l → AreTold x view ls k total → header_fault_in x view Chunk l ≡ None
      → n ≡ length_at (shape x) view l → head ≡ head_bytes_in (shape x).format → new ≡ total + (n - head) → AreTold x view ls (k + 1) new
  told_more ls k l total n head new lt at was is told of added =
      let longer : take (k + 1) ls ≡ take k ls ++ l ∷ [] = take_more ls k l lt ∙ ap (λ (m : Locator). take k ls ++ m ∷ []) (sym at) in (
        subst (AreHeadersIn x view) (sym longer) (headers_more (take k ls) l was.0 is),
        (let body : n - head ≡ body_length_at (shape x) view l = ap₂ (λ (a b : ℕ). a - b) told of in
            let count : total + (n - head) ≡ lengths_at (shape x) view (take k ls ++ l ∷ []) = ap₂ (λ (a b : ℕ). a + b) was.1 body ∙ sym (lengths_more (take k ls) l) in
            added ∙ count ∙ ap (lengths_at (shape x) view) (sym longer)),
      )

  pub all_told : (ls : List Locator) (k total : ℕ) → length ls ≤ k → AreTold x view ls k total → AreHeadersIn x view ls × (total ≡ lengths_at (shape x) view ls)
  all_told ls k total le was = subst (λ ks. AreHeadersIn x view ks × (total ≡ lengths_at (shape x) view ks)) (take_all k ls le) was

  -- the header at a place is refused
  pub header_refused_at : (ls : List Locator) (k : ℕ) (l : Locator) (total : ℕ) (r : Refusal) → k < length ls → l ≡ get_or ls k l → AreTold x view ls k total
      → IsNoAnswer r ⊎ IsOfFault (header_fault_in x view Chunk l) r → IsOfHeaderIn x view ls r
  header_refused_at ls k l total r lt at was h = ⊎_elim
      (λ (n : IsNoAnswer r). inl n)
      (λ (f : IsOfFault (header_fault_in x view Chunk l) r). inr (k, l, at_place ls k l lt at, was.0, f))
      h

  lengths_joined : (ls : List Locator) (cs : List (List ℕ)) → AreChunksIn x view ls cs → lengths_at (shape x) view ls ≡ length (joined_bodies (formats_of (shape x)) cs)
  lengths_joined [] [] are = refl
  lengths_joined (l ∷ ls) (c ∷ cs) are =
      let F : Formats = formats_of (shape x) in
      let here : body_length_at (shape x) view l ≡ length (F.body c) =
      ap (λ n. n - head_bytes_in (shape x).format) (length_there Chunk l c are.0) ∙ sym (length-body (shape x).format c) in
      let rest : lengths_at (shape x) view ls ≡ length (joined_bodies F cs) = lengths_joined ls cs are.1 in
      sum_by-cons (body_length_at (shape x) view) l ls ∙ both _ _ _ _ here rest ∙ sym (length-append (F.body c) (joined_bodies F cs))
  lengths_joined [] (c ∷ cs) are = absurd are
  lengths_joined (l ∷ ls) [] are = absurd are

  -- what is there is told
  pub tells_all : (result : Result ℕ Refusal) (ls : List Locator) (cs : List (List ℕ))
      → MatchResult result (λ n. AreHeadersIn x view ls × (n ≡ lengths_at (shape x) view ls)) (IsOfHeaderIn x view ls) → AreChunksIn x view ls cs → MatchResult result (λ n. n ≡ length (joined_bodies (formats_of (shape x)) cs)) IsNoAnswer
  tells_all (Ok n) ls cs was are = was.1 ∙ lengths_joined ls cs are
  tells_all (Err r) ls cs was are = ⊎_elim
      (λ (n : IsNoAnswer r). n)
      (λ (f : (k : ℕ) × (l : Locator) × (slice_get ls k ≡ Some l) × AreHeadersIn x view (take k ls) × IsOfFault (header_fault_in x view Chunk l) r).
      let there = chunk_at x whole view ls cs f.0 f.1 f.2 are in
      let none = header_there Chunk f.1 there.0 there.1 in
      absurd (cc (none, f.4.1)))
      was
