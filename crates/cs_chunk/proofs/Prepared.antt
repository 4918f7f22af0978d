-- A put that is planned and prepared.
use Rattle.std.proofs.Common.{◌≡◌, ◌∙◌, ℕ, zero, suc, ◌+◌, ◌-◌, ◌≤◌, Bool, List, [], ◌∷◌, ◌++◌, length, replicate, refl, sym, ap, subst, arith}
use Rattle.std.specs.Prelude.{map, sum}
use Rattle.std.specs.List.{AllByRecursion}
use Rattle.std.proofs.lemmas.List.{length-map}
use Rattle.cs_chunk.specs.declared.cuts.Cut.{Cut}
use Rattle.cs_chunk.specs.Cuts.{IsCut, pages_of, pieces}
use Rattle.cs_chunk.specs.Puts.{ArePayloadsIn, ArePutIn, AreNewestFrames, IsPutSoFar, MayPut, frames_in}
use Rattle.cs_chunk.proofs.Chunkings.{frames_are, length-pieces}
use Rattle.cs_chunk.proofs.Planned.{chunked, one_cut, only, pages, pages_fit}
use Rattle.cs_chunk.proofs.Putting.{appended_whatever, put_reads}
use Rattle.cs_deps.specs.State.{State as Graph}
use Rattle.cs_extent.specs.Appended.{AreAppended, AreAppendedBy, IsReady}
use Rattle.cs_extent.specs.Places.{FitIn}
use Rattle.cs_extent.specs.State.{IsWhole, State, extents_of, shape}
use Rattle.cs_extent.specs.Worn.{AreWorn}
use Rattle.cs_extent.proofs.Sections.{section_there}
use Rattle.cs_frame.specs.declared.locators.Locator.{Locator}
use Rattle.cs_frame.specs.FormatNumbers.{number_in}
use Rattle.cs_frame.specs.Formats.{formats_of}
use Rattle.cs_frame.specs.Frames.{spelled_frame}
use Rattle.cs_frame.proofs.FormatLaws.{is_format}
use Rattle.law_machine.specs.Append.{chunk_frames, page_counts}
use Rattle.law_machine.specs.Device.{Shape}
use Rattle.law_machine.specs.Events.{headed}
use Rattle.law_machine.specs.Extents.{ForPut, Purpose as Reason}
use Rattle.law_machine.specs.Formats.{Formats}
use Rattle.law_machine.specs.Frames.{AreLong}
use Rattle.law_machine.proofs.Payloads.{length_heads, payloads_long}

length-frames : (S : Shape) (cs : List (List ℕ)) → length (chunk_frames S (formats_of S) cs) ≡ length cs
length-frames S [] = refl
length-frames S (c ∷ cs) = ap suc (length-frames S cs)

-- each frame has a place
count_places : (apart : Bool) (x : State) (g : Graph) (r : Reason) (fs : List (List (List ℕ))) (ls : List Locator) (y : State) (h : Graph) → AreAppendedBy apart x g r fs ls y h → length ls ≡ length fs
count_places apart x g r [] [] y h a = refl
count_places apart x g r (f ∷ fs) (l ∷ ls) y h a = ap suc (count_places apart a.0 a.1 r fs ls y h a.3)
count_places apart x g r [] (l ∷ ls) y h a = absurd a
count_places apart x g r (f ∷ fs) [] y h a = absurd a

each_page : (m p last most : ℕ) → 1 ≤ last → last ≤ p → p ≤ most → AllByRecursion (λ k. (1 ≤ k) × (k ≤ most)) (replicate m p ++ last ∷ [])
each_page zero p last most some le same = ((some, omega (arith, le, same)), tt)
each_page (suc m) p last most some le same = ((omega (arith, some, le), omega (arith, same)), each_page m p last most some le same)

-- as many frames are made as there are pieces
length-payloads : (F : Formats) (id total command size count : ℕ) (bytes : List ℕ) → length (headed F id 0 total command (pieces size count bytes)) ≡ count
length-payloads F id total command size count bytes = length_heads F id 0 total command (pieces size count bytes) ∙ length-pieces size count bytes

pub frames_made : {V X : Type 0} (items : V → X) (f : List ℕ → X) (vs : List V) (F : Formats) (id total command size count : ℕ) (bytes : List ℕ)
    → map items vs ≡ map f (headed F id 0 total command (pieces size count bytes)) → length vs ≡ count
frames_made items f vs F id total command size count bytes same =
    sym (length-map vs items) ∙ ap length same ∙ length-map (headed F id 0 total command (pieces size count bytes)) f ∙ length-payloads F id total command size count bytes

module _ (x : State) (g k : Graph) (id command : ℕ) (bytes : List ℕ) (whole : IsWhole x) (cut : Cut) (is : IsCut (shape x) (length bytes) cut) (same : k ≡ record g { room = k.room }) (fs : List (List (List ℕ))) (made : fs ≡ map (spelled_frame (number_in x.format) 0) (headed (formats_of (shape x)) id 0 cut.count command (pieces cut.size cut.count bytes))) where
  abbrev cs : List (List ℕ)
  cs = headed (formats_of (shape x)) id 0 cut.count command (pieces cut.size cut.count bytes)

  count_is : length cs ≡ cut.count
  count_is = length-payloads (formats_of (shape x)) id cut.count command cut.size cut.count bytes

  frames : fs ≡ chunk_frames (shape x) (formats_of (shape x)) cs
  frames = made ∙ sym (frames_are (shape x) cs)

  pages_are : page_counts fs ≡ pages_of cut
  pages_are = ap page_counts frames ∙ pages x id command bytes whole cut is

  pub may_put : IsReady x g.staging → FitIn x ForPut (pages_of cut) → ¬ AreWorn x g.staging ForPut (pages_of cut) → cut.count + sum (pages_of cut) ≤ k.room → MayPut x k fs
  may_put ready fits numbers room = subst (λ (h : Graph). MayPut x h fs) (sym same) (record {
    ready = ready;
    sections = section_there x whole;
    pointers = whole.pointers;
    found = whole.found_given;
    pages = subst (λ ks. AllByRecursion (λ n. (1 ≤ n) × (n ≤ x.pages)) ks) (sym pages_are) (each_page (cut.count - 1) cut.pages cut.last x.pages cut.least cut.most (pages_fit x id command bytes whole cut is));
    fits = subst (λ ks. FitIn x ForPut ks) (sym pages_are) fits;
    numbers = λ worn. numbers (subst (λ ks. AreWorn x g.staging ForPut ks) pages_are worn);
    room = omega (arith, room, ap length frames, length-frames (shape x) cs, count_is, ap sum pages_are);
  })

  module _ (ls : List Locator) (y : State) (h : Graph) (done : IsPutSoFar x k fs [] ls y h) where
    -- each chunk is long enough for its head
    are_long : AreLong (shape y) (formats_of (shape y)) cs
    are_long = subst (λ (S : Shape). AreLong S (formats_of S) cs) (sym done.same_shape)
        (payloads_long (shape x) (formats_of (shape x)) (is_format x.format (length x.written) x.pages x.sections whole.geometry) id command bytes cs (chunked x id command bytes whole cut is))

    pub put_chunked : (ds : List (List ℕ)) × ArePayloadsIn x id command bytes ds × ArePutIn x g ds ls y h
    put_chunked = (
      cs,
      chunked x id command bytes whole cut is,
      (
        appended_whatever (shape x).apart x g k ForPut _ ls y h same (subst (λ us. AreAppended x k ForPut us ls y h) frames done.appended),
        λ image view are. put_reads y h image view ls cs done.may.pointers are are_long
            (subst (λ (S : Shape). AreNewestFrames S (extents_of y) h ls (chunk_frames S (formats_of S) cs)) (sym done.same_shape)
            (subst (λ us. AreNewestFrames (shape x) (extents_of y) h ls us) frames done.newest)),
      ),
    )

    pub put_few : (1 ≤ length ls) × (length ls ≤ 8)
    put_few =
        let count : length ls ≡ cut.count = count_places (shape x).apart x k ForPut fs ls y h done.appended ∙ ap length frames ∙ length-frames (shape x) cs ∙ count_is in
        let most : cut.count ≤ 8 = is.most in
        (omega (arith, count, is.some), omega (arith, count, most))

    pub put_room : g.room ≤ k.room → (ds : List (List ℕ)) → ArePayloadsIn x id command bytes ds → g.room ≤ h.room + (length ds + sum (page_counts (frames_in x ds)))
    put_room kept ds is_chunked =
        omega (arith, kept, done.room, ap length frames, length-frames (shape x) cs, ap sum pages_are, ap sum (only x id command bytes whole cut is ds is_chunked), count_of ds is_chunked)
      where
        count_of : (ds : List (List ℕ)) → ArePayloadsIn x id command bytes ds → length ds ≡ length cs
        count_of ds is_chunked = ap length (one_cut x id command bytes whole cut is ds is_chunked)
