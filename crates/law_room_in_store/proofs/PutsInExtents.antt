-- Where n extents are left for puts, a put of the machine whose frames fill at most n extents finds its places.
use Rattle.std.proofs.Common.{◌≡◌, ◌⊎◌, inl, inr, ⊎_elim, ℕ, suc, ◌+◌, ◌<◌, ◌≤◌, Bool, true, List, [], ◌∷◌, ◌++◌, length, Some, refl, sym, ap, ◌∙◌, subst, arith}
use Rattle.std.specs.Prelude.{sum}
use Rattle.law_machine.proofs.Chunks.{chunked_there}
use Rattle.law_machine.proofs.Needs.{after_extents_by, append_there_by}
use Rattle.law_machine.proofs.Places.{goes_or_full}
use Rattle.law_machine.specs.Append.{AppendAllBy, AppendBy, AppendsChunksBy, chunk_frames, page_counts}
use Rattle.law_machine.specs.Device.{IsShape, Shape}
use Rattle.law_machine.specs.Element.{Locator}
use Rattle.law_machine.specs.Events.{ArePayloads, headed}
use Rattle.law_machine.specs.Extents.{Extents, ForPut, GoesApart, one_if, taken_by}
use Rattle.law_machine.specs.Formats.{ChunkFrame, Formats}
use Rattle.law_machine.specs.Frames.{IsFormat}
use Rattle.law_machine.specs.Grounds.{Refuses}
use Rattle.law_machine.specs.Index.{joined}
use Rattle.law_machine.specs.Lists.{◌∈◌}
use Rattle.law_machine.specs.Machine.{World}
use Rattle.law_machine.specs.Refusal.{Full, Halted, IndexFull, TooLarge, WornOut}
use Rattle.law_machine.specs.State.{Put, State, next_command}
use Rattle.law_room.proofs.Counts.{find_below}
use Rattle.law_room.proofs.Given.{Orderly, empty_alone, holds_here, orderly, pointer_here, put_one}
use Rattle.law_room.proofs.MachineGoes.{IsSwept}
use Rattle.law_room.proofs.MachineIds.{swept_of}
use Rattle.law_room.proofs.MachinePut.{IsPlace, IsPut, place, put_goes, put_taken, takes_filled}
use Rattle.law_room.proofs.MachineShare.{frame_goes, none_takes, up}
use Rattle.law_room.proofs.Writing.{one_write, same_write, sum_is, takes_or_not}
use Rattle.law_room.specs.Events.{GoesForPut, LeftAlone, TakesPut, with_chunk}
use Rattle.law_room.specs.OfMachine.{AreExtentsOf, HasRoomNow, is_aside}
use Rattle.law_room.specs.Rooms.{OfChunks, Room, chunk_extents, opened_by, run_extents}
use Rattle.law_room.specs.Sweeps.{FillsAtMost}

same_number : (a b : ℕ) → Some a ≡ Some b → a ≡ b
same_number a b same = cc

module _ (S : Shape) (J : ℕ) where
  -- the last frame of the put went to an extent, and these fit after it
  record GoesOn (r : Room) (ks : List ℕ) : Type 0 where
    extent : ℕ
    open_there : r.open_extent ≡ Some extent
    there : extent < S.extents
    chunks : r.holds extent ≡ OfChunks
    alone : LeftAlone S r.sweep extent
    fits : r.pointer extent + sum ks ≤ S.pages

  -- What is left of a put: these frames, which fit on one extent together, and then those of others. They go where the
  -- last frame went, or take one extent more; or none of them is left
  abbrev HasExtents : Room → List ℕ → List (List ℕ) → Type 0
  HasExtents r now parts =
      (GoesOn r now × (chunk_extents r S.extents + length parts + J + 2 ≤ S.extents))
      ⊎ ((sum now ≤ S.pages) × (chunk_extents r S.extents + suc (length parts) + J + 2 ≤ S.extents))
      ⊎ ((now ≡ []) × (chunk_extents r S.extents + length parts + J + 2 ≤ S.extents))

  abbrev EachFits : List (List ℕ) → Type 0
  EachFits parts = (part : List ℕ) → part ∈ parts → sum part ≤ S.pages

  -- the next frame is the first of these, or of the next part
  next_frame : (parts : List (List ℕ)) (r : Room) (now ks : List ℕ) (k : ℕ) → now ++ joined parts ≡ k ∷ ks → EachFits parts
      → HasExtents r now parts
      → (later : List ℕ) × (others : List (List ℕ)) × (later ++ joined others ≡ ks) × EachFits others × HasExtents r (k ∷ later) others
  next_frame parts r (j ∷ now) ks k is each has =
      let first : j ≡ k = cc in
      let rest : now ++ joined parts ≡ ks = cc in
      (now, parts, rest, each, subst (λ (x : ℕ). HasExtents r (x ∷ now) parts) first has)
  next_frame [] r [] ks k is each has = absurd (cc is)
  next_frame (part ∷ parts) r [] ks k is each has = next_frame parts r part ks k is (λ p there. each p (inr there))
      (inr (inl (each part (inl refl), left has)))
    where
      left : HasExtents r [] (part ∷ parts) → chunk_extents r S.extents + suc (length parts) + J + 2 ≤ S.extents
      left (inl goes) = goes.1
      left (inr (inl more)) = let le : chunk_extents r S.extents + suc (suc (length parts)) + J + 2 ≤ S.extents = more.1 in omega (arith, le)
      left (inr (inr none)) = none.1

  rest_fits : (r : Room) (k : ℕ) (ks : List ℕ) → (on : GoesOn r (k ∷ ks)) → r.pointer on.extent + (k + sum ks) ≤ S.pages
  rest_fits r k ks on = let all : sum (k ∷ ks) ≡ k + sum ks = sum_is k ks in
      let fits : r.pointer on.extent + sum (k ∷ ks) ≤ S.pages = on.fits in omega (arith, all, fits)

  takes_next : (r : Room) (k : ℕ) (ks : List ℕ) → (on : GoesOn r (k ∷ ks)) → TakesPut S r k on.extent
  takes_next r k ks on = let fits : r.pointer on.extent + (k + sum ks) ≤ S.pages = rest_fits r k ks on in
      ((on.there, on.chunks, omega (arith, fits)), on.alone)

  -- it has no more pages than an extent, and where it fits behind none, one more may hold chunks
  small : (r : Room) (k : ℕ) (ks : List ℕ) (parts : List (List ℕ)) → HasExtents r (k ∷ ks) parts → k ≤ S.pages
  small r k ks parts (inl goes) = let fits : r.pointer goes.0.extent + (k + sum ks) ≤ S.pages = rest_fits r k ks goes.0 in omega (arith, fits)
  small r k ks parts (inr (inl more)) = let all : sum (k ∷ ks) ≡ k + sum ks = sum_is k ks in
      let fits : sum (k ∷ ks) ≤ S.pages = more.0 in omega (arith, all, fits)
  small r k ks parts (inr (inr none)) = absurd (cc none.0)

  one_left : (r : Room) (k : ℕ) (ks : List ℕ) (parts : List (List ℕ)) → HasExtents r (k ∷ ks) parts
      → ((e : ℕ) → TakesPut S r k e → ⊥) → suc (chunk_extents r S.extents) + J + 2 ≤ S.extents
  one_left r k ks parts (inl goes) full = absurd (full goes.0.extent (takes_next r k ks goes.0))
  one_left r k ks parts (inr (inl more)) full =
      let le : chunk_extents r S.extents + suc (length parts) + J + 2 ≤ S.extents = more.1 in omega (arith, le)
  one_left r k ks parts (inr (inr none)) full = absurd (cc none.0)

  goes_on : (r : Room) (id e k : ℕ) (ks : List ℕ) → e < S.extents → LeftAlone S r.sweep e → r.pointer e + (k + sum ks) ≤ S.pages
      → GoesOn (with_chunk S r id k e) ks
  goes_on r id e k ks there alone fits = record {
    extent = e;
    open_there = refl;
    there = there;
    chunks = holds_here r e k OfChunks;
    alone = alone;
    fits = rw (pointer_here r e k OfChunks) (omega (arith, fits));
  }

  -- wherever it goes, the others have their extents
  after_frame : (r : Room) (id k e : ℕ) (ks : List ℕ) (parts : List (List ℕ)) → Orderly S J r → GoesForPut S r k e
      → HasExtents r (k ∷ ks) parts → HasExtents (with_chunk S r id k e) ks parts
  after_frame r id k e ks parts keeps goes (inr (inr none)) = absurd (cc none.0)
  after_frame r id k e ks parts keeps goes (inl on) =
      subst (λ (d : ℕ). HasExtents (with_chunk S r id k d) ks parts) (sym (same goes))
      (inl (
        goes_on r id on.0.extent k ks on.0.there on.0.alone (rest_fits r k ks on.0),
        (let fewer : chunk_extents (with_chunk S r id k on.0.extent) S.extents ≤ chunk_extents r S.extents =
            same_write S J r id k on.0.extent on.0.chunks in
            let le : chunk_extents r S.extents + length parts + J + 2 ≤ S.extents = on.1 in omega (arith, fewer, le)),
      ))
    where
      same : GoesForPut S r k e → e ≡ on.0.extent
      same (inl last) = same_number e on.0.extent (sym last.0 ∙ on.0.open_there)
      same (inr (inl other)) = absurd (other.0 on.0.extent on.0.open_there (takes_next r k ks on.0))
      same (inr (inr empty)) = absurd (empty.0 on.0.extent on.0.open_there (takes_next r k ks on.0))
  after_frame r id k e ks parts keeps goes (inr (inl more)) = by_place goes
    where
      together : k + sum ks ≤ S.pages
      together = let all : sum (k ∷ ks) ≡ k + sum ks = sum_is k ks in
          let fits : sum (k ∷ ks) ≤ S.pages = more.0 in omega (arith, all, fits)

      enough : chunk_extents r S.extents + suc (length parts) + J + 2 ≤ S.extents
      enough = more.1

      behind : r.holds e ≡ OfChunks → HasExtents (with_chunk S r id k e) ks parts
      behind is = inr (inl (
        omega (arith, together),
        (let fewer : chunk_extents (with_chunk S r id k e) S.extents ≤ chunk_extents r S.extents = same_write S J r id k e is in
            omega (arith, fewer, enough)),
      ))

      by_place : GoesForPut S r k e → HasExtents (with_chunk S r id k e) ks parts
      by_place (inl last) = behind last.1.0.1
      by_place (inr (inl other)) = behind other.1.0.1
      by_place (inr (inr empty)) =
          let none : r.pointer e ≡ 0 = keeps.lies.empty e empty.1.1 in
          let one : chunk_extents (with_chunk S r id k e) S.extents ≤ suc (chunk_extents r S.extents) = one_write S J r id k e in
          inl (
            goes_on r id e k ks empty.1.0 (empty_alone S J r e keeps empty.1.1) (omega (arith, none, together)),
            omega (arith, one, enough),
          )

module _ (S : Shape) (aside : ℕ → Bool) (x : Extents) (r : Room) (of : AreExtentsOf S aside x r)
    (held : IsSwept S aside x r.sweep) where
  -- a frame goes behind chunks, or to an empty extent, where one more may hold chunks if it fits behind none
  goes_somewhere : (k : ℕ) → S.fills ≡ true → k ≤ S.pages → run_extents r S.extents ≤ S.run_extents
      → (((e : ℕ) → TakesPut S r k e → ⊥) → suc (chunk_extents r S.extents) + S.run_extents + 2 ≤ S.extents)
      → (e : ℕ) × GoesApart S x ForPut k e
  goes_somewhere k filled fits runs left = ⊎_elim
      (λ (at : (e : ℕ) × GoesApart S x ForPut k e). at)
      (λ (none : (e : ℕ) → GoesApart S x ForPut k e → ⊥). ⊎_elim
      (λ found. absurd (none_takes S aside x r of held k none (suc found.0) found.0 (omega arith)
      (takes_filled S aside x r of held k found.0 filled found.2)))
      (λ (full : (e : ℕ) → e < S.extents → TakesPut S r k e → ⊥).
      frame_goes S aside x r of held k fits (left (λ e takes. full e takes.0.0 takes)) runs)
      (find_below (TakesPut S r k) (takes_or_not S S.run_extents r k) S.extents))
      (goes_or_full S true x ForPut k)

module _ (S : Shape) (F : Formats) (shape : IsShape S) (format : IsFormat S F) (aside : ℕ → Bool) (filled : S.fills ≡ true) where
  abbrev J : ℕ
  J = S.run_extents

  -- the frames of a put are appended one after another
  put_fits : (w : World) (cs : List (List ℕ)) (r : Room) (now : List ℕ) (parts : List (List ℕ)) → Orderly S J r
      → AreExtentsOf S aside w.extents r → IsSwept S aside w.extents r.sweep
      → ((d : ℕ) → w.extents.swept d ≡ true → 0 < w.extents.pointer d)
      → chunk_extents r S.extents + J + 2 ≤ S.extents + opened_by r.sweep
      → now ++ joined parts ≡ page_counts (chunk_frames S F cs) → EachFits S J parts → HasExtents S J r now parts
      → (ls : List Locator) × (v : World) × AppendAllBy S true w ForPut (chunk_frames S F cs) ls v
  put_fits w [] r now parts keeps of held swept quota is each has = ([], w, refl)
  put_fits w (c ∷ cs) r now parts keeps of held swept quota is each has =
      let k : ℕ = length (F.frame ChunkFrame c) in
      let next = next_frame S J parts r now (page_counts (chunk_frames S F cs)) k is each has in
      let some_page : 0 < k = format.some_page ChunkFrame c in
      let goes = goes_somewhere S aside w.extents r of held k filled (small S J r k next.0 next.1 next.4) keeps.runs
      (one_left S J r k next.0 next.1 next.4) in
      let one = append_there_by S true w ForPut (F.frame ChunkFrame c) goes.0 goes.1 in
      let a : AppendBy S true w ForPut (F.frame ChunkFrame c) one.0 one.1 = one.2 in
      let e : ℕ = a.extent in
      let at : IsPlace S aside w.extents r of held k e = place S aside w.extents r of held k e swept a.placed in
      let put : IsPut S aside w.extents r of held 0 k e = put_taken S aside w.extents r of held 0 k e some_page at quota in
      let room : GoesForPut S r k e = put_goes S aside w.extents r of held k e a.placed in
      let extents : one.1.extents ≡ taken_by S true ForPut w.extents e k =
      after_extents_by S shape true w one.1 ForPut (F.frame ChunkFrame c) one.0 a in
      let marks : one.1.extents.swept ≡ w.extents.swept = ap (λ (y : Extents). y.swept) extents in
      let opened : one.1.extents.fresh ≡ w.extents.fresh = ap (λ (y : Extents). y.fresh) extents in
      let rest = put_fits one.1 cs (with_chunk S r 0 k e) next.0 next.1 (put_one S J r 0 k e keeps room)
      (subst (λ (y : Extents). AreExtentsOf S aside y (with_chunk S r 0 k e)) (sym extents) put.after)
      (record {
        alone = λ d is not. held.alone d (ap (λ (f : ℕ → Bool). f d) (sym marks) ∙ is) (λ there. not (opened ∙ there));
        left = λ d lt alone. (let was = held.left d lt alone in
            (ap (λ (f : ℕ → Bool). f d) marks ∙ was.0, λ is. was.1 (sym opened ∙ is)));
        aside_fresh = λ d is. opened ∙ held.aside_fresh d is;
        counts = ⊎_elim (λ (is : opened_by r.sweep ≡ one_if w.extents.fresh). inl (is ∙ ap one_if (sym opened)))
            (λ (out : (d : ℕ) × (w.extents.fresh ≡ Some d) × (aside d ≡ true)). inr (out.0, opened ∙ out.1, out.2))
            held.counts;
      })
      (λ d is. (let was : 0 < w.extents.pointer d = swept d (ap (λ (f : ℕ → Bool). f d) (sym marks) ∙ is) in
      subst (λ (y : Extents). 0 < y.pointer d) (sym extents) (up S F shape format aside w.extents.pointer e k d was)))
      put.quota next.2 next.3 (after_frame S J r 0 k e next.0 next.1 keeps room next.4) in
      (one.0 ∷ rest.0, rest.1, (one.1, a, rest.2))

module _ (S : Shape) (F : Formats) (shape : IsShape S) (format : IsFormat S F) (filled : S.fills ≡ true) where
  -- a put isn't refused whose frames fill at most n extents, where n extents are left for puts
  pub put_not_full : (s : State) (r : Room) (id n : ℕ) (bytes : List ℕ) → HasRoomNow S F s r
      → chunk_extents r S.extents + n + S.run_extents + 2 ≤ S.extents
      → ((command : ℕ) (chunks : List (List ℕ)) → ArePayloads S F id command bytes chunks
      → FillsAtMost S.pages n (page_counts (chunk_frames S F chunks)))
      → Refuses S F s (Put id bytes) Full → ⊥
  put_not_full s r id n bytes has left fill (inl (a, wrong)) = let no : Full ≡ Halted = wrong in cc
  put_not_full s r id n bytes has left fill (inr (a, inl (b, wrong))) = let no : Full ≡ TooLarge = wrong in cc
  put_not_full s r id n bytes has left fill (inr (a, inr (b, inl (c, wrong)))) = let no : Full ≡ IndexFull = wrong in cc
  put_not_full s r id n bytes has left fill (inr (a, inr (b, inr (c, inr (d, inl (worn, wrong)))))) =
      let no : Full ≡ WornOut = wrong in cc
  put_not_full s r id n bytes has left fill (inr (a, inr (b, inr (c, inr (d, inr never))))) = never.1
  put_not_full s r id n bytes has left fill (inr (a, inr (b, inr (c, inl (nowhere, is))))) =
      let apart : S.apart ≡ true = shape.fills filled in
      let pieces = chunked_there (S.piece_bytes (length bytes)) bytes (shape.some_piece (length bytes)) in
      let cs : List (List ℕ) = pieces.0 in
      let payloads : List (List ℕ) = headed F id 0 (length cs) (next_command s) cs in
      let fills : FillsAtMost S.pages n (page_counts (chunk_frames S F payloads)) = fill (next_command s) payloads (cs, pieces.1, refl) in
      let few : length fills.0 ≤ n = fills.2 in
      let done = put_fits S F shape format (is_aside S s) filled s.world payloads r [] fills.0 (orderly S S.run_extents r has.keeps)
      has.room.extents (swept_of S s r.sweep (has.sound.apart apart).one_sweep has.room.sweep) (λ d on. (has.sound.swept d on).1)
      has.keeps.quotas.chunks fills.1 fills.3 (inr (inr (refl, omega (arith, left, few)))) in
      nowhere payloads done.0 (record s { world = done.1 }) (cs, pieces.1, refl)
      (subst (λ (b : Bool). AppendsChunksBy S F b s payloads done.0 (record s { world = done.1 })) (sym apart) (done.1, done.2, refl))
