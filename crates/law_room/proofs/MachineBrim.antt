-- Up to the brim, a put of the machine finds its places where nothing is dead.
use Rattle.std.proofs.Common.{◌≡◌, inl, inr, ⊎_elim, ℕ, suc, ◌+◌, ◌-◌, ◌*◌, ◌<◌, ◌≤◌, Bool, true, List, [], ◌∷◌, length, Some, None, refl, sym, ap, ◌∙◌, subst, arith}
use Rattle.std.specs.Prelude.{sum}
use Rattle.law_machine.proofs.Chunks.{chunked_there}
use Rattle.law_machine.proofs.Needs.{after_extents_by, append_there_by}
use Rattle.law_machine.proofs.Places.{goes_or_full}
use Rattle.law_machine.specs.Append.{AppendAllBy, AppendBy, AppendsChunksBy, chunk_frames, page_counts}
use Rattle.law_machine.specs.Device.{IsShape, Shape}
use Rattle.law_machine.specs.Element.{Locator}
use Rattle.law_machine.specs.Events.{ArePayloads, headed}
use Rattle.law_machine.specs.Extents.{Extents, ForPut, GoesApart, one_if, taken_by}
use Rattle.law_machine.specs.Formats.{ChunkFrame, Formats}
use Rattle.law_machine.specs.Frames.{IsFormat}
use Rattle.law_machine.specs.Grounds.{Refuses}
use Rattle.law_machine.specs.Lists.{◌∈◌}
use Rattle.law_machine.specs.Machine.{World}
use Rattle.law_machine.specs.Refusal.{Full, Halted, IndexFull, TooLarge, WornOut}
use Rattle.law_machine.specs.State.{Put, State, next_command}
use Rattle.law_room.proofs.BrimPuts.{beside_all, given_pages, little_now, next_little, one_left}
use Rattle.law_room.proofs.BrimShare.{left_by_greatest}
use Rattle.law_room.proofs.Counts.{find_below}
use Rattle.law_room.proofs.Given.{Orderly, orderly, put_one}
use Rattle.law_room.proofs.MachineGoes.{IsSwept}
use Rattle.law_room.proofs.MachineIds.{swept_of}
use Rattle.law_room.proofs.MachinePut.{IsPlace, IsPut, place, put_goes, put_taken, takes_filled}
use Rattle.law_room.proofs.MachineShare.{frame_goes, none_takes, put_not_full as chunks_left, up}
use Rattle.law_room.proofs.Writing.{sum_is, takes_or_not}
use Rattle.law_room.specs.Brim.{FitBeside, all_dead}
use Rattle.law_room.specs.BrimOfMachine.{FitBesideAllIn, FitBesideIn, LivesFewFor, NoneNextIn, NothingDeadIn}
use Rattle.law_room.specs.Events.{TakesPut, with_chunk}
use Rattle.law_room.specs.OfMachine.{AreChunksAtMost, AreExtentsOf, ChunksFit, HasRoomNow, is_aside}
use Rattle.law_room.specs.Rooms.{Room, all_pages, chunk_extents, opened_by, run_extents}

module _ (S : Shape) (aside : ℕ → Bool) (x : Extents) (r : Room) (of : AreExtentsOf S aside x r)
    (held : IsSwept S aside x r.sweep) where
  -- it goes behind chunks, or to an empty extent, where one more may hold chunks if it fits behind none
  goes_somewhere : (k : ℕ) → S.fills ≡ true → k ≤ S.pages → run_extents r S.extents ≤ S.run_extents
      → (((e : ℕ) → TakesPut S r k e → ⊥) → suc (chunk_extents r S.extents) + S.run_extents + 2 ≤ S.extents)
      → (e : ℕ) × GoesApart S x ForPut k e
  goes_somewhere k filled fits runs left = ⊎_elim
      (λ (at : (e : ℕ) × GoesApart S x ForPut k e). at)
      (λ (none : (e : ℕ) → GoesApart S x ForPut k e → ⊥). ⊎_elim
      (λ found. absurd (none_takes S aside x r of held k none (suc found.0) found.0 (omega arith)
      (takes_filled S aside x r of held k found.0 filled found.2)))
      (λ (full : (e : ℕ) → e < S.extents → TakesPut S r k e → ⊥).
      frame_goes S aside x r of held k fits (left (λ e takes. full e takes.0.0 takes)) runs)
      (find_below (TakesPut S r k) (takes_or_not S S.run_extents r k) S.extents))
      (goes_or_full S true x ForPut k)

module _ (S : Shape) (F : Formats) (shape : IsShape S) (format : IsFormat S F) (aside : ℕ → Bool) (filled : S.fills ≡ true)
    (N y : ℕ) (some : 1 ≤ N) (one_fits : y ≤ S.pages) (large : N + S.run_extents + 2 ≡ S.extents) where
  abbrev J : ℕ
  J = S.run_extents

  -- the frames of a put are appended one after another
  put_fits : (w : World) (cs : List (List ℕ)) (r : Room) → Orderly S J r → r.sweep ≡ None → AreExtentsOf S aside w.extents r
      → IsSwept S aside w.extents r.sweep → ((d : ℕ) → w.extents.swept d ≡ true → 0 < w.extents.pointer d)
      → chunk_extents r S.extents + J + 2 ≤ S.extents + opened_by r.sweep
      → given_pages S J r + sum (page_counts (chunk_frames S F cs)) < N * (S.pages + 1 - y) + y
      → ((k : ℕ) → k ∈ page_counts (chunk_frames S F cs) → k ≤ y)
      → (ls : List Locator) × (v : World) × AppendAllBy S true w ForPut (chunk_frames S F cs) ls v
  put_fits w [] r keeps none of held swept quota few each = ([], w, refl)
  put_fits w (c ∷ cs) r keeps none of held swept quota few each =
      let k : ℕ = length (F.frame ChunkFrame c) in
      let rest_pages : List ℕ = page_counts (chunk_frames S F cs) in
      let some_page : 0 < k = format.some_page ChunkFrame c in
      let small : k ≤ y = each k (inl refl) in
      let all : sum (k ∷ rest_pages) ≡ k + sum rest_pages = sum_is k rest_pages in
      let goes = goes_somewhere S aside w.extents r of held k filled (omega (arith, small, one_fits)) keeps.runs
      (λ full. (let left : chunk_extents r S.extents < N = one_left S J N y some one_fits r k (sum rest_pages) none small
      (omega (arith, few, all)) full in omega (arith, left, large))) in
      let one = append_there_by S true w ForPut (F.frame ChunkFrame c) goes.0 goes.1 in
      let a : AppendBy S true w ForPut (F.frame ChunkFrame c) one.0 one.1 = one.2 in
      let e : ℕ = a.extent in
      let at : IsPlace S aside w.extents r of held k e = place S aside w.extents r of held k e swept a.placed in
      let put : IsPut S aside w.extents r of held 0 k e = put_taken S aside w.extents r of held 0 k e some_page at quota in
      let room = put_goes S aside w.extents r of held k e a.placed in
      let extents : one.1.extents ≡ taken_by S true ForPut w.extents e k =
      after_extents_by S shape true w one.1 ForPut (F.frame ChunkFrame c) one.0 a in
      let marks : one.1.extents.swept ≡ w.extents.swept = ap (λ (y : Extents). y.swept) extents in
      let opened : one.1.extents.fresh ≡ w.extents.fresh = ap (λ (y : Extents). y.fresh) extents in
      let rest = put_fits one.1 cs (with_chunk S r 0 k e) (put_one S J r 0 k e keeps room) none
      (subst (λ (y : Extents). AreExtentsOf S aside y (with_chunk S r 0 k e)) (sym extents) put.after)
      (record {
        alone = λ d is not. held.alone d (ap (λ (f : ℕ → Bool). f d) (sym marks) ∙ is) (λ there. not (opened ∙ there));
        left = λ d lt alone. (let was = held.left d lt alone in
            (ap (λ (f : ℕ → Bool). f d) marks ∙ was.0, λ is. was.1 (sym opened ∙ is)));
        aside_fresh = λ d is. opened ∙ held.aside_fresh d is;
        counts = ⊎_elim (λ (is : opened_by r.sweep ≡ one_if w.extents.fresh). inl (is ∙ ap one_if (sym opened)))
            (λ (out : (d : ℕ) × (w.extents.fresh ≡ Some d) × (aside d ≡ true)). inr (out.0, opened ∙ out.1, out.2))
            held.counts;
      })
      (λ d is. (let was : 0 < w.extents.pointer d = swept d (ap (λ (f : ℕ → Bool). f d) (sym marks) ∙ is) in
      subst (λ (y : Extents). 0 < y.pointer d) (sym extents) (up S F shape format aside w.extents.pointer e k d was)))
      put.quota (next_little S J N y some one_fits r 0 k e rest_pages keeps room few) (λ j there. each j (inr there)) in
      (one.0 ∷ rest.0, rest.1, (one.1, a, rest.2))

module _ (S : Shape) (F : Formats) (shape : IsShape S) (format : IsFormat S F) (filled : S.fills ≡ true) where
  apart : S.apart ≡ true
  apart = shape.fills filled

  -- a put isn't refused whose frames fit beside what lives and what is dead in its room
  pub put_not_full_in : (s : State) (r : Room) (id : ℕ) (bytes : List ℕ) → HasRoomNow S F s r → r.sweep ≡ None
      → ((command : ℕ) (chunks : List (List ℕ)) → ArePayloads S F id command bytes chunks
      → FitBeside S S.run_extents (all_pages r.chunks + all_dead r S.extents) (page_counts (chunk_frames S F chunks)))
      → Refuses S F s (Put id bytes) Full → ⊥
  put_not_full_in s r id bytes has none fit (inl (a, wrong)) = let no : Full ≡ Halted = wrong in cc
  put_not_full_in s r id bytes has none fit (inr (a, inl (b, wrong))) = let no : Full ≡ TooLarge = wrong in cc
  put_not_full_in s r id bytes has none fit (inr (a, inr (b, inl (c, wrong)))) = let no : Full ≡ IndexFull = wrong in cc
  put_not_full_in s r id bytes has none fit (inr (a, inr (b, inr (c, inr (d, inl (worn, wrong)))))) =
      let no : Full ≡ WornOut = wrong in cc
  put_not_full_in s r id bytes has none fit (inr (a, inr (b, inr (c, inr (d, inr never))))) = never.1
  put_not_full_in s r id bytes has none fits (inr (a, inr (b, inr (c, inl (nowhere, is))))) =
      let pieces = chunked_there (S.piece_bytes (length bytes)) bytes (shape.some_piece (length bytes)) in
      let cs : List (List ℕ) = pieces.0 in
      let payloads : List (List ℕ) = headed F id 0 (length cs) (next_command s) cs in
      let fit : FitBeside S S.run_extents (all_pages r.chunks + all_dead r S.extents) (page_counts (chunk_frames S F payloads)) =
      fits (next_command s) payloads (cs, pieces.1, refl) in
      let enough : S.run_extents + 3 ≤ S.extents = fit.extents in
      let done = put_fits S F shape format (is_aside S s) filled (S.extents - (S.run_extents + 2)) fit.most (omega arith)
      fit.one_fits (omega arith) s.world payloads r (orderly S S.run_extents r has.keeps) none has.room.extents
      (swept_of S s r.sweep (has.sound.apart apart).one_sweep has.room.sweep) (λ d on. (has.sound.swept d on).1)
      has.keeps.quotas.chunks
      (little_now S S.run_extents r (page_counts (chunk_frames S F payloads)) fit) fit.each in
      nowhere payloads done.0 (record s { world = done.1 }) (cs, pieces.1, refl)
      (subst (λ (b : Bool). AppendsChunksBy S F b s payloads done.0 (record s { world = done.1 })) (sym apart) (done.1, done.2, refl))

  -- nor one whose frames fit beside that in each of its rooms
  pub put_not_full : (s : State) (r : Room) (id : ℕ) (bytes : List ℕ) → HasRoomNow S F s r → r.sweep ≡ None
      → FitBesideAllIn S F s id bytes → Refuses S F s (Put id bytes) Full → ⊥
  put_not_full s r id bytes has none fits full =
      put_not_full_in s r id bytes has none (λ command chunks payloads. fits r command chunks has.room payloads) full

  -- so where nothing is dead they fit if they do so beside what lives
  pub beside_all_in : (s : State) (id : ℕ) (bytes : List ℕ) → NothingDeadIn S F s → FitBesideIn S F s id bytes
      → FitBesideAllIn S F s id bytes
  beside_all_in s id bytes nothing fits = λ r command chunks room payloads. beside_all S S.run_extents r
      (page_counts (chunk_frames S F chunks)) (nothing r room) (fits r command chunks room payloads)

  -- nor one of n chunks, when the rule says none
  pub chunks_not_full : (s : State) (r : Room) (id n c : ℕ) (bytes : List ℕ) → ChunksFit S F → HasRoomNow S F s r
      → S.run_extents + n + 3 ≤ S.extents → NoneNextIn S F s → LivesFewFor S F n c s → AreChunksAtMost S n bytes
      → Refuses S F s (Put id bytes) Full → ⊥
  chunks_not_full s r id n c bytes fit has large none few cut full =
      chunks_left S F shape format apart s r id n bytes cut.0 has fit
      (left_by_greatest S S.run_extents n c r has.keeps (none r has.room) (few r has.room) large) cut.1 cut.2 full
