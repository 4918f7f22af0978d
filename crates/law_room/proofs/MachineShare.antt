-- Where extents are left for puts, a put of the machine finds its places.
use Rattle.std.proofs.Common.{◌≡◌, inl, inr, ⊎_elim, ℕ, zero, suc, ◌+◌, ◌<◌, ◌≤◌, ◌==◌, ◌&&◌, not, nat_lt, Bool, true, false, List, [], ◌∷◌, length, Option, Some, None, if◌then◌else◌, refl, sym, ap, ◌∙◌, le_trans, subst, arith}
use Rattle.std.proofs.lemmas.Bool.{cases_Bool, cases_eq, ne_eqb, true≢false}
use Rattle.std.proofs.lemmas.Bool.Decides.{nat_tests}
use Rattle.law_machine.proofs.Carries.{and_left, and_right}
use Rattle.law_machine.proofs.Needs.{after_extents_by, append_there_by}
use Rattle.law_machine.proofs.Parts.{with_other, with_same}
use Rattle.law_machine.proofs.Payloads.{length_heads}
use Rattle.law_machine.proofs.Places.{goes_or_full}
use Rattle.law_machine.specs.Append.{AppendAllBy, AppendBy, AppendsChunksBy, chunk_frames}
use Rattle.law_machine.specs.Device.{IsShape, Shape}
use Rattle.law_machine.specs.Element.{Locator}
use Rattle.law_machine.specs.Events.{AllFullButLast, Chunked, headed}
use Rattle.law_machine.specs.Extents.{Extents, ForPut, GoesApart, Takes, chunk_extents as machine_chunks, one_if, taken_by}
use Rattle.law_machine.specs.Formats.{ChunkFrame, Formats}
use Rattle.law_machine.specs.Frames.{IsFormat}
use Rattle.law_machine.specs.Grounds.{Refuses}
use Rattle.law_machine.specs.Lists.{with, ◌∈◌}
use Rattle.law_machine.specs.Machine.{World}
use Rattle.law_machine.specs.Refusal.{Full, Halted, IndexFull, TooLarge, WornOut}
use Rattle.law_machine.specs.State.{Put, State, next_command}
use Rattle.law_room.proofs.Counts.{count_le, count_more, empty_there}
use Rattle.law_room.proofs.MachineEmpty.{empty_pointer, first_below}
use Rattle.law_room.proofs.MachineGoes.{IsSwept, holds_runs, not_aside, runs_there}
use Rattle.law_room.proofs.MachineIds.{swept_of}
use Rattle.law_room.proofs.MachinePut.{IsPlace, IsPut, place, put_taken}
use Rattle.law_room.specs.Events.{with_chunk}
use Rattle.law_room.specs.OfMachine.{AreExtentsOf, ChunksFit, HasRoomNow, holding, is_aside}
use Rattle.law_room.specs.Rooms.{Empty, Holding, OfChunks, Room, chunk_extents, how_many, is_of_chunks, is_of_runs, opened_by, run_extents}

module _ (S : Shape) (aside : ℕ → Bool) (x : Extents) (r : Room) (of : AreExtentsOf S aside x r)
    (held : IsSwept S aside x r.sweep) where
  kept_kind : (f : Holding → Bool) (e : ℕ) → e < S.extents → f (holding x e) ≡ true → aside e ≡ false → f (r.holds e) ≡ true
  kept_kind f e lt on off = ap f (of.holds e lt ∙ not_aside (aside e) Empty (holding x e) off) ∙ on

  all_runs : how_many (λ e. is_of_runs (holding x e)) S.extents ≤ run_extents r S.extents
  all_runs = count_le (λ e. is_of_runs (holding x e)) (λ e. is_of_runs (r.holds e)) S.extents
      (λ e lt on. kept_kind is_of_runs e lt on (elim (cases_Bool (aside e)) [
        | inl there ↦ absurd (true≢false (sym (runs_there x e on).1 ∙ (of.noted.opened e (held.aside_fresh e there)).2))
        | inr off ↦ off
      ]))

  -- no more extents of the machine hold chunks, but for the one that is set aside
  all_chunks : how_many (λ e. is_of_chunks (holding x e)) S.extents ≤ chunk_extents r S.extents + one_if x.fresh
  all_chunks = by_fresh x.fresh refl
    where
      by_fresh : (o : Option ℕ) → x.fresh ≡ o
          → how_many (λ e. is_of_chunks (holding x e)) S.extents ≤ chunk_extents r S.extents + one_if o
      by_fresh None is = (let le : how_many (λ e. is_of_chunks (holding x e)) S.extents ≤ chunk_extents r S.extents =
          count_le (λ e. is_of_chunks (holding x e)) (λ e. is_of_chunks (r.holds e)) S.extents
          (λ e lt on. kept_kind is_of_chunks e lt on (elim (cases_Bool (aside e)) [
            | inl there ↦ absurd (let wrong : None ≡ Some e = sym is ∙ held.aside_fresh e there in cc)
            | inr off ↦ off
          ])) in omega arith)
      by_fresh (Some f) is = (let le : how_many (λ e. is_of_chunks (holding x e)) S.extents ≤ suc (chunk_extents r S.extents) =
          count_more (λ e. is_of_chunks (holding x e)) (λ e. is_of_chunks (r.holds e)) f S.extents
          (λ e lt on. elim (cases_Bool (aside e)) [
            | inl there ↦ inr (let same : Some e ≡ Some f = sym (held.aside_fresh e there) ∙ is in cc)
            | inr off ↦ inl (kept_kind is_of_chunks e lt on off)
          ]) in omega arith)

  counted : machine_chunks x S.extents ≤ how_many (λ e. is_of_chunks (holding x e)) S.extents
  counted = count_le (λ e. nat_lt 0 (x.pointer e) && not (x.of_runs e)) (λ e. is_of_chunks (holding x e)) S.extents
      (λ e lt on. (let some : nat_lt 0 (x.pointer e) ≡ true = and_left (nat_lt 0 (x.pointer e)) _ on in
      ap is_of_chunks (holds_runs x e false (grind (arith, nat_tests)) (negated (x.of_runs e)
      (and_right (nat_lt 0 (x.pointer e)) _ on)))))
    where
      negated : (b : Bool) → not b ≡ true → b ≡ false
      negated true wrong = sym wrong
      negated false is = refl

  one_at_most : (o : Option ℕ) → one_if o ≤ 1
  one_at_most None = omega arith
  one_at_most (Some e) = omega arith

  pub none_takes : (k : ℕ) → ((e : ℕ) → GoesApart S x ForPut k e → ⊥) → (n d : ℕ) → d < n → Takes S x ForPut k d → ⊥
  none_takes k none zero d lt takes = absurd (omega arith)
  none_takes k none (suc n) d lt takes = none d (inr (inl (
    (λ c noted there. none c (inl (noted, there))),
    (takes, λ c below there. none_takes k none n c (omega arith) there),
  )))

  -- a frame goes somewhere while one extent more may hold chunks
  pub frame_goes : (k : ℕ) → k ≤ S.pages → suc (chunk_extents r S.extents) + S.run_extents + 2 ≤ S.extents
      → run_extents r S.extents ≤ S.run_extents → (e : ℕ) × GoesApart S x ForPut k e
  frame_goes k fits few runs = ⊎_elim (λ (at : (e : ℕ) × GoesApart S x ForPut k e). at)
      (λ (none : (e : ℕ) → GoesApart S x ForPut k e → ⊥). absurd (full none))
      (goes_or_full S true x ForPut k)
    where
      full : ((e : ℕ) → GoesApart S x ForPut k e → ⊥) → ⊥
      full none =
          let a = all_chunks in let b = all_runs in let c = counted in let d = one_at_most x.fresh in
          let empty = empty_there (holding x) S.extents (omega (arith, a, b, d, few, runs)) in ⊎_elim
          (λ (found : (f : ℕ) × (f < S.extents) × (x.pointer f ≡ 0) × ((g : ℕ) → g < f → 0 < x.pointer g)).
          none found.0 (inr (inr (
            (λ g takes. none_takes k none (suc g) g (omega arith) takes),
            (found.1, found.2, found.3),
            fits,
            omega (arith, a, c, few),
          ))))
          (λ (some : (g : ℕ) → g < S.extents → 0 < x.pointer g).
          (let there : 0 < x.pointer empty.0 = some empty.0 empty.1 in
          let nothing : x.pointer empty.0 ≡ 0 = empty_pointer x empty.0 empty.2 in absurd (omega arith)))
          (first_below x.pointer S.extents)

-- each piece has the size of a piece at most
chunk_fits : (most : ℕ) (cs : List (List ℕ)) → AllFullButLast most cs → (c : List ℕ) → c ∈ cs → length c ≤ most
chunk_fits most [] all c none = absurd none
chunk_fits most (c ∷ []) all d (inl is) = subst (λ (x : List ℕ). length x ≤ most) (sym is) all
chunk_fits most (c ∷ []) all d (inr none) = absurd none
chunk_fits most (b ∷ c ∷ cs) all d (inl is) = let full : length b ≡ most = all.0 in
    subst (λ (x : List ℕ). length x ≤ most) (sym is) (omega arith)
chunk_fits most (b ∷ c ∷ cs) all d (inr there) = chunk_fits most (c ∷ cs) all.2 d there

-- and fits on an extent with its head
heads_fit : (S : Shape) (F : Formats) (id number count command : ℕ) (pieces : List (List ℕ)) → ChunksFit S F
    → ((piece : List ℕ) → piece ∈ pieces → length piece ≤ S.chunk_bytes)
    → (c : List ℕ) → c ∈ headed F id number count command pieces → length (F.frame ChunkFrame c) ≤ S.pages
heads_fit S F id number count command [] fit short c none = absurd none
heads_fit S F id number count command (piece ∷ pieces) fit short c (inl is) =
    subst (λ (x : List ℕ). length (F.frame ChunkFrame x) ≤ S.pages) (sym is)
    (fit id number count command piece (short piece (inl refl)))
heads_fit S F id number count command (piece ∷ pieces) fit short c (inr there) =
    heads_fit S F id (suc number) count command pieces fit (λ p has. short p (inr has)) c there

module _ (S : Shape) (F : Formats) (shape : IsShape S) (format : IsFormat S F) (aside : ℕ → Bool) where
  more_chunks : (r : Room) (id k e : ℕ) → chunk_extents (with_chunk S r id k e) S.extents ≤ suc (chunk_extents r S.extents)
  more_chunks r id k e = count_more (λ d. is_of_chunks ((with_chunk S r id k e).holds d)) (λ d. is_of_chunks (r.holds d)) e
      S.extents (λ d lt on. elim (cases_eq d e) [
        | inl same ↦ inr same
        | inr other ↦ (let test : (d == e) ≡ false = ne_eqb d e other in
            inl (subst (λ (b : Bool). is_of_chunks (if b then OfChunks else r.holds d) ≡ true) test on))
      ])

  no_more_runs : (r : Room) (id k e : ℕ) → run_extents (with_chunk S r id k e) S.extents ≤ run_extents r S.extents
  no_more_runs r id k e = count_le (λ d. is_of_runs ((with_chunk S r id k e).holds d)) (λ d. is_of_runs (r.holds d)) S.extents
      (λ d lt on. go d (d == e) on)
    where
      go : (d : ℕ) (b : Bool) → is_of_runs (if b then OfChunks else r.holds d) ≡ true → is_of_runs (r.holds d) ≡ true
      go d true wrong = absurd (true≢false (sym wrong))
      go d false on = on

  pub up : (f : ℕ → ℕ) (e k d : ℕ) → 0 < f d → 0 < with f e (f e + k) d
  up f e k d some = elim (cases_eq d e) [
    | inl same ↦ (let is : with f e (f e + k) d ≡ f e + k = with_same f e (f e + k) d same in
        let at : f d ≡ f e = ap f same in omega arith)
    | inr other ↦ (let is : with f e (f e + k) d ≡ f d = with_other f e (f e + k) d other in omega arith)
  ]

  -- the chunks of a put are appended one after another
  pub put_fits : (w : World) (cs : List (List ℕ)) (r : Room) → AreExtentsOf S aside w.extents r
      → IsSwept S aside w.extents r.sweep → ((d : ℕ) → w.extents.swept d ≡ true → 0 < w.extents.pointer d)
      → chunk_extents r S.extents + S.run_extents + 2 ≤ S.extents + opened_by r.sweep
      → chunk_extents r S.extents + length cs + S.run_extents + 2 ≤ S.extents → run_extents r S.extents ≤ S.run_extents
      → ((c : List ℕ) → c ∈ cs → length (F.frame ChunkFrame c) ≤ S.pages)
      → (ls : List Locator) × (v : World) × AppendAllBy S true w ForPut (chunk_frames S F cs) ls v
  put_fits w [] r of held swept quota few runs fits = ([], w, refl)
  put_fits w (c ∷ cs) r of held swept quota few runs fits =
      let k : ℕ = length (F.frame ChunkFrame c) in
      let some : 0 < k = format.some_page ChunkFrame c in
      let goes = frame_goes S aside w.extents r of held k (fits c (inl refl)) (omega (arith, few)) runs in
      let one = append_there_by S true w ForPut (F.frame ChunkFrame c) goes.0 goes.1 in
      let a : AppendBy S true w ForPut (F.frame ChunkFrame c) one.0 one.1 = one.2 in
      let e : ℕ = a.extent in
      let at : IsPlace S aside w.extents r of held k e = place S aside w.extents r of held k e swept a.placed in
      let put : IsPut S aside w.extents r of held 0 k e = put_taken S aside w.extents r of held 0 k e some at quota in
      let extents : one.1.extents ≡ taken_by S true ForPut w.extents e k =
      after_extents_by S shape true w one.1 ForPut (F.frame ChunkFrame c) one.0 a in
      let marks : one.1.extents.swept ≡ w.extents.swept = ap (λ (y : Extents). y.swept) extents in
      let opened : one.1.extents.fresh ≡ w.extents.fresh = ap (λ (y : Extents). y.fresh) extents in
      let more : chunk_extents (with_chunk S r 0 k e) S.extents ≤ suc (chunk_extents r S.extents) = more_chunks r 0 k e in
      let fewer : run_extents (with_chunk S r 0 k e) S.extents ≤ run_extents r S.extents = no_more_runs r 0 k e in
      let rest = put_fits one.1 cs (with_chunk S r 0 k e)
      (subst (λ (y : Extents). AreExtentsOf S aside y (with_chunk S r 0 k e)) (sym extents) put.after)
      (record {
        alone = λ d is not. held.alone d (ap (λ (f : ℕ → Bool). f d) (sym marks) ∙ is) (λ there. not (opened ∙ there));
        left = λ d lt alone. (let was = held.left d lt alone in
            (ap (λ (f : ℕ → Bool). f d) marks ∙ was.0, λ is. was.1 (sym opened ∙ is)));
        aside_fresh = λ d is. opened ∙ held.aside_fresh d is;
        counts = ⊎_elim (λ (is : opened_by r.sweep ≡ one_if w.extents.fresh). inl (is ∙ ap one_if (sym opened)))
            (λ (out : (d : ℕ) × (w.extents.fresh ≡ Some d) × (aside d ≡ true)). inr (out.0, opened ∙ out.1, out.2))
            held.counts;
      })
      (λ d is. (let was : 0 < w.extents.pointer d = swept d (ap (λ (f : ℕ → Bool). f d) (sym marks) ∙ is) in
      subst (λ (y : Extents). 0 < y.pointer d) (sym extents) (up w.extents.pointer e k d was)))
      put.quota (omega (arith, few, more)) (omega (arith, runs, fewer)) (λ b there. fits b (inr there)) in
      (one.0 ∷ rest.0, rest.1, (one.1, a, rest.2))

module _ (S : Shape) (F : Formats) (shape : IsShape S) (format : IsFormat S F) (apart : S.apart ≡ true) where
  -- a put of n chunks isn't refused where n extents are left for puts
  pub put_not_full : (s : State) (r : Room) (id n : ℕ) (bytes : List ℕ) (cs : List (List ℕ)) → HasRoomNow S F s r → ChunksFit S F
      → chunk_extents r S.extents + n + S.run_extents + 2 ≤ S.extents → Chunked (S.piece_bytes (length bytes)) bytes cs → length cs ≤ n
      → Refuses S F s (Put id bytes) Full → ⊥
  put_not_full s r id n bytes cs has fit few chunked short (inl (a, wrong)) = let no : Full ≡ Halted = wrong in cc
  put_not_full s r id n bytes cs has fit few chunked short (inr (a, inl (b, wrong))) = let no : Full ≡ TooLarge = wrong in cc
  put_not_full s r id n bytes cs has fit few chunked short (inr (a, inr (b, inl (c, wrong)))) =
      let no : Full ≡ IndexFull = wrong in cc
  put_not_full s r id n bytes cs has fit few chunked short (inr (a, inr (b, inr (c, inr (d, inl (worn, wrong)))))) =
      let no : Full ≡ WornOut = wrong in cc
  put_not_full s r id n bytes cs has fit few chunked short (inr (a, inr (b, inr (c, inr (d, inr none))))) = none.1
  put_not_full s r id n bytes cs has fit few chunked short (inr (a, inr (b, inr (c, inl (nowhere, is))))) =
      let payloads : List (List ℕ) = headed F id 0 (length cs) (next_command s) cs in
      let many : length payloads ≡ length cs = length_heads F id 0 (length cs) (next_command s) cs in
      let done = put_fits S F shape format (is_aside S s) s.world payloads r has.room.extents
      (swept_of S s r.sweep (has.sound.apart apart).one_sweep has.room.sweep) (λ d on. (has.sound.swept d on).1)
      has.keeps.quotas.chunks (omega (arith, few, short, many)) has.keeps.quotas.runs
      (heads_fit S F id 0 (length cs) (next_command s) cs fit (λ piece there. le_trans (chunk_fits (S.piece_bytes (length bytes)) cs chunked.2 piece there) (shape.small_pieces (length bytes)))) in
      nowhere payloads done.0 (record s { world = done.1 }) (cs, chunked, refl)
      (subst (λ (b : Bool). AppendsChunksBy S F b s payloads done.0 (record s { world = done.1 })) (sym apart) (done.1, done.2, refl))
