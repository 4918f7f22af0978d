-- What sweeps of two extents gain.
use Rattle.std.proofs.Common.{◌≡◌, ◌≢◌, ◌⊎◌, inl, inr, ⊎_elim, ℕ, ◌+◌, ◌<◌, ◌≤◌, true, false, List, map, Option, Some, None, refl, sym, ap, ◌∙◌, subst, arith}
use Rattle.std.proofs.lemmas.Bool.{cases_Bool}
use Rattle.law_machine.specs.Device.{Shape}
use Rattle.law_machine.specs.Lists.{◌∈◌}
use Rattle.law_room.specs.Events.{settle, settled, with_copy}
use Rattle.law_room.specs.Invariant.{IsSweep, Keeps, SweepsRight}
use Rattle.law_room.specs.Rooms.{Chunk, Empty, Holding, OfChunks, Room, Sweep, any_on, chunk_extents, copied_pages, how_many, is_at, is_of_chunks, left_pages, live_pages, one_if}
use Rattle.law_room.specs.Sweeps.{IsChunkExtent, IsSwept}
use Rattle.law_room.proofs.Chunks.{any_of, left_le, settle_live, sum_none}
use Rattle.law_room.proofs.Counts.{count_two}
use Rattle.law_room.proofs.Gaining.{IsKept, IsSweptWith, no_more, single, swept_keeps, swept_with}
use Rattle.law_room.proofs.Given.{chunks_not_empty, kind_stays, pointer_here}
use Rattle.law_room.proofs.Moving.{fresh_fits, fresh_from, left_before, moved_at_most, moved_live, moved_there}
use Rattle.law_room.proofs.Places.{sweep_of}
use Rattle.law_room.proofs.Retiring.{any_holds}

module _ (S : Shape) (J : ℕ) where
  -- what lives on b, the copies there and all that is left fit on one extent, and so they do behind the extent that the
  -- sweep opened
  record FitWith (b most : ℕ) (s : Room) (w : Sweep) : Type 0 where
    chunks : s.holds b ≡ OfChunks
    all : live_pages s.chunks b + copied_pages s.chunks b + left_pages s.chunks w.extent ≤ most
    fresh : (f : ℕ) → w.fresh ≡ Some f → (f ≢ b)
        × (s.pointer f + (live_pages s.chunks b + copied_pages s.chunks b) + left_pages s.chunks w.extent ≤ most)

  fit_with : (b most : ℕ) → IsKept S J (FitWith b most)
  fit_with b most s w before c behind e fresh keeps is copied fits =
      let t : Room = with_copy S s w before c behind e fresh in
      let parts : left_pages s.chunks w.extent ≡ c.pages + left_pages t.chunks w.extent = left_before S J s w before c
      behind e fresh keeps is copied in
      let live : live_pages t.chunks b ≡ live_pages s.chunks b = moved_live S J s w before c behind e fresh keeps is
      copied b in
      let more : copied_pages t.chunks b ≤ c.pages + copied_pages s.chunks b = moved_at_most S J s w before c behind e
      fresh keeps is copied b in
      let old : live_pages s.chunks b + copied_pages s.chunks b + left_pages s.chunks w.extent ≤ most = fits.all in
      record {
        chunks = kind_stays s e c.pages OfChunks b fits.chunks;
        all = omega arith;
        fresh = λ f at. behind_fresh f (fresh_fits S J s w before c behind e fresh keeps is copied f at).0
            (fresh_from S J s w before c behind e fresh keeps is copied f at);
      }
    where
      apart : (f : ℕ) → f ≡ e → (w.fresh ≡ Some f) ⊎ (s.holds e ≡ Empty) → f ≢ b
      apart f same (inl opened) = (fits.fresh f opened).0
      apart f same (inr empty) = λ is_b. chunks_not_empty (sym fits.chunks ∙ ap s.holds (sym is_b ∙ same) ∙ empty)

      behind_fresh : (f : ℕ) → f ≡ e → (w.fresh ≡ Some f) ⊎ (s.holds e ≡ Empty) → (f ≢ b)
          × ((with_copy S s w before c behind e fresh).pointer f
          + (live_pages (with_copy S s w before c behind e fresh).chunks b
          + copied_pages (with_copy S s w before c behind e fresh).chunks b)
          + left_pages (with_copy S s w before c behind e fresh).chunks w.extent ≤ most)
      behind_fresh f same from =
          let parts : left_pages s.chunks w.extent
          ≡ c.pages + left_pages (with_copy S s w before c behind e fresh).chunks w.extent = left_before S J s w before
          c behind e fresh keeps is copied in
          let live : live_pages (with_copy S s w before c behind e fresh).chunks b ≡ live_pages s.chunks b = moved_live
          S J s w before c behind e fresh keeps is copied b in
          let copies : copied_pages (with_copy S s w before c behind e fresh).chunks b ≡ copied_pages s.chunks b =
          moved_there S J s w before c behind e fresh keeps is copied b
          (λ is_b. apart f same from (same ∙ sym is_b)) in (
            apart f same from,
            subst (λ (x : ℕ). (with_copy S s w before c behind e fresh).pointer x
                + (live_pages (with_copy S s w before c behind e fresh).chunks b
                + copied_pages (with_copy S s w before c behind e fresh).chunks b)
                + left_pages (with_copy S s w before c behind e fresh).chunks w.extent ≤ most) (sym same)
                (rw (pointer_here s e c.pages OfChunks) (⊎_elim
                (λ opened. let old : s.pointer f + (live_pages s.chunks b + copied_pages s.chunks b)
                + left_pages s.chunks w.extent ≤ most = (fits.fresh f opened).1 in
                let at : s.pointer f ≡ s.pointer e = ap s.pointer same in omega arith)
                (λ empty. let none : s.pointer e ≡ 0 = keeps.lies.empty e empty in
                let old : live_pages s.chunks b + copied_pages s.chunks b + left_pages s.chunks w.extent ≤ most = fits.all in
                omega arith)
                from)),
          )

  -- what held chunks before the Retire, and where nothing lies after it, is given back with the swept extent
  two_gone : (Q : Room → Sweep → Type 0) (s t : Room) (a p : ℕ) (all : IsSweptWith S J Q s a t) → p < S.extents
      → all.moved.holds p ≡ OfChunks → p ≢ a → any_on (map settle all.moved.chunks) p ≡ false
      → chunk_extents t S.extents + 2 ≤ chunk_extents all.moved S.extents
  two_gone Q s t a p all lt is apart off =
      let m : Room = all.moved in
      let swept = (sweep_of S J m all.moves.sweep all.moves.keeps all.moves.is).swept in
      let two : how_many (any_on (map settle m.chunks)) S.extents + 2 ≤ chunk_extents m S.extents = count_two
      (any_on (map settle m.chunks)) (λ e. is_of_chunks (m.holds e)) a p S.extents
      (subst (λ (x : ℕ). x < S.extents) all.moves.extent swept.0) lt (λ same. apart (sym same)) all.nothing off
      (ap (λ (h : Holding). is_of_chunks h) (subst (λ (x : ℕ). m.holds x ≡ OfChunks) all.moves.extent swept.1))
      (ap (λ (h : Holding). is_of_chunks h) is)
      (λ e l on. any_holds S J (settled m) all.lies e on) in
      let fewer : chunk_extents t S.extents ≤ how_many (any_on (map settle m.chunks)) S.extents = all.fewer in omega arith

  still_there : (Q : Room → Sweep → Type 0) (s t : Room) (a p : ℕ) (all : IsSweptWith S J Q s a t)
      → any_on (map settle all.moved.chunks) p ≡ true → t.holds p ≡ OfChunks
  still_there Q s t a p all on = let found = any_of (map settle all.moved.chunks) p on in
      subst (λ (x : ℕ). t.holds x ≡ OfChunks) found.2 (all.keeps.lies.chunks found.0
      (subst (λ (cs : List Chunk). found.0 ∈ cs) (sym all.staged.chunks) found.1)).1

  abbrev both : Room → (a b : ℕ) → ℕ
  both s a b = live_pages s.chunks a + live_pages s.chunks b

  nothing : {A : Type 0} (x : A) → None ≡ Some x → ⊥
  nothing x is = cc

  no_copies : (s : Room) (b : ℕ) → Keeps S J s → s.sweep ≡ None → copied_pages s.chunks b ≡ 0
  no_copies s b keeps is = let none : SweepsRight S J s None = subst (λ (o : Option Sweep). SweepsRight S J s o) is
      keeps.sweeps in
      sum_none (λ c. is_at c.copy b) s.chunks (λ c has_it. ap (λ (o : Option ℕ). is_at o b) (none c has_it))

  pair_swept : (s t : Room) (a b : ℕ) → 1 ≤ J → Keeps S J s → IsChunkExtent S J s b → IsSwept S J s a t
      → IsSweptWith S J (FitWith b (both s a b)) s a t
  pair_swept s t a b some keeps chunks swept =
      let none : copied_pages s.chunks b ≡ 0 = no_copies s b keeps swept.begins.0 in
      let small : left_pages s.chunks a ≤ live_pages s.chunks a = left_le s.chunks a in
      swept_with S J (FitWith b (both s a b)) (fit_with b (both s a b)) s t a some keeps (record {
        chunks = chunks.1;
        all = omega arith;
        fresh = λ f at. absurd (nothing f at);
      }) swept

  -- all that lives on b fits behind the extent to which the last copy went, which is another one
  pub record FitsBehindLast (t : Room) (b : ℕ) : Type 0 where
    pub place : ℕ
    pub last : t.last ≡ Some place
    pub chunks : IsChunkExtent S J t place
    pub apart : place ≢ b
    pub fits : t.pointer place + live_pages t.chunks b ≤ S.pages

  -- f: the extent that the first sweep opened
  behind_last : (s t : Room) (a b f : ℕ) → both s a b ≤ S.pages → (all : IsSweptWith S J (FitWith b (both s a b)) s a t)
      → all.moves.sweep.fresh ≡ Some f → t.holds f ≡ OfChunks → FitsBehindLast t b
  behind_last s t a b f fits all at there =
      let m : Room = all.moved in
      let sweep : IsSweep S J m all.moves.sweep = sweep_of S J m all.moves.sweep all.moves.keeps all.moves.is in
      let fresh = sweep.fresh f at in
      let target = sweep.targets f fresh.0 in
      let fit = all.moves.kept.0.fresh f at in
      let room : m.pointer f + (live_pages m.chunks b + copied_pages m.chunks b)
      + left_pages m.chunks all.moves.sweep.extent ≤ both s a b = fit.1 in
      let live : live_pages (map settle m.chunks) b ≤ live_pages m.chunks b + copied_pages m.chunks b = settle_live
      m.chunks b in
      let same : live_pages t.chunks b ≡ live_pages (map settle m.chunks) b = ap (λ (cs : List Chunk). live_pages cs b)
      all.staged.chunks in
      ⊎_elim
      (λ kept. let pointer : t.pointer f ≡ m.pointer f = kept.1 in record {
        place = f;
        last = kept.2 fresh.1;
        chunks = (target.0, there);
        apart = fit.0;
        fits = omega arith;
      })
      (λ gone. absurd (gone there))
      (all.staged.kept f target.1)

  -- a sweep of two extents' first gives an extent; or all that lives on the second fits behind the last copy then
  pub first_or_behind : (s t : Room) (a b : ℕ) → 1 ≤ J → Keeps S J s → a ≢ b → IsChunkExtent S J s b
      → live_pages s.chunks a + live_pages s.chunks b ≤ S.pages → IsSwept S J s a t
      → (chunk_extents t S.extents < chunk_extents s S.extents) ⊎ (IsChunkExtent S J t b × FitsBehindLast t b)
  first_or_behind s t a b some keeps apart chunks fits swept = by_fresh (pair_swept s t a b some keeps chunks swept)
      _ refl
    where
      by_fresh : (all : IsSweptWith S J (FitWith b (both s a b)) s a t)
          → (o : Option ℕ) → all.moves.sweep.fresh ≡ o
          → (chunk_extents t S.extents < chunk_extents s S.extents) ⊎ (IsChunkExtent S J t b × FitsBehindLast t b)
      by_fresh all None at =
          let a1 : chunk_extents t S.extents ≤ how_many (any_on (map settle all.moved.chunks)) S.extents = all.fewer in
          let a2 : how_many (any_on (map settle all.moved.chunks)) S.extents < chunk_extents all.moved S.extents =
          all.less in
          let a3 : chunk_extents all.moved S.extents ≤ chunk_extents s S.extents + one_if all.moves.sweep.fresh =
          all.moves.kept.1 in
          let none : one_if all.moves.sweep.fresh ≡ 0 = ap one_if at in inl (omega arith)
      by_fresh all (Some f) at =
          let m : Room = all.moved in
          let sweep : IsSweep S J m all.moves.sweep = sweep_of S J m all.moves.sweep all.moves.keeps all.moves.is in
          let fresh = sweep.fresh f at in
          let target = sweep.targets f fresh.0 in
          let f_a : f ≢ a = (λ same. target.2 (same ∙ sym all.moves.extent)) in
          let a3 : chunk_extents m S.extents ≤ chunk_extents s S.extents + one_if all.moves.sweep.fresh =
          all.moves.kept.1 in
          let one : one_if all.moves.sweep.fresh ≡ 1 = ap one_if at in
          let fit = all.moves.kept.0 in
          elim (cases_Bool (any_on (map settle m.chunks) f)) [
            | inr off ↦ inl (let two : chunk_extents t S.extents + 2 ≤ chunk_extents m S.extents = two_gone _ s t a f
                all target.0 target.1 f_a off in omega arith)
            | inl on ↦ elim (cases_Bool (any_on (map settle m.chunks) b)) [
              | inr off ↦ inl (let two : chunk_extents t S.extents + 2 ≤ chunk_extents m S.extents = two_gone _ s t a b
                  all chunks.0 fit.chunks (λ same. apart (sym same)) off in omega arith)
              | inl there ↦ inr (
                (chunks.0, still_there _ s t a b all there),
                behind_last s t a b f fits all at (still_there _ s t a f all on),
              )
            ]
          ]

  -- then a sweep of any other extent on which no more lives gives one
  pub then_gains : (s t u : Room) (a b c : ℕ) → 1 ≤ J → Keeps S J s → IsSwept S J s a t → (behind : FitsBehindLast t b)
      → behind.place ≢ c → live_pages t.chunks c ≤ live_pages t.chunks b → IsSwept S J t c u
      → chunk_extents u S.extents < chunk_extents s S.extents
  then_gains s t u a b c some keeps first behind apart few swept =
      let fits : t.pointer behind.place + live_pages t.chunks b ≤ S.pages = behind.fits in
      let gained : chunk_extents u S.extents < chunk_extents t S.extents = single S J t u behind.place c some
      (swept_keeps S J s t a some keeps first) behind.last behind.chunks apart (omega arith) swept in
      let less : chunk_extents t S.extents ≤ chunk_extents s S.extents = no_more S J s t a some keeps first in omega arith

  pub pair : (s t : Room) (a b : ℕ) → 1 ≤ J → Keeps S J s → a ≢ b → IsChunkExtent S J s b
      → live_pages s.chunks a + live_pages s.chunks b ≤ S.pages → IsSwept S J s a t
      → (chunk_extents t S.extents < chunk_extents s S.extents)
      ⊎ (IsChunkExtent S J t b × ((u : Room) → IsSwept S J t b u
      → chunk_extents u S.extents < chunk_extents s S.extents))
  pair s t a b some keeps apart chunks fits swept = ⊎_elim (λ less. inl less)
      (λ second. inr (
        second.0,
        (λ u again. then_gains s t u a b b some keeps swept second.1 second.1.apart (omega arith) again),
      ))
      (first_or_behind s t a b some keeps apart chunks fits swept)
