-- A sweep begins or is given up, a round ends, and a store is opened.
use Rattle.std.proofs.Common.{◌≡◌, inl, inr, ⊎_elim, ℕ, zero, suc, ◌+◌, ◌<◌, ◌≤◌, ◌==◌, Bool, true, false, ◌||◌, List, [], ◌∷◌, map, take, Option, Some, None, le_trans, refl, sym, ap, ◌∙◌, subst, arith}
use Rattle.std.proofs.lemmas.Bool.{cases_Bool, eq-eqb, ne_eqb, or_left, true≢false}
use Rattle.law_machine.specs.Device.{Shape}
use Rattle.law_machine.specs.Lists.{◌∈◌}
use Rattle.law_room.specs.Events.{abandoned, forget, found_holding, opened, unless}
use Rattle.law_room.specs.Invariant.{IsRoot, IsSweep, Keeps, LiesRight, SweepsRight}
use Rattle.law_room.specs.Rooms.{Chunk, Empty, OfChunks, Room, Root, Sweep, any_on, chunk_extents, copied_pages, has, how_many, is_at, is_named, is_of_chunks, is_of_runs, live_pages, one_if, opened_by}
use Rattle.law_room.proofs.Chunks.{any_not, any_of, any_there, forget_copied, forget_live, has_there, in_forgotten, none_live}
use Rattle.law_room.proofs.Counts.{count_le}
use Rattle.law_room.proofs.Given.{chunks_not_empty, chunks_not_runs, runs_not_empty}
use Rattle.law_room.proofs.Places.{sweep_of}
use Rattle.law_room.proofs.Resets.{IsUnused, fewer_chunks, fewer_runs, one_fewer, reset_lies}

in_taken : (n : ℕ) (rs : List Root) (r : Root) → r ∈ take n rs → r ∈ rs
in_taken zero rs r none = absurd none
in_taken (suc n) [] r none = none
in_taken (suc n) (x ∷ rs) r (inl is) = inl is
in_taken (suc n) (x ∷ rs) r (inr there) = inr (in_taken n rs r there)

module _ (S : Shape) (J : ℕ) where
  pub begin_keeps : (s : Room) (e : ℕ) → Keeps S J s → s.sweep ≡ None → e < S.extents → s.holds e ≡ OfChunks
      → Keeps S J (record s {
        sweep = Some (record { extent = e; fresh = None; targets = [] });
        open_extent = unless (λ d. d == e) s.open_extent;
        last = unless (λ d. d == e) s.last;
      })
  begin_keeps s e keeps none lt is =
      let quota : chunk_extents s S.extents + J + 2 ≤ S.extents + opened_by s.sweep = keeps.quotas.chunks in
      let no_fresh : opened_by s.sweep ≡ 0 = ap opened_by none in
      let uncopied : SweepsRight S J s None = subst (λ (o : Option Sweep). SweepsRight S J s o) none keeps.sweeps in
      record {
        quotas = record { chunks = omega arith; runs = keeps.quotas.runs };
        lies = record {
          given = keeps.lies.given;
          fits = keeps.lies.fits;
          empty = keeps.lies.empty;
          chunks = keeps.lies.chunks;
          runs = keeps.lies.runs;
        };
        sweeps = record {
          swept = (lt, is);
          targets = λ d got. absurd got;
          copies = λ c d got at. absurd (let wrong : None ≡ Some d = sym (uncopied c got) ∙ at in cc);
          fresh = λ f at. absurd (let wrong : None ≡ Some f = at in cc);
        };
        roots = keeps.roots;
      }

  pub end_keeps : (s : Room) (waiting : ℕ) → Keeps S J s → Keeps S J (record s { roots = take (suc waiting) s.roots })
  end_keeps s waiting keeps = record {
    quotas = record { chunks = keeps.quotas.chunks; runs = keeps.quotas.runs };
    lies = record {
      given = keeps.lies.given;
      fits = keeps.lies.fits;
      empty = keeps.lies.empty;
      chunks = keeps.lies.chunks;
      runs = keeps.lies.runs;
    };
    sweeps = again s.sweep keeps.sweeps;
    roots = λ r got. keeps.roots r (in_taken (suc waiting) s.roots r got);
  }
    where
      again : (o : Option Sweep) → SweepsRight S J s o
          → SweepsRight S J (record s { roots = take (suc waiting) s.roots }) o
      again None none = none
      again (Some w) sweep = record {
        swept = sweep.swept;
        targets = sweep.targets;
        copies = sweep.copies;
        fresh = sweep.fresh;
      }

  -- the state in which copies are forgotten
  abbrev forgotten : Room → Room
  forgotten s = record s { chunks = map forget s.chunks; sweep = None }

  forgotten_lies : (s : Room) → LiesRight S J s → LiesRight S J (forgotten s)
  forgotten_lies s lies = record {
    given = λ e lt.
        let a : live_pages (map forget s.chunks) e ≡ live_pages s.chunks e = forget_live s.chunks e in
        let b : copied_pages (map forget s.chunks) e ≡ 0 = forget_copied s.chunks e in
        let all : live_pages s.chunks e + copied_pages s.chunks e ≤ s.pointer e = lies.given e lt in omega arith;
    fits = lies.fits;
    empty = lies.empty;
    chunks = λ x got. let found = in_forgotten s.chunks x got in
        subst (λ (y : Chunk). (y.extent < S.extents) × (s.holds y.extent ≡ OfChunks)) (sym found.2)
        (lies.chunks found.0 found.1);
    runs = lies.runs;
  }

  uncopied : (cs : List Chunk) (x : Chunk) → x ∈ map forget cs → x.copy ≡ None
  uncopied cs x got = let found = in_forgotten cs x got in ap (λ (y : Chunk). y.copy) found.2

  fresh_is_unused : (s : Room) (w : Sweep) (o : Option ℕ) → Keeps S J s → IsSweep S J s w → w.fresh ≡ o
      → IsUnused (forgotten s) (is_at o)
  fresh_is_unused s w None keeps sweep at = record {
    chunks = λ c got. refl;
    copies = λ c e got is. refl;
    runs = λ e got. refl;
    sweeps = λ v is. absurd (let wrong : None ≡ Some v = is in cc);
  }
  fresh_is_unused s w (Some f) keeps sweep at = let fresh = sweep.fresh f at in record {
    chunks = λ x got. let found = in_forgotten s.chunks x got in
        subst (λ (y : Chunk). (f == y.extent) ≡ false) (sym found.2)
        (ne_eqb f found.0.extent (λ same. any_not s.chunks f fresh.2 found.0 found.1 (sym same)));
    copies = λ x e got is. absurd (let wrong : None ≡ Some e = sym (uncopied s.chunks x got) ∙ is in cc);
    runs = λ e got. ne_eqb f e (λ same. chunks_not_runs (sym (sweep.targets f fresh.0).1 ∙ ap s.holds same
        ∙ (keeps.lies.runs e got).1));
    sweeps = λ v is. absurd (let wrong : None ≡ Some v = is in cc);
  }

  fresh_given_back : (s : Room) (w : Sweep) (o : Option ℕ) → Keeps S J s → IsSweep S J s w → w.fresh ≡ o
      → chunk_extents (abandoned s o) S.extents + one_if o ≤ chunk_extents s S.extents
  fresh_given_back s w None keeps sweep at =
      let less : chunk_extents (abandoned s None) S.extents ≤ chunk_extents (forgotten s) S.extents = fewer_chunks
      (forgotten s) (is_at None) S.extents in omega arith
  fresh_given_back s w (Some f) keeps sweep at = let target = sweep.targets f (sweep.fresh f at).0 in
      let less : chunk_extents (abandoned s (Some f)) S.extents < chunk_extents (forgotten s) S.extents = one_fewer
      (forgotten s) (is_at (Some f)) f S.extents target.0 target.1 (eq-eqb f f refl) in omega arith

  pub abandon_keeps : (s : Room) (w : Sweep) → Keeps S J s → s.sweep ≡ Some w → Keeps S J (abandoned s w.fresh)
  abandon_keeps s w keeps is =
      let sweep : IsSweep S J s w = sweep_of S J s w keeps is in
      let quota : chunk_extents s S.extents + J + 2 ≤ S.extents + opened_by s.sweep = keeps.quotas.chunks in
      let old : opened_by s.sweep ≡ one_if w.fresh = ap opened_by is in
      let less : chunk_extents (abandoned s w.fresh) S.extents + one_if w.fresh ≤ chunk_extents s S.extents =
      fresh_given_back s w w.fresh keeps sweep refl in record {
        quotas = record {
          chunks = omega arith;
          runs = le_trans (fewer_runs (forgotten s) (is_at w.fresh) S.extents) keeps.quotas.runs;
        };
        lies = reset_lies S J (forgotten s) (is_at w.fresh) (fresh_is_unused s w w.fresh keeps sweep refl)
            (forgotten_lies s keeps.lies);
        sweeps = uncopied s.chunks;
        roots = keeps.roots;
      }

  -- what lies on an extent at an opening
  found_chunks : (a b : Bool) → is_of_chunks (found_holding a b) ≡ true → a ≡ true
  found_chunks true b is = refl
  found_chunks false true is = absurd (true≢false (sym is))
  found_chunks false false is = absurd (true≢false (sym is))

  found_runs : (a b : Bool) → is_of_runs (found_holding a b) ≡ true → b ≡ true
  found_runs true b is = absurd (true≢false (sym is))
  found_runs false true is = refl
  found_runs false false is = absurd (true≢false (sym is))

  pub found_empty : (a b : Bool) → found_holding a b ≡ Empty → (a || b) ≡ false
  found_empty true b is = absurd (chunks_not_empty is)
  found_empty false true is = absurd (runs_not_empty is)
  found_empty false false is = refl

  pub open_keeps : (s : Room) (r : Root) (found : ℕ → ℕ) → Keeps S J s → r ∈ s.roots
      → ((e : ℕ) → e < S.extents → found e ≤ S.pages) → ((e : ℕ) → is_named r e ≡ true → r.pointers e ≤ found e)
      → Keeps S J (opened r found)
  open_keeps s r found keeps got fits covers = let root : IsRoot S J r = keeps.roots r got in record {
    quotas = record {
      chunks = le_trans (few root) (omega arith);
      runs = le_trans (count_le (λ e. is_of_runs ((opened r found).holds e)) (has r.runs) S.extents
          (λ e lt on. found_runs (any_on r.chunks e) (has r.runs e) on)) root.few_runs;
    };
    lies = record {
      given = λ e lt.
          let a : live_pages (map forget r.chunks) e ≡ live_pages r.chunks e = forget_live r.chunks e in
          let b : copied_pages (map forget r.chunks) e ≡ 0 = forget_copied r.chunks e in
          elim (cases_Bool (any_on r.chunks e)) [
            | inl on ↦ (let named : is_named r e ≡ true = or_left (any_on r.chunks e) (has r.runs e) on in
                let all : live_pages r.chunks e ≤ r.pointers e = root.given e lt in
                let more : r.pointers e ≤ found e = covers e named in
                rw named (omega arith))
            | inr off ↦ (let none : live_pages r.chunks e ≡ 0 = none_live r.chunks e off in omega arith)
          ];
      fits = λ e lt. elim (cases_Bool (is_named r e)) [
        | inl on ↦ rw on (fits e lt)
        | inr off ↦ rw off (omega arith)
      ];
      empty = λ e is. let off : is_named r e ≡ false = found_empty (any_on r.chunks e) (has r.runs e) is in rw off;
      chunks = λ x in_it. let old = in_forgotten r.chunks x in_it in
          subst (λ (y : Chunk). (y.extent < S.extents) × ((opened r found).holds y.extent ≡ OfChunks)) (sym old.2) (
            root.chunks_there old.0 old.1,
            ap (λ (b : Bool). found_holding b (has r.runs old.0.extent)) (any_there r.chunks old.0 old.1),
          );
      runs = λ e in_it. (
        root.runs_there e in_it,
        ap (λ (b : Bool). found_holding (any_on r.chunks e) b)
            (has_there r.runs e in_it) ∙ ap (λ (b : Bool). found_holding b true) (no_chunk root e in_it),
      );
    };
    sweeps = uncopied r.chunks;
    roots = λ x in_it. ⊎_elim (λ is. subst (λ (y : Root). IsRoot S J y) (sym is) root) (λ none. absurd none) in_it;
  }
    where
      few : IsRoot S J r → chunk_extents (opened r found) S.extents + J + 2 ≤ S.extents
      few root =
          let less : chunk_extents (opened r found) S.extents ≤ how_many (any_on r.chunks) S.extents = count_le
          (λ e. is_of_chunks ((opened r found).holds e)) (any_on r.chunks) S.extents
          (λ e lt on. found_chunks (any_on r.chunks e) (has r.runs e) on) in
          let all : how_many (any_on r.chunks) S.extents + J + 2 ≤ S.extents = root.few_chunks in omega arith

      no_chunk : IsRoot S J r → (e : ℕ) → e ∈ r.runs → any_on r.chunks e ≡ false
      no_chunk root e in_it = elim (cases_Bool (any_on r.chunks e)) [
        | inl on ↦ absurd (let c = any_of r.chunks e on in true≢false (sym (has_there r.runs e in_it)
            ∙ subst (λ (x : ℕ). has r.runs x ≡ false) c.2 (root.apart c.0 c.1)))
        | inr off ↦ off
      ]
