-- Pages are given, and what lies right goes on lying right: puts and deletions.
use Rattle.std.proofs.Common.{◌≡◌, ◌≢◌, inl, inr, ⊎_elim, ℕ, ◌+◌, ◌<◌, ◌≤◌, ◌==◌, true, false, ◌&&◌, List, [], ◌∷◌, Option, Some, None, le_trans, refl, sym, ap, ◌∙◌, subst, arith}
use Rattle.std.specs.Prelude.{is_none}
use Rattle.std.proofs.lemmas.Bool.{and_left, cases_eq, eq-eqb, ne_eqb, or_from, true≢false}
use Rattle.law_machine.specs.Device.{Shape}
use Rattle.law_machine.specs.Lists.{◌∈◌}
use Rattle.law_room.specs.Events.{GoesForPut, LeftAlone, TakesPut, Writes, given, with_chunk}
use Rattle.law_room.specs.Invariant.{IsRoot, IsSweep, Keeps, LiesRight, SweepsRight}
use Rattle.law_room.specs.Rooms.{Chunk, Empty, Holding, OfChunks, OfRuns, Room, Root, Sweep, any_on, chunk_extents, copied_pages, is_at, is_of_chunks, is_of_runs, left_pages, live_pages, opened_by, run_extents, without}
use Rattle.law_room.proofs.Chunks.{any_not, in_without, none_on, sum_off, sum_on, sum_without}
use Rattle.law_room.proofs.Counts.{count_le, runs_is}

pub chunks_not_empty : OfChunks ≡ Empty → ⊥
chunks_not_empty is = true≢false (ap (λ (h : Holding). is_of_chunks h) is)

pub runs_not_empty : OfRuns ≡ Empty → ⊥
runs_not_empty is = true≢false (ap (λ (h : Holding). is_of_runs h) is)

pub chunks_not_runs : OfChunks ≡ OfRuns → ⊥
chunks_not_runs is = true≢false (ap (λ (h : Holding). is_of_chunks h) is)

module _ (s : Room) (e k : ℕ) (kind : Holding) where
  pub holds_here : (given s e k kind).holds e ≡ kind
  holds_here = let same : (e == e) ≡ true = eq-eqb e e refl in rw same

  pub holds_there : (d : ℕ) → d ≢ e → (given s e k kind).holds d ≡ s.holds d
  holds_there d not = let other : (d == e) ≡ false = ne_eqb d e not in rw other

  pub pointer_here : (given s e k kind).pointer e ≡ s.pointer e + k
  pointer_here = let same : (e == e) ≡ true = eq-eqb e e refl in rw same

  pub pointer_there : (d : ℕ) → d ≢ e → (given s e k kind).pointer d ≡ s.pointer d
  pointer_there d not = let other : (d == e) ≡ false = ne_eqb d e not in rw other

  -- an extent of this kind stays one
  pub kind_stays : (d : ℕ) → s.holds d ≡ kind → (given s e k kind).holds d ≡ kind
  kind_stays d is = elim (cases_eq d e) [
    | inl same ↦ subst (λ (x : ℕ). (given s e k kind).holds x ≡ kind) (sym same) holds_here
    | inr other ↦ holds_there d other ∙ is
  ]

  -- so does one of another kind, where the pages weren't given
  pub other_stays : (d : ℕ) (h : Holding) → s.holds d ≡ h → (s.holds e ≡ h → ⊥) → (given s e k kind).holds d ≡ h
  other_stays d h is not = holds_there d (λ same. not (ap s.holds (sym same) ∙ is)) ∙ is

  pub given_empty : (kind ≡ Empty → ⊥) → ((d : ℕ) → s.holds d ≡ Empty → s.pointer d ≡ 0) → (d : ℕ)
      → (given s e k kind).holds d ≡ Empty → (given s e k kind).pointer d ≡ 0
  given_empty some empty d is = elim (cases_eq d e) [
    | inl same ↦ absurd (some (sym holds_here
        ∙ subst (λ (x : ℕ). (given s e k kind).holds x ≡ Empty) same is))
    | inr other ↦ pointer_there d other ∙ empty d (sym (holds_there d other) ∙ is)
  ]

  pub given_fits : (E P : ℕ) → ((d : ℕ) → d < E → s.pointer d ≤ P) → s.pointer e + k ≤ P → (d : ℕ) → d < E
      → (given s e k kind).pointer d ≤ P
  given_fits E P fits here d lt = elim (cases_eq d e) [
    | inl same ↦ subst (λ (x : ℕ). (given s e k kind).pointer x ≤ P) (sym same) (rw pointer_here here)
    | inr other ↦ rw (pointer_there d other) (fits d lt)
  ]

  -- f: what takes pages. No more than k more of e are taken, and no more of any other
  pub given_covers : (E : ℕ) (f g : ℕ → ℕ) → ((d : ℕ) → d < E → f d ≤ s.pointer d) → g e ≤ f e + k
      → ((d : ℕ) → d ≢ e → g d ≤ f d) → (d : ℕ) → d < E → g d ≤ (given s e k kind).pointer d
  given_covers E f g covers here there d lt = elim (cases_eq d e) [
    | inl same ↦ subst (λ (x : ℕ). x < E → g x ≤ (given s e k kind).pointer x) (sym same)
        (λ l. rw pointer_here (let a : f e ≤ s.pointer e = covers e l in omega (arith, here))) lt
    | inr other ↦ rw (pointer_there d other) (le_trans (there d other) (covers d lt))
  ]

module _ (S : Shape) (J : ℕ) where
  -- all that the invariant says but the quota of chunks
  pub record Orderly (s : Room) : Type 0 where
    pub lies : LiesRight S J s
    pub sweeps : SweepsRight S J s s.sweep
    pub roots : (r : Root) → r ∈ s.roots → IsRoot S J r
    pub runs : run_extents s S.extents ≤ J

  pub orderly : (s : Room) → Keeps S J s → Orderly s
  orderly s keeps = record { lies = keeps.lies; sweeps = keeps.sweeps; roots = keeps.roots; runs = keeps.quotas.runs }

  -- where a put's frame may go
  record IsFine (s : Room) (k e : ℕ) : Type 0 where
    there : e < S.extents
    not_runs : s.holds e ≡ OfRuns → ⊥
    fits : s.pointer e + k ≤ S.pages
    alone : LeftAlone S s.sweep e

  fine_behind : (s : Room) (k e : ℕ) → TakesPut S s k e → IsFine s k e
  fine_behind s k e takes = record {
    there = takes.0.0;
    not_runs = λ is. chunks_not_runs (sym takes.0.1 ∙ is);
    fits = takes.0.2;
    alone = takes.1;
  }

  -- no sweep has to do with an empty extent
  pub empty_alone : (s : Room) (e : ℕ) → Orderly s → s.holds e ≡ Empty → LeftAlone S s.sweep e
  empty_alone s e keeps empty w is =
      let sweep : IsSweep S J s w = subst (λ (o : Option Sweep). SweepsRight S J s o) is keeps.sweeps in (
        (λ same. chunks_not_empty (sym sweep.swept.1 ∙ ap s.holds same ∙ empty)),
        (λ same. chunks_not_empty (sym (sweep.targets e (sweep.fresh e same).0).1 ∙ empty)),
      )

  fine : (s : Room) (k e : ℕ) → Orderly s → GoesForPut S s k e → IsFine s k e
  fine s k e keeps (inl on) = fine_behind s k e on.1
  fine s k e keeps (inr (inl behind)) = fine_behind s k e behind.1
  fine s k e keeps (inr (inr empty)) = record {
    there = empty.1.0;
    not_runs = λ is. runs_not_empty (sym is ∙ empty.1.1);
    fits = let none : s.pointer e ≡ 0 = keeps.lies.empty e empty.1.1 in
        let small : k ≤ S.pages = empty.1.2 in omega arith;
    alone = empty_alone s e keeps empty.1.1;
  }

  put_sweeps : (s : Room) (id k e : ℕ) (o : Option Sweep) → e < S.extents → (s.holds e ≡ OfRuns → ⊥)
      → LeftAlone S o e → SweepsRight S J s o → SweepsRight S J (with_chunk S s id k e) o
  put_sweeps s id k e None there not_runs alone none = λ c has_it. ⊎_elim
      (λ is. ap (λ (x : Chunk). x.copy) is) (λ more. none c more) has_it
  put_sweeps s id k e (Some w) there not_runs alone sweep = record {
    swept = (sweep.swept.0, kind_stays s e k OfChunks w.extent sweep.swept.1);
    targets = λ d has_it. let target = sweep.targets d has_it in
        (target.0, kind_stays s e k OfChunks d target.1, target.2);
    copies = λ c d has_it at. ⊎_elim
        (λ is. absurd (let wrong : None ≡ Some d = ap (λ (x : Chunk). x.copy) (sym is) ∙ at in cc))
        (λ more. sweep.copies c d more at) has_it;
    fresh = λ f at.
        let old = sweep.fresh f at in
        let apart : f ≢ e = (λ same. (alone w refl).1 (at ∙ ap (λ (x : ℕ). Some x) same)) in
        let behind : s.pointer f + left_pages s.chunks w.extent ≤ S.pages = old.3 in (
          old.0,
          old.1,
          or_from (e == f) (any_on s.chunks f) (ne_eqb e f (λ same. apart (sym same))) old.2,
          rw (pointer_there s e k OfChunks f apart) (le_trans (le_same s.chunks f w.extent
              (and_left (e == w.extent) true (ne_eqb e w.extent (λ same. (alone w refl).0 (sym same))))) behind),
        );
  }
    where
      le_same : (cs : List Chunk) (f x : ℕ) → ((e == x) && true) ≡ false
          → s.pointer f + left_pages (record { id = id; extent = e; pages = k; copy = None } ∷ cs) x
          ≤ s.pointer f + left_pages cs x
      le_same cs f x off = let same : left_pages (record { id = id; extent = e; pages = k; copy = None } ∷ cs) x
          ≡ left_pages cs x = sum_off (λ c. (c.extent == x) && is_none c.copy)
          (record { id = id; extent = e; pages = k; copy = None }) cs off in omega arith

  abbrev written : (id k e : ℕ) → Chunk
  written id k e = record { id = id; extent = e; pages = k; copy = None }

  pub put_one : (s : Room) (id k e : ℕ) → Orderly s → GoesForPut S s k e → Orderly (with_chunk S s id k e)
  put_one s id k e keeps goes = let ok : IsFine s k e = fine s k e keeps goes in record {
    lies = record {
      given = given_covers s e k OfChunks S.extents
          (λ d. live_pages s.chunks d + copied_pages s.chunks d)
          (λ d. live_pages (written id k e ∷ s.chunks) d + copied_pages (written id k e ∷ s.chunks) d) keeps.lies.given
          (let same : live_pages (written id k e ∷ s.chunks) e ≡ k + live_pages s.chunks e = sum_on (λ c. c.extent == e) (written id k e)
          s.chunks (eq-eqb e e refl) in omega arith)
          (λ d other. let same : live_pages (written id k e ∷ s.chunks) d ≡ live_pages s.chunks d = sum_off (λ c. c.extent == d)
          (written id k e) s.chunks (ne_eqb e d (λ is. other (sym is))) in omega arith);
      fits = given_fits s e k OfChunks S.extents S.pages keeps.lies.fits ok.fits;
      empty = given_empty s e k OfChunks chunks_not_empty keeps.lies.empty;
      chunks = λ c has_it. ⊎_elim
          (λ is. subst (λ (x : Chunk). (x.extent < S.extents) × ((given s e k OfChunks).holds x.extent ≡ OfChunks))
          (sym is) (ok.there, holds_here s e k OfChunks))
          (λ more. let old = keeps.lies.chunks c more in (old.0, kind_stays s e k OfChunks c.extent old.1)) has_it;
      runs = λ d has_it. let old = keeps.lies.runs d has_it in
          (old.0, other_stays s e k OfChunks d OfRuns old.1 ok.not_runs);
    };
    sweeps = put_sweeps s id k e s.sweep ok.there ok.not_runs ok.alone keeps.sweeps;
    roots = keeps.roots;
    runs = le_trans (count_le (λ d. is_of_runs ((given s e k OfChunks).holds d)) (λ d. is_of_runs (s.holds d)) S.extents
        (λ d lt on. elim (cases_eq d e) [
          | inl same ↦ absurd (chunks_not_runs (sym (subst
              (λ (x : ℕ). (given s e k OfChunks).holds x ≡ OfChunks) (sym same) (holds_here s e k OfChunks))
              ∙ runs_is ((given s e k OfChunks).holds d) on))
          | inr other ↦ ap (λ (h : Holding). is_of_runs h) (sym (holds_there s e k OfChunks d other)) ∙ on
        ])) keeps.runs;
  }

  drop_sweeps : (s : Room) (id : ℕ) (o : Option Sweep) → SweepsRight S J s o
      → SweepsRight S J (record s { chunks = without id s.chunks; rooted = false }) o
  drop_sweeps s id None none = λ c has_it. none c (in_without id s.chunks c has_it)
  drop_sweeps s id (Some w) sweep = record {
    swept = sweep.swept;
    targets = sweep.targets;
    copies = λ c e has_it. sweep.copies c e (in_without id s.chunks c has_it);
    fresh = λ f at.
        let old = sweep.fresh f at in
        let behind : s.pointer f + left_pages s.chunks w.extent ≤ S.pages = old.3 in
        let less : left_pages (without id s.chunks) w.extent ≤ left_pages s.chunks w.extent =
        sum_without (λ c. (c.extent == w.extent) && is_none c.copy) id s.chunks in (
          old.0,
          old.1,
          none_on (without id s.chunks) f
              (λ c has_it. any_not s.chunks f old.2 c (in_without id s.chunks c has_it)),
          omega arith,
        );
  }

  -- the chunks of an identifier don't live any more
  pub drop_one : (s : Room) (id : ℕ) → Orderly s → Orderly (record s { chunks = without id s.chunks; rooted = false })
  drop_one s id keeps = record {
    lies = record {
      given = λ e lt.
          let old : live_pages s.chunks e + copied_pages s.chunks e ≤ s.pointer e = keeps.lies.given e lt in
          let a : live_pages (without id s.chunks) e ≤ live_pages s.chunks e = sum_without (λ c. c.extent == e) id
          s.chunks in
          let b : copied_pages (without id s.chunks) e ≤ copied_pages s.chunks e = sum_without (λ c. is_at c.copy e) id
          s.chunks in omega arith;
      fits = keeps.lies.fits;
      empty = keeps.lies.empty;
      chunks = λ c has_it. keeps.lies.chunks c (in_without id s.chunks c has_it);
      runs = keeps.lies.runs;
    };
    sweeps = drop_sweeps s id s.sweep keeps.sweeps;
    roots = keeps.roots;
    runs = keeps.runs;
  }

  pub delete_keeps : (s : Room) (id : ℕ) → Keeps S J s
      → Keeps S J (record s { chunks = without id s.chunks; rooted = false })
  delete_keeps s id keeps = let after : Orderly (record s { chunks = without id s.chunks; rooted = false }) = drop_one s
      id (orderly s keeps) in record {
        quotas = record { chunks = keeps.quotas.chunks; runs = keeps.quotas.runs };
        lies = after.lies;
        sweeps = after.sweeps;
        roots = after.roots;
      }

  pub write_all : (s : Room) (id : ℕ) (sizes : List ℕ) (t : Room) → Orderly s → Writes S s id sizes t
      → Orderly t × (t.sweep ≡ s.sweep)
  write_all s id [] t keeps is = rw is (keeps, refl)
  write_all s id (k ∷ ks) t keeps writes =
      write_all (with_chunk S s id k writes.0) id ks t (put_one s id k writes.0 keeps writes.1) writes.2

  pub put_keeps : (s t : Room) (id : ℕ) (sizes : List ℕ) → Keeps S J s
      → Writes S (record s { chunks = without id s.chunks; rooted = false }) id sizes t
      → chunk_extents t S.extents + J + 2 ≤ S.extents + opened_by s.sweep → Keeps S J t
  put_keeps s t id sizes keeps writes few =
      let after = write_all (record s { chunks = without id s.chunks; rooted = false }) id sizes t
      (drop_one s id (orderly s keeps)) writes in
      let same : opened_by t.sweep ≡ opened_by s.sweep = ap opened_by after.1 in record {
        quotas = record { chunks = omega arith; runs = after.0.runs };
        lies = after.0.lies;
        sweeps = after.0.sweeps;
        roots = after.0.roots;
      }
