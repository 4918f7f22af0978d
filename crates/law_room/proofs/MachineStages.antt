-- What a Stage of the machine merges, in room.
use Rattle.std.proofs.Common.{◌≡◌, inl, inr, ℕ, zero, suc, ◌<◌, ◌==◌, ◌||◌, Bool, true, false, List, [], ◌∷◌, ◌++◌, length, drop, Option, Some, if◌then◌else◌, refl, sym, ap, ◌∙◌, subst}
use Rattle.std.proofs.Math.Seq.{drop-length}
use Rattle.std.proofs.lemmas.Bool.{ne_eqb, or_from, true≢false}
use Rattle.law_machine.proofs.Carries.{carry_reads}
use Rattle.law_machine.proofs.Frames.{Added}
use Rattle.law_machine.proofs.Needs.{after_extents_by}
use Rattle.law_machine.specs.Apart.{any_below, any_swept, rooted_apart}
use Rattle.law_machine.specs.Append.{AppendBy}
use Rattle.law_machine.specs.Device.{IsShape, Shape}
use Rattle.law_machine.specs.Element.{Copy, Entry, Locator, Run}
use Rattle.law_machine.specs.Events.{newest_page}
use Rattle.law_machine.specs.Extents.{Extents, ForMerge, ForRun, taken_by}
use Rattle.law_machine.specs.Formats.{ChunkFrame, Formats, RunFrame}
use Rattle.law_machine.specs.Frames.{IsFormat}
use Rattle.law_machine.specs.Index.{entries_of, live_at}
use Rattle.law_machine.specs.Lists.{◌∈◌}
use Rattle.law_machine.specs.Machine.{World}
use Rattle.law_machine.specs.Sound.{Sound}
use Rattle.law_machine.specs.State.{State, index_now}
use Rattle.law_room.proofs.MachineBlank.{lives_there}
use Rattle.law_room.proofs.MachineChunks.{chunks_move, pages_move}
use Rattle.law_room.proofs.MachineFreed.{sweep_moves}
use Rattle.law_room.proofs.MachineRoots.{IsReady, root_staged}
use Rattle.law_room.proofs.MachineRuns.{IsForRun, merge_goes_there, places_dropped, run_extents_are, run_goes_there}
use Rattle.law_room.specs.Events.{Stages, freed as room_freed, given, is_held as room_held, staged}
use Rattle.law_room.specs.OfMachine.{AreChunksOf, AreExtentsOf, IsRoomBut, IsRoomOf, IsSweepOf, NoneWorn, copies_now, of_id, run_places}
use Rattle.law_room.specs.Rooms.{Chunk, Holding, OfRuns, Room, Sweep, any_on, has}

-- a root over these runs, and nothing is reset yet
abbrev pub unfreed : Room → List ℕ → Room
unfreed s runs = record s {
  runs = runs;
  rooted = true;
  roots = record { chunks = s.chunks; runs = runs; pointers = s.pointer } ∷ s.roots;
}

has_dropped : (k : ℕ) (ds : List ℕ) (e : ℕ) → has ds e ≡ false → has (drop k ds) e ≡ false
has_dropped zero ds e off = off
has_dropped (suc k) [] e off = off
has_dropped (suc k) (d ∷ ds) e off = has_dropped k ds e (later (d == e) off)
  where
    later : (b : Bool) → (b || has ds e) ≡ false → has ds e ≡ false
    later true wrong = absurd (true≢false wrong)
    later false is = is

module _ (S : Shape) (F : Formats) (shape : IsShape S) (format : IsFormat S F) (apart : S.apart ≡ true) where
  -- room before a Stage
  pub record IsBefore (aside : ℕ → Bool) (copies : List Copy) (s : State) (r : Room) : Type 0 where
    pub sound : Sound S F s
    pub room : IsRoomBut S F aside copies s r
    pub aside_fresh : (e : ℕ) → aside e ≡ true → s.world.extents.fresh ≡ Some e
    pub dead : (e : ℕ) → e < S.extents → aside e ≡ true → (any_on r.chunks e ≡ false) × (has r.runs e ≡ false)
        × (any_swept S s ≡ false)
    pub held : (e : ℕ) → any_swept S s ≡ true → s.world.extents.fresh ≡ Some e → room_held r.sweep e ≡ true
    pub copies_are : copies ≡ copies_now S s

  module _ (aside : ℕ → Bool) (copies : List Copy) (s : State) (r : Room) (before : IsBefore aside copies s r) where
    one : (c d : ℕ) → s.world.extents.swept c ≡ true → s.world.extents.swept d ≡ true → c ≡ d
    one = (before.sound.apart apart).one_sweep

    -- a run was written
    frame_ready : (v : World) (e k n : ℕ) (l : Locator) (entries : List Entry) (runs : List Run)
        → Added S F shape format s (record s { world = v }) l (F.frame RunFrame (F.run entries))
        → AreExtentsOf S aside v.extents (given r e k OfRuns) → aside e ≡ false → l.extent ≡ e
        → v.extents.fresh ≡ s.world.extents.fresh
        → runs ≡ record { place = l; entries = entries } ∷ drop n s.runs
        → ((id : ℕ) → live_at (entries_of runs) id ≡ live_at (index_now s) id)
        → IsReady S F apart aside copies (record s { world = v }) runs (unfreed (given r e k OfRuns) (e ∷ drop n r.runs))
    frame_ready v e k n l entries runs add extents off at fresh runs_is live = record {
      extents = record {
        pointer = extents.pointer;
        holds = extents.holds;
        open_extent = extents.open_extent;
        last = extents.last;
        noted = extents.noted;
      };
      chunks = λ id. subst (λ (ls : List Locator). AreChunksOf S F s.opening (newest_page (record s { world = v }))
          v.extents.pointer v.extents.generation copies id 0 ls (of_id id r.chunks)) (sym (live id))
          (chunks_move S F s.opening s.opening (newest_page s) (newest_page (record s { world = v }))
          s.world.extents.pointer s.world.extents.generation v.extents.pointer v.extents.generation copies copies id 0
          (live_at (index_now s) id) (of_id id r.chunks)
          (λ m c there. pages_move S F s.opening s.opening (newest_page s) (newest_page (record s { world = v }))
          s.world.extents.pointer s.world.extents.generation v.extents.pointer v.extents.generation m c refl refl
          (λ payload. carry_reads S F s.opening (newest_page (record s { world = v })) (newest_page s) s.world.extents.pointer
          s.world.extents.generation v.extents.pointer v.extents.generation add.carries add.still m
          (F.frame ChunkFrame payload))) (λ j m there. refl) (before.room.chunks id));
      runs_are = ap (λ (ds : List ℕ). e ∷ drop n ds) before.room.runs ∙ ap (λ (ds : List ℕ). e ∷ ds)
          (sym (places_dropped n s.runs)) ∙ ap (λ (d : ℕ). d ∷ run_places (drop n s.runs)) (sym at)
          ∙ ap run_places (sym runs_is);
      rooted = refl;
      sweep = sweep_on r.sweep before.room.sweep;
      one = λ c d is also. one c d (ap (λ (f : ℕ → Bool). f c) (sym add.swept) ∙ is)
          (ap (λ (f : ℕ → Bool). f d) (sym add.swept) ∙ also);
      dead = λ d lt on. (let was = before.dead d lt on in (
        was.0,
        or_from (e == d) (has (drop n r.runs) d) (ne_eqb e d (λ same. true≢false (sym on ∙ ap aside (sym same) ∙ off)))
            (has_dropped n r.runs d was.1),
        ap (λ (f : ℕ → Bool). any_below f S.extents) add.swept ∙ was.2,
        fresh ∙ before.aside_fresh d on,
      ));
      held = λ d on is. before.held d (ap (λ (f : ℕ → Bool). any_below f S.extents) (sym add.swept) ∙ on) (sym fresh ∙ is);
      copies_are = before.copies_are ∙ ap (λ (f : ℕ → Bool). if any_below f S.extents then s.copies else []) (sym add.swept);
    }
      where
        sweep_on : (o : Option Sweep) → IsSweepOf S s o → IsSweepOf S (record s { world = v }) o
        sweep_on o is = sweep_moves S s (record s { world = v }) o add.swept fresh refl is

    -- no run was written
    plain_ready : (runs : List Run) (q : Room) → AreExtentsOf S aside s.world.extents q
        → ((id : ℕ) → live_at (entries_of runs) id ≡ live_at (index_now s) id) → q.chunks ≡ r.chunks
        → q.runs ≡ run_places runs → q.rooted ≡ true → q.sweep ≡ r.sweep
        → ((e : ℕ) → has r.runs e ≡ false → has q.runs e ≡ false) → IsReady S F apart aside copies s runs q
    plain_ready runs q extents live chunks runs_are rooted sweep fewer = record {
      extents = extents;
      chunks = λ id. subst (λ (ls : List Locator). AreChunksOf S F s.opening (newest_page s) s.world.extents.pointer
          s.world.extents.generation copies id 0 ls (of_id id q.chunks)) (sym (live id))
          (subst (λ (cs : List Chunk). AreChunksOf S F s.opening (newest_page s) s.world.extents.pointer
          s.world.extents.generation copies id 0 (live_at (index_now s) id) (of_id id cs)) (sym chunks)
          (before.room.chunks id));
      runs_are = runs_are;
      rooted = rooted;
      sweep = subst (λ (o : Option Sweep). IsSweepOf S s o) (sym sweep) before.room.sweep;
      one = one;
      dead = λ e lt on. (let was = before.dead e lt on in
          (ap (λ (cs : List Chunk). any_on cs e) chunks ∙ was.0, fewer e was.1, was.2, before.aside_fresh e on));
      held = λ e on is. ap (λ (o : Option Sweep). room_held o e) sweep ∙ before.held e on is;
      copies_are = before.copies_are;
    }

    extents_of : (q : Room) → q.pointer ≡ r.pointer → q.holds ≡ r.holds → q.open_extent ≡ r.open_extent → q.last ≡ r.last
        → AreExtentsOf S aside s.world.extents q
    extents_of q pointer holds opened last = record {
      pointer = λ e lt. ap (λ (f : ℕ → ℕ). f e) pointer ∙ before.room.extents.pointer e lt;
      holds = λ e lt. ap (λ (f : ℕ → Holding). f e) holds ∙ before.room.extents.holds e lt;
      open_extent = opened ∙ before.room.extents.open_extent;
      last = last ∙ before.room.extents.last;
      noted = before.room.extents.noted;
    }

    -- a Stage of room, and the room that it leaves
    pub record IsStaged (t : State) : Type 0 where
      pub newest : ℕ
      pub pages : ℕ
      pub all : ℕ
      pub after : Room
      pub stages : Stages S S.run_extents r newest pages all after
      pub room : IsRoomOf S F t after

    -- the table is empty: a root alone is staged
    pub rooted_stage : (t : State) → r.rooted ≡ true → t ≡ rooted_apart S F s s.runs → s.table ≡ [] → NoneWorn S t → IsStaged t
    rooted_stage t nothing is none young = record {
      newest = 0;
      pages = 0;
      all = 0;
      after = room_freed r;
      stages = inl (nothing, refl);
      room = subst (λ (x : State). IsRoomOf S F x (room_freed r)) (sym is)
          (root_staged S F apart aside copies s s.runs r
          (plain_ready s.runs r (extents_of r refl refl refl refl)
          (λ id. ap (λ (es : List Entry). live_at (es ++ entries_of s.runs) id) (sym none)) refl before.room.runs nothing refl
          (λ e off. off)) (subst (λ (x : State). NoneWorn S x) is young));
    }

    no_chunks : (cs : List Chunk) → ((c : Chunk) → c ∈ cs → ⊥) → cs ≡ []
    no_chunks [] none = refl
    no_chunks (c ∷ cs) none = absurd (none c (inl refl))

    -- nothing lives, and no run is left
    pub empty_stage : (t : State) (runs : List Run) → r.rooted ≡ false → t ≡ rooted_apart S F s runs → runs ≡ []
        → ((id : ℕ) → live_at (entries_of runs) id ≡ live_at (index_now s) id) → NoneWorn S t → IsStaged t
    empty_stage t runs some is none live young = record {
      newest = 0;
      pages = 0;
      all = 0;
      after = staged r [];
      stages = inr (inr (inr (
        some,
        no_chunks r.chunks (λ c there. (let l = lives_there S F s copies r.chunks
            before.room.chunks c there in subst (λ (ls : List Locator). l.0 ∈ ls) (sym (live c.id)
            ∙ ap (λ (rs : List Run). live_at (entries_of rs) c.id) none) l.1)),
        refl,
      )));
      room = subst (λ (x : State). IsRoomOf S F x (staged r [])) (sym is)
          (root_staged S F apart aside copies s runs (unfreed r [])
          (plain_ready runs (unfreed r []) (extents_of (unfreed r []) refl refl refl refl) live refl
          (ap run_places (sym none)) refl refl (λ e off. refl)) (subst (λ (x : State). NoneWorn S x) is young));
    }

    extents_for_run : (v : World) (l : Locator) (entries : List Entry) (a : AppendBy S true s.world ForRun
        (F.frame RunFrame (F.run entries)) l v) → IsForRun S aside s.world.extents r before.room.extents before.aside_fresh
        a.extent → AreExtentsOf S aside v.extents (given r a.extent (length (F.frame RunFrame (F.run entries))) OfRuns)
    extents_for_run v l entries a at =
        let k : ℕ = length (F.frame RunFrame (F.run entries)) in
        let is : v.extents ≡ taken_by S true ForRun s.world.extents a.extent k =
        after_extents_by S shape true s.world v ForRun (F.frame RunFrame (F.run entries)) l a in
        run_extents_are S aside s.world.extents r before.room.extents before.aside_fresh k a.extent v.extents
        (format.some_page RunFrame (F.run entries)) at (ap (λ (y : Extents). y.pointer) is) (ap (λ (y : Extents). y.found) is)
        (ap (λ (y : Extents). y.of_runs) is) (ap (λ (y : Extents). y.open_extent) is) (ap (λ (y : Extents). y.last) is)
        (λ d there. sym (ap (λ (y : Extents). y.fresh) is) ∙ there)

    extents_for_merge : (v : World) (l : Locator) (entries : List Entry) (a : AppendBy S true s.world ForMerge
        (F.frame RunFrame (F.run entries)) l v) → IsForRun S aside s.world.extents r before.room.extents before.aside_fresh
        a.extent → AreExtentsOf S aside v.extents (given r a.extent (length (F.frame RunFrame (F.run entries))) OfRuns)
    extents_for_merge v l entries a at =
        let k : ℕ = length (F.frame RunFrame (F.run entries)) in
        let is : v.extents ≡ taken_by S true ForMerge s.world.extents a.extent k =
        after_extents_by S shape true s.world v ForMerge (F.frame RunFrame (F.run entries)) l a in
        run_extents_are S aside s.world.extents r before.room.extents before.aside_fresh k a.extent v.extents
        (format.some_page RunFrame (F.run entries)) at (ap (λ (y : Extents). y.pointer) is) (ap (λ (y : Extents). y.found) is)
        (ap (λ (y : Extents). y.of_runs) is) (ap (λ (y : Extents). y.open_extent) is) (ap (λ (y : Extents). y.last) is)
        (λ d there. sym (ap (λ (y : Extents). y.fresh) is) ∙ there)

    -- a run of the newest is written behind others, or on an empty extent
    pub run_stage : (t : State) (v : World) (n : ℕ) (l : Locator) (entries : List Entry) (runs : List Run) → r.rooted ≡ false
        → (a : AppendBy S true s.world ForRun (F.frame RunFrame (F.run entries)) l v)
        → Added S F shape format s (record s { world = v }) l (F.frame RunFrame (F.run entries))
        → runs ≡ record { place = l; entries = entries } ∷ drop n s.runs
        → ((id : ℕ) → live_at (entries_of runs) id ≡ live_at (index_now s) id)
        → t ≡ rooted_apart S F (record s { world = v }) runs → NoneWorn S t → IsStaged t
    run_stage t v n l entries runs some a add runs_is live is young =
        let k : ℕ = length (F.frame RunFrame (F.run entries)) in
        let goes = run_goes_there S aside s.world.extents r before.room.extents before.aside_fresh k a.extent a.placed in
        let fresh : v.extents.fresh ≡ s.world.extents.fresh = ap (λ (y : Extents). y.fresh)
        (after_extents_by S shape true s.world v ForRun (F.frame RunFrame (F.run entries)) l a) in record {
          newest = n;
          pages = k;
          all = 0;
          after = staged (given r a.extent k OfRuns) (a.extent ∷ drop n r.runs);
          stages = inr (inl (some, a.extent, goes.0, refl));
          room = subst (λ (x : State). IsRoomOf S F x (staged (given r a.extent k OfRuns) (a.extent ∷ drop n r.runs))) (sym is)
              (root_staged S F apart aside copies (record s { world = v }) runs
              (unfreed (given r a.extent k OfRuns) (a.extent ∷ drop n r.runs))
              (frame_ready v a.extent k n l entries runs add (extents_for_run v l entries a goes.1) goes.1.off
              (ap (λ (m : Locator). m.extent) a.at) fresh runs_is live) (subst (λ (x : State). NoneWorn S x) is young));
        }

    -- one run of all is written on an empty extent
    pub merge_stage : (t : State) (v : World) (l : Locator) (entries : List Entry) (runs : List Run) → r.rooted ≡ false
        → (a : AppendBy S true s.world ForMerge (F.frame RunFrame (F.run entries)) l v)
        → Added S F shape format s (record s { world = v }) l (F.frame RunFrame (F.run entries))
        → runs ≡ record { place = l; entries = entries } ∷ drop (length s.runs) s.runs
        → ((id : ℕ) → live_at (entries_of runs) id ≡ live_at (index_now s) id)
        → t ≡ rooted_apart S F (record s { world = v }) runs → NoneWorn S t → IsStaged t
    merge_stage t v l entries runs some a add runs_is live is young =
        let k : ℕ = length (F.frame RunFrame (F.run entries)) in
        let goes = merge_goes_there S aside s.world.extents r before.room.extents before.aside_fresh k a.extent a.placed in
        let none : drop (length s.runs) r.runs ≡ [] = ap (drop (length s.runs)) before.room.runs
        ∙ sym (places_dropped (length s.runs) s.runs) ∙ ap run_places (drop-length s.runs) in
        let fresh : v.extents.fresh ≡ s.world.extents.fresh = ap (λ (y : Extents). y.fresh)
        (after_extents_by S shape true s.world v ForMerge (F.frame RunFrame (F.run entries)) l a) in record {
          newest = 0;
          pages = 0;
          all = k;
          after = staged (given r a.extent k OfRuns) (a.extent ∷ []);
          stages = inr (inr (inl (some, a.extent, goes.0, refl)));
          room = subst (λ (x : State). IsRoomOf S F x (staged (given r a.extent k OfRuns) (a.extent ∷ []))) (sym is)
              (subst (λ (ds : List ℕ). IsRoomOf S F (rooted_apart S F (record s { world = v }) runs)
              (staged (given r a.extent k OfRuns) (a.extent ∷ ds))) none
              (root_staged S F apart aside copies (record s { world = v }) runs
              (unfreed (given r a.extent k OfRuns) (a.extent ∷ drop (length s.runs) r.runs))
              (frame_ready v a.extent k (length s.runs) l entries runs add (extents_for_merge v l entries a goes.1) goes.1.off
              (ap (λ (m : Locator). m.extent) a.at) fresh runs_is live) (subst (λ (x : State). NoneWorn S x) is young)));
        }
