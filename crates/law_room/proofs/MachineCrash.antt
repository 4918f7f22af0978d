-- What a crash leaves of a state of which room has the roots has room.
use Rattle.std.proofs.Common.{◌≡◌, inl, inr, ⊎_elim, ℕ, zero, suc, pred, ◌+◌, ◌-◌, ◌<◌, ◌≤◌, ◌==◌, ◌&&◌, Bool, true, false, List, [], ◌∷◌, ◌++◌, length, map, Some, if◌then◌else◌, eqb-true, le_refl, le_trans, le_of_eq, true≢false, refl, sym, ap, ap₂, ◌∙◌, subst, arith}
use Rattle.std.proofs.lemmas.Bool.{cases_lt, or_cases}
use Rattle.std.proofs.lemmas.List.{append_assoc}
use Rattle.law_machine.proofs.Carries.{carry_reads}
use Rattle.law_machine.proofs.ClosedSets.{gt-leb}
use Rattle.law_machine.proofs.Filled.{damage_here, limit_here, own_reads, reach_off, reads_own}
use Rattle.law_machine.proofs.Crash.{untorn}
use Rattle.law_machine.proofs.Images.{Alike, alike_frames, alike_frozen, alike_root, recovers_alike}
use Rattle.law_machine.proofs.LocalRecovery.{live_passes}
use Rattle.law_machine.proofs.Rounds.{Between, kept_image}
use Rattle.law_machine.proofs.Torn.{alike}
use Rattle.law_machine.proofs.Unique.{same_entries}
use Rattle.law_machine.specs.Cut.{Cut, Exact, Within, held_by, page_in, section_of}
use Rattle.law_machine.specs.Device.{Inside, IsShape, Page, Shape}
use Rattle.law_machine.specs.Element.{Entry, Locator, Map, Opening, Root as StagedRoot, Run, Write, log_of, writes_of}
use Rattle.law_machine.specs.Formats.{ChunkFrame, Formats, RunFrame, limit_in, opening_in, pages_from, places, fault_for}
use Rattle.law_machine.specs.Frames.{IsFormat}
use Rattle.law_machine.specs.Guard.{page_as_staged}
use Rattle.law_machine.specs.Index.{Passes, Reads, entries_of, live_at}
use Rattle.law_machine.specs.Lists.{◌∈◌}
use Rattle.law_machine.specs.Open.{opened_state}
use Rattle.law_machine.specs.Recovery.{Recovers, RecoversBut}
use Rattle.law_machine.specs.Refusal.{Refusal}
use Rattle.law_machine.specs.Sound.{Sound, crashed}
use Rattle.law_machine.specs.State.{State}
use Rattle.law_machine.specs.Torn.{TornFrom}
use Rattle.law_room.proofs.Chunks.{any_of, has_of}
use Rattle.law_room.proofs.MachineChunks.{chunks_move}
use Rattle.law_room.proofs.OpenedRoots.{opened_roomy}
use Rattle.law_room.specs.Events.{Does, Open, forget, opened}
use Rattle.law_room.specs.Invariant.{IsRoot}
use Rattle.law_room.specs.OfMachine.{AreChunksOf, HasPages, IsRootIn, Lasts, NoneWorn, of_id, run_places}
use Rattle.law_room.specs.RootsOfMachine.{IsRoomy, IsRootOf, TellsPointers}
use Rattle.law_room.specs.Rooms.{Room, Root, any_on, has, is_named}

-- a page that a set has no write to is as it was found
page_none : (X : Cut) (found : ℕ → Page) (ws : List Write) (p : ℕ)
    → ((w : Write) → w ∈ ws → w.page ≡ p → X.writes w.number ≡ false) → page_in X found ws p ≡ found p
page_none X found [] p none = refl
page_none X found (w ∷ ws) p none = go (w.page == p) (X.writes w.number)
    (λ on. none w (inl refl) (eqb-true w.page p on)) ∙ page_none X found ws p (λ v there. none v (inr there))
  where
    go : (a b : Bool) → (a ≡ true → b ≡ false)
        → (if a && b then w.bytes else page_in X found ws p) ≡ page_in X found ws p
    go true true off = absurd (true≢false (off refl))
    go true false off = refl
    go false b off = refl

pub run_extents_are : (runs : List Run) → run_places runs ≡ map (λ (l : Locator). l.extent) (places runs)
run_extents_are [] = refl
run_extents_are (run ∷ runs) = ap (λ (ds : List ℕ). run.place.extent ∷ ds) (run_extents_are runs)

pub root_inside : (S : Shape) (p : Root) → IsRoot S S.run_extents p → (e : ℕ) → is_named p e ≡ true → e < S.extents
root_inside S p root e on = ⊎_elim
    (λ chunk. (let c = any_of p.chunks e chunk in subst (λ (d : ℕ). d < S.extents) c.2 (root.chunks_there c.0 c.1)))
    (λ run. root.runs_there e (has_of p.runs e run)) (or_cases (any_on p.chunks e) (has p.runs e) on)

-- more pages from there on are those and the ones behind them
pages_more : (S : Shape) (F : Formats) (img : ℕ → Page) (e i a b : ℕ)
    → pages_from S F img e i (a + b) ≡ pages_from S F img e i a ++ pages_from S F img e (i + a) b
pages_more S F img e i zero b = ap₂ (λ (n c : ℕ). pages_from S F img e n c) (let same : i ≡ i + 0 = omega arith in same)
    (let same : 0 + b ≡ b = omega arith in same)
pages_more S F img e i (suc a) b = ap (λ (n : ℕ). pages_from S F img e i n)
    (let same : suc a + b ≡ suc (a + b) = omega arith in same)
    ∙ ap (λ (bs : List Page). img (S.address e i) ∷ bs)
    (pages_more S F img e (suc i) a b ∙ ap (λ (n : ℕ). pages_from S F img e (suc i) a ++ pages_from S F img e n b)
    (let same : suc i + a ≡ i + suc a = omega arith in same))

module _ (S : Shape) (F : Formats) (shape : IsShape S) (format : IsFormat S F) (tells : TellsPointers S F)
    (apart : S.apart ≡ true) (s : State) (r : Room) (roomy : IsRoomy S F s r) where
  abbrev sound : Sound S F s
  sound = roomy.room.sound

  -- a set between what is persistent and the round, and what an image gives that is like its own where its root looks
  module _ (X : Cut) (low : Within s.world.persistent X) (high : Within X s.world.round)
      (exact : Exact S.sections (log_of s.world.elements) X) (img : ℕ → Page)
      (like : Alike S F shape format s.opened s.world X sound.safe low high exact img) (n : ℕ) (m : Map)
      (gives : Recovers S F img n m) where
    abbrev q : StagedRoot
    q = exact.root.0

    abbrev staged_page : ℕ → Page
    staged_page = page_as_staged S q s.opened (writes_of s.world.elements)

    abbrev given : RecoversBut S F (λ a b. s.opening) img q.commands q.map
    given = recovers_alike S F shape format s.opened s.world X sound.safe low high exact img like

    abbrev opening : Opening
    opening = opening_in S F img gives.pointers gives.generations

    thawed : S.fills ≡ true → (e g : ℕ) → s.opening.frozen e S.pages g ≡ false
    thawed on = (sound.filled on).thawed

    runs_are : given.runs ≡ q.runs
    runs_are = (alike_root S F shape format s.opened s.world X sound.safe low high exact img like).1

    given_agree : places given.runs ≡ places gives.runs
    given_agree = (format.one_root given.version gives.version q.commands n (places given.runs) (places gives.runs)
        given.root_fits gives.root_fits (sym given.root ∙ gives.root)).1

    places_agree : places q.runs ≡ places gives.runs
    places_agree = ap places (sym runs_are) ∙ given_agree

    entries_agree : entries_of q.runs ≡ entries_of gives.runs
    entries_agree = ap entries_of (sym runs_are)
        ∙ same_entries S F format img given.pointers given.generations gives.pointers gives.generations given.runs
        gives.runs given_agree given.runs_fit gives.runs_fit
        (λ run there. own_reads S F img given.pointers given.generations s.opening thawed run.place
        (F.frame RunFrame (F.run run.entries)) (given.gives.runs_read run there)) gives.gives.runs_read

    pointers_agree : (e : ℕ) → e < S.extents → given.pointers e ≡ gives.pointers e
    pointers_agree e lt = let j = shape.section e in
        tells (given.formats (S.section e)) (gives.formats (S.section e)) (S.section e) (given.versions (S.section e))
        (gives.versions (S.section e)) (given.recorded (S.section e)) (gives.recorded (S.section e)) given.pointers given.generations gives.pointers gives.generations j
        (given.versions_fit (S.section e) j) (gives.versions_fit (S.section e) j) given.extents_fit gives.extents_fit
        (sym (given.superblock (S.section e) j) ∙ gives.superblock (S.section e) j) e lt refl

    passes : (id : ℕ) (l : Locator) → l ∈ live_at (entries_of q.runs) id
        → Passes S F img gives.pointers gives.generations l
    passes id l there = live_passes S F opening img gives.pointers gives.generations [] gives.runs m gives.gives id l
        (subst (λ (es : List Entry). l ∈ live_at es id) entries_agree there)

    staged_passes : (id : ℕ) (l : Locator) → l ∈ live_at (entries_of q.runs) id
        → Passes S F staged_page q.pointers q.generations l
    staged_passes id l there = live_passes S F s.opening staged_page q.pointers q.generations [] q.runs q.map
        (sound.safe.good q exact.root.1).0 id l there

    pointer_below : (e k : ℕ) → e < S.extents → k ≤ q.pointers e → k ≤ S.pages → k ≤ gives.pointers e
    pointer_below e zero lt low_enough fits = omega arith
    pointer_below e (suc k) lt low_enough fits =
        let there : k < given.pointers e = (alike_frames S F shape format s.opened s.world X sound.safe low high exact
        img like e k low_enough (lt, fits)).2 in
        let same : given.pointers e ≡ gives.pointers e = pointers_agree e lt in omega arith

    -- a page that is frozen is as it was found
    page_found : (e i : ℕ) → s.opening.frozen e i (q.generations e) ≡ true → 0 < q.pointers e → Inside S e i
        → img (S.address e i) ≡ s.opened (S.address e i)
    page_found e i fz some inside =
        alike_frozen S F shape format s.opened s.world X sound.safe low high exact img like e i fz some inside
        ∙ page_none (held_by q (section_of S (S.address e i))) s.opened (writes_of s.world.elements) (S.address e i)
        (λ x there at. (let ext : S.extent (S.address e i) ≡ e = shape.extent e i inside in
        let idx : S.index (S.address e i) ≡ i = shape.index e i inside in
        let later = sound.safe.written_later q exact.root.1 e i fz some x there (ap S.extent at ∙ ext)
        (ap S.index at ∙ idx) in
        gt-leb x.number (q.writes (section_of S (S.address e i)))
        (subst (λ (d : ℕ). q.writes (S.section d) < x.number) (sym ext) later.1)))

    pages_found : (e i c end : ℕ) → ((k : ℕ) → k < end → s.opening.frozen e k (q.generations e) ≡ true) → 0 < q.pointers e
        → e < S.extents → i + c ≤ end → end ≤ S.pages → pages_from S F img e i c ≡ pages_from S F s.opened e i c
    pages_found e i zero end fz some lt fits within = refl
    pages_found e i (suc c) end fz some lt fits within = ap₂ (λ (b : Page) (bs : List Page). b ∷ bs)
        (page_found e i (fz i (omega arith)) some (lt, omega arith))
        (pages_found e (suc i) c end fz some lt (omega arith) within)

    reads_there : (l : Locator) (bs : List Page) → Passes S F img gives.pointers gives.generations l
        → Reads S F s.opening img given.pointers given.generations l bs
        → Reads S F opening img gives.pointers gives.generations l bs
    reads_there l bs pass r = reads_own S F img gives.pointers gives.generations l bs pass
        (λ on. ⊎_elim (λ (below : l.page + length bs ≤ given.pointers l.extent).
        subst (λ (n : ℕ). l.page + length bs ≤ n) (pointers_agree l.extent pass.inside.0) below)
        (λ (fz : (i : ℕ) → s.opening.frozen l.extent i l.generation ≡ true). absurd
        (true≢false (sym (fz S.pages) ∙ thawed on l.extent l.generation))) r.below) r.inside r.stand r.marked r.long

    -- a chunk that was found damaged is so still, by the pages to which its frame might reach and more
    module _ (id : ℕ) (l : Locator) (there : l ∈ live_at (entries_of q.runs) id) (f : Refusal)
        (bad : s.opening.damage l ≡ Some f) where
      was : Passes S F staged_page q.pointers q.generations l
      was = staged_passes id l there

      pass : Passes S F img gives.pointers gives.generations l
      pass = passes id l there

      end : ℕ
      end = s.opening.limit l

      fz : (k : ℕ) → k < s.opening.limit l → s.opening.frozen l.extent k (q.generations l.extent) ≡ true
      fz k lt = ap (s.opening.frozen l.extent k) was.generation ∙ (sound.damaged l f bad).1 k lt

      some : 0 < q.pointers l.extent
      some = let below : l.page < q.pointers l.extent = was.below in omega arith

      -- as far as the frame might reach before, it may now
      reach_low : (b : Bool) → S.fills ≡ b → (s.opening.limit l ≤ limit_in S F gives.pointers gives.generations l)
          × (s.opening.limit l ≤ S.pages)
      reach_low true on =
          let last : l.page < s.opening.limit l = (sound.damaged l f bad).0 in
          let counted : pred (s.opening.limit l) < q.pointers l.extent =
          (sound.filled on).counted q exact.root.1 l.extent (pred (s.opening.limit l))
          (fz (pred (s.opening.limit l)) (omega arith)) some in
          let now : limit_in S F gives.pointers gives.generations l ≡ gives.pointers l.extent =
          limit_here S F img gives.pointers gives.generations l pass on in
          let inside : s.opening.limit l ≤ S.pages = elim (cases_lt S.pages (s.opening.limit l)) [
            | inl past ↦ absurd (true≢false (sym (fz S.pages past) ∙ thawed on l.extent (q.generations l.extent)))
            | inr not_past ↦ not_past
          ] in
          let more : s.opening.limit l ≤ gives.pointers l.extent =
          pointer_below l.extent (s.opening.limit l) pass.inside.0 (omega arith) inside in
          (omega arith, inside)
      reach_low false off =
          let all : s.opening.limit l ≡ S.pages = sound.unfilled off l in
          let now : limit_in S F gives.pointers gives.generations l ≡ S.pages =
          reach_off S (if gives.generations l.extent == l.generation then gives.pointers l.extent else 0) l.page off in
          (omega arith, omega arith)

      more : List Page
      more = pages_from S F img l.extent (l.page + (s.opening.limit l - l.page))
          (limit_in S F gives.pointers gives.generations l - s.opening.limit l)

      pages_are : opening.pages l ≡ s.opening.pages l ++ more
      unfolding more
      pages_are =
          let lt : l.page < s.opening.limit l = (sound.damaged l f bad).0 in
          let low_there = reach_low S.fills refl in
          let le : s.opening.limit l ≤ limit_in S F gives.pointers gives.generations l = low_there.0 in
          let within : s.opening.limit l ≤ S.pages = low_there.1 in
          ap (λ (n : ℕ). pages_from S F img l.extent l.page n)
          (let parts : limit_in S F gives.pointers gives.generations l - l.page ≡ (s.opening.limit l - l.page)
          + (limit_in S F gives.pointers gives.generations l - s.opening.limit l) = omega arith in parts)
          ∙ pages_more S F img l.extent l.page (s.opening.limit l - l.page)
          (limit_in S F gives.pointers gives.generations l - s.opening.limit l)
          ∙ ap (λ (bs : List Page). bs ++ pages_from S F img l.extent (l.page + (s.opening.limit l - l.page))
          (limit_in S F gives.pointers gives.generations l - s.opening.limit l))
          (pages_found l.extent l.page (s.opening.limit l - l.page) (s.opening.limit l) fz some pass.inside.0 (omega arith)
          within ∙ sym (sound.shown l))

      -- where none is filled up there are no more
      alone : S.fills ≡ false → opening.pages l ≡ s.opening.pages l
      alone off =
          let all : s.opening.limit l ≡ S.pages = sound.unfilled off l in
          let now : limit_in S F gives.pointers gives.generations l ≡ S.pages =
          reach_off S (if gives.generations l.extent == l.generation then gives.pointers l.extent else 0) l.page off in
          let lt : l.page < s.opening.limit l = (sound.damaged l f bad).0 in
          ap (λ (n : ℕ). pages_from S F img l.extent l.page (n - l.page)) (now ∙ sym all)
          ∙ pages_found l.extent l.page (s.opening.limit l - l.page) (s.opening.limit l) fz some pass.inside.0 (omega arith)
          (omega arith) ∙ sym (sound.shown l)

      damaged_still : (b : Bool) → S.fills ≡ b → (S.fills ≡ true → Lasts S F s.opening l f) → opening.damage l ≡ Some f
      damaged_still true on lasts = damage_here S F img gives.pointers gives.generations l pass
          ∙ ap (fault_for S F ChunkFrame l.mark) pages_are ∙ lasts on more
      damaged_still false off lasts = damage_here S F img gives.pointers gives.generations l pass
          ∙ ap (fault_for S F ChunkFrame l.mark) (alone off ∙ sound.shown l) ∙ (sound.damaged l f bad).2

      lasts_still : Lasts S F s.opening l f → Lasts S F opening l f
      lasts_still lasts others = ap (λ (bs : List Page). fault_for S F ChunkFrame l.mark (bs ++ others)) pages_are
          ∙ ap (fault_for S F ChunkFrame l.mark) (append_assoc (s.opening.pages l) more others) ∙ lasts (more ++ others)

    has_pages : (id : ℕ) (l : Locator) (k : ℕ) → l ∈ live_at (entries_of q.runs) id
        → HasPages S F s.opening staged_page q.pointers q.generations l k
        → HasPages S F opening img gives.pointers gives.generations l k
    has_pages id l k there (inl (payload, reads, size)) =
        let moved = carry_reads S F s.opening img staged_page q.pointers q.generations given.pointers given.generations
        (alike_frames S F shape format s.opened s.world X sound.safe low high exact img like)
        (alike_frozen S F shape format s.opened s.world X sound.safe low high exact img like) l (F.frame ChunkFrame payload) reads in
        inl (payload, reads_there l (F.frame ChunkFrame payload) (passes id l there) moved, size)
    has_pages id l k there (inr (f, bad, lasts, none)) = inr (
      f,
      damaged_still id l there f bad S.fills refl lasts,
      (λ on. lasts_still id l there f bad (lasts on)),
      none,
    )

    named_there : (p : Root) → IsRootOf S F s q p → IsRoot S S.run_extents p → IsRootIn S F img n m gives p
    named_there p is root = record {
      names = record {
        chunks = λ id. subst (λ (es : List Entry). AreChunksOf S F opening img gives.pointers gives.generations [] id 0
            (live_at es id) (of_id id (map forget p.chunks))) entries_agree
            (chunks_move S F s.opening opening staged_page img q.pointers q.generations gives.pointers gives.generations
            [] [] id 0 (live_at (entries_of q.runs) id) (of_id id (map forget p.chunks))
            (λ l k there. has_pages id l k there) (λ j l there. refl) (is.names.chunks id));
        runs = is.names.runs ∙ run_extents_are q.runs ∙ ap (map (λ (l : Locator). l.extent)) places_agree
            ∙ sym (run_extents_are gives.runs);
        given = λ e on. (let lt : e < S.extents = root_inside S p root e on in
            pointer_below e (p.pointers e) lt (is.names.given e on) (is.fits e on));
      };
      root = root;
    }

    opened_there : NoneWorn S (opened_state S F img n m gives)
        → (p : Root) × Does S S.run_extents r (Open p gives.pointers) (opened p gives.pointers)
        × IsRoomy S F (opened_state S F img n m gives) (opened p gives.pointers)
    opened_there young =
        let late : s.world.persistent.root ≤ q.version = le_trans low.root (le_of_eq (sym exact.root.2)) in
        let p = roomy.roots.staged q exact.root.1 late in
        let is : IsRootIn S F img n m gives p.0 = named_there p.0 p.2 (roomy.room.keeps.roots p.0 p.1) in (
          p.0,
          (p.1, (λ e lt. (gives.extents_fit e).0), is.names.given, refl),
          opened_roomy S F apart img n m gives p.0 is shape young,
        )

  pub crash_torn : (mask : List Bool) (img : ℕ → Page) → TornFrom S F s mask img → (n : ℕ) (m : Map)
      (gives : Recovers S F img n m) → NoneWorn S (opened_state S F img n m gives)
      → (p : Root) × Does S S.run_extents r (Open p gives.pointers) (opened p gives.pointers)
      × IsRoomy S F (opened_state S F img n m gives) (opened p gives.pointers)
  crash_torn mask img torn n m gives young =
      let between : Between S F shape s.opened s.world sound.safe s.world.persistent = record {
        low = record { writes = λ k it. it; superblocks = λ j. le_refl _; root = le_refl _ };
        high = sound.safe.within;
        exact = sound.safe.exact;
      } in
      let kept = kept_image S F shape s.opened s.world sound.safe s.issued s.world.persistent sound.issued between mask in
      opened_there kept.0 kept.1.low kept.1.high kept.1.exact img
      (alike S F shape format s sound mask img torn kept.0 kept.1 kept.2) n m gives young

  pub crash_room : (mask : List Bool) (n : ℕ) (m : Map) (gives : Recovers S F (crashed S F s mask) n m)
      → NoneWorn S (opened_state S F (crashed S F s mask) n m gives)
      → (p : Root) × Does S S.run_extents r (Open p gives.pointers) (opened p gives.pointers)
      × IsRoomy S F (opened_state S F (crashed S F s mask) n m gives) (opened p gives.pointers)
  crash_room mask n m gives young = crash_torn mask (crashed S F s mask) (untorn S F shape format s sound mask) n m gives young
