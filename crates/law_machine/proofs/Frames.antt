-- A frame that is appended keeps a state sound.
use Rattle.std.proofs.Common.{◌≡◌, ◌≢◌, inl, inr, ⊎_elim, ℕ, suc, ◌+◌, ◌<◌, ◌≤◌, Bool, true, false, List, [], ◌∷◌, length, Some, le_of_eq, le_trans, true≢false, refl, sym, ap, ◌∙◌, subst, subst₂, arith}
use Rattle.law_machine.specs.Apart.{any_below}
use Rattle.law_machine.specs.Append.{AppendAllBy, AppendBy, AppendsChunksBy, AppendsFrame, AppendsFrameBy, IsNeed, appended_by, chunk_frames, next_locator}
use Rattle.law_machine.specs.Device.{Inside, IsShape, Page, Shape, mark_of}
use Rattle.law_machine.specs.Element.{Locator, Root, roots_of}
use Rattle.law_machine.specs.Events.{newest_page}
use Rattle.law_machine.specs.Extents.{ForPut, Goes, Purpose}
use Rattle.law_machine.specs.Formats.{ChunkFrame, Formats, FrameKind, is_long_frame}
use Rattle.law_machine.specs.Frames.{AreLong, IsFormat}
use Rattle.law_machine.specs.Index.{Chunks, Reads}
use Rattle.law_machine.specs.Lists.{◌∈◌}
use Rattle.law_machine.specs.Machine.{World}
use Rattle.law_machine.specs.Sound.{IsFilledUp, Sound}
use Rattle.law_machine.specs.State.{State, map_now}
use Rattle.law_machine.proofs.Parts.{with_same}
use Rattle.law_machine.proofs.Carries.{carry, carry_reads}
use Rattle.law_machine.proofs.Filled.{appended_reach, filled_on, no_less}
use Rattle.law_machine.proofs.Meant.{frame_fits, own_mark}
use Rattle.law_machine.proofs.Needs.{appended_numbers}
use Rattle.law_machine.proofs.Places.{goes_inside, opens, unfrozen}
use Rattle.law_machine.proofs.Appends.{Framed, framed, appended_superblocks, all_up}

module _ (S : Shape) (F : Formats) (shape : IsShape S) (format : IsFormat S F) where
  -- what a frame more leaves of a state
  pub record Added (s t : State) (l : Locator) (bs : List Page) : Type 0 where
    pub sound : Sound S F t
    pub opened : t.opened ≡ s.opened
    pub opening : t.opening ≡ s.opening
    pub table : t.table ≡ s.table
    pub runs : t.runs ≡ s.runs
    pub start : t.start ≡ s.start
    pub count : t.count ≡ s.count
    pub commands : t.commands ≡ s.commands
    pub root : t.world.root ≡ s.world.root
    pub generation : t.world.extents.generation ≡ s.world.extents.generation
    pub swept : t.world.extents.swept ≡ s.world.extents.swept
    pub carries : (d k : ℕ) → k < s.world.extents.pointer d → Inside S d k
        → (newest_page t (S.address d k) ≡ newest_page s (S.address d k))
        × (t.world.extents.generation d ≡ s.world.extents.generation d) × (k < t.world.extents.pointer d)
    pub still : (d k : ℕ) → s.opening.frozen d k (s.world.extents.generation d) ≡ true → 0 < s.world.extents.pointer d
        → Inside S d k → newest_page t (S.address d k) ≡ newest_page s (S.address d k)
    -- the frame is read if it is long enough for what it holds
    pub reads : (length bs ≤ S.pages → is_long_frame F bs ≡ true)
        → Reads S F t.opening (newest_page t) t.world.extents.pointer t.world.extents.generation l bs

  module _ (apart : Bool) (by : apart ≡ true → S.apart ≡ true) (s : State) (purpose : Purpose) (kind : FrameKind)
      (payload : List ℕ) (e need : ℕ) (sound : Sound S F s)
      (placed : Goes S apart s.world.extents purpose (length (F.frame kind payload)) e)
      (needs : IsNeed S s.world (S.section e) need)
      (room : suc (s.world.superblocks (S.section e)) ≤ S.greatest_number) where
    bs : List Page
    bs = F.frame kind payload

    fits : s.world.extents.pointer e + length (F.frame kind payload) ≤ S.pages
    fits = (goes_inside S apart s.world.extents purpose (length (F.frame kind payload)) e placed).1

    exists : e < S.extents
    exists = (goes_inside S apart s.world.extents purpose (length (F.frame kind payload)) e placed).0

    thawed : (i : ℕ) → (S.fills ≡ true → s.world.extents.pointer e ≤ i)
        → s.opening.frozen e i (s.world.extents.generation e) ≡ false
    thawed = unfrozen S F apart by s purpose (length (F.frame kind payload)) e sound placed

    fr : Framed S F s.opening shape s.opened s.world (appended_by S apart purpose s.world e need (F.frame kind payload)) e
        (s.world.extents.pointer e) (F.frame kind payload)
    fr = framed S F s.opening shape s.opened s.world e need
        (F.frame kind payload) sound.safe sound.settled exists fits needs room (λ k above. thawed k (λ on. above)) apart purpose

    abbrev next : State
    next = record s { world = appended_by S apart purpose s.world e need (F.frame kind payload) }

    frame_added : Added s next (next_locator S s.world e (F.frame kind payload)) (F.frame kind payload)
    frame_added = record {
      sound = record {
        safe = fr.safe;
        settled = fr.settled;
        gives = carry S F s.opening _ _ _ _ _ _ fr.carries fr.still s.table s.runs (map_now s) sound.gives;
        maps = λ r is. sound.maps r (subst (λ (rs : List Root). r ∈ rs) fr.roots is);
        caught_up = λ none r is ver. sound.caught_up none r (subst (λ (rs : List Root). r ∈ rs) fr.roots is)
            (ver ∙ fr.root);
        complete = λ busy m is. sound.complete busy m (fr.back m is);
        once = sound.once;
        idle = λ off. (let numbers = appended_numbers S shape s.world e need (F.frame kind payload) in
            let old = sound.idle off in (old.0, old.1, numbers.4 ∙ old.2 ∙ sym numbers.3));
        left = λ m has. fr.member m (sound.left m has);
        issued = λ m has. fr.member m (sound.issued m has);
        swept = λ d is. (let was : s.world.extents.swept d ≡ true = ap (λ (f : ℕ → Bool). f d) (sym fr.swept)
            ∙ is in (not_open d was, zero_below d was, (sound.swept d was).2));
        frozen = λ off d i is. (let was = was_frozen d i is in (frozen_closed off d i was, fr.grows d 0 (sound.frozen off d i was).1));
        damaged = sound.damaged;
        shown = sound.shown;
        unfilled = sound.unfilled;
        filled = λ full. filled_next (sound.filled full);
        apart = λ on. record {
          found = λ d i is. subst (λ (f : ℕ → ℕ). 0 < f d) (sym fr.found)
              ((sound.apart on).found d i (was_frozen d i is));
          one_sweep = λ d c is also. (sound.apart on).one_sweep d c (was_swept d is) (was_swept c also);
          copied = λ some c has.
              (let old = (sound.apart on).copied (ap (λ (f : ℕ → Bool). any_below f S.extents) (sym fr.swept) ∙ some) c has in (
                (
                  old.0.0,
                  carry_reads S F s.opening _ _ _ _ _ _ fr.carries fr.still c.from (F.frame ChunkFrame old.0.0) old.0.1,
                  carry_reads S F s.opening _ _ _ _ _ _ fr.carries fr.still c.to (F.frame ChunkFrame old.0.0) old.0.2,
                  old.0.3,
                ),
                ap (λ (f : ℕ → Bool). f c.from.extent) fr.swept ∙ old.1,
              ));
        };
      };
      opened = refl;
      opening = refl;
      table = refl;
      runs = refl;
      start = refl;
      count = refl;
      commands = refl;
      root = fr.root;
      generation = fr.generation;
      swept = fr.swept;
      carries = fr.carries;
      still = fr.still;
      reads = λ long. record {
        passes = record {
          generation = ap (λ (f : ℕ → ℕ). f e) fr.generation;
          below = (let n : 0 < length (F.frame kind payload) = format.some_page kind payload in
              let there : next.world.extents.pointer e ≡ s.world.extents.pointer e + length
              (F.frame kind payload) = fr.pointer_there in omega arith);
          inside = (
            exists,
            (let n : 0 < length (F.frame kind payload) = format.some_page kind payload in
                let f : s.world.extents.pointer e + length (F.frame kind payload) ≤ S.pages = fits in omega arith),
          );
          mark = frame_fits S shape (F.frame kind payload);
        };
        below = inl (le_of_eq (sym fr.pointer_there));
        inside = fits;
        within = may_reach S.fills refl;
        stand = fr.stand;
        marked = own_mark (mark_of S (F.frame kind payload));
        long = long (let f : s.world.extents.pointer e + length (F.frame kind payload) ≤ S.pages = fits in omega arith);
      };
    }
      where
        filled_next : IsFilledUp S F s.opening s.world.extents.pointer s.world.extents.generation s.world.extents.found
            (roots_of s.world.elements) → IsFilledUp S F s.opening next.world.extents.pointer
            next.world.extents.generation next.world.extents.found (roots_of next.world.elements)
        filled_next filled = subst (λ (rs : List Root). IsFilledUp S F s.opening next.world.extents.pointer
            next.world.extents.generation next.world.extents.found rs) (sym fr.roots)
            (filled_on S F s.opening s.world.extents.pointer s.world.extents.generation s.world.extents.found
            next.world.extents.pointer next.world.extents.generation next.world.extents.found
            (roots_of s.world.elements) filled sound.safe.frozen_before (λ d. inr (
              ap (λ (f : ℕ → ℕ). f d) fr.found,
              ap (λ (f : ℕ → ℕ). f d) fr.generation,
              no_less s.world.extents.pointer next.world.extents.pointer fr.grows d,
            )))

        -- what was found ends at the pointer or before it
        may_reach : (b : Bool) → S.fills ≡ b → s.world.extents.pointer e + length (F.frame kind payload)
            ≤ s.opening.limit (next_locator S s.world e (F.frame kind payload))
        may_reach true on = appended_reach S F s.opening s.world.extents.pointer s.world.extents.generation
            s.world.extents.found (roots_of s.world.elements) (sound.filled on) e (length (F.frame kind payload)) fits
            (mark_of S (F.frame kind payload))
        may_reach false off = le_trans fits (le_of_eq (sym (sound.unfilled off (next_locator S s.world e (F.frame kind payload)))))

        was_swept : (d : ℕ) → next.world.extents.swept d ≡ true → s.world.extents.swept d ≡ true
        was_swept d is = ap (λ (f : ℕ → Bool). f d) (sym fr.swept) ∙ is

        was_frozen : (d i : ℕ) → s.opening.frozen d i (next.world.extents.generation d) ≡ true
            → s.opening.frozen d i (s.world.extents.generation d) ≡ true
        was_frozen d i is = ap (λ (f : ℕ → ℕ). s.opening.frozen d i (f d)) (sym fr.generation) ∙ is

        not_frozen : S.fills ≡ false → (d i : ℕ) → s.opening.frozen d i (s.world.extents.generation d) ≡ true → d ≢ e
        not_frozen off d i is same = true≢false
            (sym is ∙ ap (λ (n : ℕ). s.opening.frozen n i (s.world.extents.generation n)) same
            ∙ thawed i (λ on. absurd (true≢false (sym on ∙ off))))

        -- an extent that is open then was so before, or is the one that is given
        frozen_closed : S.fills ≡ false → (d i : ℕ) → s.opening.frozen d i (s.world.extents.generation d) ≡ true
            → next.world.extents.open_extent ≢ Some d
        frozen_closed off d i is now_open = ⊎_elim
            (λ (was : s.world.extents.open_extent ≡ Some d). (sound.frozen off d i is).0 was)
            (λ given. not_frozen off d i is given.0)
            (opens S apart s.world.extents purpose (length (F.frame kind payload)) e d placed now_open)

        not_open : (d : ℕ) → s.world.extents.swept d ≡ true → next.world.extents.open_extent ≢ Some d
        not_open d is now_open = ⊎_elim (λ (was : s.world.extents.open_extent ≡ Some d). (sound.swept d is).0 was)
            (λ given. ⊎_elim
            (λ (not : s.world.extents.swept d ≡ false). true≢false (sym is ∙ not))
            (λ (none : s.world.extents.pointer d ≡ 0).
            let some : 0 < s.world.extents.pointer d = (sound.swept d is).1 in omega arith) given.1)
            (opens S apart s.world.extents purpose (length (F.frame kind payload)) e d placed now_open)

        zero_below : (d : ℕ) → s.world.extents.swept d ≡ true → 0 < next.world.extents.pointer d
        zero_below d is = fr.grows d 0 (sound.swept d is).1

  -- no section's version is past its greatest
  abbrev pub InRoom : World → Type 0
  InRoom v = (j : ℕ) → j < S.sections → v.superblocks j ≤ S.greatest_number

  appended_room : (apart : Bool) (w v : World) (purpose : Purpose) (bs : List Page) (l : Locator)
      (a : AppendBy S apart w purpose bs l v)
      → InRoom v → suc (w.superblocks (S.section a.extent)) ≤ S.greatest_number
  appended_room apart w v purpose bs l a room =
      le_trans (le_of_eq (sym
      (with_same w.superblocks (S.section a.extent) (suc (w.superblocks (S.section a.extent)))
      (S.section a.extent) refl)))
      (subst (λ (f : ℕ → ℕ). f (S.section a.extent) ≤ S.greatest_number)
      (ap (λ (x : World). x.superblocks) a.after ∙ appended_superblocks S w a.extent a.need bs)
      (room (S.section a.extent) (shape.section a.extent)))

  added_world : (apart : Bool) → (apart ≡ true → S.apart ≡ true) → (s : State) (v : World) (purpose : Purpose)
      (kind : FrameKind) (payload : List ℕ) (l : Locator)
      → Sound S F s → AppendBy S apart s.world purpose (F.frame kind payload) l v → InRoom v
      → Added s (record s { world = v }) l (F.frame kind payload)
  added_world apart by s v purpose kind payload l sound a room =
      subst₂ (λ (x : World) (y : Locator). Added s (record s { world = x }) y (F.frame kind payload)) (sym a.after)
      (sym a.at)
      (frame_added apart by s purpose kind payload a.extent a.need sound a.placed a.needs
      (appended_room apart s.world v purpose (F.frame kind payload) l a room))

  pub added : (apart : Bool) → (apart ≡ true → S.apart ≡ true) → (s t : State) (purpose : Purpose) (kind : FrameKind)
      (payload : List ℕ) (l : Locator) → Sound S F s
      → AppendsFrameBy S F apart s purpose kind payload l t → InRoom t.world → Added s t l (F.frame kind payload)
  added apart by s t purpose kind payload l sound a room = subst (λ (x : State). Added s x l (F.frame kind payload))
      (sym a.2) (added_world apart by s a.0 purpose kind payload l sound a.1
      (subst (λ (x : State). InRoom x.world) a.2 room))

  -- without the rule that keeps chunks and runs apart: a frame isn't put where a sweep goes on
  pub away : (s t : State) (purpose : Purpose) (kind : FrameKind) (payload : List ℕ) (l : Locator) → Sound S F s
      → AppendsFrame S F s purpose kind payload l t → (e : ℕ) → s.world.extents.swept e ≡ true → l.extent ≢ e
  away s t purpose kind payload l sound a e is same =
      let at : a.1.extent ≡ e = ap (λ (x : Locator). x.extent) (sym a.1.at) ∙ same in ⊎_elim
      (λ open_one. (sound.swept e is).0 (open_one.0 ∙ ap (λ (x : ℕ). Some x) at))
      (λ empty. let none : s.world.extents.pointer a.1.extent ≡ 0 = empty.1.1 in
      let some : 0 < s.world.extents.pointer e = (sound.swept e is).1 in
      let same_pointer : s.world.extents.pointer a.1.extent ≡ s.world.extents.pointer e = ap s.world.extents.pointer at in
      omega arith) a.1.placed

  -- the chunks of a put
  pub record PutIn (s t : State) (ls : List Locator) (cs : List (List ℕ)) : Type 0 where
    pub sound : Sound S F t
    pub opened : t.opened ≡ s.opened
    pub table : t.table ≡ s.table
    pub runs : t.runs ≡ s.runs
    pub start : t.start ≡ s.start
    pub count : t.count ≡ s.count
    pub commands : t.commands ≡ s.commands
    pub carries : (d k : ℕ) → k < s.world.extents.pointer d → Inside S d k
        → (newest_page t (S.address d k) ≡ newest_page s (S.address d k))
        × (t.world.extents.generation d ≡ s.world.extents.generation d) × (k < t.world.extents.pointer d)
    pub still : (d k : ℕ) → s.opening.frozen d k (s.world.extents.generation d) ≡ true → 0 < s.world.extents.pointer d
        → Inside S d k → newest_page t (S.address d k) ≡ newest_page s (S.address d k)
    pub root : t.world.root ≡ s.world.root
    pub chunks : AreLong S F cs
        → Chunks S F t.opening (newest_page t) t.world.extents.pointer t.world.extents.generation ls cs

  put_world : (apart : Bool) → (apart ≡ true → S.apart ≡ true) → (s : State) (v : World) (cs : List (List ℕ))
      (ls : List Locator) → Sound S F s
      → AppendAllBy S apart s.world ForPut (chunk_frames S F cs) ls v → InRoom v → PutIn s (record s { world = v }) ls cs
  put_world apart by s v [] [] sound is room = subst (λ (x : World). PutIn s (record s { world = x }) [] []) (sym is) (record {
    sound = sound;
    opened = refl;
    table = refl;
    runs = refl;
    start = refl;
    count = refl;
    commands = refl;
    carries = λ d k lt inside. (refl, refl, lt);
    still = λ d k fz some inside. refl;
    root = refl;
    chunks = λ long. tt;
  })
  put_world apart by s v [] (l ∷ ls) sound is room = absurd is
  put_world apart by s v (c ∷ cs) [] sound is room = absurd is
  put_world apart by s v (c ∷ cs) (l ∷ ls) sound is room =
      let a = added_world apart by s is.0 ForPut ChunkFrame c l sound is.1
      (λ j lt. le_trans (all_up S apart is.0 v ForPut (chunk_frames S F cs) ls is.2 j) (room j lt)) in
      let rest = put_world apart by (record s { world = is.0 }) v cs ls a.sound is.2 room in
      record {
        sound = rest.sound;
        opened = rest.opened ∙ a.opened;
        table = rest.table ∙ a.table;
        runs = rest.runs
            ∙ a.runs;
        start = rest.start ∙ a.start;
        count = rest.count ∙ a.count;
        commands = rest.commands
            ∙ a.commands;
        root = rest.root ∙ a.root;
        carries = λ d k lt inside. (let one = a.carries d k lt inside in let two = rest.carries d k one.2 inside in
            (two.0 ∙ one.0, two.1 ∙ one.1, two.2));
        still = λ d k fz some inside.
            (let one = a.carries d 0 some (inside.0, (let lt : k < S.pages = inside.1 in omega arith)) in
            rest.still d k (ap (s.opening.frozen d k) one.1 ∙ fz) one.2 inside ∙ a.still d k fz some inside);
        chunks = λ long. (
          carry_reads S F s.opening _ _ _ _ _ _ rest.carries rest.still l (F.frame ChunkFrame c)
              (a.reads (long c (inl refl))),
          rest.chunks (λ x has. long x (inr has)),
        );
      }

  pub put_in : (apart : Bool) → (apart ≡ true → S.apart ≡ true) → (s t : State) (cs : List (List ℕ)) (ls : List Locator)
      → Sound S F s → AppendsChunksBy S F apart s cs ls t → InRoom t.world → PutIn s t ls cs
  put_in apart by s t cs ls sound a room = subst (λ (x : State). PutIn s x ls cs) (sym a.2)
      (put_world apart by s a.0 cs ls sound a.1 (subst (λ (x : State). InRoom x.world) a.2 room))
