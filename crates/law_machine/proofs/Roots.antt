-- An entry and a root keep a state sound.
use Rattle.std.proofs.Common.{◌≡◌, ◌⊎◌, inl, inr, ⊎_elim, ℕ, suc, ◌+◌, ◌≤◌, true, false, nat_le, List, [], ◌∷◌, length, Some, ◌==◌, le_refl, le-leb, eq-eqb, ne_eqb, refl, sym, ap, ◌∙◌, arith}
use Rattle.law_machine.specs.Device.{IsShape, Shape}
use Rattle.law_machine.specs.Element.{A_root, A_superblock, A_write, Element, Entry, Locator, Map, Root, Run, roots_of}
use Rattle.law_machine.specs.Events.{newest_page, rooted}
use Rattle.law_machine.specs.Formats.{Formats, places}
use Rattle.law_machine.specs.Frames.{IsFormat}
use Rattle.law_machine.specs.Index.{Gives, Holds, InBounds, Passes, Value, entries_of}
use Rattle.law_machine.specs.Lists.{◌∈◌}
use Rattle.law_machine.specs.Machine.{StageRoot, World, happens, root_now}
use Rattle.law_machine.specs.Recovery.{RootGives}
use Rattle.law_machine.specs.Round.{IsMember}
use Rattle.law_machine.specs.Safe.{Allowed, Settled}
use Rattle.law_machine.specs.Sound.{Sound}
use Rattle.law_machine.specs.State.{Command, State, after_all, changed, content_of, map_after, map_now}
use Rattle.law_machine.proofs.ClosedSets.{gt-leb}
use Rattle.law_machine.proofs.Parts.{each}
use Rattle.law_machine.proofs.RootMoves.{keeps_root}
use Rattle.law_machine.proofs.Carries.{root_local}
use Rattle.law_machine.proofs.Filled.{filled_rooted}
use Rattle.law_machine.proofs.Gives.{gives_set}

-- the next root and its runs can be spelled, and keep to their bounds
abbrev pub RootFits : (S : Shape) (F : Formats) → State → List Run → Type 0
RootFits S F s runs = (F.fits_root (suc s.world.root) (s.count + length s.commands) (places runs) ≡ true)
    × ((run : Run) → run ∈ runs → F.fits_run run.entries ≡ true)
    × InBounds S (suc s.world.root) (s.count + length s.commands) (length runs) (entries_of runs)

pub map_after_all : (start : Map) (cs : List Command) → map_after start cs (length cs) ≡ after_all start cs
map_after_all start [] = refl
map_after_all start (c ∷ cs) = let test : nat_le (suc (length cs)) (length cs) ≡ false = gt-leb (suc (length cs))
    (length cs) (le_refl _) in rw test

pub map_after_more : (start : Map) (c : Command) (cs : List Command) (n : ℕ) → n ≤ length cs
    → map_after start (c ∷ cs) n ≡ map_after start cs n
map_after_more start c cs n le = let test : nat_le n (length cs) ≡ true = le-leb n (length cs) le in rw test

module _ (S : Shape) (F : Formats) (shape : IsShape S) (format : IsFormat S F) where
  -- an entry is put on the table, and commands may be, and the world stays
  entered : (s : State) (entry : Entry) (commands : List Command) → Sound S F s
      → ((r : Root) → r ∈ roots_of s.world.elements → (n : ℕ) × (n ≤ length commands)
      × (r.commands ≡ s.count + n) × (r.map ≡ map_after s.start commands n))
      → Gives S F s.opening (newest_page s) s.world.extents.pointer s.world.extents.generation (entry ∷ s.table) s.runs
      (after_all s.start commands)
      → Sound S F (record s { table = entry ∷ s.table; commands = commands })
  entered s entry commands sound maps gives = record {
    safe = sound.safe;
    settled = sound.settled;
    gives = gives;
    maps = maps;
    caught_up = λ none. absurd (let e : entry ∷ s.table ≡ [] = none in cc);
    left = sound.left;
    issued = sound.issued;
    complete = sound.complete;
    once = sound.once;
    idle = sound.idle;
    swept = sound.swept;
    frozen = sound.frozen;
    damaged = sound.damaged;
    shown = sound.shown;
    unfilled = sound.unfilled;
    filled = sound.filled;
    apart = λ on. record { found = (sound.apart on).found; one_sweep = (sound.apart on).one_sweep; copied = (sound.apart on).copied };
  }

  -- where each locator passes and holds what its id then has
  module _ (s : State) (id : ℕ) (ls : List Locator) (sound : Sound S F s)
      (passes : (l : Locator) → l ∈ ls
      → Passes S F (newest_page s) s.world.extents.pointer s.world.extents.generation l)
      (hold : (l : Locator) → l ∈ ls
      → Holds S F s.opening (newest_page s) s.world.extents.pointer s.world.extents.generation l) where
    pub with_entry : (c : Command)
        → Value S F s.opening (newest_page s) s.world.extents.pointer s.world.extents.generation (Some ls)
        (content_of c.1) → id ≡ c.0
        → Sound S F (record s { table = record { id = id; locators = ls } ∷ s.table; commands = c ∷ s.commands })
    with_entry c value same = entered s (record { id = id; locators = ls }) (c ∷ s.commands) sound
        (λ r is. (let old = sound.maps r is in (
          old.0,
          (let le : old.0 ≤ length s.commands = old.1 in omega arith),
          old.2,
          old.3 ∙ sym (map_after_more s.start c s.commands old.0 old.1),
        )))
        (gives_set S F shape format s.opening (newest_page s) _ _ s.table s.runs (map_now s)
        (changed (map_now s) c) id ls sound.gives passes hold
        (let test : (id == c.0) ≡ true = eq-eqb id c.0 same in rw test value)
        (λ x not. let test : (x == c.0) ≡ false = ne_eqb x c.0 (λ is. not (is ∙ sym same)) in rw test))

    pub moved_entry :
        Value S F s.opening (newest_page s) s.world.extents.pointer s.world.extents.generation (Some ls) (map_now s id)
        → Sound S F (record s { table = record { id = id; locators = ls } ∷ s.table })
    moved_entry value = entered s (record { id = id; locators = ls }) s.commands sound sound.maps
        (gives_set S F shape format s.opening (newest_page s) _ _ s.table s.runs (map_now s)
        (map_now s) id ls sound.gives passes hold value (λ x not. refl))

  -- a root is staged
  pub root_staged : (s : State) (runs : List Run) (pointers : ℕ → ℕ) → Sound S F s
      → ((e : ℕ) → (pointers e ≡ s.world.extents.pointer e) ⊎ (pointers e ≡ 0))
      → Gives S F s.opening (newest_page s) pointers s.world.extents.generation [] runs (map_now s)
      → RootFits S F s runs
      → Allowed S (RootGives S F s.opening) s.opening.frozen s.opened s.world
      (StageRoot (s.count + length s.commands) runs (map_now s) pointers)
  root_staged s runs pointers sound agree gives fit = (
    sound.settled,
    agree,
    (gives, fit.0, fit.1, fit.2),
    λ r is. (let m = sound.maps r is in let c : r.commands ≡ s.count + m.0 = m.2 in
        let le : m.0 ≤ length s.commands = m.1 in omega arith),
  )

  pub root_maps : (s : State) (runs : List Run) (pointers : ℕ → ℕ) → Sound S F s → (r : Root)
      → r ∈ (root_now S s.world (s.count + length s.commands) runs (map_now s) pointers ∷ (roots_of s.world.elements))
      → (n : ℕ) × (n ≤ length s.commands) × (r.commands ≡ s.count + n) × (r.map ≡ map_after s.start s.commands n)
  root_maps s runs pointers sound = each (λ (r : Root). (n : ℕ) × (n ≤ length s.commands)
      × (r.commands ≡ s.count + n) × (r.map ≡ map_after s.start s.commands n)) _ _
      (length s.commands, le_refl _, refl, sym (map_after_all s.start s.commands)) sound.maps

  pub root_last : (s : State) (runs : List Run) (pointers : ℕ → ℕ) → Sound S F s → (r : Root)
      → r ∈ (root_now S s.world (s.count + length s.commands) runs (map_now s) pointers ∷ roots_of s.world.elements)
      → r.version ≡ suc s.world.root → r.commands ≡ s.count + length s.commands
  root_last s runs pointers sound = each
      (λ (r : Root). r.version ≡ suc s.world.root → r.commands ≡ s.count + length s.commands) _ _
      (λ ver. refl) (λ r is ver. absurd (let old : r.version ≤ s.world.root = (sound.safe.roots_below r is).0 in
      omega arith))

  pub root_settled : (w : World) (n : ℕ) (runs : List Run) (m : Map) (pointers : ℕ → ℕ) → ((e : ℕ) → Settled S w e)
      → (e : ℕ) → Settled S (happens S w (StageRoot n runs m pointers)) e
  root_settled w n runs m pointers settled e = let o = settled e in
      record { last = o.last; pages = o.pages; current = o.current }

  pub root_member : (w : World) (n : ℕ) (runs : List Run) (m : Map) (pointers : ℕ → ℕ) (x : Element)
      → IsMember S w x → IsMember S (happens S w (StageRoot n runs m pointers)) x
  root_member w n runs m pointers (A_write x) is = is
  root_member w n runs m pointers (A_superblock u) is = is
  root_member w n runs m pointers (A_root r) is = (inr is.0, is.1, is.2)

  pub root_back : (s : State) (runs : List Run) (pointers : ℕ → ℕ) → Sound S F s → (x : Element)
      → IsMember S (happens S s.world (StageRoot (s.count + length s.commands) runs (map_now s) pointers)) x
      → IsMember S s.world x
  root_back s runs pointers sound (A_write x) is = is
  root_back s runs pointers sound (A_superblock u) is = is
  root_back s runs pointers sound (A_root r) is = (
    ⊎_elim
        (λ (is_new : r ≡ root_now S s.world (s.count + length s.commands) runs (map_now s) pointers). absurd (
        let above : suc s.world.root ≡ s.world.round.root = ap (λ (q : Root). q.version) (sym is_new) ∙ is.1 in
        let below : s.world.round.root ≤ s.world.root = sound.safe.round_staged.root in omega arith))
        (λ (old : r ∈ roots_of s.world.elements). old) is.0,
    is.1,
    is.2,
  )

  -- a root is staged whose own record of the pointers may count extents as empty
  pub rooted_under : (s : State) (runs : List Run) (pointers : ℕ → ℕ) → Sound S F s
      → ((e : ℕ) → (pointers e ≡ s.world.extents.pointer e) ⊎ (pointers e ≡ 0))
      → Gives S F s.opening (newest_page s) s.world.extents.pointer s.world.extents.generation [] runs (map_now s)
      → Gives S F s.opening (newest_page s) pointers s.world.extents.generation [] runs (map_now s)
      → RootFits S F s runs → Sound S F (rooted S F s runs pointers)
  rooted_under s runs pointers sound agree gives under fit = record {
    frozen = sound.frozen;
    damaged = sound.damaged;
    shown = sound.shown;
    unfilled = sound.unfilled;
    filled = λ on. filled_rooted S F s.opening s.world.extents.pointer s.world.extents.generation s.world.extents.found
        (roots_of s.world.elements) (sound.filled on)
        (root_now S s.world (s.count + length s.commands) runs (map_now s) pointers) refl agree;
    apart = λ on. record {
      found = (sound.apart on).found;
      one_sweep = (sound.apart on).one_sweep;
      copied = (sound.apart on).copied;
    };
    safe = keeps_root S (RootGives S F s.opening) s.opening.frozen s.opened (root_local S F shape) s.world
        (s.count + length s.commands) runs (map_now s) pointers
        (root_staged s runs pointers sound agree under fit) sound.safe;
    settled = root_settled s.world (s.count + length s.commands) runs (map_now s) pointers sound.settled;
    gives = gives;
    maps = root_maps s runs pointers sound;
    caught_up = λ none. root_last s runs pointers sound;
    complete = λ busy m is. sound.complete busy m (root_back s runs pointers sound m is);
    once = sound.once;
    idle = sound.idle;
    left = λ m has. root_member s.world (s.count + length s.commands) runs (map_now s) pointers m (sound.left m has);
    issued = λ m has. root_member s.world (s.count + length s.commands) runs (map_now s) pointers m
        (sound.issued m has);
    swept = sound.swept;
  }

  pub rooted_sound : (s : State) (runs : List Run) → Sound S F s
      → Gives S F s.opening (newest_page s) s.world.extents.pointer s.world.extents.generation [] runs (map_now s)
      → RootFits S F s runs
      → Sound S F (rooted S F s runs s.world.extents.pointer)
  rooted_sound s runs sound gives fit =
      rooted_under s runs s.world.extents.pointer sound (λ e. inl refl) gives gives fit
