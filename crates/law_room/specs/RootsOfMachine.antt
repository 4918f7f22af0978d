-- What a crash needs: of each root of the machine that a crash may leave, a root of room that names the same.
use Rattle.std.specs.Prelude.{◌≡◌, ◌<◌, ◌≤◌, ℕ, true, map}
use Rattle.law_machine.specs.Device.{Shape}
use Rattle.law_machine.specs.Element.{Root as StagedRoot, roots_of, writes_of}
use Rattle.law_machine.specs.Formats.{Formats}
use Rattle.law_machine.specs.Guard.{page_as_staged}
use Rattle.law_machine.specs.Lists.{◌∈◌}
use Rattle.law_machine.specs.Safe.{FitsExtent}
use Rattle.law_machine.specs.State.{State}
use Rattle.law_room.specs.Events.{Does, Open, forget, opened}
use Rattle.law_room.specs.OfMachine.{HasRoomNow, Names}
use Rattle.law_room.specs.Rooms.{Room, Root, is_named}

-- p names what lives now, copies left aside, and no more pages of an extent than are given now
pub record NamesNow (r : Room) (p : Root) : Type 0 where
  pub chunks : map forget p.chunks ≡ map forget r.chunks
  pub runs : p.runs ≡ r.runs
  pub given : (e : ℕ) → is_named p e ≡ true → p.pointers e ≤ r.pointer e

-- where the table is empty a root names what lives now
abbrev pub IsNamedNow : Room → Type 0
IsNamedNow r = r.rooted ≡ true → (p : Root) × (p ∈ r.roots) × NamesNow r p

module _ (S : Shape) (F : Formats) where
  -- p is in room what q is in the machine: it names what the runs of q name, on the pages as they were when q was staged
  pub record IsRootOf (s : State) (q : StagedRoot) (p : Root) : Type 0 where
    pub names : Names S F s.opening (page_as_staged S q s.opened (writes_of s.world.elements)) q.pointers
        q.generations q.runs p
    pub fits : (e : ℕ) → is_named p e ≡ true → p.pointers e ≤ S.pages

  -- room has each root that a crash may leave, from the persistent one on
  pub record HasRootsOf (s : State) (r : Room) : Type 0 where
    pub staged : (q : StagedRoot) → q ∈ roots_of s.world.elements → s.world.persistent.root ≤ q.version
        → (p : Root) × (p ∈ r.roots) × IsRootOf s q p
    pub present : IsNamedNow r

  -- the state has room, and so has what any crash leaves of it: r is its room, and has its roots
  pub record IsRoomy (s : State) (r : Room) : Type 0 where
    pub room : HasRoomNow S F s r
    pub roots : HasRootsOf s r

  -- A store that is opened with these pointers, and whose state is t then, has room: that of an opening of r at one of its roots.
  abbrev pub OpensRoomy : Room → (pointers : ℕ → ℕ) → (t : State) → Type 0
  OpensRoomy r pointers t = (p : Root) × Does S S.run_extents r (Open p pointers) (opened p pointers)
      × IsRoomy t (opened p pointers)

  -- the page of a section tells the pointers of its extents, in whatever format and version, and whatever root it records
  abbrev pub TellsPointers : Type 0
  TellsPointers = (f k j v w a b : ℕ) (p g q h : ℕ → ℕ) → j < S.sections → (1 ≤ v) × (v ≤ S.greatest_number)
      → (1 ≤ w) × (w ≤ S.greatest_number) → ((e : ℕ) → FitsExtent S (p e) (g e))
      → ((e : ℕ) → FitsExtent S (q e) (h e)) → F.superblock f j v a p g ≡ F.superblock k j w b q h
      → (e : ℕ) → e < S.extents → S.section e ≡ j → p e ≡ q e
