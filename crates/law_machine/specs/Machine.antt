-- The store as a machine of primitive moves: what each event of the core is made of.
use Rattle.std.specs.Prelude.{◌⊎◌, ◌<◌, ◌∷◌, ℕ, suc, true, List, if◌then◌else◌}
use Rattle.law_machine.specs.Cut.{Cut, page_in}
use Rattle.law_machine.specs.Device.{Page, Shape}
use Rattle.law_machine.specs.Element.{A_root, A_superblock, A_write, Element, Map, Root, Run, Superblock, Write, writes_of}
use Rattle.law_machine.specs.Extents.{Extents, emptied, forgotten}
use Rattle.law_machine.specs.Format.{number_of}
use Rattle.law_machine.specs.Lists.{with}

-- what was staged, the extents, and what is persistent
pub record World : Type 0 where
  -- all that was staged since the store was opened, newest first, over the superblock and the root that were read
  pub elements : List Element
  pub extents : Extents
  -- the number of the last plain write; of each section the last version and the plain writes that it needs; the last
  -- version of the root
  pub written : ℕ
  pub superblocks : ℕ → ℕ
  pub behind : ℕ → ℕ
  pub root : ℕ
  -- what is persistent, and that with the round that is out; the same where none is
  pub persistent : Cut
  pub round : Cut

-- the moves
pub data Move : Type 0 where
  -- one page of a frame is staged
  StagePage : (page : ℕ) (bytes : Page) → Move
  -- the superblock version behind a frame is staged, which needs this version of the root
  StageSuperblock : (section root : ℕ) → Move
  -- a root is staged. Its own record of the pointers may count an extent as empty that is reset right after it
  StageRoot : (commands : ℕ) (runs : List Run) (map : Map) (pointers : ℕ → ℕ) → Move
  -- an extent is emptied
  ResetExtent : (extent : ℕ) → Move
  -- a round goes out: what is persistent, with its members
  BeginRound : (round : Cut) → Move
  -- it is persistent
  EndRound : Move

-- all that was staged
abbrev pub everything : World → Cut
everything w = record { writes = λ n. true; superblocks = w.superblocks; root = w.root }

-- the newest bytes of each page: the last write to it that was staged, else what was there at open
abbrev pub newest_in : (opened : ℕ → Page) → World → ℕ → Page
newest_in opened w = page_in (everything w) opened (writes_of w.elements)

module _ (S : Shape) where
  -- a number is past its greatest: of a plain write, of a version, or a generation
  abbrev pub PastGreatest : World → Type 0
  PastGreatest w = (S.greatest_number < w.written)
      ⊎ ((j : ℕ) × (j < S.sections) × (S.greatest_number < w.superblocks j))
      ⊎ (S.greatest_number < w.root)
      ⊎ ((e : ℕ) × (S.greatest_generation < w.extents.generation e))

  -- the page write that is staged now
  abbrev pub write_now : World → ℕ → Page → Write
  write_now w p b = record { number = suc w.written; page = p; bytes = b; root = w.extents.reset (S.extent p) }

  -- the superblock version that is staged now
  abbrev pub superblock_now : World → (section root : ℕ) → Superblock
  superblock_now w j r = record {
    format = number_of S.format;
    section = j;
    version = suc (w.superblocks j);
    recorded = w.persistent.root;
    pointers = w.extents.pointer;
    generations = w.extents.generation;
    writes = if S.pages_first then w.written else 0;
    root = r;
  }

  -- the root that is staged now
  abbrev pub root_now : World → ℕ → List Run → Map → (ℕ → ℕ) → Root
  root_now w n runs m pointers = record {
    version = suc w.root;
    commands = n;
    runs = runs;
    superblocks = w.superblocks;
    pages = if S.pages_first then 0 else w.written;
    map = m;
    writes = w.behind;
    pointers = pointers;
    generations = w.extents.generation;
  }

  -- what each move does
  abbrev pub happens : World → Move → World
  happens w (StagePage p b) = record w {
    elements = A_write (write_now w p b) ∷ w.elements;
    extents = record w.extents { pointer = with w.extents.pointer (S.extent p) (suc (S.index p)) };
    written = suc w.written;
  }
  happens w (StageSuperblock j r) = record w {
    elements = A_superblock (superblock_now w j r) ∷ w.elements;
    superblocks = with w.superblocks j (suc (w.superblocks j));
    behind = with w.behind j w.written;
  }
  happens w (StageRoot n runs m pointers) = record w {
    elements = A_root (root_now w n runs m pointers) ∷ w.elements;
    root = suc w.root;
  }
  happens w (ResetExtent e) = record w { extents = forgotten S.apart (emptied w.extents e w.root) e }
  happens w (BeginRound r) = record w { round = r }
  happens w EndRound = record w { persistent = w.round }
