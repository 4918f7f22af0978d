-- The store as it is opened on an image.
use Rattle.std.specs.Prelude.{◌∷◌, ℕ, zero, suc, false, List, None, [], if◌then◌else◌}
use Rattle.law_machine.specs.Apart.{any_run_on, freed, named}
use Rattle.law_machine.specs.Cut.{Cut}
use Rattle.law_machine.specs.Device.{Page, Shape}
use Rattle.law_machine.specs.Element.{A_root, A_superblock, Element, Map, Root, Superblock}
use Rattle.law_machine.specs.Extents.{Extents}
use Rattle.law_machine.specs.Formats.{Formats, opening_in}
use Rattle.law_machine.specs.Machine.{World}
use Rattle.law_machine.specs.Recovery.{Recovers}
use Rattle.law_machine.specs.State.{State}

module _ (S : Shape) (F : Formats) where
  -- an image that gives this number of commands and this map
  module _ (img : ℕ → Page) (n : ℕ) (m : Map) (image_gives : Recovers S F img n m) where
    open image_gives use {formats, versions, recorded, pointers, generations, version, runs}

    -- the version of a section that was read
    abbrev pub superblock_read : ℕ → Superblock
    superblock_read j = record {
      format = formats j;
      section = j;
      version = versions j;
      recorded = recorded j;
      pointers = pointers;
      generations = generations;
      writes = 0;
      root = 0;
    }

    -- the versions of the sections below this one
    abbrev pub superblocks_read : ℕ → List Element
    superblocks_read zero = []
    superblocks_read (suc j) = A_superblock (superblock_read j) ∷ superblocks_read j

    -- the root that was read; where chunks and runs lie apart it counts as empty what it doesn't name
    abbrev pub root_read : Root
    root_read = record {
      version = version;
      commands = n;
      runs = runs;
      superblocks = versions;
      pages = 0;
      map = m;
      writes = λ j. 0;
      pointers = if S.apart then named pointers runs else pointers;
      generations = generations;
    }

    -- what is persistent: what was read
    abbrev pub nothing_staged : Cut
    nothing_staged = record { writes = λ k. false; superblocks = versions; root = version }

    -- the extents as they were read: none is open, none was reset, none is being swept. Where chunks and runs lie apart
    -- those of runs are the ones on which a run lies
    abbrev pub extents_read : Extents
    extents_read = record {
      pointer = pointers;
      generation = generations;
      reset = λ e. 0;
      open_extent = None;
      swept = λ e. false;
      of_runs = if S.apart then any_run_on runs else λ e. false;
      found = if S.apart then pointers else λ e. 0;
      fresh = None;
      last = None;
    }

    -- what was staged, the extents and what is persistent, at open
    abbrev pub opened_world : World
    opened_world = record {
      elements = A_root root_read ∷ superblocks_read S.sections;
      extents = extents_read;
      written = 0;
      superblocks = versions;
      behind = λ j. 0;
      root = version;
      persistent = nothing_staged;
      round = nothing_staged;
    }

    -- the state as it was read
    abbrev pub state_read : State
    state_read = record {
      opened = img;
      world = opened_world;
      table = [];
      runs = runs;
      copies = [];
      start = m;
      opening = opening_in S F img pointers generations;
      count = n;
      commands = [];
      round_out = false;
      left = [];
      issued = [];
      halted = false;
    }

    -- the state at open: where chunks and runs lie apart blank extents are reset, which writes nothing
    abbrev pub opened_state : State
    opened_state = record state_read {
      world = record opened_world { extents = if S.apart then (freed S state_read).world.extents else extents_read };
    }
