-- What a store has in memory of what was read: its graph, where nothing was staged, and its index.
use Rattle.std.specs.Prelude.{◌∷◌, ℕ, List, [], None}
use Rattle.cs_deps.specs.State.{State as GraphState}
use Rattle.cs_index.specs.State.{State as IndexState}
use Rattle.law_machine.specs.Element.{Run}
use Rattle.law_machine.specs.Format.{Format}

-- the versions of a superblock's sections and of the root, as the families are numbered: the root's stands behind section 0's
abbrev pub by_family : (versions : List ℕ) → (root : ℕ) → List ℕ
by_family [] root = root ∷ []
by_family (version ∷ versions) root = version ∷ root ∷ versions

-- the graph of a store whose sections and root have these versions, where nothing was staged
abbrev pub graph_at : (versions : List ℕ) → (root : ℕ) → GraphState
graph_at versions root = record {
  staging = record {
    pending = record { persistent = by_family versions root; waiting = [] };
    staged = 0;
    latest = by_family versions root;
  };
  round = None;
  pages = [];
  room = 0;
}

-- the index of these runs, newest first, with an empty table, in a store of this format
abbrev pub index_at : (runs : List Run) → (format : Format) (limit : ℕ) → IndexState
index_at runs format limit = record { table = []; runs = runs; format = format; limit = limit; room = 0 }
