-- A graph in which room was made is the same graph.
use Rattle.std.proofs.Common.{◌≡◌, ◌∙◌, ◌+◌, ◌≤◌, ℕ, List, sym, ap, subst, arith}
use Rattle.std.specs.Prelude.{nat_eq, option_map, vec_len, vec_capacity}
use Rattle.std.specs.HashMap.{get as get_number, spare}
use Rattle.slab.specs.Slab.{Slab, get, HasRoomFor}
use Rattle.cs_deps.specs.contracts.graphs.Graph.{the_view, the_invariant}
use Rattle.cs_deps.specs.declared.elements.Element.{Element}
use Rattle.cs_deps.specs.declared.graphs.Graph.TheInside.{Inside}
use Rattle.cs_deps.specs.declared.records.Record.{Record}
use Rattle.cs_deps.specs.Named.{Named}
use Rattle.cs_deps.specs.Newest.{AreNewest}
use Rattle.cs_deps.specs.Records.{AreFiled, writes_of}
use Rattle.cs_deps.specs.State.{State}
use Rattle.cs_deps.specs.Entries.{state_of, IsHeld}
use Rattle.cs_deps.specs.Levels.{HasRoom, IsSameBut, live_of}
use Rattle.cs_deps.proofs.FiledSteps.{filed_same, room_same}
use Rattle.cs_deps.proofs.Live.{live_same}
use Rattle.cs_deps.proofs.Noted.{newest_same}
use Rattle.cs_deps.proofs.Queues.{indexed_same}

-- m has the parts of g, with no less room
pub record IsRoomy (g m : Inside) : Type 0 where
  pub list : m.entries.list.items ≡ g.entries.list.items
  pub floors : m.entries.floors.items ≡ g.entries.floors.items
  pub records : m.records ≡ record g.records { capacity = m.records.capacity }
  pub newest : (p : ℕ) → get_number nat_eq m.newest p ≡ get_number nat_eq g.newest p
  pub levels : IsSameBut g.levels m.levels

-- there is room for so many more stagings
pub record Fits (m : Inside) (room : ℕ) : Type 0 where
  pub list : vec_len m.entries.list + room ≤ vec_capacity m.entries.list
  pub places : room ≤ vec_len m.entries.places
  pub records : HasRoomFor m.records room
  pub newest : room ≤ spare m.newest
  pub levels : HasRoom m.levels room

-- what there was room for fits still, where no part has less
pub still_fits : (g m : Inside) → the_invariant g → IsRoomy g m → vec_len m.entries.list ≡ vec_len g.entries.list → vec_capacity g.entries.list ≤ vec_capacity m.entries.list
    → vec_len g.entries.places ≤ vec_len m.entries.places → g.records.capacity ≤ m.records.capacity → spare g.newest ≤ spare m.newest → Fits m g.room
still_fits g m was same count entries places records newest = record {
  list = omega (arith, was.entries_fit, count, entries);
  places = omega (arith, was.places_fit, places);
  records = room_same g.records m.records same.records records g.room was.records_fit;
  newest = omega (arith, was.newest_fit, newest);
  levels = same.levels.room g.room was.indexed.room;
}

-- g with the parts of h that change as elements are staged
abbrev pub over : Inside → Inside → Inside
over g h = record g { entries = h.entries; records = h.records; newest = h.newest; levels = h.levels }

-- the entries of h that are of use
abbrev pub live_in : Inside → List (Element × Named)
live_in h = live_of h.levels h.entries.floors.items h.entries.list.items

-- what h is with these entries of use, n plain writes, these last versions and this room
abbrev pub state_in : Inside → List (Element × Named) → ℕ → List ℕ → ℕ → State
state_in h live n latest room = state_of h.persistent.items live n latest (option_map (λ r. r.items) h.round) (writes_of h.records.slots) room

-- h keeps what a graph does that is this, with these entries and floors
abbrev pub Holds : Inside → ℕ → List ℕ → ℕ → (live entries : List (Element × Named)) → List ℕ → Type 0
Holds h n latest room live entries floors = IsHeld (state_in h live n latest room) live entries floors (vec_len h.entries.list) (vec_capacity h.entries.list) (vec_len h.entries.places) h.records (λ p. get_number nat_eq h.newest p) (spare h.newest) h.levels

pub holds : (h : Inside) (n : ℕ) (latest : List ℕ) (room : ℕ) (live entries : List (Element × Named)) (floors : List ℕ) → h.entries.list.items ≡ entries → h.entries.floors.items ≡ floors → live_of h.levels floors entries ≡ live → Holds h n latest room live entries floors → Holds h n latest room (live_in h) h.entries.list.items h.entries.floors.items
holds h n latest room live entries floors list_is floors_is live_is held =
    subst (λ (es : List (Element × Named)). Holds h n latest room (live_of h.levels h.entries.floors.items es) es h.entries.floors.items) (sym list_is)
    (subst (λ (fs : List ℕ). Holds h n latest room (live_of h.levels fs entries) entries fs) (sym floors_is)
    (subst (λ (ls : List (Element × Named)). Holds h n latest room ls entries floors) (sym live_is) held))

-- the entries of use, by other names
pub live_is : (h : Inside) (entries : List (Element × Named)) (floors : List ℕ) → h.entries.list.items ≡ entries → h.entries.floors.items ≡ floors → live_in h ≡ live_of h.levels floors entries
live_is h entries floors list_is floors_is = ap (live_of h.levels h.entries.floors.items) list_is ∙ ap (λ fs. live_of h.levels fs entries) floors_is

module _ (g : Inside) (held : the_invariant g) (m : Inside) (same : IsRoomy g m) where
  pub same_key : (key : ℕ) → get m.records key ≡ get g.records key
  same_key key = ap (λ (r : Slab Record). get r key) same.records

  pub filed_roomy : AreFiled m.levels m.records
  filed_roomy = filed_same g.levels m.levels g.records m.records held.filed same.levels same_key

  pub newest_roomy : AreNewest m.records (λ p. get_number nat_eq m.newest p)
  newest_roomy = newest_same g.records m.records (λ p. get_number nat_eq g.newest p) (λ p. get_number nat_eq m.newest p) held.newest same.newest (λ key r n of at. sym (same_key key) ∙ at) (λ key r n of at. same_key key ∙ at)

  live_roomy : live_of m.levels g.entries.floors.items g.entries.list.items ≡ live_in g
  live_roomy = live_same g.levels m.levels same.levels g.entries.floors.items g.entries.list.items

  pub view_roomy : the_view (over g m) ≡ the_view g
  view_roomy =
      ap (λ es. state_in (over g m) es g.staged g.latest.items g.room) (live_is m g.entries.list.items g.entries.floors.items same.list same.floors ∙ live_roomy)
      ∙ ap (λ (r : Slab Record). state_of g.persistent.items (live_in g) g.staged g.latest.items (option_map (λ r. r.items) g.round) (writes_of r.slots) g.room) same.records

  pub held_roomy : (room : ℕ) → Fits m room → Holds (over g m) g.staged g.latest.items room (live_in m) m.entries.list.items m.entries.floors.items
  held_roomy room fits = holds (over g m) g.staged g.latest.items room (live_in g) g.entries.list.items g.entries.floors.items same.list same.floors live_roomy (record {
    whole = record { kept = held.whole.kept; out = held.whole.out };
    current = held.current;
    plains = held.plains;
    floors_count = held.floors_count;
    floors_low = held.floors_low;
    filed = filed_roomy;
    entries_fit = fits.list;
    places_fit = fits.places;
    records_fit = fits.records;
    newest = newest_roomy;
    newest_fit = fits.newest;
    indexed = indexed_same (the_view g) g.levels held.indexed m.levels same.levels (writes_of m.records.slots) room fits.levels;
  })
