-- A round is settled: what its graph keeps then.
use Rattle.std.proofs.Common.{◌≡◌, ◌∙◌, ◌≢◌, ◌+◌, ◌<◌, ◌≤◌, ℕ, List, length, get_or, Some, None, Option, refl, sym, ap, subst, arith}
use Rattle.std.specs.Prelude.{filter, vec_len, vec_capacity, Contains}
use Rattle.slab.specs.Slab.{Slab, get, HasRoomFor}
use Rattle.cs_deps.specs.contracts.graphs.Graph.{the_view, the_invariant}
use Rattle.cs_deps.specs.declared.records.Backlog.{Backlog}
use Rattle.cs_deps.specs.declared.elements.Element.{Element}
use Rattle.cs_deps.specs.declared.elements.Element.TheVariants.{Plain}
use Rattle.cs_deps.specs.declared.graphs.Graph.TheInside.{Inside}
use Rattle.cs_deps.specs.declared.levels.Kept.{Kept}
use Rattle.cs_deps.specs.declared.levels.Levels.{Levels}
use Rattle.cs_deps.specs.declared.records.Record.{Record}
use Rattle.cs_deps.specs.Named.{Named}
use Rattle.cs_deps.specs.Newest.{AreNewest}
use Rattle.cs_deps.specs.Records.{AreFiled, writes_of}
use Rattle.cs_deps.specs.Staging.{raised}
use Rattle.cs_deps.specs.State.{State, Write, IsListed, last_write}
use Rattle.cs_deps.specs.Entries.{state_of, entry_stays, AreCurrent, IsHeld, IsSound}
use Rattle.cs_deps.specs.Levels.{floor_of, kept_by, level_by, live_of, IsIndexed, IsLevelsSettled}
use Rattle.cs_deps.specs.Trimmed.{IsTrimmed}
use Rattle.cs_deps.proofs.Entries.{whole_left, current_settled}
use Rattle.cs_deps.proofs.Filed.{less_kept}
use Rattle.cs_deps.proofs.FiledSteps.{filed_settled}
use Rattle.cs_deps.proofs.Held.{indexed_left}
use Rattle.cs_deps.proofs.LeftOver.{live_settled, floor_low}
use Rattle.cs_deps.proofs.Queues.{plain_number}
use Rattle.cs_deps.proofs.Roomy.{live_in}
use Rattle.cs_deps.proofs.Trimmed.{indexed_trimmed, filed_trimmed}

module _ (g : Inside) (held : the_invariant g) (round : List Element) (out : (the_view g).round ≡ Some round) (l : Levels) (none : g.levels.base ≤ g.levels.ended → l ≡ g.levels) (one : g.levels.ended < g.levels.base → IsLevelsSettled g.levels l) where
  abbrev joined : List ℕ
  joined = raised g.persistent.items round

  -- the entries that are left, and what the graph then is with these page writes
  abbrev pub left_over : List (Element × Named)
  left_over = filter (λ w. entry_stays round joined g.latest.items w.0) (live_in g)

  abbrev later : List (Element × Write) → State
  later ws = state_of joined left_over g.staged g.latest.items None ws g.room

  pub indexed_later : (ws : List (Element × Write)) → IsIndexed (later ws) l
  indexed_later ws = indexed_left g.persistent.items (live_in g) g.staged g.latest.items (the_view g).round (writes_of g.records.slots) g.room held.whole held.current g.levels held.indexed l none one round out ws

  module _ (m : Levels) (is : IsTrimmed l m) (floors : List ℕ) (raises : (f : ℕ) → get_or floors f 0 ≡ floor_of (get_or joined f 0) (get_or g.latest.items f 0) (get_or g.entries.floors.items f 0)) where
    pub live_left : live_of m floors g.entries.list.items ≡ left_over
    live_left = live_settled g.persistent.items g.entries.list.items g.staged g.latest.items (the_view g).round (writes_of g.records.slots) g.room g.levels g.entries.floors.items held.whole held.current held.indexed l none one m is ((indexed_later (writes_of g.records.slots)).still refl) round out floors held.floors_low raises

    -- the records of the round are given up, and no others
    module _ (records : Slab Record) (less : (key : ℕ) (r : Record) → get records key ≡ Some r → get g.records key ≡ Some r)
        (gone : (x : Element) (k : Kept) → Contains round x → kept_by g.levels x ≡ Some k → get records k.key ≡ None)
        (rest : (key : ℕ) (r : Record) → get g.records key ≡ Some r → ((x : Element) (k : Kept) → Contains round x → kept_by g.levels x ≡ Some k → k.key ≢ key) → get records key ≡ Some r) where
      filed : AreFiled l records
      filed = filed_settled (the_view g) g.levels l held.indexed g.records records held.filed none one round out less gone rest

      pub writes_less : (y : Element) (w : Write) → last_write y None (writes_of records.slots) ≡ Some w → last_write y None (writes_of g.records.slots) ≡ Some w
      writes_less = less_kept g.levels l g.records records held.filed filed less

      ready : IsIndexed (later (writes_of records.slots)) l
      ready = indexed_later (writes_of records.slots)

      trimmed : IsIndexed (later (writes_of records.slots)) m
      trimmed = indexed_trimmed (later (writes_of records.slots)) l m is ready (ready.still refl) refl

      whole : IsSound (later (writes_of records.slots))
      whole = whole_left g.persistent.items (live_in g) g.staged g.latest.items (the_view g).round (writes_of g.records.slots) g.room round held.whole held.current out (writes_of records.slots)

      current_left : AreCurrent joined g.latest.items (live_of m floors g.entries.list.items)
      current_left = subst (λ (es : List (Element × Named)). AreCurrent joined g.latest.items es) (sym live_left) (current_settled g.persistent.items g.latest.items (live_in g) held.current held.whole.kept.families round)

      -- the list is cleaned
      pub held_later : (h : Backlog) (numbers : ℕ → Option ℕ) (spares : ℕ)
          → length floors ≡ length g.entries.floors.items
          → ((latest : List ℕ) → AreCurrent joined latest (live_of m floors g.entries.list.items) → AreCurrent joined latest (live_of m h.floors.items h.list.items))
          → ((last : ℕ) → ((n : ℕ) → m.ended < level_by m (Plain n) → n ≤ last) → ((n : ℕ) → IsListed g.entries.list.items (Plain n) → n ≤ last) → (n : ℕ) → IsListed h.list.items (Plain n) → n ≤ last)
          → h.floors.items ≡ floors → vec_len h.list + g.room ≤ vec_capacity h.list → g.room ≤ vec_len h.places → HasRoomFor records g.room → AreNewest records numbers → g.room ≤ spares
          → IsHeld (later (writes_of records.slots)) (live_of m h.floors.items h.list.items) h.list.items h.floors.items (vec_len h.list) (vec_capacity h.list) (vec_len h.places) records numbers spares m
      held_later h numbers spares count current plains same list places fits newest spare = record {
        whole = whole;
        current = current g.latest.items current_left;
        plains = plains g.staged (λ n hi. plain_number (later (writes_of records.slots)) whole refl m trimmed n (omega (arith, hi))) held.plains;
        floors_count = ap length same ∙ count ∙ held.floors_count;
        floors_low = λ f. omega (arith, ap (λ us. get_or us f 0) same, raises f, floor_low (get_or joined f 0) (get_or g.latest.items f 0) (get_or g.entries.floors.items f 0) (held.floors_low f));
        filed = filed_trimmed (later (writes_of records.slots)) l m is ready (ready.still refl) records filed;
        entries_fit = list;
        places_fit = places;
        records_fit = fits;
        newest = newest;
        newest_fit = spare;
        indexed = trimmed;
      }
