-- The levels that a graph keeps, by its fields.
use Rattle.std.proofs.Common.{◌≡◌, ℕ, ◌+◌, ◌<◌, ◌≤◌, List, length, Option, Some, None, sym, ap, subst, ⊎_elim, arith}
use Rattle.std.specs.Prelude.{filter}
use Rattle.std.proofs.lemmas.Bool.{cases_lt}
use Rattle.cs_deps.specs.contracts.graphs.Graph.{the_view, the_invariant}
use Rattle.cs_deps.specs.declared.elements.Element.{Element}
use Rattle.cs_deps.specs.declared.graphs.Graph.TheInside.{Inside}
use Rattle.cs_deps.specs.declared.levels.Levels.{Levels}
use Rattle.cs_deps.specs.Named.{Named, Names, IsWithin}
use Rattle.cs_deps.specs.Pending.{Pending, Waits}
use Rattle.cs_deps.specs.Records.{writes_of}
use Rattle.cs_deps.specs.Staging.{raised}
use Rattle.cs_deps.specs.State.{State, Write, after, after_round}
use Rattle.cs_deps.specs.Entries.{state_of, AreCurrent, entry_stays, IsSound}
use Rattle.cs_deps.specs.Levels.{kept_by, level_by, IsBest, IsIndexed, IsLevelsSettled}
use Rattle.cs_deps.proofs.Entries.{waiting_settled}
use Rattle.cs_deps.proofs.Queues.{indexed_same}
use Rattle.cs_deps.proofs.Roomy.{IsRoomy, Fits, live_in, state_in}
use Rattle.cs_deps.proofs.RoundsLevels.{settled_none, settled_one}
use Rattle.cs_deps.proofs.Tops.{best_top}

-- a new level is at most one above the last queue
pub best_high : (s : State) (whole : IsSound s) (l : Levels) (ix : IsIndexed s l) (d : Named) → IsWithin d s.staging.staged s.staging.latest → (level : ℕ) (before : Option Element) → IsBest (kept_by l) l.base d level before → level ≤ l.ended + length l.rows.items
best_high s whole l ix d within level before best = ⊎_elim
    (λ (e : level ≡ l.base). omega (arith, e, ix.high))
    (λ (r : (y : Element) × Names d y × Waits (after s) y × (level_by l y ≡ level)). omega (arith, r.3, ix.within r.0))
    (best_top s whole l ix d within level before best).reached

-- an element with these needs may be added to g: there is room in m, and the highest level of what it needs is this one
pub record MayBeAdded (g m : Inside) (made : ℕ) (d : Named) (level : ℕ) (before : Option Element) : Type 0 where
  pub same : IsRoomy g m
  pub some : 0 < made
  pub fits : Fits m made
  pub within : IsWithin d g.staged g.latest.items
  pub best : IsBest (kept_by m.levels) m.levels.base d level before

module _ (g : Inside) (held : the_invariant g) (m : Inside) (made : ℕ) (d : Named) (level : ℕ) (before : Option Element) (may : MayBeAdded g m made d level before) where
  abbrev pub roomy : State
  roomy = state_in g (live_in g) g.staged g.latest.items made

  pub whole_roomy : IsSound roomy
  whole_roomy = record { kept = held.whole.kept; out = held.whole.out }

  pub indexed_roomy : IsIndexed roomy m.levels
  indexed_roomy = indexed_same (the_view g) g.levels held.indexed m.levels may.same.levels (writes_of g.records.slots) made may.fits.levels

  pub high_enough : level ≤ m.levels.ended + length m.levels.rows.items
  high_enough = best_high roomy whole_roomy m.levels indexed_roomy d may.within level before may.best

  pub low_enough : m.levels.ended ≤ level
  low_enough = omega (arith, indexed_roomy.low, may.best.low)

-- a round joins
pub indexed_left : (ps : List ℕ) (es : List (Element × Named)) (n : ℕ) (latest : List ℕ) (out : Option (List Element)) (ws : List (Element × Write)) (room : ℕ) → (whole : IsSound (state_of ps es n latest out ws room)) → (current : AreCurrent ps latest es) → (l : Levels) → (ix : IsIndexed (state_of ps es n latest out ws room) l) → (m : Levels) → (l.base ≤ l.ended → m ≡ l) → (l.ended < l.base → IsLevelsSettled l m) → (round : List Element) → out ≡ Some round → (ws' : List (Element × Write)) → IsIndexed (state_of (raised ps round) (filter (λ w. entry_stays round (raised ps round) latest w.0) es) n latest None ws' room) m
indexed_left ps es n latest out ws room whole current l ix m none one round is ws' =
    let s : State = state_of ps es n latest out ws room in
    rw (waiting_settled ps latest es current whole.kept.families round)
    (subst (λ (p : Pending). IsIndexed (record { staging = record { pending = p; staged = n; latest = latest }; round = None; pages = ws'; room = room }) m) (ap (after_round s.staging.pending) is)
    (⊎_elim
    (λ (lt : l.ended < l.base). settled_one s whole l ix ws' lt m (one lt))
    (λ (le : l.base ≤ l.ended). subst (λ (u : Levels). IsIndexed (record { staging = record { pending = after s; staged = n; latest = latest }; round = None; pages = ws'; room = room }) u) (sym (none le)) (settled_none s whole l ix ws' le))
    (cases_lt l.ended l.base)))
