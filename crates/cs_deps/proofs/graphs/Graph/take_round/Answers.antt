use Rattle.std.proofs.Common.{◌≡◌, ◌<◌, ◌≤◌, ⊎_elim, length, arith}
use Rattle.std.proofs.lemmas.Bool.{cases_lt}
use Rattle.cs_deps.specs.contracts.graphs.Graph.{the_view}
use Rattle.cs_deps.proofs.Live.{live_taken}
use Rattle.cs_deps.proofs.Ready.{queue_ready}
use Rattle.cs_deps.proofs.FiledSteps.{filed_taken}
use Rattle.cs_deps.proofs.RoundsLevels.{taken_empty, taken_one}
use Rattle.cs_deps.proofs.StateSteps.{whole_taken}
use Rattle.cs_deps.proofs.graphs.Graph.take_round.Goals as goal

pub invariant_of-self : goal.invariant_of-self
invariant_of-self c =
    let g = c.self.inside in
    let s = the_view g in
    let whole = c.self.invariant.whole in
    let ix = c.self.invariant.indexed in
    let none = rw (← c.self.view_is) at c.requires.none in
    let first = rw (← c.self.view_is) at c.requires.first in
    let live = live_taken g.levels c.take.new.self c.take.ensures.empty c.take.ensures.one g.entries.floors.items g.entries.list.items in
    rw (live) (record {
      whole = whole_taken s whole c.args.round.items (queue_ready s.staging.pending whole.kept.staged c.args.round.items first).wait;
      current = c.self.invariant.current;
      plains = c.self.invariant.plains;
      floors_count = c.self.invariant.floors_count;
      floors_low = c.self.invariant.floors_low;
      filed = filed_taken s g.levels c.take.new.self g.records c.self.invariant.filed c.take.ensures.empty c.take.ensures.one;
      entries_fit = c.self.invariant.entries_fit;
      places_fit = c.self.invariant.places_fit;
      records_fit = c.self.invariant.records_fit;
      newest = c.self.invariant.newest;
      newest_fit = c.self.invariant.newest_fit;
      indexed = ⊎_elim
          (λ (some : 0 < length g.levels.rows.items). rw (c.take.ensures.one some) (taken_one s whole none g.levels ix c.args.round.items first some))
          (λ (le : length g.levels.rows.items ≤ 0). let zero : length g.levels.rows.items ≡ 0 = omega (arith, le) in rw (c.take.ensures.empty zero) (taken_empty s whole none g.levels ix c.args.round.items first zero))
          (cases_lt 0 (length g.levels.rows.items));
    })
