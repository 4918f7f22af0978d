use Rattle.std.proofs.Common.{◌≡◌, ◌+◌, ◌-◌, ◌/◌, ◌<◌, ℕ, Some, arith, map, get_or, sym, ◌∙◌}
use Rattle.std.specs.Prelude.{slice_get}
use Rattle.std.proofs.lemmas.Bool.{ltb-true, ltb-false}
use Rattle.law_machine.specs.Element.{Entry}
use Rattle.cs_index.specs.State.{id_number, named_entry}
use Rattle.cs_index.proofs.Sorted.{read_at, place_up, place_down}
use Rattle.cs_index.proofs.stored_runs.place.Goals as goal

pub loop-low-preserved-then-is_before : goal.loop-low-preserved-then-is_before
loop-low-preserved-then-is_before c =
    let was = c.loop-low.invariant in
    let m : ℕ = c.loop-low.low + (c.loop-low.high - c.loop-low.low) / 2 in
    let lt : c.loop-low.low < c.loop-low.high = c.loop-low-test.true in
    let before : m < c.loop-low.high = omega (arith, lt) in
    let x : Entry = named_entry (get_or c.args.entries.now m c.index-entries-middle.result) in
    let at : slice_get (map named_entry c.args.entries.now) m ≡ Some x = read_at named_entry c.args.entries.now m c.index-entries-middle.result (omega (arith, before, was.inside)) in
    record {
      order = omega (arith, before);
      inside = was.inside;
      before = place_up (map named_entry c.args.entries.now) m (id_number c.args.id) x c.requires at (ltb-true _ _ (sym c.is_before.ensures ∙ c.if-is_before.true));
      behind = was.behind;
    }

pub loop-low-preserved : goal.loop-low-preserved
loop-low-preserved c =
    let was = c.loop-low.invariant in
    let m : ℕ = c.loop-low.low + (c.loop-low.high - c.loop-low.low) / 2 in
    let lt : c.loop-low.low < c.loop-low.high = c.loop-low-test.true in
    let before : m < c.loop-low.high = omega (arith, lt) in
    let x : Entry = named_entry (get_or c.args.entries.now m c.index-entries-middle.result) in
    let at : slice_get (map named_entry c.args.entries.now) m ≡ Some x = read_at named_entry c.args.entries.now m c.index-entries-middle.result (omega (arith, before, was.inside)) in
    record {
      order = omega (arith, lt);
      inside = omega (arith, before, was.inside);
      before = was.before;
      behind = place_down (map named_entry c.args.entries.now) m (id_number c.args.id) x c.requires at (ltb-false _ _ (sym c.is_before.ensures ∙ c.if-is_before.false));
    }
