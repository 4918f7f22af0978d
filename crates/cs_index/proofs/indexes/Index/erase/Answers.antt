use Rattle.std.proofs.Common.{◌≡◌, ◌≤◌, ap, length, subst, sym, ℕ}
use Rattle.cs_frame.specs.Places.{Listed}
use Rattle.cs_index.specs.State.{id_number, index_of}
use Rattle.cs_index.proofs.Marks.{none_keep}
use Rattle.cs_index.proofs.Weights.{deletion_light}
use Rattle.law_machine.specs.Geometry.{weigh_in}
use Rattle.law_machine.specs.Index.{weight_with}
use Rattle.cs_index.proofs.indexes.Index.erase.Goals as goal

pub enter-requires-clause-marks : goal.enter-requires-clause-marks
enter-requires-clause-marks c = none_keep c.args.self.now.format c.none.result.items (ap (λ (p : Listed). p.items) c.none.ensures)

pub enter-requires-clause-limit : goal.enter-requires-clause-limit
enter-requires-clause-limit c =
    let none : length c.none.result.items ≡ 0 = ap (λ (p : Listed). length p.items) c.none.ensures in
    subst (λ (n : ℕ). weight_with (weigh_in c.args.self.now.format) (index_of c.args.self.now) (id_number c.args.id) n ≤ c.args.self.now.limit) (sym none)
    (deletion_light c.args.self.now (id_number c.args.id) c.run_count.ensures.whole c.if-not-is_live.ensures)
