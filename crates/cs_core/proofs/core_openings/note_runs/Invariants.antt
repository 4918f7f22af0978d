use Rattle.std.proofs.Common.{◌≡◌, ◌||◌, take}
use Rattle.cs_extent.specs.State.{extents_of, shape}
use Rattle.cs_index.specs.State.{newest_first}
use Rattle.law_machine.specs.Apart.{any_run_on}
use Rattle.cs_core.proofs.core_openings.note_runs.Given as goal

abbrev pub invariant-loop-k : goal.invariant-loop-k
invariant-loop-k l = record {
  noted : extents_of l.extents ≡ record (extents_of l.fn.extents) { of_runs = λ e. any_run_on (newest_first (take l.k l.runs)) e || (extents_of l.fn.extents).of_runs e };
  same_shape : shape l.extents ≡ shape l.fn.extents;
}
