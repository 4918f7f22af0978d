use Rattle.std.specs.Prelude.{◌≤◌, vec_len}
use Rattle.cs_deps.proofs.records.fill.Given as goal

abbrev pub invariant-loop : goal.invariant-loop
invariant-loop l = record {
  grows : vec_len l.fn.places ≤ vec_len l.places;
  counts : l.counter ≤ vec_len l.places;
}
