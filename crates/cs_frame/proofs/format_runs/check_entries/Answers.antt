use Rattle.std.proofs.Common.{List, length, ℕ, ap, arith, sym, ◌∙◌}
use Rattle.std.specs.Prelude.{option_map}
use Rattle.std.proofs.lemmas.List.{length-drop}
use Rattle.std.proofs.lemmas.Result.{err_from_is_err_and}
use Rattle.cs_frame.specs.Faults.{first_fault}
use Rattle.cs_frame.specs.PackedRuns.{packed_end, packed_entry_tests}
use Rattle.cs_frame.specs.Runs.{id_in}
use Rattle.cs_frame.proofs.PackedLaws.{all_left, walk_ends, walk_goes_on, walk_leaves, walk_stops}
use Rattle.cs_frame.proofs.format_runs.check_entries.Goals as goal

pub loop-init : goal.loop-init
loop-init c = record { inside = omega arith; left = all_left c.args.count c.args.bytes.now }

pub behind-requires : goal.behind-requires
behind-requires c = c.loop.invariant.inside

pub returns-in_err-id : goal.returns-in_err-id
returns-in_err-id c =
    let p = err_from_is_err_and c.from_residual.result c.from_residual.ensures.1 in
    rw (p.1, p.2) (sym (c.loop.invariant.left ∙ walk_stops c.args.count c.loop.counter (option_map (λ id. id.0) c.loop.previous) _ c.in_err-id.field-0.0 c.loop-test.true
    (c.in_err-id.ensures.fault ∙ ap (λ (xs : List ℕ). first_fault (packed_entry_tests (option_map (λ id. id.0) c.loop.previous) xs)) c.behind.ensures)))

pub loop-preserved : goal.loop-preserved
loop-preserved c = record {
  inside = omega (arith, c.in_ok-id.ensures.inside, ap (λ (xs : List ℕ). length xs) c.behind.ensures, length-drop c.loop.start c.args.bytes.now, c.loop.invariant.inside);
  left = c.loop.invariant.left ∙ walk_goes_on c.args.count c.loop.counter (option_map (λ id. id.0) c.loop.previous) c.args.bytes.now c.loop.start c.in_ok-id.size c.in_ok-id.id.0
      c.loop-test.true (c.in_ok-id.ensures.fault ∙ ap (λ (xs : List ℕ). first_fault (packed_entry_tests (option_map (λ id. id.0) c.loop.previous) xs)) c.behind.ensures)
      (c.in_ok-id.ensures.id ∙ ap id_in c.behind.ensures) (c.in_ok-id.ensures.end ∙ ap packed_end c.behind.ensures);
}

pub returns-then-start-bytes : goal.returns-then-start-bytes
returns-then-start-bytes c = sym (c.loop.invariant.left
    ∙ walk_ends c.args.count c.loop.counter (option_map (λ id. id.0) c.loop.previous) c.args.bytes.now c.loop.start (omega (arith, c.loop-test.false)) c.if-start-bytes.true)

pub returns-else-start-bytes : goal.returns-else-start-bytes
returns-else-start-bytes c = sym (c.loop.invariant.left
    ∙ walk_leaves c.args.count c.loop.counter (option_map (λ id. id.0) c.loop.previous) c.args.bytes.now c.loop.start (omega (arith, c.loop-test.false)) c.loop.invariant.inside c.if-start-bytes.false)
