use Rattle.std.proofs.Common.{◌≡◌, ◌<◌, ◌≤◌, List, Some, get_or, slice_get, length, ap, subst, refl, arith}
use Rattle.std.proofs.lemmas.Option.{slice_get-get_or}
use Rattle.cs_deps.specs.declared.spans.Span.{Span}
use Rattle.cs_deps.specs.View.{pending_of}
use Rattle.cs_check.proofs.Spelling.{spelled_first, spelled_next, spelled_whole}
use Rattle.cs_check.proofs.spelled.spelled.Goals as goal

pub loop-i-init : goal.loop-i-init
loop-i-init c = spelled_first (pending_of c.args.view.now) c.args.needs.now (record { first = 1; last = c.through_number-through.result }) c.new-elements.result.items c.push_span.new.elements.items c.new-elements.ensures.items refl c.through_number-through.ensures (c.in_ok-begun.ensures c.if-not-begun.false)

pub loop-i-preserved : goal.loop-i-preserved
loop-i-preserved c =
    let spans = c.spans-spans.result.now in
    let s : Span = get_or spans c.loop-i.i (record { first = 0; last = 0 }) in
    let at = subst (λ (xs : List Span). slice_get xs c.loop-i.i ≡ Some s) c.spans-spans.ensures (slice_get-get_or spans c.loop-i.i (record { first = 0; last = 0 }) c.loop-i-test.true) in
    let less : c.loop-i.after < s.first = omega (arith, c.if-spans-i.false) in
    let later : c.loop-i.after ≤ c.max-after.result = omega (arith, c.max-after.ensures) in
    let last : s.last ≤ c.max-after.result = omega (arith, c.max-after.ensures) in
    spelled_next (pending_of c.args.view.now) c.args.needs.now c.loop-i.i c.loop-i.after c.max-after.result s c.loop-i.elements.items c.push_span-in-loop-i.new.elements.items at less later last (c.in_ok-pushed.ensures c.if-not-pushed.false) c.loop-i.invariant

pub returns : goal.returns
returns c = spelled_whole (pending_of c.args.view.now) c.args.needs.now c.loop-i.i c.loop-i.after c.loop-i.elements.items (omega (arith, ap length c.spans-spans.ensures)) c.loop-i.invariant
