use Rattle.std.proofs.Common.{List, arith, subst, sym}
use Rattle.cs_deps.specs.declared.spans.Span.{Span}
use Rattle.cs_deps.specs.Named.{IsInSpans}
use Rattle.cs_deps.specs.View.{pending_of}
use Rattle.cs_check.proofs.Holders.{lists_as_much_from}
use Rattle.cs_check.proofs.nestings.lists_as_much.Goals as goal

pub returns : goal.returns
returns c said = lists_as_much_from (pending_of c.args.view.now) c.requires c.args.first.now c.args.second.now (omega arith)
    (λ n is. subst (λ (xs : List Span). IsInSpans xs n) c.spans-2.ensures (c.are_held.ensures c.if-not-are_held.false n (subst (λ (xs : List Span). IsInSpans xs n) (sym c.spans.ensures) is)))
    (λ f v lt. c.holds_versions.ensures said f v (omega (arith, lt)))
