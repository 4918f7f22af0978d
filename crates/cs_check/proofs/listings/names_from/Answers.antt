use Rattle.std.proofs.Common.{length, arith, refl}
use Rattle.std.proofs.lemmas.Option.{slice_get_read, slice_get_within}
use Rattle.cs_check.proofs.ListingSteps.{none_more}
use Rattle.cs_check.proofs.listings.names_from.Goals as goal

pub returns-then-names : goal.returns-then-names
returns-then-names c =
    let at = slice_get_read c.args.view.now.waiting.items (length c.args.view.now.waiting.items) c.loop-j.j c.index.result.now refl (omega arith) c.index.ensures in
    ((λ _. (c.loop-j.j, c.index.result.now.0, c.index.result.now.1, c.loop-j.auto.j, at, c.names.ensures.0 c.if-names.true)), (λ _. refl))

pub loop-j-preserved : goal.loop-j-preserved
loop-j-preserved c =
    let at = slice_get_read c.args.view.now.waiting.items (length c.args.view.now.waiting.items) c.loop-j.j c.index.result.now refl (omega arith) c.index.ensures in
    none_more c.args.view.now.waiting.items c.args.needs.now c.args.k c.loop-j.j c.index.result.now.0 c.index.result.now.1 at (λ n. absurd (cc (c.names.ensures.1 n, c.if-names.false))) c.loop-j.invariant

pub returns : goal.returns
returns c = ((λ e. cc e), (λ n. absurd (c.loop-j.invariant n.0 n.1 n.2 n.3 (omega (arith, slice_get_within c.args.view.now.waiting.items n.0 (n.1, n.2) n.4)) n.4 n.5)))
