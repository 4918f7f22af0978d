use Rattle.std.proofs.Common.{length, arith, refl}
use Rattle.std.proofs.lemmas.Option.{slice_get_within, slice_get_read}
use Rattle.cs_deps.specs.Named.{Names}
use Rattle.cs_check.proofs.Places.{each_next}
use Rattle.cs_check.proofs.nestings.names_as_much.Goals as goal

pub loop-k-preserved : goal.loop-k-preserved
loop-k-preserved c =
    let at = slice_get_read c.args.view.now.waiting.items (length c.args.view.now.waiting.items) c.loop-k.k c.index.result.now refl (omega arith) c.index.ensures in
    λ j x e lt there. each_next (λ _ w. Names c.args.first.now w.0 → Names c.args.second.now w.0) c.args.view.now.waiting.items c.loop-k.k c.index.result.now at (c.keeps.ensures.0 c.if-not-keeps.false) (λ i w less here. c.loop-k.invariant i w.0 w.1 less here) j (x, e) lt there

pub returns-then-not-keeps : goal.returns-then-not-keeps
returns-then-not-keeps c =
    let at = slice_get_read c.args.view.now.waiting.items (length c.args.view.now.waiting.items) c.loop-k.k c.index.result.now refl (omega arith) c.index.ensures in
    ((λ e. cc e), (λ much. absurd (cc (c.keeps.ensures.1 (much c.loop-k.k c.index.result.now.0 c.index.result.now.1 at), c.if-not-keeps.true))))

pub returns : goal.returns
returns c = ((λ _ k x h at. c.loop-k.invariant k x h (omega (arith, slice_get_within c.args.view.now.waiting.items k (x, h) at)) at), (λ _. refl))
