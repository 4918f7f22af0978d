use Rattle.std.proofs.Common.{sym, subst}
use Rattle.cs_deps.specs.Named.{Named}
use Rattle.cs_deps.specs.Wanted.{AreMarked}
use Rattle.cs_deps.proofs.Marking.{marked_both}
use Rattle.cs_deps.proofs.wanted.Wanted.with.Goals as goal

pub invariant_of-wanted : goal.invariant_of-wanted
invariant_of-wanted c =
    let w = c.wanted.inside in
    let more = c.args.more.now in
    subst (λ (d : Named). AreMarked w.start c.mark_all.new.marks.items d.spans) (sym c.in_ok-join.ensures) (marked_both w.start w.marks.items c.mark_all.new.marks.items w.all.spans more.spans c.wanted.invariant c.mark_all.ensures.count (rw c.spans.ensures at c.mark_all.ensures.marks))
