use Rattle.std.proofs.Common.{length, refl, arith}
use Rattle.std.proofs.lemmas.Option.{slice_get_read, get_or_from_slice_get}
use Rattle.std.proofs.lemmas.List.{length-map}
use Rattle.cs_deps.specs.View.{pending_of}
use Rattle.cs_check.specs.Progress.{elements_of}
use Rattle.cs_check.proofs.BeforeSteps.{none_before, versions_before}
use Rattle.cs_check.proofs.timings.Timing.family_before.Goals as goal

pub returns-then-version-index : goal.returns-then-version-index
returns-then-version-index c _ =
    let items = c.args.self.now.view.now.persistent.items in
    let at = slice_get_read items (length items) c.args.family c.index.result.now refl c.requires.place c.index.ensures in
    none_before (pending_of c.args.self.now.view.now) c.requires.timed.listing c.args.self.now.firsts.now c.args.family c.args.version c.args.i (omega (arith, c.if-version-index.true, get_or_from_slice_get items c.args.family c.index.result.now 0 at))

pub returns-else-version-index : goal.returns-else-version-index
returns-else-version-index c said =
    let w = c.is_before.ensures said in
    versions_before (pending_of c.args.self.now.view.now) (elements_of c.args.self.now.rounds.now) c.args.self.now.firsts.now c.requires.timed.firsts c.args.family c.args.version c.args.i w.0 w.1
    (omega (arith, c.requires.round, length-map c.args.self.now.rounds.now (λ round. round.items))) w.2 w.3
