use Rattle.std.proofs.Common.{arith}
use Rattle.std.proofs.lemmas.Option.{slice_get-get_or}
use Rattle.cs_deps.specs.declared.elements.Element.TheVariants.{Plain}
use Rattle.cs_deps.specs.View.{pending_of}
use Rattle.cs_check.proofs.Held.{marks_none, marks_more, marks_whole}
use Rattle.cs_check.proofs.earliest.mark.Goals as goal

pub loop-member-init : goal.loop-member-init
loop-member-init c = marks_none (pending_of c.args.view.now) c.args.round.now c.args.i c.args.firsts.now.items

pub loop-member-preserved : goal.loop-member-preserved
loop-member-preserved c = marks_more (pending_of c.args.view.now) c.requires.listing c.args.round.now c.loop-member.member-index c.args.i _ c.args.firsts.now.items c.loop-member.firsts.items c.mark_one.new.firsts.items (slice_get-get_or c.args.round.now c.loop-member.member-index (Plain 0) c.loop-member-test.true) c.requires.count c.mark_one.ensures c.loop-member.invariant

pub returns : goal.returns
returns c = marks_whole (pending_of c.args.view.now) c.args.round.now c.loop-member.member-index c.args.i c.args.firsts.now.items c.loop-member.firsts.items (omega arith) c.loop-member.invariant
