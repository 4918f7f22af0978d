use Rattle.std.proofs.Common.{◌∙◌, ◌*◌, ◌-◌, refl, sym}
use Rattle.law_machine.specs.Pieces.{is_cheap, share}
use Rattle.cs_options.specs.SureRooms.{new_format}
use Rattle.cs_options.proofs.CutSteps.{begun, fails_here, none_left, passes_here}
use Rattle.cs_options.proofs.shard_cuts.piece_size.Goals as goal

pub loop-fewer-init : goal.loop-fewer-init
loop-fewer-init c = begun c.args.pages c.args.bytes c.requires.pages.0 c.requires.bytes _ _ _ refl c.share-first.ensures c.wanted-last.ensures.value

pub returns-then-is_cheap : goal.returns-then-is_cheap
returns-then-is_cheap c =
    c.share.ensures ∙ sym (c.loop-fewer.invariant
    ∙ passes_here (is_cheap new_format c.args.pages c.args.bytes) (share c.args.bytes) (4096 * c.args.pages - 75) c.share-first.result c.wanted-last.result c.loop-fewer.fewer
    c.wanted-last.ensures.fewest c.loop-fewer-test.true (sym c.is_cheap.ensures ∙ c.if-is_cheap.true))

pub loop-fewer-preserved : goal.loop-fewer-preserved
loop-fewer-preserved c =
    c.loop-fewer.invariant
    ∙ fails_here (is_cheap new_format c.args.pages c.args.bytes) (share c.args.bytes) (4096 * c.args.pages - 75) c.share-first.result c.wanted-last.result c.loop-fewer.fewer
    c.wanted-last.ensures.fewest c.loop-fewer-test.true (sym c.is_cheap.ensures ∙ c.if-is_cheap.false)

pub returns : goal.returns
returns c = sym (c.loop-fewer.invariant
    ∙ none_left (is_cheap new_format c.args.pages c.args.bytes) (share c.args.bytes) (4096 * c.args.pages - 75) c.share-first.result c.wanted-last.result c.loop-fewer.fewer
    c.loop-fewer-test.false)
