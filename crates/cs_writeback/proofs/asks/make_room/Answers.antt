use Rattle.std.proofs.Common.{◌∙◌, ap, length}
use Rattle.std.specs.Int.{div_ceil}
use Rattle.cs_writeback.proofs.MadeRoom.{checkpoint_ran, made_room}
use Rattle.cs_writeback.proofs.asks.make_room.Goals as goal

pub returns-then-div_ceil-history-clause-made : goal.returns-then-div_ceil-history-clause-made
returns-then-div_ceil-history-clause-made g c =
    let e = c.checkpoint.ensures in
    made_room c.args.core.now c.checkpoint.new.self c.div_ceil.result (length c.history.result.now) c.base.result c.checkpoint.result
    (c.div_ceil.ensures ∙ ap (λ n. div_ceil n 2) c.limit.ensures) (ap length c.history.ensures.kept) c.if-div_ceil-history.true e.ok e.settled c.base.ensures.base c.base.ensures.fits e.err

pub returns-then-div_ceil-history-clause-ran : goal.returns-then-div_ceil-history-clause-ran
returns-then-div_ceil-history-clause-ran g c =
    let e = c.checkpoint.ensures in
    checkpoint_ran g.D.PageDisk c.args.core.now c.checkpoint.new.self c.checkpoint.result e.ok e.err e.crash
