use Rattle.std.proofs.Common.{◌<◌, ◌≤◌, ap, arith, length}
use Rattle.cs_core.specs.Views.{kept}
use Rattle.cs_writeback.proofs.Runs.{ran_then}
use Rattle.cs_store.proofs.Asking.{no_room_if, ready_if, ready_now, room_accepts}
use Rattle.cs_store.proofs.puts.make_ready.Goals as goal

pub returns-then-history-limit-clause-ready : goal.returns-then-history-limit-clause-ready
returns-then-history-limit-clause-ready g c =
    let room = c.make_room.new.core in
    let some : length (kept room) < room.limit = omega (arith, c.if-history-limit.true, ap length c.history.ensures.kept, c.limit.ensures) in
    ready_now g.D.PageDisk c.args.core.now room c.make_room.ensures.made some

pub returns-clause-ready : goal.returns-clause-ready
returns-clause-ready g c =
    let full = c.make_room.new.core in
    let none : full.limit ≤ length (kept full) = omega (arith, c.if-history-limit.false, ap length c.history.ensures.kept, c.limit.ensures) in
    ready_if g.D.PageDisk c.args.core.now full c.empty.new.core c.empty.result c.make_room.ensures.made none c.empty.ensures.empties

pub returns-clause-no_room : goal.returns-clause-no_room
returns-clause-no_room g c =
    let full = c.make_room.new.core in
    let none : full.limit ≤ length (kept full) = omega (arith, c.if-history-limit.false, ap length c.history.ensures.kept, c.limit.ensures) in
    no_room_if g.D.PageDisk c.args.core.now full c.empty.new.core c.empty.result c.make_room.ensures.made none c.empty.ensures.stays

pub returns-clause-accepts : goal.returns-clause-accepts
returns-clause-accepts g c =
    room_accepts g.D.PageDisk c.args.core.now c.empty.new.core c.empty.result (returns-clause-ready g c) (returns-clause-no_room g c)

pub returns-clause-ran : goal.returns-clause-ran
returns-clause-ran g c = ran_then g.D.PageDisk c.args.core.now c.make_room.new.core c.empty.new.core c.make_room.ensures.ran c.empty.ensures.ran
