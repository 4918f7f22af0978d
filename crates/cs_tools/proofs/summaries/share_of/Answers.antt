use Rattle.std.proofs.Common.{arith}
use Rattle.cs_tools.proofs.Figuring.{few_pages}
use Rattle.cs_tools.proofs.summaries.share_of.Goals as goal

pub overflow_mul-result : goal.overflow_mul-result
overflow_mul-result c =
    let room = c.args.room in
    let small = few_pages room.extents room.pages room.few room.short in
    omega (arith, small, room.product, room.within)
