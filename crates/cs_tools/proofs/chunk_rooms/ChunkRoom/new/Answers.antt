use Rattle.std.proofs.Common.{arith}
use Rattle.cs_tools.proofs.Figuring.{few_pages}
use Rattle.cs_tools.proofs.chunk_rooms.ChunkRoom.new.Goals as goal

pub overflow_mul-all : goal.overflow_mul-all
overflow_mul-all c =
    let small = few_pages c.args.extents c.args.pages c.requires.few c.requires.short in
    omega (arith, small)
