use Rattle.std.proofs.Common.{subst, sym, ◌∙◌}
use Rattle.cs_frame.specs.Bytes.{IsBytes}
use Rattle.cs_frame.proofs.HeadTelling.{write_head}
use Rattle.cs_frame.proofs.heads.encode_head.Goals as goal

pub returns : goal.returns
returns c = write_head c.args.head.id c.args.head.number c.args.head.count c.args.head.command c.args.store c.copy_from_slice-2.new.self c.copy_from_slice.new.self c.write_u64.new.buf
    (c.copy_from_slice-2.ensures.after ∙ c.bytes.ensures.value) (subst IsBytes (sym c.copy_from_slice-2.ensures.after) c.bytes.ensures.bytes) c.copy_from_slice-2.ensures.len c.write_u64.ensures
    c.copy_from_slice.ensures.after
