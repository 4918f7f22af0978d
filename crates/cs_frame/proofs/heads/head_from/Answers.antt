use Rattle.std.proofs.Common.{arith, drop, ◌∙◌}
use Rattle.std.proofs.lemmas.List.{length-drop, take_all}
use Rattle.cs_frame.proofs.HeadTelling.{read_head}
use Rattle.cs_frame.proofs.heads.head_from.Goals as goal

pub returns : goal.returns
returns c = read_head c.args.bytes.now c.copy_from_slice.new.self c.copy_from_slice-2.new.self c.read_u64.result (λ i. omega (arith, c.type_inv.bytes i)) (omega (arith, c.requires))
    c.copy_from_slice.ensures.after c.read_u64.ensures
    (c.copy_from_slice-2.ensures.after ∙ take_all _ (drop 26 c.args.bytes.now) (omega (arith, length-drop 26 c.args.bytes.now)))
