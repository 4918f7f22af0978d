use Rattle.std.proofs.Common.{◌≡◌, ◌∙◌, arith, length, sym}
use Rattle.std.specs.Prelude.{vec_len}
use Rattle.cs_reclaim.proofs.Noted.{count_noted}
use Rattle.cs_reclaim.proofs.sweeps.Sweeps.len.Goals as goal

pub returns : goal.returns
returns c =
    let size : vec_len c.self.inside.copies ≡ length c.self.inside.copies.items = omega (arith, c.self.inside.copies.ok.0) in
    rw (← c.self.view_is) (c.len.ensures ∙ size ∙ sym (count_noted c.self.inside.copies.items))
