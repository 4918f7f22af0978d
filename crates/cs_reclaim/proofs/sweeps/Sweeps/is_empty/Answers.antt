use Rattle.std.proofs.Common.{◌≡◌, ◌∙◌, ◌==◌, ℕ, ap, arith, length}
use Rattle.std.specs.Prelude.{vec_len}
use Rattle.cs_reclaim.proofs.Noted.{empty_noted}
use Rattle.cs_reclaim.proofs.sweeps.Sweeps.is_empty.Goals as goal

pub returns : goal.returns
returns c =
    let size : vec_len c.self.inside.copies ≡ length c.self.inside.copies.items = omega (arith, c.self.inside.copies.ok.0) in
    rw (← c.self.view_is) (empty_noted c.self.inside.copies.items c.is_empty.result (c.is_empty.ensures ∙ ap (λ (n : ℕ). n == 0) size))
