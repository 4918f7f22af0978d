use Rattle.std.proofs.Common.{◌∙◌, ℕ, ap, replicate}
use Rattle.cs_core.proofs.Starting.{pair_is}
use Rattle.cs_core.proofs.core_openings.new_section.Goals as goal

pub returns-clause-rows : goal.returns-clause-rows
returns-clause-rows c = c.in_ok-vec.ensures.items_if_clones_equal pair_is ∙ ap (λ n. replicate {A = ℕ × ℕ} n (0, 0)) c.section_length.ensures
