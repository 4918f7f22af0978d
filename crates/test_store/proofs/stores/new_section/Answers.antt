use Rattle.std.proofs.Common.{◌∙◌, ℕ, ap, replicate}
use Rattle.test_store.proofs.Divided.{pair_is}
use Rattle.test_store.proofs.stores.new_section.Goals as goal

pub returns-clause-rows : goal.returns-clause-rows
returns-clause-rows c = c.in_ok-vec.ensures.items_if_clones_equal pair_is ∙ ap (λ n. replicate {A = ℕ × ℕ} n (0, 0)) c.section_length.ensures
