use Rattle.std.proofs.Common.{◌≡◌, ◌≤◌, ◌∙◌, inl, inr, ap, length, subst, sym, List, ℕ}
use Rattle.std.proofs.lemmas.Bool.{cases_lt, false≢true}
use Rattle.cs_frame.specs.declared.locators.Locator.{Locator}
use Rattle.cs_index.specs.State.{id_number, index_of}
use Rattle.law_machine.specs.Geometry.{weigh_in}
use Rattle.law_machine.specs.Index.{weight_with}
use Rattle.cs_index.proofs.indexes.Index.set.Goals as goal

pub enter-requires-clause-limit : goal.enter-requires-clause-limit
enter-requires-clause-limit c =
    let long : length c.as_slice.result.now ≡ length c.args.locators.items = ap (λ (ls : List Locator). length ls) c.as_slice.ensures.value in
    subst (λ (n : ℕ). weight_with (weigh_in c.args.self.now.format) (index_of c.args.self.now) (id_number c.args.id) n ≤ c.args.self.now.limit) long
    (elim (cases_lt c.args.self.now.limit (weight_with (weigh_in c.args.self.now.format) (index_of c.args.self.now) (id_number c.args.id) (length c.as_slice.result.now))) [
      | inl lt ↦ absurd (false≢true (sym c.if-is_full_for.false ∙ c.is_full_for.ensures.1 lt))
      | inr le ↦ le
    ])
