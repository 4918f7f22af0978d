use Rattle.std.proofs.Common.{◌≤◌, ℕ, sym, ap, ◌∙◌, inl, rules, subst}
use Rattle.cs_node.proofs.Behind.{is_behind}
use Rattle.cs_node.proofs.Steps.{raise_keeps}
use Rattle.cs_node.proofs.boards.NamedBoard.raise.Goals as goal

pub store-requires : goal.store-requires
store-requires g c =
    let seat = c.requires.seat in
    let f = c.progress-frontier.ensures.frontier in (
      seat.0 ∙ sym c.args.self.now.named,
      search rules,
      raise_keeps _ _ _ _ _ _ seat.1
          (subst (λ (n : ℕ). c.args.keeper.now.me.0.number ≤ n) (sym f) c.requires.later)
          (c.args.core.now, is_behind _ _ _ c.requires.start c.progress-frontier.ensures.legal c.progress-frontier.ensures.left, sym f)
          (inl (ap (λ m. m.0.start) seat.2)),
    )
