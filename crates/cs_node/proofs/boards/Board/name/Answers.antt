use Rattle.std.proofs.Common.{◌≡◌, ap, inr, rules, arith}
use Rattle.cs_node.proofs.Behind.{is_behind}
use Rattle.cs_node.proofs.Steps.{raise_keeps}
use Rattle.cs_node.proofs.boards.Board.name.Goals as goal

pub store-requires : goal.store-requires
store-requires g c =
    let i = c.self.invariant in
    let p = c.progress.ensures in
    let number = ap (λ m. m.0.number) i.3 in
    let none : c.args.core.now.store.frontier ≡ 0 = omega (arith, p.accepted, p.frontier, p.within, c.requires.accepted) in (
      i.1,
      search rules,
      raise_keeps _ _ _ _ _ _ i.2
          (omega (arith, number))
          (c.args.core.now, is_behind _ _ _ c.requires.start p.legal p.left, none)
          (inr (ap (λ m. m.0.start) i.3)),
    )
