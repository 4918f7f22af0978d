use Rattle.std.proofs.Common.{sym, ap, ◌∙◌, rules}
use Rattle.cs_node.proofs.Steps.{split_keeps}
use Rattle.cs_node.proofs.boards.NamedBoard.split.Goals as goal

pub split_seat-requires : goal.split_seat-requires
split_seat-requires g c = (c.requires.0 ∙ sym c.args.self.now.named, search rules, split_keeps _ _ _ _ (ap (λ m. m.0) c.requires.1))
