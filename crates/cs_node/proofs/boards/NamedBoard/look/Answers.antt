use Rattle.std.proofs.Common.{sym, ap, ◌∙◌, rules}
use Rattle.cs_node.proofs.Steps.{load_keeps}
use Rattle.cs_node.proofs.boards.NamedBoard.look.Goals as goal

pub load-requires : goal.load-requires
load-requires g c = (c.requires.0 ∙ sym c.args.self.now.named, search rules, load_keeps _ _ _ _ _ (ap (λ m. m.0) c.requires.1))
