use Rattle.std.proofs.Common.{List, ◌++◌, subst, sym}
use Rattle.cs_salvage.specs.declared.parts.Put.{Put}
use Rattle.cs_salvage.specs.Shards.{AreAmbiguous}
use Rattle.cs_salvage.proofs.Groups.{ambiguous_added, clear_kept}
use Rattle.cs_salvage.proofs.whole_shards.add_ambiguous.Goals as goal

pub returns-in_ok-push : goal.returns-in_ok-push
returns-in_ok-push c = λ before earlier are.
    subst (λ (ps : List Put). AreAmbiguous (before ++ c.args.parts.now) ps) (sym c.in_ok-push.ensures.items)
    (ambiguous_added before c.args.parts.now c.args.put c.requires.own earlier c.args.puts.now.items are c.if-are_ambiguous.ensures)

pub returns-else-are_ambiguous : goal.returns-else-are_ambiguous
returns-else-are_ambiguous c = λ before earlier are.
    clear_kept before c.args.parts.now c.args.put c.requires.own earlier c.args.puts.now.items are c.if-are_ambiguous.ensures
