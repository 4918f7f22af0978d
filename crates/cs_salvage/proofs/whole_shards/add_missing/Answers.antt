use Rattle.std.proofs.Common.{◌++◌, List, subst, sym}
use Rattle.cs_salvage.specs.declared.whole_shards.Missing.{Missing}
use Rattle.cs_salvage.specs.Missing.{AreMissing}
use Rattle.cs_salvage.proofs.Missings.{added, kept_behind, kept_whole}
use Rattle.cs_salvage.proofs.whole_shards.add_missing.Goals as goal

pub returns-then-is_last_of : goal.returns-then-is_last_of
returns-then-is_last_of c = λ order earlier are.
    kept_behind c.args.before.now c.args.parts.now c.args.put c.requires.own earlier c.args.missing.now.items are c.if-is_last_of.ensures

pub returns-in_ok-push-in-Some : goal.returns-in_ok-push-in-Some
returns-in_ok-push-in-Some c = λ order earlier are.
    let it = rw c.in-Some.is at c.in_ok-it.ensures in
    subst (λ (ms : List Missing). AreMissing (c.args.before.now ++ c.args.parts.now) ms) (sym c.in_ok-push-in-Some.ensures.items)
    (added c.args.before.now c.args.parts.now c.args.put c.requires.own earlier c.args.missing.now.items are order c.if-is_last_of.ensures c.in-Some.it it.0 it.1)

pub returns-in-None : goal.returns-in-None
returns-in-None c = λ order earlier are.
    let whole = rw c.in-None.is at c.in_ok-it.ensures in
    kept_whole c.args.before.now c.args.parts.now c.args.put c.requires.own earlier c.args.missing.now.items are whole
