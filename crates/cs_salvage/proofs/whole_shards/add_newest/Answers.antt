use Rattle.std.proofs.Common.{List, ◌++◌, subst, sym, refl}
use Rattle.cs_salvage.specs.declared.whole_shards.WholeShard.{WholeShard}
use Rattle.cs_salvage.specs.Puts.{EndOtherwise, Have}
use Rattle.cs_salvage.specs.Shards.{AreNewest}
use Rattle.cs_salvage.proofs.Groups.{added, kept}
use Rattle.cs_salvage.proofs.whole_shards.add_newest.Goals as goal

pub returns-then-ends_with : goal.returns-then-ends_with
returns-then-ends_with c = λ before earlier are.
    let had = subst (Have c.args.put.id) c.deref.ensures.value c.if-ends_with.ensures in
    kept before c.args.parts.now c.args.put c.requires.own earlier c.args.shards.now.items are (λ is. had)

pub returns-in_ok-push-in-Some : goal.returns-in_ok-push-in-Some
returns-in_ok-push-in-Some c = λ before earlier are.
    let last = subst (EndOtherwise c.args.put.id) c.deref.ensures.value c.if-ends_with.ensures in
    let all = rw c.in-Some.is at c.in_ok-parts.ensures in
    subst (λ (ss : List WholeShard). AreNewest (before ++ c.args.parts.now) ss) (sym c.in_ok-push-in-Some.ensures.items)
    (added before c.args.parts.now c.args.put c.requires.own earlier c.args.shards.now.items are last (record { put = c.args.put; parts = c.in-Some.parts }) refl all)

pub returns-in-None : goal.returns-in-None
returns-in-None c = λ before earlier are.
    let none = rw c.in-None.is at c.in_ok-parts.ensures in
    kept before c.args.parts.now c.args.put c.requires.own earlier c.args.shards.now.items are (λ is. absurd (none is))
