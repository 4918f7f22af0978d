use Rattle.std.proofs.Common.{◌∙◌, ◌<◌, sym, ap, arith}
use Rattle.cs_deps.specs.Levels.{kept_by, level_of}
use Rattle.cs_deps.proofs.Walk.{plains_more, plains_done, nearer}
use Rattle.cs_deps.proofs.rows.add_plains.Goals as goal

pub loop-number-smaller-in-Some : goal.loop-number-smaller-in-Some
loop-number-smaller-in-Some c =
    let l = c.args.levels.now in
    let a = c.loop-number.number in
    let k = c.in-Some.kept in
    let some : 0 < a = omega (arith, c.loop-number-test.true) in
    let is = sym c.kept.ensures ∙ c.in-Some.is in
    let level = c.loop-number.invariant.next some in
    let high : l.ended < k.level = omega (arith, ap level_of is, level, c.requires.above) in
    nearer a k.next c.args.bound some
    (c.requires.bound a (omega (arith, level, c.requires.above)))
    (λ up. let r = c.requires.rows.up a k is high up in (r.0, c.requires.bound k.next (omega (arith, r.1, high))))

pub loop-number-preserved-in-Some : goal.loop-number-preserved-in-Some
loop-number-preserved-in-Some c =
    let l = c.args.levels.now in
    let a = c.loop-number.number in
    let k = c.in-Some.kept in
    let some : 0 < a = omega (arith, c.loop-number-test.true) in
    rw c.in_ok-push.ensures.items (plains_more (kept_by l) l.ended c.args.level a k c.loop-number.xs.items c.requires.rows c.requires.above some (sym c.kept.ensures ∙ c.in-Some.is) c.loop-number.invariant)

pub returns : goal.returns
returns c = record { listed = plains_done (kept_by c.args.levels.now) c.args.level c.loop-number.number c.loop-number.xs.items c.loop-number-test.false c.loop-number.invariant }
