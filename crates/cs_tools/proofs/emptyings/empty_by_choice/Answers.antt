use Rattle.std.proofs.Common.{◌≡◌, ◌∙◌, ◌+◌, ◌<◌, ◌≤◌, ℕ, List, ap, arith, inl, inr, length, refl, subst, sym}
use Rattle.std.proofs.lemmas.Result.{IfOk-weaker}
use Rattle.cs_extent.specs.State.{shape}
use Rattle.cs_inspect.specs.Choices.{ReadsOn}
use Rattle.cs_tools.specs.Aims.{IsSettled, most_emptied}
use Rattle.cs_tools.specs.Reclaims.{DoesOne, IsPersistent, StopsLater, StopsNext, WhetherFound}
use Rattle.cs_tools.specs.declared.emptyings.Sought.{Sought}
use Rattle.cs_tools.proofs.Aiming.{from_zero, most_held}
use Rattle.cs_advice.proofs.Appended.{whatever}
use Rattle.cs_tools.proofs.Emptying.{emptied_past, no_memory, no_step, one_more, passed_on, refused_so, stopped_later}
use Rattle.cs_tools.proofs.Resting.{rest_then}
use Rattle.cs_tools.proofs.Tidying.{tidies_none, tidies_then}
use Rattle.cs_tools.proofs.emptyings.empty_by_choice.Goals as goal

-- ---- it is refused, or the writer failed

pub returns-in_err-sought-clause-tidies : goal.returns-in_err-sought-clause-tidies
returns-in_err-sought-clause-tidies g c = tidies_then g.D.PageDisk c.args.core.now c.loop.core c.empty_next.new.core c.loop.invariant.tidies c.empty_next.ensures.tidies

pub returns-in_err-sought-clause-stopped : goal.returns-in_err-sought-clause-stopped
returns-in_err-sought-clause-stopped g c =
    let contents = g.W.Write.contents in
    let disks = g.D.PageDisk in
    let aim = c.args.aim in
    let style = c.args.style in
    let start = contents c.args.writer.now in
    let before = contents c.loop.writer in
    let after = contents c.empty_next.new.writer in
    let new = c.empty_next.new.core in
    let stop = c.in_err-sought.field-0.0 in
    passed_on (StopsLater disks aim style c.args.core.now new start after) c.from_residual.result stop c.from_residual.ensures.1
    (refused_so (λ r. StopsNext disks aim c.loop.passed.items c.loop.core new r × (after ≡ before)) (StopsLater disks aim style c.args.core.now new start after)
    (λ r stops. stopped_later disks aim style c.loop.counter c.loop.passed.items c.args.core.now c.loop.core start before c.loop.invariant.steps new after r stops) stop c.in_err-sought.ensures.stopped)

-- ---- nothing more is to be emptied

pub returns-in-Nothing-clause-tidies : goal.returns-in-Nothing-clause-tidies
returns-in-Nothing-clause-tidies g c = tidies_then g.D.PageDisk c.args.core.now c.loop.core c.empty_next.new.core c.loop.invariant.tidies c.empty_next.ensures.tidies

pub returns-in-Nothing-clause-kept : goal.returns-in-Nothing-clause-kept
returns-in-Nothing-clause-kept g c honest =
    let old = c.loop.core in
    let new = c.empty_next.new.core in
    rest_then g.D.PageDisk c.args.core.now old new
    (subst (λ (s : Sought). WhetherFound s (IsPersistent new) (ReadsOn g.D.PageDisk old new)) c.in-Nothing.is (c.in_ok-sought.ensures.rests (c.loop.invariant.tidies.honest.0 honest)))
    (c.loop.invariant.so_far honest)

pub returns-in-Nothing-clause-all : goal.returns-in-Nothing-clause-all
returns-in-Nothing-clause-all g c =
    let disks = g.D.PageDisk in
    let contents = g.W.Write.contents in
    let aim = c.args.aim in
    let style = c.args.style in
    let old = c.loop.core in
    let new = c.empty_next.new.core in
    let before = contents c.loop.writer in
    let after = contents c.empty_next.new.writer in
    let passed = c.loop.passed.items in
    let next = c.empty_next.new.passed.items in
    let found = subst (λ (s : Sought). WhetherFound s (DoesOne disks aim style passed next old new before after)
    (ReadsOn disks old new × IsSettled disks aim passed old × (after ≡ before) × (next ≡ passed))) c.in-Nothing.is c.in_ok-sought.ensures.chosen in
    let told : c.len.result ≡ length passed = c.len.ensures ∙ c.empty_next.new.passed.ok.0 ∙ ap (λ (es : List ℕ). length es) found.3 in
    emptied_past disks aim style c.loop.counter passed c.args.core.now old (contents c.args.writer.now) before c.loop.invariant.steps c.len.result new after c.loop.invariant.few told found.0 (inl found.1) found.2

-- ---- as many were emptied as may be

pub returns-clause-tidies : goal.returns-clause-tidies
returns-clause-tidies g c = tidies_then g.D.PageDisk c.args.core.now c.loop.core c.look_again.new.core c.loop.invariant.tidies c.look_again.ensures.tidies

pub returns-clause-kept : goal.returns-clause-kept
returns-clause-kept g c honest = whatever c.look_again.result (rest_then g.D.PageDisk c.args.core.now c.loop.core c.look_again.new.core c.look_again.ensures.reads (c.loop.invariant.so_far honest))

pub returns-clause-left : goal.returns-clause-left
returns-clause-left g c = IfOk-weaker c.look_again.result _ _ (λ left it. it.0) c.look_again.ensures.left

pub returns-clause-all : goal.returns-clause-all
returns-clause-all g c =
    let contents = g.W.Write.contents in
    let first = c.args.core.now in
    let given = c.most_emptied-most.result in
    let most : given ≡ most_emptied c.args.aim (shape first.store.extents).extents =
    most_held c.args.aim c.extents.result.now first.store.extents given c.extents.ensures c.most_emptied-most.ensures in
    let enough : given ≤ c.loop.counter = c.loop-test.false in
    let few : c.loop.counter ≤ given = subst (λ (n : ℕ). c.loop.counter ≤ n) (sym most) c.loop.invariant.few in
    let same : c.loop.counter ≡ given = omega (arith, enough, few) in
    IfOk-weaker c.look_again.result _ _
    (λ left it. emptied_past g.D.PageDisk c.args.aim c.args.style c.loop.counter c.loop.passed.items first c.loop.core (contents c.args.writer.now) (contents c.loop.writer) c.loop.invariant.steps left.passed_over c.look_again.new.core
    (contents c.loop.writer) c.loop.invariant.few (it.1 ∙ ap (λ (es : List ℕ). length es) c.deref.ensures.value) c.look_again.ensures.reads (inr (same ∙ most)) refl) c.look_again.ensures.left

pub returns-clause-stopped : goal.returns-clause-stopped
returns-clause-stopped g c =
    let disks = g.D.PageDisk in
    let contents = g.W.Write.contents in
    let start = contents c.args.writer.now in
    let end = contents c.loop.writer in
    let new = c.look_again.new.core in
    no_memory (StopsLater disks c.args.aim c.args.style c.args.core.now new start end) c.look_again.result
    (stopped_later disks c.args.aim c.args.style c.loop.counter c.loop.passed.items c.args.core.now c.loop.core start end c.loop.invariant.steps new end _ (inl (refl, c.look_again.ensures.reads), refl)) c.look_again.ensures.memory

pub loop-init : goal.loop-init
loop-init g c = record {
  tidies = tidies_none g.D.PageDisk c.args.core.now;
  so_far = λ honest. inl refl;
  steps = no_step g.D.PageDisk c.args.aim c.args.style c.args.core.now (g.W.Write.contents c.args.writer.now) _ c.new-passed.ensures.items;
  few = from_zero (most_emptied c.args.aim (shape c.args.core.now.store.extents).extents);
}

pub loop-preserved : goal.loop-preserved
loop-preserved g c =
    let disks = g.D.PageDisk in
    let aim = c.args.aim in
    let style = c.args.style in
    let first = c.args.core.now in
    let old = c.loop.core in
    let new = c.empty_next.new.core in
    let given = c.most_emptied-most.result in
    let most : given ≡ most_emptied aim (shape first.store.extents).extents =
    most_held aim c.extents.result.now first.store.extents given c.extents.ensures c.most_emptied-most.ensures in
    let within : c.loop.counter < given = c.loop-test.true in
    let one : c.loop.counter + 1 ≤ given = omega (arith, within) in
    let contents = g.W.Write.contents in
    let start = contents c.args.writer.now in
    let before = contents c.loop.writer in
    let after = contents c.empty_next.new.writer in
    let passed = c.loop.passed.items in
    let next = c.empty_next.new.passed.items in
    record {
      tidies = tidies_then disks first old new c.loop.invariant.tidies c.empty_next.ensures.tidies;
      so_far = λ honest. inr (subst (λ (s : Sought). WhetherFound s (IsPersistent new) (ReadsOn disks old new)) c.in-Found.is (c.in_ok-sought.ensures.rests (c.loop.invariant.tidies.honest.0 honest)));
      steps = one_more disks aim style c.loop.counter passed first old start before c.loop.invariant.steps next new after
          (subst (λ (s : Sought). WhetherFound s (DoesOne disks aim style passed next old new before after)
          (ReadsOn disks old new × IsSettled disks aim passed old × (after ≡ before) × (next ≡ passed))) c.in-Found.is c.in_ok-sought.ensures.chosen);
      few = subst (λ (n : ℕ). c.loop.counter + 1 ≤ n) most one;
    }
