use Rattle.std.proofs.Common.{◌∙◌, ◌<◌, List, drop, length, sym, subst, inr}
use Rattle.cs_refusal.specs.declared.refusals.Refusal.TheVariants as code
use Rattle.cs_disk.specs.Disk.{Leaves}
use Rattle.cs_core.specs.Answered.{IsLimited}
use Rattle.cs_core.specs.declared.events.Event.{Event as Asked}
use Rattle.cs_core.specs.declared.events.Reply.{Reply as Told}
use Rattle.cs_core.specs.Stored.{but_for_room}
use Rattle.cs_core.specs.Views.{View}
use Rattle.cs_core.proofs.Answering.{answered_meant, answered_shape, answered_writes, full_shape, no_bytes}
use Rattle.cs_core.proofs.Applied.{core_of, core_then, core_untouched, crash_then, crash_untouched, kept_is, left_then, left_untouched, step_then}
use Rattle.cs_core.specs.Prefixes.{IsPrefixOf}
use Rattle.cs_core.proofs.Known.{known_then, known_untouched}
use Rattle.cs_core.proofs.Leaving.{left_now, only_left_now}
use Rattle.cs_core.proofs.cores.Core.apply.Goals as goal
use Rattle.cs_core.proofs.cores.Core.apply.Goals.{else-is_limited-via-then-is_limited+else-self-kept, else-is_limited-via-else-is_limited}

pub returns-then-self-kept-clause-crash : goal.returns-then-self-kept-clause-crash
returns-then-self-kept-clause-crash g c = rw (← c.self.view_is) (λ honest.
    only_left_now g.D.PageDisk c.self.invariant.core c.keeps_whole.ensures.extents honest (g.met.D.PageDisk.sized c.self.inside.disk honest) (λ image since. g.met.D.PageDisk.only_now c.self.inside.disk image honest since))

pub returns-in_err-reserve-clause-crash : goal.returns-in_err-reserve-clause-crash
returns-in_err-reserve-clause-crash g c = rw (← c.self.view_is) (λ honest.
    only_left_now g.D.PageDisk c.self.invariant.core c.keeps_whole.ensures.extents honest (g.met.D.PageDisk.sized c.self.inside.disk honest) (λ image since. g.met.D.PageDisk.only_now c.self.inside.disk image honest since))

pub returns-in_err-kept-clause-crash : goal.returns-in_err-kept-clause-crash
returns-in_err-kept-clause-crash g c = rw (← c.self.view_is) (λ honest.
    only_left_now g.D.PageDisk c.self.invariant.core c.keeps_whole.ensures.extents honest (g.met.D.PageDisk.sized c.self.inside.disk honest) (λ image since. g.met.D.PageDisk.only_now c.self.inside.disk image honest since))

pub returns-in_err-reply-clause-crash : goal.returns-in_err-reply-clause-crash
returns-in_err-reply-clause-crash g c = rw (← c.self.view_is) (λ honest.
    crash_untouched g.D.PageDisk c.self.invariant.core c.in_err-reply.ensures.served c.reserve.new.self.all c.reserve.ensures.all c.reserve.new.self.base c.reserve.ensures.base
    c.keeps_whole.ensures.extents honest (g.met.D.PageDisk.sized c.self.inside.disk honest) (λ image since. g.met.D.PageDisk.only_now c.self.inside.disk image honest since))

pub returns-then-self-kept-clause-answers : goal.returns-then-self-kept-clause-answers
returns-then-self-kept-clause-answers g c = full_shape c.args.event.now c.if-is_limited.ensures

pub returns-then-self-kept-clause-left : goal.returns-then-self-kept-clause-left
returns-then-self-kept-clause-left g c = λ honest.
    let there : g.D.PageDisk.honest c.self.inside.disk = subst (λ (v : View g.row.D.Denot). g.D.PageDisk.honest v.disk) (sym c.self.view_is) honest in
    subst (λ (v : View g.row.D.Denot). Leaves (g.D.PageDisk.state v.disk) (IsPrefixOf v)) c.self.view_is
    (left_now g.D.PageDisk c.self.invariant.core c.keeps_whole.ensures.extents there (g.met.D.PageDisk.sized c.self.inside.disk there))

pub returns-in_err-reserve-clause-left : goal.returns-in_err-reserve-clause-left
returns-in_err-reserve-clause-left g c = rw (← c.self.view_is) (λ honest.
    let i = c.self.inside in
    subst (λ (h : List (Asked × Told)). Leaves (g.D.PageDisk.state i.disk) (IsPrefixOf (core_of i.disk (g.D.PageDisk.state i.opened.value).durable i.found i.store h i.history.base i.limit))) (sym c.reserve.ensures.all)
    (left_now g.D.PageDisk c.self.invariant.core c.keeps_whole.ensures.extents honest (g.met.D.PageDisk.sized i.disk honest)))

pub returns-in_err-kept-clause-left : goal.returns-in_err-kept-clause-left
returns-in_err-kept-clause-left g c = rw (← c.self.view_is) (λ honest.
    let i = c.self.inside in
    subst (λ (h : List (Asked × Told)). Leaves (g.D.PageDisk.state i.disk) (IsPrefixOf (core_of i.disk (g.D.PageDisk.state i.opened.value).durable i.found i.store h i.history.base i.limit))) (sym c.reserve.ensures.all)
    (left_now g.D.PageDisk c.self.invariant.core c.keeps_whole.ensures.extents honest (g.met.D.PageDisk.sized i.disk honest)))

pub returns-in_err-reply-clause-left : goal.returns-in_err-reply-clause-left
returns-in_err-reply-clause-left g c = rw (← c.self.view_is) (λ honest.
    left_untouched g.D.PageDisk c.self.invariant.core c.in_err-reply.ensures.served c.reserve.new.self.all c.reserve.ensures.all c.reserve.new.self.base c.reserve.ensures.base
    c.keeps_whole.ensures.extents honest (g.met.D.PageDisk.sized c.serve.new.disk (c.serve.ensures.served.honesty.0 honest)))

pub invariant_of-self-in_err-reply : goal.invariant_of-self-in_err-reply
invariant_of-self-in_err-reply g c =
    known_untouched g.D.PageDisk c.self.invariant c.in_err-reply.ensures.served c.reserve.new.self.all c.reserve.new.self.base
    (core_untouched g.D.PageDisk c.self.invariant.core c.in_err-reply.ensures.served c.reserve.new.self.all c.reserve.ensures.all c.reserve.new.self.base c.reserve.ensures.base)

pub invariant_of-self-2 : goal.invariant_of-self-2
invariant_of-self-2 g c =
    let hist = kept_is c.push.new.self.all c.reserve.new.self.all c.self.inside.history.all c.args.event.now c.in_ok-kept.kept c.in_ok-reply.reply c.in_ok-reply.noted
    c.push.ensures.all c.reserve.ensures.all c.in_ok-kept.ensures c.in_ok-reply.ensures.served.twice in
    known_then g.D.PageDisk c.self.invariant c.in_ok-reply.ensures.served c.keeps_whole.ensures.extents c.keeps_whole.ensures.graph c.keeps_whole-2.ensures.extents c.keeps_whole-2.ensures.graph
    (λ h. g.met.D.PageDisk.sized c.self.inside.disk h) (λ h. g.met.D.PageDisk.sized c.serve.new.disk h) c.push.new.self.all c.push.new.self.base
    (core_then g.D.PageDisk c.self.invariant.core c.in_ok-reply.ensures.served c.push.new.self.all hist c.push.new.self.base (c.push.ensures.base ∙ c.reserve.ensures.base))
    c.note_done.new.lengths c.note_done.ensures.said

pub returns-clause-step : goal.returns-clause-step
returns-clause-step g c = rw (← c.self.view_is) (
    let hist = kept_is c.push.new.self.all c.reserve.new.self.all c.self.inside.history.all c.args.event.now c.in_ok-kept.kept c.in_ok-reply.reply c.in_ok-reply.noted
    c.push.ensures.all c.reserve.ensures.all c.in_ok-kept.ensures c.in_ok-reply.ensures.served.twice in
    let room : IsLimited c.args.event.now → length (drop c.self.inside.history.base c.self.inside.history.all) < c.self.inside.limit = elim c.else-is_limited.branch [
      | else-is_limited-via-then-is_limited+else-self-kept w ↦ λ limited. subst (λ (h : List (Asked × Told)). length h < c.self.inside.limit) w.kept.ensures.kept w.if-self-kept.false
      | else-is_limited-via-else-is_limited w ↦ λ limited. absurd (w.if-is_limited.ensures limited)
    ] in
    inr (step_then g.D.PageDisk c.self.invariant.core c.in_ok-reply.ensures.served c.push.new.self.all hist c.push.new.self.base (c.push.ensures.base ∙ c.reserve.ensures.base) room))

pub returns-clause-left : goal.returns-clause-left
returns-clause-left g c = rw (← c.self.view_is) (λ honest.
    let hist = kept_is c.push.new.self.all c.reserve.new.self.all c.self.inside.history.all c.args.event.now c.in_ok-kept.kept c.in_ok-reply.reply c.in_ok-reply.noted
    c.push.ensures.all c.reserve.ensures.all c.in_ok-kept.ensures c.in_ok-reply.ensures.served.twice in
    left_then g.D.PageDisk c.self.invariant.core c.in_ok-reply.ensures.served c.push.new.self.all hist c.push.new.self.base (c.push.ensures.base ∙ c.reserve.ensures.base)
    c.keeps_whole.ensures.extents honest (g.met.D.PageDisk.sized c.serve.new.disk (c.serve.ensures.served.honesty.0 honest)))

pub returns-clause-crash : goal.returns-clause-crash
returns-clause-crash g c = rw (← c.self.view_is) (λ honest.
    let hist = kept_is c.push.new.self.all c.reserve.new.self.all c.self.inside.history.all c.args.event.now c.in_ok-kept.kept c.in_ok-reply.reply c.in_ok-reply.noted
    c.push.ensures.all c.reserve.ensures.all c.in_ok-kept.ensures c.in_ok-reply.ensures.served.twice in
    crash_then g.D.PageDisk c.self.invariant.core c.in_ok-reply.ensures.served c.push.new.self.all hist c.push.new.self.base (c.push.ensures.base ∙ c.reserve.ensures.base)
    c.keeps_whole.ensures.extents honest (g.met.D.PageDisk.sized c.self.inside.disk honest) (g.met.D.PageDisk.sized c.serve.new.disk (c.serve.ensures.served.honesty.0 honest))
    (λ image since. g.met.D.PageDisk.only_now c.self.inside.disk image honest since))

pub returns-clause-answers : goal.returns-clause-answers
returns-clause-answers g c = answered_shape (but_for_room c.self.inside.store) (but_for_room c.serve.new.self) c.args.event.now c.in_ok-reply.reply c.in_ok-reply.ensures.served.answered

pub returns-clause-writeback : goal.returns-clause-writeback
returns-clause-writeback g c = rw (← c.self.view_is) (answered_writes (but_for_room c.self.inside.store) (but_for_room c.serve.new.self) c.args.event.now c.in_ok-reply.reply c.in_ok-reply.ensures.served.answered)

pub returns-then-self-kept-clause-meant : goal.returns-then-self-kept-clause-meant
returns-then-self-kept-clause-meant g c = rw (← c.self.view_is) (no_bytes (but_for_room c.self.inside.store) c.args.event.now code.HistoryFull)

pub returns-clause-meant : goal.returns-clause-meant
returns-clause-meant g c = rw (← c.self.view_is) (answered_meant (but_for_room c.self.inside.store) (but_for_room c.serve.new.self) c.args.event.now c.in_ok-reply.reply c.in_ok-reply.ensures.served.answered)

pub returns-clause-full : goal.returns-clause-full
returns-clause-full g c = λ full. absurd (c.in_ok-reply.ensures.served.unlimited full)
