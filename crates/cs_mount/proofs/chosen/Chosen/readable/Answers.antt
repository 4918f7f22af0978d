use Rattle.std.proofs.Common.{◌∙◌, ℕ, List, Some, ap, arith, option_map, refl, subst, sym}
use Rattle.cs_disk.proofs.Images.{length-applied}
use Rattle.cs_disk.specs.Disk.{seen}
use Rattle.cs_mount.specs.Hidden.{hidden_at, state_without}
use Rattle.cs_mount.specs.Identities.{IsOfOne}
use Rattle.cs_mount.specs.StorePairs.{dimensions_on}
use Rattle.cs_mount.specs.Unreadable.{AreOfStore, all_hidden}
use Rattle.cs_mount.proofs.EndsFound.{chosen_some, readable_first, readable_last, readable_of_one}
use Rattle.cs_mount.proofs.Hiding.{hidden_stays, joined_all, seen_chosen}
use Rattle.cs_mount.proofs.Repaging.{repages_kept, whole_repaged}
use Rattle.cs_mount.proofs.chosen.Chosen.readable.Goals as goal

pub invariant_of-result : goal.invariant_of-result
invariant_of-result g c =
    let f = hidden_at c.in-Ok-joined.hidden.items in
    let s = g.D.PageDisk.state c.find_unreadable.new.disk in
    record { shows = repages_kept f s; whole = λ h. whole_repaged f s (hidden_stays c.in-Ok-joined.hidden.items) (g.met.D.PageDisk.whole c.find_unreadable.new.disk h) }

pub returns-in-Ok-joined-clause-hidden : goal.returns-in-Ok-joined-clause-hidden
returns-in-Ok-joined-clause-hidden g c = λ h. joined_all c.in-Ok-joined.hidden.items c.deref.result.now c.in-Ok.unread.items c.in-Ok.other _ c.in-Ok-joined.ensures.pages c.deref.ensures.value (c.in-Ok.ensures.hidden h)

pub returns-in-Ok-joined-clause-shown : goal.returns-in-Ok-joined-clause-shown
returns-in-Ok-joined-clause-shown g c = λ h. ap (state_without c.in-Ok-joined.hidden.items) (c.in-Ok.ensures.disk.same h)

pub returns-in-Ok-joined-clause-halves : goal.returns-in-Ok-joined-clause-halves
returns-in-Ok-joined-clause-halves g c = λ h.
    let D = g.D.PageDisk in
    subst (λ (l : List ℕ). AreOfStore (D.page_count c.args.disk) l c.in-Ok.unread.items (seen (D.state c.args.disk))) (sym (joined_all c.in-Ok-joined.hidden.items c.deref.result.now c.in-Ok.unread.items c.in-Ok.other c.in-Ok.other c.in-Ok-joined.ensures.pages c.deref.ensures.value refl)) (c.in-Ok.ensures.halves h)

pub returns-in-Ok-joined-clause-one : goal.returns-in-Ok-joined-clause-one
returns-in-Ok-joined-clause-one g c = λ h some.
    let D = g.D.PageDisk in
    let s = D.state c.args.disk in
    let n = D.page_count c.args.disk in
    let ten = c.requires in
    let hidden_is = joined_all c.in-Ok-joined.hidden.items c.deref.result.now c.in-Ok.unread.items c.in-Ok.other _ c.in-Ok-joined.ensures.pages c.deref.ensures.value (c.in-Ok.ensures.hidden h) in
    let hidden = all_hidden n (option_map (λ it. it.0) c.args.id) c.in-Ok.unread.items (seen s) in
    subst (IsOfOne n) (sym (seen_chosen c.in-Ok-joined.hidden.items hidden (D.state c.find_unreadable.new.disk) s (hidden_is) (c.in-Ok.ensures.disk.same h)))
    (readable_of_one n (seen s) (omega (arith, ten)) (length-applied s.durable s.volatile ∙ g.met.D.PageDisk.sized c.args.disk h) (option_map (λ it. it.0) c.args.id) c.in-Ok.unread.items (chosen_some (λ it. it.0) c.args.id some))

pub returns-in-Ok-joined-clause-first : goal.returns-in-Ok-joined-clause-first
returns-in-Ok-joined-clause-first g c = λ it h is says.
    let D = g.D.PageDisk in
    let s = D.state c.args.disk in
    let n = D.page_count c.args.disk in
    let ten = c.requires in
    let unread = c.in-Ok.unread.items in
    let hidden_is = joined_all c.in-Ok-joined.hidden.items c.deref.result.now c.in-Ok.unread.items c.in-Ok.other _ c.in-Ok-joined.ensures.pages c.deref.ensures.value (c.in-Ok.ensures.hidden h) in
    let hidden = all_hidden n (Some it.0) unread (seen s) in
    ap (dimensions_on n) (seen_chosen c.in-Ok-joined.hidden.items hidden (D.state c.find_unreadable.new.disk) s (hidden_is ∙ ap (λ o. all_hidden n (option_map (λ x. x.0) o) unread (seen s)) is) (c.in-Ok.ensures.disk.same h))
    ∙ readable_first n (seen s) (omega (arith, ten)) (length-applied s.durable s.volatile ∙ g.met.D.PageDisk.sized c.args.disk h) it.0 unread says

pub returns-in-Ok-joined-clause-last : goal.returns-in-Ok-joined-clause-last
returns-in-Ok-joined-clause-last g c = λ it h is two says.
    let D = g.D.PageDisk in
    let s = D.state c.args.disk in
    let n = D.page_count c.args.disk in
    let ten = c.requires in
    let unread = c.in-Ok.unread.items in
    let hidden_is = joined_all c.in-Ok-joined.hidden.items c.deref.result.now c.in-Ok.unread.items c.in-Ok.other _ c.in-Ok-joined.ensures.pages c.deref.ensures.value (c.in-Ok.ensures.hidden h) in
    let hidden = all_hidden n (Some it.0) unread (seen s) in
    ap (dimensions_on n) (seen_chosen c.in-Ok-joined.hidden.items hidden (D.state c.find_unreadable.new.disk) s (hidden_is ∙ ap (λ o. all_hidden n (option_map (λ x. x.0) o) unread (seen s)) is) (c.in-Ok.ensures.disk.same h))
    ∙ readable_last n (seen s) (omega (arith, ten)) (length-applied s.durable s.volatile ∙ g.met.D.PageDisk.sized c.args.disk h) it.0 unread two says
