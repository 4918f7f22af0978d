use Rattle.std.proofs.Common.{◌∙◌, ap, option_to_list, refl, subst, sym}
use Rattle.cs_disk.proofs.Images.{length-applied}
use Rattle.cs_disk.specs.Disk.{seen}
use Rattle.cs_mount.specs.Hidden.{hidden_at, page_to_hide}
use Rattle.cs_mount.specs.Identities.{IsOfOne}
use Rattle.cs_mount.specs.StorePairs.{dimensions_on}
use Rattle.cs_mount.proofs.Hiding.{chosen_first, chosen_last, chosen_one, hidden_stays, joined_none, seen_chosen, state_chosen_is}
use Rattle.cs_mount.proofs.Repaging.{repages_kept, whole_repaged}
use Rattle.cs_mount.proofs.chosen.Chosen.of_store.Goals as goal

pub invariant_of-result : goal.invariant_of-result
invariant_of-result g c =
    let f = hidden_at c.in-Ok-joined.hidden.items in
    let s = g.D.PageDisk.state c.find_hidden.new.disk in
    record { shows = repages_kept f s; whole = λ h. whole_repaged f s (hidden_stays c.in-Ok-joined.hidden.items) (g.met.D.PageDisk.whole c.find_hidden.new.disk h) }

pub returns-in-Ok-joined-clause-hidden : goal.returns-in-Ok-joined-clause-hidden
returns-in-Ok-joined-clause-hidden g c = λ h. joined_none c.in-Ok-joined.hidden.items _ c.in-Ok.hidden _ c.in-Ok-joined.ensures.pages refl (c.in-Ok.ensures.hidden h)

pub returns-in-Ok-joined-clause-shown : goal.returns-in-Ok-joined-clause-shown
returns-in-Ok-joined-clause-shown g c = λ h.
    state_chosen_is c.in-Ok-joined.hidden.items _ (g.D.PageDisk.state c.find_hidden.new.disk) (g.D.PageDisk.state c.args.disk) (joined_none c.in-Ok-joined.hidden.items _ c.in-Ok.hidden _ c.in-Ok-joined.ensures.pages refl (c.in-Ok.ensures.hidden h)) (c.in-Ok.ensures.disk.same h)

pub returns-in-Ok-joined-clause-one : goal.returns-in-Ok-joined-clause-one
returns-in-Ok-joined-clause-one g c = λ h.
    let D = g.D.PageDisk in
    let s = D.state c.args.disk in
    let n = D.page_count c.args.disk in
    let hidden = option_to_list (page_to_hide n c.args.id.0 (seen s)) in
    let is = joined_none c.in-Ok-joined.hidden.items _ c.in-Ok.hidden _ c.in-Ok-joined.ensures.pages refl (c.in-Ok.ensures.hidden h) in
    subst (IsOfOne n) (sym (seen_chosen c.in-Ok-joined.hidden.items hidden (D.state c.find_hidden.new.disk) s is (c.in-Ok.ensures.disk.same h)))
    (chosen_one n c.args.id.0 (seen s) c.requires (length-applied s.durable s.volatile ∙ g.met.D.PageDisk.sized c.args.disk h))

pub returns-in-Ok-joined-clause-first : goal.returns-in-Ok-joined-clause-first
returns-in-Ok-joined-clause-first g c = λ h says.
    let D = g.D.PageDisk in
    let s = D.state c.args.disk in
    let n = D.page_count c.args.disk in
    let hidden = option_to_list (page_to_hide n c.args.id.0 (seen s)) in
    let is = joined_none c.in-Ok-joined.hidden.items _ c.in-Ok.hidden _ c.in-Ok-joined.ensures.pages refl (c.in-Ok.ensures.hidden h) in
    ap (dimensions_on n) (seen_chosen c.in-Ok-joined.hidden.items hidden (D.state c.find_hidden.new.disk) s is (c.in-Ok.ensures.disk.same h))
    ∙ chosen_first n c.args.id.0 (seen s) c.requires (length-applied s.durable s.volatile ∙ g.met.D.PageDisk.sized c.args.disk h) says

pub returns-in-Ok-joined-clause-last : goal.returns-in-Ok-joined-clause-last
returns-in-Ok-joined-clause-last g c = λ h two says.
    let D = g.D.PageDisk in
    let s = D.state c.args.disk in
    let n = D.page_count c.args.disk in
    let hidden = option_to_list (page_to_hide n c.args.id.0 (seen s)) in
    let is = joined_none c.in-Ok-joined.hidden.items _ c.in-Ok.hidden _ c.in-Ok-joined.ensures.pages refl (c.in-Ok.ensures.hidden h) in
    ap (dimensions_on n) (seen_chosen c.in-Ok-joined.hidden.items hidden (D.state c.find_hidden.new.disk) s is (c.in-Ok.ensures.disk.same h))
    ∙ chosen_last n c.args.id.0 (seen s) c.requires (length-applied s.durable s.volatile ∙ g.met.D.PageDisk.sized c.args.disk h) two says
