use Rattle.std.proofs.Common.{inl, inr, ◌≡◌, ◌∙◌, ◌++◌, ◌-◌, ℕ, Option, ap, arith, option_map, option_to_list, subst, sym}
use Rattle.cs_disk.proofs.Images.{length-applied}
use Rattle.cs_disk.proofs.OnlyRead.{reads_on}
use Rattle.cs_disk.specs.Disk.{seen}
use Rattle.cs_mount.specs.Hidden.{is_among, without_hidden}
use Rattle.cs_mount.specs.StorePairs.{dimensions_on}
use Rattle.cs_mount.proofs.EndsFound.{among_after, other_alike, store_alike}
use Rattle.cs_mount.proofs.Unread.{rises_after}
use Rattle.cs_mount.proofs.unreadable.find_unreadable.Goals as goal

pub returns-in-Ok-find_halves-clause-hidden : goal.returns-in-Ok-find_halves-clause-hidden
returns-in-Ok-find_halves-clause-hidden g c = λ h.
    let D = g.D.PageDisk in
    let disk = c.args.disk.now in
    let s = D.state disk in
    let n = D.page_count disk in
    let some = c.requires in
    let all = c.in-Ok-find_halves.unread.items in
    let list = c.in-Ok.found.unread.items in
    let last : is_among all (n - 1) ≡ is_among list (n - 1) = subst (λ (m : ℕ). is_among all (m - 1) ≡ is_among list (m - 1)) c.find_store.ensures.disk.pages c.in-Ok-find_halves.ensures.last in
    c.in-Ok.ensures.other h
    ∙ sym (other_alike n (seen s) (omega (arith, some)) (length-applied s.durable s.volatile ∙ g.met.D.PageDisk.sized disk h) all list c.in-Ok-find_halves.ensures.zero last (option_map (λ it. it.0) c.args.id))

pub returns-in-Ok-find_halves-clause-halves : goal.returns-in-Ok-find_halves-clause-halves
returns-in-Ok-find_halves-clause-halves g c = λ h.
    let D = g.D.PageDisk in
    let disk = c.args.disk.now in
    let s = D.state disk in
    let n = D.page_count disk in
    let some = c.requires in
    let all = c.in-Ok-find_halves.unread.items in
    let list = c.in-Ok.found.unread.items in
    let other = option_to_list c.in-Ok.found.other in
    let last : is_among all (n - 1) ≡ is_among list (n - 1) = subst (λ (m : ℕ). is_among all (m - 1) ≡ is_among list (m - 1)) c.find_store.ensures.disk.pages c.in-Ok-find_halves.ensures.last in
    inr (
      c.in-Some.geometry,
      store_alike n (seen s) (omega (arith, some)) (length-applied s.durable s.volatile ∙ g.met.D.PageDisk.sized disk h) (other ++ all) (other ++ list) (among_after other all list 0 c.in-Ok-find_halves.ensures.zero) (among_after other all list (n - 1) last)
          ∙ sym (c.in-Ok.ensures.geometry h) ∙ c.in-Some.is,
      c.in-Ok-find_halves.ensures.halves,
    )

pub returns-in-Ok-find_halves-clause-disk : goal.returns-in-Ok-find_halves-clause-disk
returns-in-Ok-find_halves-clause-disk g c = reads_on g.D.PageDisk c.args.disk.now c.find_store.new.disk c.find_halves.new.disk c.find_store.ensures.disk c.find_halves.ensures.disk

pub returns-in-Err-find_halves-clause-disk : goal.returns-in-Err-find_halves-clause-disk
returns-in-Err-find_halves-clause-disk g c = reads_on g.D.PageDisk c.args.disk.now c.find_store.new.disk c.find_halves.new.disk c.find_store.ensures.disk c.find_halves.ensures.disk

pub returns-in-Err-clause-why : goal.returns-in-Err-clause-why
returns-in-Err-clause-why g c = λ h fault. inl (c.in-Err.ensures.twice fault)

pub returns-in-Err-find_halves-clause-why : goal.returns-in-Err-find_halves-clause-why
returns-in-Err-find_halves-clause-why g c = λ h fault.
    let F = g.D.PageDisk.failure_count in
    inl (rises_after 2 (F c.args.disk.now) (F c.find_store.new.disk) (F c.find_halves.new.disk) c.find_store.ensures.disk.failures (c.in-Err-find_halves.ensures.twice fault))

pub returns-in-Err-without_store-clause-why : goal.returns-in-Err-without_store-clause-why
returns-in-Err-without_store-clause-why g c = λ h fault.
    let D = g.D.PageDisk in
    let n = D.page_count c.args.disk.now in
    let image = seen (D.state c.args.disk.now) in
    let list = c.in-Ok.found.unread.items in
    inr (
      list,
      c.in-Err-without_store.ensures.unread.1,
      c.in-Ok.ensures.unread,
      ap (λ (o : Option ℕ). dimensions_on n (without_hidden (option_to_list o ++ list) image)) (sym (c.in-Ok.ensures.other h)) ∙ sym (c.in-Ok.ensures.geometry h) ∙ c.in-None.is,
    )
