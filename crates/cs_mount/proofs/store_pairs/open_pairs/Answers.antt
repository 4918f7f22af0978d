use Rattle.std.proofs.Common.{◌∙◌, ◌⊎◌, inl, inr, ⊎_elim, [], ap, length, rules, subst, sym}
use Rattle.cs_core.specs.cs_chunk.Reads.{IsNoAnswer}
use Rattle.cs_disk.specs.Disk.{MayLeave, State, flushed, seen}
use Rattle.cs_mount.specs.declared.store_pairs.StoreRules.{StoreRules}
use Rattle.cs_mount.specs.Identities.{IsOfOne}
use Rattle.cs_mount.specs.OfStores.{IsOfStore}
use Rattle.cs_twin.specs.Paired.{disk_below, pairs_of, rules_of, state_shown}
use Rattle.cs_twin.specs.Pairs.{ArePairs, shown}
use Rattle.cs_mount.specs.StorePairs.{dimensions_on, store_version}
use Rattle.cs_disk.proofs.Images.{length-applied}
use Rattle.cs_mount.proofs.Keeping.{opened_of_store}
use Rattle.cs_mount.proofs.Mounting.{left_behind, shown_as_on, shown_behind, shows_as_on}
use Rattle.cs_twin.proofs.Opening.{leaves_behind, reads_alone}
use Rattle.cs_mount.proofs.store_pairs.open_pairs.Goals as goal

pub returns-in-Err-clause-crash : goal.returns-in-Err-clause-crash
returns-in-Err-clause-crash g c = λ h. reads_alone g.D.PageDisk c.args.disk c.find_one.new.disk h c.find_one.ensures.disk (λ image left. g.met.D.PageDisk.only_now c.args.disk image h left)

pub open-requires-clause-pairs : goal.open-requires-clause-pairs
open-requires-clause-pairs g c =
    subst (λ n. ArePairs c.in-Ok-pairs.pairs.items n) (sym c.find_one.ensures.disk.pages) (c.in-Ok-pairs.ensures.are (g.D.PageDisk.page_count c.args.disk) c.in-Ok.ensures.pages)

pub open-requires-clause-fits : goal.open-requires-clause-fits
open-requires-clause-fits g c = λ h.
    let D = g.D.PageDisk in
    let disk = c.args.disk in
    let mid = c.find_one.new.disk in
    let reads = c.find_one.ensures.disk in
    let old = reads.honesty.1 h in
    let size = ap (λ (z : State). length (seen z)) (reads.same old) ∙ length-applied (D.state disk).durable (D.state disk).volatile ∙ g.met.D.PageDisk.sized disk old in
    let one = subst (λ (z : State). IsOfOne (D.page_count disk) (seen z)) (sym (reads.same old)) (c.in-Ok.ensures.one old) in
    let here : IsOfStore c.in-Ok.geometry c.in-Ok-pairs.pairs.items (D.page_count disk) (seen (D.state mid)) =
    opened_of_store c.in-Ok.geometry c.in-Ok-pairs.pairs.items (D.page_count disk) (seen (D.state mid)) c.requires size (c.in-Ok-pairs.ensures.are (D.page_count disk) c.in-Ok.ensures.pages) one
    (c.in-Ok.ensures.found old ∙ ap (λ (z : State). dimensions_on (D.page_count disk) (seen z)) (sym (reads.same old))) c.in-Ok-pairs.ensures.pairs c.in-Ok.ensures.pages in
    subst (λ n. IsOfStore c.in-Ok.geometry c.in-Ok-pairs.pairs.items n (seen (D.state mid))) (sym reads.pages) here

pub returns-in-Ok-open-clause-crash : goal.returns-in-Ok-open-clause-crash
returns-in-Ok-open-clause-crash g c = λ h.
    let reads = c.find_one.ensures.disk in
    leaves_behind g.D.PageDisk c.args.disk c.find_one.new.disk (disk_below c.in-Ok-open.opened.0) h reads (c.in-Ok-open.ensures.crash (reads.honesty.0 h)) (λ t image honest le left. g.met.D.PageDisk.counts_now c.args.disk t image honest le left)

pub returns-in-Err-open-clause-crash : goal.returns-in-Err-open-clause-crash
returns-in-Err-open-clause-crash g c = λ h.
    let reads = c.find_one.ensures.disk in
    leaves_behind g.D.PageDisk c.args.disk c.find_one.new.disk c.in-Err-open.disk h reads (c.in-Err-open.ensures.crash (reads.honesty.0 h)) (λ t image honest le left. g.met.D.PageDisk.counts_now c.args.disk t image honest le left)

pub returns-in-Err-pairs-clause-crash : goal.returns-in-Err-pairs-clause-crash
returns-in-Err-pairs-clause-crash g c = λ h. reads_alone g.D.PageDisk c.args.disk c.find_one.new.disk h c.find_one.ensures.disk (λ image left. g.met.D.PageDisk.only_now c.args.disk image h left)

pub returns-in-Ok-open-clause-shown : goal.returns-in-Ok-open-clause-shown
returns-in-Ok-open-clause-shown g c = λ h.
    let D = g.D.PageDisk in
    let reads = c.find_one.ensures.disk in
    let s = D.state c.args.disk in
    let mid = D.state c.find_one.new.disk in
    let pages = D.page_count c.args.disk in
    let rules : StoreRules = record { alloc = c.args.alloc; geometry = c.in-Ok.geometry } in
    let items = c.in-Ok-pairs.pairs.items in
    let opened = c.in-Ok-open.opened in
    shown_as_on pages (seen s) c.in-Ok.geometry items (state_shown opened.0) (c.in-Ok.ensures.found h) c.in-Ok-pairs.ensures.pairs
    (shown_behind (λ (r : StoreRules). store_version r.geometry) (rules_of opened.0) rules (D.state (disk_below opened.0)) mid (pairs_of opened.0) items c.in-Ok-open.ensures.rules c.in-Ok-open.ensures.pairs
    (c.in-Ok-open.ensures.state (reads.honesty.0 h))
    ∙ ap (λ (z : State). record { durable = shown (store_version c.in-Ok.geometry) items (seen z); volatile = [] }) (reads.same h))

pub returns-in-Ok-open-clause-left : goal.returns-in-Ok-open-clause-left
returns-in-Ok-open-clause-left g c = λ h left is.
    let D = g.D.PageDisk in
    let disk = c.args.disk in
    let s = D.state disk in
    let rules : StoreRules = record { alloc = c.args.alloc; geometry = c.in-Ok.geometry } in
    let items = c.in-Ok-pairs.pairs.items in
    let opened = c.in-Ok-open.opened in
    shows_as_on (D.page_count disk) (seen s) c.in-Ok.geometry items (MayLeave s) left (c.in-Ok.ensures.found h) c.in-Ok-pairs.ensures.pairs
    (left_behind (λ (r : StoreRules). store_version r.geometry) (rules_of opened.0) rules (pairs_of opened.0) items (D.left_since (disk_below opened.0) (D.moment disk)) (MayLeave s) left c.in-Ok-open.ensures.rules c.in-Ok-open.ensures.pairs
    (λ image past. (returns-in-Ok-open-clause-crash g c h).each image past) is)

pub returns-in-Ok-open-clause-before : goal.returns-in-Ok-open-clause-before
returns-in-Ok-open-clause-before g c = λ h t left le is.
    let D = g.D.PageDisk in
    let disk = c.args.disk in
    let s = D.state disk in
    let rules : StoreRules = record { alloc = c.args.alloc; geometry = c.in-Ok.geometry } in
    let items = c.in-Ok-pairs.pairs.items in
    let opened = c.in-Ok-open.opened in
    shows_as_on (D.page_count disk) (seen s) c.in-Ok.geometry items (λ image. D.left_since disk t image ⊎ MayLeave s image) left (c.in-Ok.ensures.found h) c.in-Ok-pairs.ensures.pairs
    (left_behind (λ (r : StoreRules). store_version r.geometry) (rules_of opened.0) rules (pairs_of opened.0) items (D.left_since (disk_below opened.0) t) (λ image. D.left_since disk t image ⊎ MayLeave s image) left c.in-Ok-open.ensures.rules c.in-Ok-open.ensures.pairs
    (λ image past. (returns-in-Ok-open-clause-crash g c h).before t image le past) is)

pub returns-in-Err-open-clause-state : goal.returns-in-Err-open-clause-state
returns-in-Err-open-clause-state g c = λ h.
    let same = c.find_one.ensures.disk.same h in
    ⊎_elim (λ stays. inl (stays ∙ same)) (λ flush. inr (flush ∙ ap flushed same)) (c.in-Err-open.ensures.state (c.find_one.ensures.disk.honesty.0 h))

pub returns-in-Err-open-clause-why : goal.returns-in-Err-open-clause-why
returns-in-Err-open-clause-why g c = λ h. inl (let it : IsNoAnswer c.refusal_of_disk.result = search rules in it)
