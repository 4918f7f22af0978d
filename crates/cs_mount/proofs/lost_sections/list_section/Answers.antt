use Rattle.std.proofs.Common.{◌∙◌, ◌<◌, ap, subst, sym, ℕ}
use Rattle.cs_disk.specs.Disk.{Write}
use Rattle.cs_index.proofs.Sorted.{all_append}
use Rattle.cs_mount.specs.MadeSections.{IsInside}
use Rattle.cs_mount.specs.StorePairs.{pages_of, store_pair}
use Rattle.cs_mount.proofs.MadeListed.{lost_inside, made_listed, nothing_listed}
use Rattle.cs_mount.proofs.lost_sections.list_section.Goals as goal

pub returns-then-serves-clause-listed : goal.returns-then-serves-clause-listed
returns-then-serves-clause-listed c = λ whole.
    let named = c.args.named.now in
    nothing_listed named.geometry named.root named.places.items c.args.section c.args.versions.0 c.args.versions.1 c.max-version.result c.args.bytes.now c.args.pages.now.items c.in-Ok.serves c.max-version.ensures
    (c.in-Ok.ensures.serves (λ some. whole (subst (λ (n : ℕ). 0 < n) c.max-version.ensures some))) c.if-serves.true

pub returns-clause-listed : goal.returns-clause-listed
returns-clause-listed c = λ whole.
    let named = c.args.named.now in
    made_listed named.geometry named.root named.places.items c.args.section c.args.versions.0 c.args.versions.1 c.max-version.result c.args.bytes.now c.in_ok-page.page c.store_pair-pair.result c.args.pages.now.items c.push_lost.new.pages.items c.in-Ok.serves c.max-version.ensures
    (c.in-Ok.ensures.serves (λ some. whole (subst (λ (n : ℕ). 0 < n) c.max-version.ensures some))) c.if-serves.false
    (c.store_pair-pair.ensures ∙ ap (store_pair named.geometry) c.pair_of_section.ensures) c.in_ok-page.ensures c.in_ok-push_lost.ensures

pub returns-clause-inside : goal.returns-clause-inside
returns-clause-inside c = λ before.
    let named = c.args.named.now in
    subst (IsInside named.geometry) (sym c.in_ok-push_lost.ensures)
    (all_append (λ (w : Write). w.0 < pages_of named.geometry) c.args.pages.now.items _ before
    (lost_inside named.geometry c.extents.ensures.geometry c.requires.twins c.args.section c.requires.section c.store_pair-pair.result c.args.versions.0 c.args.versions.1 c.in_ok-page.page
    (c.store_pair-pair.ensures ∙ ap (store_pair named.geometry) c.pair_of_section.ensures)))
