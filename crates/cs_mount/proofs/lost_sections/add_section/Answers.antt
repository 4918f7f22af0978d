use Rattle.std.proofs.Common.{◌∙◌, ◌≡◌, ◌++◌, inl, OnOk, Option, List, Some, ap, refl, subst, true, false}
use Rattle.cs_disk.specs.Disk.{Write, page, seen}
use Rattle.cs_frame.specs.Geometries.{Dimensions}
use Rattle.cs_twin.specs.declared.pairs.Pair.{Pair}
use Rattle.cs_twin.specs.Pairs.{half, is_turned, version_at}
use Rattle.cs_mount.specs.MadeSections.{shown_half}
use Rattle.cs_mount.specs.StorePairs.{store_pair, store_version}
use Rattle.cs_mount.proofs.Crossings.{no_answer}
use Rattle.cs_mount.proofs.MadeListed.{caused_unasked, fit_is, half_there, listed_is, no_more_than_worn, shown_whole, worn_is, worn_or_none}
use Rattle.cs_mount.proofs.lost_sections.add_section.Goals as goal

pub read_halves-requires-clause-own : goal.read_halves-requires-clause-own
read_halves-requires-clause-own g c =
    let d = c.args.named.now.geometry in
    half_there d c.extents.ensures.geometry c.requires.twins c.args.section c.requires.section c.store_pair-pair.result (g.D.PageDisk.page_count c.args.disk.now) (c.store_pair-pair.ensures ∙ ap (store_pair d) c.pair_of_section.ensures) c.requires.sized false

pub read_halves-requires-clause-twin : goal.read_halves-requires-clause-twin
read_halves-requires-clause-twin g c =
    let d = c.args.named.now.geometry in
    half_there d c.extents.ensures.geometry c.requires.twins c.args.section c.requires.section c.store_pair-pair.result (g.D.PageDisk.page_count c.args.disk.now) (c.store_pair-pair.ensures ∙ ap (store_pair d) c.pair_of_section.ensures) c.requires.sized true

pub returns-in-Ok-clause-added : goal.returns-in-Ok-clause-added
returns-in-Ok-clause-added g c = λ h.
    let named = c.args.named.now in
    let d = named.geometry in
    let image = seen (g.D.PageDisk.state c.args.disk.now) in
    let pair = c.store_pair-pair.ensures ∙ ap (store_pair d) c.pair_of_section.ensures in
    let own = c.in-Ok.ensures.own h ∙ ap (λ (o : Option Dimensions). version_at (store_version o) image c.store_pair-pair.result false) c.requires.rules ∙ ap (λ (x : Pair). version_at (store_version (Some d)) image x false) pair in
    let twin = c.in-Ok.ensures.twin h ∙ ap (λ (o : Option Dimensions). version_at (store_version o) image c.store_pair-pair.result true) c.requires.rules ∙ ap (λ (x : Pair). version_at (store_version (Some d)) image x true) pair in
    let shown = c.in-Ok.ensures.shown h ∙ ap (λ (o : Option Dimensions). page image (half c.store_pair-pair.result (is_turned (store_version o) image c.store_pair-pair.result))) c.requires.rules ∙ ap (λ (x : Pair). shown_half d image x) pair in
    subst (λ (ws : List Write). OnOk c.list_section.result (c.list_section.new.pages.items ≡ c.args.pages.now.items ++ ws))
    (listed_is d c.extents.ensures.geometry c.requires.twins c.args.section c.requires.section image c.in-Ok.versions.0 c.in-Ok.versions.1 c.read_halves.new.buffer own twin shown named.root named.places.items)
    (c.list_section.ensures.listed (shown_whole d c.extents.ensures.geometry c.requires.twins c.args.section c.requires.section image c.in-Ok.versions.0 c.in-Ok.versions.1 c.read_halves.new.buffer own twin shown _ refl))

pub returns-in-Ok-clause-fit : goal.returns-in-Ok-clause-fit
returns-in-Ok-clause-fit g c = λ h.
    let named = c.args.named.now in
    let d = named.geometry in
    let image = seen (g.D.PageDisk.state c.args.disk.now) in
    let pair = c.store_pair-pair.ensures ∙ ap (store_pair d) c.pair_of_section.ensures in
    let own = c.in-Ok.ensures.own h ∙ ap (λ (o : Option Dimensions). version_at (store_version o) image c.store_pair-pair.result false) c.requires.rules ∙ ap (λ (x : Pair). version_at (store_version (Some d)) image x false) pair in
    let twin = c.in-Ok.ensures.twin h ∙ ap (λ (o : Option Dimensions). version_at (store_version o) image c.store_pair-pair.result true) c.requires.rules ∙ ap (λ (x : Pair). version_at (store_version (Some d)) image x true) pair in
    let shown = c.in-Ok.ensures.shown h ∙ ap (λ (o : Option Dimensions). page image (half c.store_pair-pair.result (is_turned (store_version o) image c.store_pair-pair.result))) c.requires.rules ∙ ap (λ (x : Pair). shown_half d image x) pair in
    fit_is d c.extents.ensures.geometry c.requires.twins c.args.section c.requires.section image c.in-Ok.versions.0 c.in-Ok.versions.1 c.read_halves.new.buffer own twin shown c.list_section.result named.root named.places.items
    (c.list_section.ensures.fit (shown_whole d c.extents.ensures.geometry c.requires.twins c.args.section c.requires.section image c.in-Ok.versions.0 c.in-Ok.versions.1 c.read_halves.new.buffer own twin shown _ refl))

pub returns-in-Ok-clause-cause : goal.returns-in-Ok-clause-cause
returns-in-Ok-clause-cause g c = caused_unasked _ _ c.list_section.result _ c.read_halves.ensures.cause.later c.list_section.ensures.number

pub returns-in-Ok-clause-number : goal.returns-in-Ok-clause-number
returns-in-Ok-clause-number g c = no_more_than_worn c.list_section.result _ c.list_section.ensures.number

pub returns-in-Ok-clause-why : goal.returns-in-Ok-clause-why
returns-in-Ok-clause-why g c = λ h.
    let named = c.args.named.now in
    let d = named.geometry in
    let image = seen (g.D.PageDisk.state c.args.disk.now) in
    let pair = c.store_pair-pair.ensures ∙ ap (store_pair d) c.pair_of_section.ensures in
    let own = c.in-Ok.ensures.own h ∙ ap (λ (o : Option Dimensions). version_at (store_version o) image c.store_pair-pair.result false) c.requires.rules ∙ ap (λ (x : Pair). version_at (store_version (Some d)) image x false) pair in
    let twin = c.in-Ok.ensures.twin h ∙ ap (λ (o : Option Dimensions). version_at (store_version o) image c.store_pair-pair.result true) c.requires.rules ∙ ap (λ (x : Pair). version_at (store_version (Some d)) image x true) pair in
    let shown = c.in-Ok.ensures.shown h ∙ ap (λ (o : Option Dimensions). page image (half c.store_pair-pair.result (is_turned (store_version o) image c.store_pair-pair.result))) c.requires.rules ∙ ap (λ (x : Pair). shown_half d image x) pair in
    worn_or_none c.list_section.result _ _ (worn_is d c.extents.ensures.geometry c.requires.twins c.args.section c.requires.section image c.in-Ok.versions.0 c.in-Ok.versions.1 c.read_halves.new.buffer own twin shown) c.list_section.ensures.number

pub returns-in-Err-clause-why : goal.returns-in-Err-clause-why
returns-in-Err-clause-why g c = λ h. inl (no_answer c.in-Err.fault c.refusal_of_disk.result c.refusal_of_disk.ensures)
