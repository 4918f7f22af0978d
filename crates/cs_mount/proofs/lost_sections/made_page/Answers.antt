use Rattle.std.proofs.Common.{List, ap, ◌∙◌}
use Rattle.cs_frame.specs.declared.locators.Locator.{Locator}
use Rattle.cs_mount.specs.MadeSections.{made_rows}
use Rattle.cs_mount.proofs.MadeRuns.{is_superblock, made_is}
use Rattle.cs_mount.proofs.lost_sections.made_page.Goals as goal

pub encode_superblock-requires : goal.encode_superblock-requires
encode_superblock-requires c =
    let e = c.in-Ok.ensures in
    is_superblock c.args.named.now.geometry c.extents.ensures.geometry c.args.named.now.places.items c.args.version c.args.section c.in-Ok.it c.requires.first c.requires.last c.requires.section
    (record { version = e.version; recorded = e.recorded; format = e.format; extents = e.extents; pages = e.pages; sections = e.sections; section = e.section; rows = e.rows ∙ ap (λ (ls : List Locator). made_rows c.args.named.now.geometry ls c.args.section) c.deref.ensures.value })

pub returns-in-Ok : goal.returns-in-Ok
returns-in-Ok c =
    let e = c.in-Ok.ensures in
    made_is c.args.named.now.geometry c.args.named.now.places.items c.args.version c.args.section c.in-Ok.it c.encode_superblock.result (record { version = e.version; recorded = e.recorded; format = e.format; extents = e.extents; pages = e.pages; sections = e.sections; section = e.section; rows = e.rows ∙ ap (λ (ls : List Locator). made_rows c.args.named.now.geometry ls c.args.section) c.deref.ensures.value }) c.encode_superblock.ensures.spelled
