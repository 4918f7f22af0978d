use Rattle.std.proofs.Common.{◌++◌, ◌∷◌, ◌≡◌, ◌+◌, [], List, arith, subst, sym}
use Rattle.cs_frame.specs.declared.superblocks.Superblock.{Superblock}
use Rattle.cs_mount.specs.MadeSections.{AreMadeFrom}
use Rattle.cs_mount.proofs.MadeRuns.{more_made}
use Rattle.cs_mount.proofs.section_rows.made_all.Goals as goal

pub loop-section-preserved : goal.loop-section-preserved
loop-section-preserved c =
    let was = c.loop-section.invariant in
    let e = c.in-Ok.ensures in
    let items : c.push_reserved.new.self.items ≡ c.loop-section.sections.items ++ c.in-Ok.it ∷ [] = c.push_reserved.ensures.items in
    record {
      made = subst (λ (l : List Superblock). AreMadeFrom c.args.geometry c.args.named.now (c.loop-section.section + 1) l) (sym items)
          (more_made c.args.geometry c.args.named.now c.loop-section.section c.loop-section.sections.items c.in-Ok.it was.made (record { version = e.version; recorded = e.recorded; format = e.format; extents = e.extents; pages = e.pages; sections = e.sections; section = e.section; rows = e.rows }));
      size = omega (arith, c.push_reserved.ensures.len, was.size, c.push_reserved.new.self.ok.0, c.loop-section.sections.ok.0);
      room = omega (arith, was.room, c.push_reserved.ensures.capacity);
    }
