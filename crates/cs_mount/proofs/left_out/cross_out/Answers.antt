use Rattle.std.proofs.Common.{inl}
use Rattle.cs_mount.proofs.Crossings.{crossed_now, crossed_or_not, crossing_leaves, no_answer, no_crossing_leaves, row_at}
use Rattle.cs_mount.proofs.left_out.cross_out.Goals as goal

pub returns-in-Ok-write_through-clause-crossed : goal.returns-in-Ok-write_through-clause-crossed
returns-in-Ok-write_through-clause-crossed g c = λ h.
    crossed_now g.D.PageDisk c.args.geometry c.args.extent c.args.lives c.args.disk.now c.find_crossing.new.disk c.write_through.new.disk h c.find_crossing.ensures.disk c.section_page-number.result (row_at c.args.geometry c.args.extent c.section_of.result c.section_page-number.result c.requires.extent c.section_of.ensures.section c.section_page-number.ensures) c.in-Ok.bytes (c.in-Ok.ensures.crossing h) (c.in-Ok-write_through.ensures.written (c.find_crossing.ensures.disk.honesty.0 h))

pub returns-in-Ok-write_through-clause-crash : goal.returns-in-Ok-write_through-clause-crash
returns-in-Ok-write_through-clause-crash g c = λ h.
    crossing_leaves g.D.PageDisk c.args.geometry c.args.extent c.args.lives c.args.disk.now c.find_crossing.new.disk c.write_through.new.disk h c.find_crossing.ensures.disk c.section_page-number.result (row_at c.args.geometry c.args.extent c.section_of.result c.section_page-number.result c.requires.extent c.section_of.ensures.section c.section_page-number.ensures) c.in-Ok.bytes (c.in-Ok.ensures.crossing h) (λ image left. g.met.D.PageDisk.only_now c.args.disk.now image h left) (c.write_through.ensures.some (c.find_crossing.ensures.disk.honesty.0 h))

pub returns-in-Err-write_through-clause-refused : goal.returns-in-Err-write_through-clause-refused
returns-in-Err-write_through-clause-refused g c = λ h.
    crossed_or_not g.D.PageDisk c.args.geometry c.args.extent c.args.lives c.args.disk.now c.find_crossing.new.disk c.write_through.new.disk h c.find_crossing.ensures.disk c.section_page-number.result (row_at c.args.geometry c.args.extent c.section_of.result c.section_page-number.result c.requires.extent c.section_of.ensures.section c.section_page-number.ensures) c.in-Ok.bytes (c.in-Ok.ensures.crossing h) (c.in-Err-write_through.ensures.refused (c.find_crossing.ensures.disk.honesty.0 h))

pub returns-in-Err-write_through-clause-crash : goal.returns-in-Err-write_through-clause-crash
returns-in-Err-write_through-clause-crash g c = λ h.
    crossing_leaves g.D.PageDisk c.args.geometry c.args.extent c.args.lives c.args.disk.now c.find_crossing.new.disk c.write_through.new.disk h c.find_crossing.ensures.disk c.section_page-number.result (row_at c.args.geometry c.args.extent c.section_of.result c.section_page-number.result c.requires.extent c.section_of.ensures.section c.section_page-number.ensures) c.in-Ok.bytes (c.in-Ok.ensures.crossing h) (λ image left. g.met.D.PageDisk.only_now c.args.disk.now image h left) (c.write_through.ensures.some (c.find_crossing.ensures.disk.honesty.0 h))

pub returns-in-Err-write_through-clause-why : goal.returns-in-Err-write_through-clause-why
returns-in-Err-write_through-clause-why g c = λ h some. inl (no_answer c.in-Err-write_through.fault c.refusal_of_disk.result c.refusal_of_disk.ensures)

pub returns-in-Err-clause-crash : goal.returns-in-Err-clause-crash
returns-in-Err-clause-crash g c = λ h. no_crossing_leaves g.D.PageDisk c.args.geometry c.args.extent c.args.lives c.args.disk.now c.find_crossing.new.disk h c.find_crossing.ensures.disk (λ image left. g.met.D.PageDisk.only_now c.args.disk.now image h left)
