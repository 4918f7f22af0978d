use Rattle.std.proofs.Common.{ℕ, subst}
use Rattle.cs_disk.proofs.OnlyRead.{reads_on}
use Rattle.cs_salvage.specs.Passed.{ArePassed}
use Rattle.cs_doctor.proofs.scans.greatest_command.Goals as goal

pub returns-in-Ok-clause-disk : goal.returns-in-Ok-clause-disk
returns-in-Ok-clause-disk g c =
    reads_on g.D.PageDisk c.args.disk.now c.find_geometry.new.disk c.scan_commands.new.disk c.find_geometry.ensures.disk c.scan_commands.ensures.disk

pub returns-in-Err-scan_commands-clause-disk : goal.returns-in-Err-scan_commands-clause-disk
returns-in-Err-scan_commands-clause-disk g c =
    reads_on g.D.PageDisk c.args.disk.now c.find_geometry.new.disk c.scan_commands.new.disk c.find_geometry.ensures.disk c.scan_commands.ensures.disk

pub returns-in-Ok-clause-spelled : goal.returns-in-Ok-clause-spelled
returns-in-Ok-clause-spelled g c = (
  c.in-Ok-Some.geometry,
  c.in-Ok.ensures.spelled,
  subst (λ (n : ℕ). ArePassed c.in-Ok-Some.geometry 0 n c.in-Ok.scanned.unreadable.items) c.find_geometry.ensures.disk.pages c.in-Ok.ensures.passed,
)
