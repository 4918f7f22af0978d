use Rattle.std.proofs.Common.{List, ℕ, length}
use Rattle.cs_disk.specs.Disk.{seen}
use Rattle.cs_salvage.specs.Passed.{ArePassed, RisesBy}
use Rattle.cs_tools.proofs.Salvaging.{salvaged_if, unread_if}
use Rattle.cs_tools.proofs.salvages.salvage.Goals as goal

pub returns-clause-found : goal.returns-clause-found
returns-clause-found g c = λ honest.
    let finds = c.in_ok-finds.finds in
    let made = c.spelled_by.ensures in
    salvaged_if c.spelled_by.result (seen (g.D.PageDisk.state c.args.disk.now)) c.args.sought c.args.from_page finds.unreadable.items finds.parts.items
    made.sought made.from made.unreadable (c.in_ok-finds.ensures.parts honest) made.shards made.missing

pub returns-clause-passed : goal.returns-clause-passed
returns-clause-passed g c =
    unread_if c.spelled_by.result (ArePassed c.args.sought.geometry c.args.from_page (g.D.PageDisk.page_count c.args.disk.now)) c.in_ok-finds.finds.unreadable.items c.spelled_by.ensures.unreadable c.in_ok-finds.ensures.passed

pub returns-clause-cause : goal.returns-clause-cause
returns-clause-cause g c =
    unread_if c.spelled_by.result (λ (pages : List ℕ). RisesBy (length pages) (g.D.PageDisk.failure_count c.args.disk.now) (g.D.PageDisk.failure_count c.find_parts.new.disk)) c.in_ok-finds.finds.unreadable.items c.spelled_by.ensures.unreadable c.in_ok-finds.ensures.cause
