use Rattle.std.proofs.Common.{◌≡◌, ◌+◌, ◌-◌, ◌^◌, ℕ, length, subst}
use Rattle.std.specs.Prelude.{count_by, min}
use Rattle.cs_twin.specs.Findings.{is_halved}
use Rattle.cs_tools.specs.Pages.{AreWhole, left_damaged, left_made}
use Rattle.cs_tools.proofs.Counting.{both_counted, none_of_both}
use Rattle.cs_tools.proofs.pages.count_all_left.Goals as goal

pub returns-clause-none : goal.returns-clause-none
returns-clause-none c =
    let pages = c.args.pages.now in
    none_of_both (AreWhole (left_damaged pages.mended pages.findings.now)) (left_made pages.mended pages.made.now) c.count_left-halves.result c.saturating_add.result
    (subst (λ (k : ℕ). c.saturating_add.result ≡ min (c.count_left-halves.result + k) (2 ^ 64 - 1)) c.count_made-sections.ensures c.saturating_add.ensures) c.count_left-halves.ensures.none

pub returns-clause-count : goal.returns-clause-count
returns-clause-count c =
    let pages = c.args.pages.now in
    both_counted (count_by is_halved (left_damaged pages.mended pages.findings.now)) c.count_left-halves.result (length (left_made pages.mended pages.made.now)) c.saturating_add.result c.count_left-halves.ensures.count
    (subst (λ (k : ℕ). c.saturating_add.result ≡ min (c.count_left-halves.result + k) (2 ^ 64 - 1)) c.count_made-sections.ensures c.saturating_add.ensures)
