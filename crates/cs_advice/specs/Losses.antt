-- When a repair may make a loss of commands final.
use Rattle.std.specs.Prelude.{◌==◌, ◌&&◌, Bool}
use Rattle.cs_twin.specs.declared.findings.Finding.{Finding}
use Rattle.cs_twin.specs.Findings.{is_halved}

-- it is the root's pair, and one of its pages is damaged beside the other
abbrev pub may_hide_root : Finding → Bool
may_hide_root it = it.pair.page == 1 && is_halved it
