use Rattle.std.proofs.Common.{◌≡◌, ◌-◌, ◌^◌, min, take}
use Rattle.cs_tools.specs.Overviews.{live_pages}
use Rattle.cs_tools.proofs.overviews.live_pages.Given as goal

abbrev pub invariant-loop-used : goal.invariant-loop-used
invariant-loop-used l = l.live ≡ min (live_pages (take l.used-index l.uses)) (2 ^ 64 - 1)
