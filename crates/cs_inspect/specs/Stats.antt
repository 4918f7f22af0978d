-- The figures of the index's runs, and how many extents may hold what.
use Rattle.std.specs.Prelude.{◌≡◌, ◌-◌, ℕ, List, [], ◌∷◌, ◌++◌, length}
use Rattle.cs_frame.specs.Formats.{place_of}
use Rattle.law_machine.specs.Device.{Shape}
use Rattle.law_machine.specs.Element.{Locator as Place, Run}
use Rattle.law_machine.specs.Extents.{Extents, chunk_extents, run_extents}
use Rattle.cs_inspect.specs.declared.figures.RunUse.{RunUse}
use Rattle.cs_inspect.specs.declared.figures.Quota.{Quota}

-- where a run's frame begins, and how many entries it has
abbrev pub run_figure : Run → Place × ℕ
run_figure run = (run.place, length run.entries)

-- uses of runs that are listed oldest first, newest first
abbrev pub newest_uses : List RunUse → List (Place × ℕ)
newest_uses [] = []
newest_uses (used ∷ uses) = newest_uses uses ++ (place_of used.place, used.entries) ∷ []

-- How many extents hold chunks, how many hold runs, and how many may: all but those for runs and two may hold chunks.
pub record IsQuota (S : Shape) (x : Extents) (quota : Quota) : Type 0 where
  pub chunks : quota.chunks ≡ chunk_extents x S.extents
  pub most_chunks : quota.most_chunks ≡ S.extents - S.run_extents - 2
  pub runs : quota.runs ≡ run_extents x S.extents
  pub most_runs : quota.most_runs ≡ S.run_extents
