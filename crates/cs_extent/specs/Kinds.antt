-- What an extent holds, in the words of the store's machine.
use Rattle.std.specs.Prelude.{Bool, true, false}
use Rattle.cs_extent.specs.declared.kinds.Kind.{Kind}
use Rattle.cs_extent.specs.declared.kinds.Kind.TheVariants.{Chunks, Runs}

-- it is runs
abbrev pub is_of_runs : Kind → Bool
is_of_runs Chunks = false
is_of_runs Runs = true
