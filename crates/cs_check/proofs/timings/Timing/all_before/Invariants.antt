use Rattle.std.proofs.Common.{ℕ, ◌<◌, slice_index}
use Rattle.cs_deps.specs.declared.elements.Element.{Element}
use Rattle.cs_deps.specs.Named.{Named, Names}
use Rattle.cs_deps.specs.Pending.{WaitsAt}
use Rattle.cs_deps.specs.View.{pending_of}
use Rattle.cs_check.proofs.timings.Timing.all_before.Given as goal

abbrev pub invariant-loop-k : goal.invariant-loop-k
invariant-loop-k l = (j : ℕ) (x : Element) (e : Named) → j < l.k → WaitsAt (pending_of l.self.view.now) j x e → Names l.needs x → slice_index l.self.firsts.now j < l.i
