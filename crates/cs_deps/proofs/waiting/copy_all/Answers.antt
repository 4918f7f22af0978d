use Rattle.std.proofs.Common.{◌∙◌, ap, refl, arith}
use Rattle.std.specs.Prelude.{map, ◌&&◌}
use Rattle.cs_deps.specs.declared.elements.Element.{Element}
use Rattle.cs_deps.specs.Named.{Named}
use Rattle.cs_deps.specs.Entries.{entry_waits, full_needs}
use Rattle.cs_deps.specs.Levels.{entry_live, live_of}
use Rattle.cs_deps.proofs.Entries.{mapped_all}
use Rattle.cs_deps.proofs.Live.{filter_twice}
use Rattle.cs_deps.proofs.waiting.copy_all.Goals as goal

pub returns : goal.returns
returns c =
    let l = c.args.levels.now in
    let fl = c.args.floors.now in
    let ps = c.args.persistent.now in
    let es = c.args.entries.now in
    mapped_all (λ (w : Element × Named). (w.0, full_needs (live_of l fl es) w.0 w.1)) (λ w. entry_live l fl w.0 && entry_waits ps w.0) es c.loop-k.k c.loop-k.copy.items (omega arith) c.loop-k.invariant
    ∙ ap (map (λ (w : Element × Named). (w.0, full_needs (live_of l fl es) w.0 w.1))) (filter_twice (λ (w : Element × Named). entry_live l fl w.0 && entry_waits ps w.0) (λ w. entry_waits ps w.0) (λ w. entry_live l fl w.0) es (λ k w at. refl))
