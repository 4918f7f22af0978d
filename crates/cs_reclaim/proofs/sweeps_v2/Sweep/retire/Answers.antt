use Rattle.std.proofs.Common.{ℕ, subst}
use Rattle.cs_index.specs.Staged.{IsWhy}
use Rattle.cs_index.specs.State.{index_of}
use Rattle.law_machine.specs.Index.{NothingLive}
use Rattle.cs_reclaim.specs.Retired.{IsRetireFull, IsRetireWorn}
use Rattle.cs_reclaim.proofs.Retiring.{alive_err, alive_ok}
use Rattle.cs_reclaim.proofs.sweeps_v2.Sweep.retire.Goals as goal

pub returns-in-Ok-clause-nothing : goal.returns-in-Ok-clause-nothing
returns-in-Ok-clause-nothing c = subst (λ (e : ℕ). NothingLive (index_of c.args.index.now) e) c.self.view_is c.in-Ok.ensures.nothing

pub returns-in-Ok-clause-alive : goal.returns-in-Ok-clause-alive
returns-in-Ok-clause-alive c = alive_ok c.args.self (index_of c.args.index.now) c.self.inside.extent c.args.self c.self.view_is c.in-Ok.root c.in-Ok.ensures.alive

pub returns-in-Ok-clause-why : goal.returns-in-Ok-clause-why
returns-in-Ok-clause-why c =
    subst (λ (e : ℕ). NothingLive (index_of c.args.index.now) e → (IsRetireFull c.args.index.now c.args.extents.now → ⊥) × (IsRetireWorn c.args.index.now c.args.extents.now c.args.graph.now.staging e → ⊥)) c.self.view_is c.in-Ok.ensures.why

pub returns-in-Err-clause-alive : goal.returns-in-Err-clause-alive
returns-in-Err-clause-alive c = alive_err c.args.self (index_of c.args.index.now) c.self.inside.extent c.args.self c.self.view_is c.in-Err.refusal c.in-Err.ensures.alive

pub returns-in-Err-clause-why : goal.returns-in-Err-clause-why
returns-in-Err-clause-why c =
    subst (λ (e : ℕ). NothingLive (index_of c.args.index.now) e → IsWhy c.in-Err.refusal (IsRetireFull c.args.index.now c.args.extents.now) (IsRetireWorn c.args.index.now c.args.extents.now c.args.graph.now.staging e)) c.self.view_is c.in-Err.ensures.why
