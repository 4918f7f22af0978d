use Rattle.std.proofs.Common.{◌≡◌, ◌≢◌, ◌⊎◌, ◌<◌, ◌≤◌, ℕ, None, Ok, ap, arith, inl, length, refl, sym, subst}
use Rattle.std.specs.Prelude.{slice_index}
use Rattle.cs_deps.specs.declared.elements.Element.TheVariants.{Version}
use Rattle.cs_deps.specs.Staging.{Staging}
use Rattle.cs_extent.specs.Frames.{root_family}
use Rattle.cs_core.specs.contracts.stores.Store.{the_view}
use Rattle.cs_core.specs.Frontiers.{AreNoted}
use Rattle.cs_core.specs.Rounds.{EndAnswers}
use Rattle.cs_core.specs.Stored.{Stored, members_of}
use Rattle.cs_core.proofs.Going.{round_told}
use Rattle.cs_core.proofs.Kept.{kept_round}
use Rattle.cs_core.proofs.Members.{out_settled}
use Rattle.cs_core.proofs.Moves.{last_root}
use Rattle.cs_core.proofs.Noted.{first_left, left_rises, noted_left, noted_settled}
use Rattle.cs_core.proofs.RoundSteps.{end_answers, end_declines, end_faults, end_no_memory}
use Rattle.cs_core.proofs.stores.Store.end.Goals as goal

pub returns-then-not-is_issued-clause-step : goal.returns-then-not-is_issued-clause-step
returns-then-not-is_issued-clause-step g c = rw (← c.self.view_is) (λ runs honest.
    end_declines (the_view c.self.inside) c.extent_count.ensures.whole runs
    (subst (λ (u : Stored). (u.out ≡ None) ⊎ (u.issued < length (members_of u.out))) (sym c.self.view_is) c.if-not-is_issued.ensures) (g.D.PageDisk.state c.args.disk.now))

pub let_go-requires-clause-settled : goal.let_go-requires-clause-settled
let_go-requires-clause-settled g c = λ r rs is.
    let old = noted_settled _ _ _ _ _ c.self.invariant.noted r rs is in
    (c.settle_round.ensures.adds (Version root_family r.version) old.1).1 (inl old.0)

pub invariant_of-self : goal.invariant_of-self
invariant_of-self g c =
    let s : Stored = the_view c.self.inside in
    let h = c.settle_round.new.self in
    let left = noted_left _ _ _ _ _ c.self.invariant.noted _ c.let_go.new.roots.items c.let_go.ensures in
    let first = first_left _ c.self.inside.roots.items c.let_go.new.roots.items c.let_go.ensures c.index.result.now c.index.ensures in
    kept_round s c.self.invariant h (ap (λ (t : Staging). t.latest) c.settle_round.ensures.settled) c.settle_round.ensures.writes h.round refl 0 (omega arith)
    c.let_go.new.roots.items c.index.result.now.commands
    (subst (λ (n : ℕ). AreNoted (slice_index h.staging.pending.persistent root_family) (last_root s.graph) c.let_go.new.roots.items n s.accepted) (sym first) left)

pub returns-in-Ok-clause-rises : goal.returns-in-Ok-clause-rises
returns-in-Ok-clause-rises g c = rw (← c.self.view_is) (
    let s : Stored = the_view c.self.inside in
    let rises : s.frontier ≤ c.let_go.ensures.first.commands = left_rises _ _ _ _ _ c.self.invariant.noted _ c.let_go.new.roots.items c.let_go.ensures in
    let first = first_left _ c.self.inside.roots.items c.let_go.new.roots.items c.let_go.ensures c.index.result.now c.index.ensures in
    omega (arith, rises, first))

pub returns-in-Ok-clause-step : goal.returns-in-Ok-clause-step
returns-in-Ok-clause-step g c = rw (← c.self.view_is) (λ runs honest.
    let v : Stored = the_view c.self.inside in
    let h = c.settle_round.new.self in
    let all = subst (λ (u : Stored). (u.out ≢ None) × (u.issued ≡ length (members_of u.out))) (sym c.self.view_is) c.if-not-is_issued.ensures in
    let n = c.index.result.now.commands in
    let first = first_left _ c.self.inside.roots.items c.let_go.new.roots.items c.let_go.ensures c.index.result.now c.index.ensures in
    round_told (λ (w : Stored). EndAnswers v (g.D.PageDisk.state c.args.disk.now) (Ok n) w (g.D.PageDisk.state c.flush.new.self)) (record v { graph = h; roots = c.let_go.new.roots.items; out = None; issued = 0; frontier = n }) c.settle_round.ensures.round
    (end_answers v c.extent_count.ensures.whole runs all.0 all.1 h (out_settled c.self.inside.graph h v.out c.self.invariant.round all.0 c.settle_round.ensures.settled) c.settle_round.ensures.writes
    _ _ c.self.invariant.noted c.let_go.new.roots.items c.let_go.ensures n first (g.D.PageDisk.state c.args.disk.now) (g.D.PageDisk.state c.flush.new.self) (c.in-Ok.ensures.ok honest)))

pub returns-in-Err-DeviceFault-clause-step : goal.returns-in-Err-DeviceFault-clause-step
returns-in-Err-DeviceFault-clause-step g c = rw (← c.self.view_is) (λ runs honest.
    let v : Stored = the_view c.self.inside in
    let all = subst (λ (u : Stored). (u.out ≢ None) × (u.issued ≡ length (members_of u.out))) (sym c.self.view_is) c.if-not-is_issued.ensures in
    end_faults v c.extent_count.ensures.whole runs all.0 all.1 (g.D.PageDisk.state c.args.disk.now) (g.D.PageDisk.state c.flush.new.self) (c.in-Err-DeviceFault.ensures.err honest))

pub returns-in-Err-OutOfMemory-clause-step : goal.returns-in-Err-OutOfMemory-clause-step
returns-in-Err-OutOfMemory-clause-step g c = λ runs honest. end_no_memory c.args.self.now c.args.self.now (g.D.PageDisk.state c.args.disk.now) (g.D.PageDisk.state c.flush.new.self)
