use Rattle.std.proofs.Common.{ℕ, List, ◌++◌, subst, sym}
use Rattle.std.specs.Io.KnownBytes.{Appends}
use Rattle.cs_deps.specs.declared.elements.Element.{Element}
use Rattle.cs_deps.specs.View.{rounds_of}
use Rattle.cs_writeback.specs.declared.syncs.Stop.TheVariants.{Refused}
use Rattle.cs_writeback.proofs.SyncSteps.{if_same}
use Rattle.cs_script.specs.Outputs.{acknowledged_line, chain_line, flushes_line}
use Rattle.cs_script.specs.Scripts.{IsBestOfAll, PrintsSync}
use Rattle.cs_script.specs.Stops.{StopsAfter}
use Rattle.cs_script.proofs.SyncSteps.{if_untold, none_out, on_ok_map, on_told, stops_at_plan, stops_at_stage, stops_later, synced}
use Rattle.cs_script.proofs.syncs.write_back.Goals as goal

pub returns-in_err-ask-clause-stopped : goal.returns-in_err-ask-clause-stopped
returns-in_err-ask-clause-stopped g c =
    let before = g.W.Write.contents c.args.writer.now in
    let after = g.W.Write.contents c.finish.new.writer in
    if_same c.from_residual-in_err-ask.result (StopsAfter g.D.PageDisk c.args.core.now c.ask.new.core before after) (Refused c.in_err-ask.field-0.0) c.from_residual-in_err-ask.ensures.1
    (stops_at_stage g.D.PageDisk c.args.core.now c.finish.new.core c.ask.new.core before after c.in_err-ask.field-0.0 c.in_ok-finish.ensures.done c.in_err-ask.ensures.refused)

pub plan_all-requires : goal.plan_all-requires
plan_all-requires g c =
    let e = c.in_ok-ask.ensures in
    none_out g.D.PageDisk c.args.core.now c.finish.new.core c.ask.new.core (g.W.Write.contents c.args.writer.now) (g.W.Write.contents c.finish.new.writer) c.in_ok-ask.field-0 c.in_ok-finish.ensures.done e.done e.answers e.no_refusal

pub write_rounds-requires : goal.write_rounds-requires
write_rounds-requires g c =
    let e = c.in_ok-ask.ensures in
    none_out g.D.PageDisk c.args.core.now c.finish.new.core c.ask.new.core (g.W.Write.contents c.args.writer.now) (g.W.Write.contents c.finish.new.writer) c.in_ok-ask.field-0 c.in_ok-finish.ensures.done e.done e.answers e.no_refusal

pub returns-in_err-plan-clause-stopped : goal.returns-in_err-plan-clause-stopped
returns-in_err-plan-clause-stopped g c =
    let before = g.W.Write.contents c.args.writer.now in
    let after = g.W.Write.contents c.finish.new.writer in
    let e = c.in_ok-ask.ensures in
    if_same c.from_residual-in_err-plan.result (StopsAfter g.D.PageDisk c.args.core.now c.ask.new.core before after) (Refused c.in_err-plan.field-0.0) c.from_residual-in_err-plan.ensures.1
    (stops_at_plan g.D.PageDisk c.args.core.now c.finish.new.core c.ask.new.core before after c.in_ok-ask.field-0 c.in_err-plan.field-0.0 c.in_ok-finish.ensures.done e.done e.answers e.no_refusal c.in_err-plan.ensures.refused)

pub returns-in_err-flushes-clause-stopped : goal.returns-in_err-flushes-clause-stopped
returns-in_err-flushes-clause-stopped g c =
    let before = g.W.Write.contents c.args.writer.now in
    let mid = c.finish.new.writer in
    let after = c.write_rounds.new.told in
    let e = c.in_ok-ask.ensures in
    if_same c.from_residual-in_err-flushes.result (StopsAfter g.D.PageDisk c.args.core.now c.write_rounds.new.core before (g.W.Write.contents after)) c.in_err-flushes.field-0.0 c.from_residual-in_err-flushes.ensures.1
    (stops_later g.D.PageDisk g.W.Write.contents c.args.core.now c.finish.new.core c.ask.new.core c.write_rounds.new.core before mid after c.in_ok-ask.field-0 c.in_err-flushes.field-0.0 c.in_ok-finish.ensures.done e.done e.answers e.no_refusal c.in_err-flushes.ensures.stopped)

pub returns-clause-done : goal.returns-clause-done
returns-clause-done g c =
    let planned = rounds_of c.in_ok-plan.plan in
    let chain = c.deref.result.now in
    let n = c.in_ok-flushes.flushes in
    let m = c.frontier.result in
    let e = c.in_ok-ask.ensures in
    let best = subst (λ (chain : List Element). IsBestOfAll c.ask.new.core.store planned chain) (sym c.deref.ensures.value) c.in_ok-plan.ensures.best in
    let before = g.W.Write.contents c.args.writer.now in
    let told = c.write_rounds.new.told in
    let after = g.W.Write.contents c.print_written.new.writer in
    let P = (out : List ℕ) × PrintsSync g.D.PageDisk c.args.core.now c.write_rounds.new.core out × Appends before after out in
    on_told c.print_written.result c.map_err.result P c.map_err.ensures.cases
    (on_ok_map c.print_written.result (Appends (g.W.Write.contents told) after (chain_line chain ++ flushes_line n ++ acknowledged_line m)) P
    (synced g.D.PageDisk g.W.Write.contents c.args.core.now c.finish.new.core c.ask.new.core c.write_rounds.new.core before c.finish.new.writer told after c.in_ok-ask.field-0 planned chain n m
    c.in_ok-finish.ensures.done e.done e.answers e.no_refusal c.plan_all.ensures.kept best c.in_ok-flushes.ensures.done c.in_ok-flushes.ensures.none c.frontier.ensures)
    c.print_written.ensures)

pub returns-clause-stopped : goal.returns-clause-stopped
returns-clause-stopped g c =
    if_untold c.print_written.result c.map_err.result (StopsAfter g.D.PageDisk c.args.core.now c.write_rounds.new.core (g.W.Write.contents c.args.writer.now) (g.W.Write.contents c.print_written.new.writer)) (λ e. tt) c.map_err.ensures.cases
