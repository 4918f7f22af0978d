use Rattle.law_machine.proofs.machine_events.commands_go_on.Goals as goal
use Rattle.std.proofs.Common.{◌+◌, ℕ, List, length, ap, ap₂, sym, ◌∙◌, arith}
use Rattle.law_machine.proofs.Kept.{does_on, history_on, after_both}
use Rattle.law_machine.specs.State.{Accepted, Command, Put, after_all, commands_of}

pub returns : goal.returns
returns c = record {
  commands = λ S F s t history run. (history_on S F s t history run).commands;
  map = λ S F s t history run. (let g = history_on S F s t history run in
      ap₂ after_all g.start g.commands ∙ after_both s.start (commands_of history) s.commands);
  opened = λ S F s t history run. (let g = history_on S F s t history run in (g.opened, g.start, g.opening, g.count));
  numbers = λ S F s t id n bytes d. (
    ap (λ (k : ℕ). s.count + k) (sym d.5),
    (let g = does_on S F s t (Put id bytes) (Accepted n) d in
        omega (arith, g.count, ap (λ (cs : List Command). length cs) g.commands)),
  );
}
