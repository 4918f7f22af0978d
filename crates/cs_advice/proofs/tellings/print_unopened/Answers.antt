use Rattle.std.proofs.Common.{ℕ, List, [], Some, subst}
use Rattle.std.specs.Prelude.{◌++◌, OnOk, codes}
use Rattle.std.specs.Io.KnownBytes.{Appends}
use Rattle.cs_refusal.specs.Refusals.{name_of, number_of}
use Rattle.cs_refusal.specs.declared.refusals.Refusal.TheVariants.{DeviceFault}
use Rattle.cs_advice.specs.Advised.{system_advice}
use Rattle.cs_advice.specs.Tellings.{head_text, rest_text, what_text}
use Rattle.cs_advice.proofs.Telling.{head_first, told_by}
use Rattle.cs_advice.proofs.tellings.print_unopened.Goals as goal

pub returns-clause-text : goal.returns-clause-text
returns-clause-text g c =
    let contents = g.W.Write.contents in
    let its = c.of_file.ensures in
    subst (λ (text : List ℕ). OnOk c.print_reason.result (Appends (contents c.args.writer.now) (contents c.print_reason.new.writer) text))
    (told_by c.args.style c.of_file.result (number_of DeviceFault) (name_of DeviceFault) (codes "the file can't be opened") (Some c.args.fault) (system_advice (Some c.args.fault)) [] its.number its.name its.text its.system its.advice its.members)
    c.print_reason.ensures

pub returns-clause-head : goal.returns-clause-head
returns-clause-head g c =
    let contents = g.W.Write.contents in
    let rest = what_text (codes "the file can't be opened") (Some c.args.fault) ++ rest_text c.args.style (system_advice (Some c.args.fault)) [] in
    head_first c.print_reason.result (contents c.args.writer.now) (contents c.print_reason.new.writer) (head_text c.args.style (number_of DeviceFault) (name_of DeviceFault)) rest (returns-clause-text g c)
