use Rattle.std.proofs.Common.{ℕ, List, subst}
use Rattle.std.specs.Prelude.{◌++◌, OnOk}
use Rattle.std.specs.Io.KnownBytes.{Appends}
use Rattle.cs_refusal.specs.Refusals.{name_of, number_of}
use Rattle.cs_advice.specs.Advised.{advice_text}
use Rattle.cs_advice.specs.Tellings.{head_text, members_of, rest_text, system_of, what_text}
use Rattle.cs_advice.specs.Texts.{meaning_text}
use Rattle.cs_advice.proofs.Telling.{head_first, told_by, two_told}
use Rattle.cs_advice.proofs.tellings.print_refused.Goals as goal

pub returns-clause-text : goal.returns-clause-text
returns-clause-text g c =
    let contents = g.W.Write.contents in
    let r = c.args.refusal in
    let known = c.args.known.now in
    let its = c.of.ensures in
    subst (λ (text : List ℕ). OnOk c.print_reason.result (Appends (contents c.args.writer.now) (contents c.print_reason.new.writer) text))
    (told_by c.args.style c.of.result (number_of r) (name_of r) (meaning_text r) (system_of r known.system) (advice_text r known) (members_of r known) its.number its.name its.text its.system its.advice its.members)
    c.print_reason.ensures

pub returns-clause-head : goal.returns-clause-head
returns-clause-head g c =
    let contents = g.W.Write.contents in
    let r = c.args.refusal in
    let known = c.args.known.now in
    let rest = what_text (meaning_text r) (system_of r known.system) ++ rest_text c.args.style (advice_text r known) (members_of r known) in
    head_first c.print_reason.result (contents c.args.writer.now) (contents c.print_reason.new.writer) (head_text c.args.style (number_of r) (name_of r)) rest (returns-clause-text g c)

pub returns-clause-two : goal.returns-clause-two
returns-clause-two g c first last is has =
    let contents = g.W.Write.contents in
    two_told c.print_reason.result c.args.style c.args.refusal c.args.known.now (contents c.args.writer.now) (contents c.print_reason.new.writer) first last is has (returns-clause-text g c)
