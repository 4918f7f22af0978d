use Rattle.std.proofs.Common.{ℕ, List, ap, refl, subst}
use Rattle.std.specs.Prelude.{Err, Ok}
use Rattle.std.specs.Io.KnownBytes.{Appends}
use Rattle.cs_core.specs.Lookups.{IsReading}
use Rattle.cs_refusal.specs.declared.refusals.Refusal.{Refusal}
use Rattle.cs_index.specs.State.{id_number}
use Rattle.law_machine.specs.State.{map_now}
use Rattle.cs_tools.specs.Exports.{put_line}
use Rattle.cs_tools.proofs.exports.print_shard.Goals as goal

pub returns-in_ok-print_put-in-Ok-Some-clause-line : goal.returns-in_ok-print_put-in-Ok-Some-clause-line
returns-in_ok-print_put-in-Ok-Some-clause-line g c s is honest live =
    let contents = g.W.Write.contents in
    let told = subst (λ f. IsReading (map_now s (id_number c.args.id)) (Ok f)) c.in-Ok-Some.field-0-is (c.in-Ok-Some.ensures.answer honest s is) in (
      (c.args.id, Ok c.in-Ok-Some.bytes.items),
      (refl, told, tt, refl),
      subst (λ (bytes : List ℕ). Appends (contents c.args.writer.now) (contents c.print_put.new.writer) (put_line c.args.id bytes)) c.deref.ensures.value c.in_ok-print_put-in-Ok-Some.ensures,
    )

pub returns-in_ok-print_remark-in-Err-clause-line : goal.returns-in_ok-print_remark-in-Err-clause-line
returns-in_ok-print_remark-in-Err-clause-line g c s is honest live =
    ((c.args.id, Err c.in-Err.refusal), (refl, c.in-Err.ensures.answer honest s is, (λ device. c.in-Err.ensures.cause.failed (ap (λ (r : Refusal). Err r) device)), refl), c.in_ok-print_remark-in-Err.ensures)

pub returns-in_ok-print_put-in-Ok-Some-clause-meant : goal.returns-in_ok-print_put-in-Ok-Some-clause-meant
returns-in_ok-print_put-in-Ok-Some-clause-meant g c live =
    let contents = g.W.Write.contents in
    let meant = rw c.in-Ok-Some.field-0-is at c.in-Ok-Some.ensures.meant in (
      (c.args.id, Ok c.in-Ok-Some.bytes.items),
      (refl, meant),
      refl,
      subst (λ (bytes : List ℕ). Appends (contents c.args.writer.now) (contents c.print_put.new.writer) (put_line c.args.id bytes)) c.deref.ensures.value c.in_ok-print_put-in-Ok-Some.ensures,
    )

pub returns-in_ok-print_remark-in-Err-clause-meant : goal.returns-in_ok-print_remark-in-Err-clause-meant
returns-in_ok-print_remark-in-Err-clause-meant g c live =
    ((c.args.id, Err c.in-Err.refusal), (refl, λ device. c.in-Err.ensures.cause.failed (ap (λ (r : Refusal). Err r) device)), refl, c.in_ok-print_remark-in-Err.ensures)
