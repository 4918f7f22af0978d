use Rattle.std.proofs.Common.{List, ℕ, refl, subst}
use Rattle.std.specs.Prelude.{Err, Ok}
use Rattle.std.specs.Io.KnownBytes.{Appends}
use Rattle.cs_refusal.specs.declared.refusals.Refusal.TheVariants.{Misplaced}
use Rattle.cs_tools.specs.Exports.{put_line}
use Rattle.cs_tools.proofs.Salvaging.{caused, why_not}
use Rattle.cs_tools.proofs.salvages.print_shard.Goals as goal

pub returns-in_ok-print_put-in-Ok-Some-clause-line : goal.returns-in_ok-print_put-in-Ok-Some-clause-line
returns-in_ok-print_put-in-Ok-Some-clause-line g c honest stands =
    let contents = g.W.Write.contents in
    let id = c.args.shard.now.put.id in
    let read = rw c.in-Ok-Some.field-0-is at (c.in-Ok-Some.ensures.bytes honest) in (
      (id, Ok c.in-Ok-Some.bytes.items),
      (refl, read),
      refl,
      subst (λ (bytes : List ℕ). Appends (contents c.args.writer.now) (contents c.print_put.new.writer) (put_line id bytes)) c.deref.ensures.value c.in_ok-print_put-in-Ok-Some.ensures,
    )

pub returns-in_ok-print_remark-in-Err-clause-line : goal.returns-in_ok-print_remark-in-Err-clause-line
returns-in_ok-print_remark-in-Err-clause-line g c honest stands =
    let failures = g.D.PageDisk.failure_count in
    let r = c.refusal_of_disk.result in (
      (c.args.shard.now.put.id, Err r),
      (refl, why_not (failures c.args.disk.now) (failures c.read_whole.new.disk) c.in-Err.fault r c.read_whole.result c.in-Err.is c.refusal_of_disk.ensures c.read_whole.ensures.cause),
      refl,
      c.in_ok-print_remark-in-Err.ensures,
    )

pub returns-in_ok-print_put-in-Ok-Some-clause-meant : goal.returns-in_ok-print_put-in-Ok-Some-clause-meant
returns-in_ok-print_put-in-Ok-Some-clause-meant g c =
    let contents = g.W.Write.contents in
    let id = c.args.shard.now.put.id in
    let read = rw c.in-Ok-Some.field-0-is at c.in-Ok-Some.ensures.meant in (
      (id, Ok c.in-Ok-Some.bytes.items),
      (refl, read),
      refl,
      subst (λ (bytes : List ℕ). Appends (contents c.args.writer.now) (contents c.print_put.new.writer) (put_line id bytes)) c.deref.ensures.value c.in_ok-print_put-in-Ok-Some.ensures,
    )

pub returns-in_ok-print_remark-in-Err-clause-meant : goal.returns-in_ok-print_remark-in-Err-clause-meant
returns-in_ok-print_remark-in-Err-clause-meant g c =
    let failures = g.D.PageDisk.failure_count in
    let r = c.refusal_of_disk.result in (
      (c.args.shard.now.put.id, Err r),
      (refl, caused (failures c.args.disk.now) (failures c.read_whole.new.disk) c.in-Err.fault r c.read_whole.result c.in-Err.is c.refusal_of_disk.ensures c.read_whole.ensures.cause),
      refl,
      c.in_ok-print_remark-in-Err.ensures,
    )

pub returns-in_ok-print_remark-in-Ok-None-clause-meant : goal.returns-in_ok-print_remark-in-Ok-None-clause-meant
returns-in_ok-print_remark-in-Ok-None-clause-meant g c = ((c.args.shard.now.put.id, Err Misplaced), (refl, λ device. absurd (cc device)), refl, c.in_ok-print_remark-in-Ok-None.ensures)
