use Rattle.std.proofs.Common.{◌∙◌, [], ◌<◌, ◌≤◌, List, ap, ap₂, arith, get_or, length, subst, sym}
use Rattle.cs_disk.proofs.OnlyRead.{reads_on}
use Rattle.cs_disk.specs.Disk.{State, seen}
use Rattle.cs_frame.specs.Heads.{body_in}
use Rattle.cs_salvage.specs.Frames.{IsMeant}
use Rattle.cs_salvage.specs.Parts.{IsPart, formats_in}
use Rattle.cs_salvage.specs.declared.parts.Part.{Part}
use Rattle.cs_salvage.proofs.Meaning.{read_more}
use Rattle.cs_salvage.proofs.Sames.{no_part}
use Rattle.cs_salvage.proofs.Zips.{zip_all, zip_at}
use Rattle.cs_salvage.proofs.parts.read_whole.Goals as goal

pub returns-in_err-extend_from_slice-in-Ok-Some-clause-disk : goal.returns-in_err-extend_from_slice-in-Ok-Some-clause-disk
returns-in_err-extend_from_slice-in-Ok-Some-clause-disk g c = reads_on g.D.PageDisk c.args.disk.now c.loop-part.disk c.payload_of.new.disk c.loop-part.invariant.disk c.payload_of.ensures.disk

pub returns-in-Ok-None-clause-disk : goal.returns-in-Ok-None-clause-disk
returns-in-Ok-None-clause-disk g c = reads_on g.D.PageDisk c.args.disk.now c.loop-part.disk c.payload_of.new.disk c.loop-part.invariant.disk c.payload_of.ensures.disk

pub returns-in-Err-clause-disk : goal.returns-in-Err-clause-disk
returns-in-Err-clause-disk g c = reads_on g.D.PageDisk c.args.disk.now c.loop-part.disk c.payload_of.new.disk c.loop-part.invariant.disk c.payload_of.ensures.disk

pub returns-in-Ok-None-clause-bytes : goal.returns-in-Ok-None-clause-bytes
returns-in-Ok-None-clause-bytes g c = λ h payloads all.
    let image = seen (g.D.PageDisk.state c.args.disk.now) in
    let items = c.args.shard.now.parts.items in
    let k = c.loop-part.part-index in
    let none = rw c.in-Ok-None.field-0-is at (c.in-Ok-None.ensures.payload (c.loop-part.invariant.disk.honesty.0 h)) in
    let is = c.deref-part-items.ensures.value in
    let here = zip_at (IsPart c.args.sought.now image) items payloads k no_part [] all (omega (arith, c.loop-part-test.true, ap length is)) in
    none (get_or payloads k []) (subst (λ (s : State). IsPart c.args.sought.now (seen s) (get_or c.deref-part-items.result.now k no_part) (get_or payloads k [])) (sym (c.loop-part.invariant.disk.same h))
    (subst (λ (ps : List Part). IsPart c.args.sought.now image (get_or ps k no_part) (get_or payloads k [])) (sym is) here))

pub loop-part-preserved : goal.loop-part-preserved
loop-part-preserved g c = record {
  disk = reads_on g.D.PageDisk c.args.disk.now c.loop-part.disk c.payload_of.new.disk c.loop-part.invariant.disk c.payload_of.ensures.disk;
  bytes = λ h.
      let image = seen (g.D.PageDisk.state c.args.disk.now) in
      let it = rw c.in-Ok-Some.field-0-is at (c.in-Ok-Some.ensures.payload (c.loop-part.invariant.disk.honesty.0 h)) in
      let here = subst (λ (s : State). IsPart c.args.sought.now (seen s) (get_or c.deref-part-items.result.now c.loop-part.part-index no_part) c.in-Ok-Some.payload.items) (c.loop-part.invariant.disk.same h) it in
      let inside : c.loop-part.part-index < length c.args.shard.now.parts.items = omega (arith, c.loop-part-test.true, ap length c.deref-part-items.ensures.value) in
      read_more (IsPart c.args.sought.now image) (formats_in c.args.sought.now.geometry) c.args.shard.now.parts.items c.deref-part-items.result.now c.loop-part.part-index
      c.in-Ok-Some.payload.items c.loop-part.bytes.items _ _ c.deref-part-items.ensures.value inside here (c.loop-part.invariant.bytes h) c.in_ok-extend_from_slice-in-Ok-Some.ensures.items
      (c.chunk_body.ensures ∙ ap₂ body_in c.format-format.ensures.format c.deref.ensures.value);
  meant =
      let inside : c.loop-part.part-index < length c.args.shard.now.parts.items = omega (arith, c.loop-part-test.true, ap length c.deref-part-items.ensures.value) in
      let meant = rw c.in-Ok-Some.field-0-is at c.in-Ok-Some.ensures.meant in
      read_more IsMeant (formats_in c.args.sought.now.geometry) c.args.shard.now.parts.items c.deref-part-items.result.now c.loop-part.part-index c.in-Ok-Some.payload.items c.loop-part.bytes.items
      _ _ c.deref-part-items.ensures.value inside meant c.loop-part.invariant.meant c.in_ok-extend_from_slice-in-Ok-Some.ensures.items
      (c.chunk_body.ensures ∙ ap₂ body_in c.format-format.ensures.format c.deref.ensures.value);
}

pub returns-clause-meant : goal.returns-clause-meant
returns-clause-meant g c =
    let was = c.loop-part.invariant.meant in
    let ended : length c.args.shard.now.parts.items ≤ c.loop-part.part-index = omega (arith, c.loop-part-test.false, ap length c.deref-part-items.ensures.value) in
    (was.0, zip_all IsMeant c.args.shard.now.parts.items was.0 c.loop-part.part-index ended was.1, was.2)
