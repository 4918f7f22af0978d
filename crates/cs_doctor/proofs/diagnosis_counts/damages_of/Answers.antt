use Rattle.std.proofs.lemmas.List.{get_or_default}
use Rattle.cs_doctor.specs.DoctorCounts.{FailsOn, IsOf}
use Rattle.cs_doctor.proofs.DoctorCounting.{named_all, named_more, none_named_in}
use Rattle.cs_doctor.proofs.diagnosis_counts.damages_of.Goals as goal

pub loop-k-init : goal.loop-k-init
loop-k-init c = record {
  shards = none_named_in IsOf c.new-shards.result.items c.new-shards.ensures.items;
  failing = none_named_in FailsOn c.new-failing.result.items c.new-failing.ensures.items;
}

pub loop-k-preserved : goal.loop-k-preserved
loop-k-preserved c =
    let damages = c.args.damages.now in
    let k = c.loop-k.k in
    let at = get_or_default damages k _ _ c.loop-k-test.true in
    record {
      shards = named_more IsOf damages k _ c.loop-k.shards.items c.note_shard.new.shards.items c.loop-k-test.true at c.loop-k.invariant.shards c.in_ok-note_shard.ensures;
      failing = named_more FailsOn damages k _ c.loop-k.failing.items c.note_extent.new.extents.items c.loop-k-test.true at c.loop-k.invariant.failing c.in_ok-note_extent.ensures;
    }

pub returns-clause-shards : goal.returns-clause-shards
returns-clause-shards c = named_all IsOf c.args.damages.now c.loop-k.k c.loop-k.shards.items c.loop-k-test.false c.loop-k.invariant.shards

pub returns-clause-failing : goal.returns-clause-failing
returns-clause-failing c = named_all FailsOn c.args.damages.now c.loop-k.k c.loop-k.failing.items c.loop-k-test.false c.loop-k.invariant.failing
