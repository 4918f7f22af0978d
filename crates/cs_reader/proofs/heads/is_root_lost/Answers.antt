use Rattle.std.proofs.Common.{length, refl}
use Rattle.std.proofs.lemmas.Option.{slice_get_read}
use Rattle.cs_reader.proofs.Recorded.{none_recorded, recorded_all, recorded_later, recorded_more}
use Rattle.cs_reader.proofs.heads.is_root_lost.Goals as goal

pub loop-k-init : goal.loop-k-init
loop-k-init c = record { fit = none_recorded c.args.sections.now c.args.root }

pub loop-k-preserved : goal.loop-k-preserved
loop-k-preserved c = record {
  fit = recorded_more c.args.sections.now c.args.root c.loop-k.k c.index-sections-k.result
      (slice_get_read c.args.sections.now (length c.args.sections.now) c.loop-k.k c.index-sections-k.result refl c.loop-k-test.true c.index-sections-k.is)
      c.if-root-section.false c.loop-k.invariant.fit;
}

pub returns-then-root-section : goal.returns-then-root-section
returns-then-root-section c = recorded_later c.args.sections.now c.args.root c.loop-k.k c.index-sections-k.result
    (slice_get_read c.args.sections.now (length c.args.sections.now) c.loop-k.k c.index-sections-k.result refl c.loop-k-test.true c.index-sections-k.is) c.if-root-section.true

pub returns : goal.returns
returns c = recorded_all c.args.sections.now c.args.root c.loop-k.k c.loop-k-test.false c.loop-k.invariant.fit
