use Rattle.std.proofs.Common.{◌<◌, ◌∙◌, ap, arith, subst, sym}
use Rattle.cs_extent.specs.State.{shape}
use Rattle.cs_index.proofs.Newest.{all_get}
use Rattle.cs_index.specs.declared.stored_runs.StoredRun.{StoredRun}
use Rattle.law_machine.specs.Device.{Shape}
use Rattle.cs_core.proofs.Readying.{noted_all, noted_more}
use Rattle.cs_core.proofs.core_openings.note_runs.Goals as goal

pub set_kind-requires : goal.set_kind-requires
set_kind-requires c =
    let e = c.index-runs-k.result.place.extent in
    let inside = subst (λ (run : StoredRun). run.place.extent < (shape c.args.extents.now).extents) (sym c.index-runs-k.is)
    (all_get (λ run. run.place.extent < (shape c.args.extents.now).extents) c.args.runs.now c.loop-k.k c.index-runs-k.result c.loop-k-test.true c.requires) in
    omega (arith, inside, c.from.ensures, ap (λ (S : Shape). S.extents) c.loop-k.invariant.same_shape)

pub loop-k-preserved : goal.loop-k-preserved
loop-k-preserved c = record {
  noted = noted_more c.args.extents.now c.loop-k.extents c.set_kind.new.self c.args.runs.now c.loop-k.k c.from.result c.index-runs-k.result c.loop-k-test.true c.index-runs-k.is c.from.ensures
      c.loop-k.invariant.noted c.set_kind.ensures.extents;
  same_shape = c.set_kind.ensures.shape ∙ c.loop-k.invariant.same_shape;
}

pub returns : goal.returns
returns c = record {
  extents = noted_all c.args.extents.now c.loop-k.extents c.args.runs.now c.loop-k.k c.loop-k-test.false c.loop-k.invariant.noted;
  shape = c.loop-k.invariant.same_shape;
}
