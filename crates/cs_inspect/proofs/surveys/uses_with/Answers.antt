use Rattle.std.proofs.Common.{refl}
use Rattle.std.specs.Prelude.{slice_index}
use Rattle.cs_extent.specs.State.{extents_of}
use Rattle.cs_inspect.proofs.Tallied.{uses_more}
use Rattle.cs_inspect.proofs.surveys.uses_with.Goals as goal

pub loop-extent-preserved : goal.loop-extent-preserved
loop-extent-preserved c =
    let e = c.loop-extent.extent in
    uses_more e (extents_of c.args.extents.now) c.args.live.now c.args.unreadable.now c.loop-extent.uses.items c.push.new.self.items
    (record {
      pointer = c.pointer.result;
      generation = c.generation.result;
      is_open = c.is_open.result;
      is_swept = c.is_swept.result;
      holds_runs = c.holds_runs.result;
      live = slice_index c.args.live.now e;
      unreadable = slice_index c.args.unreadable.now e;
    })
    c.loop-extent.invariant
    (record { pointer = c.pointer.ensures; generation = c.generation.ensures; is_open = c.is_open.ensures; is_swept = c.is_swept.ensures; of_runs = c.holds_runs.ensures })
    refl refl c.in_ok-push.ensures.items
