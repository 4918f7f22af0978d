use Rattle.std.proofs.Common.{rules}
use Rattle.std.proofs.lemmas.List.Sorted.{answers_always}
use Rattle.cs_core.specs.declared.lengths.Frame.{Frame}
use Rattle.cs_core.proofs.NotedFrames.{between, found, not_found}
use Rattle.cs_core.proofs.lengths.frame_at.Goals as goal

pub returns-in-Ok : goal.returns-in-Ok
returns-in-Ok c = found c.args.frames.now c.args.page c.in-Ok.k _ c.requires c.in-Ok.ensures.bound (c.in-Ok.ensures.position (λ (f : Frame). f.page) (answers_always _ _ _ (λ f a r q k. search rules)))

pub returns-in-Err : goal.returns-in-Err
returns-in-Err c = not_found c.args.frames.now c.args.page _ (between c.args.frames.now c.args.page _ c.requires c.in-Err.ensures.bound (c.in-Err.ensures.position (λ (f : Frame). f.page) (answers_always _ _ _ (λ f a r q k. search rules))))
