use Rattle.std.proofs.Common.{◌≡◌, ◌∙◌, ap, arith, length, vec_len}
use Rattle.std.proofs.lemmas.Result.{IfOk-weaker}
use Rattle.cs_frame.specs.FormatRuns.{run_size}
use Rattle.cs_frame.specs.Frames.{page_count}
use Rattle.cs_frame.specs.Runs.{entries_of}
use Rattle.cs_index.proofs.Spelled.{payload_frame, payload_length}
use Rattle.cs_index.proofs.stages.frame_of.Goals as goal

pub encode_frame-requires : goal.encode_frame-requires
encode_frame-requires c =
    omega (arith, payload_length c.args.format c.number.ensures.fits c.args.run.now.entries.items c.deref.result.now c.in_ok-payload.payload.items c.deref.ensures.value c.in_ok-payload.ensures, c.requires.most)

pub returns-clause-frame : goal.returns-clause-frame
returns-clause-frame c =
    IfOk-weaker c.encode_frame.result _ _
    (λ frame is x same. is ∙ payload_frame c.args.format c.number.ensures.fits c.args.run.now.entries.items c.deref.result.now c.in_ok-payload.payload.items c.deref.ensures.value c.in_ok-payload.ensures c.number.result c.number.ensures.number x same)
    c.encode_frame.ensures.spelled

pub returns-clause-count : goal.returns-clause-count
returns-clause-count c =
    let long : length c.deref.result.now ≡ run_size c.args.format (entries_of c.args.run.now.entries.items) = payload_length c.args.format c.number.ensures.fits c.args.run.now.entries.items c.deref.result.now c.in_ok-payload.payload.items c.deref.ensures.value c.in_ok-payload.ensures in
    IfOk-weaker c.encode_frame.result (λ frame. vec_len frame ≡ page_count (length c.deref.result.now)) _
    (λ frame is. omega (arith, frame.ok.0, is, ap page_count long))
    c.encode_frame.ensures.count
