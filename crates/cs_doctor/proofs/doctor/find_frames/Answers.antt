use Rattle.cs_disk.specs.Disk.{seen}
use Rattle.cs_doctor.proofs.Doctoring.{frames_found}
use Rattle.cs_doctor.proofs.doctor.find_frames.Goals as goal

pub returns-clause-frames : goal.returns-clause-frames
returns-clause-frames g c = λ h.
    let D = g.D.PageDisk in
    let first = c.args.disk.now in
    frames_found c.args.geometry (seen (D.state first)) (D.failure_count first) (D.failure_count c.find_parts.new.disk) c.in_ok-finds.finds _ (c.in_ok-finds.ensures.parts h) c.in_ok-finds.ensures.cause
    c.in_ok-frames.ensures.unreadable c.in_ok-frames.ensures.parts c.in_ok-frames.ensures.shards c.in_ok-frames.ensures.missing
