use Rattle.cs_mount.proofs.Steps.{half_is, laid_is, safe_cleared, safe_first, safe_others}
use Rattle.cs_mount.proofs.makings.lay_store.Goals as goal

pub returns-in-Err-clause-crash : goal.returns-in-Err-clause-crash
returns-in-Err-clause-crash g c = λ h. (safe_cleared g.D.PageDisk c.args.geometry c.args.disk.now c.clear.new.disk (c.clear.ensures.some h)).any_moment

pub returns-in-Ok-lay_others-clause-crash : goal.returns-in-Ok-lay_others-clause-crash
returns-in-Ok-lay_others-clause-crash g c = λ h.
    let D = g.D.PageDisk in
    let d = c.args.geometry in
    let disk = c.args.disk.now in
    let one = c.clear.ensures.honest.0 h in
    let two = c.lay_others.ensures.honest.0 one in
    (safe_first D d disk c.lay_others.new.disk c.lay_first.new.disk
    (safe_others D d disk c.clear.new.disk c.lay_others.new.disk (safe_cleared D d disk c.clear.new.disk (c.clear.ensures.some h)) (c.in-Ok.ensures.made h) (c.lay_others.ensures.some one))
    (half_is d (D.state disk) (D.state c.clear.new.disk) (D.state c.lay_others.new.disk) (c.in-Ok.ensures.made h) (c.in-Ok-lay_others.ensures.made one)) (c.lay_first.ensures.some two)).any_moment

pub returns-in-Ok-lay_others-clause-left : goal.returns-in-Ok-lay_others-clause-left
returns-in-Ok-lay_others-clause-left g c = λ h.
    let D = g.D.PageDisk in
    let d = c.args.geometry in
    let disk = c.args.disk.now in
    let one = c.clear.ensures.honest.0 h in
    let two = c.lay_others.ensures.honest.0 one in
    (safe_first D d disk c.lay_others.new.disk c.lay_first.new.disk
    (safe_others D d disk c.clear.new.disk c.lay_others.new.disk (safe_cleared D d disk c.clear.new.disk (c.clear.ensures.some h)) (c.in-Ok.ensures.made h) (c.lay_others.ensures.some one))
    (half_is d (D.state disk) (D.state c.clear.new.disk) (D.state c.lay_others.new.disk) (c.in-Ok.ensures.made h) (c.in-Ok-lay_others.ensures.made one)) (c.lay_first.ensures.some two)).now

pub returns-in-Err-lay_others-clause-crash : goal.returns-in-Err-lay_others-clause-crash
returns-in-Err-lay_others-clause-crash g c = λ h.
    let D = g.D.PageDisk in
    let d = c.args.geometry in
    let disk = c.args.disk.now in
    (safe_others D d disk c.clear.new.disk c.lay_others.new.disk (safe_cleared D d disk c.clear.new.disk (c.clear.ensures.some h)) (c.in-Ok.ensures.made h) (c.lay_others.ensures.some (c.clear.ensures.honest.0 h))).any_moment

pub returns-in-Err-lay_others-clause-left : goal.returns-in-Err-lay_others-clause-left
returns-in-Err-lay_others-clause-left g c = λ h.
    let D = g.D.PageDisk in
    let d = c.args.geometry in
    let disk = c.args.disk.now in
    (safe_others D d disk c.clear.new.disk c.lay_others.new.disk (safe_cleared D d disk c.clear.new.disk (c.clear.ensures.some h)) (c.in-Ok.ensures.made h) (c.lay_others.ensures.some (c.clear.ensures.honest.0 h))).now

pub returns-in-Ok-lay_others-clause-laid : goal.returns-in-Ok-lay_others-clause-laid
returns-in-Ok-lay_others-clause-laid g c = λ h.
    let D = g.D.PageDisk in
    let d = c.args.geometry in
    let disk = c.args.disk.now in
    let one = c.clear.ensures.honest.0 h in
    laid_is c.lay_first.result d (D.state disk) (D.state c.lay_others.new.disk) (D.state c.lay_first.new.disk) (half_is d (D.state disk) (D.state c.clear.new.disk) (D.state c.lay_others.new.disk) (c.in-Ok.ensures.made h) (c.in-Ok-lay_others.ensures.made one))
    (c.lay_first.ensures.made (c.lay_others.ensures.honest.0 one))
