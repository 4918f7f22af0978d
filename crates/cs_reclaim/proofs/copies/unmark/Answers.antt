use Rattle.cs_reclaim.proofs.copies.unmark.Goals as goal

pub returns : goal.returns
returns c = record { mark = c.set_swept.ensures.extents; same_shape = c.set_swept.ensures.shape; whole = c.extent_count.ensures.whole }
