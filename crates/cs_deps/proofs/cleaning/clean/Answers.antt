use Rattle.cs_deps.proofs.cleaning.clean.Goals as goal

pub returns-clause-plains : goal.returns-clause-plains
returns-clause-plains c last above was n listed = above n (c.clean_list.ensures.plains n listed)
