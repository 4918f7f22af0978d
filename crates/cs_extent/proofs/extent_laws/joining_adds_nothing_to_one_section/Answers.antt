use Rattle.cs_extent.proofs.Joined.{frame_exact, frame_within, root_within, settled_within}
use Rattle.cs_extent.proofs.extent_laws.joining_adds_nothing_to_one_section.Goals as goal

pub returns-clause-exact : goal.returns-clause-exact
returns-clause-exact c = frame_exact

pub returns-clause-kept : goal.returns-clause-kept
returns-clause-kept c = frame_within

pub returns-clause-root : goal.returns-clause-root
returns-clause-root c = root_within

pub returns-clause-settled : goal.returns-clause-settled
returns-clause-settled c = settled_within
