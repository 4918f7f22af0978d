use Rattle.cs_mount.proofs.OtherHalf.{fenced_shows, hidden_shows, other_shows}
use Rattle.cs_mount.proofs.page_fences.the_other_half_shows.Goals as goal

pub returns-clause-half : goal.returns-clause-half
returns-clause-half c = λ d image k x twin g size at none whole. other_shows d k x twin g at image size none whole

pub returns-clause-hidden : goal.returns-clause-hidden
returns-clause-hidden c = λ d image hidden k x twin g size at is isnt whole. hidden_shows d k x twin g at image hidden size is isnt whole

pub returns-clause-fenced : goal.returns-clause-fenced
returns-clause-fenced c = λ d image k x twin g size at is whole. fenced_shows d k x twin g at image size is whole
