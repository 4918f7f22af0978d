use Rattle.cs_extent.proofs.Staged.{names_section}
use Rattle.cs_extent.proofs.staged_frames.section_needs.Goals as goal

pub returns : goal.returns
returns c = names_section c.writes_from.result c.with_versions-2.result c.args.first c.args.last c.args.root c.writes_from.ensures.plain c.writes_from.ensures.version c.with_versions-2.ensures.names
