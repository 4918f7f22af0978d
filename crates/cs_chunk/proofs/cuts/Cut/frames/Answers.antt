use Rattle.std.proofs.Common.{◌∷◌, [], refl}
use Rattle.cs_chunk.proofs.Pieces.{pages_in_array}
use Rattle.cs_chunk.proofs.cuts.Cut.frames.Goals as goal

pub returns : goal.returns
returns c =
    let cut = c.args.self in
    pages_in_array (cut.pages ∷ cut.pages ∷ cut.pages ∷ cut.pages ∷ cut.pages ∷ cut.pages ∷ cut.pages ∷ cut.pages ∷ []) 8 cut.count cut.pages cut.last refl cut.some cut.few
