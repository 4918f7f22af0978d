use Rattle.std.proofs.Common.{◌∙◌, ◌-◌, List, ap, length, slice_get, sym}
use Rattle.cs_index.specs.declared.counted_copies.ChunkCopy.{ChunkCopy}
use Rattle.cs_reclaim.proofs.Noted.{place_noted}
use Rattle.cs_reclaim.proofs.sweeps.Sweeps.last_place.Goals as goal

pub returns-in-Some : goal.returns-in-Some
returns-in-Some c =
    rw (← c.self.view_is) (sym (place_noted c.self.inside.copies.items c.in-Some.copy.now
    (ap (λ (xs : List ChunkCopy). slice_get xs (length xs - 1)) (sym c.deref.ensures.value) ∙ sym c.in-Some.ensures.value)))
