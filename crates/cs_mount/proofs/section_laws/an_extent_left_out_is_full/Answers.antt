use Rattle.std.proofs.Common.{◌≡◌, ℕ, subst, sym}
use Rattle.cs_disk.specs.Disk.{Image, page}
use Rattle.cs_frame.specs.Formats.{formats_of}
use Rattle.law_machine.specs.Element.{Map}
use Rattle.law_machine.specs.Recovery.{Recovers}
use Rattle.cs_mount.specs.LeftOut.{NothingOn}
use Rattle.cs_mount.specs.StorePairs.{store_shape}
use Rattle.cs_mount.proofs.Leaving.{greatest_there, left_full}
use Rattle.cs_mount.proofs.section_laws.an_extent_left_out_is_full.Goals as goal

pub returns : goal.returns
returns c = λ d image other extent n m g twins there found low is.
    subst (λ (i : Image). (o : ℕ) (p : Map) (after : Recovers (store_shape d) (formats_of (store_shape d)) (page i) o p) → (after.pointers extent ≡ d.pages) × (NothingOn found.runs extent → after.generations extent ≡ 4294967295)) (sym is.2)
    (λ o p after. let full = left_full d g twins image n m found extent there is.0 low o p after in
    (full.0, λ none. greatest_there is.0 found.runs extent (after.generations extent) (found.generations extent) is.1 none full.1))
