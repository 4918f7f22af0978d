use Rattle.std.proofs.Common.{subst, sym}
use Rattle.cs_disk.specs.Disk.{Image, page}
use Rattle.cs_frame.specs.Formats.{formats_of}
use Rattle.law_machine.specs.Recovery.{Recovers}
use Rattle.cs_mount.specs.StorePairs.{store_shape}
use Rattle.cs_mount.proofs.Leaving.{left_out_recovers}
use Rattle.cs_mount.proofs.section_laws.an_extent_may_be_left_out.Goals as goal

pub returns : goal.returns
returns c = λ d image other extent n m g twins there found low whole is.
    subst (λ (i : Image). Recovers (store_shape d) (formats_of (store_shape d)) (page i) n m) (sym is.2) (left_out_recovers d g twins image n m found extent there is.0 low is.1 whole)
