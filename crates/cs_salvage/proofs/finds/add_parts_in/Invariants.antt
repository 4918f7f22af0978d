use Rattle.std.proofs.Common.{All, ◌≤◌, ◌<◌, ◌+◌, ℕ, List, length}
use Rattle.cs_disk.specs.Disk.{Image}
use Rattle.cs_salvage.specs.Frames.{AreReadAs, IsOfFrame}
use Rattle.cs_salvage.specs.Looks.{AreEnded, AreFoundBefore, AreWithin, number_of}
use Rattle.cs_salvage.specs.Parts.{AreSought}
use Rattle.cs_salvage.specs.Passed.{Avoids}
use Rattle.cs_salvage.proofs.finds.add_parts_in.Given as goal

abbrev pub invariant-loop-k : goal.invariant-loop-k
invariant-loop-k l = record {
  parts : (image : Image) (first : ℕ) (passed : List ℕ) → AreReadAs image (number_of l.sought.geometry l.place) (length l.pages) l.pages → first ≤ number_of l.sought.geometry l.place
      → AreWithin l.sought image (number_of l.sought.geometry l.place) (number_of l.sought.geometry l.place + length l.pages) (number_of l.sought.geometry l.place + length l.pages) passed
      → AreFoundBefore l.sought image first (number_of l.sought.geometry l.place) passed l.fn.parts.items
      → AreFoundBefore l.sought image first (number_of l.sought.geometry l.place + l.k) passed l.parts.items;
  ended : AreEnded l.sought.geometry (number_of l.sought.geometry l.place + length l.pages) l.fn.parts.items → AreEnded l.sought.geometry (number_of l.sought.geometry l.place + length l.pages) l.parts.items;
  avoid : (passed : List ℕ) → All (λ (p : ℕ). p < number_of l.sought.geometry l.place) passed → All (Avoids l.sought.geometry passed) l.fn.parts.items → All (Avoids l.sought.geometry passed) l.parts.items;
  spelled : All IsOfFrame l.fn.parts.items → All IsOfFrame l.parts.items;
  taken : AreSought l.sought l.fn.parts.items → AreSought l.sought l.parts.items;
}
