-- What page 0 holds, where it is the first section of a store.
use Rattle.std.proofs.Common.{◌≡◌, ◌↔◌, List, Bool, false, Option, Some, None, is_some, IsTrue, ℕ}
use Rattle.cs_frame.specs.declared.superblocks.Superblock.{Superblock}
use Rattle.cs_frame.specs.FirstFormat.{page_zero_fault}
use Rattle.cs_mount.proofs.Spelling.{zero_reads}
use Rattle.cs_mount.specs.StorePairs.{IsOnPageZero}

-- it holds something just where it has no fault
pub there_where_whole : (bytes : List ℕ) (first : Option Superblock) (b : Bool) → IsOnPageZero bytes first → b ≡ is_some first → IsTrue b ↔ (page_zero_fault bytes ≡ None)
there_where_whole bytes None b damaged test = ((λ some. absurd (let none : b ≡ false = test in cc (none, some))), (λ whole. absurd (damaged whole)))
there_where_whole bytes (Some it) b spells test = ((λ some. (zero_reads 0 bytes None it spells).0), (λ whole. test))
