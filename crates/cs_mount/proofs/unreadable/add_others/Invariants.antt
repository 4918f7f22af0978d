use Rattle.std.proofs.Common.{◌≡◌, ◌≤◌, ℕ, Bool, Some, length, slice_get}
use Rattle.cs_disk.specs.Reads.{OnlyReads}
use Rattle.cs_mount.specs.Hidden.{is_among}
use Rattle.cs_mount.specs.Unreadable.{AreHalves, RisesBy}
use Rattle.cs_twin.specs.declared.pairs.Pair.{Pair}
use Rattle.cs_twin.specs.Pairs.{half}
use Rattle.cs_mount.proofs.unreadable.add_others.Given as goal

abbrev pub invariant-loop-k : goal.invariant-loop-k
invariant-loop-k g l = record {
  disk : OnlyReads g.D.PageDisk l.fn.disk l.disk;
  begun : 1 ≤ l.k;
  halves : AreHalves l.pairs l.k l.unread.items;
  same : (x : Pair) (twin : Bool) → slice_get l.pairs 0 ≡ Some x → is_among l.unread.items (half x twin) ≡ is_among l.fn.unread.items (half x twin);
  counted : (before : ℕ) → RisesBy (length l.fn.unread.items) before (g.D.PageDisk.failure_count l.fn.disk) → RisesBy (length l.unread.items) before (g.D.PageDisk.failure_count l.disk);
}
