-- A sweep of the extent that is worth it, after the reads that find it.
use Rattle.std.proofs.Common.{[], ap, inl, inr, le_of_eq, sym}
use Rattle.cs_disk.specs.declared.disk.PageDisk.{Ghosts as PageDisk}
use Rattle.cs_disk.specs.Disk.{Image, Leaves, MayLeave}
use Rattle.cs_extent.specs.State.{shape}
use Rattle.cs_core.specs.Meanings.{commands_said}
use Rattle.cs_core.specs.Views.{IsUntouched, View}
use Rattle.cs_writeback.proofs.Runs.{ran_call}
use Rattle.cs_writeback.specs.Runs.{Ran}
use Rattle.cs_inspect.proofs.Crashing.{crash_still}
use Rattle.cs_inspect.specs.Choices.{ReadsOn}
use Rattle.cs_store.specs.Maps.{Accepts}
use Rattle.cs_store.proofs.Running.{Left}

module _ {D : Type 0} (disks : PageDisk D) (old read : View D) (reads : ReadsOn disks old read) where
  -- reads accept no command
  pub read_accepts : Accepts disks [] old read
  read_accepts = record {
    same_shape = ap (λ (v : View D). shape v.store.extents) reads.0;
    opened = ap (λ (v : View D). v.opened) reads.0;
    found = ap (λ (v : View D). v.found) reads.0;
    limit = ap (λ (v : View D). v.limit) reads.0;
    honest = reads.1.honesty;
    commands_now = ap (λ (v : View D). commands_said v.history) reads.0;
  }

  untouched : IsUntouched disks old read
  untouched = record {
    opened = ap (λ (v : View D). v.opened) reads.0;
    found = ap (λ (v : View D). v.found) reads.0;
    store = ap (λ (v : View D). v.store) reads.0;
    history = ap (λ (v : View D). v.history) reads.0;
    base = ap (λ (v : View D). v.base) reads.0;
    limit = ap (λ (v : View D). v.limit) reads.0;
    disk = reads.1.same;
    later = reads.1.failures;
  }

  -- to a crash they are as one call that changes nothing
  pub read_ran : (disks.honest old.disk → Leaves (disks.state old.disk) (Left old old)) → (disks.honest old.disk → (image : Image) → disks.left_since old.disk (disks.moment old.disk) image → MayLeave (disks.state old.disk) image) → Ran disks old read
  read_ran left only_now = ran_call disks old read (record {
    did = inr (inl untouched);
    rises = le_of_eq (sym (ap (λ (v : View D). v.store.frontier) reads.0));
    stays_honest = reads.1.honesty.0;
    pages = reads.1.pages;
    time = reads.1.time;
    crash = λ there. crash_still disks old.disk read.disk (Left old old) reads.1 there (left there) (only_now there);
  })
