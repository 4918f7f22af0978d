-- Why a sync ended early, as it is printed.
use Rattle.std.proofs.Common.{ℕ, List, inl, inr}
use Rattle.cs_refusal.specs.declared.refusals.Refusal.{Refusal}
use Rattle.cs_disk.specs.declared.disk.PageDisk.{Ghosts as PageDisk}
use Rattle.cs_writeback.specs.cs_core.Views.{View}
use Rattle.cs_writeback.specs.Syncs.{MayRefuseSync}
use Rattle.cs_writeback.proofs.DueRefusals.{sync_refuses, want_refuses}
use Rattle.cs_script.specs.Scripts.{PrintsStop}

module _ {D : Type 0} (disks : PageDisk D) where
  -- it is as a sync's that prints nothing is, or for want of memory
  pub printed_refuses : (old new : View D) (r : Refusal) (before : List ℕ) → PrintsStop disks old new r before → MayRefuseSync r
  printed_refuses old new r before (inl (first, is)) = sync_refuses disks old new r (inl first)
  printed_refuses old new r before (inr (inl later)) = sync_refuses disks old new r (inr later.stops)
  printed_refuses old new r before (inr (inr lacks)) = want_refuses r lacks.no_memory
