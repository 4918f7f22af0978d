-- A checkpoint that is asked for: whether it makes room, and that it is one call.
use Rattle.std.proofs.Common.{◌≡◌, ℕ, ◌*◌, ◌^◌, ◌<◌, ◌≤◌, length, sym, ap, subst, inl, inr, arith}
use Rattle.std.specs.Int.{div_ceil}
use Rattle.std.specs.Prelude.{Result, Ok, Err, IfErr, IfOk, OnOk, false}
use Rattle.std.proofs.lemmas.Grind.{div_ceil_times}
use Rattle.cs_refusal.specs.declared.refusals.Refusal.{Refusal}
use Rattle.cs_refusal.specs.declared.refusals.Refusal.TheVariants.{Halted, Unsettled, WornOut}
use Rattle.cs_disk.specs.declared.disk.PageDisk.{Ghosts as PageDisk}
use Rattle.cs_disk.specs.Disk.{GoesOn, LeavesOnly, page}
use Rattle.cs_core.specs.cs_extent.State.{shape}
use Rattle.cs_core.specs.law_refinement.Crashes.{IsPrefix}
use Rattle.cs_core.specs.Checkpoints.{IsNotReplaced, IsSettled, Replaces}
use Rattle.cs_core.specs.Meanings.{commands_said}
use Rattle.cs_core.specs.Views.{View, kept}
use Rattle.cs_writeback.specs.Histories.{MakesRoom, MayReplace}
use Rattle.cs_writeback.specs.Runs.{Ran}
use Rattle.cs_writeback.proofs.Runs.{ran_call}

-- where a checkpoint is refused, the events may not be replaced
not_replaced : {D : Type 0} (v : View D) (r : Refusal) → IsNotReplaced v r → ¬ MayReplace v
not_replaced v Halted is may = cc
not_replaced v Unsettled is may = is.1 may.2
not_replaced v WornOut is may = omega (arith, is.2, may.3)
not_replaced v r is may = absurd is

-- half as many events are kept as may be, or more, and a checkpoint is asked for
pub made_room : {D : Type 0} (old new : View D) (half count base : ℕ) (r : Result ℕ Refusal) → half ≡ div_ceil old.limit 2 → count ≡ length (kept old) → half ≤ count
    → IfOk r (λ n. Replaces old n new) → OnOk r ((old.store.halted ≡ false) × IsSettled old.store) → base ≡ new.base → base < 2 ^ 63
    → IfErr r (λ refusal. IsNotReplaced old refusal × (new ≡ old)) → MakesRoom old new
made_room {D = D} old new half count base (Ok n) is are enough taken settled is_base few refused =
    let some : old.limit ≤ 2 * length (kept old) = omega (arith, is, are, enough, div_ceil_times old.limit 2 (omega arith)) in
    let replaced : new.base ≡ length old.history = ap (λ (v : View D). v.base) taken.1 in
    inl ((some, settled.0, settled.1, omega (arith, is_base, few, replaced)), taken.1)
made_room old new half count base (Err refusal) is are enough taken settled is_base few refused = inr (not_replaced old refusal refused.0, refused.1)

-- where nothing is asked of a disk time goes on
same_time : {D : Type 0} (disks : PageDisk D) (disk : D) → GoesOn disks.honest disks.state disks.moment disks.left_since disk disk
same_time disks disk honest = record { later = omega arith; nothing_else = λ t c le since. inl since; keeps = λ t c le past. past }

-- what a checkpoint does is one call, and where it is refused nothing was called
pub checkpoint_ran : {D : Type 0} (disks : PageDisk D) (old new : View D) (r : Result ℕ Refusal) → IfOk r (λ n. Replaces old n new) → IfErr r (λ refusal. IsNotReplaced old refusal × (new ≡ old))
    → (disks.honest old.disk → LeavesOnly disks.moment disks.left_since old.disk new.disk (IsPrefix (shape old.store.extents) (page old.opened) (commands_said old.history) old.store.frontier old.store.accepted))
    → Ran disks old new
checkpoint_ran {D = D} disks old new (Ok n) replaces refused crash =
    let same : old.store.frontier ≡ new.store.frontier = sym (ap (λ (v : View D). v.store.frontier) replaces.1) in
    ran_call disks old new (record {
      did = inr (inr (n, replaces));
      rises = omega (arith, same);
      stays_honest = λ h. subst (λ (v : View D). disks.honest v.disk) (sym replaces.1) h;
      pages = ap (λ (v : View D). disks.page_count v.disk) replaces.1;
      time = subst (λ (v : View D). GoesOn disks.honest disks.state disks.moment disks.left_since old.disk v.disk) (sym replaces.1) (same_time disks old.disk);
      crash = crash;
    })
checkpoint_ran disks old new (Err refusal) replaces refused crash = inl refused.1
