-- Calls of a core, put together.
use Rattle.std.proofs.Common.{◌≡◌, ◌≤◌, List, [], ◌∷◌, ◌++◌, sym, subst, refl, inl, inr}
use Rattle.std.specs.Prelude.{◌↔◌, Result, Ok, Err, IfOk, OnErr}
use Rattle.cs_disk.specs.declared.disk.PageDisk.{Ghosts as PageDisk}
use Rattle.cs_disk.specs.Disk.{GoesOn, LeavesOnly, page}
use Rattle.cs_core.specs.cs_extent.State.{shape}
use Rattle.cs_core.specs.law_refinement.Crashes.{IsPrefix}
use Rattle.cs_core.specs.declared.events.Event.{Event}
use Rattle.cs_core.specs.declared.events.Reply.{Reply}
use Rattle.cs_core.specs.Calls.{AreCalls, IsCall}
use Rattle.cs_core.specs.Meanings.{commands_said}
use Rattle.cs_core.specs.Views.{Applies, IsUntouched, View}
use Rattle.cs_writeback.specs.Runs.{Ran}

module _ {D : Type 0} (disks : PageDisk D) where
  calls_then : (xs ys : List (View D)) (a b c : View D) → AreCalls disks a xs b → AreCalls disks b ys c → AreCalls disks a (xs ++ b ∷ ys) c
  calls_then [] ys a b c p q = (p, q)
  calls_then (x ∷ xs) ys a b c (one, p) q = (one, calls_then xs ys x b c p q)

  -- nothing was called
  pub ran_none : (a : View D) → Ran disks a a
  ran_none a = inl refl

  -- one call
  pub ran_call : (a b : View D) → IsCall disks a b → Ran disks a b
  ran_call a b call = inr ([], call)

  -- some calls, and then others
  pub ran_then : (a b c : View D) → Ran disks a b → Ran disks b c → Ran disks a c
  ran_then a b c (inl e) q = subst (λ (v : View D). Ran disks v c) e q
  ran_then a b c (inr p) (inl e) = subst (λ (v : View D). Ran disks a v) (sym e) (inr p)
  ran_then a b c (inr (xs, p)) (inr (ys, q)) = inr (xs ++ b ∷ ys, calls_then xs ys a b c p q)

  -- an event that was asked for, whatever came of it
  pub call_of : {E : Type 0} (event : Event) (old new : View D) (r : Result Reply E) → IfOk r (λ reply. Applies disks old event reply new) → OnErr r (IsUntouched disks old new)
      → old.store.frontier ≤ new.store.frontier → disks.honest old.disk ↔ disks.honest new.disk
      → (disks.honest old.disk → LeavesOnly disks.moment disks.left_since old.disk new.disk (IsPrefix (shape old.store.extents) (page old.opened) (commands_said old.history) old.store.frontier old.store.accepted))
      → GoesOn disks.honest disks.state disks.moment disks.left_since old.disk new.disk → disks.page_count new.disk ≡ disks.page_count old.disk → IsCall disks old new
  call_of event old new (Ok reply) step memory rises honest crash time pages = record { did = inl (event, reply, step); rises = rises; stays_honest = honest.0; pages = pages; time = time; crash = crash }
  call_of event old new (Err e) step memory rises honest crash time pages = record { did = inr (inl memory); rises = rises; stays_honest = honest.0; pages = pages; time = time; crash = crash }
