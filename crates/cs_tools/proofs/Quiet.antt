-- Sweeps accept no command.
use Rattle.std.proofs.Common.{◌≡◌, ℕ, List, [], ◌∷◌, ◌++◌, ap, refl, sym, subst, inl, inr}
use Rattle.std.specs.Prelude.{IfErr, IfOk, Result, Ok, Err}
use Rattle.cs_core.specs.declared.events.Event.{Event}
use Rattle.cs_core.specs.declared.events.Event.TheVariants.{Abandon, BeginSweep, MoveOne, Retire}
use Rattle.cs_core.specs.declared.events.Reply.{Reply}
use Rattle.cs_core.specs.declared.events.Reply.TheVariants.{Abandoned, NoneLive, Retired, Sweeping}
use Rattle.cs_core.specs.Meanings.{commands_said}
use Rattle.cs_core.specs.Views.{View}
use Rattle.cs_refusal.specs.declared.refusals.Refusal.{Refusal}
use Rattle.cs_disk.specs.declared.disk.PageDisk.{Ghosts as PageDisk}
use Rattle.cs_writeback.specs.declared.whole_sweeps.Swept.{Swept}
use Rattle.cs_writeback.specs.Histories.{IsStopped, MakesRoom, Went}
use Rattle.cs_writeback.specs.Sweeps.{Abandons, IsSweepRefused, StopsSweep, Sweeps, moves}
use Rattle.law_machine.specs.State.{Command}
use Rattle.cs_store.specs.Maps.{Accepts}
use Rattle.cs_store.proofs.Accepting.{accepts_later, accepts_none, went_accepts}
use Rattle.cs_store.proofs.Commands.{added_quiet, moves_quiet, quiet_both}

module _ {D : Type 0} (disks : PageDisk D) where
  went_quiet : (xs : List (Event × Reply)) (a b : View D) → commands_said xs ≡ [] → Went disks a xs b → Accepts disks [] a b
  went_quiet xs a b none w = subst (λ (cs : List Command). Accepts disks cs a b) none (went_accepts disks xs a b w)

  pub stopped_quiet : (done : List (Event × Reply)) (event : Event) (r : Refusal) (a b : View D) → commands_said done ≡ [] → IsStopped disks a done event r b → Accepts disks [] a b
  stopped_quiet done event r a b none s = went_quiet (done ++ s.added) a b (quiet_both done s.added none (added_quiet b event r s.added s.refused)) s.went

  pub room_quiet : (a b : View D) → MakesRoom a b → Accepts disks [] a b
  room_quiet a b (inl (may, is)) = subst (Accepts disks [] a) (sym is) (record { same_shape = refl; opened = refl; found = refl; limit = refl; honest = (λ h. h, λ h. h); commands_now = refl })
  room_quiet a b (inr (not, is)) = subst (Accepts disks [] a) (sym is) (accepts_none disks a)

  swept_quiet : (extent : ℕ) (a b : View D) (count root : ℕ) → Sweeps disks extent a b count root → Accepts disks [] a b
  swept_quiet extent a b count root s =
      went_quiet ((BeginSweep extent, Sweeping) ∷ moves extent s.moved ++ (MoveOne extent, NoneLive) ∷ (Retire extent, Retired root) ∷ []) a b
      (quiet_both ((BeginSweep extent, Sweeping) ∷ moves extent s.moved) ((MoveOne extent, NoneLive) ∷ (Retire extent, Retired root) ∷ [])
      (ap (λ (cs : List Command). cs ++ []) (moves_quiet extent s.moved)) refl) s.went

  stops_quiet : (extent : ℕ) (a b : View D) (r : Refusal) → StopsSweep disks extent a b r → Accepts disks [] a b
  stops_quiet extent a b r (moved, inl move) = stopped_quiet (moves extent moved) (MoveOne extent) r a b (moves_quiet extent moved) move
  stops_quiet extent a b r (moved, inr retire) = stopped_quiet (moves extent moved ++ (MoveOne extent, NoneLive) ∷ []) (Retire extent) r a b
      (quiet_both (moves extent moved) ((MoveOne extent, NoneLive) ∷ []) (moves_quiet extent moved) refl) retire

  abandons_quiet : (extent : ℕ) (a b : View D) (r told : Refusal) → Abandons disks extent a b r told → Accepts disks [] a b
  abandons_quiet extent a b r told (inl (went, is)) = went_quiet ((Abandon extent, Abandoned) ∷ []) a b refl went
  abandons_quiet extent a b r told (inr (why, stopped, is)) = stopped_quiet [] (Abandon extent) why a b refl stopped

  refused_quiet : (extent : ℕ) (a b : View D) (told : Refusal) → IsSweepRefused disks extent a b told → Accepts disks [] a b
  refused_quiet extent a b told (inl begin) = stopped_quiet [] (BeginSweep extent) told a b refl begin
  refused_quiet extent a b told (inr (begun, mid, r, went, stops, abandons)) =
      accepts_later disks [] a begun b (went_quiet ((BeginSweep extent, Sweeping) ∷ []) a begun refl went)
      (accepts_later disks [] begun mid b (stops_quiet extent begun mid r stops) (abandons_quiet extent mid b r told abandons))

  -- however it ends
  pub sweep_quiet : (extent : ℕ) (a b : View D) (result : Result Swept Refusal) → IfOk result (λ swept. Sweeps disks extent a b swept.moved swept.root)
      → IfErr result (λ refusal. IsSweepRefused disks extent a b refusal) → Accepts disks [] a b
  sweep_quiet extent a b (Ok swept) sweeps refused = swept_quiet extent a b swept.moved swept.root sweeps
  sweep_quiet extent a b (Err r) sweeps refused = refused_quiet extent a b r refused
