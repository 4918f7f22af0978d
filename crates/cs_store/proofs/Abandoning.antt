-- What an abandon does, and what it is refused for.
use Rattle.std.proofs.Common.{◌≡◌, ◌∙◌, ◌⊎◌, ℕ, ◌∷◌, [], refl, sym, ap, subst, inl, inr}
use Rattle.std.specs.Prelude.{false}
use Rattle.cs_refusal.specs.declared.refusals.Refusal.{Refusal}
use Rattle.cs_refusal.specs.declared.refusals.Refusal.TheVariants as refusal
use Rattle.cs_disk.specs.declared.disk.PageDisk.{Ghosts as PageDisk}
use Rattle.cs_extent.specs.State.{extents_of, shape}
use Rattle.cs_frame.specs.Formats.{formats_of}
use Rattle.law_machine.specs.Extents.{Extents, marked}
use Rattle.law_machine.specs.State as model
use Rattle.law_machine.specs.State.{State}
use Rattle.law_machine.specs.Step.{Step}
use Rattle.cs_core.specs.declared.events.Event.TheVariants.{Abandon}
use Rattle.cs_core.specs.declared.events.Reply.{Reply}
use Rattle.cs_core.specs.declared.events.Reply.TheVariants.{Abandoned}
use Rattle.cs_core.specs.Replies.{MayRefuse}
use Rattle.cs_core.specs.Views.{IsIn, View}
use Rattle.cs_writeback.proofs.Asked.{abandoned_of}
use Rattle.cs_writeback.proofs.Histories.{went_one}
use Rattle.cs_writeback.specs.Histories.{Goes, IsNoRefusal, Went}
use Rattle.cs_writeback.specs.Sweeps.{MayRefuseSweep}
use Rattle.cs_store.specs.declared.errors.SweepError.{SweepError}
use Rattle.cs_store.specs.declared.errors.SweepError.TheVariants as sweep
use Rattle.cs_store.specs.Errors.{sweep_refusal}

module _ {D : Type 0} (disks : PageDisk D) (old new : View D) (extent : ℕ) where
  abandoned_as : (reply : Reply) → IsNoRefusal reply → Goes disks old (Abandon extent) reply new → Goes disks old (Abandon extent) Abandoned new
  abandoned_as reply none goes = subst (λ (r : Reply). Goes disks old (Abandon extent) r new) (abandoned_of extent reply goes.answers none) goes

  pub abandoned : (reply : Reply) → IsNoRefusal reply → Goes disks old (Abandon extent) reply new → Went disks old ((Abandon extent, Abandoned) ∷ []) new
  abandoned reply none goes = went_one disks old new (Abandon extent) Abandoned (abandoned_as reply none goes)

  -- the mark is taken off the extent, and nothing else of the extents changes
  pub unmarked : (reply : Reply) (s : State) → disks.honest old.disk → IsIn disks.state old s → IsNoRefusal reply → Goes disks old (Abandon extent) reply new
      → extents_of new.store.extents ≡ marked (extents_of old.store.extents) extent false
  unmarked reply s there is none goes = go (abandoned_as reply none goes)
    where
      go : Goes disks old (Abandon extent) Abandoned new → extents_of new.store.extents ≡ marked (extents_of old.store.extents) extent false
      go g =
          let S = shape old.store.extents in
          let did = g.step.step there s is in
          let done = subst (λ (r : model.Reply). Step S (formats_of S) s (model.Abandon extent) r did.1) did.2 did.3 in
          sym did.4.store.parts.world.extents ∙ ap (λ (t : State). t.world.extents) done.1.1 ∙ ap (λ (x : Extents). marked x extent false) is.store.parts.world.extents

-- an abandon is refused as a sweep may be
abandon_by_event : (extent : ℕ) (r : Refusal) → MayRefuse (Abandon extent) r → MayRefuseSweep r
abandon_by_event extent refusal.NotSweepable may = tt
abandon_by_event extent refusal.Halted may = tt
abandon_by_event extent other may = absurd may

pub abandon_is : (extent : ℕ) (r : Refusal) → (r ≡ refusal.OutOfMemory) ⊎ MayRefuse (Abandon extent) r → MayRefuseSweep r
abandon_is extent r (inl memory) = subst MayRefuseSweep (sym memory) tt
abandon_is extent r (inr may) = abandon_by_event extent r may

-- and for three reasons alone
told : (extent : ℕ) (e : SweepError) → (sweep_refusal e ≡ refusal.OutOfMemory) ⊎ MayRefuse (Abandon extent) (sweep_refusal e) → (e ≡ sweep.NotSweepable) ⊎ (e ≡ sweep.Halted) ⊎ (e ≡ sweep.OutOfMemory)
told extent sweep.NotSweepable may = inl refl
told extent sweep.Halted may = inr (inl refl)
told extent sweep.OutOfMemory may = inr (inr refl)
told extent other (inl memory) = absurd (cc memory)
told extent other (inr may) = absurd may

pub abandon_told : (extent : ℕ) (e : SweepError) (r : Refusal) → sweep_refusal e ≡ r → (r ≡ refusal.OutOfMemory) ⊎ MayRefuse (Abandon extent) r → (e ≡ sweep.NotSweepable) ⊎ (e ≡ sweep.Halted) ⊎ (e ≡ sweep.OutOfMemory)
abandon_told extent e r is may = told extent e (subst (λ (x : Refusal). (x ≡ refusal.OutOfMemory) ⊎ MayRefuse (Abandon extent) x) (sym is) may)
