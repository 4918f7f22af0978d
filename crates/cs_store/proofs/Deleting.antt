-- A delete is answered with a number just where there is something under its identifier.
use Rattle.std.proofs.Common.{◌≡◌, ◌≢◌, ◌∙◌, ℕ, [], ◌∷◌, None, sym, subst}
use Rattle.cs_disk.specs.declared.disk.PageDisk.{Ghosts as PageDisk}
use Rattle.cs_extent.specs.State.{IsWhole, shape}
use Rattle.cs_frame.specs.declared.identifiers.ShardId.{ShardId}
use Rattle.cs_frame.specs.Formats.{formats_of}
use Rattle.cs_index.specs.State.{id_number}
use Rattle.law_machine.specs.Device.{IsShape, Shape}
use Rattle.law_machine.specs.Element.{Map}
use Rattle.law_machine.specs.Frames.{IsFormat}
use Rattle.law_machine.specs.State as model
use Rattle.law_machine.specs.State.{State, map_now}
use Rattle.law_machine.specs.Step.{Step}
use Rattle.law_refinement.proofs.Shapes.{store_format, store_shape}
use Rattle.cs_core.specs.declared.events.Event.TheVariants.{Delete}
use Rattle.cs_core.specs.declared.events.Reply.{Reply}
use Rattle.cs_core.specs.declared.events.Reply.TheVariants.{Absent, Accepted}
use Rattle.cs_core.specs.Meanings.{Says, event_of}
use Rattle.cs_core.specs.Views.{IsIn, View}
use Rattle.cs_writeback.specs.Histories.{Went}
use Rattle.cs_store.specs.Events.{DoesFrom}
use Rattle.cs_store.specs.Maps.{HasMap}
use Rattle.cs_store.proofs.Accepting.{accepts_later, stays_accepts}
use Rattle.cs_store.proofs.Maps.{machine_map, map_kept}
use Rattle.cs_store.proofs.Running.{untouched_in}

module _ {D : Type 0} (disks : PageDisk D) (old new : View D) (id : ShardId) (whole : IsWhole old.store.extents) (m : Map) (has : HasMap old m) (there : disks.honest old.disk) where
  -- the state from which the delete is done, and what is under the identifier in it
  record From (reply : Reply) : Type 0 where
    before : View D
    machine : State
    is_in : IsIn disks.state before machine
    same : map_now machine (id_number id) ≡ m (id_number id)
    said : model.Reply
    after : State
    says : Says (shape before.store.extents) (formats_of (shape before.store.extents)) reply said
    step : Step (shape before.store.extents) (formats_of (shape before.store.extents)) machine (event_of (Delete id)) said after

  from : (reply : Reply) → DoesFrom disks old (Delete id) reply new → From reply
  from reply d = go d.went
    where
      go : Went disks d.ready ((Delete id, reply) ∷ []) new → From reply
      go (before, after, ahead, goes, behind) =
          let same = accepts_later disks [] old d.ready before d.same (stays_accepts disks d.ready before ahead) in
          let is_in = untouched_in disks d.ready before d.machine (d.same.honest.0 there) ahead.0 d.is_in in
          let known = subst IsShape (sym same.same_shape) (store_shape old.store.extents whole) in
          let format = subst (λ (S : Shape). IsFormat S (formats_of S)) (sym same.same_shape) (store_format old.store.extents whole) in
          let did = goes.step.step (same.honest.0 there) d.machine is_in in
          record {
            before = before;
            machine = d.machine;
            is_in = is_in;
            same = machine_map disks.state before m d.machine known format (map_kept disks old before same m has) is_in (id_number id);
            said = did.0;
            after = did.1;
            says = did.2;
            step = did.3;
          }

  pub absent_there : (reply : Reply) → reply ≡ Absent → DoesFrom disks old (Delete id) reply new → m (id_number id) ≡ None
  absent_there reply is d = go (from Absent (subst (λ (r : Reply). DoesFrom disks old (Delete id) r new) is d))
    where
      go : From Absent → m (id_number id) ≡ None
      go f =
          let S = shape f.before.store.extents in
          let did = subst (λ (r : model.Reply). Step S (formats_of S) f.machine (model.Delete (id_number id)) r f.after) f.says f.step in
          sym f.same ∙ did.1.0

  pub deleted_there : (reply : Reply) (n : ℕ) → reply ≡ Accepted n → DoesFrom disks old (Delete id) reply new → m (id_number id) ≢ None
  deleted_there reply n is d none = go (from (Accepted n) (subst (λ (r : Reply). DoesFrom disks old (Delete id) r new) is d))
    where
      go : From (Accepted n) → ⊥
      go f =
          let S = shape f.before.store.extents in
          let did = subst (λ (r : model.Reply). Step S (formats_of S) f.machine (model.Delete (id_number id)) r f.after) f.says f.step in
          did.1.0 (f.same ∙ none)
