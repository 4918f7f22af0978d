-- What a get answers, in the words of its clauses.
use Rattle.std.proofs.Common.{◌≡◌, ◌≢◌, ◌∙◌, ℕ, Option, None, Ok, Err, ap, sym, subst}
use Rattle.std.specs.Prelude.{◌↔◌, IsTrue, Bool, Vec}
use Rattle.std.specs.declared.alloc.Global.{Global}
use Rattle.cs_chunk.specs.Reads.{IsCaused}
use Rattle.cs_refusal.specs.declared.refusals.Refusal.{Refusal}
use Rattle.cs_disk.specs.Disk.{Rises, State as DiskState}
use Rattle.cs_extent.specs.State.{IsWhole}
use Rattle.law_machine.specs.Element.{Content, Map}
use Rattle.law_machine.specs.State.{State, map_now}
use Rattle.law_refinement.proofs.Shapes.{store_format, store_shape}
use Rattle.cs_core.specs.Lookups.{IsReading}
use Rattle.cs_core.specs.Views.{IsIn, View}
use Rattle.cs_store.specs.declared.errors.GetError.{GetError}
use Rattle.cs_store.specs.declared.errors.GetError.TheVariants.{DeviceFault}
use Rattle.cs_store.specs.Errors.{get_refusal}
use Rattle.cs_store.specs.Gets.{IsGot}
use Rattle.cs_store.specs.Maps.{HasMap}
use Rattle.cs_store.proofs.Maps.{machine_map}

-- in the state that the store is in, its map has of each identifier what the machine has
pub map_is : {D : Type 0} (state : D → DiskState) (v : View D) (m : Map) (s : State) → IsWhole v.store.extents → HasMap v m → IsIn state v s → (id : ℕ) → map_now s id ≡ m id
map_is state v m s whole has is id = machine_map state v m s (store_shape v.store.extents whole) (store_format v.store.extents whole) has is id

pub got : (content content' : Option Content) (found : Option (Vec ℕ Global)) → content' ≡ content → IsReading content' (Ok found) → IsGot content (Ok found)
got content content' found is reading = subst (λ (c : Option Content). IsReading c (Ok found)) is reading

pub got_not : (content content' : Option Content) (r : Refusal) (e : GetError) → content' ≡ content → get_refusal e ≡ r → IsReading content' (Err r) → IsGot content (Err e)
got_not content content' r e is told reading =
    subst (λ (c : Option Content). IsReading c (Err (get_refusal e))) is (subst (λ (x : Refusal). IsReading content' (Err x)) (sym told) reading)

-- a shard is there just where the map has it
pub there_is : (b : Bool) (content content' : Option Content) → content' ≡ content → IsTrue b ↔ (content' ≢ None) → IsTrue b ↔ (content ≢ None)
there_is b content content' is told = subst (λ (c : Option Content). IsTrue b ↔ (c ≢ None)) is told

-- what was told as a device fault is one
pub told_cause : {T : Type 0} (before after : ℕ) (r : Refusal) (e : GetError) → IsCaused {T = T} before after (Err r) → get_refusal e ≡ r → e ≡ DeviceFault → Rises before after
told_cause before after r e caused told device = caused.failed (ap Err (sym told ∙ ap get_refusal device))
