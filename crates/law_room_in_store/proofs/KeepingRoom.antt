-- Calls keep a core roomy.
use Rattle.std.proofs.Common.{◌≡◌, ◌⊎◌, inl, inr, ℕ, ◌+◌, ◌<◌, ◌≤◌, true, List, [], ◌∷◌, ◌++◌, length, length-append, le_of_eq, refl, sym, ap, ◌∙◌, subst, arith}
use Rattle.cs_disk.specs.declared.disk.PageDisk.{Ghosts as PageDisk}
use Rattle.cs_disk.specs.Disk.{Image}
use Rattle.cs_disk.specs.Reads.{OnlyReads}
use Rattle.cs_extent.specs.State.{shape}
use Rattle.cs_frame.specs.Formats.{formats_of}
use Rattle.cs_core.specs.cs_reader.ImageReads.{page_total}
use Rattle.law_machine.specs.Device.{Shape}
use Rattle.law_machine.specs.Extents.{Extents}
use Rattle.law_machine.specs.State as model
use Rattle.law_refinement.proofs.Shapes.{shape_of_store}
use Rattle.law_room.proofs.MachineSteps.{young_history}
use Rattle.law_room.specs.OfMachine.{NoneWorn}
use Rattle.cs_core.proofs.Saying.{puts_called}
use Rattle.cs_core.specs.declared.events.Event.{Event}
use Rattle.cs_core.specs.declared.events.Reply.{Reply}
use Rattle.cs_core.specs.Calls.{AreCalls, IsCall}
use Rattle.cs_core.specs.Checkpoints.{Replaces}
use Rattle.cs_core.specs.Stored.{Stored}
use Rattle.cs_core.specs.Views.{Applies, IsCore, IsFound, IsIn, IsUntouched, View}
use Rattle.cs_writeback.specs.Runs.{Ran}
use Rattle.cs_store.proofs.Running.{untouched_in}
use Rattle.law_room_in_store.proofs.CoreRoom.{same_geometry, same_opened, young_state}
use Rattle.law_room_in_store.proofs.HavingRoom.{format_is}
use Rattle.law_room_in_store.proofs.Reaching.{Anything, Reaches, reaches_call}
use Rattle.law_room_in_store.specs.Cores.{HasRoom, NoneWornIn}
use Rattle.law_room_in_store.specs.Images.{HasGeometry}
use Rattle.law_room_in_store.specs.Roomy.{IsRoomyCore}

module _ {D : Type 0} (disks : PageDisk D) where
  -- what of a roomy core each event keeps, whatever is known of the device
  pub record IsRoomyState (v : View D) : Type 0 where
    pub legal : (s : model.State) × IsIn disks.state v s
    pub honest : disks.honest v.disk
    pub geometry : HasGeometry v.store.extents
    pub apart : (shape v.store.extents).apart ≡ true
    pub room : HasRoom v

  pub state_of : (v : View D) → IsRoomyCore disks v → IsRoomyState v
  state_of v roomy = record {
    legal = roomy.core.legal roomy.honest;
    honest = roomy.honest;
    geometry = roomy.geometry;
    apart = roomy.apart;
    room = roomy.room;
  }

  -- what calls lead to
  pub reached_state : (v w : View D) → IsRoomyState v → Reaches disks Anything v w → IsRoomyState w
  reached_state v w roomy reaches = record {
    legal = (let t = reaches.leads roomy.honest roomy.legal.0 roomy.legal.1 in (t.0, t.1));
    honest = reaches.honest roomy.honest;
    geometry = same_geometry v.store.extents w.store.extents reaches.same roomy.geometry;
    apart = ap (λ (S : Shape). S.apart) reaches.same ∙ roomy.apart;
    room = same_opened v w reaches.same reaches.opened roomy.room;
  }

  -- generations only rise
  pub young_before : (v w : View D) → IsRoomyState v → Reaches disks Anything v w → NoneWornIn w → NoneWornIn v
  young_before v w roomy reaches young =
      let s = roomy.legal in
      let t = reaches.leads roomy.honest s.0 s.1 in
      let after = reached_state v w roomy reaches in
      let then_young : NoneWorn (shape v.store.extents) t.0 = subst (λ (S : Shape). NoneWorn S t.0) reaches.same
      (young_state disks w after.geometry after.apart t.0 t.1 young) in
      let before : NoneWorn (shape v.store.extents) s.0 = young_history (shape v.store.extents) (formats_of (shape v.store.extents))
      (shape_of_store v.store.extents roomy.geometry) (format_is v.store.extents roomy.geometry) roomy.apart s.0 t.0 t.2 t.3
      then_young in
      λ e lt. subst (λ (x : Extents). x.generation e < (shape v.store.extents).greatest_generation) s.1.store.parts.world.extents
      (before e lt)

  -- ---- whole cores

  -- a core that was opened on the same image, with the same shape, is in such a state
  pub state_behind : (v w : View D) → IsRoomyCore disks v → shape w.store.extents ≡ shape v.store.extents → w.opened ≡ v.opened
      → disks.honest w.disk → ((s : model.State) × IsIn disks.state w s) → IsRoomyState w
  state_behind v w roomy same opened honest legal = record {
    legal = legal;
    honest = honest;
    geometry = same_geometry v.store.extents w.store.extents same roomy.geometry;
    apart = ap (λ (S : Shape). S.apart) same ∙ roomy.apart;
    room = same_opened v w same opened roomy.room;
  }

  pub kept_core : (v w : View D) → IsRoomyCore disks v → IsCore disks w → disks.honest w.disk
      → shape w.store.extents ≡ shape v.store.extents → w.opened ≡ v.opened → IsRoomyCore disks w
  kept_core v w roomy core honest same opened = record {
    core = core;
    honest = honest;
    geometry = same_geometry v.store.extents w.store.extents same roomy.geometry;
    apart = ap (λ (S : Shape). S.apart) same ∙ roomy.apart;
    room = same_opened v w same opened roomy.room;
  }

  -- the events that were replaced are some of all
  replaced_there : (v w : View D) → v.base ≤ length v.history
      → ((event : Event) × (reply : Reply) × Applies disks v event reply w) ⊎ IsUntouched disks v w ⊎ ((n : ℕ) × Replaces v n w)
      → w.base ≤ length w.history
  replaced_there v w some (inl (event, reply, inl full)) = subst (λ (u : View D). u.base ≤ length u.history) (sym full.same) some
  replaced_there v w some (inl (event, reply, inr step)) =
      let one : List (Event × Reply) = (event, reply) ∷ [] in
      let size : length (v.history ++ one) ≡ length v.history + length one = length-append v.history one in
      let all : length w.history ≡ length (v.history ++ one) = ap length step.history in
      omega (arith, step.base, size, all, some)
  replaced_there v w some (inr (inl same)) = let all : length w.history ≡ length v.history = ap length same.history in
      omega (arith, same.base, all, some)
  replaced_there v w some (inr (inr (n, replaces))) =
      subst (λ (u : View D). u.base ≤ length u.history) (sym replaces.1) (le_of_eq refl)

  still_begun : (v w : View D) → shape w.store.extents ≡ shape v.store.extents → w.opened ≡ v.opened → w.found ≡ v.found
      → IsFound (shape v.store.extents) v.opened v.found → IsFound (shape w.store.extents) w.opened w.found
  still_begun v w same opened found begun = subst (λ (S : Shape). IsFound S w.opened w.found) (sym same)
      (subst (λ (i : Image). IsFound (shape v.store.extents) i w.found) (sym opened)
      (subst (λ (f : ℕ × ℕ). IsFound (shape v.store.extents) v.opened f) (sym found) begun))

  called_core : (v w : View D) → IsCore disks v → disks.honest v.disk → IsCall disks v w → IsCore disks w
  called_core v w core honest call =
      let reaches = reaches_call disks v w call in
      let total : page_total (shape v.store.extents) ≡ page_total (shape w.store.extents) = ap page_total (sym reaches.same) in record {
        device = call.pages ∙ core.device ∙ total;
        replaced = replaced_there v w core.replaced call.did;
        puts = puts_called disks v w call.did core.puts;
        sized = λ h. ap length reaches.opened ∙ core.sized honest ∙ total;
        legal = λ h. (let s = core.legal honest in let t = reaches.leads honest s.0 s.1 in (t.0, t.1));
        begun = λ h. still_begun v w reaches.same reaches.opened reaches.found (core.begun honest);
      }

  pub called : (v w : View D) → IsRoomyCore disks v → IsCall disks v w → IsRoomyCore disks w
  called v w roomy call = let reaches = reaches_call disks v w call in
      kept_core v w roomy (called_core v w roomy.core roomy.honest call) (call.stays_honest roomy.honest) reaches.same reaches.opened

  called_all : (between : List (View D)) (v w : View D) → IsRoomyCore disks v → AreCalls disks v between w → IsRoomyCore disks w
  called_all [] v w roomy call = called v w roomy call
  called_all (x ∷ xs) v w roomy (call, calls) = called_all xs x w (called v x roomy call) calls

  pub ran_roomy : (v w : View D) → IsRoomyCore disks v → Ran disks v w → IsRoomyCore disks w
  ran_roomy v w roomy (inl same) = subst (λ (u : View D). IsRoomyCore disks u) (sym same) roomy
  ran_roomy v w roomy (inr (between, calls)) = called_all between v w roomy calls

  -- reads leave all but the disk as it was, and that holds what it held
  pub read_untouched : (v w : View D) → w ≡ record v { disk = w.disk } → OnlyReads disks v.disk w.disk → IsUntouched disks v w
  read_untouched v w is reads = record {
    opened = ap (λ (u : View D). u.opened) is;
    found = ap (λ (u : View D). u.found) is;
    store = ap (λ (u : View D). u.store) is;
    history = ap (λ (u : View D). u.history) is;
    base = ap (λ (u : View D). u.base) is;
    limit = ap (λ (u : View D). u.limit) is;
    disk = reads.same;
    later = reads.failures;
  }

  read_core : (v w : View D) → IsCore disks v → disks.honest v.disk → w ≡ record v { disk = w.disk } → OnlyReads disks v.disk w.disk
      → IsCore disks w
  read_core v w core honest is reads =
      let same = read_untouched v w is reads in
      let same_shape : shape w.store.extents ≡ shape v.store.extents = ap (λ (u : Stored). shape u.extents) same.store in
      let total : page_total (shape v.store.extents) ≡ page_total (shape w.store.extents) = ap page_total (sym same_shape) in record {
        device = reads.pages ∙ core.device ∙ total;
        replaced = replaced_there v w core.replaced (inr (inl same));
        puts = puts_called disks v w (inr (inl same)) core.puts;
        sized = λ h. ap length same.opened ∙ core.sized honest ∙ total;
        legal = λ h. (let s = core.legal honest in (s.0, untouched_in disks v w s.0 honest same s.1));
        begun = λ h. still_begun v w same_shape same.opened same.found (core.begun honest);
      }

  pub read_roomy : (v w : View D) → IsRoomyCore disks v → w ≡ record v { disk = w.disk } → OnlyReads disks v.disk w.disk
      → IsRoomyCore disks w
  read_roomy v w roomy is reads = let same = read_untouched v w is reads in
      kept_core v w roomy (read_core v w roomy.core roomy.honest is reads) (reads.honesty.0 roomy.honest)
      (ap (λ (u : Stored). shape u.extents) same.store) same.opened
