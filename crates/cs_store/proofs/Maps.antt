-- The map that a store has, before and after.
use Rattle.std.proofs.Common.{◌≡◌, ◌∙◌, ℕ, List, [], ◌∷◌, sym, ap, subst, refl}
use Rattle.std.specs.Prelude.{◌==◌, Option, if◌then◌else◌}
use Rattle.cs_disk.specs.declared.disk.PageDisk.{Ghosts as PageDisk}
use Rattle.cs_disk.specs.Disk.{Image, State as DiskState, page}
use Rattle.cs_extent.specs.State.{shape}
use Rattle.cs_frame.specs.Formats.{formats_of}
use Rattle.law_machine.proofs.Kept.{history_on}
use Rattle.law_machine.proofs.Unique.{one_recovery}
use Rattle.law_machine.specs.Device.{IsShape, Shape}
use Rattle.law_machine.specs.Element.{Content, Map}
use Rattle.law_machine.specs.Frames.{IsFormat}
use Rattle.law_machine.specs.Open.{opened_state}
use Rattle.law_machine.specs.Recovery.{Recovers}
use Rattle.law_machine.specs.State.{Command, State, after_all, changed, content_of, map_now}
use Rattle.cs_core.proofs.Crashes.{commands_reached}
use Rattle.cs_core.specs.Meanings.{commands_said}
use Rattle.cs_core.specs.Views.{IsFound, IsIn, View}
use Rattle.cs_store.specs.Maps.{Accepts, HasMap}

-- what was found is found still
found_still : {D : Type 0} (disks : PageDisk D) (cs : List Command) (old new : View D) → Accepts disks cs old new → (start : Map)
    → Recovers (shape old.store.extents) (formats_of (shape old.store.extents)) (page old.opened) old.found.0 start
    → Recovers (shape new.store.extents) (formats_of (shape new.store.extents)) (page new.opened) new.found.0 start
found_still disks cs old new a start r =
    subst (λ (S : Shape). Recovers S (formats_of S) (page new.opened) new.found.0 start) (sym a.same_shape)
    (subst (λ (i : Image). Recovers (shape old.store.extents) (formats_of (shape old.store.extents)) (page i) new.found.0 start) (sym a.opened)
    (subst (λ (f : ℕ × ℕ). Recovers (shape old.store.extents) (formats_of (shape old.store.extents)) (page old.opened) f.0 start) (sym a.found) r))

-- where no command was accepted the map is the same
pub map_kept : {D : Type 0} (disks : PageDisk D) (old new : View D) → Accepts disks [] old new → (m : Map) → HasMap old m → HasMap new m
map_kept disks old new a m has = record {
  start = has.start;
  found = found_still disks [] old new a has.start has.found;
  after = λ id. has.after id ∙ ap (λ (cs : List Command). after_all has.start cs id) (sym a.commands_now);
}

-- after one command it is changed by that
pub map_changed : {D : Type 0} (disks : PageDisk D) (c : Command) (old new : View D) → Accepts disks (c ∷ []) old new → (m : Map) → HasMap old m → HasMap new (changed m c)
map_changed disks c old new a m has = record {
  start = has.start;
  found = found_still disks (c ∷ []) old new a has.start has.found;
  after = λ id. ap (λ (x : Option Content). if id == c.0 then content_of c.1 else x) (has.after id) ∙ ap (λ (cs : List Command). after_all has.start cs id) (sym a.commands_now);
}

-- where nothing was accepted since, the map is the one that was found
pub map_found : {D : Type 0} (v : View D) (m : Map) → v.history ≡ []
    → Recovers (shape v.store.extents) (formats_of (shape v.store.extents)) (page v.opened) v.found.0 m → HasMap v m
map_found v m none recovers = record {
  start = m;
  found = recovers;
  after = λ id. ap (λ h. after_all m (commands_said h) id) (sym none);
}

-- a store has the map that was found, after its commands
pub some_map : {D : Type 0} (v : View D) → IsFound (shape v.store.extents) v.opened v.found → (m : Map) × HasMap v m
some_map v found = (after_all found.0 (commands_said v.history), record { start = found.0; found = found.1; after = λ id. refl })

-- commands have one result on maps that are alike
after_alike : (m o : Map) → ((id : ℕ) → m id ≡ o id) → (cs : List Command) (id : ℕ) → after_all m cs id ≡ after_all o cs id
after_alike m o same [] id = same id
after_alike m o same (c ∷ cs) id = ap (λ (x : Option Content). if id == c.0 then content_of c.1 else x) (after_alike m o same cs id)

-- in whatever state of the machine a store is, the map there is the one that it has
pub machine_map : {D : Type 0} (state : D → DiskState) (v : View D) (m : Map) (s : State) → IsShape (shape v.store.extents) → IsFormat (shape v.store.extents) (formats_of (shape v.store.extents)) → HasMap v m → IsIn state v s → (id : ℕ) → map_now s id ≡ m id
machine_map state v m s known format has is id =
    let S = shape v.store.extents in
    let F = formats_of S in
    let reached = is.reached in
    let from = history_on S F (opened_state S F (page v.opened) reached.count reached.start reached.gives) s reached.events reached.legal in
    let one = one_recovery S F known format (page v.opened) reached.count v.found.0 reached.start has.start reached.gives has.found in
    ap (λ (o : Map). after_all o s.commands id) from.start
    ∙ ap (λ (cs : List Command). after_all reached.start cs id) (commands_reached S F v.opened v.history s reached)
    ∙ after_alike reached.start has.start one.1 (commands_said v.history) id
    ∙ sym (has.after id)

-- what was opened has the map that was read
pub opened_map : {D : Type 0} (v : View D) (S : Shape) (image : Image) (n : ℕ) (m : Map) → shape v.store.extents ≡ S → v.opened ≡ image → v.found.0 ≡ n → v.history ≡ []
    → Recovers S (formats_of S) (page image) n m → HasMap v m
opened_map v S image n m same_shape same_image same_count none recovers =
    map_found v m none
    (subst (λ (T : Shape). Recovers T (formats_of T) (page v.opened) v.found.0 m) (sym same_shape)
    (subst (λ (i : Image). Recovers S (formats_of S) (page i) v.found.0 m) (sym same_image)
    (subst (λ (k : ℕ). Recovers S (formats_of S) (page image) k m) (sym same_count) recovers)))

-- what was made has no shard
pub made_map : {D : Type 0} (v : View D) (m : Map) → v.found ≡ (0, 0) → v.history ≡ []
    → Recovers (shape v.store.extents) (formats_of (shape v.store.extents)) (page v.opened) 0 m → HasMap v m
made_map v m found none recovers =
    map_found v m none (subst (λ (f : ℕ × ℕ). Recovers (shape v.store.extents) (formats_of (shape v.store.extents)) (page v.opened) f.0 m) (sym found) recovers)
