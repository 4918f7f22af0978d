-- What a reclaim chooses is chosen by what lives.
use Rattle.std.proofs.Common.{◌≡◌, ℕ, ◌<◌, ◌≤◌, ◌&&◌, Bool, true, false, not, List, Option, Some, None, length, if◌then◌else◌, le_refl, refl, sym, ap, ◌∙◌, subst, arith}
use Rattle.std.specs.Prelude.{slice_get}
use Rattle.cs_disk.specs.declared.disk.PageDisk.{Ghosts as PageDisk}
use Rattle.cs_disk.specs.Disk.{Rises}
use Rattle.cs_extent.specs.State.{extents_of, shape}
use Rattle.cs_frame.proofs.GeometryLaws.{bounds}
use Rattle.cs_frame.specs.Formats.{formats_of}
use Rattle.law_machine.specs.Apart.{any_swept}
use Rattle.law_machine.specs.Device.{Shape}
use Rattle.law_machine.specs.Extents.{Extents}
use Rattle.law_machine.specs.Index.{NoneDamaged, names}
use Rattle.law_machine.specs.State as model
use Rattle.cs_index.specs.State.{index_of}
use Rattle.law_room.specs.Events.{unless}
use Rattle.law_room.specs.Brim.{IsNext, NoneNext, NothingDead, greatest_chunk}
use Rattle.law_room.specs.Invariant.{Keeps}
use Rattle.law_room.specs.OfMachine.{HasRoomNow, IsRoomOf, holding, is_aside}
use Rattle.law_room.specs.Rooms.{Empty, Room, is_at, live_pages}
use Rattle.cs_core.specs.Views.{IsIn, View}
use Rattle.cs_store.proofs.Getting.{map_is}
use Rattle.cs_store.specs.declared.reclaims.Reclaimed.{Reclaimed}
use Rattle.cs_store.specs.Reclaims.{reclaimed_extent}
use Rattle.cs_inspect.specs.Brim.{ChoosesNext, greatest_in}
use Rattle.cs_inspect.specs.Choices.{ChoosesNextBy, run_pages}
use Rattle.cs_inspect.proofs.Tallied.{read_exactly}
use Rattle.cs_inspect.specs.declared.surveys.ExtentUse.{ExtentUse}
use Rattle.cs_inspect.specs.Uses.{AreCounted, Head, heads_of, live_on, unreadable_on}
use Rattle.law_room_in_store.proofs.ChosenUses.{inside, next_is, none_next_is, nothing_is}
use Rattle.law_room_in_store.proofs.CountedPages.{greatest_exactly, live_exactly}
use Rattle.law_room_in_store.proofs.ReclaimChoices.{Chose, enough, none_within, reclaimed_later}
use Rattle.law_room_in_store.specs.Reclaims.{IsIdle, IsReclaim, NoneFailed}
use Rattle.law_room_in_store.specs.Roomy.{IsRoomyCore}

and_false : (b : Bool) → (b && false) ≡ false
and_false true = refl
and_false false = refl

-- nothing is left out
unless_none : (test : ℕ → Bool) (o : Option ℕ) → ((e : ℕ) → test e ≡ false) → unless test o ≡ o
unless_none test None none = refl
unless_none test (Some e) none = ap (λ (b : Bool). if b then None else Some e) (none e)

module _ {D : Type 0} (disks : PageDisk D) (sized : (d : D) → disks.honest d → length (disks.state d).durable ≡ disks.page_count d)
    (v mid : View D) (found : Option Reclaimed) (call : IsReclaim disks v found mid) (chose : Chose disks v found mid)
    (unfailed : NoneFailed disks v mid) (roomy : IsRoomyCore disks v) (idle : IsIdle v) (s : model.State) (is : IsIn disks.state v s) (first : Room)
    (has : HasRoomNow (shape v.store.extents) (formats_of (shape v.store.extents)) s first) (r : Room)
    (room : IsRoomOf (shape v.store.extents) (formats_of (shape v.store.extents)) s r) where
  abbrev S : Shape
  S = shape v.store.extents

  abbrev heads : List Head
  heads = heads_of v.store.extents chose.view chose.chunks

  -- the headers were read as they are
  all_read : chose.goes.read.0 ≡ heads
  all_read = (read_exactly (Rises (disks.failure_count v.disk) (disks.failure_count chose.read.disk)) heads chose.goes.read.0
      (none_within disks v v chose.read mid (le_refl (disks.failure_count v.disk)) (reclaimed_later disks chose.read mid found chose.reclaims) unfailed)
      chose.goes.read.1.each)

  -- and counted so
  counted : AreCounted heads chose.goes.uses
  counted = subst (λ (hs : List Head). AreCounted hs chose.goes.uses) all_read chose.goes.read.2

  sane : NoneDamaged (model.map_now s)
  sane id f bad = call.undamaged id f (sym (map_is disks.state v call.shards s call.whole call.has_map is id) ∙ bad)

  exactly : (q : Room) → IsRoomOf (shape v.store.extents) (formats_of (shape v.store.extents)) s q → (e : ℕ)
      → (live_pages q.chunks e ≡ live_on e heads) × (unreadable_on e heads ≡ 0)
  exactly q of = live_exactly v.store call.whole call.graph (disks.state v.disk) (enough disks sized v roomy) s is.store is.disk
      chose.view chose.newest q of chose.chunks chose.live sane

  greatest : chose.goes.greatest ≡ greatest_chunk r.chunks
  greatest = chose.goes.read.3 ∙ ap (λ (hs : List Head). greatest_in hs) all_read
      ∙ sym (greatest_exactly v.store call.whole call.graph (disks.state v.disk) (enough disks sized v roomy) s is.store is.disk
      chose.view chose.newest r room chose.chunks chose.live sane)

  -- of each extent as many pages are counted as live there
  live : (e : ℕ) (used : ExtentUse) → slice_get chose.goes.uses e ≡ Some used → used.live ≡ live_pages r.chunks e
  live e used at =
      let lt : e < (shape v.store.extents).extents = omega (arith, inside chose.goes.uses e used at, chose.goes.extents.0) in
      let given = has.keeps.lies.given e lt in
      let fits : first.pointer e ≤ (shape v.store.extents).pages = has.keeps.lies.fits e lt in
      let few : v.store.extents.pages ≤ 65535 =
      (bounds v.store.extents.format (length v.store.extents.written) v.store.extents.pages v.store.extents.sections roomy.geometry).most_pages in
      omega (arith, (counted e used at).0, (exactly r room e).0, (exactly first has.room e).0, given, fits, few)

  readable : (e : ℕ) (used : ExtentUse) → slice_get chose.goes.uses e ≡ Some used → used.unreadable ≡ 0
  readable e used at = omega (arith, (counted e used at).1, (exactly r room e).1)

  -- no extent is set aside
  none_aside : (e : ℕ) → is_aside (shape v.store.extents) s e ≡ false
  none_aside e =
      let none : s.world.extents.fresh ≡ None = ap (λ (x : Extents). x.fresh) is.store.parts.world.extents ∙ idle.none_opened in
      ap (λ (o : Option ℕ). not (any_swept (shape v.store.extents) s) && is_at o e) none
      ∙ and_false (not (any_swept (shape v.store.extents) s))

  holds : (e : ℕ) → e < (shape v.store.extents).extents → r.holds e ≡ holding (extents_of v.store.extents) e
  holds e lt = room.extents.holds e lt
      ∙ ap (λ (b : Bool). if b then Empty else holding s.world.extents e) (none_aside e)
      ∙ ap (λ (x : Extents). holding x e) is.store.parts.world.extents

  last : r.last ≡ (extents_of v.store.extents).last
  last = room.extents.last ∙ unless_none (is_aside (shape v.store.extents) s) s.world.extents.last none_aside
      ∙ ap (λ (x : Extents). x.last) is.store.parts.world.extents

  pointers : (e : ℕ) → e < (shape v.store.extents).extents → r.pointer e ≡ (extents_of v.store.extents).pointer e
  pointers e lt = room.extents.pointer e lt
      ∙ ap (λ (b : Bool). if b then 0 else s.world.extents.pointer e) (none_aside e)
      ∙ ap (λ (x : Extents). x.pointer e) is.store.parts.world.extents

  chooses : ChoosesNext chose.goes.uses (extents_of v.store.extents).last (shape v.store.extents).pages chose.goes.greatest (reclaimed_extent found)
  chooses = subst (λ (b : Bool). ChoosesNextBy b chose.goes.uses chose.goes.greatest (run_pages (names (index_of v.store.index)))
      (extents_of v.store.extents).last (shape v.store.extents).pages (reclaimed_extent found)) roomy.apart chose.goes.chooses

  pub chosen : (e dead : ℕ) → reclaimed_extent found ≡ Some (e, dead)
      → IsNext (shape v.store.extents) (shape v.store.extents).run_extents r e
  chosen e dead same = next_is (shape v.store.extents) (shape v.store.extents).run_extents (extents_of v.store.extents) r
      chose.goes.uses chose.goes.extents holds last idle.none_swept live readable pointers chose.goes.greatest greatest e dead
      (subst (λ (o : Option (ℕ × ℕ)). ChoosesNext chose.goes.uses (extents_of v.store.extents).last (shape v.store.extents).pages chose.goes.greatest o)
      same chooses)

  none_so : reclaimed_extent found ≡ None → ChoosesNext chose.goes.uses (extents_of v.store.extents).last (shape v.store.extents).pages chose.goes.greatest None
  none_so same = subst (λ (o : Option (ℕ × ℕ)). ChoosesNext chose.goes.uses (extents_of v.store.extents).last (shape v.store.extents).pages chose.goes.greatest o)
      same chooses

  pub none_chosen : Keeps (shape v.store.extents) (shape v.store.extents).run_extents r → reclaimed_extent found ≡ None
      → NoneNext (shape v.store.extents) (shape v.store.extents).run_extents r
  none_chosen keeps same = none_next_is (shape v.store.extents) (shape v.store.extents).run_extents (extents_of v.store.extents) r
      chose.goes.uses chose.goes.extents holds last idle.none_swept live readable pointers chose.goes.greatest greatest keeps (none_so same)

  -- nothing is dead then, in whichever room
  pub nothing_dead : reclaimed_extent found ≡ None → NothingDead (shape v.store.extents) r
  nothing_dead same = nothing_is (shape v.store.extents) (shape v.store.extents).run_extents (extents_of v.store.extents) r
      chose.goes.uses chose.goes.extents holds last idle.none_swept live readable pointers chose.goes.greatest greatest (none_so same).nothing
