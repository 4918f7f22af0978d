-- What a crash leaves of a disk is, page by page, what it leaves in the machine; so it has room.
use Rattle.std.proofs.Common.{◌≡◌, ℕ, ◌+◌, ◌-◌, ◌*◌, ◌<◌, ◌≤◌, ◌==◌, ◌&&◌, Bool, true, false, nat_le, List, [], ◌∷◌, length, if◌then◌else◌, inl, inr, ⊎_elim, le_refl, ne_eqb, true≢false, refl, sym, ap, ◌∙◌, subst, arith}
use Rattle.std.proofs.lemmas.Bool.{cases_lt}
use Rattle.std.proofs.lemmas.List.{get_or_past}
use Rattle.cs_disk.specs.Disk.{Image, MayLeave, State as DiskState, page}
use Rattle.cs_extent.specs.State.{State as ExtentsState, shape}
use Rattle.cs_frame.proofs.GeometryLaws.{model_geometry, pages_on_device}
use Rattle.cs_frame.specs.Formats.{formats_of}
use Rattle.cs_frame.specs.Geometries.{section_size}
use Rattle.cs_core.specs.cs_reader.ImageReads.{page_total}
use Rattle.law_machine.proofs.Rounds.{kept_image}
use Rattle.law_machine.proofs.Shapes.{at_behind}
use Rattle.law_machine.specs.Cut.{Cut}
use Rattle.law_machine.specs.Device.{Page, PageKind, SectionPage, Shape}
use Rattle.law_machine.specs.Element.{Map, Superblock, log_of}
use Rattle.law_machine.specs.Formats.{Formats, image, image_at}
use Rattle.law_machine.specs.Lists.{latest, ◌∈◌}
use Rattle.law_machine.specs.Open.{opened_state}
use Rattle.law_machine.specs.Recovery.{Recovers}
use Rattle.law_machine.specs.Sound.{Sound, crashed}
use Rattle.law_machine.specs.State.{State}
use Rattle.law_refinement.proofs.CrashesLeft.{same_size}
use Rattle.law_refinement.proofs.Disks.{crash}
use Rattle.law_refinement.proofs.Shapes.{shape_of_store}
use Rattle.law_refinement.specs.Devices.{IsDiskOf}
use Rattle.law_room.proofs.MachineCrash.{crash_room}
use Rattle.law_room.specs.Events.{opened}
use Rattle.law_room.specs.OfMachine.{NoneWorn}
use Rattle.law_room.specs.Rooms.{Room}
use Rattle.law_room.specs.RootsOfMachine.{IsRoomy}
use Rattle.law_room_in_store.proofs.HavingRoom.{format_is, store_has_room}
use Rattle.law_room_in_store.specs.Images.{HasGeometry, HasRoomOn}

-- where no version is of that section, the page is as it was found
none_of : (X : Cut) (F : Formats) (j : ℕ) (found : Page) (us : List Superblock)
    → ((u : Superblock) → u ∈ us → (u.section == j) ≡ false)
    → latest (λ (u : Superblock). (u.section == j) && nat_le u.version (X.superblocks j))
    (λ u. F.superblock u.format j u.version u.recorded u.pointers u.generations) found us ≡ found
none_of X F j found [] none = refl
none_of X F j found (u ∷ us) none = go (u.section == j) (none u (inl refl)) (none_of X F j found us (λ v there. none v (inr there)))
  where
    go : (b : Bool) → b ≡ false → latest (λ (v : Superblock). (v.section == j) && nat_le v.version (X.superblocks j))
        (λ v. F.superblock v.format j v.version v.recorded v.pointers v.generations) found us ≡ found
        → (if b && nat_le u.version (X.superblocks j) then F.superblock u.format j u.version u.recorded u.pointers u.generations
        else latest (λ (v : Superblock). (v.section == j) && nat_le v.version (X.superblocks j))
        (λ v. F.superblock v.format j v.version v.recorded v.pointers v.generations) found us) ≡ found
    go true wrong more = absurd (true≢false wrong)
    go false off more = more

module _ (x : ExtentsState) (geometry : HasGeometry x) where
  abbrev S : Shape
  S = shape x

  abbrev F : Formats
  F = formats_of (shape x)

  -- behind the pages of the device an image of the machine is as it was found
  behind : (s : State) (X : Cut) → Sound S F s → (p : ℕ) → page_total S ≤ p
      → image S F X s.opened (log_of s.world.elements) p ≡ s.opened p
  behind s X sound p over =
      let some : 1 ≤ x.sections = geometry.fewest_sections in
      let on = pages_on_device x.format (length x.written) x.pages x.sections geometry in
      let past : 2 + length x.written * x.pages ≤ p = omega (arith, over, on, some) in
      let late : x.sections ≤ p - (1 + length x.written * x.pages) = omega (arith, over, on) in
      let at : S.kind p ≡ SectionPage (p - (1 + length x.written * x.pages)) =
      at_behind (length x.written) x.pages x.sections (section_size (length x.written) x.sections) x.format
      (model_geometry x.format (length x.written) x.pages x.sections geometry) p past in
      ap (λ (k : PageKind). image_at S F k X s.opened (log_of s.world.elements) p) at
      ∙ none_of X F (p - (1 + length x.written * x.pages)) (s.opened p) (log_of s.world.elements).superblocks
      (λ u there. (let inside : u.section < x.sections = sound.safe.sections_there u there in
      ne_eqb u.section (p - (1 + length x.written * x.pages)) (λ is. omega arith)))

  module _ (s : State) (disk : DiskState) (found left : Image) (sound : Sound S F s) (on : IsDiskOf S F s disk)
      (sized : length disk.durable ≡ page_total S) (found_sized : length found ≡ page_total S)
      (same : s.opened ≡ page found) (may : MayLeave disk left) where
    left_sized : length left ≡ page_total S
    left_sized = same_size disk left may ∙ sized

    -- the image is one that a crash leaves in the machine
    pub left_is : (mask : List Bool) × (crashed S F s mask ≡ page left)
    left_is = let c = crash S F s disk on left may in (c.0, λ i p. each c.0 c.1 p i)
      where
        over : (mask : List Bool) (p : ℕ) → page_total S ≤ p → crashed S F s mask p ≡ page left p
        over mask p past =
            let kept = kept_image S F (shape_of_store x geometry) s.opened s.world sound.safe s.issued s.world.persistent sound.issued
            (record {
              low = record { writes = λ k it. it; superblocks = λ j. le_refl _; root = le_refl _ };
              high = sound.safe.within;
              exact = sound.safe.exact;
            }) mask in
            kept.2 p ∙ behind s kept.0 sound p past ∙ ap (λ (f : ℕ → Page). f p) same
            ∙ get_or_past found p [] (omega (arith, found_sized, past)) ∙ sym (get_or_past left p [] (omega (arith, left_sized, past)))

        each : (mask : List Bool) → ((p : ℕ) → p < length left → page left p ≡ crashed S F s mask p) → (p : ℕ)
            → crashed S F s mask p ≡ page left p
        each mask agree p = ⊎_elim (λ (inside : p < length left). sym (agree p inside))
            (λ (past : length left ≤ p). over mask p (omega (arith, left_sized, past))) (cases_lt p (length left))

    pub left_has_room : S.apart ≡ true → (r : Room) → IsRoomy S F s r → HasRoomOn S left
    left_has_room apart r roomy = subst (λ (f : ℕ → Page). (n : ℕ) (m : Map) (gives : Recovers S F f n m)
        → NoneWorn S (opened_state S F f n m gives) → (q : Room) × IsRoomy S F (opened_state S F f n m gives) q) left_is.1
        (λ n m gives worn. (let after = crash_room S F (shape_of_store x geometry) (format_is x geometry) (store_has_room x geometry).tells
        apart s r roomy left_is.0 n m gives worn in (opened after.0 gives.pointers, after.2)))
