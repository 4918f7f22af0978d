-- Torn crashes of stores over disks in pairs.
use Rattle.std.proofs.Common.{◌≡◌, ◌≢◌, ◌⊎◌, inl, inr, ⊎_elim, ℕ, ◌+◌, ◌<◌, Bool, true, false, le_of_eq, Option, Some, None, List, [], ◌∷◌, length, replicate, slice_get, slice_index, refl, sym, ◌∙◌, ap, subst, arith}
use denote.Struct.Props.{props}
use Rattle.std.proofs.Math.Logic.{∥∥₁_elim}
use Rattle.std.proofs.lemmas.List.{ext_get_or, length-replicate}
use Rattle.cs_core.proofs.TornCrashes.{torn_now}
use Rattle.cs_core.specs.Meanings.{commands_said}
use Rattle.cs_core.specs.Views.{IsCore, View}
use Rattle.cs_disk.specs.declared.disk.PageDisk.{Ghosts as PageDisk}
use Rattle.cs_disk.specs.Disk.{Image, IsWhole as IsWholeDisk, MayLeave, State as DiskState, Write, applied, kept, page}
use Rattle.cs_core.specs.cs_extent.State.{shape}
use Rattle.cs_frame.specs.declared.faults.FormatFault.{FormatFault}
use Rattle.cs_frame.specs.declared.formats.FormatNumber.TheVariants as of_number
use Rattle.cs_frame.specs.FirstFormat.{SpellsPageZero, page_zero_fault}
use Rattle.cs_frame.specs.Superblocks.{superblock_fault}
use Rattle.cs_frame.specs.Formats.{formats_of}
use Rattle.cs_frame.specs.Geometries.{Dimensions, IsGeometry, section_size}
use Rattle.cs_reader.proofs.Readable.{section_spelled}
use Rattle.law_machine.specs.Element.{Map}
use Rattle.law_machine.specs.Device.{FramePage}
use Rattle.law_machine.specs.Geometry.{shape_of, twins_in}
use Rattle.law_machine.specs.Recovery.{Recovers}
use Rattle.cs_twin.specs.declared.pairs.Pair.{Pair}
use Rattle.cs_mount.specs.OfStores.{IsOfStore}
use Rattle.cs_twin.specs.Fences.{AreOverKnown, AreWhole, AreWrittenOnce, IsGuarded, IsWholeOrFence}
use Rattle.cs_twin.specs.Pairs.{ArePairs, AreNoOlder, Versions, half, shown, shown_state}
use Rattle.cs_twin.specs.Tears.{HasWaitingWrite, IsLeft, IsMixed, MixesTwo}
use Rattle.cs_twin.proofs.Mixing.{left_durable, tear_spoils}
use Rattle.cs_twin.proofs.Shown.{IsLast, latest_of}
use Rattle.cs_twin.proofs.Tearing.{MaySpoil}
use Rattle.cs_mount.specs.Identities.{IsOfOne}
use Rattle.cs_mount.specs.Showing.{shown_on}
use Rattle.cs_mount.specs.StorePairs.{dimensions_on, pages_of, pairs_where, section_version, store_pair, store_pairs, store_shape, store_version}
use Rattle.cs_mount.specs.TornStores.{IsSpare}
use Rattle.cs_mount.proofs.Once.{LiesBelow, core_below, core_once, core_whole}
use Rattle.cs_mount.proofs.Blank.{apart_of}
use Rattle.cs_mount.proofs.Refinding.{first_pair, left_one, shows_again}
use Rattle.cs_mount.proofs.Spelling.{section_read}
use Rattle.cs_mount.proofs.Telling.{version_says}
use Rattle.cs_mount.proofs.Unpaired.{torn_store_shows}
use Rattle.cs_core.specs.law_refinement.Crashes.{IsPrefix, IsTornFrom}
use Rattle.law_refinement.proofs.Started.{left_pages}
use Rattle.cs_mount.specs.Torn.{IfRecovered, IsTold, MayTearStore, dimensions_of}

-- a crash may lose all that is volatile
none_kept : (writes : List Write) → kept (replicate (length writes) false) writes ≡ []
none_kept [] = refl
none_kept (w ∷ writes) = none_kept writes

durable_MayLeave : (s : DiskState) → MayLeave s s.durable
durable_MayLeave s = (replicate (length s.volatile) false, length-replicate (length s.volatile) false, ap (applied s.durable) (sym (none_kept s.volatile)))

-- A page that spells section 0 of a store is whole.
first_whole : (d : Dimensions) (bytes : List ℕ) (version recorded : ℕ) (rows : List (ℕ × ℕ)) → twins_in d.format ≡ true → SpellsPageZero bytes d.format version recorded d.extents d.pages d.sections 0 rows → 0 < section_version d 0 bytes
first_whole d bytes version recorded rows twins (inl spells) =
    let read = section_read bytes d d.format version recorded d.extents d.pages d.sections 0 0 rows spells refl (refl, refl, refl, refl, refl) in
    omega (arith, read, spells.fits.first_version)
first_whole d bytes version recorded rows twins (inr first) = absurd (let none : true ≡ false = sym twins ∙ ap twins_in first.written_in in cc none)

-- a page to which no write waits mixes nothing
mixes_none : (s : DiskState) (p : ℕ) (bytes : List ℕ) → ((i : ℕ) (w : Write) → slice_get s.volatile i ≡ Some w → w.0 ≡ p → ⊥) → IsMixed s p bytes → bytes ≡ page s.durable p
mixes_none s p bytes none mixed = ext_get_or 0 bytes (page s.durable p) mixed.size (λ i lt. from i (mixed.each i lt))
  where
    from : (i : ℕ) → (slice_index bytes i ≡ slice_index (page s.durable p) i) ⊎ ((k : ℕ) × (w : Write) × (slice_get s.volatile k ≡ Some w) × (w.0 ≡ p) × (slice_index bytes i ≡ slice_index w.1 i)) → slice_index bytes i ≡ slice_index (page s.durable p) i
    from i (inl same) = same
    from i (inr w) = absurd (none w.0 w.1 w.2 w.3)

-- an image that recovers has it so
recovered_whole : (d : Dimensions) (image : Image) (n : ℕ) (m : Map) → IsGeometry d.format d.extents d.pages d.sections → twins_in d.format ≡ true
    → (let S = shape_of d.extents d.pages d.sections (section_size d.extents d.sections) d.format in Recovers S (formats_of S) (page image) n m → 0 < section_version d 0 (page image 0))
recovered_whole d image n m g twins r =
    first_whole d (page image 0) _ _ _ twins (section_spelled d.format d.extents d.pages d.sections g (page image) n m r 0 g.fewest_sections)

-- Each page waits over a half that is whole or a fence, and each pair is written once. So a half of section 0 is what
-- some of the writes leave, or it is whole in no format.
pub half_told : (s : DiskState) (image : Image) (e : Dimensions) (twin : Bool) (fault : List ℕ → Option FormatFault) → twins_in e.format ≡ true
    → AreNoOlder (store_version (Some e)) (store_pairs e) s → AreOverKnown (store_version (Some e)) (store_pairs e) s → AreWrittenOnce (store_pairs e) s → (let p = half (store_pair e 0) twin in IsTold e s image p fault
    → IsLeft s p (page image p) ⊎ (fault (page image p) ≢ None))
half_told s image e twin fault of_twins newer known once tear = ⊎_elim
    (λ (mixed : IsMixed s p (page image p)). ⊎_elim
    (λ (last : IsLast s.volatile p). tear.told (mixes_half last) mixed)
    (λ (none : (i : ℕ) (w : Write) → slice_get s.volatile i ≡ Some w → w.0 ≡ p → ⊥). inl (left_durable s p (page image p) (mixes_none s p (page image p) none mixed)))
    (latest_of s.volatile p))
    (λ (damaged : fault (page image p) ≢ None). inr damaged)
    tear.mixed
  where
    p : ℕ
    p = half (store_pair e 0) twin

    mixes_half : IsLast s.volatile p → MixesTwo (store_version (Some e)) (store_pairs e) s p
    mixes_half last = record {
      one_write = λ i j v w at_i at_j goes also. once 0 i j (store_pair e 0) v w twin twin (first_pair e of_twins) at_i at_j goes also;
      durable = λ k y other at is. subst (λ q. IsWholeOrFence (store_version (Some e)) y.page (page s.durable q)) (sym is) (known k last.place y last.write other at last.at (last.goes ∙ is));
      written = λ i w at_i goes k y other at is. (newer.each k i y w at at_i other (goes ∙ is)).2;
    }

-- So nothing else is said of a store there, and it is found again.
module _ (d : Dimensions) (s : DiskState) (c : Image) (g : IsGeometry d.format d.extents d.pages d.sections) (twins : twins_in d.format ≡ true) (sized : length s.durable ≡ pages_of d) (newer : AreNoOlder (store_version (Some d)) (store_pairs d) s)
    (known : AreOverKnown (store_version (Some d)) (store_pairs d) s) (once : AreWrittenOnce (store_pairs d) s) (tear : MayTearStore d s c) (before : dimensions_on (pages_of d) s.durable ≡ Some d) where
  pub tear_one : IsOfOne (pages_of d) c
  tear_one = left_one d twins s c (subst (λ n. ArePairs (store_pairs d) n) (sym sized) (apart_of d g)) newer (tear_spoils (store_version (Some d)) (store_pairs d) s c newer known once tear.tears) before
      (half_told s c d false page_zero_fault twins newer known once tear.first) (half_told s c d true (superblock_fault of_number.Four) twins newer known once tear.last)

  pub tear_shows : shown_on (pages_of d) c ≡ shown (store_version (Some d)) (store_pairs d) c
  tear_shows = shows_again d s c g twins sized newer (tear_spoils (store_version (Some d)) (store_pairs d) s c newer known once tear.tears) before
      (half_told s c d false page_zero_fault twins newer known once tear.first) (half_told s c d true (superblock_fault of_number.Four) twins newer known once tear.last)

-- pages that are whole, over halves of pairs that are guarded
pub known_of : (V : Versions) (pairs : List Pair) (s : DiskState) → IsGuarded V pairs s → AreWhole V pairs s → AreOverKnown V pairs s
known_of V pairs s guarded whole k i x w twin at at_i goes = guarded k i x w twin twin at at_i goes (whole k i x w twin at at_i goes)

-- A write that waits on a page beside the pairs waits on one of frames, where none waits on a spare page.
in_frames : (d : Dimensions) (p : ℕ) (Same : Type 0) (disk : DiskState) → LiesBelow d disk → Same ⊎ ((((store_shape d).kind p ≡ FramePage) ⊎ IsSpare d p) × HasWaitingWrite disk p)
    → Same ⊎ (((store_shape d).kind p ≡ FramePage) × HasWaitingWrite disk p)
in_frames d p Same disk below (inl same) = inl same
in_frames d p Same disk below (inr (inl frame, waits)) = inr (frame, waits)
in_frames d p Same disk below (inr (inr spare, waits)) =
    let le = below waits.0 waits.1 waits.2 in
    let goes = waits.3 in
    absurd (omega (arith, spare.after_sections, le, goes))

module _ {D : Type 0} (disks : PageDisk D) (v : View D) (core : IsCore disks v) (honest : disks.honest v.disk) (sized : length (disks.state v.disk).durable ≡ disks.page_count v.disk) (twins : twins_in v.store.extents.format ≡ true)
    (s : DiskState) (image : Image) where
  torn_in_pairs : IsGeometry v.store.extents.format (length v.store.extents.written) v.store.extents.pages v.store.extents.sections → disks.state v.disk ≡ shown_state (store_version (Some (dimensions_of v.store.extents))) (store_pairs (dimensions_of v.store.extents)) s
      → length s.durable ≡ pages_of (dimensions_of v.store.extents) → AreNoOlder (store_version (Some (dimensions_of v.store.extents))) (store_pairs (dimensions_of v.store.extents)) s
      → MaySpoil (store_version (Some (dimensions_of v.store.extents))) (store_pairs (dimensions_of v.store.extents)) s image → LiesBelow (dimensions_of v.store.extents) (disks.state v.disk)
      → shown_on (pages_of (dimensions_of v.store.extents)) image ≡ shown (store_version (Some (dimensions_of v.store.extents))) (store_pairs (dimensions_of v.store.extents)) image
      → IsPrefix (shape v.store.extents) (page v.opened) (commands_said v.history) v.store.frontier v.store.accepted (shown_on (pages_of (dimensions_of v.store.extents)) image)
  torn_in_pairs g shows length_is newer spoils below again =
      let e = dimensions_of v.store.extents in
      let V = store_version (Some e) in
      let torn = torn_store_shows e g twins V s image length_is newer spoils in
      let near = subst (λ (z : DiskState). MayLeave z torn.0) (sym shows) torn.1 in
      let from : IsTornFrom (shape v.store.extents) (disks.state v.disk) torn.0 (shown V (store_pairs e) image) = record {
        size = torn.2.size;
        each = λ p lt. in_frames e p (page (shown V (store_pairs e) image) p ≡ page torn.0 p) (disks.state v.disk) below (subst (λ (z : DiskState). (page (shown V (store_pairs e) image) p ≡ page torn.0 p) ⊎ ((((shape v.store.extents).kind p ≡ FramePage) ⊎ IsSpare e p) × HasWaitingWrite z p)) (sym shows) (torn.2.each p lt));
      } in
      subst (λ (c : Image). IsPrefix (shape v.store.extents) (page v.opened) (commands_said v.history) v.store.frontier v.store.accepted c) (sym again)
      (torn_now disks v core g honest sized torn.0 (shown V (store_pairs e) image) near from)

  -- The rules of the disk and its pairs are those of the store that page 0 shows, which is this one. What is left is of
  -- one store, and shows some of the commands.
  pub torn_opened : IsGeometry v.store.extents.format (length v.store.extents.written) v.store.extents.pages v.store.extents.sections → (store : Option Dimensions) (pairs : List Pair) → disks.state v.disk ≡ shown_state (store_version store) pairs s → IsWholeDisk (disks.state v.disk)
      → length s.durable ≡ pages_of (dimensions_of v.store.extents) → AreNoOlder (store_version store) pairs s → IsGuarded (store_version store) pairs s → ∥ IsOfStore store pairs (pages_of (dimensions_of v.store.extents)) s.durable ∥₁
      → MayTearStore (dimensions_of v.store.extents) s image
      → ((c : Image) → MayLeave (disks.state v.disk) c → IsPrefix (shape v.store.extents) (page v.opened) (commands_said v.history) v.store.frontier v.store.accepted c)
      → IfRecovered v (IsOfOne (pages_of (dimensions_of v.store.extents)) image × IsPrefix (shape v.store.extents) (page v.opened) (commands_said v.history) v.store.frontier v.store.accepted (shown_on (pages_of (dimensions_of v.store.extents)) image))
  torn_opened g store pairs shows whole_disk length_is newer guarded fits tear left count start recovers =
      let e = dimensions_of v.store.extents in
      let durable = shown (store_version store) pairs s.durable in
      let durable_left = subst (λ (z : DiskState). MayLeave z durable) (sym shows) (durable_MayLeave (shown_state (store_version store) pairs s)) in
      let bytes = left_pages (disks.state v.disk) durable (length durable) whole_disk durable_left (le_of_eq (ap (λ (z : DiskState). length z.durable) (sym shows))) in
      let now = left durable durable_left count start recovers in
      let says = version_says e (page durable 0) twins (recovered_whole e durable _ _ g twins (now.4 bytes).1) in
      let is_its : IsProp (store ≡ Some e) = hlevel props in
      let are_its : IsProp (pairs ≡ pairs_where store) = hlevel props in
      let is_found : IsProp (dimensions_on (pages_of e) s.durable ≡ Some e) = hlevel props in
      let its : store ≡ Some e = ∥∥₁_elim fits is_its (λ of. (of.found e says).0) in
      let lie : pairs ≡ store_pairs e = ∥∥₁_elim fits are_its (λ of. of.its) ∙ ap pairs_where its in
      let found : dimensions_on (pages_of e) s.durable ≡ Some e = ∥∥₁_elim fits is_found (λ of. (of.found e says).1) in
      let V = store_version (Some e) in
      let here : disks.state v.disk ≡ shown_state V (store_pairs e) s = shows ∙ ap (λ (o : Option Dimensions). shown_state (store_version o) pairs s) its ∙ ap (λ (l : List Pair). shown_state V l s) lie in
      let older = subst (λ (l : List Pair). AreNoOlder V l s) lie (subst (λ (o : Option Dimensions). AreNoOlder (store_version o) pairs s) its newer) in
      let guards = subst (λ (l : List Pair). IsGuarded V l s) lie (subst (λ (o : Option Dimensions). IsGuarded (store_version o) pairs s) its guarded) in
      let is = core.legal honest in
      let issued = sym (ap (λ (z : DiskState). z.volatile) here) ∙ is.1.disk.volatile in
      let whole = core_whole e g twins is.0 is.1.store.sound V s issued in
      let known = known_of V (store_pairs e) s guards whole in
      let once = core_once e g twins is.0 is.1.store.sound V s issued in (
        tear_one e s image g twins length_is older known once tear found,
        torn_in_pairs g here length_is older (tear_spoils V (store_pairs e) s image older known once tear.tears) (core_below e g twins is.0 is.1.store.sound (disks.state v.disk) is.1.disk.volatile)
            (tear_shows e s image g twins length_is older known once tear found),
      )
