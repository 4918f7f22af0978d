-- A store that is closed with its newest root on record.
use Rattle.std.proofs.Common.{◌≡◌, ◌≢◌, ◌⊎◌, inl, inr, ⊎_elim, ℕ, ◌<◌, Bool, true, false, List, [], ◌∷◌, Option, Some, None, length, map, if◌then◌else◌, refl, sym, ap, ◌∙◌, subst, arith, true≢false}
use denote.Struct.Props.{props}
use Rattle.std.proofs.Math.Logic.{∥∥₁_elim}
use Rattle.std.specs.Prelude.{◌↔◌, IsTrue, MatchBool, is_some, not, slice_set}
use Rattle.cs_core.specs.cs_extent.State.{shape}
use Rattle.cs_core.specs.Stored.{Stored}
use Rattle.cs_core.specs.Views.{IsCore, View}
use Rattle.cs_disk.specs.declared.disk.PageDisk.{Ghosts as PageDisk}
use Rattle.cs_disk.specs.Disk.{Image, LeavesOnly, MayLeave, State, Write, page, seen, written}
use Rattle.cs_disk.proofs.Crashes.{MayLeave-settled, MayLeave-written}
use Rattle.cs_disk.proofs.Images.{applied-append, page_other, page_same}
use Rattle.cs_frame.specs.Formats.{formats_of}
use Rattle.cs_frame.specs.Geometries.{Dimensions, IsGeometry, section_size}
use Rattle.law_machine.specs.Device.{Shape}
use Rattle.law_machine.specs.Disk.{page_writes}
use Rattle.law_machine.specs.Element.{Map}
use Rattle.law_machine.specs.Format.{Format}
use Rattle.law_machine.specs.Geometry.{shape_of, twins_in}
use Rattle.law_machine.specs.Recovery.{Recovers}
use Rattle.cs_twin.specs.declared.pairs.Pair.{Pair}
use Rattle.cs_twin.specs.Pairs.{shown, shown_state, shown_write}
use Rattle.cs_reader.specs.Openings.{IsOpeningRefusal}
use Rattle.cs_refusal.specs.declared.refusals.Refusal.{Refusal}
use Rattle.cs_refusal.specs.declared.refusals.Refusal.TheVariants.{DeviceFault, NotAStore, NotSweepable, OutOfMemory, Unsettled, WornOut}
use Rattle.cs_refusal.specs.Refusals.{number_of}
use Rattle.cs_mount.specs.OfStores.{IsOfStore}
use Rattle.cs_mount.specs.Seals.{IsQuiet, IsResealed, IsSealing, LeavesSealing, is_sealed, seal_of, sealed_image}
use Rattle.cs_mount.specs.Showing.{shown_on}
use Rattle.cs_mount.specs.Torn.{dimensions_of}
use Rattle.cs_mount.specs.StorePairs.{dimensions_on, first_says, pages_of, pairs_where, section_version, store_version}
use Rattle.cs_mount.proofs.SealedImages.{first_there, sealed_recovers, spells_own}
use Rattle.cs_mount.proofs.Spelling.{section_read}
use Rattle.cs_mount.proofs.Telling.{version_says}

none_waits : {A : Type 0} (xs : List A) → (xs ≢ [] → ⊥) → xs ≡ []
none_waits [] none = refl
none_waits (x ∷ xs) none = absurd (none (λ e. cc e))

-- what is tested of a store before it is closed
pub quiet_or_not : (s : Stored) (waits : Bool) → s.out ≡ None → IsTrue waits ↔ (s.graph.staging.pending.waiting ≢ []) → MatchBool (not waits) (IsQuiet s) (¬ IsQuiet s)
quiet_or_not s true out tells = λ quiet. tells.0 refl quiet.none_waits
quiet_or_not s false out tells = record { none_waits = none_waits s.graph.staging.pending.waiting (λ some. true≢false (sym (tells.1 some))); none_out = out }

-- a disk on which nothing waits is its image
settled : (s : State) → s.volatile ≡ [] → seen s ≡ s.durable
settled s none = ap (λ (l : List Write). seen (record { durable = s.durable; volatile = l })) none

-- after a write
pub seen-written : (s : State) (p : ℕ) (bytes : List ℕ) → seen (written s p bytes) ≡ slice_set (seen s) p bytes
seen-written s p bytes = applied-append s.durable s.volatile ((p, bytes) ∷ [])

module _ {D : Type 0} (disks : PageDisk D) (v : View D) (core : IsCore disks v) (honest : disks.honest v.disk) where
  -- while no round is out nothing is written that isn't flushed
  pub nothing_written : v.store.out ≡ None → (disks.state v.disk).volatile ≡ []
  nothing_written none =
      let is = core.legal honest in
      let idle = is.1.store.sound.idle (is.1.store.round_out ∙ ap is_some none) in
      is.1.disk.volatile ∙ ap (page_writes (shape v.store.extents) (formats_of (shape v.store.extents))) idle.1

-- ---- what a disk shows after it

not_sealed : (image : Image) → is_sealed image ≡ false → sealed_image image ≡ slice_set image 0 (seal_of image)
not_sealed image off = ap (λ (b : Bool). if b then image else slice_set image 0 (seal_of image)) off

is_itself : (image : Image) → is_sealed image ≡ true → sealed_image image ≡ image
is_itself image on = ap (λ (b : Bool). if b then image else slice_set image 0 (seal_of image)) on

-- the image with section 0 written anew
sealing_image : (s t : State) → IsSealing s t → seen t ≡ sealed_image (seen s)
sealing_image s t is = ap seen is.write ∙ seen-written s 0 (seal_of (seen s)) ∙ sym (not_sealed (seen s) is.not_yet)

pub resealed_image : (s t : State) → IsResealed s t → seen t ≡ sealed_image (seen s)
resealed_image s t (inl same) = ap seen same.1 ∙ sym (is_itself (seen s) same.0)
resealed_image s t (inr anew) = ap seen anew.2 ∙ sealing_image s anew.0 anew.1

-- and nothing waits then
pub resealed_state : (s t : State) → s.volatile ≡ [] → IsResealed s t → t ≡ record { durable = sealed_image (seen s); volatile = [] }
resealed_state s t none (inl same) =
    same.1 ∙ ap (λ (l : List Write). record { durable = s.durable; volatile = l }) none
    ∙ ap (λ (i : Image). record { durable = i; volatile = [] }) (sym (settled s none) ∙ sym (is_itself (seen s) same.0))
resealed_state s t none (inr anew) = anew.2 ∙ ap (λ (i : Image). record { durable = i; volatile = [] }) (sealing_image s anew.0 anew.1)

-- a crash meanwhile
pub sealing_left : (s : State) (c : Image) → s.volatile ≡ [] → LeavesSealing s c → MayLeave s c ⊎ (c ≡ sealed_image (seen s))
sealing_left s c none (inl left) = inl left
sealing_left s c none (inr sealed) =
    let is = sealed.1 in
    let from = MayLeave-written s 0 (seal_of (seen s)) c (subst (λ (z : State). MayLeave z c) is.write sealed.2) in
    let before : from.0 ≡ seen s = MayLeave-settled s from.0 none from.1 ∙ sym (settled s none) in
    ⊎_elim (λ (same : c ≡ from.0). inl (subst (MayLeave s) (sym same) from.1))
    (λ (set : c ≡ slice_set from.0 0 (seal_of (seen s))). inr (set ∙ ap (λ (i : Image). slice_set i 0 (seal_of (seen s))) before ∙ sym (not_sealed (seen s) is.not_yet)))
    from.2

pub leaves_wider : {D : Type 0} (moment : D → ℕ) (left_since : D → ℕ → Image → Type 0) (old new : D) (P Q : Image → Type 0) → ((c : Image) → P c → Q c) → LeavesOnly moment left_since old new P → LeavesOnly moment left_since old new Q
leaves_wider moment left_since old new P Q wider is = record {
  later = is.later;
  each = λ c left. wider c (is.each c left);
  before = λ t c le left. ⊎_elim (λ was. inl was) (λ now. inr (wider c now)) (is.before t c le left);
}

-- nothing was called
pub still_leaves : {D : Type 0} (moment : D → ℕ) (left_since : D → ℕ → Image → Type 0) (old : D) (P : Image → Type 0) → ((c : Image) → left_since old (moment old) c → P c) → LeavesOnly moment left_since old old P
still_leaves moment left_since old P here = record {
  later = omega arith;
  each = λ c left. here c left;
  before = λ t c le left. inl left;
}

-- ---- what it recovers

module _ (format : Format) (extents pages sections : ℕ) (g : IsGeometry format extents pages sections) (twins : twins_in format ≡ true) (s : State) (n : ℕ) (m : Map)
    (r : Recovers (shape_of extents pages sections (section_size extents sections) format) (formats_of (shape_of extents pages sections (section_size extents sections) format)) (page (seen s)) n m) where
  abbrev S : Shape
  S = shape_of extents pages sections (section_size extents sections) format

  abbrev Recovered : Image → Type 0
  Recovered image = Recovers S (formats_of S) (page image) n m

  pub sealing_recovers : (t : State) → IsSealing s t → Recovered (seen t)
  sealing_recovers t is = subst Recovered (sym (ap seen is.write ∙ seen-written s 0 (seal_of (seen s))))
      (sealed_recovers format extents pages sections g twins (seen s) n m r (slice_set (seen s) 0 (seal_of (seen s))) is.unworn
      (page_same (seen s) 0 (seal_of (seen s)) (first_there format extents pages sections g twins (seen s) n m r)) (λ p ne. page_other (seen s) 0 p (seal_of (seen s)) ne))

  pub resealed_recovers : (t : State) → IsResealed s t → Recovered (seen t)
  resealed_recovers t (inl same) = subst Recovered (sym (ap seen same.1)) r
  resealed_recovers t (inr anew) = subst Recovered (sym (ap seen anew.2)) (sealing_recovers anew.0 anew.1)

  pub refused_recovers : (t : State) → (t ≡ s) ⊎ IsSealing s t → Recovered (seen t)
  refused_recovers t (inl same) = subst Recovered (sym (ap seen same)) r
  refused_recovers t (inr is) = sealing_recovers t is

-- ---- what an opening shows

no_writes : (f : Write → Write) (l : List Write) → map f l ≡ [] → l ≡ []
no_writes f [] is = refl
no_writes f (w ∷ l) is = absurd (let clash : f w ∷ map f l ≡ [] = is in cc clash)

-- Page 0 as it shows is section 0 of this store. So the pairs are its pairs, and an opening finds them.
pub shows_so : (d : Dimensions) (store : Option Dimensions) (pairs : List Pair) (count : ℕ) (s : State) (image : Image) → twins_in d.format ≡ true → count ≡ pages_of d → ∥ IsOfStore store pairs count s.durable ∥₁
    → shown_state (store_version store) pairs s ≡ record { durable = image; volatile = [] } → 0 < section_version d 0 (page image 0) → shown_on count (seen s) ≡ image
shows_so d store pairs count s image twins sized fits shows whole =
    let none : s.volatile ≡ [] = no_writes (shown_write (store_version store) pairs) s.volatile (ap (λ (z : State). z.volatile) shows) in
    let durable : shown (store_version store) pairs s.durable ≡ image = ap (λ (z : State). z.durable) shows in
    let says : first_says count (page (shown (store_version store) pairs s.durable) 0) ≡ Some d =
    ap (λ (k : ℕ). first_says k (page (shown (store_version store) pairs s.durable) 0)) sized ∙ ap (λ (i : Image). first_says (pages_of d) (page i 0)) durable ∙ version_says d (page image 0) twins whole in
    let is_its : IsProp (store ≡ Some d) = hlevel props in
    let are_its : IsProp (pairs ≡ pairs_where store) = hlevel props in
    let is_found : IsProp (dimensions_on count s.durable ≡ Some d) = hlevel props in
    let its : store ≡ Some d = ∥∥₁_elim fits is_its (λ of. (of.found d says).0) in
    let lie : pairs ≡ pairs_where store = ∥∥₁_elim fits are_its (λ of. of.its) in
    let found : dimensions_on count s.durable ≡ Some d = ∥∥₁_elim fits is_found (λ of. (of.found d says).1) in
    ap (shown_on count) (settled s none)
    ∙ ap (λ (o : Option Dimensions). shown (store_version o) (pairs_where o) s.durable) (found ∙ sym its)
    ∙ ap (λ (l : List Pair). shown (store_version store) l s.durable) (sym lie) ∙ durable

-- what recovers shows section 0 whole
pub first_whole : (d : Dimensions) (image : Image) (n : ℕ) (m : Map) → IsGeometry d.format d.extents d.pages d.sections → twins_in d.format ≡ true
    → (let S = shape_of d.extents d.pages d.sections (section_size d.extents d.sections) d.format in Recovers S (formats_of S) (page image) n m) → 0 < section_version d 0 (page image 0)
first_whole d image n m g twins r =
    let spells = spells_own d.format d.extents d.pages d.sections g twins image n m r 0 g.fewest_sections in
    let read = section_read (page image 0) d d.format (r.versions 0) (r.recorded 0) d.extents d.pages d.sections 0 0 _ spells refl (refl, refl, refl, refl, refl) in
    let some = spells.fits.first_version in
    omega (arith, read, some)

-- ---- in the words of a core, whose disk q was taken from it

module _ {X : Type 0} (disks : PageDisk X) (v : View X) (core : IsCore disks v) (q : X) (at : q ≡ v.disk) (honest : disks.honest v.disk) where
  abbrev s : State
  s = disks.state v.disk

  pub honest_there : disks.honest q
  honest_there = subst disks.honest (sym at) honest

  -- nothing was called
  pub still_left : ((c : Image) → disks.left_since v.disk (disks.moment v.disk) c → MayLeave s c) → LeavesOnly disks.moment disks.left_since v.disk q (λ image. MayLeave s image ⊎ (image ≡ sealed_image (seen s)))
  still_left only = subst (λ (z : X). LeavesOnly disks.moment disks.left_since v.disk z (λ image. MayLeave s image ⊎ (image ≡ sealed_image (seen s)))) (sym at)
      (still_leaves disks.moment disks.left_since v.disk (λ image. MayLeave s image ⊎ (image ≡ sealed_image (seen s))) (λ c left. inl (only c left)))

  module _ (new : X) where
    pub seal_done : IsResealed (disks.state q) (disks.state new) → IsResealed s (disks.state new)
    seal_done is = subst (λ (z : X). IsResealed (disks.state z) (disks.state new)) at is

    pub seal_state : v.store.out ≡ None → IsResealed (disks.state q) (disks.state new) → disks.state new ≡ record { durable = sealed_image (seen s); volatile = [] }
    seal_state none is = resealed_state s (disks.state new) (nothing_written disks v core honest none) (seal_done is)

    pub seal_refused : (disks.state new ≡ disks.state q) ⊎ IsSealing (disks.state q) (disks.state new) → (disks.state new ≡ s) ⊎ IsSealing s (disks.state new)
    seal_refused is = subst (λ (z : X). (disks.state new ≡ disks.state z) ⊎ IsSealing (disks.state z) (disks.state new)) at is

    pub seal_left : v.store.out ≡ None → LeavesOnly disks.moment disks.left_since q new (LeavesSealing (disks.state q)) → LeavesOnly disks.moment disks.left_since v.disk new (λ image. MayLeave s image ⊎ (image ≡ sealed_image (seen s)))
    seal_left none is = leaves_wider disks.moment disks.left_since v.disk new (LeavesSealing s) (λ image. MayLeave s image ⊎ (image ≡ sealed_image (seen s)))
        (λ c left. sealing_left s c (nothing_written disks v core honest none) left) (subst (λ (z : X). LeavesOnly disks.moment disks.left_since z new (LeavesSealing (disks.state z))) at is)

    module _ (g : IsGeometry v.store.extents.format (length v.store.extents.written) v.store.extents.pages v.store.extents.sections) (twins : twins_in v.store.extents.format ≡ true) (n : ℕ) (m : Map)
        (r : Recovers (shape v.store.extents) (formats_of (shape v.store.extents)) (page (seen s)) n m) where
      pub done_recovers : IsResealed (disks.state q) (disks.state new) → Recovers (shape v.store.extents) (formats_of (shape v.store.extents)) (page (seen (disks.state new))) n m
      done_recovers is = resealed_recovers v.store.extents.format (length v.store.extents.written) v.store.extents.pages v.store.extents.sections g twins s n m r (disks.state new) (seal_done is)

      pub not_done_recovers : (disks.state new ≡ disks.state q) ⊎ IsSealing (disks.state q) (disks.state new) → Recovers (shape v.store.extents) (formats_of (shape v.store.extents)) (page (seen (disks.state new))) n m
      not_done_recovers is = refused_recovers v.store.extents.format (length v.store.extents.written) v.store.extents.pages v.store.extents.sections g twins s n m r (disks.state new) (seal_refused is)

      -- and what shows is what an opening shows, by rules and pairs of the disk
      pub done_again : v.store.out ≡ None → IsResealed (disks.state q) (disks.state new) → (store : Option Dimensions) (pairs : List Pair) (below : State) (count : ℕ) → count ≡ disks.page_count v.disk → ∥ IsOfStore store pairs count below.durable ∥₁
          → disks.state new ≡ shown_state (store_version store) pairs below → shown_on (disks.page_count v.disk) (seen below) ≡ sealed_image (seen s)
      done_again none is store pairs below count sized fits shows =
          let d : Dimensions = dimensions_of v.store.extents in
          let image = sealed_image (seen s) in
          let whole = subst (λ (i : Image). Recovers (shape v.store.extents) (formats_of (shape v.store.extents)) (page i) n m) (resealed_image s (disks.state new) (seal_done is)) (done_recovers is) in
          shows_so d store pairs (disks.page_count v.disk) below image twins core.device (subst (λ (k : ℕ). ∥ IsOfStore store pairs k below.durable ∥₁) sized fits)
          (sym shows ∙ seal_state none is) (first_whole d image n m g twins whole)

-- 44 is no refusal of reads and writes
pub not_unsettled : (r : Refusal) → IsOpeningRefusal r ⊎ (r ≡ WornOut) → r ≡ Unsettled → ⊥
not_unsettled r (inl (inl (inl e))) is = let clash : DeviceFault ≡ Unsettled = sym e ∙ is in cc clash
not_unsettled r (inl (inl (inr e))) is = let clash : OutOfMemory ≡ Unsettled = sym e ∙ is in cc clash
not_unsettled r (inl (inr (inl range))) is = let n : number_of r ≡ 44 = ap number_of is in let high = range.1 in omega (arith, high, n)
not_unsettled r (inl (inr (inr e))) is = let clash : NotAStore ≡ Unsettled = sym e ∙ is in cc clash
not_unsettled r (inr e) is = let clash : WornOut ≡ Unsettled = sym e ∙ is in cc clash

pub not_unswept : (r : Refusal) → IsOpeningRefusal r ⊎ (r ≡ WornOut) → r ≡ NotSweepable → ⊥
not_unswept r (inl (inl (inl e))) is = let clash : DeviceFault ≡ NotSweepable = sym e ∙ is in cc clash
not_unswept r (inl (inl (inr e))) is = let clash : OutOfMemory ≡ NotSweepable = sym e ∙ is in cc clash
not_unswept r (inl (inr (inl range))) is = let n : number_of r ≡ 33 = ap number_of is in let high = range.1 in omega (arith, high, n)
not_unswept r (inl (inr (inr e))) is = let clash : NotAStore ≡ NotSweepable = sym e ∙ is in cc clash
not_unswept r (inr e) is = let clash : WornOut ≡ NotSweepable = sym e ∙ is in cc clash

-- what is so just when something is, and that just when a third thing is
pub just_when : (a b c : Type 0) → (a ↔ b) → (b ↔ c) → a ↔ c
just_when a b c first second = ((λ h. second.0 (first.0 h)), (λ h. first.1 (second.1 h)))
