-- What a crash leaves of a disk is recovered.
use Rattle.std.proofs.Common.{◌≡◌, inl, inr, ⊎_elim, ℕ, zero, suc, ◌+◌, ◌<◌, ◌≤◌, Bool, true, false, nat_le, nat_lt, if◌then◌else◌, List, [], ◌∷◌, ◌++◌, length, Some, None, le-leb, lt-ltb, le_trans, length-append, refl, sym, ap, ◌∙◌, subst, arith}
use Rattle.std.proofs.lemmas.Bool.{cases_lt}
use Rattle.std.proofs.lemmas.Bool.Decides.{nat_tests}
use Rattle.std.specs.Prelude.{slice_get}
use Rattle.cs_disk.proofs.Images.{length-applied}
use Rattle.cs_disk.specs.Disk.{Image, MayLeave, State as DiskState, Write, kept, page}
use Rattle.cs_extent.specs.State.{IsWhole, State as ExtentsState, shape}
use Rattle.cs_frame.proofs.GeometryLaws.{lies_in_device}
use Rattle.cs_frame.specs.Formats.{formats_of}
use Rattle.cs_reader.specs.ImageReads.{ArePages, page_total}
use Rattle.law_machine.proofs.Crash.{leaves_torn}
use Rattle.law_machine.proofs.LocalRecovery.{recovers_alike, recovers_alike_but}
use Rattle.law_machine.proofs.Unique.{one_recovery}
use Rattle.law_machine.specs.Device.{FramePage, IsShape, Page, RootPage, SectionPage, Shape}
use Rattle.law_machine.specs.Disk.{page_write, page_writes}
use Rattle.law_machine.specs.Element.{A_root, A_superblock, A_write, Element, Map}
use Rattle.law_machine.specs.Events.{IsFrontier}
use Rattle.law_machine.specs.Formats.{Formats}
use Rattle.law_machine.specs.Index.{NoneDamaged}
use Rattle.law_machine.specs.Lists.{◌∈◌}
use Rattle.law_machine.specs.Local.{AgreeBelow, LiesBelow}
use Rattle.law_machine.specs.Recovery.{Recovers}
use Rattle.law_machine.specs.Sound.{GivesFirst, Sound, crashed}
use Rattle.law_machine.specs.State.{Command, State, map_after}
use Rattle.law_machine.specs.Torn.{IsBeingWritten, TornFrom}
use Rattle.law_refinement.specs.Crashes.{GivesUndamaged, HasWaitingWrite, IsPrefix, IsTornFrom, LeavesPrefixOn}
use Rattle.law_refinement.specs.Devices.{IsDiskOf}
use Rattle.law_refinement.proofs.Disks.{crash}
use Rattle.law_refinement.proofs.Shapes.{store_format, store_shape}
use Rattle.law_refinement.proofs.UndamagedShards.{own_recovers}

pub same_size : (disk : DiskState) (left : Image) → MayLeave disk left → length left ≡ length disk.durable
same_size disk left may = ap length may.2 ∙ length-applied disk.durable (kept may.0 disk.volatile)

-- the pages of a store are the first of its device
pub store_below : (x : ExtentsState) → IsWhole x → LiesBelow (shape x) (page_total (shape x))
store_below x whole = lies_in_device x.format (length x.written) x.pages x.sections whole.geometry

-- a page of frames to which a write isn't flushed is one that is being written in the machine
element_of : (S : Shape) (F : Formats) (ms : List Element) (i : ℕ) (w : Write) → slice_get (page_writes S F ms) i ≡ Some w
    → (m : Element) × (m ∈ ms) × (page_write S F m ≡ w)
element_of S F [] i w is = absurd (let e : None ≡ Some w = is in cc)
element_of S F (m ∷ ms) zero w is = (m, inl refl, (let e : Some (page_write S F m) ≡ Some w = is in cc))
element_of S F (m ∷ ms) (suc i) w is = let rest = element_of S F ms i w is in (rest.0, inr rest.1, rest.2)

pub being_written : (S : Shape) (F : Formats) (s : State) (disk : DiskState) → IsShape S → Sound S F s → IsDiskOf S F s disk
    → (p : ℕ) → S.kind p ≡ FramePage → HasWaitingWrite disk p → IsBeingWritten s p
being_written S F s disk store sound is p frame waits =
    let found = element_of S F s.issued waits.0 waits.1 (ap (λ (ws : List Write). slice_get ws waits.0) (sym is.volatile) ∙ waits.2) in
    go found.0 found.1 (ap (λ (w : Write). w.0) found.2 ∙ waits.3)
  where
    go : (m : Element) → m ∈ s.issued → (page_write S F m).0 ≡ p → IsBeingWritten s p
    go (A_write y) has at = (y, has, at)
    go (A_superblock u) has at = absurd (let e : SectionPage u.section ≡ FramePage =
        sym (store.section_kind u.section (sound.safe.sections_there u (sound.issued (A_superblock u) has).0)) ∙ ap S.kind at ∙ frame in cc)
    go (A_root r) has at = absurd (let e : RootPage ≡ FramePage = sym store.root_kind ∙ ap S.kind at ∙ frame in cc)

pub untorn : (S : Shape) (disk : DiskState) (left : Image) → IsTornFrom S disk left left
untorn S disk left = record { size = refl; each = λ p inside. inl refl }

module _ (x : ExtentsState) (s : State) (disk : DiskState) (left image : Image) (whole : IsWhole x)
    (sound : Sound (shape x) (formats_of (shape x)) s) (is : IsDiskOf (shape x) (formats_of (shape x)) s disk)
    (sized : length disk.durable ≡ page_total (shape x)) (may : MayLeave disk left)
    (torn : IsTornFrom (shape x) disk left image) where
  below : LiesBelow (shape x) (length image)
  below = subst (λ (n : ℕ). LiesBelow (shape x) n) (sym (torn.size ∙ same_size disk left may ∙ sized)) (store_below x whole)

  -- the image, and behind it what the machine has there
  all_pages : (mask : List Bool) → ℕ → Page
  all_pages mask p = if nat_lt p (length image) then page image p else crashed (shape x) (formats_of (shape x)) s mask p

  alike : (mask : List Bool) → AgreeBelow (length image) (all_pages mask) (page image)
  unfolding all_pages
  alike mask p inside = let test : nat_lt p (length image) ≡ true = lt-ltb p (length image) inside in rw test refl

  is_torn : (mask : List Bool) → ((p : ℕ) → p < length left → page left p ≡ crashed (shape x) (formats_of (shape x)) s mask p)
      → TornFrom (shape x) (formats_of (shape x)) s mask (all_pages mask)
  unfolding all_pages
  is_torn mask agree p = elim (cases_lt p (length image)) [
    | inl inside ↦
        let test : nat_lt p (length image) ≡ true = lt-ltb p (length image) inside in
        let there : p < length left = subst (λ (n : ℕ). p < n) torn.size inside in
        rw test (⊎_elim (λ (same : page image p ≡ page left p). inr (same ∙ agree p there))
        (λ written. inl (being_written (shape x) (formats_of (shape x)) s disk (store_shape x whole) sound is p written.0 written.1))
        (torn.each p there))
    | inr past ↦ let test : nat_lt p (length image) ≡ false = grind (arith, nat_tests) in rw test (inr refl)
  ]

  by_mask : (mask : List Bool) → ((p : ℕ) → p < length left → page left p ≡ crashed (shape x) (formats_of (shape x)) s mask p)
      → LeavesPrefixOn (shape x) (formats_of (shape x)) s image
  by_mask mask agree =
      let some = leaves_torn (shape x) (formats_of (shape x)) (store_shape x whole) (store_format x whole) s sound mask in
      let p : GivesFirst (shape x) (formats_of (shape x)) s (all_pages mask) some.0 = some.1 (all_pages mask) (is_torn mask agree) in (
        some.0,
        (
          p.0,
          p.1,
          recovers_alike_but (shape x) (formats_of (shape x)) (length image) (all_pages mask) (page image) below (alike mask)
              (λ p g. s.opening) (λ p g. s.opening) (s.count + some.0) (map_after s.start s.commands some.0) (λ q g fits l pass. refl) (λ q g e i k fz. fz) (λ q g l. refl) p.2,
          λ undamaged. recovers_alike (shape x) (formats_of (shape x)) (length image) (all_pages mask) (page image) below (alike mask)
              (s.count + some.0) (map_after s.start s.commands some.0) (p.3 undamaged),
        ),
      )

  pub torn_leaves : LeavesPrefixOn (shape x) (formats_of (shape x)) s image
  torn_leaves = let c = crash (shape x) (formats_of (shape x)) s disk is left may in by_mask c.0 c.1

  -- the image has all pages of the store, which are of bytes where those of the image are
  store_pages : ArePages (length image) (page image) → ArePages (page_total (shape x)) (page image)
  store_pages are p lt = are p (subst (λ (n : ℕ). p < n) (sym (torn.size ∙ same_size disk left may ∙ sized)) lt)

  pub torn_leaves_from : (f : ℕ) → Recovers (shape x) (formats_of (shape x)) s.opened s.count s.start → IsFrontier (shape x) (formats_of (shape x)) s f
      → IsPrefix (shape x) s.opened s.commands f (length s.commands) image
  torn_leaves_from f gives front count start again =
      let same = one_recovery (shape x) (formats_of (shape x)) (store_shape x whole) (store_format x whole) s.opened s.count count s.start start gives again in
      go count start same.0 (λ i id. same.1 id i)
    where
      go : (count : ℕ) (start : Map) → s.count ≡ count → s.start ≡ start
          → (n : ℕ) × (f ≤ n) × (n ≤ length s.commands)
          × (NoneDamaged start → Recovers (shape x) (formats_of (shape x)) (page image) (count + n) (map_after start s.commands n))
          × (ArePages (length image) (page image) → GivesUndamaged (shape x) image (count + n) (map_after start s.commands n))
      go count start counts starts = let l = torn_leaves in (
        l.0,
        l.1.1 f front,
        l.1.0,
        λ undamaged. subst (λ (k : ℕ). Recovers (shape x) (formats_of (shape x)) (page image) (k + l.0) (map_after start s.commands l.0)) counts
            (subst (λ (m : Map). Recovers (shape x) (formats_of (shape x)) (page image) (s.count + l.0) (map_after m s.commands l.0)) starts
            (l.1.3 (subst (λ (m : Map). NoneDamaged m) (sym starts) undamaged))),
        λ are. subst (λ (k : ℕ). GivesUndamaged (shape x) image (k + l.0) (map_after start s.commands l.0)) counts
            (subst (λ (m : Map). GivesUndamaged (shape x) image (s.count + l.0) (map_after m s.commands l.0)) starts
            (own_recovers x (page image) (store_below x whole) (store_pages are) s.opening (s.count + l.0) (map_after s.start s.commands l.0)
            (λ on. (sound.filled on).thawed) l.1.2)),
      )

-- where no page is torn
pub leaves : (x : ExtentsState) (s : State) (disk : DiskState) (left : Image) → IsWhole x → Sound (shape x) (formats_of (shape x)) s
    → IsDiskOf (shape x) (formats_of (shape x)) s disk → length disk.durable ≡ page_total (shape x) → MayLeave disk left
    → LeavesPrefixOn (shape x) (formats_of (shape x)) s left
leaves x s disk left whole sound is sized may = torn_leaves x s disk left left whole sound is sized may (untorn (shape x) disk left)

pub leaves_from : (x : ExtentsState) (s : State) (disk : DiskState) (left : Image) → IsWhole x → Sound (shape x) (formats_of (shape x)) s
    → IsDiskOf (shape x) (formats_of (shape x)) s disk → length disk.durable ≡ page_total (shape x) → MayLeave disk left
    → (f : ℕ) → Recovers (shape x) (formats_of (shape x)) s.opened s.count s.start → IsFrontier (shape x) (formats_of (shape x)) s f
    → IsPrefix (shape x) s.opened s.commands f (length s.commands) left
leaves_from x s disk left whole sound is sized may f gives front =
    torn_leaves_from x s disk left left whole sound is sized may (untorn (shape x) disk left) f gives front

-- the first commands are the first of more
first_of_more : (start : Map) (more commands : List Command) (n : ℕ) → n ≤ length commands
    → map_after start (more ++ commands) n ≡ map_after start commands n
first_of_more start [] commands n few = refl
first_of_more start (c ∷ more) commands n few =
    let there : nat_le n (length (more ++ commands)) ≡ true = le-leb _ _ (omega (arith, length-append more commands, few)) in
    rw there (first_of_more start more commands n few)

pub prefix_wider : (S : Shape) (opened : ℕ → Page) (commands : List Command) (least most low high : ℕ) (left : Image)
    → low ≤ least → most ≤ high → IsPrefix S opened commands least most left → IsPrefix S opened commands low high left
prefix_wider S opened commands least most low high left under over is count start gives =
    let p = is count start gives in (p.0, le_trans under p.1, le_trans p.2 over, p.3, p.4)

pub prefix_later : (S : Shape) (opened : ℕ → Page) (more commands : List Command) (least most : ℕ) (left : Image)
    → most ≤ length commands → IsPrefix S opened commands least most left → IsPrefix S opened (more ++ commands) least most left
prefix_later S opened more commands least most left few is count start gives =
    let p = is count start gives in
    let same : map_after start commands p.0 ≡ map_after start (more ++ commands) p.0 = sym (first_of_more start more commands p.0 (le_trans p.2 few)) in (
      p.0,
      p.1,
      p.2,
      λ undamaged. subst (λ (m : Map). Recovers S (formats_of S) (page left) (count + p.0) m) same (p.3 undamaged),
      λ are. subst (λ (m : Map). GivesUndamaged S left (count + p.0) m) same (p.4 are),
    )
