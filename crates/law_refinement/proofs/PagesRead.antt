-- What each page of a store reads as.
use Rattle.std.proofs.Common.{◌≡◌, ◌≢◌, ◌⊎◌, inl, inr, ⊎_elim, ℕ, ◌+◌, ◌*◌, ◌<◌, ◌≤◌, true, false, ◌&&◌, ◌==◌, List, [], ◌∷◌, Some, length, eq-eqb, eqb-true, ne_eqb, true≢false, refl, sym, ap, ◌∙◌, subst, arith}
use Rattle.std.proofs.lemmas.Bool.{cases_Bool, cases_eq, cases_lt}
use Rattle.std.proofs.lemmas.Option.{same_Some}
use Rattle.cs_reclaim.specs.cs_chunk.Newest.{AreNewest, IsReadAs}
use Rattle.cs_deps.specs.declared.elements.Element.TheVariants.{Plain, Version}
use Rattle.cs_deps.specs.Pending.{Waits}
use Rattle.cs_deps.specs.State.{IsNewestOn, IsWhole as IsWholeGraph, NoneOn, State as GraphState, Write as PageWrite, write_of}
use Rattle.cs_disk.specs.Disk.{Image, page}
use Rattle.cs_extent.specs.Frames.{family_of}
use Rattle.cs_extent.specs.State.{IsWhole, State as ExtentsState, shape}
use Rattle.cs_frame.proofs.GeometryLaws.{model_geometry, pages_on_device}
use Rattle.cs_frame.specs.Formats.{formats_of}
use Rattle.cs_frame.specs.Geometries.{section_size}
use Rattle.cs_reader.specs.ImageReads.{page_total}
use Rattle.law_machine.proofs.Carries.{and_left, and_true, found}
use Rattle.law_machine.proofs.Frozen.{page_unwritten}
use Rattle.law_machine.proofs.Rounds.{before_it}
use Rattle.law_machine.proofs.Shapes.{at_behind}
use Rattle.law_machine.proofs.Waiting.{listed, write_in}
use Rattle.law_machine.specs.Cut.{Cut, page_in}
use Rattle.law_machine.specs.Device.{FramePage, Page, PageKind, RootPage, SectionPage}
use Rattle.law_machine.specs.Disk.{applied, page_write, page_writes, written}
use Rattle.law_machine.specs.Element.{A_root, A_superblock, A_write, Element, Write, WriteBefore, log_of, writes_of}
use Rattle.law_machine.specs.Events.{newest_page}
use Rattle.law_machine.specs.Formats.{image, image_at}
use Rattle.law_machine.specs.Lists.{Descends, ◌∈◌}
use Rattle.law_machine.specs.Machine.{everything}
use Rattle.law_machine.specs.Round.{IsMember}
use Rattle.law_machine.specs.Sound.{Sound}
use Rattle.law_machine.specs.State.{State}
use Rattle.law_refinement.specs.Bridge.{IsWaiting, name}
use Rattle.law_refinement.specs.Devices.{IsDeviceOf, pages_now, read_by}
use Rattle.law_refinement.specs.Stores.{IsWorldOf}
use Rattle.law_refinement.proofs.Keeping.{kept_writes, waits_in}
use Rattle.law_refinement.proofs.Places.{waits_from, waits_name}
use Rattle.law_refinement.proofs.Shapes.{some_sections, store_shape}

-- the newest write to a page, or none goes there
newest_write : (ws : List Write) (p : ℕ) → Descends WriteBefore ws
    → ((a : Write) × (a ∈ ws) × (a.page ≡ p) × ((b : Write) → b ∈ ws → b.page ≡ p → b.number ≤ a.number))
    ⊎ ((b : Write) → b ∈ ws → b.page ≢ p)
newest_write [] p order = inr (λ b none. absurd none)
newest_write (w ∷ ws) p order = elim (cases_eq w.page p) [
  | inl is ↦ inl (
    w,
    inl refl,
    is,
    λ b has at. ⊎_elim
        (λ (here : b ≡ w). let same : b.number ≡ w.number = ap (λ (a : Write). a.number) here in omega arith)
        (λ (later : b ∈ ws). let before : b.number < w.number = order.0 b later in omega arith)
        has,
  )
  | inr not ↦ ⊎_elim
      (λ (newest : (a : Write) × (a ∈ ws) × (a.page ≡ p) × ((b : Write) → b ∈ ws → b.page ≡ p → b.number ≤ a.number)).
      inl (
        newest.0,
        inr newest.1,
        newest.2,
        λ b has at. ⊎_elim
            (λ (here : b ≡ w). absurd (not (ap (λ (a : Write). a.page) (sym here) ∙ at)))
            (λ (later : b ∈ ws). newest.3 b later at)
            has,
      ))
      (λ (none : (b : Write) → b ∈ ws → b.page ≢ p). inr (λ b has at. ⊎_elim
      (λ (here : b ≡ w). not (ap (λ (a : Write). a.page) (sym here) ∙ at))
      (λ (later : b ∈ ws). none b later at)
      has))
      (newest_write ws p order.1)
]

-- writes to other pages leave a page as it is
applied_elsewhere : (vs : List (ℕ × Page)) (img : ℕ → Page) (p : ℕ) → ((v : ℕ × Page) → v ∈ vs → v.0 ≢ p) → applied img vs p ≡ img p
applied_elsewhere [] img p not = refl
applied_elsewhere (v ∷ vs) img p not =
    applied_elsewhere vs (written img v.0 v.1) p (λ u has. not u (inr has))
    ∙ (let other : (p == v.0) ≡ false = ne_eqb p v.0 (λ is. not v (inl refl) (sym is)) in rw other)

module _ (x : ExtentsState) (g : GraphState) (s : State) (held : Image) (whole : IsWhole x) (graph : IsWholeGraph g) (is : IsWorldOf x g s.world)
    (sound : Sound (shape x) (formats_of (shape x)) s) where
  -- a waiting plain write of the graph is one of the world
  waiting_write : (n : ℕ) (w : PageWrite) → Waits g.staging.pending (Plain n) → write_of g (Plain n) ≡ Some w
      → (a : Write) × (a ∈ writes_of s.world.elements) × (s.world.persistent.writes a.number ≡ false) × (a.number ≡ n) × (w ≡ (a.page, a.bytes))
  waiting_write n w waits kept =
      let from = waits_from (shape x) (formats_of (shape x)) s.opened s.world g.staging.pending sound.safe is.staging.pending (Plain n) waits in
      go from.0 from.1 from.2
    where
      go : (m : Element) → IsWaiting s.world m → Plain n ≡ name m
          → (a : Write) × (a ∈ writes_of s.world.elements) × (s.world.persistent.writes a.number ≡ false) × (a.number ≡ n) × (w ≡ (a.page, a.bytes))
      go (A_write a) still same = (
        a,
        listed s.world.elements (A_write a) still.0,
        still.1,
        (let e : Plain n ≡ Plain a.number = same in cc),
        same_Some w (a.page, a.bytes) (sym kept ∙ ap (write_of g) same ∙ kept_writes x g s.world (A_write a) is graph still (waits_in x g s.world (A_write a) is still)),
      )
      go (A_superblock u) still same = absurd (let e : Plain n ≡ Version (family_of u.section) u.version = same in cc)
      go (A_root r) still same = absurd (let e : Plain n ≡ Version 1 r.version = same in cc)

  -- a page that isn't of frames
  off_frames : (p : ℕ) → (shape x).kind p ≢ FramePage → NoneOn g p
  off_frames p not n w waits kept at =
      let a = waiting_write n w waits kept in
      not (ap (shape x).kind (sym at ∙ ap (λ (v : PageWrite). v.0) a.4) ∙ sound.safe.frames a.0 a.1 ∙ refl)

  module _ (p : ℕ) (frame : (shape x).kind p ≡ FramePage) where
    -- the newest write waits
    newest_waits : (a : Write) → a ∈ writes_of s.world.elements → a.page ≡ p
        → ((b : Write) → b ∈ writes_of s.world.elements → b.page ≡ p → b.number ≤ a.number)
        → s.world.persistent.writes a.number ≡ false → IsNewestOn g p a.bytes
    newest_waits a has at newest not = record {
      number = a.number;
      waits = waits_name (shape x) (formats_of (shape x)) s.opened s.world g.staging.pending sound.safe is.staging.pending (A_write a) (write_in s.world.elements a has, not);
      write = kept_writes x g s.world (A_write a) is graph (write_in s.world.elements a has, not) (waits_in x g s.world (A_write a) is (write_in s.world.elements a has, not)) ∙ ap (λ (q : ℕ). Some (q, a.bytes)) at;
      last = λ m w later waits kept there.
          let b = waiting_write m w waits kept in
          let low : b.0.number ≤ a.number = newest b.0 b.1 (ap (λ (v : PageWrite). v.0) (sym b.4) ∙ there) in
          let same : b.0.number ≡ m = b.3 in
          omega arith;
    }

    -- no write to the page waits
    none_waits : ((b : Write) → b ∈ writes_of s.world.elements → b.page ≡ p → s.world.persistent.writes b.number ≡ true) → NoneOn g p
    none_waits all n w waits kept at =
        let b = waiting_write n w waits kept in
        true≢false (sym (all b.0 b.1 (ap (λ (v : PageWrite). v.0) (sym b.4) ∙ at)) ∙ b.2)

    -- what was issued doesn't go to it either
    issued_elsewhere : ((b : Write) → b ∈ writes_of s.world.elements → b.page ≡ p → s.world.persistent.writes b.number ≡ true)
        → (ms : List Element) → ((m : Element) → m ∈ ms → IsMember (shape x) s.world m)
        → (v : ℕ × Page) → v ∈ page_writes (shape x) (formats_of (shape x)) ms → v.0 ≢ p
    issued_elsewhere all [] are v has = absurd has
    issued_elsewhere all (m ∷ ms) are v (inl here) = λ at. not_here m (are m (inl refl)) (ap (λ (u : ℕ × Page). u.0) (sym here) ∙ at)
      where
        not_here : (m : Element) → IsMember (shape x) s.world m → (page_write (shape x) (formats_of (shape x)) m).0 ≢ p
        not_here (A_write b) member at = true≢false (sym (all b member.0 at) ∙ member.2)
        not_here (A_superblock u) member at =
            let e : SectionPage u.section ≡ FramePage = sym ((store_shape x whole).section_kind u.section (sound.safe.sections_there u member.0)) ∙ ap (shape x).kind at ∙ frame in cc
        not_here (A_root r) member at =
            let e : RootPage ≡ FramePage = sym (store_shape x whole).root_kind ∙ ap (shape x).kind at ∙ frame in cc
    issued_elsewhere all (m ∷ ms) are v (inr later) = issued_elsewhere all ms (λ n has. are n (inr has)) v later

    -- so the device has what is persistent
    device_has : IsDeviceOf (shape x) (formats_of (shape x)) s held → p < length held
        → ((b : Write) → b ∈ writes_of s.world.elements → b.page ≡ p → s.world.persistent.writes b.number ≡ true)
        → page held p ≡ page_in s.world.persistent s.opened (writes_of s.world.elements) p
    device_has device inside all = device p inside
        ∙ applied_elsewhere (page_writes (shape x) (formats_of (shape x)) s.issued)
        (image (shape x) (formats_of (shape x)) s.world.persistent s.opened (log_of s.world.elements)) p (issued_elsewhere all s.issued sound.issued)
        ∙ ap (λ (k : PageKind). image_at (shape x) (formats_of (shape x)) k s.world.persistent s.opened (log_of s.world.elements) p) frame

    -- the newest write to a page is its image in a set that has it
    newest_in_set : (X : Cut) (a : Write) → a ∈ writes_of s.world.elements → a.page ≡ p
        → ((b : Write) → b ∈ writes_of s.world.elements → b.page ≡ p → b.number ≤ a.number) → X.writes a.number ≡ true
        → page_in X s.opened (writes_of s.world.elements) p ≡ a.bytes
    newest_in_set X a has at newest there = found WriteBefore (λ b. (b.page == p) && X.writes b.number) (λ b. b.bytes) (s.opened p) (writes_of s.world.elements) a
        sound.safe.writes_order has (and_true _ _ (eq-eqb _ _ at) there)
        (λ b has_b passes before. let low : b.number ≤ a.number = newest b has_b (eqb-true b.page p (and_left (b.page == p) _ passes)) in
        let lt : a.number < b.number = before in omega arith)

    frame_reads : IsDeviceOf (shape x) (formats_of (shape x)) s held → p < length held → IsReadAs g held p (newest_page s p)
    frame_reads device inside = ⊎_elim
        (λ (newest : (a : Write) × (a ∈ writes_of s.world.elements) × (a.page ≡ p) × ((b : Write) → b ∈ writes_of s.world.elements → b.page ≡ p → b.number ≤ a.number)).
        let now : newest_page s p ≡ newest.0.bytes = newest_in_set (everything s.world) newest.0 newest.1 newest.2 newest.3 refl in
        elim (cases_Bool (s.world.persistent.writes newest.0.number)) [
          | inl there ↦ (
              let all : (b : Write) → b ∈ writes_of s.world.elements → b.page ≡ p → s.world.persistent.writes b.number ≡ true =
              (λ b has at. elim (cases_lt b.number newest.0.number) [
                | inl before ↦ before_it (shape x) (formats_of (shape x)) (store_shape x whole) s.opened s.world sound.safe s.world.persistent sound.safe.within b newest.0 has newest.1
                    (at ∙ sym newest.2) before there
                | inr not ↦ (let low : b.number ≤ newest.0.number = newest.3 b has at in
                    let same : b.number ≡ newest.0.number = omega arith in ap s.world.persistent.writes same ∙ there)
              ]) in
              inr (
                none_waits all,
                now ∙ sym (device_has device inside all ∙ newest_in_set s.world.persistent newest.0 newest.1 newest.2 newest.3 there),
              ))
          | inr not ↦ inl (subst (λ (b : Page). IsNewestOn g p b) (sym now) (newest_waits newest.0 newest.1 newest.2 newest.3 not))
        ])
        (λ (none : (b : Write) → b ∈ writes_of s.world.elements → b.page ≢ p).
        let all : (b : Write) → b ∈ writes_of s.world.elements → b.page ≡ p → s.world.persistent.writes b.number ≡ true = (λ b has at. absurd (none b has at)) in
        inr (
          none_waits all,
          page_unwritten (everything s.world) s.opened (writes_of s.world.elements) p none
              ∙ sym (device_has device inside all ∙ page_unwritten s.world.persistent s.opened (writes_of s.world.elements) p none),
        ))
        (newest_write (writes_of s.world.elements) p sound.safe.writes_order)

  -- a page of frames lies on the device
  frames_below : (p : ℕ) → (shape x).kind p ≡ FramePage → p < 2 + (shape x).extents * (shape x).pages
  frames_below p frame = elim (cases_lt p (2 + (shape x).extents * (shape x).pages)) [
    | inl lt ↦ lt
    | inr ge ↦ absurd (let behind = at_behind (length x.written) x.pages x.sections (section_size (length x.written) x.sections) x.format
        (model_geometry x.format (length x.written) x.pages x.sections whole.geometry) p ge in (let e = sym behind ∙ frame in cc))
  ]

  pub pages_read : IsDeviceOf (shape x) (formats_of (shape x)) s held → page_total (shape x) ≤ length held
      → AreNewest g held (pages_now (shape x) s held)
  pages_read device size p = go ((shape x).kind p) refl
    where
      go : (k : PageKind) → (shape x).kind p ≡ k → IsReadAs g held p (read_by ((shape x).kind p) (newest_page s p) (page held p))
      go FramePage kind = subst (λ (k : PageKind). IsReadAs g held p (read_by k (newest_page s p) (page held p))) (sym kind)
          (frame_reads p kind device (let low : p < 2 + (shape x).extents * (shape x).pages = frames_below p kind in let some : 1 ≤ (shape x).sections = some_sections x whole in
          let on = pages_on_device x.format (length x.written) x.pages x.sections whole.geometry in omega (arith, low, some, on, size)))
      go RootPage kind = subst (λ (k : PageKind). IsReadAs g held p (read_by k (newest_page s p) (page held p))) (sym kind)
          (inr (off_frames p (λ other. let e : RootPage ≡ FramePage = sym kind ∙ other in cc), refl))
      go (SectionPage j) kind = subst (λ (k : PageKind). IsReadAs g held p (read_by k (newest_page s p) (page held p))) (sym kind)
          (inr (off_frames p (λ other. let e : SectionPage j ≡ FramePage = sym kind ∙ other in cc), refl))
