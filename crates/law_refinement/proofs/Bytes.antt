-- What is kept for a frame's elements is what the machine writes for them.
use Rattle.std.proofs.Common.{◌≡◌, inl, inr, ⊎_elim, ◌⊎◌, ℕ, suc, ◌+◌, ◌<◌, ◌≤◌, List, [], ◌∷◌, length, Some, get_or, Bool, false, refl, sym, ap, ap₂, ◌∙◌, subst, arith}
use Rattle.std.specs.Prelude.{slice_index_or}
use Rattle.std.proofs.lemmas.Option.{same_Some}
use Rattle.cs_deps.specs.declared.elements.Element.TheVariants.{Plain, Version}
use Rattle.cs_deps.specs.Staging.{Staging}
use Rattle.cs_deps.specs.State.{State as GraphState, Write as PageWrite, write_of}
use Rattle.law_machine.specs.Append.{appended_by, stage_pages}
use Rattle.law_machine.specs.Cut.{Cut, satisfied}
use Rattle.law_machine.specs.Device.{Page, Shape}
use Rattle.law_machine.specs.Disk.{page_write}
use Rattle.law_machine.specs.Element.{A_root, A_superblock, A_write, Element, Write}
use Rattle.law_machine.specs.Extents.{Extents, Purpose as Reason}
use Rattle.law_machine.specs.Lists.{◌∈◌}
use Rattle.law_machine.specs.Machine.{StagePage, World, happens, superblock_now, write_now}
use Rattle.law_machine.proofs.Appends.{pages_superblocks}
use Rattle.law_machine.proofs.Waiting.{listed}
use Rattle.cs_frame.proofs.SuperblockLaws.{page_whatever_root}
use Rattle.cs_frame.specs.Formats.{extents_of as listed_extents, formats_of}
use Rattle.cs_frame.specs.Geometries.{IsGeometry}
use Rattle.cs_frame.specs.Superblocks.{spelled_superblock}
use Rattle.cs_frame.specs.declared.locators.Locator.{Locator}
use Rattle.cs_extent.specs.Appended.{IsAppendedBy}
use Rattle.cs_extent.specs.Frames.{IsOfFrame, family_of, next_section, root_family, root_recorded}
use Rattle.cs_extent.specs.State.{State, extents_of, need_of, section_rows, shape}
use Rattle.cs_reader.proofs.Superblocks.{own_format, section_listed}
use Rattle.law_refinement.specs.Bridge.{name}
use Rattle.law_refinement.specs.Stores.{AreWritesOf, IsStagingOf, IsWorldOf}
use Rattle.law_refinement.proofs.Places.{not_one, one_family}

-- page k of those that are staged from page i of e on, after n plain writes
pub record IsPage (S : Shape) (e i n : ℕ) (bs : List Page) (m : Element) : Type 0 where
  pub place : ℕ
  pub inside : place < length bs
  pub write : Write
  pub is : m ≡ A_write write
  pub number : write.number ≡ n + 1 + place
  pub page : write.page ≡ S.address e (i + place)
  pub bytes : write.bytes ≡ slice_index_or bs place []

pub pages_staged : (S : Shape) (e i : ℕ) (bs : List Page) (w : World) (m : Element) → m ∈ (stage_pages S w e i bs).elements → (m ∈ w.elements) ⊎ IsPage S e i w.written bs m
pages_staged S e i [] w m has = inl has
pages_staged S e i (b ∷ bs) w m has = ⊎_elim
    (λ (first : m ∈ (A_write (write_now S w (S.address e i) b) ∷ w.elements)). ⊎_elim
    (λ (is : m ≡ A_write (write_now S w (S.address e i) b)). inr (record {
      place = 0;
      inside = omega arith;
      write = write_now S w (S.address e i) b;
      is = is;
      number = (let n : suc w.written ≡ w.written + 1 + 0 = omega arith in n);
      page = ap (S.address e) (let n : i ≡ i + 0 = omega arith in n);
      bytes = refl;
    }))
    (λ (old : m ∈ w.elements). inl old) first)
    (λ (later : IsPage S e (suc i) (suc w.written) bs m). inr (record {
      place = suc later.place;
      inside = (let lt : later.place < length bs = later.inside in omega arith);
      write = later.write;
      is = later.is;
      number = later.number ∙ (let n : suc w.written + 1 + later.place ≡ w.written + 1 + suc later.place = omega arith in n);
      page = later.page ∙ ap (S.address e) (let n : suc i + later.place ≡ i + suc later.place = omega arith in n);
      bytes = later.bytes;
    }))
    (pages_staged S e (suc i) bs (happens S w (StagePage (S.address e i) b)) m has)

-- what was staged before is not of the next frame, which stages a version of section j
pub not_of_frame : (S : Shape) (need : ℕ → ℕ) (w : World) (s : Staging) (j count : ℕ) (m : Element) → j < S.sections → IsStagingOf S need w s → m ∈ w.elements → IsOfFrame s j count (name m) → ⊥
not_of_frame S need w s j count (A_write x) there is has of =
    let low = (is.numbers x.number).1 (x, listed w.elements (A_write x) has, refl) in
    let le : x.number ≤ w.written = low.1 in let e : w.written ≡ s.staged = is.written in let lt : s.staged < x.number = of.0 in absurd (omega arith)
not_of_frame S need w s j count (A_superblock u) there is has of =
    let le : u.version ≤ w.superblocks j = subst (λ (i : ℕ). u.version ≤ w.superblocks i) (one_family u.section j of.0) (is.superblocks u (listed w.elements (A_superblock u) has)).1 in
    let e : w.superblocks j ≡ get_or s.latest (family_of j) 0 = is.sections j there in let n : u.version ≡ get_or s.latest (family_of j) 0 + 1 = of.1 in absurd (omega arith)
not_of_frame S need w s j count (A_root r) there is has of = absurd (not_one j (sym of.0))

module _ (x : State) (g : GraphState) (w : World) (geometry : IsGeometry x.format (length x.written) x.pages x.sections) (is : IsWorldOf x g w)
    (apart : Bool) (reason : Reason) (frame : List (List ℕ)) (l : Locator) (y : State) (h : GraphState) (a : IsAppendedBy apart x g reason frame l y h)
    (there : (shape x).section l.extent < (shape x).sections) where
  -- the section of the frame's extent
  abbrev j : ℕ
  j = (shape x).section l.extent

  abbrev after_pages : World
  after_pages = stage_pages (shape x) w l.extent (w.extents.pointer l.extent) frame

  abbrev next : World
  next = appended_by (shape x) apart reason w l.extent (need_of x j) frame

  module _ (same_extents : next.extents ≡ extents_of y) (persistent : next.persistent ≡ w.persistent) where
    version : suc (after_pages.superblocks j) ≡ get_or g.staging.latest (family_of j) 0 + 1
    version = let n : after_pages.superblocks j ≡ w.superblocks j = ap (λ (f : ℕ → ℕ). f j) (pages_superblocks (shape x) w l.extent (w.extents.pointer l.extent) frame) in
        let e : w.superblocks j ≡ get_or g.staging.latest (family_of j) 0 = is.staging.sections j there in omega arith

    -- the root that is persistent is that of the graph
    record_is : after_pages.persistent.root ≡ get_or g.staging.pending.persistent root_family 0
    record_is = ap (λ (X : Cut). X.root) persistent ∙ sym is.staging.pending.root

    -- the rows of the section are those of the extents as they are then
    rows : listed_extents (shape x).section after_pages.extents.pointer after_pages.extents.generation j 0 (shape x).extents ≡ section_rows y j
    rows = ap (λ (S : Shape). listed_extents S.section after_pages.extents.pointer after_pages.extents.generation j 0 S.extents) (sym a.same_shape)
        ∙ section_listed y.format (length y.written) y.pages y.sections (subst (λ (S : Shape). IsGeometry S.format S.extents S.pages S.sections) (sym a.same_shape) geometry) y.written refl
        after_pages.extents.pointer after_pages.extents.generation (λ k lt. ap (λ (z : Extents). (z.pointer k, z.generation k)) same_extents) j

    section_is : page_write (shape x) (formats_of (shape x)) (A_superblock (superblock_now (shape x) after_pages j (need_of x j))) ≡ ((shape x).section_page j, a.section.0)
    section_is = ap (λ (b : List ℕ). ((shape x).section_page j, b))
        (own_format (shape x) after_pages.extents.pointer after_pages.extents.generation j (suc (after_pages.superblocks j)) after_pages.persistent.root
        ∙ ap₂ (λ (n : ℕ) (q : List (ℕ × ℕ)). spelled_superblock (shape x).format n after_pages.persistent.root (shape x).extents (shape x).pages (shape x).sections j q) version rows
        ∙ ap (λ (root : ℕ). spelled_superblock (shape x).format (get_or g.staging.latest (family_of j) 0 + 1) root (shape x).extents (shape x).pages (shape x).sections j (section_rows y j)) record_is
        ∙ sym (page_whatever_root (shape x).format (get_or g.staging.latest (family_of j) 0 + 1) (get_or g.staging.pending.persistent root_family 0)
        (shape x).extents (shape x).pages (shape x).sections j (section_rows y j))
        ∙ ap (λ (S : Shape). spelled_superblock S.format (get_or g.staging.latest (family_of j) 0 + 1) (root_recorded (shape x).format g.staging) S.extents S.pages S.sections j (section_rows y j))
        (sym a.same_shape)
        ∙ sym a.section.2.spelled)

    section_kept : (p : PageWrite) → write_of h (Version (family_of j) (suc (after_pages.superblocks j))) ≡ Some p
        → p ≡ page_write (shape x) (formats_of (shape x)) (A_superblock (superblock_now (shape x) after_pages j (need_of x j)))
    section_kept p kept =
        let there_is : write_of h (next_section g.staging j) ≡ Some p = ap (λ (n : ℕ). write_of h (Version (family_of j) n)) (sym version) ∙ kept in
        same_Some p ((shape x).section_page j, a.section.0) (sym there_is ∙ a.section.1) ∙ sym section_is

    page_kept : (m : Element) (p : PageWrite) → IsPage (shape x) l.extent (w.extents.pointer l.extent) w.written frame m → write_of h (name m) ≡ Some p
        → p ≡ page_write (shape x) (formats_of (shape x)) m
    page_kept m p of kept =
        let number : of.write.number ≡ g.staging.staged + 1 + of.place = of.number ∙ ap (λ (n : ℕ). n + 1 + of.place) is.staging.written in
        let begins : l.page ≡ w.extents.pointer l.extent = ap (λ (k : Locator). k.page) a.place ∙ ap (λ (z : Extents). z.pointer l.extent) (sym is.extents) in
        a.writes of.place p of.inside (ap (λ (n : ℕ). write_of h (Plain n)) (sym number) ∙ ap (λ (k : Element). write_of h (name k)) (sym of.is) ∙ kept)
        ∙ ap (λ (n : ℕ). ((shape x).address l.extent (n + of.place), slice_index_or frame of.place [])) begins
        ∙ (λ i. ((sym of.page) i, (sym of.bytes) i))
        ∙ ap (page_write (shape x) (formats_of (shape x))) (sym of.is)

    old_kept : (m : Element) (p : PageWrite) → m ∈ w.elements → satisfied next.persistent m ≡ false → write_of h (name m) ≡ Some p → p ≡ page_write (shape x) (formats_of (shape x)) m
    old_kept m p has waits kept = ⊎_elim
        (λ (before : write_of g (name m) ≡ Some p). is.writes m p (has, ap (λ (X : Cut). satisfied X m) (sym persistent) ∙ waits) before)
        (λ (of : IsOfFrame g.staging j (length frame) (name m)). absurd (not_of_frame (shape x) (need_of x) w g.staging j (length frame) m there is.staging has of))
        (a.others (name m) p kept)

    pub append_writes : AreWritesOf (shape x) next h
    append_writes m p waits kept = ⊎_elim
        (λ (new : m ≡ A_superblock (superblock_now (shape x) after_pages j (need_of x j))).
        section_kept p (ap (λ (k : Element). write_of h (name k)) (sym new) ∙ kept) ∙ ap (page_write (shape x) (formats_of (shape x))) (sym new))
        (λ (before : m ∈ after_pages.elements). ⊎_elim
        (λ (old : m ∈ w.elements). old_kept m p old waits.1 kept)
        (λ (page : IsPage (shape x) l.extent (w.extents.pointer l.extent) w.written frame m). page_kept m p page kept)
        (pages_staged (shape x) l.extent (w.extents.pointer l.extent) frame w m before))
        waits.0
