-- What an append does to a store is what the machine's append does to its world.
use Rattle.std.proofs.Common.{◌≡◌, ◌≢◌, ◌⊎◌, inl, inr, ⊎_elim, ℕ, suc, ◌+◌, ◌<◌, ◌≤◌, Bool, true, false, ◌==◌, if◌then◌else◌, List, [], ◌∷◌, length, ◌++◌, eq-eqb, eqb-true, le_of_eq, le_trans, true≢false, refl, sym, ap, ◌∙◌, subst, arith}
use Rattle.std.proofs.lemmas.Bool.{cases_eq}
use Rattle.cs_deps.specs.Staging.{Staging}
use Rattle.cs_deps.specs.State.{State as GraphState}
use Rattle.law_machine.specs.Append.{Append, AppendBy, IsNeed, appended_by, stage_pages}
use Rattle.law_machine.specs.Cut.{section_of}
use Rattle.law_machine.specs.Device.{IsShape, Page, Shape, mark_of}
use Rattle.law_machine.specs.Element.{A_write, Superblock, Write, superblocks_of, writes_of}
use Rattle.law_machine.specs.Extents.{Extents, Goes, Purpose as Reason, taken_by}
use Rattle.law_machine.specs.Lists.{◌∈◌}
use Rattle.law_machine.specs.Machine.{StagePage, StageSuperblock, World, happens, superblock_now}
use Rattle.law_machine.proofs.Appends.{pages_superblocks}
use Rattle.law_machine.proofs.Needs.{appended_by_extents, appended_numbers}
use Rattle.law_machine.proofs.Parts.{with_other, with_same}
use Rattle.law_machine.proofs.Places.{goes_inside}
use Rattle.law_machine.proofs.Waiting.{listed, write_in}
use Rattle.cs_frame.specs.declared.locators.Locator.{Locator}
use Rattle.cs_frame.specs.Formats.{place_of}
use Rattle.cs_frame.specs.Geometries.{IsGeometry}
use Rattle.cs_extent.specs.Appended.{IsAppendedBy}
use Rattle.cs_extent.specs.Frames.{next_place, own_first}
use Rattle.cs_extent.specs.State.{State, extents_of, need_of, shape}
use Rattle.law_refinement.specs.Stores.{AreWritesOf, IsRecorded, IsStagingOf, IsWorldOf}
use Rattle.law_refinement.proofs.Bytes.{IsPage, append_writes, pages_staged as old_or_page}
use Rattle.law_refinement.proofs.Shapes.{need_least, need_reset, need_same, shape_of_store}
use Rattle.law_refinement.proofs.Worlds.{moved, pages_step, same_staging, section_step}

-- pages of a frame are no versions
pages_versions : (S : Shape) (w : World) (e i : ℕ) (bs : List Page) → superblocks_of (stage_pages S w e i bs).elements ≡ superblocks_of w.elements
pages_versions S w e i [] = refl
pages_versions S w e i (b ∷ bs) = pages_versions S (happens S w (StagePage (S.address e i) b)) e (suc i) bs

-- sections of a superblock of one are one
only_one : (a b n : ℕ) → a < n → b < n → n ≡ 1 → a ≡ b
only_one a b n below above one = omega arith

some_more : (n : ℕ) → 0 < n → (n == 1) ≡ false → 1 < n
some_more n some not = elim (cases_eq n 1) [
  | inl one ↦ absurd (true≢false (sym (eq-eqb n 1 one) ∙ not))
  | inr other ↦ omega arith
]

module _ (x : State) (g : GraphState) (w : World) (geometry : IsGeometry x.format (length x.written) x.pages x.sections) (is : IsWorldOf x g w) where
  store : IsShape (shape x)
  store = shape_of_store x geometry

  is_need : (e : ℕ) → IsNeed (shape x) w ((shape x).section e) (need_of x ((shape x).section e))
  is_need e = record {
    resets = λ d lt at. subst (λ (z : Extents). z.reset d ≤ need_of x ((shape x).section e)) (sym is.extents) (need_reset x geometry ((shape x).section e) d lt at);
    last = λ u has at. subst (λ (i : ℕ). u.root ≤ need_of x i) at (is.staging.superblocks u has).3;
    least = λ q resets last. need_least x geometry ((shape x).section e) q (store.section e) (λ d lt at. subst (λ (z : Extents). z.reset d ≤ q) is.extents (resets d lt at));
  }

  -- chunks and runs lie apart or not
  module _ (apart : Bool) (reason : Reason) (frame : List (List ℕ)) (l : Locator) (y : State) (h : GraphState) (a : IsAppendedBy apart x g reason frame l y h) where
    -- the section of the frame's extent
    abbrev j : ℕ
    j = (shape x).section l.extent

    there : (shape x).section l.extent < (shape x).sections
    there = store.section l.extent

    placed : Goes (shape x) apart w.extents reason (length frame) l.extent
    placed = subst (λ (z : Extents). Goes (shape x) apart z reason (length frame) l.extent) (sym is.extents) a.placed

    inside : (l.extent < (shape x).extents) × (w.extents.pointer l.extent + length frame ≤ (shape x).pages)
    inside = goes_inside (shape x) apart w.extents reason (length frame) l.extent placed

    abbrev after_pages : World
    after_pages = stage_pages (shape x) w l.extent (w.extents.pointer l.extent) frame

    pages_staged : IsStagingOf (shape x) (need_of x) after_pages a.staged.between
    pages_staged = subst (λ (t : Staging). IsStagingOf (shape x) (need_of x) after_pages t)
        (sym (same_staging a.staged.between g.staging.pending.persistent (g.staging.pending.waiting ++ a.staged.pages.entries) (g.staging.staged + length frame) g.staging.latest
        a.staged.pages.persistent a.staged.pages.behind a.staged.pages.staged a.staged.pages.latest))
        (pages_step (shape x) (need_of x) store ((extents_of x).reset l.extent) l.extent frame a.staged.pages.entries (w.extents.pointer l.extent) w g.staging inside.0 inside.1
        (ap (λ (z : Extents). z.reset l.extent) is.extents) a.staged.pages.size a.staged.pages.each is.staging)

    -- a write is one of before, or of the frame, which lies in the section
    abbrev IsOld : Write → Type 0
    IsOld v = (v ∈ writes_of w.elements) × (v.number ≤ g.staging.staged)

    abbrev IsOfIt : Write → Type 0
    IsOfIt v = (g.staging.staged < v.number) × (section_of (shape x) v.page ≡ j)

    of_page : (v : Write) → IsPage (shape x) l.extent (w.extents.pointer l.extent) w.written frame (A_write v) → IsOfIt v
    of_page v page =
        let same : v ≡ page.write = (let e : A_write v ≡ A_write page.write = page.is in cc) in
        let number : v.number ≡ w.written + 1 + page.place = ap (λ (u : Write). u.number) same ∙ page.number in
        let written : w.written ≡ g.staging.staged = is.staging.written in
        let here : page.place < length frame = page.inside in
        let fits : w.extents.pointer l.extent + length frame ≤ (shape x).pages = inside.1 in
        let at : w.extents.pointer l.extent + page.place < (shape x).pages = part_below (w.extents.pointer l.extent) (length frame) page.place (shape x).pages fits here in (
          above g.staging.staged w.written page.place v.number written number,
          ap (λ (u : Write). section_of (shape x) u.page) same ∙ ap (λ (p : ℕ). section_of (shape x) p) page.page
              ∙ ap (shape x).section (store.extent l.extent (w.extents.pointer l.extent + page.place) (inside.0, at)),
        )
      where
        part_below : (start count i end : ℕ) → start + count ≤ end → i < count → start + i < end
        part_below start count i end fits lt = omega arith

        above : (s n i k : ℕ) → n ≡ s → k ≡ n + 1 + i → s < k
        above s n i k written number = omega arith

    of_old : (v : Write) → v ∈ writes_of w.elements → IsOld v
    of_old v has =
        let low : v.number ≤ w.written = ((is.staging.numbers v.number).1 (v, has, refl)).1 in
        let written : w.written ≡ g.staging.staged = is.staging.written in (has, omega arith)

    either : (v : Write) → v ∈ writes_of after_pages.elements → IsOld v ⊎ IsOfIt v
    either v has = ⊎_elim
        (λ (old : A_write v ∈ w.elements). inl (of_old v (listed w.elements (A_write v) old)))
        (λ (page : IsPage (shape x) l.extent (w.extents.pointer l.extent) w.written frame (A_write v)). inr (of_page v page))
        (old_or_page (shape x) l.extent (w.extents.pointer l.extent) frame w (A_write v) (write_in after_pages.elements v has))

    -- where page writes come first: what the section's version needs of its own
    own : (b : Bool) → (x.sections == 1) ≡ b → (v : Write) → v ∈ writes_of after_pages.elements → (if b then 1 else g.staging.staged + 1) ≤ v.number
        → section_of (shape x) v.page ≡ j
    own true one v has late = only_one (section_of (shape x) v.page) j x.sections (store.section ((shape x).extent v.page)) there (eqb-true x.sections 1 one)
    own false several v has late = ⊎_elim
        (λ (old : IsOld v). absurd (let low : v.number ≤ g.staging.staged = old.1 in let high : g.staging.staged + 1 ≤ v.number = late in omega arith))
        (λ (new : IsOfIt v). new.1)
        (either v has)

    -- and what the version before needs
    older : (b : Bool) → (x.sections == 1) ≡ b → (v : Write) → v ∈ writes_of after_pages.elements → v.number < (if b then 1 else g.staging.staged + 1)
        → (1 < x.sections) × IsRecorded (shape x) after_pages v
    older true one v has early =
        absurd (let first : 1 ≤ v.number = ((pages_staged.numbers v.number).1 (v, has, refl)).0 in let low : v.number < 1 = early in omega arith)
    older false several v has early = (
      some_more x.sections geometry.fewest_sections several,
      ⊎_elim
          (λ (old : IsOld v). recorded_still v (is.recorded v old.0))
          (λ (new : IsOfIt v). absurd (let high : g.staging.staged < v.number = new.0 in let low : v.number < g.staging.staged + 1 = early in omega arith))
          (either v has),
    )
      where
        recorded_still : (v : Write) → IsRecorded (shape x) w v → IsRecorded (shape x) after_pages v
        recorded_still v (u, has_u, at, last, bound) = (
          u,
          subst (λ (us : List Superblock). u ∈ us) (sym (pages_versions (shape x) w l.extent (w.extents.pointer l.extent) frame)) has_u,
          at,
          last ∙ ap (λ (f : ℕ → ℕ). f u.section) (sym (pages_superblocks (shape x) w l.extent (w.extents.pointer l.extent) frame)),
          bound,
        )

    abbrev first : ℕ
    first = own_first (shape x).pages_first x.sections g.staging.staged (length frame)

    first_is : (b : Bool) → (shape x).pages_first ≡ b → first ≡ own_first b x.sections g.staging.staged (length frame)
    first_is b rule = ap (λ (c : Bool). own_first c x.sections g.staging.staged (length frame)) rule

    one_or_next : (b : Bool) → 1 ≤ (if b then 1 else g.staging.staged + 1)
    one_or_next true = omega arith
    one_or_next false = omega arith

    first_some : (b : Bool) → 1 ≤ own_first b x.sections g.staging.staged (length frame)
    first_some true = one_or_next (x.sections == 1)
    first_some false = omega arith

    -- where they don't, it needs none
    none_own : (shape x).pages_first ≡ false → a.staged.between.staged < first
    none_own rule =
        let past : first ≡ g.staging.staged + length frame + 1 = first_is false rule in
        let count : a.staged.between.staged ≡ g.staging.staged + length frame = a.staged.pages.staged in omega arith

    abbrev next : World
    next = appended_by (shape x) apart reason w l.extent (need_of x j) frame

    all_staged : IsStagingOf (shape x) (need_of x) next h.staging
    all_staged = moved (shape x) (need_of x) (happens (shape x) after_pages (StageSuperblock j (need_of x j))) h.staging next.extents next.round
        (section_step (shape x) (need_of x) after_pages a.staged.between pages_staged j there first (first_some (shape x).pages_first)
        (λ rule v has late. own (x.sections == 1) refl v has (le_trans (le_of_eq (sym (first_is true rule))) late))
        (λ rule v has early at. older (x.sections == 1) refl v has (le_trans early (le_of_eq (first_is true rule))))
        none_own h.staging a.staged.section)

    same_extents : next.extents ≡ extents_of y
    same_extents = appended_by_extents (shape x) store apart reason w l.extent (need_of x j) frame inside.0 inside.1
        ∙ ap (λ (z : Extents). taken_by (shape x) apart reason z l.extent (length frame)) is.extents ∙ sym a.extents

    same_need : need_of y ≡ need_of x
    same_need = need_same x y a.same_shape (λ e. ap (λ (z : Extents). z.reset e) a.extents)

    -- ---- what is recorded then

    abbrev it : Superblock
    it = superblock_now (shape x) after_pages j (need_of x j)

    -- a write of the section is recorded by its new version
    here_recorded : (v : Write) → v ∈ writes_of after_pages.elements → section_of (shape x) v.page ≡ j → IsRecorded (shape x) next v
    here_recorded v has at = (
      it,
      inl refl,
      sym at,
      sym (with_same after_pages.superblocks j (suc (after_pages.superblocks j)) j refl),
      λ rule. le_trans ((pages_staged.numbers v.number).1 (v, has, refl)).1 (le_of_eq (sym (ap (λ (b : Bool). if b then after_pages.written else 0) rule))),
    )

    -- and one of another section by the version that did so before
    there_recorded : (v : Write) → section_of (shape x) v.page ≢ j → IsRecorded (shape x) w v → IsRecorded (shape x) next v
    there_recorded v other (u, has_u, at, last, bound) = (
      u,
      inr (subst (λ (us : List Superblock). u ∈ us) (sym (pages_versions (shape x) w l.extent (w.extents.pointer l.extent) frame)) has_u),
      at,
      last ∙ ap (λ (f : ℕ → ℕ). f u.section) (sym (pages_superblocks (shape x) w l.extent (w.extents.pointer l.extent) frame))
          ∙ sym (with_other after_pages.superblocks j (suc (after_pages.superblocks j)) u.section (λ same. other (sym at ∙ same))),
      bound,
    )

    all_recorded : (v : Write) → v ∈ writes_of next.elements → IsRecorded (shape x) next v
    all_recorded v has = elim (cases_eq (section_of (shape x) v.page) j) [
      | inl at ↦ here_recorded v has at
      | inr other ↦ ⊎_elim
          (λ (old : IsOld v). there_recorded v other (is.recorded v old.0))
          (λ (new : IsOfIt v). absurd (other new.1))
          (either v has)
    ]

    pub after_append_by : (v : World) × AppendBy (shape x) apart w reason frame (place_of l) v × IsWorldOf y h v
    after_append_by = (
      next,
      record {
        extent = l.extent;
        need = need_of x j;
        placed = placed;
        needs = is_need l.extent;
        at = ap place_of a.place ∙ ap (λ (z : Extents). place_of (next_place z l.extent (mark_of (shape x) frame))) (sym is.extents);
        after = refl;
      },
      record {
        extents = same_extents;
        staging = subst (λ (S : Shape). IsStagingOf S (need_of y) next h.staging) (sym a.same_shape)
            (subst (λ (f : ℕ → ℕ). IsStagingOf (shape x) f next h.staging) (sym same_need) all_staged);
        recorded = subst (λ (S : Shape). (v : Write) → v ∈ writes_of next.elements → IsRecorded S next v) (sym a.same_shape) all_recorded;
        resets = λ e. subst (λ (n : ℕ). next.extents.reset e ≤ n) (sym (appended_numbers (shape x) store w l.extent (need_of x j) frame).2)
            (subst (λ (n : ℕ). n ≤ w.root) (ap (λ (z : Extents). z.reset e) (sym (appended_by_extents (shape x) store apart reason w l.extent (need_of x j) frame inside.0 inside.1))) (is.resets e));
        writes = subst (λ (S : Shape). AreWritesOf S next h) (sym a.same_shape)
            (append_writes x g w geometry is apart reason frame l y h a there same_extents (appended_numbers (shape x) store w l.extent (need_of x j) frame).3);
      },
    )

-- without the rule that keeps chunks and runs apart
pub after_append : (x : State) (g : GraphState) (w : World) → IsGeometry x.format (length x.written) x.pages x.sections → IsWorldOf x g w
    → (reason : Reason) (frame : List (List ℕ)) (l : Locator) (y : State) (h : GraphState) → IsAppendedBy false x g reason frame l y h
    → (v : World) × Append (shape x) w reason frame (place_of l) v × IsWorldOf y h v
after_append x g w geometry is reason frame l y h a = after_append_by x g w geometry is false reason frame l y h a
