-- The image of a closed set gives what its greatest root gave when it was staged.
use Rattle.std.proofs.Common.{◌≡◌, refl, subst, ℕ, ◌<◌, ◌≤◌, true, false, ◌&&◌, nat_le, [], ◌==◌, le_of_eq, le_trans, le-leb, leb-true, eq-eqb, subst₂, sym, ap, ◌∙◌, arith}
use Rattle.std.proofs.lemmas.Bool.{false_from_ne_true}
use Rattle.law_machine.specs.Cut.{Closed, Cut, Exact, Within, held_by, section_of}
use Rattle.law_machine.specs.Device.{Inside, IsShape, Page, PageKind, Place, Shape}
use Rattle.law_machine.specs.Element.{Opening, RootBefore, SuperblockBefore, log_of, roots_of, superblocks_of, writes_of}
use Rattle.law_machine.specs.Formats.{Formats, image, image_at, places}
use Rattle.law_machine.specs.Frames.{IsFormat}
use Rattle.law_machine.specs.Guard.{Covers, Intact, Records, page_as_staged}
use Rattle.law_machine.specs.Machine.{World}
use Rattle.law_machine.specs.Recovery.{RecoversBut, RootGives}
use Rattle.law_machine.specs.Safe.{FitsExtent, Safe}
use Rattle.law_machine.proofs.ClosedSets.{intact, gt-leb, page_same}
use Rattle.law_machine.proofs.RoundMoves.{between}
use Rattle.law_machine.proofs.Carries.{found, carry, root_local, and_true, no_later}

module _ (S : Shape) (F : Formats) {opening : Opening} (shape : IsShape S) (format : IsFormat S F)
    (opened : ℕ → Page) (w : World) (X : Cut)
    (safe : Safe S (RootGives S F opening) opening.frozen opened w) (low : Within w.persistent X)
    (high : Within X w.round) (exact : Exact S.sections (log_of w.elements) X) where
  abbrev pub img : ℕ → Page
  img = image S F X opened (log_of w.elements)

  closed : Closed S (log_of w.elements) X
  closed = between S (RootGives S F opening) opening.frozen opened (root_local S F shape) w X safe low high

  root_there : img S.root_page ≡ F.root exact.root.0.version exact.root.0.commands (places exact.root.0.runs)
  root_there = ap (λ (f : PageKind). image_at S F f X opened (log_of w.elements) S.root_page) shape.root_kind
      ∙ found RootBefore (λ r. nat_le r.version X.root) _ _
      (roots_of w.elements) exact.root.0 safe.roots_order exact.root.1 (le-leb _ _ (le_of_eq exact.root.2))
      (λ y has passes before. let below : y.version ≤ X.root = leb-true y.version X.root passes in
      let is : exact.root.0.version ≡ X.root = exact.root.2 in omega arith)

  pointers_of : ℕ → ℕ
  pointers_of e = (exact.superblock (S.section e)).pointers e

  generations_of : ℕ → ℕ
  generations_of e = (exact.superblock (S.section e)).generations e

  section_there : (j : ℕ) → j < S.sections
      → img (S.section_page j) ≡ F.superblock (exact.superblock j).format j
      (exact.superblock j).version (exact.superblock j).recorded pointers_of generations_of
  unfolding pointers_of generations_of
  section_there j lt =
      let u = exact.superblock j in
      let is = exact.superblocks j lt in
      ap (λ (f : PageKind). image_at S F f X opened (log_of w.elements) (S.section_page j)) (shape.section_kind j lt)
      ∙ found SuperblockBefore (λ v. (v.section == j) && nat_le v.version (X.superblocks j)) _ _
      (superblocks_of w.elements) u safe.superblocks_order is.0
      (and_true _ _ (eq-eqb _ _ is.1) (le-leb _ _ (le_of_eq is.2)))
      (λ y has passes before. no_later u y j (X.superblocks j) is.1 is.2 passes before)
      ∙ format.section u.format j u.version u.recorded u.pointers u.generations _ _
      (λ e sec. (
        ap (λ (i : ℕ). (exact.superblock i).pointers e) (sym sec),
        ap (λ (i : ℕ). (exact.superblock i).generations e) (sym sec),
      ))

  frames_there : (e i : ℕ) → i < exact.root.0.pointers e → Inside S e i
      → (img (S.address e i) ≡ page_as_staged S exact.root.0 opened (writes_of w.elements) (S.address e i))
      × (generations_of e ≡ exact.root.0.generations e) × (i < pointers_of e)
  unfolding pointers_of generations_of
  frames_there e i below inside =
      let r = exact.root.0 in
      let u = exact.superblock (S.section e) in
      let is = exact.superblocks (S.section e) (shape.section e) in
      let ext : S.extent (S.address e i) ≡ e = shape.extent e i inside in
      let idx : S.index (S.address e i) ≡ i = shape.index e i inside in
      let h : Place = record { page = S.address e i; generation = r.generations e } in
      let covers : Covers S r h = record {
        generation = ap r.generations ext;
        below = subst₂ (λ (a b : ℕ). a < r.pointers b) (sym idx) (sym ext) below;
      } in
      let whole : Intact S (log_of w.elements) opened X h r = intact S
      (log_of w.elements) opened X r h closed exact.root.1 exact.root.2
      (safe.needed r exact.root.1 (S.extent h.page)) (safe.guarded r exact.root.1 h covers) in
      let records : Records S u.pointers u.generations h = whole.found u is.0 (is.1 ∙ ap S.section (sym ext))
      (is.2 ∙ ap X.superblocks (sym is.1)) in (
        ap (λ (f : PageKind). image_at S F f X opened (log_of w.elements) (S.address e i))
            (shape.frame_kind e i inside) ∙ whole.same,
        ap u.generations (sym ext) ∙ records.generation,
        subst₂ (λ (a b : ℕ). a < u.pointers b) idx ext records.below,
      )

  -- a page that the root found frozen is as it was at open
  frozen_there : (e i : ℕ) → opening.frozen e i (exact.root.0.generations e) ≡ true → 0 < exact.root.0.pointers e
      → Inside S e i
      → img (S.address e i) ≡ page_as_staged S exact.root.0 opened (writes_of w.elements) (S.address e i)
  frozen_there e i fz some inside =
      let r = exact.root.0 in
      let ext : S.extent (S.address e i) ≡ e = shape.extent e i inside in
      let idx : S.index (S.address e i) ≡ i = shape.index e i inside in
      ap (λ (f : PageKind). image_at S F f X opened (log_of w.elements) (S.address e i)) (shape.frame_kind e i inside)
      ∙ page_same X (held_by r (section_of S (S.address e i))) opened (writes_of w.elements) (S.address e i)
      (λ x has at.
      let later = safe.written_later r exact.root.1 e i fz some x has (ap S.extent at ∙ ext) (ap S.index at ∙ idx) in
      let not_kept : X.writes x.number ≡ false = false_from_ne_true (X.writes x.number)
      (λ kept. let needs : x.root ≤ X.root = closed.write_root x has kept in
      let is : r.version ≡ X.root = exact.root.2 in let lt : r.version < x.root = later.0 in omega arith) in
      not_kept ∙ sym (gt-leb x.number (r.writes (section_of S (S.address e i)))
      (subst (λ (n : ℕ). r.writes (S.section n) < x.number) (sym ext) later.1)))

  extents_small : (e : ℕ) → FitsExtent S (pointers_of e) (generations_of e)
  unfolding pointers_of generations_of
  extents_small e = (safe.superblocks_fit (exact.superblock (S.section e))
      (exact.superblocks (S.section e) (shape.section e)).0).2 e

  -- a section records no later root than the greatest, since what is persistent has none
  pub records_earlier : (j : ℕ) → j < S.sections → (exact.superblock j).recorded ≤ exact.root.0.version
  records_earlier j lt = le_trans (safe.recorded_below (exact.superblock j) (exact.superblocks j lt).0)
      (le_trans low.root (le_of_eq (sym exact.root.2)))

  -- an image with the same root and sections, and with what the root names and what it found frozen, gives the same
  pub record Alike (other : ℕ → Page) : Type 0 where
    pub root : other S.root_page ≡ img S.root_page
    pub sections : (j : ℕ) → j < S.sections → other (S.section_page j) ≡ img (S.section_page j)
    pub named : (e i : ℕ) → i < exact.root.0.pointers e → Inside S e i → other (S.address e i) ≡ img (S.address e i)
    pub frozen : (e i : ℕ) → opening.frozen e i (exact.root.0.generations e) ≡ true → 0 < exact.root.0.pointers e
        → Inside S e i → other (S.address e i) ≡ img (S.address e i)

  pub recovers_alike : (other : ℕ → Page) → Alike other
      → RecoversBut S F (λ a b. opening) other exact.root.0.commands exact.root.0.map
  recovers_alike other alike = record {
    formats = λ j. (exact.superblock j).format;
    versions = λ j. (exact.superblock j).version;
    recorded = λ j. (exact.superblock j).recorded;
    pointers = pointers_of;
    generations = generations_of;
    superblock = λ j lt. alike.sections j lt ∙ section_there j lt;
    version = exact.root.0.version;
    recorded_fit = records_earlier;
    runs = exact.root.0.runs;
    root = alike.root ∙ root_there;
    root_fits = (safe.good exact.root.0 exact.root.1).1;
    runs_fit = (safe.good exact.root.0 exact.root.1).2;
    bounds = (safe.good exact.root.0 exact.root.1).3;
    extents_fit = extents_small;
    versions_fit = λ j lt. (let u = safe.superblocks_fit (exact.superblock j) (exact.superblocks j lt).0 in (u.0, u.1));
    gives = carry S F opening other
        (page_as_staged S exact.root.0 opened (writes_of w.elements)) exact.root.0.pointers exact.root.0.generations
        pointers_of generations_of
        (λ e i below inside. let there = frames_there e i below inside in
        (alike.named e i below inside ∙ there.0, there.1, there.2))
        (λ e i fz some inside. alike.frozen e i fz some inside ∙ frozen_there e i fz some inside)
        [] exact.root.0.runs exact.root.0.map (safe.good exact.root.0 exact.root.1).0;
  }

  -- by that root's version and runs
  pub alike_root : (other : ℕ → Page) (alike : Alike other) → ((recovers_alike other alike).version ≡ exact.root.0.version)
      × ((recovers_alike other alike).runs ≡ exact.root.0.runs)
  unfolding recovers_alike
  alike_root other alike = (refl, refl)

  -- what it has of the pages below the root's pointers, and of those that the root found frozen
  pub alike_frames : (other : ℕ → Page) (alike : Alike other) (e i : ℕ) → i < exact.root.0.pointers e → Inside S e i
      → (other (S.address e i) ≡ page_as_staged S exact.root.0 opened (writes_of w.elements) (S.address e i))
      × ((recovers_alike other alike).generations e ≡ exact.root.0.generations e)
      × (i < (recovers_alike other alike).pointers e)
  unfolding recovers_alike
  alike_frames other alike e i below inside =
      let there = frames_there e i below inside in (alike.named e i below inside ∙ there.0, there.1, there.2)

  pub alike_frozen : (other : ℕ → Page) → Alike other → (e i : ℕ) → opening.frozen e i (exact.root.0.generations e) ≡ true
      → 0 < exact.root.0.pointers e → Inside S e i
      → other (S.address e i) ≡ page_as_staged S exact.root.0 opened (writes_of w.elements) (S.address e i)
  alike_frozen other alike e i fz some inside = alike.frozen e i fz some inside ∙ frozen_there e i fz some inside
