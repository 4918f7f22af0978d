-- Staging a page keeps what makes a crash safe.
use Rattle.std.proofs.Common.{Bool, ◌≡◌, inl, inr, ⊎_elim, ℕ, suc, ◌<◌, ◌≤◌, true, ◌∷◌, le_trans, le_refl, true≢false, refl, sym, ap, ◌∙◌, subst, subst₂, arith}
use Rattle.law_machine.specs.Cut.{held_by, page_in, section_of}
use Rattle.law_machine.specs.Device.{Inside, Page, Place, Shape}
use Rattle.law_machine.specs.Element.{Root, Write, roots_of, writes_of}
use Rattle.law_machine.specs.Guard.{Covers, Records}
use Rattle.law_machine.specs.Lists.{◌∈◌}
use Rattle.law_machine.specs.Machine.{StagePage, World, happens}
use Rattle.law_machine.specs.Safe.{Allowed, Safe}
use Rattle.law_machine.proofs.ClosedSets.{gt-leb}
use Rattle.law_machine.proofs.Parts.{each, each_two, with_same, grows, with_below, page_skips, still_exact, still_staged}

module _ (S : Shape) (Good : Root → (ℕ → Page) → Type 0) (frozen : ℕ → ℕ → ℕ → Bool) (opened : ℕ → Page)
    (local : (r : Root) (a b : ℕ → Page) → ((h : Place) → Covers S r h → b h.page ≡ a h.page)
    → ((e i : ℕ) → frozen e i (r.generations e) ≡ true → 0 < r.pointers e → Inside S e i
    → b (S.address e i) ≡ a (S.address e i)) → Good r a → Good r b) where
  pub keeps_page : (w : World) (p : ℕ) (b : Page) → Allowed S Good frozen opened w (StagePage p b)
      → Safe S Good frozen opened w → Safe S Good frozen opened (happens S w (StagePage p b))
  keeps_page w p b next s = record {
    guards = record {
      guarded = λ r is h held. record {
        kept = each _ _ _ (λ at. inr (later r is h held at)) (s.guarded r is h held).kept;
        recorded = (s.guarded r is h held).recorded;
      };
      needed = s.needed;
      earlier = λ r u is has ver q up. (
        (s.earlier r u is has ver q up).0,
        each _ _ _ (λ bound. absurd (let old : u.writes ≤ w.written = (s.superblocks_below u has).1 in omega arith))
            (s.earlier r u is has ver q up).1,
      );
      earlier_pages = λ r x is. each _ _ _
          (λ bound. absurd (let old : r.pages ≤ w.written = s.pages_below r is in omega arith))
          (λ y. s.earlier_pages r y is) x;
    };
    reads = record {
      good = λ r is. local r _ _ (λ h held. skips r is h.page) (λ d i fz some inside. skips r is (S.address d i))
          (s.good r is);
      rewritten = each_two _ _ _ (λ at after. absurd (omega arith))
          (λ y has at after. absurd (let old : y.number ≤ w.written = s.writes_below y has in omega arith))
          (λ x has at after. ⊎_elim
          (λ (below : S.index x.page < w.extents.pointer (S.extent x.page)). absurd
          (let there : S.index p < w.extents.pointer (S.extent p) = subst
          (λ (q : ℕ). S.index q < w.extents.pointer (S.extent q)) at below in omega arith))
          (λ old. (old.0, old.1, old.2 ∙ ap (λ (q : ℕ). w.extents.reset (S.extent q)) at, old.3))
          (s.written_once x has)) s.rewritten;
      written_later = λ r is d i fz some. each _ _ _
          (λ at place. (
            ⊎_elim (λ (still_there : r.generations d ≡ w.extents.generation d). absurd
                (thawed d i at place (subst (λ (n : ℕ). frozen d i n ≡ true) still_there fz)))
                (λ (reset : r.version < w.extents.reset d). subst (λ (n : ℕ). r.version < w.extents.reset n)
                (sym at) reset) (s.same_or_reset r is d some),
            (let below : r.writes (S.section d) ≤ w.written = (s.roots_below r is).2 (S.section d) in omega arith),
          ))
          (s.written_later r is d i fz some);
    };
    since_resets = record {
      fresh = λ r is h held. ⊎_elim
          (λ (rec : Records S w.extents.pointer w.extents.generation h). inl
          (record {
            generation = rec.generation;
            below = le_trans rec.below (grows w.extents.pointer e (suc (S.index p)) (S.extent h.page) up);
          }))
          (λ (x : r.version < w.extents.reset (S.extent h.page)). inr x) (s.fresh r is h held);
      same_or_reset = s.same_or_reset;
      written_once = each _ _ _
          (inl (subst (λ (n : ℕ). S.index p < n) (sym (with_same w.extents.pointer e (suc (S.index p)) e refl))
          (le_refl _)))
          (λ x has. ⊎_elim (λ (below : S.index x.page < w.extents.pointer (S.extent x.page)). inl
          (le_trans below (grows w.extents.pointer e (suc (S.index p)) (S.extent x.page) up))) (λ old. inr old)
          (s.written_once x has));
      unwritten = λ d i fz. each _ _ _ (λ at place. thawed d i at place fz) (s.unwritten d i fz);
    };
    extents = record {
      extents_fit = λ d. (
        with_below w.extents.pointer e (suc (S.index p)) d S.pages next.2 (s.extents_fit d).0,
        (s.extents_fit d).1,
      );
      resets_there = s.resets_there;
      frozen_before = s.frozen_before;
    };
    writes_rise = record {
      writes_order = (
        (λ y has. let old : y.number ≤ w.written = s.writes_below y has in omega arith),
        s.writes_order,
      );
      writes_from_one = each _ _ _ (omega arith) s.writes_from_one;
      writes_below = each _ _ _ (le_refl _)
          (λ x has. let old : x.number ≤ w.written = s.writes_below x has in omega arith);
      frames = each _ _ _ next.1 s.frames;
    };
    superblocks_rise = s.superblocks_rise;
    recorded_below = s.recorded_below;
    roots_rise = s.roots_rise;
    below = record {
      superblocks_below = λ u has. (
        (s.superblocks_below u has).0,
        (let old : u.writes ≤ w.written = (s.superblocks_below u has).1 in omega arith),
      );
      roots_below = λ r is. (
        (s.roots_below r is).0,
        (s.roots_below r is).1,
        λ j. (let old : r.writes j ≤ w.written = (s.roots_below r is).2 j in omega arith),
      );
      pages_below = λ r is. (let old : r.pages ≤ w.written = s.pages_below r is in omega arith);
      behind_below = λ j. (let old : w.behind j ≤ w.written = s.behind_below j in omega arith);
    };
    by_rule = s.by_rule;
    needs = record {
      write_roots = each _ _ _ (s.reset_roots (S.extent p)) s.write_roots;
      superblock_roots = s.superblock_roots;
      reset_roots = s.reset_roots;
    };
    there = s.there;
    round = record {
      closed = record {
        write_root = each _ _ _
            (λ has. absurd (let old : suc w.written ≤ w.written = s.staged.writes _ has in omega arith))
            s.closed.write_root;
        superblock_root = s.closed.superblock_root;
        superblock_writes = λ u x has. each _ _ _
            (λ v sec bound. absurd (let old : u.writes ≤ w.written = (s.superblocks_below u has).1 in omega arith))
            (λ y. s.closed.superblock_writes u y has) x;
        root_superblocks = s.closed.root_superblocks;
        root_writes = λ r x is. each _ _ _
            (λ v bound. absurd (let old : r.pages ≤ w.written = s.pages_below r is in omega arith))
            (λ y. s.closed.root_writes r y is) x;
      };
      exact = still_exact s.exact (λ u has. has) (λ r has. has);
      round_exact = still_exact s.round_exact (λ u has. has) (λ r has. has);
      staged = still_staged s.staged (omega arith) (λ j. le_refl _) (le_refl _);
      round_staged = still_staged s.round_staged (omega arith) (λ j. le_refl _) (le_refl _);
      within = s.within;
      ready = record {
        writes = each _ _ _
            (λ has. absurd (let old : suc w.written ≤ w.written = s.round_staged.writes _ has in omega arith))
            s.ready.writes;
        superblock_root = s.ready.superblock_root;
        superblock_writes = λ u x has. each _ _ _
            (λ v sec bound. absurd (let old : u.writes ≤ w.written = (s.superblocks_below u has).1 in omega arith))
            (λ y. s.ready.superblock_writes u y has) x;
        roots = s.ready.roots;
        root_writes = λ r x is. each _ _ _
            (λ v bound. absurd (let old : r.pages ≤ w.written = s.pages_below r is in omega arith))
            (λ y. s.ready.root_writes r y is) x;
      };
    };
  }
    where
      e : ℕ
      e = S.extent p

      new : Write
      new = record { number = suc w.written; page = p; bytes = b; root = w.extents.reset (S.extent p) }

      thawed : (d i : ℕ) → S.extent p ≡ d → S.index p ≡ i → frozen d i (w.extents.generation d) ≡ true → ⊥
      thawed d i at place fz = true≢false (sym (subst₂ (λ (n k : ℕ). frozen n k (w.extents.generation n) ≡ true) (sym at)
          (sym place) fz) ∙ next.3)

      skips : (r : Root) → r ∈ roots_of w.elements → (q : ℕ)
          → page_in (held_by r (section_of S q)) opened (new ∷ writes_of w.elements) q ≡ page_in
          (held_by r (section_of S q)) opened (writes_of w.elements) q
      skips r is q = page_skips (held_by r (section_of S q)) opened new (writes_of w.elements) q
          (gt-leb _ _ (let below : r.writes (section_of S q) ≤ w.written = (s.roots_below r is).2
          (section_of S q) in omega arith))

      up : w.extents.pointer (S.extent p) ≤ suc (S.index p)
      up = omega (arith, next.0)

      later : (r : Root) → r ∈ roots_of w.elements → (h : Place) → Covers S r h → p ≡ h.page
          → r.version < w.extents.reset (S.extent p)
      later r is h held at = ⊎_elim
          (λ (rec : Records S w.extents.pointer w.extents.generation h). absurd
          (let below : S.index p < w.extents.pointer (S.extent p) = subst
          (λ (q : ℕ). S.index q < w.extents.pointer (S.extent q)) (sym at) rec.below in omega arith))
          (λ (x : r.version < w.extents.reset (S.extent h.page)). subst
          (λ (q : ℕ). r.version < w.extents.reset (S.extent q)) (sym at) x)
          (s.fresh r is h held)
