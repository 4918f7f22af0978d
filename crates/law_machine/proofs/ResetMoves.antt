-- Resetting an extent keeps what makes a crash safe.
use Rattle.std.proofs.Common.{Bool, ◌≡◌, ◌≢◌, ◌⊎◌, false, ◌==◌, eq-eqb, ne_eqb, inl, inr, ⊎_elim, ℕ, suc, ◌<◌, ◌≤◌, true, le_trans, le_refl, sym, ap, subst, arith}
use Rattle.std.proofs.lemmas.Bool.{cases_eq, cases_lt}
use Rattle.law_machine.specs.Cut.{section_of}
use Rattle.law_machine.specs.Device.{Inside, Page, Place, Shape}
use Rattle.law_machine.specs.Element.{Root, Write, roots_of, writes_of}
use Rattle.law_machine.specs.Guard.{Covers}
use Rattle.law_machine.specs.Lists.{with, ◌∈◌}
use Rattle.law_machine.specs.Machine.{ResetExtent, World, happens}
use Rattle.law_machine.specs.Safe.{Allowed, FitsExtent, Safe}
use Rattle.law_machine.proofs.Parts.{grows, with_below}

module _ (S : Shape) (Good : Root → (ℕ → Page) → Type 0) (frozen : ℕ → ℕ → ℕ → Bool) (opened : ℕ → Page)
    (local : (r : Root) (a b : ℕ → Page) → ((h : Place) → Covers S r h → b h.page ≡ a h.page)
    → ((e i : ℕ) → frozen e i (r.generations e) ≡ true → 0 < r.pointers e → Inside S e i
    → b (S.address e i) ≡ a (S.address e i)) → Good r a → Good r b) where
  pub keeps_reset : (w : World) (e : ℕ) → Allowed S Good frozen opened w (ResetExtent e)
      → Safe S Good frozen opened w → Safe S Good frozen opened (happens S w (ResetExtent e))
  keeps_reset w e next s = record {
    guards = s.guards;
    reads = s.reads;
    since_resets = record {
      fresh = λ r is h held. ⊎_elim (λ x. inl (record { generation = x.0; below = x.1 })) (λ x. inr x)
          (changed (λ p g t. ((g ≡ h.generation) × (S.index h.page < p)) ⊎ (r.version < t)) (S.extent h.page)
          (λ there. inr (before r is (subst (λ (i : ℕ). 0 < r.pointers i) there (omega (arith, held.below)))))
          (λ not. ⊎_elim (λ rec. inl (rec.generation, rec.below)) (λ x. inr x) (s.fresh r is h held)));
      same_or_reset = λ r is d some. changed (λ p g t. (r.generations d ≡ g) ⊎ (r.version < t)) d
          (λ there. inr (before r is (subst (λ (i : ℕ). 0 < r.pointers i) there some)))
          (λ not. s.same_or_reset r is d some);
      written_once = λ x has. changed (λ p g t. (S.index x.page < p)
          ⊎ ((r : Root) × (r ∈ roots_of w.elements) × (r.version ≡ t) × (x.number ≤ r.writes (section_of S x.page))))
          (S.extent x.page)
          (λ there. inr (
            next.1.0,
            next.1.1,
            next.1.2,
            subst (λ (i : ℕ). x.number ≤ next.1.0.writes (S.section i)) (sym there) (next.1.3 x has there),
          ))
          (λ not. s.written_once x has);
      unwritten = λ d i. changed (λ p g t. frozen d i g ≡ true → (x : Write) → x ∈ writes_of w.elements
          → S.extent x.page ≡ d → S.index x.page ≡ i → ⊥) d
          (λ there fz x has at place. let le : suc (w.extents.generation e) ≤ w.extents.generation d = s.frozen_before d i _ fz in
          let ge : w.extents.generation d ≡ w.extents.generation e = ap w.extents.generation there in omega arith)
          (λ not. s.unwritten d i);
    };
    extents = record {
      extents_fit = λ d. changed (λ p g t. FitsExtent S p g) d (λ there. (omega arith, next.2)) (λ not. s.extents_fit d);
      resets_there = λ d out. changed (λ p g t. t ≡ 0) d
          (λ there. absurd (let lt : e < S.extents = next.3 in omega arith)) (λ not. s.resets_there d out);
      frozen_before = λ d i g fz. le_trans (s.frozen_before d i g fz)
          (grows w.extents.generation e (suc (w.extents.generation e)) d (omega arith));
    };
    writes_rise = s.writes_rise;
    superblocks_rise = s.superblocks_rise;
    recorded_below = s.recorded_below;
    roots_rise = s.roots_rise;
    below = s.below;
    by_rule = s.by_rule;
    needs = record {
      write_roots = s.write_roots;
      superblock_roots = s.superblock_roots;
      reset_roots = λ d. with_below w.extents.reset e w.root d w.root (le_refl _) (s.reset_roots d);
    };
    there = s.there;
    round = s.round;
  }
    where
      -- what holds of the extent that is reset, and of the others as they were, holds of all
      changed : (P : ℕ → ℕ → ℕ → Type 0) (d : ℕ) → (d ≡ e → P 0 (suc (w.extents.generation e)) w.root)
          → (d ≢ e → P (w.extents.pointer d) (w.extents.generation d) (w.extents.reset d))
          → P (with w.extents.pointer e 0 d) (with w.extents.generation e (suc (w.extents.generation e)) d)
          (with w.extents.reset e w.root d)
      changed P d at others = elim (cases_eq d e) [
        | inl there ↦ let test : (d == e) ≡ true = eq-eqb d e there in rw test (at there)
        | inr not ↦ let test : (d == e) ≡ false = ne_eqb d e not in rw test (others not)
      ]

      -- a root that locates something there isn't the last
      before : (r : Root) → r ∈ roots_of w.elements → 0 < r.pointers e → r.version < w.root
      before r is some = ⊎_elim (λ (lower : r.version < w.root). lower)
          (λ (above : w.root ≤ r.version). absurd (let none : r.pointers e ≡ 0 = next.0 r is above in omega arith))
          (cases_lt r.version w.root)
