-- Staging a root keeps what makes a crash safe.
use Rattle.std.proofs.Common.{Bool, ◌≡◌, inl, inr, ⊎_elim, ℕ, suc, ◌<◌, ◌≤◌, true, if◌then◌else◌, List, le_of_eq, le_refl, le-leb, true≢false, refl, sym, ap, ◌∙◌, subst, arith}
use Rattle.std.proofs.lemmas.Bool.{cases_Bool, cases_eq}
use Rattle.law_machine.specs.Cut.{held_by, page_in, section_of}
use Rattle.law_machine.specs.Device.{Inside, Page, Place, Shape}
use Rattle.law_machine.specs.Element.{Map, Root, Run, log_of, writes_of}
use Rattle.law_machine.specs.Guard.{Covers, Needed, Records, page_as_staged}
use Rattle.law_machine.specs.Machine.{StageRoot, World, everything, happens, root_now}
use Rattle.law_machine.specs.Safe.{Allowed, Safe}
use Rattle.law_machine.proofs.ClosedSets.{page_same}
use Rattle.law_machine.proofs.Parts.{below_chosen, chosen_below, each, each_two, still_exact, still_staged}

module _ (S : Shape) (Good : Root → (ℕ → Page) → Type 0) (frozen : ℕ → ℕ → ℕ → Bool) (opened : ℕ → Page)
    (local : (r : Root) (a b : ℕ → Page) → ((h : Place) → Covers S r h → b h.page ≡ a h.page)
    → ((e i : ℕ) → frozen e i (r.generations e) ≡ true → 0 < r.pointers e → Inside S e i
    → b (S.address e i) ≡ a (S.address e i)) → Good r a → Good r b) where
  pub keeps_root : (w : World) (n : ℕ) (runs : List Run) (m : Map) (pointers : ℕ → ℕ)
      → Allowed S Good frozen opened w (StageRoot n runs m pointers) → Safe S Good frozen opened w
      → Safe S Good frozen opened (happens S w (StageRoot n runs m pointers))
  keeps_root w n runs m pointers next s = record {
    guards = record {
      guarded = each _ _ _
          (λ h has. let settled = next.0 (S.extent h.page) in let rec = given h has in record {
            kept = λ x is at. inl (settled.pages x is (ap S.extent at));
            recorded = λ u is sec ver. inl (⊎_elim
                (λ same. record {
                  generation = same.1 ∙ rec.generation;
                  below = subst (λ (p : ℕ). S.index h.page < p) (sym same.0) rec.below;
                })
                (λ (zero_there : w.extents.pointer (S.extent h.page) ≡ 0). absurd
                (let below : S.index h.page < w.extents.pointer (S.extent h.page) = rec.below in omega arith))
                (settled.current u is sec ver));
          })
          (λ r is h has. let g = s.guarded r is h has in record { kept = g.kept; recorded = g.recorded });
      needed = each _ _ _ counted s.needed;
      earlier = λ r u is has. each _ _ _
          (λ ver k up. (
            (let old : u.root ≤ w.root = s.superblock_roots u has in omega arith),
            (λ x has_x bound. (let old : x.root ≤ w.root = s.write_roots x has_x in omega arith)),
          ))
          (λ q is_q. s.earlier q u is_q has) r is;
      earlier_pages = λ r x is has. each _ _ _
          (λ bound k up. (let old : x.root ≤ w.root = s.write_roots x has in omega arith))
          (λ q is_q. s.earlier_pages q x is_q has) r is;
    };
    reads = record {
      good = each _ _ _
          (local new all (page_as_staged S new opened (writes_of w.elements)) (λ h has. every h.page)
          (λ d i fz some inside. every (S.address d i)) next.2)
          s.good;
      rewritten = λ x y is_x is_y at after. (let old = s.rewritten x y is_x is_y at after in
          (old.0, inr old.1, old.2, old.3));
      written_later = each _ _ _ (λ d i fz some x has at place. absurd (s.unwritten d i fz x has at place)) s.written_later;
    };
    since_resets = record {
      fresh = each _ _ _ (λ h has. inl (given h has)) s.fresh;
      same_or_reset = each _ _ _ (λ d some. inl refl) s.same_or_reset;
      written_once = λ x has. ⊎_elim (λ below. inl below) (λ old. inr (old.0, inr old.1, old.2, old.3))
          (s.written_once x has);
      unwritten = s.unwritten;
    };
    extents = s.extents;
    writes_rise = s.writes_rise;
    superblocks_rise = s.superblocks_rise;
    recorded_below = s.recorded_below;
    roots_rise = record {
      roots_order = ((λ r has. let old : r.version ≤ w.root = (s.roots_below r has).0 in omega arith), s.roots_order);
      nested_roots = each_two _ _ _ (λ v j. le_refl _)
          (λ q is v. absurd (let old : q.version ≤ w.root = (s.roots_below q is).0 in omega arith))
          (λ r is v. (s.roots_below r is).1) s.nested_roots;
      nested_pages = each_two _ _ _ (λ v. le_refl _)
          (λ q is v. absurd (let old : q.version ≤ w.root = (s.roots_below q is).0 in omega arith))
          (λ r is v. below_chosen S.pages_first 0 w.written r.pages
          (λ first. le_of_eq (s.no_root_pages first r is)) (λ later. s.pages_below r is)) s.nested_pages;
      counts = each_two _ _ _ (λ v. le_refl _)
          (λ q is v. absurd (let old : q.version ≤ w.root = (s.roots_below q is).0 in omega arith))
          (λ r is v. next.3 r is) s.counts;
    };
    below = record {
      superblocks_below = s.superblocks_below;
      roots_below = each _ _ _ (le_refl _, (λ j. le_refl _), s.behind_below)
          (λ r is. (
            (let old : r.version ≤ w.root = (s.roots_below r is).0 in omega arith),
            (s.roots_below r is).1,
            (s.roots_below r is).2,
          ));
      pages_below = each _ _ _ (chosen_below S.pages_first 0 w.written w.written (omega arith) (le_refl _))
          s.pages_below;
      behind_below = s.behind_below;
    };
    by_rule = record {
      no_root_pages = λ first. each _ _ _ (ap (λ (b : Bool). if b then 0 else w.written) first)
          (s.no_root_pages first);
      no_superblock_writes = s.no_superblock_writes;
    };
    needs = record {
      write_roots = λ x has. (let old : x.root ≤ w.root = s.write_roots x has in omega arith);
      superblock_roots = λ u has. (let old : u.root ≤ w.root = s.superblock_roots u has in omega arith);
      reset_roots = λ e. (let old : w.extents.reset e ≤ w.root = s.reset_roots e in omega arith);
    };
    there = record {
      superblocks_there = s.superblocks_there;
      roots_there = λ k lo hi. elim (cases_eq k (suc w.root)) [
        | inl last ↦ (new, inl refl, sym last)
        | inr not ↦ (let old = s.roots_there k lo (omega arith) in (old.0, inr old.1, old.2))
      ];
    };
    round = record {
      closed = record {
        write_root = s.closed.write_root;
        superblock_root = s.closed.superblock_root;
        superblock_writes = s.closed.superblock_writes;
        root_superblocks = each _ _ _
            (λ v. absurd (let old : w.persistent.root ≤ w.root = s.staged.root in omega arith))
            s.closed.root_superblocks;
        root_writes = λ r x is has. each _ _ _
            (λ v. absurd (let old : w.persistent.root ≤ w.root = s.staged.root in omega arith))
            (λ q is_q. s.closed.root_writes q x is_q has) r is;
      };
      exact = still_exact s.exact (λ u has. has) (λ r has. inr has);
      round_exact = still_exact s.round_exact (λ u has. has) (λ r has. inr has);
      staged = still_staged s.staged (le_refl _) (λ j. le_refl _) (omega arith);
      round_staged = still_staged s.round_staged (le_refl _) (λ j. le_refl _) (omega arith);
      within = s.within;
      ready = record {
        writes = s.ready.writes;
        superblock_root = s.ready.superblock_root;
        superblock_writes = s.ready.superblock_writes;
        roots = each _ _ _
            (λ v. absurd (let old : w.round.root ≤ w.root = s.round_staged.root in omega arith)) s.ready.roots;
        root_writes = λ r x is has. each _ _ _
            (λ v. absurd (let old : w.round.root ≤ w.root = s.round_staged.root in omega arith))
            (λ q is_q. s.ready.root_writes q x is_q has) r is;
      };
    };
  }
    where
      new : Root
      new = root_now S w n runs m pointers

      -- it counts on no more than the last versions need, or than it needs itself
      counted : (e : ℕ) → Needed S (log_of w.elements) new e
      counted e = let last = (next.0 e).last in (
        last.0,
        last.1,
        last.2,
        last.3,
        elim (cases_Bool S.pages_first) [
          | inl first ↦ inl (last.4 first)
          | inr later ↦ inr (below_chosen S.pages_first 0 w.written (w.behind last.0.section)
              (λ first. absurd (true≢false (sym first ∙ later))) (λ not. s.behind_below last.0.section))
        ],
      )

      all : ℕ → Page
      all = page_in (everything w) opened (writes_of w.elements)

      every : (q : ℕ) → page_as_staged S new opened (writes_of w.elements) q ≡ page_in (everything w) opened
          (writes_of w.elements) q
      every q = page_same (held_by new (section_of S q)) (everything w) opened (writes_of w.elements) q
          (λ x is at. le-leb _ _ ((next.0 (S.extent q)).pages x is (ap S.extent at)))

      given : (h : Place) → Covers S new h → Records S w.extents.pointer w.extents.generation h
      given h c = record {
        generation = c.generation;
        below = ⊎_elim (λ (is : pointers (S.extent h.page) ≡ w.extents.pointer (S.extent h.page)). subst
            (λ (k : ℕ). S.index h.page < k) is c.below)
            (λ (none : pointers (S.extent h.page) ≡ 0). absurd
            (let below : S.index h.page < pointers (S.extent h.page) = c.below in omega arith))
            (next.1 (S.extent h.page));
      }
