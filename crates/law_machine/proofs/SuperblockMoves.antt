-- Staging a superblock version keeps what makes a crash safe.
use Rattle.std.proofs.Common.{Bool, ◌≡◌, inl, inr, ⊎_elim, ℕ, suc, ◌<◌, ◌≤◌, true, if◌then◌else◌, ◌∷◌, le_of_eq, le_trans, le_refl, refl, sym, ap, subst, arith}
use Rattle.std.proofs.lemmas.Bool.{cases_eq}
use Rattle.law_machine.specs.Device.{Inside, Page, Place, Shape}
use Rattle.law_machine.specs.Element.{Root, Superblock, superblocks_of}
use Rattle.law_machine.specs.Guard.{Covers, Records}
use Rattle.law_machine.specs.Lists.{with, ◌∈◌}
use Rattle.law_machine.specs.Machine.{StageSuperblock, World, happens, superblock_now}
use Rattle.law_machine.specs.Safe.{Allowed, Safe}
use Rattle.law_machine.proofs.Parts.{below_chosen, chosen_below, each, each_two, still_exact, still_staged, with_case, with_same, grows, with_below}

module _ (S : Shape) (Good : Root → (ℕ → Page) → Type 0) (frozen : ℕ → ℕ → ℕ → Bool) (opened : ℕ → Page)
    (local : (r : Root) (a b : ℕ → Page) → ((h : Place) → Covers S r h → b h.page ≡ a h.page)
    → ((e i : ℕ) → frozen e i (r.generations e) ≡ true → 0 < r.pointers e → Inside S e i
    → b (S.address e i) ≡ a (S.address e i)) → Good r a → Good r b) where
  pub keeps_superblock : (w : World) (j n : ℕ) → Allowed S Good frozen opened w (StageSuperblock j n)
      → Safe S Good frozen opened w → Safe S Good frozen opened (happens S w (StageSuperblock j n))
  keeps_superblock w j n next s = record {
    guards = record {
      guarded = λ r is h held. record {
        kept = (s.guarded r is h held).kept;
        recorded = each _ _ _
            (λ sec ver. ⊎_elim (λ (rec : Records S w.extents.pointer w.extents.generation h). inl rec)
            (λ (x : r.version < w.extents.reset (S.extent h.page)). inr
            (let above : w.extents.reset (S.extent h.page) ≤ n = next.0 (S.extent h.page) (sym sec) in
            omega arith)) (s.fresh r is h held))
            (s.guarded r is h held).recorded;
      };
      needed = λ r is e. (let old = s.needed r is e in (old.0, inr old.1, old.2, old.3, old.4));
      earlier = λ r u is has. each _ new (superblocks_of w.elements)
          (λ ver. absurd (let old : r.superblocks j ≤ w.superblocks j = (s.roots_below r is).1 j in omega arith))
          (λ v has_v. s.earlier r v is has_v) u has;
      earlier_pages = s.earlier_pages;
    };
    reads = s.reads;
    since_resets = s.since_resets;
    extents = s.extents;
    writes_rise = s.writes_rise;
    superblocks_rise = record {
      superblocks_order = (
        (λ u has sec. let old : u.version ≤ w.superblocks j = subst (λ (i : ℕ). u.version ≤ w.superblocks i) sec
            (s.superblocks_below u has).0 in omega arith),
        s.superblocks_order,
      );
      nested_superblocks = each_two _ _ _ (λ sec ver. (le_refl _, le_refl _))
          (λ v has sec ver. absurd
          (let old : v.version ≤ w.superblocks j = subst (λ (i : ℕ). v.version ≤ w.superblocks i) (sym sec)
          (s.superblocks_below v has).0 in omega arith))
          (λ u has sec ver. (
            next.1 u has sec,
            below_chosen S.pages_first w.written 0 u.writes (λ first. (s.superblocks_below u has).1)
                (λ later. le_of_eq (s.no_superblock_writes later u has)),
          )) s.nested_superblocks;
      sections_there = each _ _ _ next.2 s.sections_there;
      superblocks_fit = each _ _ _ (omega arith, next.4, s.extents_fit) s.superblocks_fit;
    };
    recorded_below = each _ _ _ (le_refl _) s.recorded_below;
    roots_rise = s.roots_rise;
    below = record {
      superblocks_below = each _ _ _ (
        le_of_eq (sym (with_same w.superblocks j _ j refl)),
        chosen_below S.pages_first w.written 0 w.written (le_refl _) (omega arith),
      )
          (λ u has. (le_trans (s.superblocks_below u has).0 (up u.section), (s.superblocks_below u has).1));
      roots_below = λ r is. (
        (s.roots_below r is).0,
        λ i. le_trans ((s.roots_below r is).1 i) (up i),
        (s.roots_below r is).2,
      );
      pages_below = s.pages_below;
      behind_below = λ i. with_below w.behind j w.written i w.written (le_refl _) (s.behind_below i);
    };
    by_rule = record {
      no_root_pages = s.no_root_pages;
      no_superblock_writes = λ later. each _ _ _ (ap (λ (b : Bool). if b then w.written else 0) later)
          (s.no_superblock_writes later);
    };
    needs = record {
      write_roots = s.write_roots;
      superblock_roots = each _ _ _ next.3 s.superblock_roots;
      reset_roots = s.reset_roots;
    };
    there = record {
      superblocks_there = λ i k lo. with_case (λ n. k ≤ n → (u : Superblock) × (u ∈ (new ∷ superblocks_of w.elements))
          × (u.section ≡ i) × (u.version ≡ k)) w.superblocks j (suc (w.superblocks j)) i
          (λ same hi. elim (cases_eq k (suc (w.superblocks j))) [
            | inl last ↦ (new, inl refl, sym same, sym last)
            | inr not ↦ before i k lo (subst (λ (x : ℕ). k ≤ w.superblocks x) (sym same) (omega arith))
          ])
          (λ not hi. before i k lo hi);
      roots_there = s.roots_there;
    };
    round = record {
      closed = record {
        write_root = s.closed.write_root;
        superblock_root = each _ _ _
            (λ v. absurd (let old : w.persistent.superblocks j ≤ w.superblocks j = s.staged.superblocks j in
            omega arith)) s.closed.superblock_root;
        superblock_writes = λ u x has. each _ _ _
            (λ m v. absurd (let old : w.persistent.superblocks j ≤ w.superblocks j = s.staged.superblocks j in
            omega arith)) (λ v. s.closed.superblock_writes v x) u has;
        root_superblocks = s.closed.root_superblocks;
        root_writes = s.closed.root_writes;
      };
      exact = still_exact s.exact (λ u has. inr has) (λ r has. has);
      round_exact = still_exact s.round_exact (λ u has. inr has) (λ r has. has);
      staged = still_staged s.staged (le_refl _) up (le_refl _);
      round_staged = still_staged s.round_staged (le_refl _) up (le_refl _);
      within = s.within;
      ready = record {
        writes = s.ready.writes;
        superblock_root = each _ _ _
            (λ v. absurd (let old : w.round.superblocks j ≤ w.superblocks j = s.round_staged.superblocks j in
            omega arith)) s.ready.superblock_root;
        superblock_writes = λ u x has. each _ _ _
            (λ m v. absurd (let old : w.round.superblocks j ≤ w.superblocks j = s.round_staged.superblocks j in
            omega arith)) (λ v. s.ready.superblock_writes v x) u has;
        roots = s.ready.roots;
        root_writes = s.ready.root_writes;
      };
    };
  }
    where
      new : Superblock
      new = superblock_now S w j n

      before : (i k : ℕ) → w.persistent.superblocks i < k → k ≤ w.superblocks i
          → (u : Superblock) × (u ∈ (new ∷ superblocks_of w.elements)) × (u.section ≡ i) × (u.version ≡ k)
      before i k lo hi = let old = s.superblocks_there i k lo hi in (old.0, inr old.1, old.2, old.3)

      up : (i : ℕ) → w.superblocks i ≤ with w.superblocks j (suc (w.superblocks j)) i
      up i = grows w.superblocks j (suc (w.superblocks j)) i (omega arith)
