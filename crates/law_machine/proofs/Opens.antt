-- A store that is opened on what a crash left is sound.
use Rattle.std.proofs.Common.{nat_lt, ◌==◌, ◌&&◌, ◌-◌, Some, None, eq-eqb, eqb-true, lt-ltb, ◌≡◌, inl, inr, ℕ, zero, suc, List, ◌+◌, ◌<◌, ◌≤◌, [], ◌∷◌, le_of_eq, le_refl, true≢false, refl, sym, ap, ◌∙◌, subst, arith, Bool, if◌then◌else◌, true, false, ◌||◌, ◌⊎◌, ⊎_elim}
use Rattle.std.proofs.lemmas.Bool.{cases_eq, false_from_ne_true}
use Rattle.law_machine.specs.Tally.{lives_on}
use Rattle.law_machine.specs.Apart.{any_run_on, freed, named}
use Rattle.law_machine.proofs.ApartResets.{freed_sound}
use Rattle.law_machine.proofs.Named.{gives_named, unnamed_blank}
use Rattle.law_machine.specs.Cut.{page_in}
use Rattle.law_machine.specs.Device.{IsShape, Page, Shape}
use Rattle.law_machine.specs.Element.{Locator, Map, Root, RootBefore, Superblock, SuperblockBefore, Write, WriteBefore, roots_of, superblocks_of, writes_of}
use Rattle.law_machine.specs.Extents.{first_found, reach}
use Rattle.law_machine.specs.Formats.{ChunkFrame, Formats, damage_in, fault_for, limit_in, opening_in, pages_from}
use Rattle.law_machine.specs.Guard.{page_as_staged}
use Rattle.law_machine.specs.Index.{Gives, entries_of}
use Rattle.law_machine.specs.Lists.{Descends, ◌∈◌}
use Rattle.law_machine.specs.Machine.{everything}
use Rattle.law_machine.specs.Open.{extents_read, opened_state, opened_world, root_read, superblock_read, superblocks_read, state_read}
use Rattle.law_machine.specs.Recovery.{Recovers, RootGives}
use Rattle.law_machine.specs.Refusal.{Refusal}
use Rattle.law_machine.specs.Safe.{FitsExtent}
use Rattle.law_machine.specs.State.{State}
use Rattle.law_machine.specs.Sound.{Bounded, IsFilledUp, Sound}
use Rattle.law_machine.proofs.Filled.{reach_found, reach_off}
use Rattle.law_machine.proofs.Tests.{is_below, where_damaged}
use Rattle.law_machine.proofs.Parts.{each}
use Rattle.law_machine.proofs.RoundMoves.{none_out}
use Rattle.law_machine.proofs.Carries.{and_true, and_left, and_right}

module _ (S : Shape) (F : Formats) (shape : IsShape S) (img : ℕ → Page) (n : ℕ) (m : Map)
    (g : Recovers S F img n m) where
  is_read : (k : ℕ) (u : Superblock) → u ∈ superblocks_of (superblocks_read S F img n m g k)
      → (u ≡ superblock_read S F img n m g u.section) × (u.section < k)
  is_read zero u none = absurd none
  is_read (suc k) u (inl is) = (
    is ∙ ap (λ (v : Superblock). superblock_read S F img n m g v.section) (sym is),
    le_of_eq (ap (λ (v : Superblock). suc v.section) is),
  )
  is_read (suc k) u (inr has) = let old = is_read k u has in (old.0, let lt : u.section < k = old.1 in omega arith)

  there : (k j : ℕ) → j < k → superblock_read S F img n m g j ∈ superblocks_of (superblocks_read S F img n m g k)
  there zero j lt = absurd (omega arith)
  there (suc k) j lt = elim (cases_eq j k) [
    | inl same ↦ inl (ap (superblock_read S F img n m g) same)
    | inr not ↦ inr (there k j (omega arith))
  ]

  in_order : (k : ℕ) → Descends SuperblockBefore (superblocks_of (superblocks_read S F img n m g k))
  in_order zero = tt
  in_order (suc k) = (
    (λ u has sec. absurd (let lt : u.section < k = (is_read k u has).1 in
        let same : u.section ≡ k = sec in omega arith)),
    in_order k,
  )

  root_zero : (u : Superblock) → u ∈ superblocks_of (superblocks_read S F img n m g S.sections) → u.root ≡ 0
  root_zero u has = ap (λ (v : Superblock). v.root) (is_read S.sections u has).0

  writes_zero : (u : Superblock) → u ∈ superblocks_of (superblocks_read S F img n m g S.sections) → u.writes ≡ 0
  writes_zero u has = ap (λ (v : Superblock). v.writes) (is_read S.sections u has).0

  version_is : (u : Superblock) → u ∈ superblocks_of (superblocks_read S F img n m g S.sections)
      → u.version ≡ g.versions u.section
  version_is u has = ap (λ (v : Superblock). v.version) (is_read S.sections u has).0

  no_writes : (k : ℕ) → writes_of (superblocks_read S F img n m g k) ≡ []
  no_writes zero = refl
  no_writes (suc k) = no_writes k

  no_roots : (k : ℕ) → roots_of (superblocks_read S F img n m g k) ≡ []
  no_roots zero = refl
  no_roots (suc k) = no_roots k

  no_write : (x : Write) → x ∈ writes_of (superblocks_read S F img n m g S.sections) → ⊥
  no_write x has = subst (λ (ws : List Write). x ∈ ws) (no_writes S.sections) has

  no_root : (r : Root) → r ∈ roots_of (superblocks_read S F img n m g S.sections) → ⊥
  no_root r has = subst (λ (rs : List Root). r ∈ rs) (no_roots S.sections) has

  -- the root that was read is the only one
  only_root : (P : Root → Type 0) → P (root_read S F img n m g) → (r : Root)
      → r ∈ (root_read S F img n m g ∷ roots_of (superblocks_read S F img n m g S.sections)) → P r
  only_root P is = each P _ _ is (λ r none. absurd (no_root r none))

  as_read : (p : ℕ) → page_in (everything (opened_world S F img n m g)) img
      (writes_of (superblocks_read S F img n m g S.sections)) p ≡ img p
  as_read p = ap (λ (ws : List Write). page_in (everything (opened_world S F img n m g)) img ws p)
      (no_writes S.sections)

  -- the root's own pointers are those of the extents, but 0 where it names nothing
  root_pointers : (e : ℕ) → ((root_read S F img n m g).pointers e ≡ g.pointers e)
      ⊎ ((root_read S F img n m g).pointers e ≡ 0)
  root_pointers e = go S.apart
    where
      names : (b : Bool) → ((if b then g.pointers e else 0) ≡ g.pointers e) ⊎ ((if b then g.pointers e else 0) ≡ 0)
      names true = inl refl
      names false = inr refl

      go : (b : Bool) → ((if b then named g.pointers g.runs else g.pointers) e ≡ g.pointers e)
          ⊎ ((if b then named g.pointers g.runs else g.pointers) e ≡ 0)
      go true = names (nat_lt 0 (lives_on e (entries_of g.runs)) || any_run_on g.runs e)
      go false = inl refl

  root_below : (k e : ℕ) → k < (root_read S F img n m g).pointers e → k < g.pointers e
  root_below k e lt = ⊎_elim
      (λ (same : (root_read S F img n m g).pointers e ≡ g.pointers e). subst (λ (j : ℕ). k < j) same lt)
      (λ (none : (root_read S F img n m g).pointers e ≡ 0). absurd
      (let below : k < (root_read S F img n m g).pointers e = lt in omega arith)) (root_pointers e)

  root_gives : Gives S F (opening_in S F img g.pointers g.generations) img (root_read S F img n m g).pointers g.generations
      [] g.runs m
  root_gives = go S.apart refl
    where
      go : (b : Bool) → S.apart ≡ b → Gives S F (opening_in S F img g.pointers g.generations) img
          (if b then named g.pointers g.runs else g.pointers) g.generations [] g.runs m
      go true on = gives_named S F (shape.apart on).0 img g.pointers g.generations g.runs m g.gives
      go false before = g.gives

  test_passed : (l : Locator) (f : Refusal) → damage_in S F img g.pointers g.generations l ≡ Some f
      → (((g.generations l.extent == l.generation) && nat_lt l.page (g.pointers l.extent)) ≡ true)
      × (fault_for S F ChunkFrame l.mark (pages_from S F img l.extent l.page (limit_in S F g.pointers g.generations l - l.page)) ≡ Some f)
  test_passed l f is = where_damaged ((g.generations l.extent == l.generation) && nat_lt l.page (g.pointers l.extent))
      (fault_for S F ChunkFrame l.mark (pages_from S F img l.extent l.page (limit_in S F g.pointers g.generations l - l.page))) f is

  frozen_given : (e i : ℕ) → (opening_in S F img g.pointers g.generations).frozen e i (g.generations e) ≡ true → 0 < g.pointers e
  frozen_given e i fz = let lt : first_found S i < g.pointers e = is_below (first_found S i) (g.pointers e)
      (and_right (g.generations e == g.generations e) (nat_lt (first_found S i) (g.pointers e)) fz) in omega arith

  -- of a locator that passes
  module _ (l : Locator) (same : g.generations l.extent ≡ l.generation) (lt : l.page < g.pointers l.extent) where
    limit_full : S.fills ≡ true → limit_in S F g.pointers g.generations l ≡ g.pointers l.extent
    limit_full on = ap (λ (n : ℕ). reach S n l.page) (let test : (g.generations l.extent == l.generation) ≡ true =
        eq-eqb (g.generations l.extent) l.generation same in rw test refl) ∙ reach_found S (g.pointers l.extent) l.page on lt

    limit_off : S.fills ≡ false → limit_in S F g.pointers g.generations l ≡ S.pages
    limit_off off = reach_off S (if g.generations l.extent == l.generation then g.pointers l.extent else 0) l.page off

    page_within : (b : Bool) → S.fills ≡ b → l.page < limit_in S F g.pointers g.generations l
    page_within true on = subst (λ (n : ℕ). l.page < n) (sym (limit_full on)) lt
    page_within false off = subst (λ (n : ℕ). l.page < n) (sym (limit_off off))
        (let low : g.pointers l.extent ≤ S.pages = (g.extents_fit l.extent).0 in omega arith)

    up_to_limit : (i : ℕ) (b : Bool) → S.fills ≡ b → i < limit_in S F g.pointers g.generations l
        → ((g.generations l.extent == l.generation) && nat_lt (if b then i else 0) (g.pointers l.extent)) ≡ true
    up_to_limit i true on below = and_true (g.generations l.extent == l.generation) (nat_lt i (g.pointers l.extent))
        (eq-eqb (g.generations l.extent) l.generation same)
        (lt-ltb i (g.pointers l.extent) (subst (λ (n : ℕ). i < n) (limit_full on) below))
    up_to_limit i false off below = and_true (g.generations l.extent == l.generation) (nat_lt 0 (g.pointers l.extent))
        (eq-eqb (g.generations l.extent) l.generation same) (lt-ltb 0 (g.pointers l.extent) (omega arith))

  filled_at_open : S.fills ≡ true → IsFilledUp S F (opening_in S F img g.pointers g.generations) g.pointers g.generations
      (if S.apart then g.pointers else λ e. 0)
      (root_read S F img n m g ∷ roots_of (superblocks_read S F img n m g S.sections))
  filled_at_open on = subst (λ (f : ℕ → ℕ). IsFilledUp S F (opening_in S F img g.pointers g.generations) g.pointers
      g.generations f (root_read S F img n m g ∷ roots_of (superblocks_read S F img n m g S.sections))) (sym (ap (λ (b : Bool). if b then g.pointers else λ (d : ℕ). 0) (shape.fills on))) (record {
        thawed = λ e k. false_from_ne_true ((opening_in S F img g.pointers g.generations).frozen e S.pages k) (λ fz. absurd
            (let lt : S.pages < g.pointers e = full_found e S.pages k fz on in
            let low : g.pointers e ≤ S.pages = (g.extents_fit e).0 in omega arith));
        given = λ e. le_refl _;
        frozen = λ e i fz. full_found e i (g.generations e) fz on;
        counted = only_root _ (λ e i fz some. (let lt : i < g.pointers e = full_found e i (g.generations e) fz on in
            ⊎_elim (λ (same : (root_read S F img n m g).pointers e ≡ g.pointers e). subst (λ (k : ℕ). i < k) (sym same) lt)
            (λ (none : (root_read S F img n m g).pointers e ≡ 0). absurd (omega arith)) (root_pointers e)));
        limits = λ l young. refl;
      })
    where
      full_found : (e i k : ℕ) → (opening_in S F img g.pointers g.generations).frozen e i k ≡ true → S.fills ≡ true → i < g.pointers e
      full_found e i k fz is = is_below i (g.pointers e) (subst (λ (c : Bool). nat_lt (if c then i else 0) (g.pointers e) ≡ true)
          is (and_right (g.generations e == k) (nat_lt (first_found S i) (g.pointers e)) fz))

  read_sound : Sound S F (state_read S F img n m g)
  read_sound = record {
    safe = record {
      guards = record {
        guarded = only_root _
            (λ h c. record {
              kept = λ w none. absurd (no_write w none);
              recorded = λ u has sec ver. inl
                  (record {
                    generation = ap (λ (v : Superblock). v.generations (S.extent h.page))
                        (is_read S.sections u has).0 ∙ c.generation;
                    below = subst (λ (k : ℕ). S.index h.page < k)
                        (ap (λ (v : Superblock). v.pointers (S.extent h.page)) (sym (is_read S.sections u has).0))
                        (root_below (S.index h.page) (S.extent h.page) c.below);
                  });
            });
        needed = only_root _
            (λ e. (
              superblock_read S F img n m g (S.section e),
              there S.sections (S.section e) (shape.section e),
              refl,
              refl,
              inl (le_refl _),
            ));
        earlier = λ r u is has ver q up. (
          subst (λ (k : ℕ). k ≤ q) (sym (root_zero u has)) (omega arith),
          λ x none. absurd (no_write x none),
        );
        earlier_pages = λ r x is none. absurd (no_write x none);
      };
      reads = record {
        good = only_root _
            (subst (λ (ws : List Write). RootGives S F (opening_in S F img g.pointers g.generations)
            (root_read S F img n m g) (page_as_staged S (root_read S F img n m g) img ws))
            (sym (no_writes S.sections)) (root_gives, g.root_fits, g.runs_fit, g.bounds));
        rewritten = λ x y none. absurd (no_write x none);
        written_later = λ r is e i fz some x none. absurd (no_write x none);
      };
      since_resets = record {
        fresh = only_root _ (λ h c. inl (record {
          generation = c.generation;
          below = root_below (S.index h.page) (S.extent h.page) c.below;
        }));
        same_or_reset = only_root _ (λ e some. inl refl);
        written_once = λ x none. absurd (no_write x none);
        unwritten = λ e i fz x none at. absurd (no_write x none);
      };
      extents = record {
        extents_fit = g.extents_fit;
        resets_there = λ e out. refl;
        frozen_before = λ e i k fz. le_of_eq
            (sym (eqb-true (g.generations e) k
            (and_left (g.generations e == k) (nat_lt (first_found S i) (g.pointers e)) fz)));
      };
      writes_rise = record {
        writes_order = subst (λ (ws : List Write). Descends WriteBefore ws) (sym (no_writes S.sections)) tt;
        writes_from_one = λ x none. absurd (no_write x none);
        writes_below = λ x none. absurd (no_write x none);
        frames = λ x none. absurd (no_write x none);
      };
      superblocks_rise = record {
        superblocks_order = in_order S.sections;
        nested_superblocks = λ u v is_u is_v sec ver. (
          le_of_eq (root_zero u is_u ∙ sym (root_zero v is_v)),
          le_of_eq (writes_zero u is_u ∙ sym (writes_zero v is_v)),
        );
        sections_there = λ u has. (is_read S.sections u has).1;
        superblocks_fit = λ u has. subst (λ (v : Superblock). (1 ≤ v.version) × (v.version ≤ S.greatest_number)
            × ((e : ℕ) → FitsExtent S (v.pointers e) (v.generations e))) (sym (is_read S.sections u has).0) (
              (g.versions_fit u.section (is_read S.sections u has).1).0,
              (g.versions_fit u.section (is_read S.sections u has).1).1,
              g.extents_fit,
            );
      };
      recorded_below = λ u has. subst (λ (k : ℕ). k ≤ g.version)
          (sym (ap (λ (v : Superblock). v.recorded) (is_read S.sections u has).0))
          (g.recorded_fit u.section (is_read S.sections u has).1);
      roots_rise = record {
        roots_order = (
          (λ r none. absurd (no_root r none)),
          subst (λ (rs : List Root). Descends RootBefore rs) (sym (no_roots S.sections)) tt,
        );
        nested_roots = λ r q is_r is_q ver j. le_of_eq (only r is_r j ∙ sym (only q is_q j));
        nested_pages = λ r q is_r is_q ver. le_of_eq (pages r is_r ∙ sym (pages q is_q));
        counts = λ r q is_r is_q ver. le_of_eq (count r is_r ∙ sym (count q is_q));
      };
      below = record {
        superblocks_below = λ u has. (le_of_eq (version_is u has), le_of_eq (writes_zero u has));
        roots_below = only_root _ (le_refl _, (λ j. le_refl _), (λ j. le_refl _));
        pages_below = λ r is. le_of_eq (pages r is);
        behind_below = λ j. le_refl _;
      };
      by_rule = record {
        no_root_pages = λ first. pages;
        no_superblock_writes = λ later. writes_zero;
      };
      needs = record {
        write_roots = λ x none. absurd (no_write x none);
        superblock_roots = λ u has. subst (λ (k : ℕ). k ≤ g.version) (sym (root_zero u has)) (omega arith);
        reset_roots = λ e. omega arith;
      };
      there = record {
        superblocks_there = λ j n lo hi. absurd (let a : g.versions j < n = lo in let b : n ≤ g.versions j = hi in
            omega arith);
        roots_there = λ n lo hi. absurd (let a : g.version < n = lo in let b : n ≤ g.version = hi in omega arith);
      };
      round = none_out S
          (record {
            write_root = λ w none. absurd (no_write w none);
            superblock_root = λ u has ver. subst (λ (k : ℕ). k ≤ g.version) (sym (root_zero u has)) (omega arith);
            superblock_writes = λ u w has none. absurd (no_write w none);
            root_superblocks = only_root _ (λ ver j. le_refl _);
            root_writes = λ r x is none. absurd (no_write x none);
          })
          (record {
            superblock = superblock_read S F img n m g;
            superblocks = λ j lt. (there S.sections j lt, refl, refl);
            root = (root_read S F img n m g, inl refl, refl);
          })
          (record {
            writes = λ k wrong. absurd (true≢false (sym wrong));
            superblocks = λ j. le_refl _;
            root = le_refl _;
          });
    };
    settled = λ e. record {
      last = (
        superblock_read S F img n m g (S.section e),
        there S.sections (S.section e) (shape.section e),
        refl,
        refl,
        λ first. le_refl _,
      );
      pages = λ x none. absurd (no_write x none);
      current = λ u has sec ver. inl (
        ap (λ (v : Superblock). v.pointers e) (is_read S.sections u has).0,
        ap (λ (v : Superblock). v.generations e) (is_read S.sections u has).0,
      );
    };
    gives = subst (λ (ws : List Write). Gives S F (opening_in S F img g.pointers g.generations)
        (page_in (everything (opened_world S F img n m g)) img ws) g.pointers g.generations [] g.runs m)
        (sym (no_writes S.sections)) g.gives;
    maps = only_root _ (0, le_refl _, (let e : n ≡ n + 0 = omega arith in e), refl);
    caught_up = λ none r is ver. (let e : n ≡ n + 0 = omega arith in count r is ∙ e);
    left = λ x none. absurd none;
    issued = λ x none. absurd none;
    complete = λ wrong. absurd (true≢false (sym wrong));
    once = tt;
    idle = λ off. (refl, refl, refl);
    swept = λ e wrong. absurd (true≢false (sym wrong));
    apart = λ on. record {
      found = λ e i fz. subst (λ (f : ℕ → ℕ). 0 < f e)
          (sym (ap (λ (b : Bool). if b then g.pointers else λ (d : ℕ). 0) on)) (frozen_given e i fz);
      one_sweep = λ d e wrong. absurd (true≢false (sym wrong));
      copied = λ some c none. absurd none;
    };
    frozen = λ off e i fz. (
      (λ same. let wrong : None ≡ Some e = same in cc),
      frozen_given e i fz,
    );
    damaged = λ l f is.
        (let at = test_passed l f is in
        let same : g.generations l.extent ≡ l.generation = eqb-true (g.generations l.extent) l.generation
        (and_left (g.generations l.extent == l.generation) (nat_lt l.page (g.pointers l.extent)) at.0) in
        let lt : l.page < g.pointers l.extent = is_below l.page (g.pointers l.extent)
        (and_right (g.generations l.extent == l.generation) (nat_lt l.page (g.pointers l.extent)) at.0) in (
          page_within l same lt S.fills refl,
          (λ i below. up_to_limit l same lt i S.fills refl below),
          at.1,
        ));
    shown = λ l. refl;
    unfilled = λ off l. reach_off S (if g.generations l.extent == l.generation then g.pointers l.extent else 0) l.page off;
    filled = filled_at_open;
  }
    where
      only : (r : Root) → r ∈ (root_read S F img n m g ∷ roots_of (superblocks_read S F img n m g S.sections))
          → (j : ℕ) → r.superblocks j ≡ g.versions j
      only = only_root _ (λ j. refl)

      pages : (r : Root) → r ∈ (root_read S F img n m g ∷ roots_of (superblocks_read S F img n m g S.sections))
          → r.pages ≡ 0
      pages = only_root _ refl

      count : (r : Root) → r ∈ (root_read S F img n m g ∷ roots_of (superblocks_read S F img n m g S.sections))
          → r.commands ≡ n
      count = only_root _ refl

  read_bounded : Bounded S F (state_read S F img n m g)
  read_bounded = record {
    bounds = record {
      some_version = g.bounds.some_version;
      version_fits = g.bounds.version_fits;
      commands_fit = (let old : n ≤ S.greatest_number = g.bounds.commands_fit in omega arith);
      few_runs = g.bounds.few_runs;
      weight_fits = g.bounds.weight_fits;
      chunks_fit = g.bounds.chunks_fit;
    };
    runs_fit = g.runs_fit;
    written_fits = omega arith;
  }

  -- the state as it was read, with extents that were reset by the rule or not
  abbrev with_extents : Bool → State
  with_extents b = record (state_read S F img n m g) {
    world = record (state_read S F img n m g).world {
      extents = if b then (freed S (state_read S F img n m g)).world.extents else extents_read S F img n m g;
    };
  }

  pub opens_sound : Sound S F (opened_state S F img n m g)
  opens_sound = go S.apart refl
    where
      go : (b : Bool) → S.apart ≡ b → Sound S F (with_extents b)
      go false before = read_sound
      go true on = freed_sound S F shape on (state_read S F img n m g) read_sound
          (λ e is. only_root _ (λ ver. subst (λ (f : ℕ → ℕ). f e ≡ 0)
          (sym (ap (λ (b : Bool). if b then named g.pointers g.runs else g.pointers) on))
          (unnamed_blank S (state_read S F img n m g) e g.pointers g.runs refl refl is)))
          (root_read S F img n m g, inl refl, refl, λ e x none. absurd (no_write x none))

  pub opens_bounded : Bounded S F (opened_state S F img n m g)
  opens_bounded = record {
    bounds = read_bounded.bounds;
    runs_fit = read_bounded.runs_fit;
    written_fits = read_bounded.written_fits;
  }
