-- A store that is opened has the machine's world at open.
use Rattle.std.proofs.Common.{◌≡◌, inl, inr, ⊎_elim, ℕ, zero, suc, ◌<◌, ◌≤◌, Bool, true, false, if◌then◌else◌, List, [], ◌∷◌, ◌++◌, length, true≢false, le_refl, le-leb, refl, sym, ap, ◌∙◌, subst, arith}
use Rattle.std.specs.Prelude.{slice_index}
use Rattle.cs_deps.specs.Staging.{Staging}
use Rattle.cs_deps.specs.State.{State as GraphState}
use Rattle.law_machine.specs.Cut.{Closed}
use Rattle.law_machine.specs.Device.{Page}
use Rattle.law_machine.specs.Element.{A_root, A_superblock, Element, Map, Root, Superblock, Write, log_of, roots_of, superblocks_of, writes_of}
use Rattle.law_machine.specs.Formats.{Formats}
use Rattle.law_machine.specs.Lists.{◌∈◌}
use Rattle.law_machine.specs.Machine.{World}
use Rattle.law_machine.specs.Open.{extents_read, opened_world, root_read, superblock_read, superblocks_read}
use Rattle.law_machine.specs.Recovery.{Recovers}
use Rattle.cs_extent.specs.Frames.{family_of}
use Rattle.cs_extent.specs.State.{State, extents_of, need_of, shape}
use Rattle.cs_reader.proofs.ByFamily.{length-by_family, root_in, section_in}
use Rattle.cs_reader.specs.Loads.{by_family}
use Rattle.law_refinement.specs.Bridge.{Matches, waiting_in}
use Rattle.law_refinement.proofs.Places.{to_waiting}
use Rattle.law_refinement.specs.Stores.{IsStagingOf, IsWorldOf}

-- the versions of the sections that were read, one a section
module _ (x : State) (g : GraphState) (F : Formats) (img : ℕ → Page) (n : ℕ) (m : Map) (found : Recovers (shape x) F img n m) (read : List ℕ) (some : 0 < (shape x).sections)
    (all : length read ≡ (shape x).sections) (versions : (j : ℕ) → j < (shape x).sections → found.versions j ≡ slice_index read j)
    (extents : extents_of x ≡ extents_read (shape x) F img n m found) where
  abbrev w : World
  w = opened_world (shape x) F img n m found

  abbrev by_number : List ℕ
  by_number = by_family read found.version

  abbrev start : Staging
  start = record { pending = record { persistent = by_number; waiting = [] }; staged = 0; latest = by_number }

  -- ---- the elements at open

  none_below : (k : ℕ) → waiting_in w.persistent (superblocks_read (shape x) F img n m found k) ≡ []
  none_below zero = refl
  none_below (suc k) = ap
      (λ (b : Bool). if b then waiting_in w.persistent (superblocks_read (shape x) F img n m found k)
      else waiting_in w.persistent (superblocks_read (shape x) F img n m found k) ++ A_superblock (superblock_read (shape x) F img n m found k) ∷ [])
      (le-leb (found.versions k) (found.versions k) (le_refl _)) ∙ none_below k

  none_waits : waiting_in w.persistent w.elements ≡ []
  none_waits = ap
      (λ (b : Bool). if b then waiting_in w.persistent (superblocks_read (shape x) F img n m found (shape x).sections)
      else waiting_in w.persistent (superblocks_read (shape x) F img n m found (shape x).sections) ++ A_root (root_read (shape x) F img n m found) ∷ [])
      (le-leb found.version found.version (le_refl _)) ∙ none_below (shape x).sections

  section_of_read : (k : ℕ) (u : Superblock) → u ∈ superblocks_of (superblocks_read (shape x) F img n m found k) → (j : ℕ) × (j < k) × (u ≡ superblock_read (shape x) F img n m found j)
  section_of_read zero u none = absurd none
  section_of_read (suc k) u (inl is) = (k, omega arith, is)
  section_of_read (suc k) u (inr has) = let old = section_of_read k u has in (old.0, (let lt : old.0 < k = old.1 in omega arith), old.2)

  -- what holds of each section that was read holds of each version
  of_all : (P : Superblock → Type 0) → ((j : ℕ) → j < (shape x).sections → P (superblock_read (shape x) F img n m found j)) → (u : Superblock) → u ∈ superblocks_of w.elements → P u
  of_all P each u has = let at = section_of_read (shape x).sections u has in subst P (sym at.2) (each at.0 at.1)

  no_write : (k : ℕ) (a : Write) → a ∈ writes_of (superblocks_read (shape x) F img n m found k) → ⊥
  no_write zero a none = none
  no_write (suc k) a has = no_write k a has

  no_root : (k : ℕ) (r : Root) → r ∈ roots_of (superblocks_read (shape x) F img n m found k) → ⊥
  no_root zero r none = none
  no_root (suc k) r has = no_root k r has

  -- and what holds of the root that was read of each root
  of_root : (P : Root → Type 0) → P (root_read (shape x) F img n m found) → (r : Root) → r ∈ roots_of w.elements → P r
  of_root P is r has = ⊎_elim
      (λ (here : r ≡ root_read (shape x) F img n m found). subst P (sym here) is)
      (λ (other : r ∈ roots_of (superblocks_read (shape x) F img n m found (shape x).sections)). absurd (no_root (shape x).sections r other))
      has

  -- ---- what the graph has of them

  families_at : length by_number ≡ suc (shape x).sections
  families_at = length-by_family read found.version ∙ ap suc all

  section_at : (j : ℕ) → j < (shape x).sections → slice_index by_number (family_of j) ≡ found.versions j
  section_at j lt = section_in read found.version j (subst (λ (k : ℕ). j < k) (sym all) lt) ∙ sym (versions j lt)

  root_at : slice_index by_number 1 ≡ found.version
  root_at = root_in read found.version (subst (λ (k : ℕ). 0 < k) (sym all) some)

  closed_at : Closed (shape x) (log_of w.elements) w.persistent
  closed_at = record {
    write_root = λ a has met. absurd (no_write (shape x).sections a has);
    superblock_root = λ u has met. of_all (λ (v : Superblock). v.root ≤ found.version) (λ j lt. omega arith) u has;
    superblock_writes = λ u a has has_a met sec bound. absurd (no_write (shape x).sections a has_a);
    root_writes = λ r a has has_a met bound. absurd (no_write (shape x).sections a has_a);
    root_superblocks = λ r has met. of_root (λ (q : Root). (j : ℕ) → q.superblocks j ≤ found.versions j) (λ j. le_refl _) r has;
  }

  staging : IsStagingOf (shape x) (need_of x) w start
  staging = record {
    pending = record {
      families = families_at;
      root = root_at;
      sections = section_at;
      waiting = subst (λ (l : List Element). Matches (shape x) w.persistent w.elements l []) (sym none_waits) tt;
    };
    written = refl;
    families = families_at;
    sections = λ j lt. sym (section_at j lt);
    root = sym root_at;
    persistent = record { writes = λ k has. absurd (true≢false (sym has)); superblocks = λ j. le_refl _; root = le_refl _ };
    closed = closed_at;
    numbers = λ k. ((λ low. absurd (omega (arith, low.0, low.1))), (λ from. absurd (no_write (shape x).sections from.0 from.1)));
    superblocks = of_all (λ (v : Superblock). (v.section < (shape x).sections) × (v.version ≤ found.versions v.section) × (v.writes ≤ 0) × (v.root ≤ need_of x v.section)
        × ((shape x).pages_first ≡ false → v.writes ≡ 0))
        (λ j lt. (lt, le_refl _, le_refl _, omega arith, (λ rule. refl)));
    roots = of_root (λ (q : Root). (q.version ≤ found.version) × ((j : ℕ) → q.superblocks j ≤ found.versions j) × (q.pages ≤ 0) × ((shape x).pages_first ≡ true → q.pages ≡ 0))
        (le_refl _, (λ j. le_refl _), le_refl _, (λ rule. refl));
  }

  pub opened : g.staging ≡ start → IsWorldOf x g w
  opened same = record {
    extents = sym extents;
    staging = subst (λ (t : Staging). IsStagingOf (shape x) (need_of x) w t) (sym same) staging;
    recorded = λ a has. absurd (no_write (shape x).sections a has);
    resets = λ e. omega arith;
    writes = λ k p waits kept. absurd (subst (λ (l : List Element). k ∈ l) none_waits (to_waiting w.persistent w.elements k waits.0 waits.1));
  }
