-- A round, and a mark on an extent, keep what makes a crash safe.
use Rattle.std.proofs.Common.{Bool, ◌≡◌, inl, ⊎_elim, ℕ, suc, ◌<◌, ◌≤◌, true, le_trans, le_refl, arith}
use Rattle.law_machine.specs.Cut.{Closed, Cut, Exact, Within}
use Rattle.law_machine.specs.Device.{Inside, Page, Place, Shape}
use Rattle.law_machine.specs.Element.{Log, Root, log_of, roots_of, superblocks_of}
use Rattle.law_machine.specs.Extents.{Extents}
use Rattle.law_machine.specs.Guard.{Covers}
use Rattle.law_machine.specs.Machine.{BeginRound, EndRound, World, happens}
use Rattle.law_machine.specs.Safe.{Allowed, AreThere, ClosesRound, IsNoLater, Safe}

-- the marks of y, on extents of these pointers, generations and resets
abbrev pub marks_of : (x y : Extents) → Extents
marks_of x y = record y { pointer = x.pointer; generation = x.generation; reset = x.reset }

same : (X : Cut) → Within X X
same X = record { writes = λ n has. has; superblocks = λ j. le_refl _; root = le_refl _ }

-- where no round is out there is none between
pub none_out : (S : Shape) {log : Log} {written last : ℕ} {versions : ℕ → ℕ} {X : Cut} → Closed S log X
    → Exact S.sections log X → IsNoLater written versions last X → ClosesRound S log written versions last X X
none_out S closed exact staged = record {
  closed = closed;
  exact = exact;
  round_exact = exact;
  staged = staged;
  round_staged = staged;
  within = same _;
  ready = record {
    writes = λ x is has. inl has;
    superblock_root = λ u is ver. inl ver;
    superblock_writes = λ u x is has ver sec bound. inl ver;
    roots = λ r is ver. inl ver;
    root_writes = λ r x is has ver bound. inl ver;
  };
}

module _ (S : Shape) (Good : Root → (ℕ → Page) → Type 0) (frozen : ℕ → ℕ → ℕ → Bool) (opened : ℕ → Page)
    (local : (r : Root) (a b : ℕ → Page) → ((h : Place) → Covers S r h → b h.page ≡ a h.page)
    → ((e i : ℕ) → frozen e i (r.generations e) ≡ true → 0 < r.pointers e → Inside S e i
    → b (S.address e i) ≡ a (S.address e i)) → Good r a → Good r b) where
  pub between : (w : World) (X : Cut) → Safe S Good frozen opened w → Within w.persistent X → Within X w.round
      → Closed S (log_of w.elements) X
  between w X s low high = record {
    write_root = λ x is has. ⊎_elim (λ old. le_trans (s.closed.write_root x is old) low.root)
        (λ (met : x.root ≤ w.persistent.root). le_trans met low.root) (s.ready.writes x is (high.writes _ has));
    superblock_root = λ u is ver. ⊎_elim
        (λ (old : u.version ≤ w.persistent.superblocks u.section). le_trans
        (s.closed.superblock_root u is old) low.root) (λ (met : u.root ≤ w.persistent.root). le_trans met low.root)
        (s.ready.superblock_root u is (le_trans ver (high.superblocks u.section)));
    superblock_writes = λ u x is has ver sec bound. ⊎_elim
        (λ (old : u.version ≤ w.persistent.superblocks u.section). low.writes _
        (s.closed.superblock_writes u x is has old sec bound))
        (λ (met : w.persistent.writes x.number ≡ true). low.writes _ met)
        (s.ready.superblock_writes u x is has (le_trans ver (high.superblocks u.section)) sec bound);
    root_superblocks = λ r is ver j. ⊎_elim
        (λ (old : r.version ≤ w.persistent.root). le_trans (s.closed.root_superblocks r is old j)
        (low.superblocks j))
        (λ (met : (i : ℕ) → r.superblocks i ≤ w.persistent.superblocks i). le_trans (met j) (low.superblocks j))
        (s.ready.roots r is (le_trans ver high.root));
    root_writes = λ r x is has ver bound. ⊎_elim
        (λ (old : r.version ≤ w.persistent.root). low.writes _ (s.closed.root_writes r x is has old bound))
        (λ (met : w.persistent.writes x.number ≡ true). low.writes _ met)
        (s.ready.root_writes r x is has (le_trans ver high.root) bound);
  }

  suc_le : {a b : ℕ} → a ≤ b → suc a ≤ suc b
  suc_le h = omega arith

  -- what is noted of extents matters to no element; nor does what is persistent, but to what isn't yet
  turned : (w : World) (x : Extents) (P R : Cut) → Safe S Good frozen opened w → w.persistent.root ≤ P.root
      → AreThere (superblocks_of w.elements) (roots_of w.elements) w.superblocks w.root P
      → ClosesRound S (log_of w.elements) w.written w.superblocks w.root P R
      → Safe S Good frozen opened (record w {
        extents = marks_of w.extents x;
        persistent = P;
        round = R;
      })
  turned w x P R s up there round = record {
    guards = s.guards;
    reads = s.reads;
    since_resets = s.since_resets;
    extents = s.extents;
    writes_rise = s.writes_rise;
    superblocks_rise = s.superblocks_rise;
    recorded_below = λ u has. le_trans (s.recorded_below u has) up;
    roots_rise = s.roots_rise;
    below = s.below;
    by_rule = s.by_rule;
    needs = s.needs;
    there = there;
    round = round;
  }

  pub keeps_marks : (w : World) (x : Extents) → Safe S Good frozen opened w
      → Safe S Good frozen opened (record w { extents = marks_of w.extents x })
  keeps_marks w x s = turned w x w.persistent w.round s (le_refl _) s.there s.round

  pub keeps_begin : (w : World) (R : Cut) → Allowed S Good frozen opened w (BeginRound R)
      → Safe S Good frozen opened w → Safe S Good frozen opened (happens S w (BeginRound R))
  keeps_begin w R next s = turned w w.extents w.persistent R s (le_refl _) s.there (record {
    closed = s.closed;
    exact = s.exact;
    round_exact = next.0;
    staged = s.staged;
    round_staged = next.2;
    within = next.1;
    ready = next.3;
  })

  pub keeps_end : (w : World) → Safe S Good frozen opened w → Safe S Good frozen opened (happens S w EndRound)
  keeps_end w s = turned w w.extents w.round w.round s s.within.root
      (record {
        superblocks_there = λ j n lo hi. s.superblocks_there j n (le_trans (suc_le (s.within.superblocks j)) lo) hi;
        roots_there = λ n lo hi. s.roots_there n (le_trans (suc_le s.within.root) lo) hi;
      })
      (none_out S (between w w.round s s.within (same w.round)) s.round_exact s.round_staged)
