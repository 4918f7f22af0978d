-- A round can be taken.
use Rattle.std.proofs.Common.{◌≡◌, ◌⊎◌, ◌↔◌, inl, inr, ⊎_elim, ℕ, suc, ◌<◌, Bool, true, false, List, refl, sym, true≢false}
use Rattle.std.proofs.lemmas.Bool.{cases_eq}
use Rattle.law_machine.proofs.Distinct.{in_order}
use Rattle.law_machine.proofs.Waiting.{write_in, superblock_in, root_in, listed}
use Rattle.law_machine.specs.Cut.{Cut, satisfied}
use Rattle.law_machine.specs.Device.{Page, Shape}
use Rattle.law_machine.specs.Element.{A_root, A_superblock, A_write, Element, Opening, Write, roots_of, superblocks_of, writes_of}
use Rattle.law_machine.specs.Formats.{Formats}
use Rattle.law_machine.specs.Distinct.{AreDistinct}
use Rattle.law_machine.specs.Lists.{◌∈◌}
use Rattle.law_machine.specs.Machine.{World}
use Rattle.law_machine.specs.Recovery.{RootGives}
use Rattle.law_machine.specs.Round.{IsMember, IsRound, NothingWaits, WriteReady}
use Rattle.law_machine.specs.Safe.{Safe}
use Rattle.law_machine.proofs.Highest.{all_or_some, passing, at_most, highest_superblock, highest_root, ready_write}

module _ (S : Shape) (F : Formats) {opening : Opening} (opened : ℕ → Page) (w : World)
    (safe : Safe S (RootGives S F opening) opening.frozen opened w) where
  abbrev in_round : (n : ℕ) → ((x : Write) × (x ∈ writes_of w.elements) × (x.number ≡ n) × WriteReady S w x)
      ⊎ ((x : Write) → x ∈ writes_of w.elements → x.number ≡ n → WriteReady S w x → ⊥) → Bool
  in_round n (inl found) = true
  in_round n (inr none) = w.persistent.writes n

  abbrev taking : Cut
  taking = record {
    writes = λ n. in_round n (ready_write S F opened w safe (writes_of w.elements) n);
    superblocks = λ j. (highest_superblock S F opened w safe (superblocks_of w.elements) j).0;
    root = (highest_root S F opened w safe (roots_of w.elements) (λ r has. has)).0;
  }

  pub some_round : (R : Cut) × IsRound S w R
  some_round = (
    taking,
    record {
      persistent = record {
        writes = λ n has. keeps n (ready_write S F opened w safe (writes_of w.elements) n) has;
        superblocks = λ j. (highest_superblock S F opened w safe (superblocks_of w.elements) j).1.above;
        root = (highest_root S F opened w safe (roots_of w.elements) (λ r has. has)).1.above;
      };
      writes = λ x has ready. takes x has ready (ready_write S F opened w safe (writes_of w.elements) x.number);
      only_writes = λ n has. only n (ready_write S F opened w safe (writes_of w.elements) n) has;
      superblocks = λ u has ready.
          (highest_superblock S F opened w safe (superblocks_of w.elements) u.section).1.all u has ready refl;
      only_superblocks = λ j. (highest_superblock S F opened w safe (superblocks_of w.elements) j).1.only;
      roots = λ r has ready. (highest_root S F opened w safe (roots_of w.elements) (λ r has. has)).1.all r has ready;
      only_root = (highest_root S F opened w safe (roots_of w.elements) (λ r has. has)).1.only;
    },
  )
    where
      keeps : (n : ℕ) (o : _) → w.persistent.writes n ≡ true → in_round n o ≡ true
      keeps n (inl found) has = refl
      keeps n (inr none) has = has

      takes : (x : Write) → x ∈ writes_of w.elements → WriteReady S w x → (o : _) → in_round x.number o ≡ true
      takes x has ready (inl found) = refl
      takes x has ready (inr none) = absurd (none x has refl ready)

      only : (n : ℕ) (o : _) → in_round n o ≡ true → (w.persistent.writes n ≡ true)
          ⊎ ((x : Write) × (x ∈ writes_of w.elements) × (x.number ≡ n) × WriteReady S w x)
      only n (inl found) has = inr found
      only n (inr none) has = inl has

  -- of the round, and not persistent
  abbrev Taken : Cut → Element → Type 0
  Taken R (A_write x) = (R.writes x.number ≡ true) × (w.persistent.writes x.number ≡ false)
  Taken R (A_superblock u) = (u.version ≡ R.superblocks u.section) × (w.persistent.superblocks u.section < u.version)
  Taken R (A_root r) = (r.version ≡ R.root) × (w.persistent.root < r.version)

  both_or_not : {A B : Type 0} → (A ⊎ (A → ⊥)) → (B ⊎ (B → ⊥)) → (A × B) ⊎ ((A × B) → ⊥)
  both_or_not (inl a) (inl b) = inl (a, b)
  both_or_not (inl a) (inr b) = inr (λ x. b x.1)
  both_or_not (inr a) b = inr (λ x. a x.0)

  is_or_not : (b c : Bool) → (b ≡ c) ⊎ ((b ≡ c) → ⊥)
  is_or_not true true = inl refl
  is_or_not true false = inr (λ e. true≢false e)
  is_or_not false true = inr (λ e. true≢false (sym e))
  is_or_not false false = inl refl

  same_or_not : (a b : ℕ) → (a ≡ b) ⊎ (a ≡ b → ⊥)
  same_or_not a b = elim (cases_eq a b) [ inl is ↦ inl is | inr not ↦ inr not ]

  taken_or_not : (R : Cut) (m : Element) → Taken R m ⊎ (Taken R m → ⊥)
  taken_or_not R (A_write x) = both_or_not (is_or_not (R.writes x.number) true)
      (is_or_not (w.persistent.writes x.number) false)
  taken_or_not R (A_superblock u) = both_or_not (same_or_not u.version (R.superblocks u.section))
      (at_most (suc (w.persistent.superblocks u.section)) u.version)
  taken_or_not R (A_root r) = both_or_not (same_or_not r.version R.root) (at_most (suc w.persistent.root) r.version)

  member_of : (R : Cut) (m : Element) → m ∈ w.elements → Taken R m → IsMember S (record w { round = R }) m
  member_of R (A_write x) has t = (listed w.elements (A_write x) has, t.0, t.1)
  member_of R (A_superblock u) has t = (listed w.elements (A_superblock u) has, t.0, t.1)
  member_of R (A_root r) has t = (listed w.elements (A_root r) has, t.0, t.1)

  taken_of_member : (R : Cut) (m : Element) → IsMember S (record w { round = R }) m → (m ∈ w.elements) × Taken R m
  taken_of_member R (A_write x) is = (write_in w.elements x is.0, (is.1, is.2))
  taken_of_member R (A_superblock u) is = (superblock_in w.elements u is.0, (is.1, is.2))
  taken_of_member R (A_root r) is = (root_in w.elements r is.0, (is.1, is.2))

  pub some_members : (R : Cut) → (members : List Element)
      × ((m : Element) → (m ∈ members) ↔ IsMember S (record w { round = R }) m) × AreDistinct members
  some_members R = let all = passing (Taken R) (taken_or_not R) w.elements in (
    all.0,
    (λ m. (
      (λ has. let both = (all.1 m).0 has in member_of R m both.0 both.1),
      (λ is. (all.1 m).1 (taken_of_member R m is)),
    )),
    all.2 (in_order w.elements safe.writes_order safe.superblocks_order safe.roots_order),
  )

  pub waits_or_not : NothingWaits w ⊎ (NothingWaits w → ⊥)
  waits_or_not = ⊎_elim (λ all. inl all) (λ some. inr (λ none. some.2 (none some.0 some.1)))
      (all_or_some (λ (x : Element). satisfied w.persistent x ≡ true)
      (λ x. is_or_not (satisfied w.persistent x) true) w.elements)
