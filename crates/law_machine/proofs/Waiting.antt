-- Where nothing is ready nothing waits, and then all commands are persistent.
use Rattle.std.proofs.Common.{◌≡◌, inl, inr, ⊎_elim, ℕ, zero, suc, ◌+◌, ◌<◌, ◌≤◌, true, List, [], ◌∷◌, length, le_of_eq, le_trans, le_refl, le-leb, leb-true, refl, sym, ap, ◌∙◌, subst, arith}
use Rattle.std.proofs.lemmas.Bool.{cases_lt}
use Rattle.law_machine.specs.Cut.{satisfied}
use Rattle.law_machine.specs.Device.{Page, Shape}
use Rattle.law_machine.specs.Element.{A_root, A_superblock, A_write, Element, Opening, Root, Superblock, Write, roots_of, superblocks_of, writes_of}
use Rattle.law_machine.specs.Events.{IsFrontier}
use Rattle.law_machine.specs.Formats.{Formats}
use Rattle.law_machine.specs.Lists.{◌∈◌}
use Rattle.law_machine.specs.Machine.{World}
use Rattle.law_machine.specs.Recovery.{RootGives}
use Rattle.law_machine.specs.Round.{IsRound, NothingWaits, RootReady}
use Rattle.law_machine.specs.Safe.{Safe}
use Rattle.law_machine.specs.Sound.{Sound}
use Rattle.law_machine.specs.State.{State}

pub write_in : (els : List Element) (x : Write) → x ∈ writes_of els → A_write x ∈ els
write_in [] x none = absurd none
write_in (A_write y ∷ els) x (inl is) = inl (ap A_write is)
write_in (A_write y ∷ els) x (inr has) = inr (write_in els x has)
write_in (A_superblock u ∷ els) x has = inr (write_in els x has)
write_in (A_root r ∷ els) x has = inr (write_in els x has)

pub superblock_in : (els : List Element) (x : Superblock) → x ∈ superblocks_of els → A_superblock x ∈ els
superblock_in [] x none = absurd none
superblock_in (A_write y ∷ els) x has = inr (superblock_in els x has)
superblock_in (A_superblock u ∷ els) x (inl is) = inl (ap A_superblock is)
superblock_in (A_superblock u ∷ els) x (inr has) = inr (superblock_in els x has)
superblock_in (A_root r ∷ els) x has = inr (superblock_in els x has)

pub root_in : (els : List Element) (x : Root) → x ∈ roots_of els → A_root x ∈ els
root_in [] x none = absurd none
root_in (A_write y ∷ els) x has = inr (root_in els x has)
root_in (A_superblock u ∷ els) x has = inr (root_in els x has)
root_in (A_root r ∷ els) x (inl is) = inl (ap A_root is)
root_in (A_root r ∷ els) x (inr has) = inr (root_in els x has)

-- what stands in the list is of its kind
abbrev pub Listed : List Element → Element → Type 0
Listed els (A_write x) = x ∈ writes_of els
Listed els (A_superblock u) = u ∈ superblocks_of els
Listed els (A_root r) = r ∈ roots_of els

listed_head : (els : List Element) (x y : Element) → x ≡ y → Listed (y ∷ els) x
listed_head els x (A_write y) is = subst (λ (z : Element). Listed (A_write y ∷ els) z) (sym is) (inl refl)
listed_head els x (A_superblock y) is = subst (λ (z : Element). Listed (A_superblock y ∷ els) z) (sym is) (inl refl)
listed_head els x (A_root y) is = subst (λ (z : Element). Listed (A_root y ∷ els) z) (sym is) (inl refl)

listed_more : (els : List Element) (y x : Element) → Listed els x → Listed (y ∷ els) x
listed_more els (A_write y) (A_write x) has = inr has
listed_more els (A_write y) (A_superblock x) has = has
listed_more els (A_write y) (A_root x) has = has
listed_more els (A_superblock y) (A_write x) has = has
listed_more els (A_superblock y) (A_superblock x) has = inr has
listed_more els (A_superblock y) (A_root x) has = has
listed_more els (A_root y) (A_write x) has = has
listed_more els (A_root y) (A_superblock x) has = has
listed_more els (A_root y) (A_root x) has = inr has

pub listed : (els : List Element) (x : Element) → x ∈ els → Listed els x
listed [] x none = absurd none
listed (y ∷ els) x (inl is) = listed_head els x y is
listed (y ∷ els) x (inr has) = listed_more els y x (listed els x has)

module _ (S : Shape) (F : Formats) {opening : Opening} (opened : ℕ → Page) (w : World)
    (safe : Safe S (RootGives S F opening) opening.frozen opened w) where
  module _ (is : IsRound S w w.persistent) where
    root_step : (q : ℕ) → ((r : Root) → r ∈ roots_of w.elements → r.version ≤ q → r.version ≤ w.persistent.root)
        → (r : Root) → r ∈ roots_of w.elements → r.version ≤ suc q → r.version ≤ w.persistent.root
    root_step q earlier_done r has below = ⊎_elim
        (λ (waits : w.persistent.root < r.version). is.roots r has ready)
        (λ (done : r.version ≤ w.persistent.root). done)
        (cases_lt w.persistent.root r.version)
      where
        done_below : (n : ℕ) → n ≤ q → n ≤ w.root → n ≤ w.persistent.root
        done_below n le staged = ⊎_elim
            (λ (waits : w.persistent.root < n). (let at = safe.roots_there n waits staged in
            let there : at.0.version ≤ w.persistent.root = earlier_done at.0 at.1 (le_trans (le_of_eq at.2) le) in
            le_trans (le_of_eq (sym at.2)) there))
            (λ (done : n ≤ w.persistent.root). done)
            (cases_lt w.persistent.root n)

        sections_ready : (j : ℕ) → r.superblocks j ≤ w.persistent.superblocks j
        sections_ready j = ⊎_elim
            (λ (waits : w.persistent.superblocks j < r.superblocks j).
            let at = safe.superblocks_there j (r.superblocks j) waits ((safe.roots_below r has).1 j) in
            let u : Superblock = at.0 in
            let version : u.version ≤ r.superblocks u.section = subst (λ (i : ℕ). u.version ≤ r.superblocks i)
            (sym at.2) (le_of_eq at.3) in
            let before = safe.earlier r u has at.1 version q below in
            let there : u.version ≤ w.persistent.superblocks u.section = is.superblocks u at.1 (
              done_below u.root before.0 (safe.superblock_roots u at.1),
              (λ x has_x sec bound. is.writes x has_x
                  (done_below x.root (before.1 x has_x bound) (safe.write_roots x has_x))),
            ) in
            le_trans (le_of_eq (sym at.3)) (subst (λ (i : ℕ). u.version ≤ w.persistent.superblocks i) at.2 there))
            (λ (done : r.superblocks j ≤ w.persistent.superblocks j). done)
            (cases_lt (w.persistent.superblocks j) (r.superblocks j))

        ready : RootReady S w r
        ready = (
          sections_ready,
          (λ x has_x bound. is.writes x has_x
              (done_below x.root (safe.earlier_pages r x has has_x bound q below) (safe.write_roots x has_x))),
        )

    roots_done : (q : ℕ) (r : Root) → r ∈ roots_of w.elements → r.version ≤ q → r.version ≤ w.persistent.root
    roots_done zero r has below = omega arith
    roots_done (suc q) r has below = root_step q (roots_done q) r has below

    done_up_to : (n : ℕ) → n ≤ w.root → n ≤ w.persistent.root
    done_up_to n staged = ⊎_elim
        (λ (waits : w.persistent.root < n).
        (let at = safe.roots_there n waits staged in
        le_trans (le_of_eq (sym at.2)) (roots_done at.0.version at.0 at.1 (le_refl _))))
        (λ (done : n ≤ w.persistent.root). done)
        (cases_lt w.persistent.root n)

    done : (x : Element) → Listed w.elements x → satisfied w.persistent x ≡ true
    done (A_write x) has = is.writes x has (done_up_to x.root (safe.write_roots x has))
    done (A_superblock u) has = le-leb _ _ (is.superblocks u has (
      done_up_to u.root (safe.superblock_roots u has),
      (λ x has_x sec bound. is.writes x has_x (done_up_to x.root (safe.write_roots x has_x))),
    ))
    done (A_root r) has = le-leb _ _ (done_up_to r.version (safe.roots_below r has).0)

    pub none_waits : NothingWaits w
    none_waits x has = done x (listed w.elements x has)

  pub none_ready : NothingWaits w → IsRound S w w.persistent
  none_ready none = record {
    persistent = record { writes = λ n has. has; superblocks = λ j. le_refl _; root = le_refl _ };
    writes = λ x has ready. none (A_write x) (write_in w.elements x has);
    only_writes = λ n has. inl has;
    superblocks = λ u has ready. leb-true _ _ (none (A_superblock u) (superblock_in w.elements u has));
    only_superblocks = λ j. inl refl;
    roots = λ r has ready. leb-true _ _ (none (A_root r) (root_in w.elements r has));
    only_root = inl refl;
  }

  pub last_root : NothingWaits w → w.persistent.root ≡ w.root
  last_root none = ⊎_elim
      (λ (waits : w.persistent.root < w.root). absurd (let at = safe.roots_there w.root waits (le_refl _) in
      let there : at.0.version ≤ w.persistent.root = leb-true _ _
      (none (A_root at.0) (root_in w.elements at.0 at.1)) in let e : at.0.version ≡ w.root = at.2 in omega arith))
      (λ (done : w.root ≤ w.persistent.root). (let up : w.persistent.root ≤ w.root = safe.staged.root in omega arith))
      (cases_lt w.persistent.root w.root)

pub all_done : (S : Shape) (F : Formats) (s : State) (f : ℕ) → Sound S F s → NothingWaits s.world → s.table ≡ []
    → IsFrontier S F s f → f ≡ length s.commands
all_done S F s f sound none empty front =
    let all : front.0.commands ≡ s.count + length s.commands = sound.caught_up empty front.0 front.1
    (front.2 ∙ last_root S F s.opened s.world sound.safe none) in
    let some : front.0.commands ≡ s.count + f = front.3 in omega arith
