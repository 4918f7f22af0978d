-- Every Begin takes the same members.
use Rattle.std.proofs.Common.{◌≡◌, ⊎_elim, ◌↔◌, ℕ, ◌≤◌, true, List, le_of_eq, le_trans, sym, ap, ◌∙◌, subst, arith}
use Rattle.law_machine.specs.Cut.{Cut}
use Rattle.law_machine.specs.Device.{Shape}
use Rattle.law_machine.specs.Element.{A_root, A_superblock, A_write, Element}
use Rattle.law_machine.specs.Events.{Does}
use Rattle.law_machine.specs.Formats.{Formats}
use Rattle.law_machine.specs.Lists.{◌∈◌}
use Rattle.law_machine.specs.Machine.{World}
use Rattle.law_machine.specs.Round.{IsMember, IsRound}
use Rattle.law_machine.specs.State.{Begin, Begun, State}

module _ (S : Shape) (w : World) (R Q : Cut) (first : IsRound S w R) (second : IsRound S w Q) where
  superblocks_up : (j : ℕ) → R.superblocks j ≤ Q.superblocks j
  superblocks_up j = ⊎_elim
      (λ (old : R.superblocks j ≡ w.persistent.superblocks j).
      le_trans (le_of_eq old) (second.persistent.superblocks j))
      (λ new. le_trans (le_of_eq (sym new.3))
      (subst (λ (i : ℕ). new.0.version ≤ Q.superblocks i) new.2 (second.superblocks new.0 new.1 new.4)))
      (first.only_superblocks j)

  root_up : R.root ≤ Q.root
  root_up = ⊎_elim
      (λ (old : R.root ≡ w.persistent.root). le_trans (le_of_eq old) second.persistent.root)
      (λ new. le_trans (le_of_eq (sym new.2)) (second.roots new.0 new.1 new.3))
      first.only_root

  write_too : (n : ℕ) → R.writes n ≡ true → Q.writes n ≡ true
  write_too n has = ⊎_elim (λ (old : w.persistent.writes n ≡ true). second.persistent.writes n old)
      (λ new. ap Q.writes (sym new.2) ∙ second.writes new.0 new.1 new.3) (first.only_writes n has)

both_rounds : (S : Shape) (w : World) (R Q : Cut) → IsRound S w R → IsRound S w Q → (m : Element)
    → IsMember S (record w { round = R }) m → IsMember S (record w { round = Q }) m
both_rounds S w R Q first second (A_write x) is = (is.0, write_too S w R Q first second x.number is.1, is.2)
both_rounds S w R Q first second (A_superblock u) is =
    let up : R.superblocks u.section ≤ Q.superblocks u.section = superblocks_up S w R Q first second u.section in
    let down : Q.superblocks u.section ≤ R.superblocks u.section = superblocks_up S w Q R second first u.section in
    let at : u.version ≡ R.superblocks u.section = is.1 in
    (is.0, omega arith, is.2)
both_rounds S w R Q first second (A_root r) is =
    let up : R.root ≤ Q.root = root_up S w R Q first second in
    let down : Q.root ≤ R.root = root_up S w Q R second first in
    let at : r.version ≡ R.root = is.1 in
    (is.0, omega arith, is.2)

pub begin_one : (S : Shape) (F : Formats) (s t u : State) (members others : List Element)
    → Does S F s Begin (Begun members) t → Does S F s Begin (Begun others) u → (m : Element)
    → m ∈ members ↔ m ∈ others
begin_one S F s t u members others a b m = (
  (λ has. (b.3 m).1 (both_rounds S s.world a.1 b.1 a.2 b.2 m ((a.3 m).0 has))),
  (λ has. (a.3 m).1 (both_rounds S s.world b.1 a.1 b.2 a.2 m ((b.3 m).0 has))),
)
