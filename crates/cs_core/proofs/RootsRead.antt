-- The roots of a state at open: the one that was read.
use Rattle.std.proofs.Common.{◌≡◌, inl, ⊎_elim, ◌∙◌, ℕ, zero, suc, ◌+◌, ◌<◌, List, [], ◌∷◌, refl, sym, ap, subst, arith}
use Rattle.std.specs.Prelude.{Contains}
use Rattle.law_machine.specs.Device.{Page, Shape}
use Rattle.law_machine.specs.Element.{Map, Root, roots_of}
use Rattle.law_machine.specs.Formats.{Formats}
use Rattle.law_machine.specs.Lists.{◌∈◌}
use Rattle.law_machine.specs.Open.{opened_state, root_read, superblocks_read}
use Rattle.law_machine.specs.Recovery.{Recovers}
use Rattle.law_machine.specs.State.{State}
use Rattle.cs_core.specs.declared.histories.Root.{Root as Noted}
use Rattle.cs_core.specs.States.{AreRootsOf}

module _ (S : Shape) (F : Formats) (img : ℕ → Page) (n : ℕ) (m : Map) (found : Recovers S F img n m) where
  -- no version of a section is a root
  none_among : (k : ℕ) → roots_of (superblocks_read S F img n m found k) ≡ []
  none_among zero = refl
  none_among (suc k) = none_among k

  pub read_alone : roots_of (opened_state S F img n m found).world.elements ≡ root_read S F img n m found ∷ []
  read_alone = ap (λ (rs : List Root). root_read S F img n m found ∷ rs) (none_among S.sections)

-- the one root that is there
pub noted : (s : State) (r : Root) (version : ℕ) → roots_of s.world.elements ≡ r ∷ [] → r.version ≡ version → r.commands ≡ s.count → AreRootsOf (record { version = version; commands = 0 } ∷ []) s
noted s r version one same commands = record {
  all = λ p has late. ⊎_elim
      (λ (e : p ≡ r). (record { version = version; commands = 0 }, (0, omega arith, refl), sym (ap (λ (u : Root). u.version) e ∙ same), (let n : s.count + 0 ≡ s.count = omega arith in n) ∙ sym (ap (λ (u : Root). u.commands) e ∙ commands)))
      (λ (none : p ∈ []). absurd none)
      (subst (λ (rs : List Root). p ∈ rs) one has);
  only = λ q has. (
    r,
    subst (λ (rs : List Root). r ∈ rs) (sym one) (inl refl),
    ap (λ (u : Noted). u.version) (sym (only_one q has)) ∙ sym same,
    ap (λ (u : Noted). s.count + u.commands) (sym (only_one q has)) ∙ (let n : s.count + 0 ≡ s.count = omega arith in n) ∙ sym commands,
  );
}
  where
    only_one : (q : Noted) → Contains (record { version = version; commands = 0 } ∷ []) q → record { version = version; commands = 0 } ≡ q
    only_one q (zero, lt, at) = at
    only_one q (suc k, lt, at) = absurd (let l : suc k < 1 = lt in omega arith)
