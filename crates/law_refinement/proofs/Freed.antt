-- Extents that are reset one after another under the last root, and other changes of what is noted of extents.
use Rattle.std.proofs.Common.{◌≡◌, ◌⊎◌, inl, inr, ⊎_elim, ℕ, zero, suc, ◌≤◌, Bool, true, false, if◌then◌else◌, le_of_eq, le_trans, refl, sym, ap, ◌∙◌, subst}
use Rattle.std.proofs.lemmas.Bool.{cases_eq}
use Rattle.cs_deps.specs.State.{State as GraphState}
use Rattle.law_machine.proofs.Parts.{with_other, with_same}
use Rattle.law_machine.specs.Apart.{reset_all}
use Rattle.law_machine.specs.Device.{Shape}
use Rattle.law_machine.specs.Element.{Write, writes_of}
use Rattle.law_machine.specs.Extents.{Extents, emptied, forgotten}
use Rattle.law_machine.specs.Lists.{◌∈◌}
use Rattle.law_machine.specs.Machine.{World}
use Rattle.cs_extent.specs.State.{State, extents_of, need_of, shape}
use Rattle.law_refinement.specs.Stores.{AreWritesOf, IsRecorded, IsStagingOf, IsWorldOf}
use Rattle.law_refinement.proofs.Shapes.{need_more}
use Rattle.law_refinement.proofs.Worlds.{moved, more_needed}

-- a store whose extents are others, of which each was reset last when it was, or under the last version of the root
module _ (x y : State) (g : GraphState) (w : World) (is : IsWorldOf x g w) (same : shape y ≡ shape x)
    (others : Extents) (each : (d : ℕ) → (others.reset d ≡ w.extents.reset d) ⊎ (others.reset d ≡ w.root)) (extents : extents_of y ≡ others) where
  abbrev next : World
  next = record w { extents = others }

  no_sooner : (d : ℕ) → w.extents.reset d ≤ others.reset d
  no_sooner d = ⊎_elim
      (λ (as_before : others.reset d ≡ w.extents.reset d). le_of_eq (sym as_before))
      (λ (last : others.reset d ≡ w.root). le_trans (is.resets d) (le_of_eq (sym last)))
      (each d)

  no_later : (d : ℕ) → others.reset d ≤ w.root
  no_later d = ⊎_elim
      (λ (as_before : others.reset d ≡ w.extents.reset d). le_trans (le_of_eq as_before) (is.resets d))
      (λ (last : others.reset d ≡ w.root). le_of_eq last)
      (each d)

  later : (d : ℕ) → (extents_of x).reset d ≤ (extents_of y).reset d
  later d = le_trans (le_of_eq (ap (λ (z : Extents). z.reset d) (sym is.extents)))
      (le_trans (no_sooner d) (le_of_eq (ap (λ (z : Extents). z.reset d) (sym extents))))

  pub after_others : IsWorldOf y g next
  after_others = record {
    extents = sym extents;
    staging = subst (λ (S : Shape). IsStagingOf S (need_of y) next g.staging) (sym same)
        (more_needed (shape x) (need_of x) (need_of y) next g.staging (need_more x y same later) (moved (shape x) (need_of x) w g.staging others w.round is.staging));
    recorded = subst (λ (S : Shape). (a : Write) → a ∈ writes_of w.elements → IsRecorded S next a) (sym same) (λ a has. is.recorded a has);
    resets = no_later;
    writes = subst (λ (S : Shape). AreWritesOf S next g) (sym same) (λ m p waits kept. is.writes m p waits kept);
  }

-- an extent's last reset is the one that it was, or goes with the root
module _ (S : Shape) (x : Extents) (root : ℕ) (test : ℕ → Bool) where
  abbrev IsOfRoot : Extents → ℕ → Type 0
  IsOfRoot z d = (z.reset d ≡ x.reset d) ⊎ (z.reset d ≡ root)

  one_reset : (z : Extents) (n d : ℕ) → IsOfRoot z d → IsOfRoot (forgotten S.apart (emptied z n root) n) d
  one_reset z n d before = elim (cases_eq d n) [
    | inl here ↦ inr (with_same z.reset n root d here)
    | inr other ↦ ⊎_elim
        (λ (as_before : z.reset d ≡ x.reset d). inl (with_other z.reset n root d other ∙ as_before))
        (λ (last : z.reset d ≡ root). inr (with_other z.reset n root d other ∙ last)) before
  ]

  either : (b : Bool) (z : Extents) (n d : ℕ) → IsOfRoot z d → IsOfRoot (if b then forgotten S.apart (emptied z n root) n else z) d
  either true z n d before = one_reset z n d before
  either false z n d before = before

  pub reset_each : (n d : ℕ) → IsOfRoot (reset_all S x root test n) d
  reset_each zero d = inl refl
  reset_each (suc n) d = either (test n) (reset_all S x root test n) n d (reset_each n d)

-- extents below n that pass a test are reset under the last version of the root
pub after_resets : (x y : State) (g : GraphState) (w : World) (test : ℕ → Bool) (n : ℕ) → IsWorldOf x g w → shape y ≡ shape x
    → extents_of y ≡ reset_all (shape x) (extents_of x) w.root test n
    → IsWorldOf y g (record w { extents = reset_all (shape x) w.extents w.root test n })
after_resets x y g w test n is same extents = after_others x y g w is same (reset_all (shape x) w.extents w.root test n)
    (reset_each (shape x) w.extents w.root test n) (extents ∙ ap (λ (z : Extents). reset_all (shape x) z w.root test n) (sym is.extents))
