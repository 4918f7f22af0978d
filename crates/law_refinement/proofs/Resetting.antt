-- What a reset does to a store is what the machine's reset does to its world.
use Rattle.std.proofs.Common.{◌≡◌, ℕ, ◌≤◌, le_of_eq, le_refl, le_trans, sym, ap, ◌∙◌, subst}
use Rattle.cs_deps.specs.State.{State as GraphState}
use Rattle.law_machine.specs.Device.{Shape}
use Rattle.law_machine.specs.Element.{Write, writes_of}
use Rattle.law_machine.specs.Extents.{Extents}
use Rattle.law_machine.specs.Lists.{◌∈◌, with}
use Rattle.law_machine.specs.Machine.{World}
use Rattle.law_machine.proofs.Parts.{grows, with_below}
use Rattle.cs_extent.specs.State.{State, extents_of, need_of, shape}
use Rattle.law_refinement.specs.Stores.{AreWritesOf, IsRecorded, IsStagingOf, IsWorldOf}
use Rattle.law_refinement.proofs.Shapes.{need_more}
use Rattle.law_refinement.proofs.Worlds.{moved, more_needed}

-- a store whose extents are others, of which one was reset under the last version of the root
module _ (x y : State) (g : GraphState) (w : World) (e : ℕ) (is : IsWorldOf x g w) (same : shape y ≡ shape x)
    (others : Extents) (resets : others.reset ≡ with w.extents.reset e w.root) (extents : extents_of y ≡ others) where
  abbrev next : World
  next = record w { extents = others }

  -- no reset goes with an earlier version
  later : (d : ℕ) → (extents_of x).reset d ≤ (extents_of y).reset d
  later d = le_trans (le_of_eq (ap (λ (z : Extents). z.reset d) (sym is.extents)))
      (le_trans (grows w.extents.reset e w.root d (is.resets e)) (le_of_eq (ap (λ (f : ℕ → ℕ). f d) (sym resets) ∙ ap (λ (z : Extents). z.reset d) (sym extents))))

  pub after_reset : IsWorldOf y g next
  after_reset = record {
    extents = sym extents;
    staging = subst (λ (S : Shape). IsStagingOf S (need_of y) next g.staging) (sym same)
        (more_needed (shape x) (need_of x) (need_of y) next g.staging (need_more x y same later) (moved (shape x) (need_of x) w g.staging others w.round is.staging));
    recorded = subst (λ (S : Shape). (a : Write) → a ∈ writes_of w.elements → IsRecorded S next a) (sym same) (λ a has. is.recorded a has);
    resets = λ d. subst (λ (f : ℕ → ℕ). f d ≤ w.root) (sym resets) (with_below w.extents.reset e w.root d w.root (le_refl _) (is.resets d));
    writes = subst (λ (S : Shape). AreWritesOf S next g) (sym same) (λ m p waits kept. is.writes m p waits kept);
  }
