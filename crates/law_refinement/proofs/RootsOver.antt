-- The root that is staged over the runs of an index is the machine's.
use Rattle.std.proofs.Common.{◌≡◌, ℕ, suc, ◌<◌, List, Some, map, sym, ap, ◌∙◌, subst}
use Rattle.std.specs.Prelude.{reverse}
use Rattle.cs_deps.specs.declared.elements.Element.TheVariants.{Version}
use Rattle.cs_deps.specs.State.{State as GraphState, write_of}
use Rattle.cs_extent.specs.Frames.{root_family}
use Rattle.cs_extent.specs.State.{State as ExtentsState, need_of, shape}
use Rattle.cs_frame.specs.declared.locators.Locator.{Locator}
use Rattle.cs_frame.specs.Formats.{as_locator, formats_of}
use Rattle.cs_frame.specs.Roots.{identity_in, spelled_root}
use Rattle.cs_index.specs.Staged.{IsRootStaged}
use Rattle.law_machine.specs.Device.{Shape}
use Rattle.law_machine.specs.Disk.{page_write}
use Rattle.law_machine.specs.Element.{A_root, Map, Run}
use Rattle.law_machine.specs.Formats.{places}
use Rattle.law_machine.specs.Machine.{StageRoot, World, happens, root_now}
use Rattle.law_refinement.specs.Stores.{IsWorldOf}
use Rattle.law_refinement.proofs.Rooting.{after_root, next_version}

-- the root over these runs is the machine's next, whatever it remembers
module _ (x : ExtentsState) (g h : GraphState) (w : World) (v commands : ℕ) (runs : List Run) (some : 0 < (shape x).sections) (is : IsWorldOf x g w) (root : IsRootStaged x.format g h v commands runs) where
  pub root_version : v ≡ suc w.root
  root_version = next_version (shape x) some (need_of x) w g.staging is.staging v root.needs h.staging root.version root.names

  pub root_staged : (m : Map) (pointers : ℕ → ℕ) → IsWorldOf x h (happens (shape x) w (StageRoot commands runs m pointers))
  root_staged m pointers =
      let oldest : List Locator = map as_locator (reverse (places runs)) in
      let kept : write_of h (Version root_family v) ≡ Some (page_write (shape x) (formats_of (shape x)) (A_root (root_now (shape x) w commands runs m pointers))) =
      root.page.1 ∙ ap (λ (b : List ℕ). Some (1, b)) (root.page.2.spelled ∙ ap (λ (k : ℕ). spelled_root (identity_in x.format) k commands oldest) root_version) in
      after_root x g h w some is v root.needs root.version root.names commands runs m pointers kept root.others

  -- the same of the shape by another name
  pub root_staged_as : (S : Shape) → shape x ≡ S → (m : Map) (pointers : ℕ → ℕ) → IsWorldOf x h (happens S w (StageRoot commands runs m pointers))
  root_staged_as S same m pointers = subst (λ (T : Shape). IsWorldOf x h (happens T w (StageRoot commands runs m pointers))) same (root_staged m pointers)

-- extents of the same shape have the same format
pub of_same_shape : (x y : ExtentsState) (g h : GraphState) (v commands : ℕ) (runs : List Run) → shape y ≡ shape x
    → IsRootStaged x.format g h v commands runs → IsRootStaged y.format g h v commands runs
of_same_shape x y g h v commands runs same = subst (λ (S : Shape). IsRootStaged S.format g h v commands runs) (sym same)
