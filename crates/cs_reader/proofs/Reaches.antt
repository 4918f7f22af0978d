-- How far frames may reach in extents that were read.
use Rattle.std.proofs.Common.{◌≡◌, ℕ, ◌<◌, ◌==◌, Bool, true, false, List, if◌then◌else◌, refl, sym, ◌∙◌, subst}
use Rattle.cs_chunk.specs.Chunks.{end_in}
use Rattle.cs_extent.specs.State.{State as ExtentsState, extents_of, shape}
use Rattle.cs_frame.specs.Formats.{as_locator, formats_of}
use Rattle.law_machine.proofs.Filled.{limit_here, reach_found, reach_off}
use Rattle.law_machine.specs.Element.{Locator as Place}
use Rattle.law_machine.specs.Formats.{limit_in}
use Rattle.law_machine.specs.Index.{Passes}

-- where all pages that are given were found, as far as the image says
pub end_is_limit : (x : ExtentsState) (view : ℕ → List ℕ) (p g : ℕ → ℕ) (l : Place)
    → ((shape x).fills ≡ true → (extents_of x).found l.extent ≡ p l.extent)
    → Passes (shape x) (formats_of (shape x)) view p g l
    → end_in x (as_locator l) ≡ limit_in (shape x) (formats_of (shape x)) p g l
end_is_limit x view p g l found pass = go (shape x).fills refl
  where
    go : (b : Bool) → (shape x).fills ≡ b → end_in x (as_locator l) ≡ limit_in (shape x) (formats_of (shape x)) p g l
    go true on = reach_found (shape x) ((extents_of x).found l.extent) l.page on
        (subst (λ (n : ℕ). l.page < n) (sym (found on)) pass.below) ∙ found on
        ∙ sym (limit_here (shape x) (formats_of (shape x)) view p g l pass on)
    go false off = reach_off (shape x) ((extents_of x).found l.extent) l.page off
        ∙ sym (reach_off (shape x) (if g l.extent == l.generation then p l.extent else 0) l.page off)
