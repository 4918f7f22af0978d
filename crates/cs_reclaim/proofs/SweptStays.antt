-- An extent that is being swept is being swept still after a Stage where chunks and runs lie apart.
use Rattle.std.proofs.Common.{◌≡◌, ◌≢◌, ⊎_elim, ℕ, Bool, List, [], ◌∷◌, length, true, sym, subst}
use Rattle.std.specs.Prelude.{drop}
use Rattle.cs_deps.specs.State.{State as Graph}
use Rattle.cs_extent.specs.Appended.{IsAppendedBy}
use Rattle.cs_extent.specs.State.{State as ExtentsState, extents_of, shape}
use Rattle.cs_frame.specs.declared.locators.Locator.{Locator}
use Rattle.cs_index.specs.Apart.{IsFullApart, IsNewestStagedApart, WritesNewest, takes_apart}
use Rattle.cs_index.specs.Merges.{deletions_go, part}
use Rattle.cs_index.specs.Staged.{IsPartStagedBy, IsRunAppendedBy}
use Rattle.cs_index.specs.State.{State as IndexState, index_of}
use Rattle.law_machine.specs.Device.{Shape}
use Rattle.law_machine.specs.Element.{Copy, Entry, Locator as Place}
use Rattle.law_machine.specs.Extents.{Extents, ForMerge, ForRun, Purpose as Reason}
use Rattle.law_machine.specs.Merges.{IsRunOf}
use Rattle.cs_reclaim.specs.Rooted.{IsSweepStaged, extents_at_rest, freed_under}
use Rattle.cs_reclaim.specs.Sweeps.{IsSweptApart}
use Rattle.cs_reclaim.proofs.Marking.{freed_apart, rest_apart, taken_apart}

-- an append leaves a swept extent as it is
pub append_stays_apart : (x y : ExtentsState) (g h : Graph) (reason : Reason) (frame : List (List ℕ)) (l : Locator) (e : ℕ) → IsAppendedBy true x g reason frame l y h
    → IsSweptApart (shape x) (extents_of x) e → IsSweptApart (shape y) (extents_of y) e
append_stays_apart x y g h reason frame l e a swept =
    subst (λ (S : Shape). IsSweptApart S (extents_of y) e) (sym a.same_shape)
    (subst (λ (z : Extents). IsSweptApart (shape x) z e) (sym a.extents) (taken_apart (shape x) (extents_of x) e swept reason (length frame) l.extent a.placed))

-- so do blank extents that are emptied
pub freed_stays : (S : Shape) (x : Extents) (e : ℕ) → IsSweptApart S x e → (s : IndexState) (copies : List Copy) (root : ℕ) → IsSweptApart S (freed_under S x s copies root) e
freed_stays S x e swept s copies root = freed_apart S x e swept (index_of s) s.runs copies root

part_stays : (go : Bool) (k : ℕ) (s t : IndexState) (x y : ExtentsState) (g h : Graph) (reason : Reason) (v commands e : ℕ) → IsPartStagedBy true go k s x g reason v commands t y h
    → IsSweptApart (shape x) (extents_of x) e → IsSweptApart (shape y) (extents_of y) e
part_stays go k s t x y g h reason v commands e staged swept = ⊎_elim
    (λ (m : (entries : List Entry) × (place : Place) × (entries ≢ []) × IsRunOf go (part s k) entries × IsRunAppendedBy true x g reason entries place y staged.between
    × (t.runs ≡ record { place = place; entries = entries } ∷ drop k s.runs)). append_stays_apart x y g staged.between reason _ _ e m.4 swept)
    (λ (n : IsRunOf go (part s k) [] × (y ≡ x) × (staged.between ≡ g) × (t.runs ≡ drop k s.runs)). subst (λ (z : ExtentsState). IsSweptApart (shape z) (extents_of z) e) (sym n.1) swept)
    staged.appended

pub stage_stays : (s t : IndexState) (x y : ExtentsState) (g h : Graph) (copies after : List Copy) (v commands e : ℕ) → IsSweepStaged s x g copies v commands t y h after
    → IsSweptApart (shape x) (extents_of x) e → IsSweptApart (shape y) (extents_of y) e
stage_stays s t x y g h copies after v commands e staged swept =
    subst (λ (S : Shape). IsSweptApart S (extents_of y) e) (sym staged.rooted.same_shape)
    (subst (λ (z : Extents). IsSweptApart (shape staged.mid) z e) (sym staged.rooted.freed)
    (freed_stays (shape staged.mid) (extents_at_rest (shape staged.mid) (extents_of staged.mid)) e (rest_apart (shape staged.mid) (extents_of staged.mid) e run) t after v))
  where
    run : IsSweptApart (shape staged.mid) (extents_of staged.mid) e
    run = ⊎_elim
        (λ (one : IsNewestStagedApart (takes_apart (shape x) s) s x g ForRun v commands t staged.mid h).
        part_stays (deletions_go (shape x) s (takes_apart (shape x) s)) (takes_apart (shape x) s) s t x staged.mid g h ForRun v commands e one swept)
        (λ (all : IsFullApart (WritesNewest (shape x) s (takes_apart (shape x) s)) x ForRun × IsNewestStagedApart (length s.runs) s x g ForMerge v commands t staged.mid h).
        part_stays (deletions_go (shape x) s (length s.runs)) (length s.runs) s t x staged.mid g h ForMerge v commands e all.1 swept)
        staged.staged
