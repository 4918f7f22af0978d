-- A run goes nowhere where chunks and runs lie apart.
use Rattle.std.proofs.Common.{◌≡◌, ◌≢◌, inl, inr, ℕ, Bool, true, false, List, [], ◌∷◌, drop, length, refl, sym, subst}
use Rattle.cs_deps.specs.State.{State as GraphState}
use Rattle.cs_extent.specs.State.{State as ExtentsState, extents_of, shape}
use Rattle.cs_frame.specs.Formats.{formats_of}
use Rattle.cs_index.specs.Apart.{IsFullApart}
use Rattle.cs_index.specs.Merges.{part as index_part}
use Rattle.cs_index.specs.Staged.{WritesPart, run_frame}
use Rattle.cs_index.specs.State.{State as IndexState}
use Rattle.law_machine.proofs.Needs.{append_there_by}
use Rattle.law_machine.proofs.Sorted.{sorted, sorted_live}
use Rattle.law_machine.specs.Append.{AppendBy}
use Rattle.law_machine.specs.Element.{Entry, Locator as Place, Run}
use Rattle.law_machine.specs.Extents.{Extents, GoesApart, Purpose as Reason}
use Rattle.law_machine.specs.Formats.{RunFrame}
use Rattle.law_machine.specs.Machine.{World}
use Rattle.law_machine.specs.Merges.{IsRunOf, MergesPart}
use Rattle.law_machine.specs.State.{State}
use Rattle.law_refinement.specs.Parts.{ArePartsOf}
use Rattle.law_refinement.proofs.Merges.{run_there, same_run}

-- there is a run of an index
some_run : (go : Bool) (index : List Entry) → (ws : List Entry) × IsRunOf go index ws
some_run true index = let all = sorted_live index in (all.0, (all.1, all.2))
some_run false index = let all = sorted index in (all.0, (all.1, all.2))

module _ (x : ExtentsState) (g : GraphState) (i : IndexState) (s : State) (are : ArePartsOf x g i s) where
  -- the pages of a run, as the machine has them
  abbrev pub pages_of : List Entry → List (List ℕ)
  pages_of entries = (formats_of (shape x)).frame RunFrame ((formats_of (shape x)).run entries)

  pub as_many_pages : (entries : List Entry) → length (run_frame x entries) ≡ length (pages_of entries)
  unfolding run_frame
  as_many_pages entries = refl

  pub goes_here : (reason : Reason) (entries : List Entry) (e : ℕ) → GoesApart (shape x) s.world.extents reason (length (pages_of entries)) e
      → GoesApart (shape x) (extents_of x) reason (length (run_frame x entries)) e
  goes_here reason entries e goes = subst (λ (z : Extents). GoesApart (shape x) z reason (length (run_frame x entries)) e) are.world.extents
      (subst (λ (k : ℕ). GoesApart (shape x) s.world.extents reason k e) (sym (as_many_pages entries)) goes)

  goes_there : (reason : Reason) (entries : List Entry) (e : ℕ) → GoesApart (shape x) (extents_of x) reason (length (run_frame x entries)) e
      → GoesApart (shape x) s.world.extents reason (length (pages_of entries)) e
  goes_there reason entries e goes = subst (λ (k : ℕ). GoesApart (shape x) s.world.extents reason k e) (as_many_pages entries)
      (subst (λ (z : Extents). GoesApart (shape x) z reason (length (run_frame x entries)) e) (sym are.world.extents) goes)

  pub append_run : (reason : Reason) (entries : List Entry) (e : ℕ) → GoesApart (shape x) (extents_of x) reason (length (run_frame x entries)) e
      → (l : Place) × (v : World) × AppendBy (shape x) true s.world reason (pages_of entries) l v
  append_run reason entries e goes = append_there_by (shape x) true s.world reason (pages_of entries) e (goes_there reason entries e goes)

  -- an append of the same run in the machine shows that there is a place
  pub has_place : (reason : Reason) (es entries : List Entry) (l : Place) (v : World) → es ≡ entries → AppendBy (shape x) true s.world reason (pages_of es) l v
      → ((e : ℕ) → ¬ GoesApart (shape x) (extents_of x) reason (length (run_frame x entries)) e) → ⊥
  has_place reason es entries l v same a none =
      none a.extent (subst (λ (ys : List Entry). GoesApart (shape x) (extents_of x) reason (length (run_frame x ys)) a.extent) same (goes_here reason es a.extent a.placed))

  pub part_full_to : (go : Bool) (reason : Reason) (k : ℕ)
      → ((mid : State) (runs : List Run) → MergesPart (shape x) (formats_of (shape x)) true go s reason k mid runs → ⊥) → IsFullApart (WritesPart go i k) x reason
  part_full_to go reason k none = let all = some_run go (index_part i k) in by all.0 all.1
    where
      by : (ws : List Entry) → IsRunOf go (index_part i k) ws → IsFullApart (WritesPart go i k) x reason
      by [] run = absurd (none s (drop k s.runs) (inr (run_there i s are.index go k [] run, refl, refl)))
      by (w ∷ ws) run =
          let some : w ∷ ws ≢ [] = (λ is. let e : w ∷ ws ≡ [] = is in cc) in (
            w ∷ ws,
            (run, some),
            λ e goes. let a = append_run reason (w ∷ ws) e goes in
                none (record s { world = a.1 }) (record { place = a.0; entries = w ∷ ws } ∷ drop k s.runs)
                (inl (w ∷ ws, a.0, some, run_there i s are.index go k (w ∷ ws) run, (a.1, a.2, refl), refl)),
          )

  pub part_full_from : (go : Bool) (reason : Reason) (k : ℕ) → IsFullApart (WritesPart go i k) x reason
      → (mid : State) (runs : List Run) → MergesPart (shape x) (formats_of (shape x)) true go s reason k mid runs → ⊥
  part_full_from go reason k (entries, (run, some), none) mid runs (inl (es, l, some', run', (v, a, same), one)) =
      has_place reason es entries l v (same_run i s are.index go k es entries run' run) a none
  part_full_from go reason k (entries, (run, some), none) mid runs (inr (run', same, left)) = some (sym (same_run i s are.index go k [] entries run' run))
