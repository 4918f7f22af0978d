-- A chunk that a sweep copies where chunks and runs lie apart is copied in the machine.
use Rattle.std.proofs.Common.{◌≡◌, ℕ, true, List, ◌∷◌, None, refl, sym, ap, ◌∙◌, subst}
use Rattle.cs_deps.specs.State.{State as GraphState}
use Rattle.cs_extent.specs.State.{IsWhole, State as ExtentsState, extents_of, shape}
use Rattle.cs_frame.specs.Formats.{formats_of, place_of}
use Rattle.cs_index.specs.State.{State as IndexState, index_of}
use Rattle.law_machine.specs.Apart.{FirstUncopied}
use Rattle.law_machine.specs.Element.{Copy}
use Rattle.law_machine.specs.Events.{Does, ReadsNow}
use Rattle.law_machine.specs.Extents.{Extents, ForMove}
use Rattle.law_machine.specs.Formats.{ChunkFrame}
use Rattle.law_machine.specs.Index.{lookup}
use Rattle.law_machine.specs.State.{MoveOne, Moved, State, index_now}
use Rattle.cs_reclaim.specs.Copied.{IsCopyMade}
use Rattle.law_refinement.specs.Copying.{AreAllPartsOf}
use Rattle.law_refinement.proofs.Appending.{after_append_by}
use Rattle.law_refinement.proofs.DoesApart.{moves_so}
use Rattle.law_refinement.proofs.Indexes.{looked_up}
use Rattle.law_refinement.proofs.Left.{first_uncopied}

module _ (x : ExtentsState) (g : GraphState) (i : IndexState) (copies : List Copy) (s : State) (on : (shape x).apart ≡ true) (are : AreAllPartsOf x g i copies s) where
  asked : (id : ℕ) → lookup id (index_of i) ≡ lookup id (index_now s)
  asked = looked_up i s.table s.runs are.parts.index

  pub copy : (y : ExtentsState) (h : GraphState) (e id chunk : ℕ) (payload : List ℕ) (after : List Copy) → IsWhole x → (extents_of x).swept e ≡ true
      → (made : IsCopyMade i x g copies e id chunk payload after y h) → s.opening.damage made.from ≡ None
      → ReadsNow (shape x) (formats_of (shape x)) s made.from ChunkFrame payload
      → (t : State) × Does (shape x) (formats_of (shape x)) s (MoveOne e) (Moved id chunk) t × AreAllPartsOf y h i after t
  copy y h e id chunk payload after whole swept made undamaged reads =
      let done = after_append_by x g s.world whole.geometry are.parts.world true ForMove ((formats_of (shape x)).frame ChunkFrame payload) made.to y h made.appended in
      let more : List Copy → List Copy = (λ cs. record { id = id; chunk = chunk; from = made.from; to = place_of made.to } ∷ cs) in (
        record s { world = done.0; copies = more s.copies },
        moves_so (shape x) (formats_of (shape x)) on s (record s { world = done.0; copies = more s.copies }) e id chunk (
          made.from,
          place_of made.to,
          payload,
          record s { world = done.0 },
          ap (λ (z : Extents). z.swept e) are.parts.world.extents ∙ swept,
          subst (λ (cs : List Copy). FirstUncopied (index_now s) cs e id chunk made.from) (sym are.same_copies)
              (first_uncopied (index_of i) (index_now s) asked copies e id chunk made.from made.first),
          undamaged,
          reads,
          (done.0, done.1, refl),
          refl,
        ),
        record {
          parts = record { world = done.2; index = are.parts.index };
          same_copies = ap more are.same_copies ∙ sym made.noted;
        },
      )
