-- What the calls of a store's parts do where chunks and runs lie apart is what the machine's events do.
use Rattle.std.proofs.Common.{◌≡◌, ◌≢◌, inl, inr, ℕ, suc, ◌≤◌, Bool, true, false, List, [], ◌∷◌, Some, length, map, arith, refl, sym, ap, ◌∙◌, subst}
use Rattle.std.proofs.lemmas.Bool.{cases_lt, false_from_ne_true}
use Rattle.cs_deps.specs.State.{State as GraphState}
use Rattle.cs_extent.specs.Appended.{AreAppendedBy}
use Rattle.cs_extent.specs.State.{IsWhole, State as ExtentsState, extents_of, shape}
use Rattle.cs_frame.specs.declared.locators.Locator.{Locator}
use Rattle.cs_frame.specs.Formats.{formats_of, place_of}
use Rattle.cs_index.specs.State.{IsSet, State as IndexState, index_of}
use Rattle.law_machine.specs.Apart.{AllCopied, MayNotBegin, is_any_swept, swept_aside, sweeping}
use Rattle.law_machine.specs.Append.{AppendsChunksBy, chunk_frames}
use Rattle.law_machine.specs.Element.{Copy}
use Rattle.law_machine.specs.Events.{ArePayloads, Does, mark}
use Rattle.law_machine.specs.Extents.{Extents, ForPut, marked}
use Rattle.law_machine.specs.Index.{lookup}
use Rattle.law_machine.specs.State.{Abandon, Abandoned, Accepted, BeginSweep, MoveOne, NoneLive, Put, State, Sweeping, index_now, next_command}
use Rattle.law_refinement.specs.Copying.{AreAllPartsOf}
use Rattle.law_refinement.proofs.DoesApart.{begins_so, none_so}
use Rattle.law_refinement.proofs.Freed.{after_others}
use Rattle.law_refinement.proofs.Indexes.{after_set, looked_up}
use Rattle.law_refinement.proofs.Keeping.{after_appends_by, after_mark}
use Rattle.law_refinement.proofs.Left.{all_copied}

module _ (x : ExtentsState) (g : GraphState) (i : IndexState) (copies : List Copy) (s : State) (on : (shape x).apart ≡ true) (are : AreAllPartsOf x g i copies s) where
  -- ---- puts

  pub put : (y : ExtentsState) (h : GraphState) (j : IndexState) (id : ℕ) (bytes : List ℕ) (cs : List (List ℕ)) (ls : List Locator)
      → IsWhole x → ArePayloads (shape x) (formats_of (shape x)) id (next_command s) bytes cs
      → AreAppendedBy true x g ForPut (chunk_frames (shape x) (formats_of (shape x)) cs) ls y h → IsSet i id (map place_of ls) j
      → (t : State) × Does (shape x) (formats_of (shape x)) s (Put id bytes) (Accepted (suc (length s.commands))) t × AreAllPartsOf y h j copies t
  put y h j id bytes cs ls whole cut all set =
      let done = after_appends_by true x y g h s.world ForPut (chunk_frames (shape x) (formats_of (shape x)) cs) ls whole.geometry are.parts.world all in
      let mid : State = record s { world = done.0 } in (
        record s {
          world = done.0;
          table = record { id = id; locators = map place_of ls } ∷ s.table;
          commands = (id, Some bytes) ∷ s.commands;
        },
        (cs, map place_of ls, mid, cut, subst (λ (b : Bool). AppendsChunksBy (shape x) (formats_of (shape x)) b s cs (map place_of ls) mid) (sym on) (done.0, done.1, refl), refl, refl),
        record {
          parts = record { world = done.2; index = after_set i s.table s.runs are.parts.index id (map place_of ls) j set };
          same_copies = are.same_copies;
        },
      )

  -- ---- sweeps begin

  pub begin_sweep : (y : ExtentsState) (e : ℕ) → ¬ MayNotBegin (shape x) (extents_of x) copies e → shape y ≡ shape x
      → extents_of y ≡ swept_aside (shape x) (extents_of x) e
      → Does (shape x) (formats_of (shape x)) s (BeginSweep e) Sweeping (sweeping (shape x) s e) × AreAllPartsOf y g i copies (sweeping (shape x) s e)
  begin_sweep y e may same extents =
      let not : ¬ MayNotBegin (shape x) s.world.extents s.copies e = (λ is.
      may (subst (λ (z : Extents). MayNotBegin (shape x) z copies e) are.parts.world.extents
      (subst (λ (cs : List Copy). MayNotBegin (shape x) s.world.extents cs e) are.same_copies is))) in (
        begins_so (shape x) (formats_of (shape x)) on s (sweeping (shape x) s e) e (
          false_from_ne_true (is_any_swept (shape x) s.world.extents) (λ is. not (inl is)),
          no_copy s.copies (λ some. not (inr (inl some))),
          elim (cases_lt e (shape x).extents) [ inl lt ↦ lt | inr ge ↦ absurd (not (inr (inr (inl ge)))) ],
          elim (cases_lt 0 (s.world.extents.pointer e)) [
            | inl some ↦ some
            | inr none ↦ absurd (not (inr (inr (inr (inl (nothing (s.world.extents.pointer e) none))))))
          ],
          false_from_ne_true (s.world.extents.of_runs e) (λ is. not (inr (inr (inr (inr is))))),
          refl,
        ),
        record {
          parts = record {
            world = after_others x y g s.world are.parts.world same (swept_aside (shape x) s.world.extents e) (λ d. inl refl)
                (extents ∙ ap (λ (z : Extents). swept_aside (shape x) z e) (sym are.parts.world.extents));
            index = are.parts.index;
          };
          same_copies = are.same_copies;
        },
      )
    where
      no_copy : (cs : List Copy) → ¬ (cs ≢ []) → cs ≡ []
      no_copy [] not = refl
      no_copy (c ∷ cs) not = absurd (not (λ none. let e : c ∷ cs ≡ [] = none in cc))

      nothing : (n : ℕ) → n ≤ 0 → n ≡ 0
      nothing n le = omega arith

  -- ---- copies

  asked : (id : ℕ) → lookup id (index_of i) ≡ lookup id (index_now s)
  asked = looked_up i s.table s.runs are.parts.index

  pub none_left : (e : ℕ) → (extents_of x).swept e ≡ true → AllCopied (index_of i) copies e
      → Does (shape x) (formats_of (shape x)) s (MoveOne e) NoneLive s
  none_left e swept all = none_so (shape x) (formats_of (shape x)) on s s e (
    ap (λ (z : Extents). z.swept e) are.parts.world.extents ∙ swept,
    subst (λ (cs : List Copy). AllCopied (index_now s) cs e) (sym are.same_copies) (all_copied (index_of i) (index_now s) asked copies e all),
    refl,
  )

-- ---- a sweep is given up, whose copies stay
module _ (x : ExtentsState) (g : GraphState) (i : IndexState) (copies : List Copy) (s : State) (are : AreAllPartsOf x g i copies s) where
  pub abandon : (y : ExtentsState) (e : ℕ) → (extents_of x).swept e ≡ true → shape y ≡ shape x → extents_of y ≡ marked (extents_of x) e false
      → Does (shape x) (formats_of (shape x)) s (Abandon e) Abandoned (mark s e false) × AreAllPartsOf y g i copies (mark s e false)
  abandon y e swept same extents = (
    (ap (λ (z : Extents). z.swept e) are.parts.world.extents ∙ swept, refl),
    record {
      parts = record { world = after_mark x y g s.world e false are.parts.world same extents; index = are.parts.index };
      same_copies = are.same_copies;
    },
  )
