-- Where no extent is set aside: none is one that a sweep opened.
use Rattle.std.proofs.Common.{◌≡◌, inl, inr, ⊎_elim, ℕ, ◌&&◌, Bool, true, false, not, List, [], ◌∷◌, None, true≢false, refl, ap, ◌∙◌}
use Rattle.law_machine.proofs.Quiet.{unchanged}
use Rattle.law_machine.proofs.Rules.{apart_rule}
use Rattle.law_machine.specs.Apart.{any_below, any_swept, some_copy}
use Rattle.law_machine.specs.Device.{IsShape, Shape}
use Rattle.law_machine.specs.Element.{Copy}
use Rattle.law_machine.specs.Extents.{Extents}
use Rattle.law_machine.specs.Formats.{Formats}
use Rattle.law_machine.specs.Frames.{IsFormat}
use Rattle.law_machine.specs.Lists.{◌∈◌}
use Rattle.law_machine.specs.State.{Absent, Begin, Begun, End, Ended, Event, Found, Get, Issue, Issued, NotYet, Nothing, Persistent, Refused, Reply, Settle, Stage, Staged, State, Unchanged}
use Rattle.law_machine.specs.Step.{History, Step}
use Rattle.law_room.proofs.MachineStaged.{fresh_still, merge_leaves, rested_fresh, swept_still}
use Rattle.law_room.specs.OfMachine.{HasRoomNow}
use Rattle.law_room.specs.Rooms.{Room}
use Rattle.law_room.specs.SweepsOfMachine.{IsSyncing}

-- the events of rounds
abbrev pub IsOfRound : Event → Type 0
IsOfRound Begin = Unit {0}
IsOfRound Issue = Unit {0}
IsOfRound End = Unit {0}
IsOfRound event = ⊥

no_copy : (copies : List Copy) → some_copy copies ≡ false → copies ≡ []
no_copy [] none = refl
no_copy (c ∷ cs) wrong = absurd (true≢false wrong)

module _ (S : Shape) (F : Formats) (shape : IsShape S) (format : IsFormat S F) (apart : S.apart ≡ true) where
  -- rounds leave the extents
  round_step : (s t : State) (event : Event) (reply : Reply) → IsOfRound event → Step S F s event reply t
      → t.world.extents ≡ s.world.extents
  round_step s t Begin Nothing of step = ap (λ (x : State). x.world.extents) step.1.2
  round_step s t Begin (Begun members) of step = ap (λ (x : State). x.world.extents) step.1.6
  round_step s t Issue (Issued m) of step = ap (λ (x : State). x.world.extents) step.1.3
  round_step s t End (Ended n) of step = ap (λ (x : State). x.world.extents) step.1.2
  round_step s t Issue (Refused f) of (inl same) = ap (λ (x : State). x.world.extents) same.1
  round_step s t Issue (Refused f) of (inr fault) = ⊎_elim
      (λ (is : t ≡ record s { halted = true }). ap (λ (x : State). x.world.extents) is)
      (λ w. ap (λ (x : State). x.world.extents) w.4) fault.2
  round_step s t End (Refused f) of (inl same) = ap (λ (x : State). x.world.extents) same.1
  round_step s t End (Refused f) of (inr fault) = ap (λ (x : State). x.world.extents) fault.2
  round_step s t Begin (Refused f) of step = ap (λ (x : State). x.world.extents) step.1
  round_step s t Begin reply of step = absurd step.1
  round_step s t Issue reply of step = absurd step.1
  round_step s t End reply of step = absurd step.1
  round_step s t event reply of step = absurd of

  pub rounds_leave : (s t : State) (history : List (Event × Reply)) → History S F s history t
      → ((x : Event × Reply) → x ∈ history → IsOfRound x.0) → t.world.extents ≡ s.world.extents
  rounds_leave s t [] is all = ap (λ (x : State). x.world.extents) is
  rounds_leave s t (x ∷ xs) (mid, step, rest) all = rounds_leave mid t xs rest (λ y there. all y (inr there))
      ∙ round_step s mid x.0 x.1 (all x (inl refl)) step

  -- a Stage leaves the marks, and where there are none no extent is set aside after it
  pub stage_marks : (s t : State) (reply : Reply) → Step S F s Stage reply t → t.world.extents.swept ≡ s.world.extents.swept
  stage_marks s t Unchanged step = ap (λ (x : State). x.world.extents.swept) (unchanged S F s t step.1)
  stage_marks s t (Staged v) step =
      let o = apart_rule _ _ S.apart apart step.1 in
      ap (λ (x : State). x.world.extents.swept) o.2.3 ∙ swept_still S F shape format apart o.2.0 o.2.1
      ∙ (merge_leaves S F shape format apart s o.2.0 o.2.1 o.2.2).2
  stage_marks s t (Refused f) step = ap (λ (x : State). x.world.extents.swept) step.1
  stage_marks s t reply step = absurd step.1

  pub staged_fresh : (s t : State) (v : ℕ) → any_swept S s ≡ false → Step S F s Stage (Staged v) t → t.world.extents.fresh ≡ None
  staged_fresh s t v off step =
      let o = apart_rule _ _ S.apart apart step.1 in
      ap (λ (x : State). x.world.extents.fresh) o.2.3
      ∙ rested_fresh S F shape format apart o.2.0 o.2.1 (ap (λ (f : ℕ → Bool). any_below f S.extents)
      (merge_leaves S F shape format apart s o.2.0 o.2.1 o.2.2).2 ∙ off)

  pub unchanged_fresh : (s t : State) (r : Room) → HasRoomNow S F s r → any_swept S s ≡ false → Step S F s Stage Unchanged t
      → t.world.extents.fresh ≡ None
  unchanged_fresh s t r has off step =
      let o = apart_rule _ _ S.apart apart step.1 in
      ap (λ (x : State). x.world.extents.fresh) o.2
      ∙ has.unopened (no_copy s.copies (go (any_swept S s) off o.1))
    where
      go : (b : Bool) → b ≡ false → (not b && some_copy s.copies) ≡ false → some_copy s.copies ≡ false
      go true wrong is = absurd (true≢false wrong)
      go false off is = is

  -- where none is set aside before the events of a sync none is after them
  sync_fresh : (s t : State) (event : Event) (reply : Reply) → IsSyncing event → Step S F s event reply t
      → s.world.extents.fresh ≡ None → t.world.extents.fresh ≡ None
  sync_fresh s t Stage Unchanged of step none = ap (λ (x : State). x.world.extents.fresh) (unchanged S F s t step.1) ∙ none
  sync_fresh s t Stage (Staged v) of step none =
      let o = apart_rule _ _ S.apart apart step.1 in
      ap (λ (x : State). x.world.extents.fresh) o.2.3
      ∙ fresh_still S F shape format apart o.2.0 o.2.1 ((merge_leaves S F shape format apart s o.2.0 o.2.1 o.2.2).0 ∙ none)
  sync_fresh s t Stage (Refused f) of step none = ap (λ (x : State). x.world.extents.fresh) step.1 ∙ none
  sync_fresh s t Stage reply of step none = absurd step.1
  sync_fresh s t Begin reply of step none = ap (λ (x : Extents). x.fresh) (round_step s t Begin reply tt step) ∙ none
  sync_fresh s t Issue reply of step none = ap (λ (x : Extents). x.fresh) (round_step s t Issue reply tt step) ∙ none
  sync_fresh s t End reply of step none = ap (λ (x : Extents). x.fresh) (round_step s t End reply tt step) ∙ none
  sync_fresh s t (Get id) (Found bytes) of step none = ap (λ (x : State). x.world.extents.fresh) step.1.1 ∙ none
  sync_fresh s t (Get id) Absent of step none = ap (λ (x : State). x.world.extents.fresh) step.1.1 ∙ none
  sync_fresh s t (Get id) (Refused f) of step none = ap (λ (x : State). x.world.extents.fresh) step.1 ∙ none
  sync_fresh s t (Get id) reply of step none = absurd step.1
  sync_fresh s t (Settle n) Persistent of step none = ap (λ (x : State). x.world.extents.fresh) step.1.4 ∙ none
  sync_fresh s t (Settle n) (NotYet f) of step none = ap (λ (x : State). x.world.extents.fresh) step.1.2 ∙ none
  sync_fresh s t (Settle n) (Refused f) of step none = ap (λ (x : State). x.world.extents.fresh) step.1 ∙ none
  sync_fresh s t (Settle n) reply of step none = absurd step.1
  sync_fresh s t event reply of step none = absurd of

  pub syncs_fresh : (s t : State) (history : List (Event × Reply)) → History S F s history t
      → ((x : Event × Reply) → x ∈ history → IsSyncing x.0) → s.world.extents.fresh ≡ None → t.world.extents.fresh ≡ None
  syncs_fresh s t [] is all none = ap (λ (x : State). x.world.extents.fresh) is ∙ none
  syncs_fresh s t (x ∷ xs) (mid, step, rest) all none = syncs_fresh mid t xs rest (λ y there. all y (inr there))
      (sync_fresh s mid x.0 x.1 (all x (inl refl)) step none)
