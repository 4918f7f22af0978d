-- Every event keeps a state sound.
use Rattle.std.proofs.Common.{◌≡◌, inl, inr, ⊎_elim, ℕ, true, List, [], ◌∷◌, ◌++◌, refl, sym, subst}
use Rattle.std.proofs.lemmas.Bool.{cases_Bool}
use Rattle.law_machine.proofs.Quiet.{none_moved, unchanged}
use Rattle.law_machine.proofs.ApartMoving.{keeps_move_apart, keeps_retire_apart}
use Rattle.law_machine.proofs.ApartStaging.{keeps_stage_apart}
use Rattle.law_machine.proofs.Rules.{apart_rule, before_rule}
use Rattle.law_machine.proofs.Marks.{keeps_abandon, keeps_begin_sweep}
use Rattle.law_machine.specs.Device.{IsShape, Shape}
use Rattle.law_machine.specs.Events.{Does}
use Rattle.law_machine.specs.Formats.{Formats}
use Rattle.law_machine.specs.Frames.{IsFormat}
use Rattle.law_machine.specs.Grounds.{Refuses}
use Rattle.law_machine.specs.Refusal.{Refusal}
use Rattle.law_machine.specs.Sound.{Bounded, Sound}
use Rattle.law_machine.specs.State.{Abandon, Abandoned, Absent, Accepted, Begin, BeginSweep, Begun, Delete, End, Ended, Event, Found, Get, Issue, Issued, MoveOne, Moved, NoneLive, NotYet, Nothing, Persistent, Put, Refused, Reply, Retire, Retired, Settle, Stage, Staged, State, Sweeping, Unchanged}
use Rattle.law_machine.specs.Step.{History, Step}
use Rattle.law_machine.proofs.Commands.{both, keeps_put, keeps_delete}
use Rattle.law_machine.proofs.Stagings.{keeps_stage, keeps_retire}
use Rattle.law_machine.proofs.Movings.{keeps_move}
use Rattle.law_machine.proofs.KeptRounds.{keeps_take, keeps_end_round, keeps_issue}

module _ (S : Shape) (F : Formats) (shape : IsShape S) (format : IsFormat S F) where
  -- what leaves the numbers, the table and the runs as they are
  rest : (s t u : State) → t ≡ u → Sound S F t → Bounded S F u → Sound S F t × Bounded S F t
  rest s t u is sound b = (sound, subst (λ (x : State). Bounded S F x) (sym is) b)

  begun_bounded : (s t : State) (e : ℕ) → Bounded S F s → Does S F s (BeginSweep e) Sweeping t → Bounded S F t
  begun_bounded s t e b d = elim (cases_Bool S.apart) [
    | inl on ↦ subst (λ (x : State). Bounded S F x) (sym (apart_rule _ _ S.apart on d).5)
        (record { bounds = b.bounds; runs_fit = b.runs_fit; written_fits = b.written_fits })
    | inr before ↦ subst (λ (x : State). Bounded S F x) (sym (before_rule _ _ S.apart before d).4)
        (record { bounds = b.bounds; runs_fit = b.runs_fit; written_fits = b.written_fits })
  ]

  pub keeps : (s t : State) (event : Event) (reply : Reply) → Sound S F s → Bounded S F s
      → ((f : Refusal) → Refuses S F s event f → ⊥) → Does S F s event reply t → Sound S F t × Bounded S F t
  keeps s t (Put id bytes) (Accepted n) sound b none d = keeps_put S F shape format s t id n bytes sound b none d
  keeps s t (Get id) (Found bytes) sound b none d = both S F shape format s t d.1 sound b
  keeps s t (Get id) Absent sound b none d = both S F shape format s t d.1 sound b
  keeps s t (Delete id) (Accepted n) sound b none d = keeps_delete S F shape format s t id n sound b none d
  keeps s t (Delete id) Absent sound b none d = both S F shape format s t d.1 sound b
  keeps s t Stage Unchanged sound b none d = both S F shape format s t (unchanged S F s t d) sound b
  keeps s t Stage (Staged v) sound b none d = elim (cases_Bool S.apart) [
    | inl on ↦ keeps_stage_apart S F shape format on s t v sound b none d
    | inr before ↦ keeps_stage S F shape format before s t v sound b none d
  ]
  keeps s t Begin Nothing sound b none d = both S F shape format s t d.2 sound b
  keeps s t Begin (Begun members) sound b none d = rest s t _ d.6 (keeps_take S F shape format s t members sound d)
      (record { bounds = b.bounds; runs_fit = b.runs_fit; written_fits = b.written_fits })
  keeps s t Issue (Issued m) sound b none d = rest s t _ d.3 (keeps_issue S F shape format s t m sound d)
      (record { bounds = b.bounds; runs_fit = b.runs_fit; written_fits = b.written_fits })
  keeps s t End (Ended n) sound b none d = rest s t _ d.2 (keeps_end_round S F shape format s t n sound d)
      (record { bounds = b.bounds; runs_fit = b.runs_fit; written_fits = b.written_fits })
  keeps s t (BeginSweep e) Sweeping sound b none d =
      (keeps_begin_sweep S F shape s t e sound d, begun_bounded s t e b d)
  keeps s t (MoveOne e) NoneLive sound b none d = both S F shape format s t (none_moved S F s t e d) sound b
  keeps s t (MoveOne e) (Moved id k) sound b none d = elim (cases_Bool S.apart) [
    | inl on ↦ keeps_move_apart S F shape format on s t e id k sound b none d
    | inr before ↦ keeps_move S F shape format before s t e id k sound b none d
  ]
  keeps s t (Retire e) (Retired v) sound b none d = elim (cases_Bool S.apart) [
    | inl on ↦ keeps_retire_apart S F shape format on s t e v sound b none d
    | inr before ↦ keeps_retire S F shape format before s t e v sound b none d
  ]
  keeps s t (Abandon e) Abandoned sound b none d = rest s t _ d.1
      (subst (λ (x : State). Sound S F x) (sym d.1) (keeps_abandon S F shape s e sound d.0))
      (record { bounds = b.bounds; runs_fit = b.runs_fit; written_fits = b.written_fits })
  keeps s t (Settle n) Persistent sound b none d = both S F shape format s t d.4 sound b
  keeps s t (Settle n) (NotYet f) sound b none d = both S F shape format s t d.2 sound b
  keeps s t event reply sound b none d = absurd d

  halts : (s : State) → Sound S F s → Sound S F (record s { halted = true })
  halts s sound = record {
    safe = sound.safe;
    settled = sound.settled;
    gives = sound.gives;
    maps = sound.maps;
    caught_up = sound.caught_up;
    frozen = sound.frozen;
    damaged = sound.damaged;
    shown = sound.shown;
    unfilled = sound.unfilled;
    filled = sound.filled;
    apart = λ on. record { found = (sound.apart on).found; one_sweep = (sound.apart on).one_sweep; copied = (sound.apart on).copied };
    left = sound.left;
    issued = sound.issued;
    complete = sound.complete;
    once = sound.once;
    idle = sound.idle;
    swept = sound.swept;
  }

  pub steps : (s t : State) (event : Event) (reply : Reply) → Sound S F s → Bounded S F s → Step S F s event reply t
      → Sound S F t × Bounded S F t
  steps s t Issue (Refused f) sound b (inl same) = both S F shape format s t same.1 sound b
  steps s t Issue (Refused f) sound b (inr fault) = ⊎_elim
      (λ (is : t ≡ record s { halted = true }). both S F shape format _ t is (halts s sound)
      (record { bounds = b.bounds; runs_fit = b.runs_fit; written_fits = b.written_fits }))
      (λ w. let u : State = record s { left = w.1 ++ w.2; issued = s.issued ++ w.0 ∷ [] } in
      both S F shape format _ t w.4 (halts u (keeps_issue S F shape format s u w.0 sound (w.1, w.2, w.3, refl)))
      (record { bounds = b.bounds; runs_fit = b.runs_fit; written_fits = b.written_fits })) fault.2
  steps s t End (Refused f) sound b (inl same) = both S F shape format s t same.1 sound b
  steps s t End (Refused f) sound b (inr fault) = both S F shape format _ t fault.2 (halts s sound)
      (record { bounds = b.bounds; runs_fit = b.runs_fit; written_fits = b.written_fits })
  steps s t event (Refused f) sound b d = both S F shape format s t d.1 sound b
  steps s t event reply sound b d = keeps s t event reply sound b d.0 d.1

  pub histories : (s t : State) (history : List (Event × Reply)) → Sound S F s → Bounded S F s
      → History S F s history t → Sound S F t × Bounded S F t
  histories s t [] sound b is = both S F shape format s t is sound b
  histories s t (x ∷ xs) sound b run = let next = steps s run.0 x.0 x.1 sound b run.1 in
      histories run.0 t xs next.0 next.1 run.2
