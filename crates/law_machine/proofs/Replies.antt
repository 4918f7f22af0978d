-- Every event has an answer.
use Rattle.std.proofs.Common.{◌≡◌, ◌≢◌, ◌⊎◌, inl, inr, ⊎_elim, ℕ, ◌≤◌, true, false, List, [], ◌∷◌, Option, Some, None, refl, sym, ◌∙◌, arith, ◌<◌}
use Rattle.std.proofs.lemmas.Bool.{cases_eq, cases_lt, cases_Bool}
use Rattle.law_machine.proofs.Places.{is_at}
use Rattle.law_machine.proofs.Rules.{before_rule, rule_before}
use Rattle.law_machine.proofs.ApartAnswered.{answers_begin_apart, answers_move_apart, answers_retire_apart}
use Rattle.law_machine.proofs.Lists.{some_frontier}
use Rattle.law_machine.proofs.Taking.{some_round, some_members, waits_or_not}
use Rattle.law_machine.proofs.Outcomes.{Answers, not_true, clears, ends}
use Rattle.law_machine.proofs.Answered.{answers_put, answers_delete}
use Rattle.law_machine.proofs.AnsweredStages.{answers_stage}
use Rattle.law_machine.proofs.AnsweredSweeps.{answers_retire, answers_move}
use Rattle.law_machine.specs.Device.{IsShape, Shape}
use Rattle.law_machine.specs.Element.{Bytes, Content, Damaged, Element}
use Rattle.law_machine.specs.Events.{issued_one, mark}
use Rattle.law_machine.specs.Formats.{Formats}
use Rattle.law_machine.specs.Frames.{IsFormat}
use Rattle.law_machine.specs.Machine.{BeginRound, EndRound, happens}
use Rattle.law_machine.specs.Refusal.{Halted, InFlight, NoRound, NotSweepable}
use Rattle.law_machine.specs.Round.{NothingWaits}
use Rattle.law_machine.specs.Sound.{Bounded, Sound}
use Rattle.law_machine.specs.State.{Abandon, Abandoned, Absent, Begin, BeginSweep, Begun, Delete, End, Ended, Event, Found, Get, Issue, Issued, MoveOne, NotYet, Nothing, Persistent, Put, Refused, Retire, Settle, Stage, State, Sweeping, map_now}

module _ (S : Shape) (F : Formats) (shape : IsShape S) (format : IsFormat S F) where
  answers_get : (s : State) (id : ℕ) → Answers S F shape format s (Get id)
  answers_get s id = go (map_now s id) refl
    where
      go : (o : Option Content) → map_now s id ≡ o → Answers S F shape format s (Get id)
      go None is = (
        Absent,
        s,
        (
          (λ f refused. ⊎_elim (λ damaged. let e : None ≡ Some (Damaged f) = sym is ∙ damaged in cc)
              (λ more. more.1) refused),
          (is, refl),
        ),
      )
      go (Some (Bytes bytes)) is = (
        Found bytes,
        s,
        (
          (λ f refused. ⊎_elim (λ damaged. let e : Some (Bytes bytes) ≡ Some (Damaged f) = sym is
              ∙ damaged in cc) (λ more. more.1) refused),
          (is, refl),
        ),
      )
      go (Some (Damaged f)) is = (Refused f, s, (inl (inl is), refl))

  answers_begin : (s : State) → Sound S F s → Answers S F shape format s Begin
  answers_begin s sound = elim (cases_Bool s.halted) [
    | inl halted ↦ (Refused Halted, s, (inl (inl (halted, refl)), refl))
    | inr runs ↦ (let on : s.halted ≡ true → ⊥ = not_true s.halted runs in elim (cases_Bool s.round_out) [
      | inl out ↦ (Refused InFlight, s, (inl (inr (on, inl (out, refl))), refl))
      | inr none_out ↦ (let free : s.round_out ≡ true → ⊥ = not_true s.round_out none_out in ⊎_elim
          (λ (none : NothingWaits s.world).
          (Nothing, s, (clears Halted on (clears InFlight free ends), (none_out, none, refl))))
          (λ (some : NothingWaits s.world → ⊥).
          let round = some_round S F s.opened s.world sound.safe in
          let members = some_members S F s.opened s.world sound.safe round.0 in (
            Begun members.0,
            record s {
              world = happens S s.world (BeginRound round.0);
              round_out = true;
              left = members.0;
              issued = [];
            },
            (clears Halted on (clears InFlight free ends), (none_out, round.0, round.1, members.1, members.2, some, refl)),
          ))
          (waits_or_not S F s.opened s.world sound.safe))
    ])
  ]

  answers_issue : (s : State) → Answers S F shape format s Issue
  answers_issue s = elim (cases_Bool s.halted) [
    | inl halted ↦ (Refused Halted, s, inl (inl (halted, refl), refl))
    | inr runs ↦ (let on : s.halted ≡ true → ⊥ = not_true s.halted runs in elim (cases_Bool s.round_out) [
      | inr none_out ↦ (Refused NoRound, s, inl (inr (on, inl (inl none_out, refl)), refl))
      | inl out ↦ go on out s.left refl
    ])
  ]
    where
      go : (s.halted ≡ true → ⊥) → s.round_out ≡ true → (ms : List Element) → s.left ≡ ms
          → Answers S F shape format s Issue
      go on out [] is = (Refused NoRound, s, inl (inr (on, inl (inr is, refl)), refl))
      go on out (m ∷ ms) is = (
        Issued m,
        issued_one S F s [] m ms,
        (
          clears Halted on (clears NoRound
              (λ none. ⊎_elim (λ x. not_true s.round_out x out) (λ empty. let e : m ∷ ms ≡ [] = sym is ∙ empty in
              cc) none) ends),
          ([], ms, is, refl),
        ),
      )

  answers_end : (s : State) → Sound S F s → Answers S F shape format s End
  answers_end s sound = elim (cases_Bool s.halted) [
    | inl halted ↦ (Refused Halted, s, inl (inl (halted, refl), refl))
    | inr runs ↦ (let on : s.halted ≡ true → ⊥ = not_true s.halted runs in elim (cases_Bool s.round_out) [
      | inr none_out ↦ (Refused NoRound, s, inl (inr (on, inl (inl none_out, refl)), refl))
      | inl out ↦ go on out s.left refl
    ])
  ]
    where
      go : (s.halted ≡ true → ⊥) → s.round_out ≡ true → (ms : List Element) → s.left ≡ ms
          → Answers S F shape format s End
      go on out [] is = (let root = sound.safe.round_exact.root in let number = sound.maps root.0 root.1 in (
        Ended number.0,
        record s { world = happens S s.world EndRound; round_out = false; left = []; issued = [] },
        (
          clears Halted on (clears NoRound
              (λ none. ⊎_elim (λ x. not_true s.round_out x out) (λ some. some is) none) ends),
          (out, is, refl, (root.0, root.1, root.2, number.2)),
        ),
      ))
      go on out (m ∷ ms) is = (
        Refused NoRound,
        s,
        inl (inr (on, inl (inr (λ empty. let e : m ∷ ms ≡ [] = sym is ∙ empty in cc), refl)), refl),
      )

  begin_before : S.apart ≡ false → (s : State) (e : ℕ) → (s.halted ≡ true → ⊥) → Answers S F shape format s (BeginSweep e)
  begin_before before s e on = ⊎_elim
      (λ (open_one : s.world.extents.open_extent ≡ Some e). refused (inl open_one))
      (λ (closed : s.world.extents.open_extent ≢ Some e). elim (cases_lt e S.extents) [
        | inr out ↦ refused (inr (inl out))
        | inl there ↦ elim (cases_eq (s.world.extents.pointer e) 0) [
          | inl empty ↦ refused (inr (inr (inl empty)))
          | inr some ↦ elim (cases_Bool (s.world.extents.swept e)) [
            | inl swept ↦ refused (inr (inr (inr swept)))
            | inr not ↦ (
              Sweeping,
              mark s e true,
              (
                clears Halted on (clears NotSweepable (λ bad. fine closed there some not (before_rule _ _ S.apart before bad)) ends),
                rule_before _ _ S.apart before (not, closed, there, omega arith, refl),
              ),
            )
          ]
        ]
      ])
      (is_at S s.world.extents.open_extent e)
    where
      refused : (s.world.extents.open_extent ≡ Some e) ⊎ (S.extents ≤ e) ⊎ (s.world.extents.pointer e ≡ 0)
          ⊎ (s.world.extents.swept e ≡ true) → Answers S F shape format s (BeginSweep e)
      refused bad = (Refused NotSweepable, s, (inl (inr (on, inl (rule_before _ _ S.apart before bad, refl))), refl))

      fine : s.world.extents.open_extent ≢ Some e → e < S.extents → s.world.extents.pointer e ≢ 0
          → s.world.extents.swept e ≡ false → (s.world.extents.open_extent ≡ Some e) ⊎ (S.extents ≤ e)
          ⊎ (s.world.extents.pointer e ≡ 0) ⊎ (s.world.extents.swept e ≡ true) → ⊥
      fine closed there some not (inl open_one) = closed open_one
      fine closed there some not (inr (inl out)) = omega arith
      fine closed there some not (inr (inr (inl empty))) = some empty
      fine closed there some not (inr (inr (inr swept))) = not_true (s.world.extents.swept e) not swept

  answers_begin_sweep : (s : State) (e : ℕ) → Answers S F shape format s (BeginSweep e)
  answers_begin_sweep s e = elim (cases_Bool s.halted) [
    | inl halted ↦ (Refused Halted, s, (inl (inl (halted, refl)), refl))
    | inr runs ↦ elim (cases_Bool S.apart) [
      | inl apart ↦ answers_begin_apart S F shape format apart s e (not_true s.halted runs)
      | inr before ↦ begin_before before s e (not_true s.halted runs)
    ]
  ]

  answers_abandon : (s : State) (e : ℕ) → Answers S F shape format s (Abandon e)
  answers_abandon s e = elim (cases_Bool s.halted) [
    | inl halted ↦ (Refused Halted, s, (inl (inl (halted, refl)), refl))
    | inr runs ↦ (let on : s.halted ≡ true → ⊥ = not_true s.halted runs in elim (cases_Bool (s.world.extents.swept e)) [
      | inr not ↦ (Refused NotSweepable, s, (inl (inr (on, inl (not, refl))), refl))
      | inl swept ↦ (
        Abandoned,
        mark s e false,
        (
          clears Halted on (clears NotSweepable (λ not. not_true (s.world.extents.swept e) not swept) ends),
          (swept, refl),
        ),
      )
    ])
  ]

  answers_settle : (s : State) (n : ℕ) → Sound S F s → Answers S F shape format s (Settle n)
  answers_settle s n sound =
      let front = some_frontier S F s sound in
      elim (cases_eq n 0) [
        | inl zero_n ↦ (NotYet front.0, s, (ends, (front.2, inl zero_n, refl)))
        | inr some ↦ elim (cases_lt front.0 n) [
          | inl later ↦ (NotYet front.0, s, (ends, (front.2, inr later, refl)))
          | inr done ↦ (Persistent, s, (ends, (front.0, front.2, omega arith, done, refl)))
        ]
      ]

  pub answers : (s : State) (event : Event) → Sound S F s → Bounded S F s → Answers S F shape format s event
  answers s (Put id bytes) sound b = answers_put S F shape format s id bytes sound b
  answers s (Get id) sound b = answers_get s id
  answers s (Delete id) sound b = answers_delete S F shape format s id sound b
  answers s Stage sound b = answers_stage S F shape format s sound b
  answers s Begin sound b = answers_begin s sound
  answers s Issue sound b = answers_issue s
  answers s End sound b = answers_end s sound
  answers s (BeginSweep e) sound b = answers_begin_sweep s e
  answers s (MoveOne e) sound b = elim (cases_Bool S.apart) [
    | inl apart ↦ answers_move_apart S F shape format apart s e sound b
    | inr before ↦ answers_move S F shape format before s e sound b
  ]
  answers s (Retire e) sound b = elim (cases_Bool S.apart) [
    | inl apart ↦ answers_retire_apart S F shape format apart s e sound b
    | inr before ↦ answers_retire S F shape format before s e sound b
  ]
  answers s (Abandon e) sound b = answers_abandon s e
  answers s (Settle n) sound b = answers_settle s n sound
