-- What an event does to the commands.
use Rattle.std.proofs.Common.{◌≡◌, inl, inr, ⊎_elim, ℕ, Bool, List, [], ◌∷◌, ◌++◌, append_assoc, length, Some, true, refl, sym, ap, ◌∙◌, subst, false}
use Rattle.std.proofs.lemmas.Bool.{cases_Bool}
use Rattle.law_machine.specs.Apart.{StagesApart, settled, takes}
use Rattle.law_machine.proofs.Settling.{settled_alike}
use Rattle.law_machine.proofs.Rules.{apart_rule, before_rule}
use Rattle.law_machine.proofs.Merging.{in_part}
use Rattle.law_machine.specs.Append.{AppendsFrameBy}
use Rattle.law_machine.specs.Device.{Shape}
use Rattle.law_machine.specs.Element.{Locator, Map, Run}
use Rattle.law_machine.specs.Events.{Does, mark}
use Rattle.law_machine.specs.Extents.{ForMove, ForRun, Purpose, ForMerge}
use Rattle.law_machine.specs.Formats.{ChunkFrame, Formats, FrameKind, RunFrame}
use Rattle.law_machine.specs.Merges.{MergesPart, deletions_go, stage_takes}
use Rattle.law_machine.specs.State.{Abandon, Abandoned, Absent, Accepted, Begin, BeginSweep, Begun, Command, Delete, End, Ended, Event, Found, Get, Issue, Issued, MoveOne, Moved, NoneLive, NotYet, Nothing, Persistent, Put, Refused, Reply, Retire, Retired, Settle, Stage, Staged, State, Sweeping, Unchanged, after_all, changed, command_of, commands_of}
use Rattle.law_machine.specs.Step.{History, Step}

-- what no event changes, and the commands
pub record GoesOn (s t : State) (cs : List Command) : Type 0 where
  pub opened : t.opened ≡ s.opened
  pub start : t.start ≡ s.start
  pub opening : t.opening ≡ s.opening
  pub count : t.count ≡ s.count
  pub commands : t.commands ≡ cs ++ s.commands

module _ (S : Shape) (F : Formats) where
  by : (s t u : State) (cs : List Command) → t ≡ u → GoesOn s u cs → GoesOn s t cs
  by s t u cs is g = subst (λ (x : State). GoesOn s x cs) (sym is) g

  on_frame : (apart : Bool) (s t u : State) (purpose : Purpose) (kind : FrameKind) (payload : List ℕ) (l : Locator)
      (cs : List Command) → AppendsFrameBy S F apart s purpose kind payload l u → GoesOn u t cs → GoesOn s t cs
  on_frame apart s t u purpose kind payload l cs a g = subst (λ (x : State). GoesOn x t cs → GoesOn s t cs) (sym a.2)
      (λ h. record {
        opened = h.opened;
        start = h.start;
        opening = h.opening;
        count = h.count;
        commands = h.commands;
      }) g

  on_part : (apart : Bool) (s t u : State) (purpose : Purpose) (k : ℕ) (go : Bool) (runs : List Run) (cs : List Command)
      → MergesPart S F apart go s purpose k u runs → GoesOn u t cs → GoesOn s t cs
  on_part apart s t u purpose k go runs cs (inl some) g = on_frame apart s t u purpose RunFrame (F.run some.0) some.1 cs some.4 g
  on_part apart s t u purpose k go runs cs (inr none) g = subst (λ (x : State). GoesOn x t cs → GoesOn s t cs) (sym none.1)
      (λ h. h) g

  same : (s : State) → GoesOn s s []
  same s = record { opened = refl; start = refl; opening = refl; count = refl; commands = refl }

  twice : (s t u : State) → GoesOn s t [] → GoesOn t u [] → GoesOn s u []
  twice s t u a b = record {
    opened = b.opened ∙ a.opened;
    start = b.start ∙ a.start;
    opening = b.opening ∙ a.opening;
    count = b.count ∙ a.count;
    commands = b.commands ∙ a.commands;
  }

  -- a root over what was merged, where chunks and runs lie apart
  stages_on : (s t : State) → StagesApart S F s t → GoesOn s t []
  stages_on s t (mid, runs, inl m, is) =
      on_part true s t mid ForRun (takes S s) (deletions_go S s (takes S s)) runs [] m
      (by mid t _ _ is (record { opened = refl; start = refl; opening = refl; count = refl; commands = refl }))
  stages_on s t (mid, runs, inr m, is) =
      on_part true s t mid ForMerge (length s.runs) (deletions_go S s (length s.runs)) runs [] m.1
      (by mid t _ _ is (record { opened = refl; start = refl; opening = refl; count = refl; commands = refl }))

  unchanged_on : (s t : State) → Does S F s Stage Unchanged t → GoesOn s t []
  unchanged_on s t d = elim (cases_Bool S.apart) [
    | inl on ↦ by s t _ _ (apart_rule _ _ S.apart on d).2 (same s)
    | inr before ↦ by s t _ _ (before_rule _ _ S.apart before d).1 (same s)
  ]

  staged_on : (s t : State) (v : ℕ) → Does S F s Stage (Staged v) t → GoesOn s t []
  staged_on s t v d = elim (cases_Bool S.apart) [
    | inl on ↦ stages_on s t (apart_rule _ _ S.apart on d).2
    | inr before ↦ (let o = before_rule _ _ S.apart before d in
        on_part false s t o.2 ForRun (stage_takes S s) (deletions_go S s (stage_takes S s)) o.3 [] o.4
        (by o.2 t _ _ o.5 (record { opened = refl; start = refl; opening = refl; count = refl; commands = refl })))
  ]

  begun_on : (s t : State) (e : ℕ) → Does S F s (BeginSweep e) Sweeping t → GoesOn s t []
  begun_on s t e d = elim (cases_Bool S.apart) [
    | inl on ↦ by s t _ _ (apart_rule _ _ S.apart on d).5
        (record { opened = refl; start = refl; opening = refl; count = refl; commands = refl })
    | inr before ↦ by s t _ _ (before_rule _ _ S.apart before d).4
        (record { opened = refl; start = refl; opening = refl; count = refl; commands = refl })
  ]

  none_moved_on : (s t : State) (e : ℕ) → Does S F s (MoveOne e) NoneLive t → GoesOn s t []
  none_moved_on s t e d = elim (cases_Bool S.apart) [
    | inl on ↦ by s t _ _ (apart_rule _ _ S.apart on d).2 (same s)
    | inr before ↦ by s t _ _ (before_rule _ _ S.apart before d).2 (same s)
  ]

  moved_on : (s t : State) (e id k : ℕ) → Does S F s (MoveOne e) (Moved id k) t → GoesOn s t []
  moved_on s t e id k d = elim (cases_Bool S.apart) [
    | inl on ↦ (let o = apart_rule _ _ S.apart on d in on_frame true s t o.3 ForMove ChunkFrame o.2 o.1 [] o.8
        (by o.3 t _ _ o.9 (record { opened = refl; start = refl; opening = refl; count = refl; commands = refl })))
    | inr before ↦ (let o = before_rule _ _ S.apart before d in on_frame false s t o.3 ForMove ChunkFrame o.2 o.1 [] o.8
        (by o.3 t _ _ o.9 (record { opened = refl; start = refl; opening = refl; count = refl; commands = refl })))
  ]

  retired_on : (s t : State) (e v : ℕ) → Does S F s (Retire e) (Retired v) t → GoesOn s t []
  retired_on s t e v d = elim (cases_Bool S.apart) [
    | inl on ↦ twice s (settled (mark s e false)) t
        (settled_alike (λ (x : State). GoesOn s x []) (mark s e false)
        (record { opened = refl; start = refl; opening = refl; count = refl; commands = refl }))
        (stages_on (settled (mark s e false)) t (apart_rule _ _ S.apart on d).3)
    | inr before ↦ (let o = before_rule _ _ S.apart before d in
        on_part false s t o.3 ForMove (length s.runs) true o.4 [] (in_part S F s o.3 ForMove o.4 o.5)
        (by o.3 t _ _ o.6 (record { opened = refl; start = refl; opening = refl; count = refl; commands = refl })))
  ]

  pub does_on : (s t : State) (event : Event) (reply : Reply) → Does S F s event reply t
      → GoesOn s t (command_of event reply)
  does_on s t (Put id bytes) (Accepted n) d = by s t _ _ d.6
      (subst (λ (x : State). GoesOn s
      (record x { table = record { id = id; locators = d.1 } ∷ x.table; commands = (id, Some bytes) ∷ x.commands })
      ((id, Some bytes) ∷ [])) (sym d.4.2)
      (record { opened = refl; start = refl; opening = refl; count = refl; commands = refl }))
  does_on s t (Get id) (Found bytes) d = by s t _ _ d.1 (same s)
  does_on s t (Get id) Absent d = by s t _ _ d.1 (same s)
  does_on s t (Delete id) (Accepted n) d = by s t _ _ d.2
      (record { opened = refl; start = refl; opening = refl; count = refl; commands = refl })
  does_on s t (Delete id) Absent d = by s t _ _ d.1 (same s)
  does_on s t Stage Unchanged d = unchanged_on s t d
  does_on s t Stage (Staged v) d = staged_on s t v d
  does_on s t Begin Nothing d = by s t _ _ d.2 (same s)
  does_on s t Begin (Begun members) d = by s t _ _ d.6
      (record { opened = refl; start = refl; opening = refl; count = refl; commands = refl })
  does_on s t Issue (Issued m) d = by s t _ _ d.3
      (record { opened = refl; start = refl; opening = refl; count = refl; commands = refl })
  does_on s t End (Ended n) d = by s t _ _ d.2
      (record { opened = refl; start = refl; opening = refl; count = refl; commands = refl })
  does_on s t (BeginSweep e) Sweeping d = begun_on s t e d
  does_on s t (MoveOne e) NoneLive d = none_moved_on s t e d
  does_on s t (MoveOne e) (Moved id k) d = moved_on s t e id k d
  does_on s t (Retire e) (Retired v) d = retired_on s t e v d
  does_on s t (Abandon e) Abandoned d = by s t _ _ d.1
      (record { opened = refl; start = refl; opening = refl; count = refl; commands = refl })
  does_on s t (Settle n) Persistent d = by s t _ _ d.4 (same s)
  does_on s t (Settle n) (NotYet f) d = by s t _ _ d.2 (same s)
  does_on s t event reply d = absurd d

  step_on : (s t : State) (event : Event) (reply : Reply) → Step S F s event reply t
      → GoesOn s t (command_of event reply)
  step_on s t Issue (Refused f) (inl no_change) = by s t _ _ no_change.1 (same s)
  step_on s t Issue (Refused f) (inr fault) = ⊎_elim
      (λ (is : t ≡ record s { halted = true }). by s t _ _ is
      (record { opened = refl; start = refl; opening = refl; count = refl; commands = refl }))
      (λ w. by s t _ _ w.4 (record { opened = refl; start = refl; opening = refl; count = refl; commands = refl }))
      fault.2
  step_on s t End (Refused f) (inl no_change) = by s t _ _ no_change.1 (same s)
  step_on s t End (Refused f) (inr fault) = by s t _ _ fault.2
      (record { opened = refl; start = refl; opening = refl; count = refl; commands = refl })
  step_on s t (Put id bytes) (Refused f) d = by s t _ _ d.1 (same s)
  step_on s t (Delete id) (Refused f) d = by s t _ _ d.1 (same s)
  step_on s t event (Refused f) d = by s t _ _ d.1 (same s)
  step_on s t event reply d = does_on s t event reply d.1

  pub history_on : (s t : State) (history : List (Event × Reply)) → History S F s history t
      → GoesOn s t (commands_of history)
  history_on s t [] is = by s t _ _ is (same s)
  history_on s t (x ∷ xs) run =
      let one = step_on s run.0 x.0 x.1 run.1 in
      let rest = history_on run.0 t xs run.2 in
      record {
        opened = rest.opened ∙ one.opened;
        start = rest.start ∙ one.start;
        opening = rest.opening
            ∙ one.opening;
        count = rest.count ∙ one.count;
        commands = rest.commands ∙ ap (λ (cs : List Command). commands_of xs ++ cs) one.commands
            ∙ sym (append_assoc (commands_of xs) (command_of x.0 x.1) s.commands);
      }

pub after_both : (start : Map) (xs ys : List Command) → after_all start (xs ++ ys) ≡ after_all (after_all start ys) xs
after_both start [] ys = refl
after_both start (x ∷ xs) ys = ap (λ (m : Map). changed m x) (after_both start xs ys)
