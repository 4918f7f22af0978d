-- What a sweep copied stays through every event but a Stage, a MoveOne and a Retire.
use Rattle.std.proofs.Common.{◌≡◌, ◌≢◌, inl, inr, ⊎_elim, ℕ, ◌<◌, true, false, Some, refl, ap, ◌∙◌}
use Rattle.std.proofs.lemmas.Bool.{cases_Bool}
use Rattle.law_machine.proofs.Rules.{apart_rule, before_rule}
use Rattle.law_machine.specs.Apart.{BeginsApart}
use Rattle.law_machine.specs.Device.{Shape}
use Rattle.law_machine.specs.Events.{Does, mark}
use Rattle.law_machine.specs.Formats.{Formats}
use Rattle.law_machine.specs.State.{Abandon, Abandoned, Absent, Accepted, Begin, BeginSweep, Begun, Delete, End, Ended, Event, Found, Get, Issue, Issued, MoveOne, NotYet, Nothing, Persistent, Put, Refused, Reply, Retire, Settle, Stage, State, Sweeping}
use Rattle.law_machine.specs.Step.{Step}

module _ (S : Shape) (F : Formats) where
  alike : (s t : State) → t ≡ s → t.copies ≡ s.copies
  alike s t is = ap (λ (u : State). u.copies) is

  begun : (s t : State) (e : ℕ) → Does S F s (BeginSweep e) Sweeping t → t.copies ≡ s.copies
  begun s t e does = elim (cases_Bool S.apart) [
    | inl on ↦ of_apart (apart_rule _ _ S.apart on does)
    | inr before ↦ of_before (before_rule _ _ S.apart before does)
  ]
    where
      of_apart : BeginsApart S s e t → t.copies ≡ s.copies
      of_apart so = ap (λ (u : State). u.copies) so.5

      of_before : (s.world.extents.swept e ≡ false) × (s.world.extents.open_extent ≢ Some e) × (e < S.extents) × (0 < s.world.extents.pointer e) × (t ≡ mark s e true)
          → t.copies ≡ s.copies
      of_before so = ap (λ (u : State). u.copies) so.4

  module _ (s t : State) where
    does_copies : (event : Event) (reply : Reply) → event ≢ Stage → ((e : ℕ) → event ≢ MoveOne e) → ((e : ℕ) → event ≢ Retire e)
        → Does S F s event reply t → t.copies ≡ s.copies
    does_copies (Put id bytes) (Accepted n) stage move retire d = ap (λ (u : State). u.copies) d.6 ∙ ap (λ (u : State). u.copies) d.4.2
    does_copies (Get id) (Found bytes) stage move retire d = alike s t d.1
    does_copies (Get id) Absent stage move retire d = alike s t d.1
    does_copies (Delete id) (Accepted n) stage move retire d = ap (λ (u : State). u.copies) d.2
    does_copies (Delete id) Absent stage move retire d = alike s t d.1
    does_copies Stage reply stage move retire d = absurd (stage refl)
    does_copies Begin Nothing stage move retire d = alike s t d.2
    does_copies Begin (Begun members) stage move retire d = ap (λ (u : State). u.copies) d.6
    does_copies Issue (Issued m) stage move retire d = ap (λ (u : State). u.copies) d.3
    does_copies End (Ended n) stage move retire d = ap (λ (u : State). u.copies) d.2
    does_copies (BeginSweep e) Sweeping stage move retire d = begun s t e d
    does_copies (MoveOne e) reply stage move retire d = absurd (move e refl)
    does_copies (Retire e) reply stage move retire d = absurd (retire e refl)
    does_copies (Abandon e) Abandoned stage move retire d = ap (λ (u : State). u.copies) d.1
    does_copies (Settle n) Persistent stage move retire d = alike s t d.4
    does_copies (Settle n) (NotYet f) stage move retire d = alike s t d.2
    does_copies event reply stage move retire d = absurd d

    pub step_copies : (event : Event) (reply : Reply) → event ≢ Stage → ((e : ℕ) → event ≢ MoveOne e) → ((e : ℕ) → event ≢ Retire e)
        → Step S F s event reply t → t.copies ≡ s.copies
    step_copies Issue (Refused f) stage move retire (inl same) = alike s t same.1
    step_copies Issue (Refused f) stage move retire (inr fault) = ⊎_elim
        (λ (is : t ≡ record s { halted = true }). ap (λ (u : State). u.copies) is)
        (λ w. ap (λ (u : State). u.copies) w.4) fault.2
    step_copies End (Refused f) stage move retire (inl same) = alike s t same.1
    step_copies End (Refused f) stage move retire (inr fault) = ap (λ (u : State). u.copies) fault.2
    step_copies event (Refused f) stage move retire d = alike s t d.1
    step_copies event reply stage move retire d = does_copies event reply stage move retire d.1
