-- One line of a script, from what its parts do.
use Rattle.std.proofs.Common.{◌≡◌, ◌∙◌, ℕ, Bool, List, sym, ap, subst, refl, inl, inr}
use Rattle.std.specs.Prelude.{Option, None, Result, Ok, Err, IfOk, IsErrAnd, IsOkAnd, MatchResult, OnOk, IsTrue, ◌↔◌}
use Rattle.std.specs.Io.KnownBytes.{Appends}
use Rattle.cs_refusal.specs.declared.refusals.Refusal.{Refusal}
use Rattle.cs_disk.specs.declared.disk.PageDisk.{Ghosts as PageDisk}
use Rattle.cs_writeback.specs.cs_core.Views.{View}
use Rattle.cs_writeback.specs.Histories.{MakesRoom}
use Rattle.cs_script.specs.declared.answers.Answer.{Answer}
use Rattle.cs_script.specs.declared.answers.Answer.TheVariants.{Given, Refused}
use Rattle.cs_script.specs.declared.watchers.LineFault.{LineFault}
use Rattle.cs_script.specs.Crashes.{Crashes, IsCrash}
use Rattle.cs_script.specs.Lines.{Said, said_of}
use Rattle.cs_script.specs.Outputs.{refusal_line}
use Rattle.cs_script.specs.Scripts.{AnswersSo, said_to, status_after}
use Rattle.cs_script.specs.Watched.{GoesOnSo, IsFaultOf}

-- one line was printed, of which this holds
pub is_given : {E : Type 0} (r : Result Unit E) (s : Result Answer E) (before after : Option (List ℕ)) (line : List ℕ) (P : Answer → List ℕ → Type 0) → P Given line
    → MatchResult r (λ _. IsOkAnd s (λ answer. answer ≡ Given)) (λ e. IsErrAnd s (λ f. f ≡ e)) → OnOk r (Appends before after line)
    → IfOk s (λ answer. (out : List ℕ) × P answer out × Appends before after out)
is_given (Ok v) (Ok answer) before after line P p is h = (line, subst (λ a. P a line) (sym is) p, h)
is_given (Ok v) (Err e) before after line P p is h = tt
is_given (Err e) (Ok answer) before after line P p is h = absurd is
is_given (Err e) (Err f) before after line P p is h = tt

-- a refusal was printed, of which this holds
pub is_refused : {E : Type 0} (r : Refusal) (s : Result Answer E) (before after : Option (List ℕ)) (P : Answer → List ℕ → Type 0) → P (Refused r) (refusal_line r)
    → IfOk s (λ answer. (answer ≡ Refused r) × Appends before after (refusal_line r))
    → IfOk s (λ answer. (out : List ℕ) × P answer out × Appends before after out)
is_refused r (Ok answer) before after P p (is, h) = (refusal_line r, subst (λ a. P a (refusal_line r)) (sym is) p, h)
is_refused r (Err e) before after P p h = tt

module _ {D : Type 0} (disks : PageDisk D) (can_crash : D → Type 0) (volatile_count : D → ℕ) where
  -- a readable `crash`
  pub on_crash : (said : Said) (line : List ℕ) (mask : List Bool) (old new : View D) (status : ℕ) (a b : Option (List ℕ)) → said ≡ said_of line
      → IsCrash can_crash volatile_count said old mask
      → (out : List ℕ) × Crashes disks can_crash volatile_count mask old new out × Appends a b out
      → (out : List ℕ) × GoesOnSo disks can_crash volatile_count line old status new status None out × Appends a b out
  on_crash said line mask old new status a b e is_crash (out, crashes, printed) =
      (out, inr (mask, subst (λ s. IsCrash can_crash volatile_count s old mask) e is_crash, crashes, refl, refl), printed)

  -- any other line
  pub on_answer : (said heard : Said) (line : List ℕ) (can : Bool) (old ready new : View D) (status after : ℕ) (answer : Answer) (found : Option LineFault) (a b : Option (List ℕ)) → said ≡ said_of line
      → ((mask : List Bool) → ¬ IsCrash can_crash volatile_count said old mask)
      → MakesRoom old ready → (IsTrue can ↔ can_crash ready.disk) → heard ≡ said_to can said → after ≡ status_after heard status
      → (out : List ℕ) × AnswersSo disks heard answer ready new out × Appends a b out → IsFaultOf can line answer found
      → (out : List ℕ) × GoesOnSo disks can_crash volatile_count line old status new after found out × Appends a b out
  on_answer said heard line can old ready new status after answer found a b e not made tells is_heard is (out, answers, printed) wrong =
      let heard_line : heard ≡ said_to can (said_of line) = is_heard ∙ ap (said_to can) e in (
        out,
        inl (
          subst (λ s. (mask : List Bool) → ¬ IsCrash can_crash volatile_count s old mask) e not,
          ready,
          made,
          can,
          tells,
          answer,
          subst (λ s. AnswersSo disks s answer ready new out) heard_line answers,
          is ∙ ap (λ s. status_after s status) heard_line,
          wrong,
        ),
        printed,
      )
