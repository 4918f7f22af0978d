-- A kept history and what it replaced are one.
use Rattle.std.proofs.Common.{inr, ℕ, ◌+◌, Bool, List, [], ◌∷◌, ◌++◌, length, length-append, refl, ap, ◌∙◌, subst}
use Rattle.law_machine.proofs.Keeps.{histories}
use Rattle.law_machine.proofs.Opens.{opens_sound, opens_bounded}
use Rattle.law_machine.proofs.Crash.{leaves_prefix}
use Rattle.law_machine.specs.Checkpoint.{AtRest, LegalFrom}
use Rattle.law_machine.specs.Device.{IsShape, Page, Shape}
use Rattle.law_machine.specs.Element.{Map}
use Rattle.law_machine.specs.Formats.{Formats}
use Rattle.law_machine.specs.Frames.{IsFormat}
use Rattle.law_machine.specs.Open.{opened_state}
use Rattle.law_machine.specs.Recovery.{Recovers}
use Rattle.law_machine.specs.Sound.{LeavesPrefix}
use Rattle.law_machine.specs.State.{Event, Reply, State}
use Rattle.law_machine.specs.Step.{History}

-- one history after another
joined_histories : (S : Shape) (F : Formats) (r s t : State) (xs ys : List (Event × Reply)) → History S F r xs s
    → History S F s ys t → History S F r (xs ++ ys) t
joined_histories S F r s t [] ys a b = subst (λ (x : State). History S F x ys t) a b
joined_histories S F r s t (x ∷ xs) ys a b = (a.0, a.1, joined_histories S F a.0 s t xs ys a.2 b)

pub checkpoint_prefix : (S : Shape) (F : Formats) (img : ℕ → Page) (n : ℕ) (m : Map) (gives : Recovers S F img n m)
    (base : ℕ) (history : List (Event × Reply)) (t : State) (mask : List Bool)
    → IsShape S → IsFormat S F → LegalFrom S F (opened_state S F img n m gives) base history t → LeavesPrefix S F t mask
checkpoint_prefix S F img n m gives base history t mask shape format legal =
    let at = histories S F shape format (opened_state S F img n m gives) legal.checkpoint legal.replaced_events
    (opens_sound S F shape img n m gives) (opens_bounded S F shape img n m gives) legal.before in
    leaves_prefix S F shape format t
    (histories S F shape format legal.checkpoint t history at.0 at.1 legal.since).0 mask

pub one_more_checkpoint : (S : Shape) (F : Formats) (opened s : State) (base : ℕ) (history : List (Event × Reply))
    → LegalFrom S F opened base history s → AtRest s → LegalFrom S F opened (base + length history) [] s
one_more_checkpoint S F opened s base history legal rest = record {
  replaced_events = legal.replaced_events ++ history;
  replaced_count = length-append legal.replaced_events history
      ∙ ap (λ (n : ℕ). n + length history) legal.replaced_count;
  checkpoint = s;
  before = joined_histories S F opened legal.checkpoint s legal.replaced_events history legal.before
      legal.since;
  rested = inr rest;
  since = refl;
}
