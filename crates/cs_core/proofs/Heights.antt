-- What a round does to the heights, whatever is done while it is out.
use Rattle.std.proofs.Common.{◌≡◌, ◌≢◌, ◌∙◌, ℕ, ◌+◌, List, [], ◌∷◌, ◌++◌, None, Some, sym, ap, subst}
use Rattle.std.specs.Prelude.{Option}
use Rattle.std.specs.List.{AllByRecursion}
use Rattle.cs_deps.proofs.AllHeights.{all_have_heights}
use Rattle.cs_deps.proofs.Extended.{first_gone, round_lowers}
use Rattle.cs_deps.specs.Chain.{IsHeight}
use Rattle.cs_deps.specs.declared.elements.Element.{Element as Name}
use Rattle.cs_refusal.specs.declared.refusals.Refusal.{Refusal as Code}
use Rattle.cs_refusal.specs.declared.refusals.Refusal.TheVariants.{DeviceFault, InFlight, NoRound}
use Rattle.cs_deps.specs.Pending.{Pending, Waits}
use Rattle.cs_deps.specs.Staging.{IsKept, Staging, settled}
use Rattle.cs_core.specs.declared.events.Event.{Event}
use Rattle.cs_core.specs.declared.events.Event.TheVariants.{Begin, Delete, End, Get, Issue, MoveOne, Put, Retire, Settle, Stage}
use Rattle.cs_core.specs.declared.events.Reply.{Reply}
use Rattle.cs_core.specs.declared.events.Reply.TheVariants.{Absent, Accepted, Begun, Ended, Issued, Moved, NoneLive, Nothing, Refused, Retired, Staged, Unchanged}
use Rattle.cs_core.specs.Calls.{AreDone, EndsNone, IsRoundDone}
use Rattle.cs_core.specs.Stored.{StagesBehind, Stored, members_of}
use Rattle.cs_core.specs.Writebacks.{StaysRefused, WritesBack}
use Rattle.cs_core.proofs.Moves.{behind_none, behind_then}

-- the round stays out, and what waits is only more
abbrev Stays : (v w : Stored) → Type 0
Stays v w = (w.out ≡ v.out) × StagesBehind v.graph.staging.pending w.graph.staging.pending

same_staging : (v w : Stored) → w.graph.staging ≡ v.graph.staging → StagesBehind v.graph.staging.pending w.graph.staging.pending
same_staging v w same = subst (λ (s : Staging). StagesBehind v.graph.staging.pending s.pending) (sym same) (behind_none v.graph.staging.pending)

same_store : (v w : Stored) → w ≡ v → Stays v w
same_store v w same = (ap (λ (u : Stored). u.out) same, same_staging v w (ap (λ (u : Stored). u.graph.staging) same))

refused_stays : (e : Event) (r : Code) (v w : Stored) → StaysRefused e r v w → Stays v w
refused_stays Issue DeviceFault v w is = (ap (λ (u : Stored). u.out) is, same_staging v w (ap (λ (u : Stored). u.graph.staging) is))
refused_stays End DeviceFault v w is = (ap (λ (u : Stored). u.out) is, same_staging v w (ap (λ (u : Stored). u.graph.staging) is))
refused_stays Begin InFlight v w is = same_store v w is.1
refused_stays Issue NoRound v w is = same_store v w is.1
refused_stays End NoRound v w is = same_store v w is.1
refused_stays e r v w is = same_store v w is

one_stays : (e : Event) (r : Reply) (v w : Stored) → EndsNone e r → v.out ≢ None → WritesBack v e r w → Stays v w
one_stays e (Refused r) v w none out is = refused_stays e r v w is
one_stays (Put id bytes) (Accepted n) v w none out is = (is.1.0, is.2)
one_stays (Delete id) (Accepted n) v w none out is = (is.1.0, same_staging v w is.2)
one_stays (Delete id) Absent v w none out is = same_store v w is
one_stays (Get id) reply v w none out is = same_store v w is
one_stays (Settle n) reply v w none out is = same_store v w is
one_stays Stage (Staged n) v w none out is = (is.1.0, is.2)
one_stays Stage Unchanged v w none out is = same_store v w is.1
one_stays Begin (Begun round) v w none out is = absurd (out is.none)
one_stays Begin Nothing v w none out is = absurd (out is.1)
one_stays Issue (Issued x page) v w none out is = (is.out, same_staging v w is.staging)
one_stays End (Ended n) v w none out is = absurd none
one_stays (MoveOne e) (Moved id chunk) v w none out is = (is.0.0, is.1)
one_stays (MoveOne e) NoneLive v w none out is = same_store v w is
one_stays (Retire e) (Retired n) v w none out is = (is.1.0, is.2)
one_stays e r v w none out is = (is.0.0, same_staging v w is.1)

all_stay : (xs : List (Event × Reply)) (v w : Stored) → AllByRecursion (λ (e : Event × Reply). EndsNone e.0 e.1) xs → v.out ≢ None → AreDone v xs w → Stays v w
all_stay [] v w none out is = same_store v w is
all_stay (x ∷ xs) v w none out (u, one, rest) =
    let first : Stays v u = one_stays x.0 x.1 v u none.0 out one in
    let others : Stays u w = all_stay xs u w none.1 (λ gone. out (sym first.0 ∙ gone)) rest in
    (others.0 ∙ first.0, behind_then v.graph.staging.pending u.graph.staging.pending w.graph.staging.pending first.1 others.1)

some_out : (round : List Name) (out : Option (List Name)) → out ≡ Some round → out ≢ None
some_out round out is none = let clash : Some round ≡ None = sym is ∙ none in absurd (cc clash)

module _ (old new : Stored) (done : IsRoundDone old new) where
  stays : Stays done.begun done.last
  stays = all_stay done.between done.begun done.last done.still_out (some_out done.round done.begun.out done.begin.out) done.done

  -- what waits at the end is what waited at the begin, and more
  longer : done.last.graph.staging.pending.waiting ≡ old.graph.staging.pending.waiting ++ stays.1.more
  longer = stays.1.behind ∙ ap (λ (s : Staging). s.pending.waiting ++ stays.1.more) done.begin.staging

  settles : new.graph.staging.pending ≡ settled done.last.graph.staging.pending done.round
  settles = ap (λ (s : Staging). s.pending) done.end.settles ∙ ap (λ (o : Option (List Name)). settled done.last.graph.staging.pending (members_of o)) (stays.0 ∙ done.begin.out)

  module _ (kept : IsKept old.graph.staging) (kept_last : IsKept done.last.graph.staging) (x : Name) where
    pub lowered : (n : ℕ) → IsHeight old.graph.staging.pending x n → Waits new.graph.staging.pending x → (m : ℕ) × (n ≡ m + 1) × IsHeight new.graph.staging.pending x m
    lowered n height waits =
        let r = round_lowers old.graph.staging.pending done.last.graph.staging.pending kept.staged kept_last.staged (all_have_heights old.graph.staging.pending kept.staged)
        stays.1.more longer done.round done.begin.first x n height (subst (λ (g : Pending). Waits g x) settles waits) in
        (r.0, r.1, subst (λ (g : Pending). IsHeight g x r.0) (sym settles) r.2)

    pub gone : IsHeight old.graph.staging.pending x 1 → ¬ Waits new.graph.staging.pending x
    gone height waits = first_gone old.graph.staging.pending done.last.graph.staging.pending kept.staged kept_last.staged (all_have_heights old.graph.staging.pending kept.staged)
        stays.1.more longer done.round done.begin.first x height (subst (λ (g : Pending). Waits g x) settles waits)
