-- A sync as it is printed, from what it does and the lines of its rounds.
use Rattle.std.proofs.Common.{◌≡◌, ◌∙◌, ℕ, ◌+◌, List, [], ◌∷◌, ◌++◌, length, sym, ap, subst, refl, inl, inr, append_assoc}
use Rattle.std.specs.Prelude.{Option, None, Result, Ok, Err, MatchResult, IsErrAnd, IfErr, IfOk, OnOk}
use Rattle.std.proofs.lemmas.List.{append-nil}
use Rattle.std.specs.Io.KnownBytes.{Appends}
use Rattle.cs_deps.specs.declared.elements.Element.{Element}
use Rattle.cs_refusal.specs.declared.refusals.Refusal.{Refusal}
use Rattle.cs_refusal.specs.declared.refusals.Refusal.TheVariants.{OutOfMemory}
use Rattle.cs_deps.specs.Staging.{IsKept}
use Rattle.cs_disk.specs.declared.disk.PageDisk.{Ghosts as PageDisk}
use Rattle.cs_writeback.specs.cs_core.declared.events.Event.TheVariants.{Stage}
use Rattle.cs_writeback.specs.cs_core.declared.events.Reply.{Reply}
use Rattle.cs_writeback.specs.cs_core.Replies.{MayAnswer}
use Rattle.cs_writeback.specs.cs_core.Views.{View}
use Rattle.cs_writeback.specs.declared.syncs.Stop.{Stop}
use Rattle.cs_writeback.specs.declared.syncs.Stop.TheVariants.{Refused, Untold}
use Rattle.cs_writeback.specs.Histories.{Goes, IsNoRefusal, IsStopped, Went}
use Rattle.cs_writeback.specs.Rounds.{Finishes, Turn, events_of_all, rounds_of}
use Rattle.cs_writeback.specs.Syncs.{AreTold, StopsInRounds}
use Rattle.cs_writeback.proofs.SyncSteps.{finishes_none, none_staged, round_refused, stage_refused, written}
use Rattle.cs_writeback.proofs.Turned.{went_turns}
use Rattle.cs_script.specs.declared.answers.Answer.{Answer}
use Rattle.cs_script.specs.declared.answers.Answer.TheVariants.{Refused as RefusedAnswer}
use Rattle.cs_script.specs.Lines.{says_sync}
use Rattle.cs_script.specs.Outputs.{acknowledged_line, chain_line, end_lines, flushes_line, refusal_line, round_line, round_lines}
use Rattle.cs_script.specs.Scripts.{AnswersSo, IsBestOfAll, PrintsStop, PrintsSync}
use Rattle.cs_script.specs.Stops.{StopsAfter}
use Rattle.cs_script.proofs.Appended.{appends_none, appends_then}
use Rattle.cs_script.proofs.PlanSteps.{best_in_turn, stages}

pub on_ok_map : {T E : Type 0} (r : Result T E) (P Q : Type 0) → (P → Q) → OnOk r P → OnOk r Q
on_ok_map (Ok v) P Q f p = f p
on_ok_map (Err e) P Q f p = tt

-- what holds where the writer didn't fail holds where no round was untold
pub on_told : {T E : Type 0} (r : Result T E) (s : Result T (Stop E)) (P : Type 0) → MatchResult r (λ x. s ≡ Ok x) (λ e. IsErrAnd s (λ stop. stop ≡ Untold e)) → OnOk r P → OnOk s P
on_told (Ok v) s P is p = subst (λ (x : Result _ _). OnOk x P) (sym is) p
on_told (Err e) (Ok v) P is p = absurd is
on_told (Err e) (Err stop) P is p = tt

-- where the writer failed nothing is said
pub if_untold : {T E : Type 0} (r : Result T E) (s : Result T (Stop E)) (P : Stop E → Type 0) → ((e : E) → P (Untold e)) → MatchResult r (λ x. s ≡ Ok x) (λ e. IsErrAnd s (λ stop. stop ≡ Untold e)) → IfErr s P
if_untold (Ok v) s P free is = subst (λ (x : Result _ _). IfErr x P) (sym is) tt
if_untold (Err e) (Ok v) P free is = tt
if_untold (Err e) (Err stop) P free is = subst P (sym is) (free e)

module _ {W : Type 0} (contents : W → Option (List ℕ)) where
  -- a round is told by printing its line
  abbrev pub PrintsRound : W → ℕ → List Element → W → Type 0
  PrintsRound before number round after = Appends (contents before) (contents after) (round_line number round)

  -- rounds that are told one after another are printed so
  pub told_lines : (number : ℕ) (rounds : List (List Element)) (before after : W) → AreTold PrintsRound number rounds before after
      → Appends (contents before) (contents after) (round_lines number rounds)
  told_lines number [] before after is = subst (λ (w : W). Appends (contents before) (contents w) []) (sym is) (appends_none (contents before))
  told_lines number (round ∷ rounds) before after (mid, one, rest) =
      appends_then (contents before) (contents mid) (contents after) (round_line number round) (round_lines (number + 1) rounds) one (told_lines (number + 1) rounds mid after rest)

module _ {D : Type 0} (disks : PageDisk D) where
  -- the round that was out is ended, and that is printed
  abbrev pub PrintsEnd : (old ended : View D) → (before after : Option (List ℕ)) → Type 0
  PrintsEnd old ended before after = (finished : Option ℕ) × Finishes disks old finished ended × Appends before after (end_lines finished)

  -- a sync is refused so, after some lines
  abbrev pub StopsAfterLines : (old new : View D) → (before after : Option (List ℕ)) → Refusal → Type 0
  StopsAfterLines old new before after r = (out : List ℕ) × PrintsStop disks old new r out × Appends before after out

  -- nothing is out after the Stage
  pub none_out : (old ended staged : View D) (before after : Option (List ℕ)) (reply : Reply) → PrintsEnd old ended before after
      → Goes disks ended Stage reply staged → MayAnswer Stage reply → IsNoRefusal reply → staged.store.out ≡ None
  none_out old ended staged before after reply (finished, finishes, printed) g may none = none_staged disks old ended staged finished reply finishes g may none

  -- the Stage is refused
  pub stops_at_stage : (old ended new : View D) (before after : Option (List ℕ)) (r : Refusal) → PrintsEnd old ended before after
      → IsStopped disks ended [] Stage r new → StopsAfterLines old new before after r
  stops_at_stage old ended new before after r (finished, finishes, printed) s = (
    end_lines finished,
    inr (inl (record { stops = stage_refused disks old ended new finished r finishes s; printed = sym (append-nil (end_lines finished)) })),
    printed,
  )

  -- there is no memory for the plan
  pub stops_at_plan : (old ended staged : View D) (before after : Option (List ℕ)) (reply : Reply) (r : Refusal) → PrintsEnd old ended before after
      → Goes disks ended Stage reply staged → MayAnswer Stage reply → IsNoRefusal reply → r ≡ OutOfMemory → StopsAfterLines old staged before after r
  stops_at_plan old ended staged before after reply r (finished, finishes, printed) g may none is =
      let staged_then = stages disks ended staged reply (finishes_none disks old ended finished finishes) g may none in
      (end_lines finished, inr (inr (record { finished = finished; ended = ended; finishes = finishes; stages = staged_then; no_memory = is; printed = refl })), printed)

  -- an event of a round is refused
  pub stops_later : {E W : Type 0} (contents : W → Option (List ℕ)) (old ended staged new : View D) (before : Option (List ℕ)) (mid after : W) (reply : Reply) (stop : Stop E) → PrintsEnd old ended before (contents mid)
      → Goes disks ended Stage reply staged → MayAnswer Stage reply → IsNoRefusal reply → StopsInRounds disks (PrintsRound contents) staged new mid after stop
      → StopsAfter disks old new before (contents after) stop
  stops_later contents old ended staged new before mid after reply (Refused r) (finished, finishes, printed) g may none (turns, part, is, s, told) = (
    end_lines finished ++ round_lines 1 (rounds_of turns),
    inr (inl (record { stops = round_refused disks old ended staged new finished reply turns part r finishes g may none is s; printed = refl })),
    appends_then before (contents mid) (contents after) (end_lines finished) (round_lines 1 (rounds_of turns)) printed (told_lines contents 1 (rounds_of turns) mid after told),
  )
  stops_later contents old ended staged new before mid after reply (Untold e) first g may none rounds = tt

  -- the refusal is printed
  pub stops : {E : Type 0} (old new : View D) (before mid after : Option (List ℕ)) (r : Refusal) (s : Result Answer E) → StopsAfterLines old new before mid r
      → IfOk s (λ answer. (answer ≡ RefusedAnswer r) × Appends mid after (refusal_line r))
      → IfOk s (λ answer. (out : List ℕ) × AnswersSo disks says_sync answer old new out × Appends before after out)
  stops old new before mid after r (Ok answer) (out, stopped, printed) (is, last) = (
    out ++ refusal_line r,
    subst (λ (a : Answer). AnswersSo disks says_sync a old new (out ++ refusal_line r)) (sym is) (out, stopped, refl),
    appends_then before mid after out (refusal_line r) printed last,
  )
  stops old new before mid after r (Err e) stopped last = tt

  -- all is printed
  pub synced : {W : Type 0} (contents : W → Option (List ℕ)) (old ended staged new : View D) (before : Option (List ℕ)) (c0 c1 : W) (after : Option (List ℕ)) (reply : Reply) (planned : List (List Element)) (chain : List Element) (n m : ℕ)
      → PrintsEnd old ended before (contents c0) → Goes disks ended Stage reply staged → MayAnswer Stage reply → IsNoRefusal reply
      → IsKept staged.store.graph.staging → IsBestOfAll staged.store planned chain
      → (turns : List Turn) × (n ≡ length turns) × Went disks staged (events_of_all turns) new × AreTold (PrintsRound contents) 1 (rounds_of turns) c0 c1
      → new.store.graph.staging.pending.waiting ≡ [] → m ≡ new.store.frontier
      → Appends (contents c1) after (chain_line chain ++ flushes_line n ++ acknowledged_line m)
      → (out : List ℕ) × PrintsSync disks old new out × Appends before after out
  synced contents old ended staged new before c0 c1 after reply planned chain n m (finished, finishes, a) g may none kept best (turns, count, w, told) waits frontier last =
      let leads = went_turns disks turns staged new w in
      let lines = end_lines finished ++ round_lines 1 (rounds_of turns) in
      let rest = chain_line chain ++ flushes_line n ++ acknowledged_line m in
      let apart : lines ++ rest ≡ lines ++ chain_line chain ++ flushes_line n ++ acknowledged_line m =
      sym (append_assoc lines (chain_line chain ++ flushes_line n) (acknowledged_line m)) ∙ ap (λ l. l ++ acknowledged_line m) (sym (append_assoc lines (chain_line chain) (flushes_line n))) in (
        lines ++ rest,
        record {
          syncs = written disks old ended staged new finished reply turns finishes g may none w waits;
          chain = chain;
          best = best_in_turn staged.store.graph.staging kept new.store.graph.staging.pending planned (rounds_of turns) chain best leads.0 waits;
          printed = apart ∙ ap (λ i. lines ++ chain_line chain ++ flushes_line i ++ acknowledged_line m) count ∙ ap (λ i. lines ++ chain_line chain ++ flushes_line (length turns) ++ acknowledged_line i) frontier;
        },
        appends_then before (contents c1) after lines rest (appends_then before (contents c0) (contents c1) (end_lines finished) (round_lines 1 (rounds_of turns)) a (told_lines contents 1 (rounds_of turns) c0 c1 told)) last,
      )
