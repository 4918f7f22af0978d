-- What calls of a core lead to: from each state that it is in a history of the machine leads to one that it is in then.
use Rattle.std.proofs.Common.{◌≡◌, ◌⊎◌, inl, inr, ⊎_elim, ℕ, ◌<◌, ◌≤◌, List, [], ◌∷◌, ◌++◌, Option, Some, None, length, le_of_eq, le_refl, le_trans, refl, sym, ap, ◌∙◌, subst}
use Rattle.cs_refusal.specs.declared.refusals.Refusal.{Refusal}
use Rattle.cs_disk.specs.declared.disk.PageDisk.{Ghosts as PageDisk}
use Rattle.cs_extent.specs.State.{shape}
use Rattle.cs_frame.specs.Formats.{formats_of}
use Rattle.law_machine.specs.Device.{Shape}
use Rattle.law_machine.specs.Formats.{Formats}
use Rattle.law_machine.specs.Lists.{◌∈◌}
use Rattle.law_machine.specs.State as model
use Rattle.law_machine.specs.Step.{History}
use Rattle.cs_core.specs.declared.events.Event.{Event}
use Rattle.cs_core.specs.declared.events.Event.TheVariants.{End, Stage}
use Rattle.cs_core.specs.declared.events.Reply.{Reply}
use Rattle.cs_core.specs.declared.events.Reply.TheVariants.{Ended}
use Rattle.cs_core.specs.Calls.{AreCalls, IsCall}
use Rattle.cs_core.specs.Checkpoints.{Replaces}
use Rattle.cs_core.specs.Meanings.{event_of}
use Rattle.cs_core.specs.Stored.{Stored}
use Rattle.cs_core.specs.Views.{Applies, IsIn, IsStep, IsUntouched, View, kept}
use Rattle.cs_writeback.specs.Histories.{Goes, IsStopped, MakesRoom, Stays, Went}
use Rattle.cs_writeback.specs.Rounds.{Finishes, Members, Turn, events_of, events_of_all, issues, rest_of_round}
use Rattle.cs_writeback.specs.Runs.{Ran}
use Rattle.cs_writeback.specs.Syncs.{Syncs}
use Rattle.cs_store.proofs.Running.{untouched_in}
use Rattle.cs_store.specs.Rooms.{Empties, IsMadeReady}

-- ---- events of which P holds, in the machine's words

-- of each of them
abbrev pub AllEvents : (model.Event → Type 0) → List (Event × Reply) → Type 0
AllEvents P [] = Unit {0}
AllEvents P (x ∷ xs) = P (event_of x.0) × AllEvents P xs

-- whatever they are
abbrev pub Anything : model.Event → Type 0
Anything event = Unit {0}

pub all_anything : (xs : List (Event × Reply)) → AllEvents Anything xs
all_anything [] = tt
all_anything (x ∷ xs) = (tt, all_anything xs)

pub all_then : (P : model.Event → Type 0) (xs ys : List (Event × Reply)) → AllEvents P xs → AllEvents P ys → AllEvents P (xs ++ ys)
all_then P [] ys all more = more
all_then P (x ∷ xs) ys (one, all) more = (one, all_then P xs ys all more)

-- of those of rounds; of those of a sync
pub record IsOfRounds (P : model.Event → Type 0) : Type 0 where
  pub begin : P model.Begin
  pub issue : P model.Issue
  pub end : P model.End

pub record IsOfSync (P : model.Event → Type 0) : Type 0 where
  pub stage : P model.Stage
  pub rounds : IsOfRounds P

all_issues : (P : model.Event → Type 0) → IsOfRounds P → (members : Members) → AllEvents P (issues members)
all_issues P of [] = tt
all_issues P of (m ∷ members) = (of.issue, all_issues P of members)

all_rest : (P : model.Event → Type 0) → IsOfRounds P → (members : Members) (frontier : ℕ) → AllEvents P (rest_of_round members frontier)
all_rest P of members frontier = all_then P (issues members) ((End, Ended frontier) ∷ []) (all_issues P of members) (of.end, tt)

pub all_turns : (P : model.Event → Type 0) → IsOfRounds P → (turns : List Turn) → AllEvents P (events_of_all turns)
all_turns P of [] = tt
all_turns P of (turn ∷ turns) = all_then P (events_of turn) (events_of_all turns)
    (of.begin, all_rest P of turn.members turn.frontier) (all_turns P of turns)

-- ---- histories

pub joined : (S : Shape) (F : Formats) (r s t : model.State) (xs ys : List (model.Event × model.Reply)) → History S F r xs s
    → History S F s ys t → History S F r (xs ++ ys) t
joined S F r s t [] ys a b = subst (λ (x : model.State). History S F x ys t) a b
joined S F r s t (x ∷ xs) ys a b = (a.0, a.1, joined S F a.0 s t xs ys a.2 b)

abbrev pub AllOf : (model.Event → Type 0) → List (model.Event × model.Reply) → Type 0
AllOf P xs = (x : model.Event × model.Reply) → x ∈ xs → P x.0

pub both_of : (P : model.Event → Type 0) (xs ys : List (model.Event × model.Reply)) → AllOf P xs → AllOf P ys → AllOf P (xs ++ ys)
both_of P [] ys all more x there = more x there
both_of P (z ∷ xs) ys all more x (inl is) = all x (inl is)
both_of P (z ∷ xs) ys all more x (inr there) = both_of P xs ys (λ y has. all y (inr has)) more x there

module _ {D : Type 0} (disks : PageDisk D) (P : model.Event → Type 0) where
  -- the machine went on by such events to a state that the core is in
  abbrev pub Leads : Shape → model.State → View D → Type 0
  Leads S s w = (t : model.State) × IsIn disks.state w t × (events : List (model.Event × model.Reply))
      × History S (formats_of S) s events t × AllOf P events

  pub record Reaches (v w : View D) : Type 0 where
    pub same : shape w.store.extents ≡ shape v.store.extents
    pub opened : w.opened ≡ v.opened
    pub found : w.found ≡ v.found
    pub honest : disks.honest v.disk → disks.honest w.disk
    pub later : disks.failure_count v.disk ≤ disks.failure_count w.disk
    pub leads : disks.honest v.disk → (s : model.State) → IsIn disks.state v s → Leads (shape v.store.extents) s w

  -- nothing was done
  still : (S : Shape) (s : model.State) (w : View D) → IsIn disks.state w s → Leads S s w
  still S s w at = (s, at, [], refl, λ x none. absurd none)

  pub reaches_same : (v w : View D) → w ≡ v → Reaches v w
  reaches_same v w is = subst (λ (u : View D). Reaches v u) (sym is) (record {
    same = refl;
    opened = refl;
    found = refl;
    honest = λ h. h;
    later = le_refl (disks.failure_count v.disk);
    leads = λ h s at. still (shape v.store.extents) s v at;
  })

  pub reaches_untouched : (v w : View D) → (disks.honest v.disk → disks.honest w.disk) → IsUntouched disks v w → Reaches v w
  reaches_untouched v w stays is = record {
    same = ap (λ (u : Stored). shape u.extents) is.store;
    opened = is.opened;
    found = is.found;
    honest = stays;
    later = is.later;
    leads = λ h s at. still (shape v.store.extents) s w (untouched_in disks v w s h is at);
  }

  replaced_in : (v w : View D) (s : model.State) (n : ℕ) → Replaces v n w → IsIn disks.state v s → IsIn disks.state w s
  replaced_in v w s n replaces is = subst (λ (u : View D). IsIn disks.state u s) (sym replaces.1)
      (record { store = is.store; disk = is.disk; reached = is.reached })

  pub reaches_replaced : (v w : View D) (n : ℕ) → Replaces v n w → Reaches v w
  reaches_replaced v w n replaces = record {
    same = ap (λ (u : View D). shape u.store.extents) replaces.1;
    opened = ap (λ (u : View D). u.opened) replaces.1;
    found = ap (λ (u : View D). u.found) replaces.1;
    honest = λ h. subst (λ (u : View D). disks.honest u.disk) (sym replaces.1) h;
    later = le_of_eq (sym (ap (λ (u : View D). disks.failure_count u.disk) replaces.1));
    leads = λ h s at. still (shape v.store.extents) s w (replaced_in v w s n replaces at);
  }

  -- one event
  pub reaches_step : (v w : View D) (event : Event) (reply : Reply) → P (event_of event)
      → (disks.honest v.disk → disks.honest w.disk) → IsStep disks v event reply w → Reaches v w
  reaches_step v w event reply one stays step = record {
    same = step.same_shape;
    opened = step.opened;
    found = step.found;
    honest = stays;
    later = step.later;
    leads = λ h s at. (let d = step.step h s at in (
      d.1,
      d.4,
      (event_of event, d.0) ∷ [],
      (d.1, d.3, refl),
      (λ x there. ⊎_elim (λ (is : x ≡ (event_of event, d.0)). subst (λ (y : model.Event × model.Reply). P y.0) (sym is) one)
          (λ none. absurd none) there),
    ));
  }

  -- one after another
  pub reaches_then : (u v w : View D) → Reaches u v → Reaches v w → Reaches u w
  reaches_then u v w p q = record {
    same = q.same ∙ p.same;
    opened = q.opened ∙ p.opened;
    found = q.found ∙ p.found;
    honest = λ h. q.honest (p.honest h);
    later = le_trans p.later q.later;
    leads = λ h s at. (let one = p.leads h s at in let two = q.leads (p.honest h) one.0 one.1 in (
      two.0,
      two.1,
      one.2 ++ two.2,
      joined (shape u.store.extents) (formats_of (shape u.store.extents)) s one.0 two.0 one.2 two.2 one.3
          (subst (λ (T : Shape). History T (formats_of T) one.0 two.2 two.0) p.same two.3),
      both_of P one.2 two.2 one.4 two.4,
    ));
  }

  -- ---- events with nothing between them

  pub reaches_stays : (v w : View D) → Stays disks v w → Reaches v w
  reaches_stays v w stays = reaches_untouched v w stays.1.0 stays.0

  pub reaches_goes : (v w : View D) (event : Event) (reply : Reply) → P (event_of event) → Goes disks v event reply w → Reaches v w
  reaches_goes v w event reply one goes = reaches_step v w event reply one goes.stays_honest.0 goes.step

  pub reaches_went : (events : List (Event × Reply)) (v w : View D) → AllEvents P events → Went disks v events w → Reaches v w
  reaches_went [] v w all stays = reaches_stays v w stays
  reaches_went (x ∷ xs) v w (one, all) (before, after, stays, goes, went) = reaches_then v before w (reaches_stays v before stays)
      (reaches_then before after w (reaches_goes before after x.0 x.1 one goes) (reaches_went xs after w all went))

  -- ---- syncs, and room that is made for an event

  module _ (of : IsOfSync P) where
    pub reaches_finishes : (v w : View D) (ended : Option ℕ) → Finishes disks v ended w → Reaches v w
    reaches_finishes v w None finishes = reaches_stays v w finishes.1
    reaches_finishes v w (Some frontier) finishes =
        reaches_went (rest_of_round finishes.1 frontier) v w (all_rest P of.rounds finishes.1 frontier) finishes.2

    pub reaches_syncs : (v w : View D) → Syncs disks v w → Reaches v w
    reaches_syncs v w syncs = reaches_then v syncs.ended w (reaches_finishes v syncs.ended syncs.finished syncs.finishes)
        (reaches_then syncs.ended syncs.staged w
        (reaches_went ((Stage, syncs.reply) ∷ []) syncs.ended syncs.staged (of.stage, tt) syncs.stages)
        (reaches_went (events_of_all syncs.turns) syncs.staged w (all_turns P of.rounds syncs.turns) syncs.turned))

    pub reaches_room : (v w : View D) → MakesRoom v w → Reaches v w
    reaches_room v w (inl (may, is)) = reaches_replaced v w (length (kept v)) (refl, is)
    reaches_room v w (inr (may, is)) = reaches_same v w is

    pub reaches_ready : (v w : View D) → IsMadeReady disks v w → Reaches v w
    reaches_ready v w ready = reaches_then v ready.room w (reaches_room v ready.room ready.made) (go ready.rest)
      where
        go : ((length (kept ready.room) < ready.room.limit) × (w ≡ ready.room))
            ⊎ ((ready.room.limit ≤ length (kept ready.room)) × Empties disks ready.room w) → Reaches ready.room w
        go (inl (some, is)) = reaches_same ready.room w is
        go (inr (none, (synced, syncs, n, replaces))) = reaches_then ready.room synced w (reaches_syncs ready.room synced syncs)
            (reaches_replaced synced w n replaces)

-- ---- calls, whatever they are

pub any_sync : IsOfSync Anything
any_sync = record { stage = tt; rounds = record { begin = tt; issue = tt; end = tt } }

module _ {D : Type 0} (disks : PageDisk D) where
  pub reaches_some : (P : model.Event → Type 0) (v w : View D) → Reaches disks P v w → Reaches disks Anything v w
  reaches_some P v w reaches = record {
    same = reaches.same;
    opened = reaches.opened;
    found = reaches.found;
    honest = reaches.honest;
    later = reaches.later;
    leads = λ h s at. (let t = reaches.leads h s at in (t.0, t.1, t.2, t.3, λ x there. tt));
  }

  pub reaches_event : (v w : View D) (event : Event) (reply : Reply) → (disks.honest v.disk → disks.honest w.disk)
      → Applies disks v event reply w → Reaches disks Anything v w
  reaches_event v w event reply stays (inl full) = reaches_same disks Anything v w full.same
  reaches_event v w event reply stays (inr step) = reaches_step disks Anything v w event reply tt stays step

  pub reaches_call : (v w : View D) → IsCall disks v w → Reaches disks Anything v w
  reaches_call v w call = go call.did
    where
      go : ((event : Event) × (reply : Reply) × Applies disks v event reply w) ⊎ IsUntouched disks v w ⊎ ((n : ℕ) × Replaces v n w)
          → Reaches disks Anything v w
      go (inl (event, reply, applies)) = reaches_event v w event reply call.stays_honest applies
      go (inr (inl same)) = reaches_untouched disks Anything v w call.stays_honest same
      go (inr (inr (n, replaces))) = reaches_replaced disks Anything v w n replaces

  pub reaches_calls : (between : List (View D)) (v w : View D) → AreCalls disks v between w → Reaches disks Anything v w
  reaches_calls [] v w call = reaches_call v w call
  reaches_calls (x ∷ xs) v w (call, calls) = reaches_then disks Anything v x w (reaches_call v x call) (reaches_calls xs x w calls)

  pub reaches_ran : (v w : View D) → Ran disks v w → Reaches disks Anything v w
  reaches_ran v w (inl same) = reaches_same disks Anything v w same
  reaches_ran v w (inr (between, calls)) = reaches_calls between v w calls

  pub reaches_events : (events : List (Event × Reply)) (v w : View D) → Went disks v events w → Reaches disks Anything v w
  reaches_events events v w went = reaches_went disks Anything events v w (all_anything events) went

  pub reaches_stopped : (v w : View D) (done : List (Event × Reply)) (event : Event) (r : Refusal) → IsStopped disks v done event r w
      → Reaches disks Anything v w
  reaches_stopped v w done event r stopped = reaches_events (done ++ stopped.added) v w stopped.went
