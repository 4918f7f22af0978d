-- Which commands calls accept.
use Rattle.std.proofs.Common.{◌≡◌, ◌∙◌, ◌⊎◌, ℕ, ◌<◌, ◌≤◌, List, [], ◌∷◌, ◌++◌, Option, Some, None, sym, ap, subst, refl, inl, inr}
use Rattle.std.specs.Prelude.{IfErr, IfOk, Result, Ok, Err, length}
use Rattle.std.proofs.lemmas.List.{append_assoc}
use Rattle.cs_refusal.specs.declared.refusals.Refusal.{Refusal}
use Rattle.cs_disk.specs.declared.disk.PageDisk.{Ghosts as PageDisk}
use Rattle.cs_extent.specs.State.{shape}
use Rattle.law_machine.specs.State.{Command}
use Rattle.cs_core.specs.Checkpoints.{Replaces}
use Rattle.cs_core.specs.declared.events.Event.{Event}
use Rattle.cs_core.specs.declared.events.Event.TheVariants.{Abandon, BeginSweep, MoveOne, Retire, Stage}
use Rattle.cs_core.specs.declared.events.Reply.{Reply}
use Rattle.cs_core.specs.declared.events.Reply.TheVariants.{Abandoned, NoneLive, Retired, Sweeping}
use Rattle.cs_core.specs.Meanings.{command_said, commands_said}
use Rattle.cs_core.specs.Stored.{Stored}
use Rattle.cs_core.specs.Views.{View, kept}
use Rattle.cs_writeback.specs.Histories.{Goes, IsStopped, MakesRoom, Stays, Went}
use Rattle.cs_writeback.specs.Rounds.{Finishes, IsStoppedAtDue, events_of_all, issues, rest_of_round, step_event}
use Rattle.cs_writeback.specs.Sweeps.{Abandons, IsSweepRefused, StopsSweep, Sweeps, moves}
use Rattle.cs_writeback.specs.Syncs.{StopsInTurn, StopsLater, StopsSync, Syncs}
use Rattle.cs_store.specs.Events.{Declines, Does}
use Rattle.cs_store.specs.Maps.{Accepts}
use Rattle.cs_store.specs.Rooms.{Empties, IsMadeReady, IsNoRoom, StaysFull}
use Rattle.cs_store.specs.Sweeps.{DeclinesSweep, SweepsReady}
use Rattle.cs_store.proofs.Commands.{added_quiet, issues_quiet, moves_quiet, part_quiet, quiet_both, rest_quiet, said_both, stage_quiet, turns_quiet}

module _ {D : Type 0} (disks : PageDisk D) where
  pub accepts_none : (v : View D) → Accepts disks [] v v
  accepts_none v = record { same_shape = refl; opened = refl; found = refl; limit = refl; honest = (λ h. h, λ h. h); commands_now = refl }

  accepts_then : (cs ds : List Command) (a b c : View D) → Accepts disks cs a b → Accepts disks ds b c → Accepts disks (ds ++ cs) a c
  accepts_then cs ds a b c p q = record {
    same_shape = q.same_shape ∙ p.same_shape;
    opened = q.opened ∙ p.opened;
    found = q.found ∙ p.found;
    limit = q.limit ∙ p.limit;
    honest = (λ h. q.honest.0 (p.honest.0 h), λ h. p.honest.1 (q.honest.1 h));
    commands_now = q.commands_now ∙ ap (λ (ks : List Command). ds ++ ks) p.commands_now ∙ sym (append_assoc ds cs (commands_said a.history));
  }

  -- after none
  pub accepts_later : (cs : List Command) (a b c : View D) → Accepts disks [] a b → Accepts disks cs b c → Accepts disks cs a c
  accepts_later cs a b c p q = record {
    same_shape = q.same_shape ∙ p.same_shape;
    opened = q.opened ∙ p.opened;
    found = q.found ∙ p.found;
    limit = q.limit ∙ p.limit;
    honest = (λ h. q.honest.0 (p.honest.0 h), λ h. p.honest.1 (q.honest.1 h));
    commands_now = q.commands_now ∙ ap (λ (ks : List Command). cs ++ ks) p.commands_now;
  }

  accepts_same : (a b : View D) → b ≡ a → Accepts disks [] a b
  accepts_same a b e = subst (Accepts disks [] a) (sym e) (accepts_none a)

  -- nothing has changed but rooms
  pub stays_accepts : (a b : View D) → Stays disks a b → Accepts disks [] a b
  stays_accepts a b s = record {
    same_shape = ap (λ (v : Stored). shape v.extents) s.0.store;
    opened = s.0.opened;
    found = s.0.found;
    limit = s.0.limit;
    honest = s.1;
    commands_now = ap commands_said s.0.history;
  }

  goes_accepts : (a : View D) (event : Event) (reply : Reply) (b : View D) → Goes disks a event reply b → Accepts disks (command_said event reply) a b
  goes_accepts a event reply b g = record {
    same_shape = g.step.same_shape;
    opened = g.step.opened;
    found = g.step.found;
    limit = g.step.limit;
    honest = g.stays_honest;
    commands_now = ap commands_said g.step.history ∙ said_both a.history ((event, reply) ∷ []);
  }

  -- events accept the commands that they say
  pub went_accepts : (xs : List (Event × Reply)) (a b : View D) → Went disks a xs b → Accepts disks (commands_said xs) a b
  went_accepts [] a b s = stays_accepts a b s
  went_accepts (x ∷ xs) a b (before, after, s, g, w) =
      accepts_then (command_said x.0 x.1) (commands_said xs) a after b (accepts_later (command_said x.0 x.1) a before after (stays_accepts a before s) (goes_accepts before x.0 x.1 after g)) (went_accepts xs after b w)

  went_quiet : (xs : List (Event × Reply)) (a b : View D) → commands_said xs ≡ [] → Went disks a xs b → Accepts disks [] a b
  went_quiet xs a b none w = subst (λ (cs : List Command). Accepts disks cs a b) none (went_accepts xs a b w)

  stopped_quiet : (done : List (Event × Reply)) (event : Event) (r : Refusal) (a b : View D) → commands_said done ≡ [] → IsStopped disks a done event r b → Accepts disks [] a b
  stopped_quiet done event r a b none s = went_quiet (done ++ s.added) a b (quiet_both done s.added none (added_quiet b event r s.added s.refused)) s.went

  due_quiet : (done : List (Event × Reply)) (r : Refusal) (a b : View D) → commands_said done ≡ [] → IsStoppedAtDue disks a done r b → Accepts disks [] a b
  due_quiet done r a b none s = accepts_later [] a s.asked b (went_quiet done a s.asked none s.went) (stopped_quiet [] (step_event s.asked.store) r s.asked b refl s.stopped)

  -- ---- syncs

  finishes_quiet : (a : View D) (finished : Option ℕ) (b : View D) → Finishes disks a finished b → Accepts disks [] a b
  finishes_quiet a None b f = stays_accepts a b f.1
  finishes_quiet a (Some frontier) b f = went_quiet (rest_of_round f.1 frontier) a b (rest_quiet f.1 frontier) f.2

  pub sync_quiet : (a b : View D) → Syncs disks a b → Accepts disks [] a b
  sync_quiet a b s =
      accepts_later [] a s.ended b (finishes_quiet a s.finished s.ended s.finishes)
      (accepts_later [] s.ended s.staged b (went_quiet ((Stage, s.reply) ∷ []) s.ended s.staged (stage_quiet s.reply [] refl) s.stages)
      (went_quiet (events_of_all s.turns) s.staged b (turns_quiet s.turns) s.turned))

  later_quiet : (ended : View D) (r : Refusal) (b : View D) (s : StopsLater disks ended r b) → Accepts disks [] ended b
  later_quiet a r b s = accepts_later [] a s.ended b (finishes_quiet a s.finished s.ended s.finishes) (go s.stopped)
    where
      go : ((s.turns ≡ []) × IsStopped disks s.ended [] Stage r b) ⊎ StopsInTurn disks s.ended s.turns r b → Accepts disks [] s.ended b
      go (inl first) = stopped_quiet [] Stage r s.ended b refl first.1
      go (inr (reply, is_done, part, is_part, stopped)) =
          due_quiet ((Stage, reply) ∷ events_of_all s.turns ++ part) r s.ended b (stage_quiet reply (events_of_all s.turns ++ part) (quiet_both (events_of_all s.turns) part (turns_quiet s.turns) (part_quiet part is_part))) stopped

  pub sync_stopped_quiet : (a : View D) (r : Refusal) (b : View D) → StopsSync disks a r b → Accepts disks [] a b
  sync_stopped_quiet a r b (inl (out, members, stopped)) = due_quiet (issues members) r a b (issues_quiet members) stopped
  sync_stopped_quiet a r b (inr later) = later_quiet a r b later

  -- ---- room

  room_quiet : (a b : View D) → MakesRoom a b → Accepts disks [] a b
  room_quiet a b (inl (may, is)) = subst (Accepts disks [] a) (sym is) (record { same_shape = refl; opened = refl; found = refl; limit = refl; honest = (λ h. h, λ h. h); commands_now = refl })
  room_quiet a b (inr (not, is)) = accepts_same a b is

  replaced_quiet : (a : View D) (n : ℕ) (b : View D) → Replaces a n b → Accepts disks [] a b
  replaced_quiet a n b replaces = subst (Accepts disks [] a) (sym replaces.1) (record { same_shape = refl; opened = refl; found = refl; limit = refl; honest = (λ h. h, λ h. h); commands_now = refl })

  pub ready_quiet : (a b : View D) → IsMadeReady disks a b → Accepts disks [] a b
  ready_quiet a b r = accepts_later [] a r.room b (room_quiet a r.room r.made) (go r.rest)
    where
      go : ((length (kept r.room) < r.room.limit) × (b ≡ r.room)) ⊎ ((r.room.limit ≤ length (kept r.room)) × Empties disks r.room b) → Accepts disks [] r.room b
      go (inl (some, is)) = accepts_same r.room b is
      go (inr (full, (synced, syncs, n, replaces))) = accepts_later [] r.room synced b (sync_quiet r.room synced syncs) (replaced_quiet synced n b replaces)

  pub no_room_quiet : (a : View D) (r : Refusal) (b : View D) → IsNoRoom disks a r b → Accepts disks [] a b
  no_room_quiet a r b lack = accepts_later [] a lack.full b (room_quiet a lack.full lack.made) (go lack.why)
    where
      go : StaysFull disks lack.full r b → Accepts disks [] lack.full b
      go (inl stops) = sync_stopped_quiet lack.full r b stops
      go (inr (synced, why, syncs, not_replaced, is, told)) = accepts_later [] lack.full synced b (sync_quiet lack.full synced syncs) (accepts_same synced b is)

  -- ---- events

  pub does_accepts : (a : View D) (event : Event) (reply : Reply) (b : View D) → Does disks a event reply b → Accepts disks (command_said event reply) a b
  does_accepts a event reply b (ready, made, went) = accepts_later (command_said event reply) a ready b (ready_quiet a ready made) (went_accepts ((event, reply) ∷ []) ready b went)

  pub declines_quiet : (a : View D) (event : Event) (r : Refusal) (b : View D) → Declines disks a event r b → Accepts disks [] a b
  declines_quiet a event r b (inl lack) = no_room_quiet a r b lack
  declines_quiet a event r b (inr (ready, made, stopped)) = accepts_later [] a ready b (ready_quiet a ready made) (stopped_quiet [] event r ready b refl stopped)

  -- ---- sweeps

  sweep_quiet : (extent : ℕ) (a b : View D) (count root : ℕ) → Sweeps disks extent a b count root → Accepts disks [] a b
  sweep_quiet extent a b count root s =
      went_quiet ((BeginSweep extent, Sweeping) ∷ moves extent s.moved ++ (MoveOne extent, NoneLive) ∷ (Retire extent, Retired root) ∷ []) a b
      (quiet_both ((BeginSweep extent, Sweeping) ∷ moves extent s.moved) ((MoveOne extent, NoneLive) ∷ (Retire extent, Retired root) ∷ [])
      (ap (λ (cs : List Command). cs ++ []) (moves_quiet extent s.moved)) refl) s.went

  stops_quiet : (extent : ℕ) (a b : View D) (r : Refusal) → StopsSweep disks extent a b r → Accepts disks [] a b
  stops_quiet extent a b r (moved, inl move) = stopped_quiet (moves extent moved) (MoveOne extent) r a b (moves_quiet extent moved) move
  stops_quiet extent a b r (moved, inr retire) = stopped_quiet (moves extent moved ++ (MoveOne extent, NoneLive) ∷ []) (Retire extent) r a b
      (quiet_both (moves extent moved) ((MoveOne extent, NoneLive) ∷ []) (moves_quiet extent moved) refl) retire

  pub abandon_quiet : (extent : ℕ) (a b : View D) (r : Result Reply Refusal) → IfOk r (λ reply. Goes disks a (Abandon extent) reply b) → IfErr r (λ why. IsStopped disks a [] (Abandon extent) why b) → Accepts disks [] a b
  abandon_quiet extent a b (Ok reply) goes stopped = goes_accepts a (Abandon extent) reply b goes
  abandon_quiet extent a b (Err r) goes stopped = stopped_quiet [] (Abandon extent) r a b refl stopped

  abandons_quiet : (extent : ℕ) (a b : View D) (r told : Refusal) → Abandons disks extent a b r told → Accepts disks [] a b
  abandons_quiet extent a b r told (inl (went, is)) = went_quiet ((Abandon extent, Abandoned) ∷ []) a b refl went
  abandons_quiet extent a b r told (inr (why, stopped, is)) = stopped_quiet [] (Abandon extent) why a b refl stopped

  sweep_refused_quiet : (extent : ℕ) (a b : View D) (told : Refusal) → IsSweepRefused disks extent a b told → Accepts disks [] a b
  sweep_refused_quiet extent a b told (inl begin) = stopped_quiet [] (BeginSweep extent) told a b refl begin
  sweep_refused_quiet extent a b told (inr (begun, mid, r, went, stops, abandons)) =
      accepts_later [] a begun b (went_quiet ((BeginSweep extent, Sweeping) ∷ []) a begun refl went)
      (accepts_later [] begun mid b (stops_quiet extent begun mid r stops) (abandons_quiet extent mid b r told abandons))

  pub swept_quiet : (extent : ℕ) (a b : View D) (count root : ℕ) → SweepsReady disks extent a b count root → Accepts disks [] a b
  swept_quiet extent a b count root (ready, made, sweeps) = accepts_later [] a ready b (ready_quiet a ready made) (sweep_quiet extent ready b count root sweeps)

  pub unswept_quiet : (extent : ℕ) (a b : View D) (r : Refusal) → DeclinesSweep disks extent a b r → Accepts disks [] a b
  unswept_quiet extent a b r (inl lack) = no_room_quiet a r b lack
  unswept_quiet extent a b r (inr (ready, made, refused)) = accepts_later [] a ready b (ready_quiet a ready made) (sweep_refused_quiet extent ready b r refused)
