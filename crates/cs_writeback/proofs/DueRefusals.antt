-- Which refusals a sync may have, whatever the disk does: each event that it asks for is due.
use Rattle.std.proofs.Common.{◌≡◌, ◌≢◌, ◌∙◌, ◌⊎◌, ℕ, ◌<◌, ◌≤◌, List, [], ◌∷◌, Some, None, length, get_or, sym, subst, refl, inl, inr, ⊎_elim, arith}
use Rattle.std.specs.Prelude.{Bool, true, false, Option, if◌then◌else◌, nat_lt, slice_get}
use Rattle.std.proofs.lemmas.Bool.{cases_lt}
use Rattle.std.proofs.lemmas.Option.{slice_get_cases}
use Rattle.cs_deps.specs.declared.elements.Element.{Element as Name}
use Rattle.cs_refusal.specs.declared.refusals.Refusal.{Refusal}
use Rattle.cs_refusal.specs.declared.refusals.Refusal.TheVariants.{DeviceFault, Full, Halted, HistoryFull, InFlight, NoRound, OutOfMemory, WornOut}
use Rattle.cs_disk.specs.declared.disk.PageDisk.{Ghosts as PageDisk}
use Rattle.cs_core.specs.declared.events.Event.{Event}
use Rattle.cs_core.specs.declared.events.Event.TheVariants.{Begin, End, Issue, Stage}
use Rattle.cs_core.specs.declared.events.Reply.{Reply}
use Rattle.cs_core.specs.declared.events.Reply.TheVariants.{Refused}
use Rattle.cs_core.specs.Answered.{IsLimited}
use Rattle.cs_core.specs.Replies.{MayRefuse}
use Rattle.cs_core.specs.Stored.{Stored, members_of}
use Rattle.cs_core.specs.Views.{View}
use Rattle.cs_core.specs.Writebacks.{StaysRefused}
use Rattle.cs_writeback.specs.Histories.{IsStopped, IsUnrecorded, Went}
use Rattle.cs_writeback.specs.Rounds.{IsStoppedAtDue, event_due, step_event}
use Rattle.cs_writeback.specs.Syncs.{MayRefuseSync, StopsInTurn, StopsLater, StopsSync}
use Rattle.cs_writeback.proofs.Turned.{begin_due, end_due, issue_due}

-- the event may be refused so, as this store is
abbrev IsWhy : Stored → Event → Refusal → Type 0
IsWhy v event r = MayRefuse event r × (after : Stored) × StaysRefused event r v after

out_cases : (out : Option (List Name)) → (out ≡ None) ⊎ (out ≢ None)
out_cases None = inl refl
out_cases (Some round) = inr (λ e. cc)

-- what is due is never refused for a full history
not_limited : (out : Option (List Name)) (issued : ℕ) → ¬ IsLimited (event_due out issued)
not_limited None issued h = h
not_limited (Some round) issued h = by_test (nat_lt issued (length round)) h
  where
    by_test : (b : Bool) → ¬ IsLimited (if b then Issue else End)
    by_test true h = h
    by_test false h = h

-- where no element is
no_element : {A : Type 0} (xs : List A) (k : ℕ) → slice_get xs k ≡ None → length xs ≤ k
no_element {A = A} xs k none = ⊎_elim
    (λ (at : (x : A) × (k < length xs) × (slice_get xs k ≡ Some x) × (get_or xs k x ≡ x)). let wrong : None ≡ Some at.0 = sym none ∙ at.2 in cc)
    (λ (past : (length xs ≤ k) × (slice_get xs k ≡ None)). past.0)
    (slice_get_cases xs k).1

-- for want of memory
pub want_refuses : (r : Refusal) → r ≡ OutOfMemory → MayRefuseSync r
want_refuses r want = subst MayRefuseSync (sym want) tt

-- a Stage
stage_refuses : (r : Refusal) → MayRefuse Stage r → MayRefuseSync r
stage_refuses Full may = tt
stage_refuses WornOut may = tt
stage_refuses Halted may = tt
stage_refuses r may = absurd may

-- a Begin where none is out
begin_refuses : (v : Stored) (r : Refusal) → v.out ≡ None → IsWhy v Begin r → MayRefuseSync r
begin_refuses v InFlight none (may, after, stays) = absurd (stays.0 none)
begin_refuses v Halted none why = tt
begin_refuses v r none (may, after, stays) = absurd may

-- an Issue where a member is left
issue_refuses : (v : Stored) (r : Refusal) → v.issued < length (members_of v.out) → IsWhy v Issue r → MayRefuseSync r
issue_refuses v NoRound lt (may, after, stays) = absurd (omega (arith, lt, no_element (members_of v.out) v.issued stays.0))
issue_refuses v DeviceFault lt why = tt
issue_refuses v Halted lt why = tt
issue_refuses v r lt (may, after, stays) = absurd may

-- an End where none is
end_refuses : (v : Stored) (r : Refusal) → v.out ≢ None → length (members_of v.out) ≤ v.issued → IsWhy v End r → MayRefuseSync r
end_refuses v NoRound some le (may, after, (inl none, same)) = absurd (some none)
end_refuses v NoRound some le (may, after, (inr lt, same)) = absurd (omega (arith, le, lt))
end_refuses v DeviceFault some le why = tt
end_refuses v Halted some le why = tt
end_refuses v r some le (may, after, stays) = absurd may

-- what is due is refused so
due_refuses : (v : Stored) (r : Refusal) → IsWhy v (step_event v) r → MayRefuseSync r
due_refuses v r why = ⊎_elim
    (λ (none : v.out ≡ None). begin_refuses v r none (as_event Begin (begin_due v.out v.issued none)))
    (λ (some : v.out ≢ None). ⊎_elim
    (λ (lt : v.issued < length (members_of v.out)). issue_refuses v r lt (as_event Issue (issue_due v.out v.issued lt)))
    (λ (le : length (members_of v.out) ≤ v.issued). end_refuses v r some le (as_event End (end_due v.out v.issued some le)))
    (cases_lt v.issued (length (members_of v.out))))
    (out_cases v.out)
  where
    as_event : (event : Event) → step_event v ≡ event → IsWhy v event r
    as_event event due = subst (λ (e : Event). IsWhy v e r) due why

module _ {D : Type 0} (disks : PageDisk D) where
  -- a refusal that was recorded
  recorded : (a c : View D) (event : Event) (r : Refusal) → Went disks a ((event, Refused r) ∷ []) c → IsWhy a.store event r
  recorded a c event r (before, after, s, g, w) = (g.answers, after.store, subst (λ (v : Stored). StaysRefused event r v after.store) s.0.store g.writeback)

  -- want of memory, or as the event may be refused in the store as it was
  unlimited_refused : (a c : View D) (event : Event) (r : Refusal) → (¬ IsLimited event) → IsStopped disks a [] event r c → (r ≡ OutOfMemory) ⊎ IsWhy a.store event r
  unlimited_refused a c event r free s = ⊎_elim
      (λ (is : s.added ≡ (event, Refused r) ∷ []). inr (recorded a c event r (subst (λ (xs : List (Event × Reply)). Went disks a xs c) is s.went)))
      (λ (why : (s.added ≡ []) × IsUnrecorded c event r). ⊎_elim
      (λ (want : r ≡ OutOfMemory). inl want)
      (λ (full : (r ≡ HistoryFull) × IsLimited event × _). absurd (free full.1))
      why.1)
      s.refused

  -- the Stage is refused
  stage_stopped : (a c : View D) (r : Refusal) → IsStopped disks a [] Stage r c → MayRefuseSync r
  stage_stopped a c r s = ⊎_elim
      (λ (want : r ≡ OutOfMemory). want_refuses r want)
      (λ (why : IsWhy a.store Stage r). stage_refuses r why.0)
      (unlimited_refused a c Stage r (λ h. h) s)

  -- what is due is refused after these events
  due_stopped : (done : List (Event × Reply)) (a c : View D) (r : Refusal) → IsStoppedAtDue disks a done r c → MayRefuseSync r
  due_stopped done a c r s = let v = s.asked.store in ⊎_elim
      (λ (want : r ≡ OutOfMemory). want_refuses r want)
      (λ (why : IsWhy v (step_event v) r). due_refuses v r why)
      (unlimited_refused s.asked c (step_event v) r (not_limited v.out v.issued) s.stopped)

  -- the Stage or what is due later is refused
  later_stopped : (old new : View D) (r : Refusal) → StopsLater disks old r new → MayRefuseSync r
  later_stopped old new r later = ⊎_elim
      (λ (at : (later.turns ≡ []) × IsStopped disks later.ended [] Stage r new). stage_stopped later.ended new r at.1)
      (λ (at : StopsInTurn disks later.ended later.turns r new). due_stopped _ later.ended new r at.4)
      later.stopped

  -- no sync is refused but so
  pub sync_refuses : (old new : View D) (r : Refusal) → StopsSync disks old r new → MayRefuseSync r
  sync_refuses old new r (inl (some, members, s)) = due_stopped _ old new r s
  sync_refuses old new r (inr later) = later_stopped old new r later
