-- What each event answers is a step of the machine over the disk too.
use Rattle.std.proofs.Common.{◌≡◌, ◌≢◌, ◌⊎◌, inl, inr, ℕ, ◌<◌, ◌≤◌, true, List, Some, None, Ok, Err, refl, sym, ◌∙◌, subst}
use Rattle.std.specs.Prelude.{IfOk, MatchResult, Result, Vec}
use Rattle.cs_refusal.specs.declared.refusals.Refusal.{Refusal as Code}
use Rattle.cs_refusal.specs.declared.refusals.Refusal.TheVariants as code
use Rattle.cs_disk.specs.Disk.{State as DiskState}
use Rattle.cs_extent.specs.State.{shape}
use Rattle.cs_frame.specs.Formats.{formats_of}
use Rattle.law_machine.specs.Device.{Shape}
use Rattle.law_machine.specs.Formats.{Formats}
use Rattle.law_machine.specs.Refusal.{Halted, Refusal}
use Rattle.law_machine.specs.State.{Absent, Begin, Begun, End, Ended, Event, Found, Issue, Issued, Moved, NoneLive, NotYet, Nothing, Persistent, Reply, Refused, State}
use Rattle.law_machine.specs.Step.{Step}
use Rattle.law_refinement.specs.Devices.{IsDiskOf}
use Rattle.law_refinement.proofs.Disks.{step_stays}
use Rattle.cs_core.specs.declared.events.Event.{Event as Asked}
use Rattle.cs_core.specs.declared.events.OutOfMemory.{OutOfMemory}
use Rattle.cs_core.specs.declared.events.Reply.{Reply as Told}
use Rattle.cs_core.specs.declared.events.Reply.TheVariants as told
use Rattle.cs_core.specs.Meanings.{Says, event_of}
use Rattle.cs_core.specs.Steps.{Declines, Steps}
use Rattle.cs_core.specs.Stored.{Stored}
use Rattle.cs_core.specs.Views.{Serves}
use Rattle.cs_core.specs.Reads.{DeclinesOn, GetAnswers, MoveAnswers, StepsOn}
use Rattle.cs_frame.specs.declared.identifiers.ShardId.{ShardId}
use Rattle.cs_index.specs.State.{id_number}
use Rattle.cs_core.specs.Rounds.{BeginAnswers, EndAnswers, IssueAnswers}
use Rattle.cs_core.specs.declared.events.Event.TheVariants as asked
use Rattle.cs_deps.specs.declared.elements.Element.{Element as Name}
use Rattle.std.specs.declared.alloc.Global.{Global}

-- an event that leaves the disk alone was done
pub served : (v w : Stored) (disk after : DiskState) (event : Asked) (reply : Told) (m : Reply) → Says (shape v.extents) (formats_of (shape v.extents)) reply m
    → event_of event ≢ Issue → event_of event ≢ End → after ≡ disk → StepsOn v disk (event_of event) m w → Serves v disk event reply w after
unfolding Serves
served v w disk after event reply m says issue end same steps s is on =
    let d = steps s is on in (
      m,
      d.0,
      says,
      d.1,
      d.2,
      subst (λ (k : DiskState). IsDiskOf (shape v.extents) (formats_of (shape v.extents)) d.0 k) (sym same)
          (step_stays (shape v.extents) (formats_of (shape v.extents)) s disk on d.0 (event_of event) m is.sound d.1 issue end),
    )

-- an event was refused, and nothing has changed
pub declined : (v w : Stored) (disk after : DiskState) (event : Asked) (r : Code) → ((s t : State) (f : Refusal) → Step (shape v.extents) (formats_of (shape v.extents)) s (event_of event) (Refused f) t → t ≡ s)
    → after ≡ disk → DeclinesOn v disk (event_of event) r w → r ≢ code.OutOfMemory → Serves v disk event (told.Refused r) w after
unfolding Serves
declined v w disk after event r still same (inl memory) known s is on = absurd (known memory)
declined v w disk after event r still same (inr (f, number, steps)) known s is on =
    let d = steps s is on in (
      Refused f,
      d.0,
      (f, refl, number),
      d.1,
      d.2,
      subst (λ (k : DiskState). IsDiskOf (shape v.extents) (formats_of (shape v.extents)) d.0 k) (sym same)
          (subst (λ (z : State). IsDiskOf (shape v.extents) (formats_of (shape v.extents)) z disk) (sym (still s d.0 f d.1)) on),
    )

-- what is done whatever the disk holds
pub on_any : (v w : Stored) (disk : DiskState) (event : Event) (m : Reply) → Steps v event m w → StepsOn v disk event m w
on_any v w disk event m steps s is on = steps s is

pub on_any_refused : (v w : Stored) (disk : DiskState) (event : Event) (r : Code) → Declines v event r w → DeclinesOn v disk event r w
on_any_refused v w disk event r (inl memory) = inl memory
on_any_refused v w disk event r (inr (f, number, steps)) = inr (f, number, λ s is on. steps s is)

pub issue_served : (v w : Stored) (disk after : DiskState) (x : Name) (p : ℕ) → IssueAnswers v disk (Ok (x, p)) w after → Serves v disk asked.Issue (told.Issued x p) w after
unfolding Serves IssueAnswers
issue_served v w disk after x p answers s is on = let d = answers s is on in (Issued d.0, d.1, (d.0, refl, d.2, d.3), d.4, d.5, d.6)

pub issue_refused : (v w : Stored) (disk after : DiskState) (r : Code) → IssueAnswers v disk (Err r) w after → r ≢ code.OutOfMemory → Serves v disk asked.Issue (told.Refused r) w after
unfolding Serves IssueAnswers
issue_refused v w disk after r (inl memory) known s is on = absurd (known memory)
issue_refused v w disk after r (inr (f, number, steps)) known s is on = let d = steps s is on in (Refused f, d.0, (f, refl, number), d.1, d.2, d.3)

pub end_served : (v w : Stored) (disk after : DiskState) (n : ℕ) → EndAnswers v disk (Ok n) w after → Serves v disk asked.End (told.Ended n) w after
unfolding Serves EndAnswers
end_served v w disk after n answers s is on = let d = answers s is on in (Ended n, d.0, refl, d.1, d.2, d.3)

pub end_refused : (v w : Stored) (disk after : DiskState) (r : Code) → EndAnswers v disk (Err r) w after → r ≢ code.OutOfMemory → Serves v disk asked.End (told.Refused r) w after
unfolding Serves EndAnswers
end_refused v w disk after r (inl memory) known s is on = absurd (known memory)
end_refused v w disk after r (inr (f, number, steps)) known s is on = let d = steps s is on in (Refused f, d.0, (f, refl, number), d.1, d.2, d.3)

pub begun_served : (v w : Stored) (disk : DiskState) (told_ noted : Vec Name Global) → BeginAnswers v (Ok (Some (told_, noted))) w → Serves v disk asked.Begin (told.Begun told_.items) w disk
unfolding Serves
begun_served v w disk told_ noted answers s is on =
    let d = answers s is in (
      Begun d.0,
      d.1,
      (d.0, refl, d.2),
      d.4,
      d.5,
      step_stays (shape v.extents) (formats_of (shape v.extents)) s disk on d.1 Begin (Begun d.0) is.sound d.4 (λ b. cc b) (λ b. cc b),
    )

pub nothing_served : (v w : Stored) (disk : DiskState) → Steps v Begin Nothing w → Serves v disk asked.Begin told.Nothing w disk
unfolding Serves
nothing_served v w disk steps s is on =
    let d = steps s is in
    (Nothing, d.0, refl, d.1, d.2, subst (λ (z : State). IsDiskOf (shape v.extents) (formats_of (shape v.extents)) z disk) (sym d.1.1.2) on)

-- a store that is halted takes no event but those that it always takes
pub halted_refused : (v : Stored) (disk after : DiskState) (event : Asked) → v.halted ≡ true
    → ((s : State) → s.halted ≡ true → Step (shape v.extents) (formats_of (shape v.extents)) s (event_of event) (Refused Halted) s) → after ≡ disk → Serves v disk event (told.Refused code.Halted) v after
unfolding Serves
halted_refused v disk after event halted step same s is on =
    (Refused Halted, s, (Halted, refl, refl), step s (is.halted ∙ halted), is, subst (λ (k : DiskState). IsDiskOf (shape v.extents) (formats_of (shape v.extents)) s k) (sym same) on)

pub if_refused : (v w : Stored) (disk after : DiskState) (event : Asked) (r : Code) (result : Result (Told × Told) OutOfMemory)
    → MatchResult result (λ x. (x.0 ≡ told.Refused r) × (x.1 ≡ told.Refused r) × (r ≢ code.OutOfMemory)) (λ e. r ≡ code.OutOfMemory) → (r ≢ code.OutOfMemory → Serves v disk event (told.Refused r) w after)
    → IfOk result (λ x. Serves v disk event x.0 w after)
if_refused v w disk after event r (Ok x) is f = subst (λ (k : Told). Serves v disk event k w after) (sym is.0) (f is.2)
if_refused v w disk after event r (Err e) is f = tt

pub persistent_served : (v : Stored) (disk : DiskState) (n : ℕ) → 1 ≤ n → n ≤ v.frontier → Serves v disk (asked.Settle n) told.Persistent v disk
unfolding Serves
persistent_served v disk n some below s is on = (Persistent, s, refl, ((λ f stands. stands), (v.frontier, is.frontier, some, below, refl)), is, on)

pub not_yet_served : (v : Stored) (disk : DiskState) (n : ℕ) → (n ≡ 0) ⊎ (v.frontier < n) → Serves v disk (asked.Settle n) (told.NotYet v.frontier) v disk
unfolding Serves
not_yet_served v disk n above s is on = (NotYet v.frontier, s, refl, ((λ f stands. stands), (is.frontier, above, refl)), is, on)

pub moved_served : (v w : Stored) (disk after : DiskState) (e : ℕ) (moved : ShardId × ℕ) → after ≡ disk → MoveAnswers v disk e (Ok (Some moved)) w → Serves v disk (asked.MoveOne e) (told.Moved moved.0 moved.1) w after
unfolding MoveAnswers
moved_served v w disk after e moved same answers = served v w disk after (asked.MoveOne e) (told.Moved moved.0 moved.1) (Moved (id_number moved.0) moved.1) refl (λ b. cc b) (λ b. cc b) same answers

pub none_live_served : (v w : Stored) (disk after : DiskState) (e : ℕ) → after ≡ disk → MoveAnswers v disk e (Ok None) w → Serves v disk (asked.MoveOne e) told.NoneLive w after
unfolding MoveAnswers
none_live_served v w disk after e same answers = served v w disk after (asked.MoveOne e) told.NoneLive NoneLive refl (λ b. cc b) (λ b. cc b) same answers

pub move_refused : (v w : Stored) (disk after : DiskState) (e : ℕ) (r : Code) → after ≡ disk → MoveAnswers v disk e (Err r) w → r ≢ code.OutOfMemory → Serves v disk (asked.MoveOne e) (told.Refused r) w after
unfolding MoveAnswers
move_refused v w disk after e r same answers known = declined v w disk after (asked.MoveOne e) r (λ s t f step. step.1) same answers known

pub found_served : (v : Stored) (disk after : DiskState) (id : ShardId) (bytes : Vec ℕ Global) → after ≡ disk → GetAnswers v disk (id_number id) (Ok (Some bytes)) → Serves v disk (asked.Get id) (told.Found bytes.items) v after
unfolding GetAnswers
found_served v disk after id bytes same answers = served v v disk after (asked.Get id) (told.Found bytes.items) (Found bytes.items) refl (λ b. cc b) (λ b. cc b) same answers

pub absent_served : (v : Stored) (disk after : DiskState) (id : ShardId) → after ≡ disk → GetAnswers v disk (id_number id) (Ok None) → Serves v disk (asked.Get id) told.Absent v after
unfolding GetAnswers
absent_served v disk after id same answers = served v v disk after (asked.Get id) told.Absent Absent refl (λ b. cc b) (λ b. cc b) same answers

pub get_refused : (v : Stored) (disk after : DiskState) (id : ShardId) (r : Code) → after ≡ disk → GetAnswers v disk (id_number id) (Err r) → r ≢ code.OutOfMemory → Serves v disk (asked.Get id) (told.Refused r) v after
unfolding GetAnswers
get_refused v disk after id r same answers known = declined v v disk after (asked.Get id) r (λ s t f step. step.1) same answers known

pub if_found : (v : Stored) (disk after : DiskState) (event : Asked) (bytes : List ℕ) (result : Result (Told × Told) OutOfMemory)
    → IfOk result (λ x. (x.0 ≡ told.Found bytes) × (x.1 ≡ told.Found bytes)) → Serves v disk event (told.Found bytes) v after
    → IfOk result (λ x. Serves v disk event x.0 v after)
if_found v disk after event bytes (Ok x) is f = subst (λ (k : Told). Serves v disk event k v after) (sym is.0) f
if_found v disk after event bytes (Err e) is f = tt

-- a halted store refuses all but Get and Settle
halted_step : (S : Shape) (F : Formats) (s : State) (e : Asked) → ((id : ShardId) → e ≡ asked.Get id → ⊥) → ((n : ℕ) → e ≡ asked.Settle n → ⊥) → s.halted ≡ true → Step S F s (event_of e) (Refused Halted) s
halted_step S F s (asked.Get id) get settle h = absurd (get id refl)
halted_step S F s (asked.Settle n) get settle h = absurd (settle n refl)
halted_step S F s asked.Issue get settle h = inl (inl (h, refl), refl)
halted_step S F s asked.End get settle h = inl (inl (h, refl), refl)
halted_step S F s e get settle h = (inl (inl (h, refl)), refl)

pub halted_steps : (v : Stored) (disk : DiskState) (e : Asked) → v.halted ≡ true → ((id : ShardId) → e ≡ asked.Get id → ⊥) → ((n : ℕ) → e ≡ asked.Settle n → ⊥) → Serves v disk e (told.Refused code.Halted) v disk
halted_steps v disk e halted get settle = halted_refused v disk disk e halted (λ s h. halted_step (shape v.extents) (formats_of (shape v.extents)) s e get settle h) refl
