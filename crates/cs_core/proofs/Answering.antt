-- What each event answers, whatever the disk does.
use Rattle.std.proofs.Common.{◌≡◌, ◌≢◌, ◌⊎◌, ℕ, ◌<◌, ◌≤◌, List, [], None, Ok, Err, inl, inr, ⊎_elim, refl, sym, ap, subst, true, arith}
use Rattle.std.specs.Prelude.{IfOk, MatchResult, OnOk, Result}
use Rattle.cs_deps.specs.declared.elements.Element.{Element as Name}
use Rattle.cs_refusal.specs.declared.refusals.Refusal.{Refusal as Code}
use Rattle.cs_refusal.specs.declared.refusals.Refusal.TheVariants as code
use Rattle.cs_refusal.specs.declared.refusals.Refusal.TheVariants.{DeviceFault, InFlight, NoRound}
use Rattle.cs_frame.specs.declared.identifiers.ShardId.{ShardId}
use Rattle.cs_index.specs.State.{State as IndexState, id_number}
use Rattle.cs_core.specs.declared.events.Event.{Event}
use Rattle.cs_core.specs.declared.events.Event.TheVariants.{Abandon, Begin, BeginSweep, Delete, End, Get, Issue, MoveOne, Put, Retire, Settle, Stage}
use Rattle.cs_core.specs.declared.events.OutOfMemory.{OutOfMemory}
use Rattle.cs_core.specs.declared.events.Reply.{Reply}
use Rattle.cs_core.specs.declared.events.Reply.TheVariants.{Abandoned, Absent, Accepted, Begun, Ended, Found, Issued, Moved, NoneLive, NotYet, Nothing, Persistent, Refused, Retired, Staged, Sweeping, Unchanged}
use Rattle.cs_core.specs.Answered.{IsAlone, IsAnswered, IsForDevice, IsLimited, TellsMeant}
use Rattle.cs_core.specs.Lookups.{AreMeantBytes}
use Rattle.cs_core.specs.Puts.{ChangesMeaning, MeansTheSame, MeansTheSameBut, marks_at}
use Rattle.cs_core.specs.Replies.{MayAnswer, MayRefuse}
use Rattle.cs_core.specs.Stored.{Stored}
use Rattle.cs_core.specs.Writebacks.{AddsCommand, IsMemberIssued, IsRoundBegun, IsRoundEnded, KeepsRound, KeepsStaging, Stages, StaysRefused, WritesBack}
use Rattle.cs_core.proofs.Refusing.{limited, may_refuse}

-- what an answer that isn't a refusal says
pub ok_of : {A B : Type 0} (P : Type 0) (r : Result A B) (x : A) → r ≡ Ok x → OnOk r P → P
ok_of {A} {B} P r x is p = subst (λ (k : Result A B). OnOk k P) is p

-- a refusal tells no bytes
pub no_bytes : (v : Stored) (event : Event) (r : Code) → TellsMeant v event (Refused r)
no_bytes v (Get id) r = tt
no_bytes v event r = tt

-- events that may be refused, where no refusal halts or says what is out
abbrev pub IsPlain : Event → Type 0
IsPlain Begin = ⊥
IsPlain Issue = ⊥
IsPlain End = ⊥
IsPlain (Settle n) = ⊥
IsPlain event = Unit {0}

-- an index that is the same means the same
index_means : (v w : Stored) → w.index ≡ v.index → MeansTheSame v.index w.index
index_means v w same d = ap (λ (i : IndexState). marks_at i d) same

refused_means : (v w : Stored) (event : Event) (r : Code) → w ≡ v → ChangesMeaning v event (Refused r) w
refused_means v w (Put id bytes) r same = index_means v w (ap (λ (u : Stored). u.index) same)
refused_means v w (Delete id) r same = index_means v w (ap (λ (u : Stored). u.index) same)
refused_means v w event r same = index_means v w (ap (λ (u : Stored). u.index) same)

-- a refused event leaves the index
stays_index : (event : Event) (r : Code) (v w : Stored) → StaysRefused event r v w → w.index ≡ v.index
stays_index Issue DeviceFault v w is = ap (λ (u : Stored). u.index) is
stays_index End DeviceFault v w is = ap (λ (u : Stored). u.index) is
stays_index Begin InFlight v w is = ap (λ (u : Stored). u.index) is.1
stays_index Issue NoRound v w is = ap (λ (u : Stored). u.index) is.1
stays_index End NoRound v w is = ap (λ (u : Stored). u.index) is.1
stays_index event r v w is = ap (λ (u : Stored). u.index) is

module _ (v w : Stored) where
  -- where there was memory, a refused event of these is answered so
  pub refused_alone : (event : Event) → IsPlain event → (r : Code) → (r ≡ code.OutOfMemory) ⊎ MayRefuse event r → r ≢ code.OutOfMemory → w ≡ v → IsAnswered v event (Refused r) w
  unfolding IsAnswered
  refused_alone Begin plain r may known same = absurd plain
  refused_alone Issue plain r may known same = absurd plain
  refused_alone End plain r may known same = absurd plain
  refused_alone (Settle n) plain r may known same = absurd plain
  refused_alone event plain r may known same = (may_refuse event r may known, same, no_bytes v event r, refused_means v w event r same)

  pub begin_refused_so : (r : Code) → (r ≡ code.OutOfMemory) ⊎ MayRefuse Begin r → r ≢ code.OutOfMemory → StaysRefused Begin r v w → IsAnswered v Begin (Refused r) w
  unfolding IsAnswered
  begin_refused_so r may known stays = (may_refuse Begin r may known, stays, tt, index_means v w (stays_index Begin r v w stays))

  pub issue_refused_so : (r : Code) → (r ≡ code.OutOfMemory) ⊎ MayRefuse Issue r → r ≢ code.OutOfMemory → StaysRefused Issue r v w → IsAnswered v Issue (Refused r) w
  unfolding IsAnswered
  issue_refused_so r may known stays = (may_refuse Issue r may known, stays, tt, index_means v w (stays_index Issue r v w stays))

  pub end_refused_so : (r : Code) → (r ≡ code.OutOfMemory) ⊎ MayRefuse End r → r ≢ code.OutOfMemory → StaysRefused End r v w → IsAnswered v End (Refused r) w
  unfolding IsAnswered
  end_refused_so r may known stays = (may_refuse End r may known, stays, tt, index_means v w (stays_index End r v w stays))

  pub put_so : (id : ShardId) (bytes : List ℕ) (n : ℕ) → AddsCommand n v w → KeepsRound v w → Stages v w → AreMeantBytes w (id_number id) bytes × MeansTheSameBut (id_number id) v.index w.index → IsAnswered v (Put id bytes) (Accepted n) w
  unfolding IsAnswered
  put_so id bytes n adds round behind means = (omega (arith, adds.0), (adds, round, behind), tt, means)

  pub delete_so : (id : ShardId) (n : ℕ) → AddsCommand n v w → KeepsRound v w → KeepsStaging v w → MeansTheSameBut (id_number id) v.index w.index → IsAnswered v (Delete id) (Accepted n) w
  unfolding IsAnswered
  delete_so id n adds round same means = (omega (arith, adds.0), (adds, round, same), tt, means)

  pub delete_absent_so : (id : ShardId) → w ≡ v → IsAnswered v (Delete id) Absent w
  unfolding IsAnswered
  delete_absent_so id same = (tt, same, tt, index_means v w (ap (λ (u : Stored). u.index) same))

  pub get_found_so : (id : ShardId) (bytes : List ℕ) → AreMeantBytes v (id_number id) bytes → w ≡ v → IsAnswered v (Get id) (Found bytes) w
  unfolding IsAnswered
  get_found_so id bytes meant same = (tt, same, meant, index_means v w (ap (λ (u : Stored). u.index) same))

  pub get_absent_so : (id : ShardId) → w ≡ v → IsAnswered v (Get id) Absent w
  unfolding IsAnswered
  get_absent_so id same = (tt, same, tt, index_means v w (ap (λ (u : Stored). u.index) same))

  pub stage_so : (n : ℕ) → w.index.table ≡ [] → KeepsRound v w → Stages v w → MeansTheSame v.index w.index → IsAnswered v Stage (Staged n) w
  unfolding IsAnswered
  stage_so n table round behind means = (tt, (table, round, behind), tt, means)

  pub stage_none_so : (v.index.table ≡ []) × (w ≡ v) → IsAnswered v Stage Unchanged w
  unfolding IsAnswered
  stage_none_so same = (tt, same, tt, index_means v w (ap (λ (u : Stored). u.index) same.1))

  pub begin_so : (round : List Name) → IsRoundBegun round v w → IsAnswered v Begin (Begun round) w
  unfolding IsAnswered
  begin_so round begun = (tt, begun, tt, index_means v w begun.same_index)

  pub begin_none_so : (v.graph.staging.pending.waiting ≡ []) × (v.out ≡ None) × (w ≡ v) → IsAnswered v Begin Nothing w
  unfolding IsAnswered
  begin_none_so same = (tt, same, tt, index_means v w (ap (λ (u : Stored). u.index) same.2))

  pub issue_so : (x : Name) (page : ℕ) → IsMemberIssued x v w → IsAnswered v Issue (Issued x page) w
  unfolding IsAnswered
  issue_so x page issued = (tt, issued, tt, index_means v w issued.same_index)

  pub end_so : (n : ℕ) → IsRoundEnded n v w → IsAnswered v End (Ended n) w
  unfolding IsAnswered
  end_so n ended = (tt, ended, tt, index_means v w ended.same_index)

  pub begin_sweep_so : (e : ℕ) → KeepsRound v w → KeepsStaging v w → MeansTheSame v.index w.index → IsAnswered v (BeginSweep e) Sweeping w
  unfolding IsAnswered
  begin_sweep_so e round same means = (tt, (round, same), tt, means)

  pub move_so : (e : ℕ) (id : ShardId) (chunk : ℕ) → KeepsRound v w → Stages v w → MeansTheSame v.index w.index → IsAnswered v (MoveOne e) (Moved id chunk) w
  unfolding IsAnswered
  move_so e id chunk round behind means = (tt, (round, behind), tt, means)

  pub move_none_so : (e : ℕ) → w ≡ v → IsAnswered v (MoveOne e) NoneLive w
  unfolding IsAnswered
  move_none_so e same = (tt, same, tt, index_means v w (ap (λ (u : Stored). u.index) same))

  pub retire_so : (e n : ℕ) → w.index.table ≡ [] → KeepsRound v w → Stages v w → MeansTheSame v.index w.index → IsAnswered v (Retire e) (Retired n) w
  unfolding IsAnswered
  retire_so e n table round behind means = (tt, (table, round, behind), tt, means)

  pub abandon_so : (e : ℕ) → KeepsRound v w → KeepsStaging v w → MeansTheSame v.index w.index → IsAnswered v (Abandon e) Abandoned w
  unfolding IsAnswered
  abandon_so e round same means = (tt, (round, same), tt, means)

  pub persistent_so : (n : ℕ) → 1 ≤ n → w ≡ v → IsAnswered v (Settle n) Persistent w
  unfolding IsAnswered
  persistent_so n some same = (some, same, tt, index_means v w (ap (λ (u : Stored). u.index) same))

  pub not_yet_so : (n f : ℕ) → (n ≡ 0) ⊎ (f < n) → w ≡ v → IsAnswered v (Settle n) (NotYet f) w
  unfolding IsAnswered
  not_yet_so n f below same = (below, same, tt, index_means v w (ap (λ (u : Stored). u.index) same))

  -- the reply is that of a refusal
  pub if_refused_so : (event : Event) (r : Code) (result : Result (Reply × Reply) OutOfMemory)
      → MatchResult result (λ x. (x.0 ≡ Refused r) × (x.1 ≡ Refused r) × (r ≢ code.OutOfMemory)) (λ e. r ≡ code.OutOfMemory) → (r ≢ code.OutOfMemory → IsAnswered v event (Refused r) w)
      → IfOk result (λ x. IsAnswered v event x.0 w)
  if_refused_so event r (Ok x) is f = subst (λ (k : Reply). IsAnswered v event k w) (sym is.0) (f is.2)
  if_refused_so event r (Err e) is f = tt

  pub if_found_so : (event : Event) (bytes : List ℕ) (result : Result (Reply × Reply) OutOfMemory)
      → IfOk result (λ x. (x.0 ≡ Found bytes) × (x.1 ≡ Found bytes)) → IsAnswered v event (Found bytes) w
      → IfOk result (λ x. IsAnswered v event x.0 w)
  if_found_so event bytes (Ok x) is f = subst (λ (k : Reply). IsAnswered v event k w) (sym is.0) f
  if_found_so event bytes (Err e) is f = tt

  pub answered_shape : (event : Event) (reply : Reply) → IsAnswered v event reply w → MayAnswer event reply
  unfolding IsAnswered
  answered_shape event reply is = is.0

  pub answered_writes : (event : Event) (reply : Reply) → IsAnswered v event reply w → WritesBack v event reply w
  unfolding IsAnswered
  answered_writes event reply is = is.1

  pub answered_meant : (event : Event) (reply : Reply) → IsAnswered v event reply w → TellsMeant v event reply
  unfolding IsAnswered
  answered_meant event reply is = is.2

  pub answered_means : (event : Event) (reply : Reply) → IsAnswered v event reply w → ChangesMeaning v event reply w
  unfolding IsAnswered
  answered_means event reply is = is.3

-- a full history
pub full_shape : (event : Event) → IsLimited event → MayAnswer event (Refused code.HistoryFull)
full_shape event is = limited event is

pub full_writes : (v : Stored) (event : Event) → WritesBack v event (Refused code.HistoryFull) v
full_writes v Begin = refl
full_writes v Issue = refl
full_writes v End = refl
full_writes v event = refl

-- a refused event leaves the store as it was, but for a device fault in Issue or End
pub refused_leaves : (event : Event) (r : Code) (v w : Stored) → StaysRefused event r v w → (w ≡ v) ⊎ (((event ≡ Issue) ⊎ (event ≡ End)) × (r ≡ DeviceFault) × (w ≡ record v { halted = true }))
refused_leaves Issue DeviceFault v w is = inr (inl refl, refl, is)
refused_leaves End DeviceFault v w is = inr (inr refl, refl, is)
refused_leaves Begin InFlight v w is = inl is.1
refused_leaves Issue NoRound v w is = inl is.1
refused_leaves End NoRound v w is = inl is.1
refused_leaves event r v w is = inl is

pub refused_same : (event : Event) (r : Code) (v w : Stored) → r ≢ DeviceFault → StaysRefused event r v w → w ≡ v
refused_same event r v w other is = ⊎_elim
    (λ (same : w ≡ v). same)
    (λ (halts : ((event ≡ Issue) ⊎ (event ≡ End)) × (r ≡ DeviceFault) × (w ≡ record v { halted = true })). absurd (other halts.1))
    (refused_leaves event r v w is)

pub refused_same_else : (event : Event) (r : Code) (v w : Stored) → event ≢ Issue → event ≢ End → StaysRefused event r v w → w ≡ v
refused_same_else event r v w issue end is = ⊎_elim
    (λ (same : w ≡ v). same)
    (λ (halts : ((event ≡ Issue) ⊎ (event ≡ End)) × (r ≡ DeviceFault) × (w ≡ record v { halted = true })). absurd (⊎_elim issue end halts.0))
    (refused_leaves event r v w is)

-- which events a store does by itself
pub alone_of : (e : Event) → (IsForDevice e → ⊥) → ((id : ShardId) → e ≡ Get id → ⊥) → ((n : ℕ) → e ≡ Settle n → ⊥) → IsAlone e
alone_of (Get id) device get settle = get id refl
alone_of (Settle n) device get settle = settle n refl
alone_of Issue device get settle = device tt
alone_of End device get settle = device tt
alone_of (MoveOne e) device get settle = device tt
alone_of e device get settle = tt

-- a halted store refuses all but Get and Settle
pub halted_so : (v : Stored) (e : Event) → ((id : ShardId) → e ≡ Get id → ⊥) → ((n : ℕ) → e ≡ Settle n → ⊥) → IsAnswered v e (Refused code.Halted) v
unfolding IsAnswered
halted_so v (Get id) get settle = absurd (get id refl)
halted_so v (Settle n) get settle = absurd (settle n refl)
halted_so v Begin get settle = (tt, refl, tt, λ d. refl)
halted_so v Issue get settle = (tt, refl, tt, λ d. refl)
halted_so v End get settle = (tt, refl, tt, λ d. refl)
halted_so v e get settle = (tt, refl, tt, refused_means v v e code.Halted refl)

-- there is no other
pub no_other : (e : Event) → IsAlone e → ((id : ShardId) (bytes : List ℕ) → e ≡ Put id bytes → ⊥) → ((id : ShardId) → e ≡ Delete id → ⊥) → (e ≡ Stage → ⊥) → (e ≡ Begin → ⊥) → ((n : ℕ) → e ≡ BeginSweep n → ⊥)
    → ((n : ℕ) → e ≡ Retire n → ⊥) → ((n : ℕ) → e ≡ Abandon n → ⊥) → ⊥
no_other (Put id bytes) alone put delete stage begin sweep retire abandon = put id bytes refl
no_other (Delete id) alone put delete stage begin sweep retire abandon = delete id refl
no_other Stage alone put delete stage begin sweep retire abandon = stage refl
no_other Begin alone put delete stage begin sweep retire abandon = begin refl
no_other (BeginSweep n) alone put delete stage begin sweep retire abandon = sweep n refl
no_other (Retire n) alone put delete stage begin sweep retire abandon = retire n refl
no_other (Abandon n) alone put delete stage begin sweep retire abandon = abandon n refl
no_other e alone put delete stage begin sweep retire abandon = alone
