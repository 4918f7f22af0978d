-- The moves of a sweep, one after another.
use Rattle.std.proofs.Common.{◌≡◌, ℕ, ◌+◌, ◌≤◌, List, [], ◌∷◌, ◌++◌, length, sym, subst, refl, inl, inr, arith, append_assoc, length-append}
use Rattle.std.specs.Prelude.{IfErr, IfOk, Result, Ok, Err}
use Rattle.std.proofs.lemmas.List.{map-append, length-map}
use Rattle.cs_refusal.specs.declared.refusals.Refusal.{Refusal}
use Rattle.cs_refusal.specs.declared.refusals.Refusal.TheVariants.{HistoryFull}
use Rattle.cs_disk.specs.declared.disk.PageDisk.{Ghosts as PageDisk}
use Rattle.cs_frame.specs.declared.identifiers.ShardId.{ShardId}
use Rattle.cs_core.specs.declared.events.Event.{Event}
use Rattle.cs_core.specs.declared.events.Event.TheVariants.{Abandon, BeginSweep, MoveOne, Retire}
use Rattle.cs_core.specs.declared.events.Reply.{Reply}
use Rattle.cs_core.specs.declared.events.Reply.TheVariants.{Abandoned, Moved, NoneLive, Retired, Sweeping}
use Rattle.cs_core.specs.Calls.{IsCall}
use Rattle.cs_core.specs.Replies.{MayAnswer}
use Rattle.cs_core.specs.Views.{View, kept}
use Rattle.cs_writeback.specs.Histories.{Goes, IsNoRefusal, IsStopped, Went}
use Rattle.cs_writeback.specs.Runs.{Ran}
use Rattle.cs_writeback.specs.Sweeps.{Abandons, IsSweepRefused, StopsSweep, Sweeps, moves}
use Rattle.cs_writeback.specs.declared.whole_sweeps.Swept.{Swept}
use Rattle.cs_writeback.proofs.Asked.{abandoned_of, sweeping_of}
use Rattle.cs_writeback.proofs.Histories.{stays_same, stopped_next, stopped_unrecorded, went_as, went_full, went_one, went_then}
use Rattle.cs_writeback.proofs.Runs.{ran_call, ran_then}

-- one move more
moves_more : (extent : ℕ) (moved : List (ShardId × ℕ)) (m : ShardId × ℕ) → moves extent (moved ++ m ∷ []) ≡ moves extent moved ++ (MoveOne extent, Moved m.0 m.1) ∷ []
moves_more extent moved m = map-append (λ (m : ShardId × ℕ). (MoveOne extent, Moved m.0 m.1)) moved (m ∷ [])

module _ {D : Type 0} (disks : PageDisk D) where
  -- so many chunks were moved
  pub record MovesSoFar (extent : ℕ) (old new : View D) (count : ℕ) : Type 0 where
    pub moved : List (ShardId × ℕ)
    pub counted : count ≡ length moved
    pub went : Went disks old (moves extent moved) new
    pub ran : Ran disks old new

  pub one_move_more : (extent : ℕ) (a b c : View D) (count : ℕ) (id : ShardId) (chunk : ℕ) (reply : Reply) → reply ≡ Moved id chunk
      → MovesSoFar extent a b count → Goes disks b (MoveOne extent) reply c → IsCall disks b c → MovesSoFar extent a c (count + 1)
  one_move_more extent a b c count id chunk reply is so g call =
      let last : Went disks b ((MoveOne extent, Moved id chunk) ∷ []) c = subst (λ (x : Reply). Went disks b ((MoveOne extent, x) ∷ []) c) is (went_one disks b c (MoveOne extent) reply g) in
      let all = went_then disks (moves extent so.moved) ((MoveOne extent, Moved id chunk) ∷ []) a b c so.went last in
      let one : length (so.moved ++ (id, chunk) ∷ []) ≡ length so.moved + length {A = ShardId × ℕ} ((id, chunk) ∷ []) = length-append so.moved ((id, chunk) ∷ []) in record {
        moved = so.moved ++ (id, chunk) ∷ [];
        counted = omega (arith, so.counted, one);
        went = subst (λ (l : List (Event × Reply)). Went disks a l c) (sym (moves_more extent so.moved (id, chunk))) all;
        ran = ran_then disks a b c so.ran (ran_call disks b c call);
      }

  -- nothing live is left
  pub all_moved : (extent : ℕ) (a b c : View D) (count : ℕ) (reply : Reply) → reply ≡ NoneLive → MovesSoFar extent a b count → Goes disks b (MoveOne extent) reply c
      → (moved : List (ShardId × ℕ)) × (count ≡ length moved) × Went disks a (moves extent moved ++ (MoveOne extent, NoneLive) ∷ []) c
  all_moved extent a b c count reply is so g =
      let last : Went disks b ((MoveOne extent, NoneLive) ∷ []) c = subst (λ (x : Reply). Went disks b ((MoveOne extent, x) ∷ []) c) is (went_one disks b c (MoveOne extent) reply g) in
      (so.moved, so.counted, went_then disks (moves extent so.moved) ((MoveOne extent, NoneLive) ∷ []) a b c so.went last)

  -- a move is refused
  pub move_refused : (extent : ℕ) (a b c : View D) (count : ℕ) (r : Refusal) → MovesSoFar extent a b count → IsStopped disks b [] (MoveOne extent) r c
      → (moved : List (ShardId × ℕ)) × IsStopped disks a (moves extent moved) (MoveOne extent) r c
  move_refused extent a b c count r so s = (so.moved, stopped_next disks (moves extent so.moved) a b c (MoveOne extent) r so.went s)

  -- a further move would be refused, since as many events are kept as may be
  pub move_full : (extent : ℕ) (a b : View D) (count limit : ℕ) → limit ≡ a.limit → a.base ≤ length a.history → limit ≤ count → MovesSoFar extent a b count
      → (moved : List (ShardId × ℕ)) × IsStopped disks a (moves extent moved) (MoveOne extent) HistoryFull b
  move_full extent a b count limit is replaced few so =
      let same : length (moves extent so.moved) ≡ length so.moved = length-map so.moved (λ (m : ShardId × ℕ). (MoveOne extent, Moved m.0 m.1)) in
      let full : b.limit ≤ length (kept b) = went_full disks (moves extent so.moved) a b so.went replaced (omega (arith, is, few, so.counted, same)) in
      (so.moved, stopped_unrecorded disks (moves extent so.moved) a b (MoveOne extent) HistoryFull so.went (inr (refl, tt, full)))

  -- the extent is retired
  pub retired : (extent root : ℕ) (a b c : View D) (count : ℕ) (reply : Reply) → reply ≡ Retired root
      → (moved : List (ShardId × ℕ)) × (count ≡ length moved) × Went disks a (moves extent moved ++ (MoveOne extent, NoneLive) ∷ []) b
      → Goes disks b (Retire extent) reply c
      → (moved : List (ShardId × ℕ)) × (count ≡ length moved) × Went disks a (moves extent moved ++ (MoveOne extent, NoneLive) ∷ (Retire extent, Retired root) ∷ []) c
  retired extent root a b c count reply is (moved, counted, w) g =
      let last : Went disks b ((Retire extent, Retired root) ∷ []) c = subst (λ (x : Reply). Went disks b ((Retire extent, x) ∷ []) c) is (went_one disks b c (Retire extent) reply g) in
      let all = went_then disks (moves extent moved ++ (MoveOne extent, NoneLive) ∷ []) ((Retire extent, Retired root) ∷ []) a b c w last in
      (moved, counted, subst (λ (l : List (Event × Reply)). Went disks a l c) (append_assoc (moves extent moved) ((MoveOne extent, NoneLive) ∷ []) ((Retire extent, Retired root) ∷ [])) all)

  -- the Retire is refused
  pub retire_refused : (extent : ℕ) (a b c : View D) (count : ℕ) (r : Refusal)
      → (moved : List (ShardId × ℕ)) × (count ≡ length moved) × Went disks a (moves extent moved ++ (MoveOne extent, NoneLive) ∷ []) b
      → IsStopped disks b [] (Retire extent) r c → StopsSweep disks extent a c r
  retire_refused extent a b c count r (moved, counted, w) s =
      (moved, inr (stopped_next disks (moves extent moved ++ (MoveOne extent, NoneLive) ∷ []) a b c (Retire extent) r w s))

  -- a whole sweep
  pub swept : (extent root : ℕ) (a b c : View D) (count : ℕ) (reply : Reply) → reply ≡ Sweeping → Goes disks a (BeginSweep extent) reply b
      → (moved : List (ShardId × ℕ)) × (count ≡ length moved) × Went disks b (moves extent moved ++ (MoveOne extent, NoneLive) ∷ (Retire extent, Retired root) ∷ []) c
      → Sweeps disks extent a c count root
  swept extent root a b c count reply is g (moved, counted, w) = record {
    moved = moved;
    counted = counted;
    went = (a, b, stays_same disks a, subst (λ (x : Reply). Goes disks a (BeginSweep extent) x b) is g, w);
  }

  -- the sweep is abandoned
  pub abandons : (extent : ℕ) (mid new : View D) (reply : Reply) (r : Refusal) → Goes disks mid (Abandon extent) reply new → MayAnswer (Abandon extent) reply → IsNoRefusal reply
      → Abandons disks extent mid new r r
  abandons extent mid new reply r g may none = inl (went_as disks mid new (Abandon extent) (Abandon extent) reply Abandoned refl (abandoned_of extent reply may none) g, refl)

  -- the sweep began, stopped and is abandoned
  pub sweep_refused : (extent : ℕ) (old begun new : View D) (reply : Reply) (r : Refusal) → Goes disks old (BeginSweep extent) reply begun
      → MayAnswer (BeginSweep extent) reply → IsNoRefusal reply → (mid : View D) × (why : Refusal) × StopsSweep disks extent begun mid why × Abandons disks extent mid new why r
      → IsSweepRefused disks extent old new r
  sweep_refused extent old begun new reply r g may none (mid, why, stops, abandoned) =
      inr (begun, mid, why, went_as disks old begun (BeginSweep extent) (BeginSweep extent) reply Sweeping refl (sweeping_of extent reply may none) g, stops, abandoned)

  -- what a sweep that began did, in one with its begin
  pub sweep_done : (extent : ℕ) (old begun new : View D) (reply : Reply) (result : Result Swept Refusal) → Goes disks old (BeginSweep extent) reply begun
      → MayAnswer (BeginSweep extent) reply → IsNoRefusal reply
      → IfOk result (λ s. (moved : List (ShardId × ℕ)) × (s.moved ≡ length moved) × Went disks begun (moves extent moved ++ (MoveOne extent, NoneLive) ∷ (Retire extent, Retired s.root) ∷ []) new)
      → IfOk result (λ s. Sweeps disks extent old new s.moved s.root)
  sweep_done extent old begun new reply (Ok s) g may none all = swept extent s.root old begun new s.moved reply (sweeping_of extent reply may none) g all
  sweep_done extent old begun new reply (Err r) g may none all = tt

  pub sweep_stopped : (extent : ℕ) (old begun new : View D) (reply : Reply) (result : Result Swept Refusal) → Goes disks old (BeginSweep extent) reply begun
      → MayAnswer (BeginSweep extent) reply → IsNoRefusal reply
      → IfErr result (λ r. (mid : View D) × (why : Refusal) × StopsSweep disks extent begun mid why × Abandons disks extent mid new why r)
      → IfErr result (λ r. IsSweepRefused disks extent old new r)
  sweep_stopped extent old begun new reply (Ok s) g may none all = tt
  sweep_stopped extent old begun new reply (Err r) g may none all = sweep_refused extent old begun new reply r g may none all
