-- How a put may be refused.
use Rattle.std.proofs.Common.{◌≡◌, ℕ, List, inl, inr, subst, sym}
use Rattle.std.specs.Prelude.{◌⊎◌, ◌≢◌}
use Rattle.cs_extent.specs.State.{State as ExtentsState}
use Rattle.cs_frame.specs.declared.identifiers.ShardId.{ShardId}
use Rattle.cs_refusal.specs.declared.refusals.Refusal.{Refusal}
use Rattle.cs_refusal.specs.declared.refusals.Refusal.TheVariants.{DeviceFault, Full, HistoryFull, OutOfMemory, WornOut}
use Rattle.cs_core.specs.Replies.{MayRefuse}
use Rattle.cs_core.specs.Stored.{IsWhyWorn}
use Rattle.cs_core.specs.declared.events.Event.TheVariants.{Put}

-- a put may be refused so, and that is neither a fault of the device nor a full history
pub record IsPutRefusal (id : ShardId) (bytes : List ℕ) (r : Refusal) : Type 0 where
  pub may : MayRefuse (Put id bytes) r
  pub no_fault : r ≢ DeviceFault
  pub unlimited : r ≢ HistoryFull

full_told : (id : ShardId) (bytes : List ℕ) → IsPutRefusal id bytes Full
full_told id bytes = record { may = tt; no_fault = λ e. cc e; unlimited = λ e. cc e }

worn_out_told : (id : ShardId) (bytes : List ℕ) → IsPutRefusal id bytes WornOut
worn_out_told id bytes = record { may = tt; no_fault = λ e. cc e; unlimited = λ e. cc e }

-- where no further command can be numbered
pub worn_told : (x : ExtentsState) (bytes : List ℕ) (r : Refusal) (id : ShardId) → IsWhyWorn x bytes r → IsPutRefusal id bytes r
worn_told x bytes WornOut id is = worn_out_told id bytes
worn_told x bytes Full id is = full_told id bytes
worn_told x bytes r id is = absurd is

-- where its chunks are refused
abbrev IsCutRefusal : Refusal → Type 0
IsCutRefusal r = (r ≡ Full) ⊎ (r ≡ WornOut) ⊎ (r ≡ OutOfMemory)

pub cut_may : (id : ShardId) (bytes : List ℕ) (r : Refusal) → IsCutRefusal r → (r ≡ OutOfMemory) ⊎ MayRefuse (Put id bytes) r
cut_may id bytes r (inl e) = inr (subst (λ (q : Refusal). MayRefuse (Put id bytes) q) (sym e) tt)
cut_may id bytes r (inr (inl e)) = inr (subst (λ (q : Refusal). MayRefuse (Put id bytes) q) (sym e) tt)
cut_may id bytes r (inr (inr e)) = inl e

pub cut_no_fault : (r : Refusal) → IsCutRefusal r → r ≢ DeviceFault
cut_no_fault r (inl e) = subst (λ (q : Refusal). q ≢ DeviceFault) (sym e) (λ f. cc f)
cut_no_fault r (inr (inl e)) = subst (λ (q : Refusal). q ≢ DeviceFault) (sym e) (λ f. cc f)
cut_no_fault r (inr (inr e)) = subst (λ (q : Refusal). q ≢ DeviceFault) (sym e) (λ f. cc f)

pub cut_unlimited : (r : Refusal) → IsCutRefusal r → r ≢ HistoryFull
cut_unlimited r (inl e) = subst (λ (q : Refusal). q ≢ HistoryFull) (sym e) (λ f. cc f)
cut_unlimited r (inr (inl e)) = subst (λ (q : Refusal). q ≢ HistoryFull) (sym e) (λ f. cc f)
cut_unlimited r (inr (inr e)) = subst (λ (q : Refusal). q ≢ HistoryFull) (sym e) (λ f. cc f)
