-- Which refusals an event may have, by what the calls below say of theirs.
use Rattle.std.proofs.Common.{◌≡◌, ◌≢◌, ◌⊎◌, ◌≤◌, inl, inr, sym, subst, arith}
use Rattle.cs_chunk.specs.Reads.{IsReadRefusal}
use Rattle.cs_refusal.specs.declared.refusals.Refusal.{Refusal as Code}
use Rattle.cs_refusal.specs.declared.refusals.Refusal.TheVariants as code
use Rattle.cs_refusal.specs.Refusals.{number_of}
use Rattle.cs_frame.specs.declared.identifiers.ShardId.{ShardId}
use Rattle.cs_core.specs.declared.events.Event.{Event}
use Rattle.cs_core.specs.declared.events.Event.TheVariants.{Abandon, Begin, BeginSweep, Delete, End, Get, Issue, MoveOne, Put, Retire, Settle, Stage}
use Rattle.cs_core.specs.Answered.{IsLimited}
use Rattle.cs_core.specs.Replies.{MayRefuse}

never : (event : Event) → MayRefuse event code.OutOfMemory → ⊥
never (Put id bytes) may = may
never (Get id) may = may
never (Delete id) may = may
never Stage may = may
never Begin may = may
never Issue may = may
never End may = may
never (BeginSweep e) may = may
never (MoveOne e) may = may
never (Retire e) may = may
never (Abandon e) may = may
never (Settle n) may = may

-- no event is refused for want of memory
pub no_want : (event : Event) (r : Code) → MayRefuse event r → r ≢ code.OutOfMemory
no_want event r may want = never event (subst (λ (k : Code). MayRefuse event k) want may)

-- a refusal that isn't want of memory
pub may_refuse : (event : Event) (r : Code) → (r ≡ code.OutOfMemory) ⊎ MayRefuse event r → r ≢ code.OutOfMemory → MayRefuse event r
may_refuse event r (inl want) known = absurd (known want)
may_refuse event r (inr may) known = may

-- a full history refuses these
pub limited : (event : Event) → IsLimited event → MayRefuse event code.HistoryFull
limited (Put id bytes) is = tt
limited (Get id) is = tt
limited (Delete id) is = tt
limited (Settle n) is = tt
limited (BeginSweep e) is = tt
limited (MoveOne e) is = tt
limited event is = absurd is

-- damage, by its numbers
damaged : (id : ShardId) (r : Code) → 20 ≤ number_of r → number_of r ≤ 24 → MayRefuse (Get id) r
damaged id code.BadMagic low high = tt
damaged id code.BadDigest low high = tt
damaged id code.BadLength low high = tt
damaged id code.BadPadding low high = tt
damaged id code.BadVersion low high = tt
damaged id r low high = absurd (omega (arith, low, high))

-- a Get is refused as a read is
pub get_refuses : (id : ShardId) (r : Code) → IsReadRefusal r → (r ≡ code.OutOfMemory) ⊎ MayRefuse (Get id) r
get_refuses id r (inl (inl fault)) = inr (subst (λ (k : Code). MayRefuse (Get id) k) (sym fault) tt)
get_refuses id r (inl (inr want)) = inl want
get_refuses id r (inr (inl (low, high))) = inr (damaged id r low high)
get_refuses id r (inr (inr other)) = inr (subst (λ (k : Code). MayRefuse (Get id) k) (sym other) tt)
