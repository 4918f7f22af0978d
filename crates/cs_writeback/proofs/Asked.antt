-- The replies that an event may have.
use Rattle.std.proofs.Common.{◌≡◌, ◌∙◌, ℕ, [], ap, refl, inl, inr}
use Rattle.cs_deps.specs.declared.elements.Element.{Element}
use Rattle.cs_core.specs.declared.events.Event.TheVariants.{Abandon, BeginSweep, Issue, Stage}
use Rattle.cs_core.specs.declared.events.Reply.{Reply}
use Rattle.cs_core.specs.declared.events.Reply.TheVariants.{Abandoned, Issued, Refused, Staged, Sweeping, Unchanged}
use Rattle.cs_core.specs.Replies.{MayAnswer}
use Rattle.cs_core.specs.Stored.{Stored}
use Rattle.cs_core.specs.Writebacks.{WritesBack}
use Rattle.cs_writeback.specs.Histories.{IsNoRefusal}
use Rattle.cs_writeback.specs.Syncs.{IsStageDone}

pub staged_of : (reply : Reply) → MayAnswer Stage reply → IsNoRefusal reply → IsStageDone reply
staged_of (Staged v) may none = inl (v, refl)
staged_of Unchanged may none = inr refl
staged_of (Refused r) may none = absurd none
staged_of reply may none = absurd may

-- what a Stage does to the table and the round
pub stage_does : (old new : Stored) (reply : Reply) → MayAnswer Stage reply → IsNoRefusal reply → WritesBack old Stage reply new → (new.index.table ≡ []) × (new.out ≡ old.out)
stage_does old new (Staged v) may none does = (does.0, does.1.0)
stage_does old new Unchanged may none does = (ap (λ (s : Stored). s.index.table) does.1 ∙ does.0, ap (λ (s : Stored). s.out) does.1)
stage_does old new (Refused r) may none does = absurd none
stage_does old new reply may none does = absurd may

pub issued_of : (reply : Reply) → MayAnswer Issue reply → IsNoRefusal reply → (x : Element) × (page : ℕ) × (reply ≡ Issued x page)
issued_of (Issued x page) may none = (x, page, refl)
issued_of (Refused r) may none = absurd none
issued_of reply may none = absurd may

pub sweeping_of : (extent : ℕ) (reply : Reply) → MayAnswer (BeginSweep extent) reply → IsNoRefusal reply → reply ≡ Sweeping
sweeping_of extent Sweeping may none = refl
sweeping_of extent (Refused r) may none = absurd none
sweeping_of extent reply may none = absurd may

pub abandoned_of : (extent : ℕ) (reply : Reply) → MayAnswer (Abandon extent) reply → IsNoRefusal reply → reply ≡ Abandoned
abandoned_of extent Abandoned may none = refl
abandoned_of extent (Refused r) may none = absurd none
abandoned_of extent reply may none = absurd may
