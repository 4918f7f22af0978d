-- Puts and deletes: what they do, in the words of their clauses.
use Rattle.std.proofs.Common.{◌≡◌, ◌∙◌, ℕ, suc, List, [], ◌∷◌, Some, None, sym, ap, subst, inr, arith}
use Rattle.cs_refusal.specs.declared.refusals.Refusal.{Refusal}
use Rattle.cs_disk.specs.declared.disk.PageDisk.{Ghosts as PageDisk}
use Rattle.cs_frame.specs.declared.identifiers.ShardId.{ShardId}
use Rattle.cs_index.specs.State.{id_number}
use Rattle.law_machine.specs.Element.{Map}
use Rattle.law_machine.specs.State.{Command, State, changed}
use Rattle.cs_core.specs.declared.events.Event.{Event}
use Rattle.cs_core.specs.declared.events.Event.TheVariants.{Delete, Put}
use Rattle.cs_core.specs.declared.events.Reply.{Reply}
use Rattle.cs_core.specs.declared.events.Reply.TheVariants.{Absent, Accepted}
use Rattle.cs_core.specs.Meanings.{command_said}
use Rattle.cs_core.specs.Stored.{Stored}
use Rattle.cs_core.specs.Views.{IsIn, View}
use Rattle.cs_writeback.specs.Runs.{Ran}
use Rattle.cs_store.specs.Events.{Declines, DeclinesCopy, Does}
use Rattle.cs_store.specs.Maps.{Accepts, HasMap}
use Rattle.cs_store.proofs.Maps.{map_changed, map_kept}
use Rattle.cs_store.proofs.Running.{counted, counted_none}

module _ {D : Type 0} (disks : PageDisk D) (old new : View D) where
  -- an event with its reply, in other words
  pub does_as : (event : Event) (reply reply' : Reply) → reply ≡ reply' → Does disks old event reply new → Does disks old event reply' new
  does_as event reply reply' is does = subst (λ (r : Reply). Does disks old event r new) is does

  accepts_as : (event : Event) (reply reply' : Reply) → reply ≡ reply' → Accepts disks (command_said event reply) old new → Accepts disks (command_said event reply') old new
  accepts_as event reply reply' is accepts = subst (λ (r : Reply). Accepts disks (command_said event r) old new) is accepts

  -- so many were accepted then, and it is the last of them
  one_more : (c : Command) (n : ℕ) (s : State) → disks.honest old.disk → IsIn disks.state old s → Ran disks old new → Accepts disks (c ∷ []) old new → new.store.accepted ≡ n → n ≡ suc old.store.accepted
  one_more c n s there is ran accepts last = let more = counted disks (c ∷ []) old new s there is ran accepts in omega (arith, more, last)

  module _ (id : ShardId) (copy bytes : List ℕ) (same : copy ≡ bytes) where
    pub put_does : (reply : Reply) (n : ℕ) → reply ≡ Accepted n → Does disks old (Put id copy) reply new → Does disks old (Put id bytes) (Accepted n) new
    put_does reply n is does = subst (λ (b : List ℕ). Does disks old (Put id b) (Accepted n) new) same (does_as (Put id copy) reply (Accepted n) is does)

    pub put_declines : (r r' : Refusal) → r' ≡ r → Declines disks old (Put id copy) r new → DeclinesCopy disks old (Put id bytes) r' new
    put_declines r r' is declines = inr (inr (subst (λ (b : List ℕ). Declines disks old (Put id b) r' new) same (subst (λ (x : Refusal). Declines disks old (Put id copy) x new) (sym is) declines)))

    pub put_adds : (reply : Reply) (n : ℕ) → reply ≡ Accepted n → Accepts disks (command_said (Put id copy) reply) old new → Accepts disks ((id_number id, Some bytes) ∷ []) old new
    put_adds reply n is accepts = subst (λ (b : List ℕ). Accepts disks ((id_number id, Some b) ∷ []) old new) same (accepts_as (Put id copy) reply (Accepted n) is accepts)

    pub put_maps : (reply : Reply) (n : ℕ) → reply ≡ Accepted n → Accepts disks (command_said (Put id copy) reply) old new → (m : Map) → HasMap old m → HasMap new (changed m (id_number id, Some bytes))
    put_maps reply n is accepts m has = map_changed disks (id_number id, Some bytes) old new (put_adds reply n is accepts) m has

    pub put_accepted : (reply : Reply) (n : ℕ) → reply ≡ Accepted n → Does disks old (Put id copy) reply new → new.store.accepted ≡ n
    put_accepted reply n is does = go (does_as (Put id copy) reply (Accepted n) is does)
      where
        go : Does disks old (Put id copy) (Accepted n) new → new.store.accepted ≡ n
        go (ready, made, (before, after, ahead, goes, behind)) = ap (λ (v : Stored). v.accepted) behind.0.store ∙ goes.writeback.0.1

    pub put_number : (reply : Reply) (n : ℕ) → reply ≡ Accepted n → Does disks old (Put id copy) reply new → Accepts disks (command_said (Put id copy) reply) old new
        → (s : State) → disks.honest old.disk → IsIn disks.state old s → Ran disks old new → n ≡ suc old.store.accepted
    put_number reply n is does accepts s there is_in ran = one_more (id_number id, Some bytes) n s there is_in ran (put_adds reply n is accepts) (put_accepted reply n is does)

  module _ (id : ShardId) where
    pub delete_declines : (r r' : Refusal) → r' ≡ r → Declines disks old (Delete id) r new → Declines disks old (Delete id) r' new
    delete_declines r r' is declines = subst (λ (x : Refusal). Declines disks old (Delete id) x new) (sym is) declines

    pub delete_adds : (reply : Reply) (n : ℕ) → reply ≡ Accepted n → Accepts disks (command_said (Delete id) reply) old new → Accepts disks ((id_number id, None) ∷ []) old new
    delete_adds reply n is accepts = accepts_as (Delete id) reply (Accepted n) is accepts

    pub absent_adds : (reply : Reply) → reply ≡ Absent → Accepts disks (command_said (Delete id) reply) old new → Accepts disks [] old new
    absent_adds reply is accepts = accepts_as (Delete id) reply Absent is accepts

    pub delete_maps : (reply : Reply) (n : ℕ) → reply ≡ Accepted n → Accepts disks (command_said (Delete id) reply) old new → (m : Map) → HasMap old m → HasMap new (changed m (id_number id, None))
    delete_maps reply n is accepts m has = map_changed disks (id_number id, None) old new (delete_adds reply n is accepts) m has

    pub absent_maps : (reply : Reply) → reply ≡ Absent → Accepts disks (command_said (Delete id) reply) old new → (m : Map) → HasMap old m → HasMap new m
    absent_maps reply is accepts m has = map_kept disks old new (absent_adds reply is accepts) m has

    pub delete_accepted : (reply : Reply) (n : ℕ) → reply ≡ Accepted n → Does disks old (Delete id) reply new → new.store.accepted ≡ n
    delete_accepted reply n is does = go (does_as (Delete id) reply (Accepted n) is does)
      where
        go : Does disks old (Delete id) (Accepted n) new → new.store.accepted ≡ n
        go (ready, made, (before, after, ahead, goes, behind)) = ap (λ (v : Stored). v.accepted) behind.0.store ∙ goes.writeback.0.1

    pub delete_number : (reply : Reply) (n : ℕ) → reply ≡ Accepted n → Does disks old (Delete id) reply new → Accepts disks (command_said (Delete id) reply) old new
        → (s : State) → disks.honest old.disk → IsIn disks.state old s → Ran disks old new → n ≡ suc old.store.accepted
    delete_number reply n is does accepts s there is_in ran = one_more (id_number id, None) n s there is_in ran (delete_adds reply n is accepts) (delete_accepted reply n is does)

    pub absent_number : (reply : Reply) → reply ≡ Absent → Accepts disks (command_said (Delete id) reply) old new
        → (s : State) → disks.honest old.disk → IsIn disks.state old s → Ran disks old new → new.store.accepted ≡ old.store.accepted
    absent_number reply is accepts s there is_in ran = counted_none disks old new s there is_in ran (absent_adds reply is accepts)
