-- What a reclaim that ends well leaves.
use Rattle.std.proofs.Common.{◌≡◌, ◌∙◌, ◌⊎◌, ℕ, zero, suc, ◌<◌, List, [], ◌∷◌, false, true, Ok, Err, refl, sym, ap, subst, inl, inr, arith}
use Rattle.std.specs.Prelude.{IsOk, OnOk, Result}
use Rattle.cs_core.specs.declared.events.Event.{Event}
use Rattle.cs_core.specs.declared.events.Event.TheVariants.{Put}
use Rattle.cs_core.specs.declared.events.Reply.{Reply}
use Rattle.cs_core.specs.declared.events.Reply.TheVariants.{Refused}
use Rattle.cs_core.specs.Stored.{Stored}
use Rattle.cs_core.specs.Views.{View}
use Rattle.cs_refusal.specs.declared.refusals.Refusal.{Refusal}
use Rattle.cs_disk.proofs.OnlyRead.{reads_none}
use Rattle.cs_disk.specs.declared.disk.PageDisk.{Ghosts as PageDisk}
use Rattle.cs_writeback.specs.Histories.{IsRefused, IsStopped, Went}
use Rattle.cs_frame.specs.declared.identifiers.ShardId.{ShardId}
use Rattle.cs_inspect.specs.Choices.{ReadsOn}
use Rattle.cs_tools.specs.Reclaims.{IsPersistent}

-- what ended well has what holds where it does
pub ok_then : {T E : Type 0} (r : Result T E) (P : Type 0) → IsOk r → OnOk r P → P
ok_then (Ok x) P is p = p
ok_then (Err e) P is p = let clash : false ≡ true = is in absurd (cc clash)

-- a store of which only reads were asked
pub store_read : {D : Type 0} (a b : View D) → b ≡ record a { disk = b.disk } → b.store ≡ a.store
store_read {D} a b same = ap (λ (v : View D). v.store) same

pub persists : {D : Type 0} (a b : View D) → b.store ≡ a.store → IsPersistent a → IsPersistent b
persists a b same is = subst (λ (v : Stored). v.frontier ≡ v.accepted) (sym same) is

-- nothing was done, and no extent was emptied since; or all is persistent
abbrev pub IsSoFar : {D : Type 0} → (old new : View D) → (since : ℕ) → Type 0
IsSoFar old new since = ((since ≡ 0) × (new ≡ old)) ⊎ IsPersistent new

persists_since : {D : Type 0} (old new : View D) (since : ℕ) → IsSoFar old new since → 0 < since → IsPersistent new
persists_since old new since (inl none) some = absurd (omega (arith, none.0, some))
persists_since old new since (inr done) some = done

-- a shard may be put again where some were emptied, and else nothing is done
pub settled : {D : Type 0} (P : Type 0) (old new : View D) (since : ℕ) → (since ≡ 0 → new ≡ old) → (since ≡ 0 → P) → (0 < since → IsPersistent new) → ((new ≡ old) × P) ⊎ IsPersistent new
settled P old new zero none p rests = inl (none refl, p refl)
settled P old new (suc n) none p rests = inr (rests (omega arith))

module _ {D : Type 0} (P : Type 0) (first old new : View D) (since left : ℕ) (so_far : IsSoFar first old since) (step : (0 < since → IsPersistent old) → ((new ≡ old) × P) ⊎ IsPersistent new) where
  pub so_far_then : (P → left ≡ since) → IsSoFar first new left
  so_far_then same = go so_far (step (persists_since first old since so_far))
    where
      go : IsSoFar first old since → ((new ≡ old) × P) ⊎ IsPersistent new → IsSoFar first new left
      go (inl none) (inl is) = inl (same is.1 ∙ none.0, is.0 ∙ none.1)
      go (inr done) (inl is) = inr (subst (λ (v : View D). IsPersistent v) (sym is.0) done)
      go before (inr done) = inr done

  pub so_far_none : IsSoFar first new 0
  so_far_none = go so_far (step (persists_since first old since so_far))
    where
      go : IsSoFar first old since → ((new ≡ old) × P) ⊎ IsPersistent new → IsSoFar first new 0
      go (inl none) (inl is) = inl (refl, is.0 ∙ none.1)
      go (inr done) (inl is) = inr (subst (λ (v : View D). IsPersistent v) (sym is.0) done)
      go before (inr done) = inr done

-- after that a shard may be put again
pub kept_so : {D T E : Type 0} (r : Result T E) (first old new : View D) (since : ℕ) → IsSoFar first old since → (since ≡ 0 → new ≡ old) → (IsPersistent old → OnOk r (IsPersistent new)) → OnOk r ((new ≡ first) ⊎ IsPersistent new)
kept_so (Err e) first old new since so_far none rests = tt
kept_so (Ok x) first old new since (inl is) none rests = inl (none is.0 ∙ is.1)
kept_so (Ok x) first old new since (inr done) none rests = inr (rests done)

-- after reads nothing was done, or all is persistent
pub kept_then : {D : Type 0} (disks : PageDisk D) (first read new : View D) → ReadsOn disks first read → (new ≡ read) ⊎ IsPersistent new → IsPersistent new ⊎ ReadsOn disks first new
kept_then {D} disks first read new reads (inl same) = inr (subst (λ (v : View D). ReadsOn disks first v) (sym same) reads)
kept_then {D} disks first read new reads (inr done) = inl done

-- nothing was done, or all is persistent
abbrev pub IsAtRest : {D : Type 0} → (old new : View D) → Type 0
IsAtRest old new = (new ≡ old) ⊎ IsPersistent new

pub rest_then : {D : Type 0} (disks : PageDisk D) (first old new : View D) → ReadsOn disks old new → IsAtRest first old → IsPersistent new ⊎ ReadsOn disks first new
rest_then {D} disks first old new reads (inl is) = inr (subst (λ (v : View D). ReadsOn disks v new) is reads)
rest_then {D} disks first old new reads (inr done) = inl (persists old new (store_read old new reads.0) done)

pub rest_at_last : {D : Type 0} (disks : PageDisk D) (first new : View D) → IsAtRest first new → IsPersistent new ⊎ ReadsOn disks first new
rest_at_last {D} disks first new (inl is) = inr (subst (λ (v : View D). ReadsOn disks first v) (sym is) (refl, reads_none disks first.disk))
rest_at_last {D} disks first new (inr done) = inl done

module _ {D : Type 0} (disks : PageDisk D) where
  -- a put that is refused changes nothing of the store
  refused_one : (a b : View D) (id : ShardId) (bytes : List ℕ) (r : Refusal) → Went disks a ((Put id bytes, Refused r) ∷ []) b → b.store ≡ a.store
  refused_one a b id bytes r (before, after, ahead, goes, behind) = behind.0.store ∙ goes.writeback ∙ ahead.0.store

  pub refused_store : (a b : View D) (id : ShardId) (bytes : List ℕ) (r : Refusal) → IsStopped disks a [] (Put id bytes) r b → b.store ≡ a.store
  refused_store a b id bytes r stopped = go stopped.added stopped.went stopped.refused
    where
      go : (added : List (Event × Reply)) → Went disks a added b → IsRefused b (Put id bytes) r added → b.store ≡ a.store
      go added went (inl is) = refused_one a b id bytes r (subst (λ (xs : List (Event × Reply)). Went disks a xs b) is went)
      go added went (inr none) = let stays = subst (λ (xs : List (Event × Reply)). Went disks a xs b) none.0 went in stays.0.store
