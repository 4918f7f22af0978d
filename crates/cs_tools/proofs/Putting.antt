-- What a put of all that is read does.
use Rattle.std.proofs.Common.{◌≡◌, ◌∙◌, ◌⊎◌, ℕ, ◌+◌, ◌<◌, ◌≤◌, List, length, take, ap, refl, sym, subst, arith, inl, inr, take_all}
use Rattle.std.proofs.lemmas.Bool.{cases_lt}
use Rattle.std.proofs.lemmas.List.{length-take}
use Rattle.cs_core.specs.Views.{View}
use Rattle.cs_refusal.specs.declared.refusals.Refusal.{Refusal}
use Rattle.cs_refusal.specs.declared.refusals.Refusal.TheVariants.{TooLarge}
use Rattle.cs_disk.specs.declared.disk.PageDisk.{Ghosts as PageDisk}
use Rattle.cs_extent.specs.State.{shape}
use Rattle.cs_frame.specs.declared.identifiers.ShardId.{ShardId}
use Rattle.law_machine.specs.Element.{Map}
use Rattle.cs_store.specs.Maps.{HasMap}
use Rattle.cs_store.specs.Reserves.{RefusesPut}
use Rattle.cs_tools.specs.Changes.{DeclinesPut, Puts, PutsInto, most_bytes}
use Rattle.cs_advice.specs.declared.outcomes.Outcome.{Outcome}
use Rattle.cs_advice.specs.declared.outcomes.Outcome.TheVariants.{Failed, Refused}

-- what was read of a text, one byte more than a store takes at most, is all of it unless it is longer
read_whole : (most : ℕ) (text bytes : List ℕ) → bytes ≡ take (most + 1) text → length bytes ≤ most → bytes ≡ text
read_whole most text bytes is small =
    let short : length text ≤ most + 1 = omega (arith, length-take (most + 1) text, ap length is, small) in
    is ∙ take_all (most + 1) text short

module _ {D : Type 0} (disks : PageDisk D) (id : ShardId) where
  -- the store refuses it itself
  pub refused_put : (text : List ℕ) (old new : View D) (r told : Refusal) → told ≡ r → RefusesPut disks old id text r new → DeclinesPut disks id text old told new
  refused_put text old new r told is refuses = inr (subst (λ (x : Refusal). RefusesPut disks old id text x new) (sym is) refuses)

  -- of a longer text nothing is put
  module _ (text bytes : List ℕ) (old new : View D) (o : Outcome) (is : bytes ≡ take (most_bytes (shape old.store.extents) + 1) text)
      (large : most_bytes (shape old.store.extents) < length bytes → (o ≡ Refused TooLarge) × (new ≡ old)) where
    abbrev most : ℕ
    most = most_bytes (shape old.store.extents)

    longer : most < length bytes → most < length text
    longer more = omega (arith, length-take (most + 1) text, ap length is, more)

    pub puts_whole : Puts disks id bytes old new o → Puts disks id text old new o
    puts_whole puts = go (cases_lt most (length bytes))
      where
        go : (most < length bytes) ⊎ (length bytes ≤ most) → Puts disks id text old new o
        go (inr small) = subst (λ (b : List ℕ). Puts disks id b old new o) (read_whole most text bytes is small) puts
        go (inl more) = subst (Puts disks id text old new) (sym (large more).0) (inl (inl (longer more, refl, (large more).1)))

    pub puts_whole_into : (m : Map) → HasMap old m → PutsInto disks m id bytes old new o → PutsInto disks m id text old new o
    puts_whole_into m has puts = go (cases_lt most (length bytes))
      where
        go : (most < length bytes) ⊎ (length bytes ≤ most) → PutsInto disks m id text old new o
        go (inr small) = subst (λ (b : List ℕ). PutsInto disks m id b old new o) (read_whole most text bytes is small) puts
        go (inl more) = subst (PutsInto disks m id text old new) (sym (large more).0) (inl (subst (λ (v : View D). HasMap v m) (sym (large more).1) has, inl (longer more, refl, (large more).1)))

    pub refuses_larger : most < length text → ((o ≡ Refused TooLarge) ⊎ (o ≡ Failed)) × (new ≡ old)
    refuses_larger more =
        let some : most < length bytes = omega (arith, length-take (most + 1) text, ap length is, more) in
        (inl (large some).0, (large some).1)
