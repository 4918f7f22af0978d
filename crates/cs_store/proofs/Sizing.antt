-- What is told of a shard's size, in the words of its clauses.
use Rattle.std.proofs.Common.{◌≡◌, ◌∙◌, ℕ, List, Option, Ok, Err, ap, sym, subst}
use Rattle.cs_chunk.specs.Reads.{IsCaused}
use Rattle.cs_refusal.specs.declared.refusals.Refusal.{Refusal}
use Rattle.cs_disk.specs.Disk.{Rises}
use Rattle.cs_extent.specs.State.{State as ExtentsState}
use Rattle.cs_frame.specs.declared.locators.Locator.{Locator}
use Rattle.law_machine.specs.Element.{Content}
use Rattle.cs_core.specs.Lookups.{IsSaid, IsSize}
use Rattle.cs_store.specs.declared.sizes.SizeError.{SizeError}
use Rattle.cs_store.specs.declared.sizes.SizeError.TheVariants.{DeviceFault}
use Rattle.cs_store.specs.Sizes.{IsSaidByHeaders, IsSized, size_refusal}

pub sized : (content content' : Option Content) (found : Option ℕ) → content' ≡ content → IsSize content' (Ok found) → IsSized content (Ok found)
sized content content' found is told = subst (λ (c : Option Content). IsSize c (Ok found)) is told

pub sized_not : (content content' : Option Content) (r : Refusal) (e : SizeError) → content' ≡ content → size_refusal e ≡ r → IsSize content' (Err r) → IsSized content (Err e)
sized_not content content' r e is same told =
    subst (λ (c : Option Content). IsSize c (Err (size_refusal e))) is (subst (λ (x : Refusal). IsSize content' (Err x)) (sym same) told)

pub said_not : (x : ExtentsState) (view : ℕ → List ℕ) (places : List Locator) (r : Refusal) (e : SizeError) → size_refusal e ≡ r → IsSaid x view places (Err r) → IsSaidByHeaders x view places (Err e)
said_not x view places r e same said = subst (λ (p : Refusal). IsSaid x view places (Err p)) (sym same) said

-- what was told as a device fault is one
pub size_cause : {T : Type 0} (before after : ℕ) (r : Refusal) (e : SizeError) → IsCaused {T = T} before after (Err r) → size_refusal e ≡ r → e ≡ DeviceFault → Rises before after
size_cause before after r e caused told device = caused.failed (ap Err (sym told ∙ ap size_refusal device))
