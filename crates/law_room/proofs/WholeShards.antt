-- Where no shard is damaged no chunk that lives is.
use Rattle.std.proofs.Common.{◌≡◌, ◌≢◌, inl, inr, ℕ, ◌+◌, ◌-◌, ◌≤◌, List, [], ◌∷◌, length, Option, Some, None, sym, ap, ◌∙◌, subst, arith}
use Rattle.law_machine.proofs.Meant.{none_for}
use Rattle.law_machine.proofs.Frozen.{damage_stays, reach_fits, reach_now, within_now}
use Rattle.law_machine.specs.Device.{IsShape, Page, Shape}
use Rattle.law_machine.specs.Element.{Content, Damaged, Locator, Opening}
use Rattle.law_machine.specs.Events.{newest_page}
use Rattle.law_machine.specs.Formats.{ChunkFrame, Formats}
use Rattle.law_machine.specs.Frames.{IsFormat}
use Rattle.law_machine.specs.Index.{NoneDamaged, Reads, ReadsAs, Value, after, live, live_at, lookup}
use Rattle.law_machine.specs.Lists.{◌∈◌}
use Rattle.law_machine.specs.Refusal.{Refusal}
use Rattle.law_machine.specs.Sound.{Sound}
use Rattle.law_machine.specs.State.{State, index_now, map_now}

module _ (S : Shape) (F : Formats) where
  module _ (opening : Opening) (img : ℕ → Page) (p g : ℕ → ℕ) where
    -- each chunk of a shard that isn't damaged is read
    chunk_read : (ls : List Locator) (content : Content) → ((f : Refusal) → content ≢ Damaged f)
        → ReadsAs S F opening img p g ls content → (l : Locator) → l ∈ ls
        → (chunk : List ℕ) × Reads S F opening img p g l (F.frame ChunkFrame chunk)
    chunk_read [] content whole reads l none = absurd none
    chunk_read (x ∷ ls) content whole (inr (f, bad, is)) l there = absurd (whole f is)
    chunk_read (x ∷ ls) content whole (inl (chunk, rest, reads, more, is)) l (inl same) =
        (chunk, subst (λ (k : Locator). Reads S F opening img p g k (F.frame ChunkFrame chunk)) (sym same) reads)
    chunk_read (x ∷ ls) content whole (inl (chunk, rest, reads, more, is)) l (inr there) =
        chunk_read ls rest (λ f bad. whole f (is ∙ ap (after (F.body chunk)) bad)) more l there

    value_read : (o : Option (List Locator)) (v : Option Content) → ((f : Refusal) → v ≢ Some (Damaged f))
        → Value S F opening img p g o v → (l : Locator) → l ∈ live o
        → (chunk : List ℕ) × Reads S F opening img p g l (F.frame ChunkFrame chunk)
    value_read None v whole value l none = absurd none
    value_read (Some []) v whole value l none = absurd none
    value_read (Some (x ∷ ls)) v whole (content, reads, is) l there =
        chunk_read (x ∷ ls) content (λ f bad. whole f (is ∙ ap (λ (c : Content). Some c) bad)) reads l there

  pub none_damaged : (shape : IsShape S) → IsFormat S F → (s : State) → Sound S F s → NoneDamaged (map_now s) → (id : ℕ)
      (l : Locator) → l ∈ live_at (index_now s) id → (f : Refusal) → s.opening.damage l ≢ Some f
  none_damaged shape format s sound whole id l there f bad =
      let found = value_read s.opening (newest_page s) s.world.extents.pointer s.world.extents.generation
      (lookup id (index_now s)) (map_now s id) (whole id) (sound.gives.values id) l there in
      let reach : l.page + length (F.frame ChunkFrame found.0) ≤ reach_now S F s sound l =
      within_now S F s sound l (F.frame ChunkFrame found.0) found.1 in
      let end : reach_now S F s sound l ≤ S.pages = reach_fits S F s sound l in
      let none : None ≡ Some f = sym (none_for S F format (newest_page s) l.extent l.page (reach_now S F s sound l - l.page)
      ChunkFrame found.0 l.mark (omega arith) (omega arith) found.1.stand found.1.marked found.1.long)
      ∙ damage_stays S F shape s sound l f bad found.1.passes in cc
