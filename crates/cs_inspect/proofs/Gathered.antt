-- Gathering the chunks of all shards, shard by shard.
use Rattle.std.proofs.Common.{◌≡◌, ◌∙◌, ◌++◌, ◌∷◌, ℕ, List, [], Option, None, Some, refl, sym, ap, append_assoc, append-nil}
use Rattle.cs_index.proofs.Merged.{merged_end, merged_start, merged_step}
use Rattle.cs_index.specs.Sorted.{IsMergedTo, live_entry}
use Rattle.cs_index.specs.State.{IsNext}
use Rattle.law_machine.specs.Element.{Entry, Locator as Place}
use Rattle.cs_inspect.specs.Chunks.{AreLiveChunks, Chunk, chunks_from, chunks_of}

-- all chunks of what is live up to an identifier
abbrev pub AreGathered : (index : List Entry) → (after : Option ℕ) → List Chunk → Type 0
AreGathered index after chunks = (entries : List Entry) × IsMergedTo index after entries × (chunks ≡ chunks_of entries)

pub gathered_none : (index : List Entry) → AreGathered index None []
gathered_none index = ([], merged_start index, refl)

chunks_live : (id : ℕ) (ls : List Place) → chunks_of (live_entry id ls) ≡ chunks_from id 0 ls
chunks_live id [] = refl
chunks_live id (l ∷ ls) = append-nil (chunks_from id 0 (l ∷ ls))

chunks_append : (xs ys : List Entry) → chunks_of (xs ++ ys) ≡ chunks_of xs ++ chunks_of ys
chunks_append [] ys = refl
chunks_append (x ∷ xs) ys = ap (λ (cs : List Chunk). chunks_from x.id 0 x.locators ++ cs) (chunks_append xs ys) ∙ sym (append_assoc (chunks_from x.id 0 x.locators) (chunks_of xs) (chunks_of ys))

-- one shard more
pub gathered_step : (index : List Entry) (after : Option ℕ) (chunks new : List Chunk) (id : ℕ) (ls : List Place) → AreGathered index after chunks
    → IsNext index after (Some (record { id = id; locators = ls })) → new ≡ chunks ++ chunks_from id 0 ls → AreGathered index (Some id) new
gathered_step index after chunks new id ls was next is = (
  was.0 ++ live_entry id ls,
  merged_step index was.0 after id ls was.1 next,
  is ∙ ap (λ (cs : List Chunk). cs ++ chunks_from id 0 ls) was.2
      ∙ ap (λ (cs : List Chunk). chunks_of was.0 ++ cs) (sym (chunks_live id ls)) ∙ sym (chunks_append was.0 (live_entry id ls)),
)

pub gathered_all : (index : List Entry) (after : Option ℕ) (chunks : List Chunk) → AreGathered index after chunks → IsNext index after None → AreLiveChunks index chunks
gathered_all index after chunks was none = (was.0, merged_end index was.0 after was.1 none, was.2)
