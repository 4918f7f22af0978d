-- Live chunks begin inside the extents, and an index has one list of them.
use Rattle.std.proofs.Common.{◌≡◌, ◌∙◌, inl, inr, ℕ, suc, List, [], ◌∷◌, map, refl, sym, ap, subst}
use Rattle.std.specs.List.{AllByRecursion}
use Rattle.cs_extent.specs.State.{State as Extents}
use Rattle.cs_index.specs.declared.live.LiveChunk.{LiveChunk}
use Rattle.cs_index.specs.State.{State as Index, index_of}
use Rattle.cs_index.proofs.Merged.{merged_live, merged_one}
use Rattle.cs_index.proofs.Sorted.{all_append}
use Rattle.law_machine.proofs.Counting.{ascending_lookup}
use Rattle.law_machine.specs.Device.{Inside, Shape}
use Rattle.law_machine.specs.Element.{Entry, Locator as Place}
use Rattle.law_machine.specs.Index.{live, live_at}
use Rattle.law_machine.specs.Lists.{◌∈◌}
use Rattle.cs_inspect.specs.Chunks.{AreLiveChunks, BeginsInside, Chunk, chunk_of, chunks_from, chunks_of}
use Rattle.cs_inspect.specs.Uses.{AreRead, Head, heads_of}

pub live_chunks_one : (index : List Entry) (a b : List Chunk) → AreLiveChunks index a → AreLiveChunks index b → a ≡ b
live_chunks_one index a b one two = one.2 ∙ ap (λ (xs : List Entry). chunks_of xs) (merged_one index one.0 two.0 one.1 two.1) ∙ sym two.2

-- what was read of the chunks that were found was read of any list of all
pub read_of : (x : Extents) (view : ℕ → List ℕ) (index held : Index) (found slice : List LiveChunk) (chunks : List Chunk) (before after : ℕ) (read : List Head) → index ≡ record held { room = 0 } → slice ≡ found
    → AreLiveChunks (index_of held) (map chunk_of found) → AreLiveChunks (index_of index) chunks
    → AreRead before after (heads_of x view (map chunk_of slice)) read → AreRead before after (heads_of x view chunks) read
read_of x view index held found slice chunks before after read same sliced all live =
    subst (λ (cs : List Chunk). AreRead before after (heads_of x view cs) read)
    (ap (λ (cs : List LiveChunk). map chunk_of cs) sliced
    ∙ live_chunks_one (index_of held) (map chunk_of found) chunks all (subst (λ (i : Index). AreLiveChunks (index_of i) chunks) same live))

module _ (S : Shape) where
  from_inside : (id k : ℕ) (ls : List Place) → ((l : Place) → l ∈ ls → Inside S l.extent l.page) → AllByRecursion (BeginsInside S) (chunks_from id k ls)
  from_inside id k [] inside = tt
  from_inside id k (l ∷ ls) inside = (inside l (inl refl), from_inside id (suc k) ls (λ m has. inside m (inr has)))

  of_inside : (xs : List Entry) → ((x : Entry) → x ∈ xs → (l : Place) → l ∈ x.locators → Inside S l.extent l.page) → AllByRecursion (BeginsInside S) (chunks_of xs)
  of_inside [] inside = tt
  of_inside (x ∷ xs) inside =
      all_append (BeginsInside S) (chunks_from x.id 0 x.locators) (chunks_of xs) (from_inside x.id 0 x.locators (inside x (inl refl))) (of_inside xs (λ y has. inside y (inr has)))

  -- all chunks begin inside where all live places lie inside
  pub begin_inside : (index : List Entry) (chunks : List Chunk) → ((id : ℕ) (l : Place) → l ∈ live_at index id → Inside S l.extent l.page) → AreLiveChunks index chunks
      → AllByRecursion (BeginsInside S) chunks
  begin_inside index chunks inside are = subst (AllByRecursion (BeginsInside S)) (sym are.2) (of_inside are.0 (λ x has l at.
      inside x.id l (subst (λ (ls : List Place). l ∈ ls) (sym (ap live (ascending_lookup are.0 x are.1.0 has)) ∙ merged_live index are.0 are.1 x.id) at)))
