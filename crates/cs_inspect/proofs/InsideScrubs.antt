-- All live chunks begin on extents.
use Rattle.std.proofs.Common.{refl, ◌≡◌, ◌∙◌, ⊎_elim, inl, inr, ℕ, suc, List, [], ◌∷◌, sym, ap, subst}
use Rattle.cs_index.proofs.Merged.{merged_live}
use Rattle.law_machine.proofs.Distinct.{in_either}
use Rattle.law_machine.proofs.Counting.{ascending_lookup}
use Rattle.law_machine.specs.Element.{Entry, Locator as Place}
use Rattle.law_machine.specs.Index.{live, live_at}
use Rattle.law_machine.specs.Lists.{◌∈◌}
use Rattle.cs_inspect.specs.Chunks.{AreLiveChunks, Chunk, chunks_from, chunks_of}

in_chunks_from : (id k : ℕ) (ls : List Place) (c : Chunk) → c ∈ chunks_from id k ls → (c.id ≡ id) × (c.place ∈ ls)
in_chunks_from id k [] c has = absurd has
in_chunks_from id k (l ∷ ls) c (inl same) = (ap (λ (d : Chunk). d.id) same, inl (ap (λ (d : Chunk). d.place) same))
in_chunks_from id k (l ∷ ls) c (inr more) = let rest = in_chunks_from id (suc k) ls c more in (rest.0, inr rest.1)

-- a chunk is one of an entry
abbrev IsOfEntry : List Entry → Chunk → Type 0
IsOfEntry xs c = (x : Entry) × (x ∈ xs) × (c.id ≡ x.id) × (c.place ∈ x.locators)

one_entry : (x : Entry) (xs : List Entry) (c : Chunk) → c ∈ chunks_from x.id 0 x.locators → IsOfEntry (x ∷ xs) c
one_entry x xs c here = let at = in_chunks_from x.id 0 x.locators c here in (x, inl refl, at.0, at.1)

more_entries : (x : Entry) (xs : List Entry) (c : Chunk) → IsOfEntry xs c → IsOfEntry (x ∷ xs) c
more_entries x xs c at = (at.0, inr at.1, at.2, at.3)

in_chunks_of : (xs : List Entry) (c : Chunk) → c ∈ chunks_of xs → IsOfEntry xs c
in_chunks_of [] c has = absurd has
in_chunks_of (x ∷ xs) c has = ⊎_elim
    (λ (here : c ∈ chunks_from x.id 0 x.locators). one_entry x xs c here)
    (λ (more : c ∈ chunks_of xs). more_entries x xs c (in_chunks_of xs c more))
    (in_either (chunks_from x.id 0 x.locators) (chunks_of xs) c has)

-- and is one of what its shard has
pub in_live : (index : List Entry) (chunks : List Chunk) → AreLiveChunks index chunks → (c : Chunk) → c ∈ chunks → c.place ∈ live_at index c.id
in_live index chunks are c has =
    let at = in_chunks_of are.0 c (subst (λ (cs : List Chunk). c ∈ cs) are.2 has) in
    let found : live_at are.0 c.id ≡ at.0.locators = ap (live_at are.0) at.2 ∙ ap live (ascending_lookup are.0 at.0 are.1.0 at.1) in
    subst (λ (ls : List Place). c.place ∈ ls) (sym found ∙ merged_live index are.0 are.1 c.id) at.3
