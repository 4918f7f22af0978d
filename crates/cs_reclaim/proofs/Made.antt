-- A copy that was made, and the number of the chunk.
use Rattle.std.proofs.Common.{◌≡◌, ◌∙◌, ◌∷◌, [], ℕ, ◌<◌, ◌≤◌, List, None, Option, Some, arith, length, map, ap, refl, subst, sym, true}
use Rattle.std.proofs.lemmas.List.{length-map}
use Rattle.cs_deps.specs.State.{State as GraphState}
use Rattle.cs_extent.specs.Appended.{IsAppendedBy}
use Rattle.cs_extent.specs.State.{State as ExtentsState}
use Rattle.cs_frame.specs.declared.identifiers.ShardId.{ShardId}
use Rattle.cs_frame.specs.declared.locators.Locator.{Locator}
use Rattle.cs_frame.specs.Formats.{as_locator, place_of}
use Rattle.cs_index.proofs.Living.{nth_inside}
use Rattle.cs_index.proofs.Weights.{no_more_light}
use Rattle.cs_index.proofs.Whole.{short_found_in}
use Rattle.cs_index.specs.declared.live.LiveChunk.{LiveChunk}
use Rattle.cs_index.specs.State.{IsWhole, State, id_number, index_of}
use Rattle.law_machine.specs.Apart.{FirstUncopied}
use Rattle.law_machine.specs.Element.{Copy, Locator as Place}
use Rattle.law_machine.specs.Extents.{ForMove}
use Rattle.law_machine.specs.Geometry.{weigh_in}
use Rattle.law_machine.specs.Index.{live, live_at, lookup, weight_with}
use Rattle.law_machine.specs.Lists.{nth}
use Rattle.cs_reclaim.specs.Copied.{IsCopyMade}
use Rattle.cs_reclaim.specs.Moves.{chunk_frame}
use Rattle.cs_reclaim.proofs.Living.{has_entry}

module _ (s : State) (x y : ExtentsState) (g h : GraphState) (copies after : List Copy) (e : ℕ) (live : LiveChunk) (Reads : Locator → List ℕ → Type 0) (first : FirstUncopied (index_of s) copies e (id_number live.id) live.chunk (place_of live.place)) where
  abbrev Found : Type 0
  Found = (payload : List ℕ) × (to : Locator) × IsAppendedBy true x g ForMove (chunk_frame x payload) to y h
      × (after ≡ record { id = id_number live.id; chunk = live.chunk; from = place_of live.place; to = place_of to } ∷ copies) × (to.mark ≡ live.place.mark)
      × Reads live.place payload

  abbrev Made : ShardId × ℕ → Type 0
  Made p = (payload : List ℕ) × (copy : IsCopyMade s x g copies e (id_number p.0) p.1 payload after y h) × Reads (as_locator copy.from) payload

  pub copy_made : Found → (id : ShardId) (chunk : ℕ) → ◌≡◌ {A = ShardId × ℕ} (live.id, live.chunk) (id, chunk) → Made (id, chunk)
  copy_made found id chunk is = subst Made is (
    found.0,
    record { from = place_of live.place; to = found.1; first = first; appended = found.2; mark = found.4; noted = found.3 },
    found.5,
  )

there_and_back : (ls : List Place) → map place_of (map as_locator ls) ≡ ls
there_and_back [] = refl
there_and_back (l ∷ ls) = ap (λ (ks : List Place). l ∷ ks) (there_and_back ls)

-- a chunk that lives has a number below eight
pub number_small : (s : State) (id k : ℕ) (l : Place) → IsWhole s → nth (live_at (index_of s) id) k ≡ Some l → k < 8
number_small s id k l whole at =
    let there = has_entry (lookup id (index_of s)) k l at in
    let few : length (map as_locator (live_at (index_of s) id)) ≤ 8 = short_found_in s.table s.runs id (map as_locator (live_at (index_of s) id)) whole.short whole.runs (there ∙ sym (ap Some (there_and_back (live_at (index_of s) id)))) in
    let size : length (map as_locator (live_at (index_of s) id)) ≡ length (live_at (index_of s) id) = length-map (live_at (index_of s) id) as_locator in
    let inside : k < length (live_at (index_of s) id) = nth_inside (live_at (index_of s) id) k l at in
    omega (arith, few, size, inside)

-- what has places has an entry
has_places : (o : Option (List Place)) → 1 ≤ length (live o) → o ≡ Some (live o)
has_places None some = absurd (omega (arith, some))
has_places (Some ls) some = refl

-- as many places as an identifier has are light enough
pub as_many_light : (s : State) (id n : ℕ) → IsWhole s → 1 ≤ n → length (live_at (index_of s) id) ≡ n → weight_with (weigh_in s.format) (index_of s) id n ≤ s.limit
as_many_light s id n whole some is =
    let ls = map as_locator (live_at (index_of s) id) in
    let size : length (map as_locator (live_at (index_of s) id)) ≡ n = length-map (live_at (index_of s) id) as_locator ∙ is in
    subst (λ (k : ℕ). weight_with (weigh_in s.format) (index_of s) id k ≤ s.limit) size
    (no_more_light s id ls ls whole (has_places (lookup id (index_of s)) (omega (arith, some, is)) ∙ sym (ap Some (there_and_back (live_at (index_of s) id)))) (omega arith))
