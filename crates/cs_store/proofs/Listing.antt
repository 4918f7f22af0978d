-- What the index lists, and what the map has.
use Rattle.std.proofs.Common.{◌≡◌, ◌≢◌, ◌∙◌, ℕ, zero, suc, ◌<◌, List, [], ◌∷◌, None, inl, inr, arith, length, ap, sym}
use Rattle.std.specs.Prelude.{◌↔◌, AllPairs, Contains}
use Rattle.cs_disk.specs.Disk.{State as DiskState}
use Rattle.cs_extent.specs.State.{IsWhole, shape}
use Rattle.cs_frame.specs.Formats.{formats_of}
use Rattle.cs_reader.specs.Counts.{AreThose, HasCount}
use Rattle.cs_index.specs.State.{State as IndexState, index_of}
use Rattle.law_machine.proofs.Sorted.{sorted_live}
use Rattle.law_machine.specs.Element.{Entry, Map}
use Rattle.law_machine.specs.Index.{live_at}
use Rattle.law_machine.specs.Lists.{◌∈◌}
use Rattle.law_machine.specs.State.{State, map_now}
use Rattle.law_refinement.proofs.Indexes.{absent}
use Rattle.cs_reader.proofs.Living.{all_counted}
use Rattle.cs_core.specs.Views.{IsIn, View}
use Rattle.cs_inspect.specs.Listings.{AreAll, AreFirst, Rising}
use Rattle.cs_store.specs.Maps.{HasMap}
use Rattle.cs_store.proofs.Getting.{map_is}

-- an index that is shown has the entries of the store's
pub index_shown : (held shown : IndexState) → held ≡ record shown { room = 0 } → index_of shown ≡ index_of held
index_shown held shown is = sym (ap index_of is)

-- the identifiers that have places are those that the map has
pub is_there : {D : Type 0} (state : D → DiskState) (v : View D) (m : Map) (s : State) → IsWhole v.store.extents → HasMap v m → IsIn state v s
    → (id : ℕ) → (live_at (index_of v.store.index) id ≢ []) ↔ (m id ≢ None)
is_there state v m s whole has is id =
    let same : map_now s id ≡ m id = map_is state v m s whole has is id in
    let none = absent (shape v.store.extents) (formats_of (shape v.store.extents)) v.store.index s id is.store.sound is.store.parts.index in
    (λ some gone. some (none.1 (same ∙ gone)), λ there gone. there (sym same ∙ none.0 gone))

module _ (P Q : ℕ → Type 0) (same : (id : ℕ) → P id ↔ Q id) where
  pub all_alike : (ids : List ℕ) → AreAll P ids → AreAll Q ids
  all_alike ids are = record {
    rising = are.rising;
    each = λ id. (λ at. (same id).0 ((are.each id).0 at), λ q. (are.each id).1 ((same id).1 q));
  }

  pub first_alike : (from most : ℕ) (ids : List ℕ) → AreFirst P from most ids → AreFirst Q from most ids
  first_alike from most ids are = record {
    rising = are.rising;
    each = λ id at. ((are.each id at).0, (same id).0 (are.each id at).1);
    few = are.few;
    rest = λ id le q. are.rest id le ((same id).1 q);
  }

  pub count_alike : (n : ℕ) → HasCount P n → HasCount Q n
  count_alike n (ids, are, is) = (ids, record { rising = are.rising; exact = λ id. (λ at. (same id).0 ((are.exact id).0 at), λ q. (are.exact id).1 ((same id).1 q)) }, is)

-- ---- counts

rises : (ids : List ℕ) → AllPairs (λ a b. a < b) ids → Rising ids
rises [] pairs = tt
rises (x ∷ []) pairs = tt
rises (x ∷ y ∷ ids) pairs = (pairs 0 1 0 (omega arith) (omega arith), rises (y ∷ ids) (λ i j d lt inside. pairs (suc i) (suc j) d (omega (arith, lt)) (omega (arith, inside))))

among : (ids : List ℕ) (id : ℕ) → Contains ids id → id ∈ ids
among [] id (k, lt, at) = absurd (let l : k < 0 = lt in omega arith)
among (x ∷ ids) id (zero, lt, at) = inl (sym at)
among (x ∷ ids) id (suc k, lt, at) = let l : suc k < suc (length ids) = lt in inr (among ids id (k, omega (arith, l), at))

contained : (ids : List ℕ) (id : ℕ) → id ∈ ids → Contains ids id
contained [] id at = absurd at
contained (x ∷ ids) id (inl is) = (0, (let l : 0 < suc (length ids) = omega arith in l), sym is)
contained (x ∷ ids) id (inr more) = let rest = contained ids id more in (suc rest.0, (let l : suc rest.0 < suc (length ids) = omega (arith, rest.1) in l), rest.2)

all_of_those : (P : ℕ → Type 0) (ids : List ℕ) → AreThose P ids → AreAll P ids
all_of_those P ids are = record {
  rising = rises ids are.rising;
  each = λ id. (λ at. (are.exact id).0 (contained ids id at), λ p. among ids id ((are.exact id).1 p));
}

-- as many as any list of all of them has
pub counted_so : (index : List Entry) (n : ℕ) → ((ids : List ℕ) → AreAll (λ id. live_at index id ≢ []) ids → n ≡ length ids) → HasCount (λ id. live_at index id ≢ []) n
counted_so index n told =
    let all = sorted_live index in
    let has = all_counted index all.0 (all.1, all.2) in
    (has.0, has.1, sym (told has.0 (all_of_those (λ id. live_at index id ≢ []) has.0 has.1)))
