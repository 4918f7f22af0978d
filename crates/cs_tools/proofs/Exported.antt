-- What is exported is what the map has.
use Rattle.std.proofs.Common.{◌≡◌, ◌≢◌, ◌∙◌, ◌<◌, ℕ, Bool, true, false, List, [], ◌∷◌, None, map, inl, inr, refl, sym, subst, ⊎_elim, length, arith}
use Rattle.std.specs.Prelude.{Option, Ok, Err}
use Rattle.std.specs.Io.KnownBytes.{Appends}
use Rattle.std.specs.List.{AllByRecursion}
use Rattle.cs_core.specs.Lookups.{IsReading}
use Rattle.cs_core.specs.Views.{IsIn, View}
use Rattle.cs_core.proofs.Looking.{contained}
use Rattle.cs_disk.specs.Disk.{State as DiskState}
use Rattle.cs_extent.specs.State.{IsWhole}
use Rattle.cs_frame.specs.declared.identifiers.ShardId.{ShardId}
use Rattle.cs_index.specs.State.{State as Index, id_number, index_of}
use Rattle.law_machine.specs.Element.{Content, Map}
use Rattle.law_machine.specs.Index.{live_at}
use Rattle.law_machine.specs.Lists.{◌∈◌}
use Rattle.law_machine.specs.State.{State, map_now}
use Rattle.cs_store.specs.Maps.{HasMap}
use Rattle.cs_store.proofs.Getting.{map_is}
use Rattle.cs_inspect.specs.Listings.{AreFirst}
use Rattle.cs_tools.specs.Exports.{AreAllFrom, AreReadOf, IsExported, IsScript, IsToldBy, Shard}
use Rattle.cs_tools.proofs.Exporting.{all_mapped}

-- ---- what is live is in the map

module _ {D : Type 0} (state : D → DiskState) (v : View D) (s : State) (is : IsIn state v s) where
  live_there : (id : ℕ) → live_at (index_of v.store.index) id ≢ [] → map_now s id ≢ None
  live_there id some = (contained state {v = v} id true s is some).0 refl

  there_live : (id : ℕ) → map_now s id ≢ None → live_at (index_of v.store.index) id ≢ []
  there_live id there none = let no : false ≡ true = (contained state {v = v} id false s is none).1 there in cc no

  all_there : (m : Map) → ((id : ℕ) → map_now s id ≡ m id) → (from : ℕ) (ids : List ℕ) → AreAllFrom (λ id. live_at (index_of v.store.index) id ≢ []) from ids → AreAllFrom (λ id. m id ≢ None) from ids
  all_there m same from ids all = record {
    rising = all.rising;
    each = λ id. (
      (λ member. let here = (all.each id).0 member in (here.0, λ none. live_there id here.1 (same id ∙ none))),
      (λ there. (all.each id).1 (there.0, there_live id (λ none. there.1 (sym (same id) ∙ none)))),
    );
  }

-- the first so many from one on are all, where they are fewer
pub all_from : (is_there : ℕ → Type 0) (from most : ℕ) (ids : List ℕ) → length ids < most → AreFirst is_there from most ids → AreAllFrom is_there from ids
all_from is_there from most ids few are = record {
  rising = are.rising;
  each = λ id. (
    (λ member. are.each id member),
    (λ there. ⊎_elim
        (λ (member : id ∈ ids). member)
        (λ (full : (length ids ≡ most) × ((x : ℕ) → x ∈ ids → x < id)). let is : length ids ≡ most = full.0 in absurd (omega (arith, is, few)))
        (are.rest id there.0 there.1)),
  );
}

-- each is one of them
pub all_members : (P : ℕ → Type 0) (ids : List ShardId) → ((id : ℕ) → id ∈ map id_number ids → P id) → AllByRecursion (λ id. P (id_number id)) ids
all_members P [] each = tt
all_members P (id ∷ ids) each = (each (id_number id) (inl refl), all_members P ids (λ x member. each x (inr member)))

-- ---- with the same map

told_same : (m n : Map) → ((id : ℕ) → m id ≡ n id) → (shard : Shard) → IsToldBy m shard → IsToldBy n shard
told_same m n same (id, Ok bytes) told = sym (same (id_number id)) ∙ told
told_same m n same (id, Err r) told = subst (λ (content : Option Content). IsReading content (Err r)) (same (id_number id)) told

read_same : (m n : Map) (x y : ℕ) → ((id : ℕ) → m id ≡ n id) → (ids : List ShardId) (whole : Bool) (shards : List Shard) → AreReadOf m x y ids whole shards → AreReadOf n x y ids whole shards
read_same m n x y same ids whole shards are = record {
  ids_are = are.ids_are;
  each = all_mapped (IsToldBy m) (IsToldBy n) (told_same m n same) shards are.each;
  caused = are.caused;
  whole_is = are.whole_is;
}

-- the script was written out
exported : {D : Type 0} (state : D → DiskState) (v : View D) (m : Map) (from x y : ℕ) (s : State) → IsWhole v.store.extents → HasMap v m → IsIn state v s
    → (ids : List ShardId) → AreAllFrom (λ id. live_at (index_of v.store.index) id ≢ []) from (map id_number ids) → (whole : Bool) (a b : Option (List ℕ))
    → ((shards : List Shard) × AreReadOf (map_now s) x y ids whole shards × ((text : List ℕ) × IsScript shards text × Appends a b text)) → IsExported m from x y a b whole
exported state v m from x y s extents has is ids all whole a b h =
    let same : (id : ℕ) → map_now s id ≡ m id = map_is state v m s extents has is in
    record {
      ids = ids;
      all = all_there state v s is m same from (map id_number ids) all;
      shards = h.0;
      are = read_same (map_now s) m x y same ids whole h.0 h.1;
      text = h.2.0;
      script = h.2.1;
      written = h.2.2;
    }

-- with the identifiers that an index lists, which is the store's but for its room
pub exported_listed : {D : Type 0} (state : D → DiskState) (v : View D) (m : Map) (from x y : ℕ) (s : State) → IsWhole v.store.extents → HasMap v m → IsIn state v s
    → (index : Index) → v.store.index ≡ record index { room = 0 } → (listed ids : List ShardId) → ids ≡ listed → AreAllFrom (λ id. live_at (index_of index) id ≢ []) from (map id_number listed)
    → (whole : Bool) (a b : Option (List ℕ))
    → (AllByRecursion (λ id. live_at (index_of v.store.index) (id_number id) ≢ []) ids
    → (shards : List Shard) × AreReadOf (map_now s) x y ids whole shards × ((text : List ℕ) × IsScript shards text × Appends a b text)) → IsExported m from x y a b whole
exported_listed state v m from x y s extents has is index same listed ids given all whole a b h =
    let there = subst (λ (i : Index). AreAllFrom (λ id. live_at (index_of i) id ≢ []) from (map id_number ids)) (sym same) (subst (λ (l : List ShardId). AreAllFrom (λ id. live_at (index_of index) id ≢ []) from (map id_number l)) (sym given) all) in
    exported state v m from x y s extents has is ids there whole a b (h (all_members (λ id. live_at (index_of v.store.index) id ≢ []) ids (λ id member. ((there.each id).0 member).1)))
