-- What is told of the shards of a map, one by one.
use Rattle.std.proofs.Common.{◌≡◌, ◌∙◌, ◌≤◌, ℕ, Bool, List, [], ◌∷◌, map, refl, ap, subst, arith}
use Rattle.std.specs.Prelude.{Err, Ok, Option}
use Rattle.std.specs.Io.KnownBytes.{Appends}
use Rattle.std.specs.List.{AllByRecursion, AllZip, list_all}
use Rattle.cs_disk.specs.Disk.{Rises}
use Rattle.cs_frame.specs.declared.identifiers.ShardId.{ShardId}
use Rattle.law_machine.specs.Element.{Map}
use Rattle.cs_tools.specs.Exports.{AreReadOf, IsCausedBy, IsReadOf, IsScript, IsToldBy, Shard, is_whole, piece_lines, shard_line}
use Rattle.cs_tools.proofs.Exporting.{Widens}

-- it is told of the shard with this identifier, with these counts of the disk's failures before and after
abbrev pub IsTold : (m : Map) → (failed failed_then : ℕ) → ShardId → Shard → Type 0
IsTold m failed failed_then id shard = (shard.0 ≡ id) × IsToldBy m shard × IsCausedBy failed failed_then shard

-- what rose between two counts rose between counts before and after them
pub rises_around : (x y z u : ℕ) → x ≤ y → z ≤ u → Rises y z → Rises x u
rises_around x y z u le le' rise = omega (arith, le, le', rise)

caused_around : (x y z u : ℕ) → x ≤ y → z ≤ u → (shard : Shard) → IsCausedBy y z shard → IsCausedBy x u shard
caused_around x y z u le le' (id, Ok bytes) caused = tt
caused_around x y z u le le' (id, Err r) caused = λ device. rises_around x y z u le le' (caused device)

pub told_around : (m : Map) → Widens (IsTold m)
told_around m x y z u id shard le le' told = (told.0, told.1, caused_around x y z u le le' shard told.2)

-- one that was read
pub one_told : (m : Map) (x y : ℕ) (id : ShardId) (whole : Bool) (a b : Option (List ℕ)) → ((shard : Shard) × IsReadOf m x y id whole shard × Appends a b (shard_line shard))
    → (shard : Shard) × IsTold m x y id shard × (whole ≡ is_whole shard) × Appends a b (shard_line shard)
one_told m x y id whole a b h = (h.0, (h.1.0, h.1.1, h.1.2), h.1.3, h.2)

-- those that were read, and back
told_selves : (m : Map) (x y : ℕ) (shards : List Shard) → AllByRecursion (IsToldBy m) shards → AllByRecursion (IsCausedBy x y) shards → AllZip (IsTold m x y) (map (λ (shard : Shard). shard.0) shards) shards
told_selves m x y [] told caused = tt
told_selves m x y (s ∷ ss) told caused = ((refl, told.0, caused.0), told_selves m x y ss told.1 caused.1)

pub each_told : (m : Map) (x y : ℕ) (ids : List ShardId) (whole : Bool) (shards : List Shard) → AreReadOf m x y ids whole shards → AllZip (IsTold m x y) ids shards
each_told m x y ids whole shards are = subst (λ (l : List ShardId). AllZip (IsTold m x y) l shards) are.ids_are (told_selves m x y shards are.each are.caused)

ids_are : (m : Map) (x y : ℕ) (ids : List ShardId) (shards : List Shard) → AllZip (IsTold m x y) ids shards → map (λ (shard : Shard). shard.0) shards ≡ ids
ids_are m x y [] [] told = refl
ids_are m x y [] (s ∷ ss) told = absurd told
ids_are m x y (id ∷ ids) [] told = absurd told
ids_are m x y (id ∷ ids) (s ∷ ss) told = ap (λ (l : List ShardId). s.0 ∷ l) (ids_are m x y ids ss told.1) ∙ ap (λ (i : ShardId). i ∷ ids) told.0.0

each_by : (m : Map) (x y : ℕ) (ids : List ShardId) (shards : List Shard) → AllZip (IsTold m x y) ids shards → AllByRecursion (IsToldBy m) shards
each_by m x y [] [] told = tt
each_by m x y [] (s ∷ ss) told = absurd told
each_by m x y (id ∷ ids) [] told = absurd told
each_by m x y (id ∷ ids) (s ∷ ss) told = (told.0.1, each_by m x y ids ss told.1)

each_caused : (m : Map) (x y : ℕ) (ids : List ShardId) (shards : List Shard) → AllZip (IsTold m x y) ids shards → AllByRecursion (IsCausedBy x y) shards
each_caused m x y [] [] told = tt
each_caused m x y [] (s ∷ ss) told = absurd told
each_caused m x y (id ∷ ids) [] told = absurd told
each_caused m x y (id ∷ ids) (s ∷ ss) told = (told.0.2, each_caused m x y ids ss told.1)

are_read : (m : Map) (x y : ℕ) (ids : List ShardId) (whole : Bool) (shards : List Shard) → AllZip (IsTold m x y) ids shards → whole ≡ list_all is_whole shards → AreReadOf m x y ids whole shards
are_read m x y ids whole shards told whole_is = record {
  ids_are = ids_are m x y ids shards told;
  each = each_by m x y ids shards told;
  caused = each_caused m x y ids shards told;
  whole_is = whole_is;
}

-- a piece that was read, and back
pub piece_told : (m : Map) (x y : ℕ) (ids : List ShardId) (whole : Bool) (a b : Option (List ℕ)) → ((shards : List Shard) × AreReadOf m x y ids whole shards × Appends a b (piece_lines shards))
    → (shards : List Shard) × AllZip (IsTold m x y) ids shards × (whole ≡ list_all is_whole shards) × Appends a b (piece_lines shards)
piece_told m x y ids whole a b h = (h.0, each_told m x y ids whole h.0 h.1, h.1.whole_is, h.2)

pub piece_read : (m : Map) (x y : ℕ) (ids : List ShardId) (whole : Bool) (a b : Option (List ℕ)) → ((shards : List Shard) × AllZip (IsTold m x y) ids shards × (whole ≡ list_all is_whole shards) × Appends a b (piece_lines shards))
    → (shards : List Shard) × AreReadOf m x y ids whole shards × Appends a b (piece_lines shards)
piece_read m x y ids whole a b h = (h.0, are_read m x y ids whole h.0 h.1 h.2, h.3)

-- and all of them
pub script_read : (m : Map) (x y : ℕ) (ids : List ShardId) (whole : Bool) (a b : Option (List ℕ))
    → ((shards : List Shard) × AllZip (IsTold m x y) ids shards × (whole ≡ list_all is_whole shards) × ((text : List ℕ) × IsScript shards text × Appends a b text))
    → (shards : List Shard) × AreReadOf m x y ids whole shards × ((text : List ℕ) × IsScript shards text × Appends a b text)
script_read m x y ids whole a b h = (h.0, are_read m x y ids whole h.0 h.1 h.2, h.3)
