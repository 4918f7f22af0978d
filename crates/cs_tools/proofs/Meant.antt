-- What is exported is what places mean, whatever the disk did.
use Rattle.std.proofs.Common.{◌≡◌, ◌≢◌, ◌&&◌, ◌<◌, ◌≤◌, ◌+◌, ℕ, Bool, List, [], ◌++◌, get_or, length, map, take, sym, subst}
use Rattle.std.specs.Prelude.{Err, Ok, Option, min}
use Rattle.std.specs.Io.KnownBytes.{Appends}
use Rattle.std.specs.List.{AllByRecursion, AllZip, list_all}
use Rattle.cs_core.specs.Stored.{Stored}
use Rattle.cs_frame.specs.declared.identifiers.ShardId.{ShardId}
use Rattle.cs_index.specs.State.{State as Index, id_number, index_of}
use Rattle.law_machine.specs.Index.{live_at}
use Rattle.cs_tools.specs.Exports.{AreAllFrom, IsMeantExport, IsMeantOf, IsScript, Shard, is_whole, piece_lines, shard_line}
use Rattle.cs_tools.proofs.Exported.{all_members}
use Rattle.cs_tools.proofs.Retelling.{rises_around}
use Rattle.cs_tools.proofs.Exporting.{ArePrinted, IsPrintedUpTo, Widens, all_at, piece_of, piece_printed, shard_printed}

-- the index has places of the shard with this identifier
abbrev pub IsLive : Stored → ShardId → Type 0
IsLive v id = live_at (index_of v.index) (id_number id) ≢ []

of_wider : (v : Stored) → Widens (IsMeantOf v)
of_wider v x y z u id (told_id, Ok bytes) le le' told = told
of_wider v x y z u id (told_id, Err r) le le' told = (told.0, λ device. rises_around x y z u le le' (told.1 device))

-- one shard more, of a store that is as it was
pub shard_meant : (v w : Stored) (x y z : ℕ) → x ≤ y → y ≤ z → w ≡ v → (ids : List ShardId) (i : ℕ) (d : ShardId) (whole read : Bool) (a b c : Option (List ℕ)) → i < length ids → AllByRecursion (IsLive v) ids
    → ArePrinted (IsMeantOf v x y) (take i ids) whole a b
    → (IsLive w (get_or ids i d) → (shard : Shard) × IsMeantOf w y z (get_or ids i d) shard × (read ≡ is_whole shard) × Appends b c (shard_line shard))
    → ArePrinted (IsMeantOf v x z) (take (i + 1) ids) (whole && read) a c
shard_meant v w x y z le le' same ids i d whole read a b c lt live so_far line =
    shard_printed (IsMeantOf v) (of_wider v) x y z ids i d whole read a b c le le' lt so_far
    (subst (λ (s : Stored). IsLive s (get_or ids i d) → (shard : Shard) × IsMeantOf s y z (get_or ids i d) shard × (read ≡ is_whole shard) × Appends b c (shard_line shard)) same line
    (all_at (IsLive v) ids i d lt live))

-- and one piece more
pub piece_meant : (v w : Stored) (x y z : ℕ) → x ≤ y → y ≤ z → w ≡ v → (size : ℕ) (ids rest piece left : List ShardId) (whole read : Bool) (a b c : Option (List ℕ)) → size ≡ 1000 → AllByRecursion (IsLive v) ids
    → IsPrintedUpTo (IsMeantOf v x y) ids rest whole a b → rest ≡ piece ++ left → length piece ≡ min size (length rest) → 0 < length rest
    → (AllByRecursion (IsLive w) piece → (shards : List Shard) × AllZip (IsMeantOf w y z) piece shards × (read ≡ list_all is_whole shards) × Appends b c (piece_lines shards))
    → IsPrintedUpTo (IsMeantOf v x z) ids left (whole && read) a c
piece_meant v w x y z le le' same size ids rest piece left whole read a b c is live so_far begins taken some lines =
    piece_printed (IsMeantOf v) (of_wider v) x y z size ids rest piece left whole read a b c le le' is so_far begins taken some
    (subst (λ (s : Stored). AllByRecursion (IsLive s) piece → (shards : List Shard) × AllZip (IsMeantOf s y z) piece shards × (read ≡ list_all is_whole shards) × Appends b c (piece_lines shards)) same lines
    (piece_of (IsLive v) (IsMeantOf v x y) ids rest piece left whole a b so_far begins live))

-- the script of what an index lists, which is the store's but for its room
pub meant_listed : (v : Stored) (from x y : ℕ) (index : Index) → v.index ≡ record index { room = 0 } → (listed ids : List ShardId) → ids ≡ listed → AreAllFrom (λ id. live_at (index_of index) id ≢ []) from (map id_number listed)
    → (whole : Bool) (a b : Option (List ℕ))
    → (AllByRecursion (IsLive v) ids → (shards : List Shard) × AllZip (IsMeantOf v x y) ids shards × (whole ≡ list_all is_whole shards) × ((text : List ℕ) × IsScript shards text × Appends a b text))
    → IsMeantExport v from x y a b whole
meant_listed v from x y index same listed ids given all whole a b told =
    let there = subst (λ (i : Index). AreAllFrom (λ id. live_at (index_of i) id ≢ []) from (map id_number ids)) (sym same) (subst (λ (l : List ShardId). AreAllFrom (λ id. live_at (index_of index) id ≢ []) from (map id_number l)) (sym given) all) in
    let h = told (all_members (λ id. live_at (index_of v.index) id ≢ []) ids (λ id member. ((there.each id).0 member).1)) in
    record { ids = ids; all = there; shards = h.0; told = h.1; whole_is = h.2; text = h.3.0; script = h.3.1; written = h.3.2 }
