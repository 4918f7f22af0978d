use Rattle.std.proofs.Common.{◌≡◌, ◌<◌, ◌≤◌, ℕ, get_or}
use Rattle.cs_salvage.specs.declared.parts.Part.{Part}
use Rattle.cs_salvage.specs.Shards.{put_of}
use Rattle.cs_salvage.proofs.whole_shards.end_of_put.Given as goal

abbrev pub invariant-loop-end : goal.invariant-loop-end
invariant-loop-end l = record {
  own : (k : ℕ) (d : Part) → l.start ≤ k → k < l.end → put_of (get_or l.parts k d) ≡ put_of (get_or l.parts l.start d);
  first : (d : Part) → put_of (get_or l.parts l.start d) ≡ l.put;
}
