use Rattle.std.specs.Prelude.{◌≡◌, ◌≢◌, ℕ, ◌<◌, ◌≤◌, nat_eq, Some, None, slice_get}
use Rattle.std.specs.HashMap.{get as get_number, spare}
use Rattle.cs_deps.specs.Newest.{AreNewest}
use Rattle.slab.specs.Slab.{get, slab_len}
use Rattle.cs_deps.specs.declared.elements.Element.{Element}
use Rattle.cs_deps.specs.declared.levels.Kept.{Kept}
use Rattle.cs_deps.specs.declared.records.Record.{Record}
use Rattle.cs_deps.specs.Levels.{kept_by}
use Rattle.cs_deps.proofs.records.give_up.Given as goal

abbrev pub invariant-loop-k : goal.invariant-loop-k
invariant-loop-k l = record {
  less : (key : ℕ) (r : Record) → get l.records key ≡ Some r → get l.fn.records key ≡ Some r;
  gone : (i : ℕ) (x : Element) (k : Kept) → i < l.k → slice_get l.round i ≡ Some x → kept_by l.levels x ≡ Some k → get l.records k.key ≡ None;
  rest : (key : ℕ) (r : Record) → get l.fn.records key ≡ Some r → ((i : ℕ) (x : Element) (k : Kept) → i < l.k → slice_get l.round i ≡ Some x → kept_by l.levels x ≡ Some k → k.key ≢ key) → get l.records key ≡ Some r;
  count : slab_len l.records ≤ slab_len l.fn.records;
  capacity : l.records.capacity ≡ l.fn.records.capacity;
  newest : AreNewest l.fn.records (get_number nat_eq l.fn.newest) → AreNewest l.records (get_number nat_eq l.newest);
  spare : spare l.fn.newest ≤ spare l.newest;
}
