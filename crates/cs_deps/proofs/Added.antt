-- One element more in a graph: what both kinds have in common.
use Rattle.std.proofs.Common.{◌≡◌, ◌∙◌, ◌≢◌, ◌+◌, ◌<◌, ◌≤◌, ◌⊎◌, ℕ, List, [], ◌∷◌, ◌++◌, Some, None, sym, ap, inl, inr, ⊎_elim, arith}
use Rattle.std.specs.Prelude.{◌-◌, vec_len, vec_capacity}
use Rattle.std.specs.HashMap.{spare}
use Rattle.std.proofs.lemmas.Option.{same_Some}
use Rattle.slab.specs.Slab.{Slab, get, slab_len, Updates}
use Rattle.cs_deps.specs.contracts.graphs.Graph.{the_invariant}
use Rattle.cs_deps.specs.declared.elements.Element.{Element}
use Rattle.cs_deps.specs.declared.graphs.Graph.TheInside.{Inside}
use Rattle.cs_deps.specs.declared.records.Record.{Record}
use Rattle.cs_deps.specs.Named.{Named}
use Rattle.cs_deps.specs.Entries.{waiting_of}
use Rattle.cs_deps.specs.Levels.{HasRoom}
use Rattle.cs_deps.specs.Records.{AreFiled, writes_of}
use Rattle.cs_deps.specs.State.{Write, last_write}
use Rattle.cs_deps.proofs.Filed.{others_kept}
use Rattle.cs_deps.proofs.Roomy.{IsRoomy, Fits, Holds, live_in, over}
use Rattle.cs_deps.proofs.Settled.{same_family}

-- h has an entry more than m, and has taken no more than one place for it
pub record TakesOne (m h : Inside) (x : Element) (d : Named) : Type 0 where
  pub items : h.entries.list.items ≡ m.entries.list.items ++ (x, d) ∷ []
  pub floors : h.entries.floors.items ≡ m.entries.floors.items
  pub listed : vec_len h.entries.list ≡ vec_len m.entries.list + 1
  pub same_list : vec_capacity h.entries.list ≡ vec_capacity m.entries.list
  pub places : vec_len h.entries.places + 1 ≡ vec_len m.entries.places
  pub records : slab_len h.records ≤ slab_len m.records + 1
  pub same_records : h.records.capacity ≡ m.records.capacity
  pub newest : spare m.newest ≤ spare h.newest + 1
  pub levels : (n : ℕ) → HasRoom m.levels (n + 1) → HasRoom h.levels n

-- x was staged in g with this write, and needs e in all: h has the new parts
pub record IsAdded (g h : Inside) (n : ℕ) (latest : List ℕ) (room : ℕ) (x : Element) (e : Named) (w : Write) : Type 0 where
  pub held : Holds (over g h) n latest room (live_in h) h.entries.list.items h.entries.floors.items
  pub waits : waiting_of g.persistent.items (live_in h) ≡ waiting_of g.persistent.items (live_in g) ++ (x, e) ∷ []
  pub write : last_write x None (writes_of h.records.slots) ≡ Some w
  pub others : (y : Element) (u : Write) → last_write y None (writes_of h.records.slots) ≡ Some u → (last_write y None (writes_of g.records.slots) ≡ Some u) ⊎ (y ≡ x)

module _ (m h : Inside) (x : Element) (d : Named) (one : TakesOne m h x d) where
  -- the room is one less
  pub fits_left : (made : ℕ) → 0 < made → Fits m made → Fits h (made - 1)
  fits_left made some fits = record {
    list = omega (arith, fits.list, some, one.listed, one.same_list);
    places = omega (arith, fits.places, some, one.places);
    records = omega (arith, fits.records, some, one.records, one.same_records);
    newest = omega (arith, fits.newest, some, one.newest);
    levels = (let n : made - 1 + 1 ≡ made = omega (arith, some) in one.levels (made - 1) (rw n fits.levels));
  }

  pub list_now : (g : Inside) → IsRoomy g m → h.entries.list.items ≡ g.entries.list.items ++ (x, d) ∷ []
  list_now g same = one.items ∙ ap (λ es. es ++ (x, d) ∷ []) same.list

  pub floors_now : (g : Inside) → IsRoomy g m → h.entries.floors.items ≡ g.entries.floors.items
  floors_now g same = one.floors ∙ same.floors

-- a record is put under a key, and no other is new
pub others_now : (g h : Inside) (held : the_invariant g) → AreFiled h.levels h.records → (mid : Slab Record) → ((other : ℕ) (u : Record) → get mid other ≡ Some u → get g.records other ≡ Some u) → (key : ℕ) (r : Record) → Updates mid h.records key (Some r) → (y : Element) (w : Write) → last_write y None (writes_of h.records.slots) ≡ Some w → (last_write y None (writes_of g.records.slots) ≡ Some w) ⊎ (y ≡ r.element)
others_now g h held filed mid was key r up = others_kept g.levels h.levels g.records h.records held.filed filed r.element (λ other u at. ⊎_elim
    (λ (o : other ≡ key). inr (ap (λ (w : Record). w.element) (same_Some u r (sym at ∙ ap (get h.records) o ∙ up.changed))))
    (λ (ne : other ≢ key). inl (was other u (sym (up.others other ne) ∙ at)))
    (same_family key other))
