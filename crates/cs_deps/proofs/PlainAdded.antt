-- A plain write is staged: what its graph keeps then.
use Rattle.std.proofs.Common.{◌≡◌, ◌∙◌, ◌+◌, ℕ, List, [], ◌∷◌, ◌++◌, Option, Some, None, refl, sym, ap, arith, ◌≤◌}
use Rattle.std.specs.Prelude.{◌-◌, ◌==◌, if◌then◌else◌, nat_eq, option_map}
use Rattle.std.specs.HashMap.{get as get_number}
use Rattle.slab.specs.Slab.{get, Updates}
use Rattle.cs_deps.specs.contracts.graphs.Graph.{the_invariant}
use Rattle.cs_deps.specs.declared.elements.Element.{Element}
use Rattle.cs_deps.specs.declared.elements.Element.TheVariants.{Plain}
use Rattle.cs_deps.specs.declared.graphs.Graph.TheInside.{Inside}
use Rattle.cs_deps.specs.declared.records.Record.{Record}
use Rattle.cs_deps.specs.Named.{Named}
use Rattle.cs_deps.specs.Newest.{number_or_none}
use Rattle.cs_deps.specs.Records.{AreFiled, writes_of}
use Rattle.cs_deps.specs.Entries.{waiting_of}
use Rattle.cs_deps.specs.Levels.{live_of, IsPlainPushed}
use Rattle.cs_deps.proofs.Added.{TakesOne, IsAdded, fits_left, list_now, floors_now, others_now}
use Rattle.cs_deps.proofs.Entries.{whole_plain, current_plain, waiting_plain}
use Rattle.cs_deps.proofs.Filed.{record_write}
use Rattle.cs_deps.proofs.FiledSteps.{filed_plain}
use Rattle.cs_deps.proofs.Held.{MayBeAdded, roomy, whole_roomy, indexed_roomy, low_enough}
use Rattle.cs_deps.proofs.Live.{live_plain, plains_push}
use Rattle.cs_deps.proofs.Noted.{newest_more, put_low}
use Rattle.cs_deps.proofs.PlainStaged.{indexed_plain}
use Rattle.cs_deps.proofs.Roomy.{Fits, live_in, over, holds, live_is, same_key, filed_roomy, newest_roomy}

module _ (g : Inside) (held : the_invariant g) (m : Inside) (made : ℕ) (d : Named) (level : ℕ) (before : Option Element) (may : MayBeAdded g m made d level before) (h : Inside) (one : TakesOne m h (Plain (g.staged + 1)) d)
    (key : ℕ) (pushes : (i : ℕ) → m.levels.ended + i ≡ level → IsPlainPushed m.levels h.levels g.staged i before key) (free : get m.records key ≡ None)
    (page : ℕ) (bytes : List ℕ) (older : ℕ) (up : Updates m.records h.records key (Some (record { element = Plain (g.staged + 1); page = page; bytes = bytes; older = older })))
    (last : older ≡ number_or_none (get_number nat_eq m.newest page)) (noted : (q : ℕ) → get_number nat_eq h.newest q ≡ (if page == q then Some (g.staged + 1) else get_number nat_eq m.newest q)) where
  abbrev r : Record
  r = record { element = Plain (g.staged + 1); page = page; bytes = bytes; older = older }

  low : m.levels.ended ≤ level
  low = low_enough g held m made d level before may

  place : m.levels.ended + (level - m.levels.ended) ≡ level
  place = omega (arith, low)

  filed : AreFiled h.levels h.records
  filed = filed_plain (roomy g held m made d level before may) m.levels (indexed_roomy g held m made d level before may) d (whole_roomy g held m made d level before may) may.within level before may.best h.levels key (level - m.levels.ended) place (pushes (level - m.levels.ended) place) m.records h.records (filed_roomy g held m may.same) free r up refl

  live : live_of h.levels g.entries.floors.items (g.entries.list.items ++ (Plain (g.staged + 1), d) ∷ []) ≡ live_in g ++ (Plain (g.staged + 1), d) ∷ []
  live = live_plain g.levels m.levels may.same.levels h.levels g.entries.floors.items g.entries.list.items g.staged level key before d low pushes held.plains

  list_is : h.entries.list.items ≡ g.entries.list.items ++ (Plain (g.staged + 1), d) ∷ []
  list_is = list_now m h (Plain (g.staged + 1)) d one g may.same

  floors_is : h.entries.floors.items ≡ g.entries.floors.items
  floors_is = floors_now m h (Plain (g.staged + 1)) d one g may.same

  left : Fits h (made - 1)
  left = fits_left m h (Plain (g.staged + 1)) d one made may.some may.fits

  pub plain_added : IsAdded g h (g.staged + 1) g.latest.items (made - 1) (Plain (g.staged + 1)) d (page, bytes)
  plain_added = record {
    held = holds (over g h) (g.staged + 1) g.latest.items (made - 1) (live_in g ++ (Plain (g.staged + 1), d) ∷ []) (g.entries.list.items ++ (Plain (g.staged + 1), d) ∷ []) g.entries.floors.items list_is floors_is live (record {
      whole = whole_plain g.persistent.items (live_in g) g.staged g.latest.items (option_map (λ r. r.items) g.round) (writes_of g.records.slots) g.room (made - 1) d (writes_of h.records.slots) held.whole may.within;
      current = current_plain g.persistent.items g.latest.items (live_in g) (g.staged + 1) d held.current;
      plains = plains_push g.entries.list.items g.staged d held.plains;
      floors_count = held.floors_count;
      floors_low = held.floors_low;
      filed = filed;
      entries_fit = left.list;
      places_fit = left.places;
      records_fit = left.records;
      newest = newest_more m.records h.records key r (g.staged + 1) (λ p. get_number nat_eq m.newest p) (λ p. get_number nat_eq h.newest p) (newest_roomy g held m may.same) free up refl (put_low m.levels m.records (filed_roomy g held m may.same) g.staged (indexed_roomy g held m made d level before may).plain_count) last noted;
      newest_fit = left.newest;
      indexed = rw (waiting_plain g.persistent.items (live_in g) (g.staged + 1) d) (indexed_plain (roomy g held m made d level before may) (whole_roomy g held m made d level before may) m.levels (indexed_roomy g held m made d level before may) d may.within level before may.best key h.levels (level - m.levels.ended) place (pushes (level - m.levels.ended) place) (writes_of h.records.slots) (made - 1) left.levels);
    });
    waits = ap (waiting_of g.persistent.items) (live_is h (g.entries.list.items ++ (Plain (g.staged + 1), d) ∷ []) g.entries.floors.items list_is floors_is ∙ live) ∙ waiting_plain g.persistent.items (live_in g) (g.staged + 1) d;
    write = record_write h.levels h.records filed key r up.changed;
    others = others_now g h held filed m.records (λ other u at. sym (same_key g held m may.same other) ∙ at) key r up;
  }
