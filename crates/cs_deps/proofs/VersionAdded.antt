-- The next version of a family is staged: what its graph keeps then.
use Rattle.std.proofs.Common.{◌≡◌, ◌∙◌, ◌≢◌, ◌+◌, ◌<◌, ◌≤◌, ◌⊎◌, ℕ, List, [], ◌∷◌, ◌++◌, length, set, get_or, Option, Some, None, refl, sym, ap, subst, ⊎_elim, arith}
use Rattle.std.specs.Prelude.{◌-◌, nat_eq, option_map, IfSome}
use Rattle.std.specs.HashMap.{get as get_number}
use Rattle.std.proofs.lemmas.List.{length-set}
use Rattle.std.proofs.lemmas.Option.{same_Some}
use Rattle.slab.specs.Slab.{Slab, get, Updates}
use Rattle.cs_deps.specs.contracts.graphs.Graph.{the_invariant}
use Rattle.cs_deps.specs.declared.elements.Element.{Element}
use Rattle.cs_deps.specs.declared.elements.Element.TheVariants.{Version}
use Rattle.cs_deps.specs.declared.graphs.Graph.TheInside.{Inside}
use Rattle.cs_deps.specs.declared.levels.Kept.{Kept}
use Rattle.cs_deps.specs.declared.records.Record.{Record}
use Rattle.cs_deps.specs.Named.{Named, Names}
use Rattle.cs_deps.specs.Newest.{AreNewest}
use Rattle.cs_deps.specs.Records.{AreFiled, writes_of}
use Rattle.cs_deps.specs.Staging.{IsJoined}
use Rattle.cs_deps.specs.Entries.{waiting_of}
use Rattle.cs_deps.specs.Levels.{kept_by, keyed, live_of, next_version, row_at, IsVersionPushed}
use Rattle.cs_deps.proofs.Added.{TakesOne, IsAdded, fits_left, list_now, floors_now, others_now}
use Rattle.cs_deps.proofs.Entries.{whole_version, current_version, waiting_next, joined_next, next_needs}
use Rattle.cs_deps.proofs.Filed.{record_write}
use Rattle.cs_deps.proofs.FiledSteps.{left_of, came_of, filed_version}
use Rattle.cs_deps.proofs.Held.{MayBeAdded, roomy, whole_roomy, indexed_roomy, low_enough, high_enough}
use Rattle.cs_deps.proofs.Live.{live_version, plains_kept, floors_kept}
use Rattle.cs_deps.proofs.Noted.{newest_same}
use Rattle.cs_deps.proofs.Pushed.{next_range}
use Rattle.cs_deps.proofs.Roomy.{Fits, live_in, over, holds, live_is, same_key, filed_roomy}
use Rattle.cs_deps.proofs.Settled.{same_family}
use Rattle.cs_deps.proofs.VersionStaged.{indexed_version}

module _ (g : Inside) (held : the_invariant g) (m : Inside) (made : ℕ) (d : Named) (level : ℕ) (before : Option Element) (may : MayBeAdded g m made d level before) (f v : ℕ) (kept : Kept) (next : kept ≡ next_version (kept_by m.levels (Version f v)) m.levels.base (level + 1) before) where
  -- its level is above the rounds that have ended, and at most one above the last queue
  pub next_in_range : (m.levels.ended < kept.level) × (kept.level ≤ m.levels.ended + length m.levels.rows.items + 1)
  next_in_range =
      let ix = indexed_roomy g held m made d level before may in
      subst (λ (k : Kept). (m.levels.ended < k.level) × (k.level ≤ m.levels.ended + length m.levels.rows.items + 1)) (sym next)
      (next_range (kept_by m.levels (Version f v)) m.levels.base (level + 1) m.levels.ended (m.levels.ended + length m.levels.rows.items) before (ix.within (Version f v)) ix.low (omega (arith, low_enough g held m made d level before may)) (omega (arith, high_enough g held m made d level before may)))

  abbrev i : ℕ
  i = kept.level - m.levels.ended - 1

  place : m.levels.ended + i + 1 ≡ kept.level
  place = omega (arith, next_in_range.0)

  abbrev passed : ℕ
  passed = get_or (row_at m.levels.rows.items i).versions f 0

  -- behind the records that were made room for, with what it takes the place of given up, its own is put
  module _ (inside : f < length g.latest.items) (last : v ≡ get_or g.latest.items f 0) (own : (u : ℕ) → Names d (Version f u) → ⊥) (h : Inside) (one : TakesOne m h (Version f (v + 1)) d) (key : ℕ)
      (pushes : (j : ℕ) → m.levels.ended + j + 1 ≡ kept.level → IsVersionPushed m.levels h.levels f v j (keyed key kept))
      (found : Option ℕ)
      (here : (j : ℕ) → m.levels.ended + j + 1 ≡ kept.level → IfSome found (λ k. (u : Kept) × (0 < get_or (row_at m.levels.rows.items j).versions f 0) × (kept_by m.levels (Version f (get_or (row_at m.levels.rows.items j).versions f 0)) ≡ Some u) × (u.key ≡ k)))
      (none : (j : ℕ) → m.levels.ended + j + 1 ≡ kept.level → found ≡ None → (get_or (row_at m.levels.rows.items j).versions f 0 ≡ 0) ⊎ (kept_by m.levels (Version f (get_or (row_at m.levels.rows.items j).versions f 0)) ≡ None))
      (mid : Slab Record) (kept_all : found ≡ None → mid ≡ m.records) (gone : IfSome found (λ k. get mid k ≡ None)) (rest : (other : ℕ) → found ≢ Some other → get mid other ≡ get m.records other)
      (free : get mid key ≡ None) (page : ℕ) (bytes : List ℕ) (up : Updates mid h.records key (Some (record { element = Version f (v + 1); page = page; bytes = bytes; older = 0 })))
      (notes : (q : ℕ) → get_number nat_eq h.newest q ≡ get_number nat_eq m.newest q) where
    abbrev r : Record
    r = record { element = Version f (v + 1); page = page; bytes = bytes; older = 0 }

    abbrev x : Element
    x = Version f (v + 1)

    pushed : IsVersionPushed m.levels h.levels f v i (keyed key (next_version (kept_by m.levels (Version f v)) m.levels.base (level + 1) before))
    pushed = subst (λ (u : Kept). IsVersionPushed m.levels h.levels f v i (keyed key u)) next (pushes i place)

    stays : (other : ℕ) (u : Record) → get m.records other ≡ Some u → u.element ≢ Version f passed → get mid other ≡ Some u
    stays = left_of m.levels f i m.records mid (filed_roomy g held m may.same) found (here i place) (none i place) kept_all gone rest

    came : (other : ℕ) (u : Record) → get mid other ≡ Some u → (get m.records other ≡ Some u) × (u.element ≢ Version f passed)
    came = came_of m.levels f i m.records mid (filed_roomy g held m may.same) found (here i place) (none i place) kept_all gone rest

    was : (other : ℕ) (u : Record) → get mid other ≡ Some u → get g.records other ≡ Some u
    was other u at = sym (same_key g held m may.same other) ∙ (came other u at).0

    joined : IsJoined (waiting_of g.persistent.items (live_in g)) (Version f v) d (next_needs (live_in g) f v d)
    joined = joined_next g.persistent.items (live_in g) g.staged g.latest.items (option_map (λ r. r.items) g.round) (writes_of g.records.slots) g.room held.whole held.current f inside v last d

    waiting : waiting_of g.persistent.items (live_in g ++ (x, d) ∷ []) ≡ waiting_of g.persistent.items (live_in g) ++ (x, next_needs (live_in g) f v d) ∷ []
    waiting = waiting_next g.persistent.items (live_in g) g.staged g.latest.items (option_map (λ r. r.items) g.round) (writes_of g.records.slots) g.room held.whole held.current f inside v last d

    filed : AreFiled h.levels h.records
    filed = filed_version (roomy g held m made d level before may) (whole_roomy g held m made d level before may) m.levels (indexed_roomy g held m made d level before may) f inside d may.within own v last (next_needs (live_in g) f v d) joined level before may.best key h.levels i pushed m.records mid h.records (filed_roomy g held m may.same) stays came free r up refl

    live : live_of h.levels g.entries.floors.items (g.entries.list.items ++ (x, d) ∷ []) ≡ live_in g ++ (x, d) ∷ []
    live = live_version g.levels m.levels may.same.levels h.levels g.entries.floors.items g.entries.list.items f v i (keyed key (next_version (kept_by m.levels (Version f v)) m.levels.base (level + 1) before)) d pushed (omega (arith, held.floors_low f, last))

    -- the plain writes that have records are the same
    newest : AreNewest h.records (λ p. get_number nat_eq h.newest p)
    newest = newest_same g.records h.records (λ p. get_number nat_eq g.newest p) (λ p. get_number nat_eq h.newest p) held.newest (λ q. notes q ∙ may.same.newest q)
        (λ other u n of at. ⊎_elim
        (λ (o : other ≡ key). absurd (cc (sym of ∙ ap (λ (w : Record). w.element) (same_Some u r (sym at ∙ ap (get h.records) o ∙ up.changed)))))
        (λ (ne : other ≢ key). was other u (sym (up.others other ne) ∙ at))
        (same_family key other))
        (λ other u n of at.
        let kept_there = stays other u (same_key g held m may.same other ∙ at) (λ e. absurd (cc (sym of ∙ e))) in
        up.others other (λ e. absurd (cc (sym kept_there ∙ ap (get mid) e ∙ free))) ∙ kept_there)

    list_is : h.entries.list.items ≡ g.entries.list.items ++ (x, d) ∷ []
    list_is = list_now m h x d one g may.same

    floors_is : h.entries.floors.items ≡ g.entries.floors.items
    floors_is = floors_now m h x d one g may.same

    left : Fits h (made - 1)
    left = fits_left m h x d one made may.some may.fits

    pub version_added : IsAdded g h g.staged (set g.latest.items f (v + 1)) (made - 1) (Version f (v + 1)) (next_needs (live_in g) f v d) (page, bytes)
    version_added = record {
      held = holds (over g h) g.staged (set g.latest.items f (v + 1)) (made - 1) (live_in g ++ (x, d) ∷ []) (g.entries.list.items ++ (x, d) ∷ []) g.entries.floors.items list_is floors_is live (record {
        whole = whole_version g.persistent.items (live_in g) g.staged g.latest.items (option_map (λ r. r.items) g.round) (writes_of g.records.slots) g.room held.whole held.current f inside v last d (made - 1) (writes_of h.records.slots) may.within own;
        current = current_version g.persistent.items (live_in g) g.staged g.latest.items (option_map (λ r. r.items) g.round) (writes_of g.records.slots) g.room held.whole held.current f inside v last d;
        plains = plains_kept g.entries.list.items f (v + 1) g.staged d held.plains;
        floors_count = held.floors_count ∙ sym (length-set g.latest.items f (v + 1));
        floors_low = floors_kept g.entries.floors.items g.latest.items f v inside last held.floors_low;
        filed = filed;
        entries_fit = left.list;
        places_fit = left.places;
        records_fit = left.records;
        newest = newest;
        newest_fit = left.newest;
        indexed = rw waiting (indexed_version (roomy g held m made d level before may) (whole_roomy g held m made d level before may) m.levels (indexed_roomy g held m made d level before may) f inside d may.within own v last (next_needs (live_in g) f v d) joined level before may.best key h.levels i pushed (writes_of h.records.slots) (made - 1) left.levels);
      });
      waits = ap (waiting_of g.persistent.items) (live_is h (g.entries.list.items ++ (x, d) ∷ []) g.entries.floors.items list_is floors_is ∙ live) ∙ waiting;
      write = record_write h.levels h.records filed key r up.changed;
      others = others_now g h held filed mid was key r up;
    }
