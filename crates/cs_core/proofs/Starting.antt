-- What a new store keeps.
use Rattle.std.proofs.Common.{◌≡◌, ◌≢◌, ◌∙◌, inl, ⊎_elim, rules, ℕ, zero, suc, ◌+◌, ◌^◌, ◌<◌, ◌≤◌, false, List, [], ◌∷◌, ◌++◌, Some, None, length, length-append, map, replicate, true≢false, refl, sym, ap, ap₂, subst, arith}
use Rattle.std.proofs.lemmas.List.{length-replicate, replicate-append-replicate}
use Rattle.std.proofs.lemmas.Option.{same_Some}
use Rattle.std.specs.List.{AllByRecursion}
use Rattle.std.specs.Prelude.{Contains, slice_get, slice_index, slice_index_or}
use Rattle.cs_deps.specs.State.{State as GraphState}
use Rattle.cs_disk.specs.declared.disk.PageDisk.{Ghosts as PageDisk}
use Rattle.cs_disk.specs.Disk.{Image, State as DiskState, page, written}
use Rattle.cs_extent.proofs.Sections.{rows_are_all}
use Rattle.cs_extent.specs.Sections.{AreSections, IsSectionAt, count_of, format_of, pages_of, rows_of}
use Rattle.cs_extent.specs.Frames.{root_family}
use Rattle.cs_extent.specs.State.{State as ExtentsState, extents_at, extents_of, shape}
use Rattle.cs_frame.specs.declared.superblocks.Superblock.{Superblock}
use Rattle.cs_frame.specs.Formats.{formats_of}
use Rattle.cs_frame.specs.Geometries.{IsGeometry, device_pages, section_length}
use Rattle.cs_frame.proofs.SuperblockLaws.{recorded_below_root, recorded_fits_in}
use Rattle.cs_frame.specs.Superblocks.{FitsRecord, SpellsSuperblock, record_in}
use Rattle.cs_reader.proofs.ByFamily.{length-by_family, root_in}
use Rattle.cs_reader.specs.Counts.{HasCount}
use Rattle.cs_reader.specs.Loads.{by_family, graph_at}
use Rattle.cs_reader.specs.ImageReads.{page_total}
use Rattle.cs_index.proofs.Sorted.{some_at}
use Rattle.cs_index.specs.declared.stored_runs.StoredRun.{StoredRun}
use Rattle.cs_index.specs.State.{State as IndexState, newest_first}
use Rattle.law_machine.specs.Element.{Copy, Map}
use Rattle.law_machine.specs.Format.{Format}
use Rattle.law_machine.specs.Geometry.{most_weight_in}
use Rattle.law_machine.specs.Open.{opened_state, root_read}
use Rattle.law_machine.specs.Recovery.{Recovers}
use Rattle.law_machine.specs.State.{State}
use Rattle.law_refinement.proofs.StartedNew.{new_started}
use Rattle.law_refinement.specs.Devices.{IsDiskOf}
use Rattle.cs_core.specs.declared.events.Event.{Event}
use Rattle.cs_core.specs.declared.events.Reply.{Reply}
use Rattle.cs_core.specs.declared.histories.Root.{Root as Noted}
use Rattle.cs_core.specs.Puts.{ArePutsMeant}
use Rattle.cs_core.specs.Started.{AreFirstNew, AreNew, IsNewOn, IsNewSection, new_stored, head_page, SpellsNew}
use Rattle.cs_core.specs.States.{IsStateOf}
use Rattle.cs_core.specs.Stored.{IsKept, Stored, but_for_room}
use Rattle.cs_core.specs.Views.{IsCore, IsReached}
use Rattle.cs_core.proofs.Noted.{noted_alone}
use Rattle.cs_core.proofs.RootsRead.{noted, read_alone}
use Rattle.cs_reader.proofs.SectionReads.{in_push}

-- what stands in a list of equal items
all_default : {X : Type 0} (n e : ℕ) (d : X) → slice_index_or (replicate n d) e d ≡ d
all_default zero e d = refl
all_default (suc n) zero d = refl
all_default (suc n) (suc e) d = all_default n e d

pub kept_new : (format : Format) (extents pages sections : ℕ) → 1 ≤ sections → IsKept (new_stored format extents pages sections)
kept_new format extents pages sections some = record {
  ready = record {
    families = omega (arith, length-by_family (replicate sections 1) 1, length-replicate {A = ℕ} sections 1);
    resets = λ e. let none : slice_index (replicate (length (replicate {A = ℕ × ℕ} extents (0, 0))) 0) e ≡ 0 = all_default (length (replicate {A = ℕ × ℕ} extents (0, 0))) e 0 in omega (arith, none);
  };
  writes = λ x w kept. let clash : None ≡ Some w = kept in absurd (cc clash);
  format = refl;
  limit = refl;
  places = λ id l among. absurd among;
  round = refl;
  some = omega arith;
  numbers = omega arith;
  swept = λ e is. absurd (true≢false (sym is ∙ unmarked e));
  apart = λ rule. record {
    runs = omega arith;
    one = λ d e is at. absurd (true≢false (sym is ∙ unmarked d));
    order = tt;
    up_to = λ e is. absurd (true≢false (sym is ∙ unmarked e));
    placed = λ c among. absurd among;
    marks = λ c among. absurd among;
  };
  noted = noted_alone 1 (slice_index (by_family (replicate sections 1) 1) root_family) (root_in (replicate sections 1) 1 (omega (arith, length-replicate {A = ℕ} sections 1, some)));
}
  where
    -- no extent is being swept
    unmarked : (e : ℕ) → (extents_of (new_stored format extents pages sections).extents).swept e ≡ false
    unmarked e = all_default (length (replicate {A = ℕ × ℕ} extents (0, 0))) e false

-- a new store is of a state of the machine, and recovers no command and no shard
module _ (format : Format) (extents pages sections : ℕ) (is : IsGeometry format extents pages sections) (old now : DiskState) (on : IsNewOn format extents pages sections old now) where
  abbrev x : ExtentsState
  x = extents_at format pages sections (replicate extents (0, 0))

  pub new_recovers : Recovers (shape x) (formats_of (shape x)) (page now.durable) 0 (λ id. None)
  new_recovers = (new_started now.durable format extents pages sections (most_weight_in format pages) is on.superblock on.root).0

  -- nothing is volatile
  quiet : now ≡ record { durable = now.durable; volatile = [] }
  quiet = on.formatted.2 ∙ ap (λ (d : DiskState). record { durable = d.durable; volatile = [] }) (sym on.formatted.2)

  pub starts : (s : State) × IsStateOf (new_stored format extents pages sections) s × IsDiskOf (shape x) (formats_of (shape x)) s now × IsReached (shape x) (formats_of (shape x)) now.durable [] s
  starts =
      let start = new_started now.durable format extents pages sections (most_weight_in format pages) is on.superblock on.root in
      let s : State = opened_state (shape x) (formats_of (shape x)) (page now.durable) 0 (λ id. None) start.0 in (
        s,
        record {
          parts = start.1.parts;
          copies = refl;
          sound = start.1.sound;
          bounded = start.1.bounded;
          round_out = refl;
          gone = 0;
          gone_is = inl refl;
          left = refl;
          issued = refl;
          halted = refl;
          base = refl;
          accepted = refl;
          frontier = start.1.frontier;
          roots = noted s (root_read (shape x) (formats_of (shape x)) (page now.durable) 0 (λ id. None) start.0) 1
              (read_alone (shape x) (formats_of (shape x)) (page now.durable) 0 (λ id. None) start.0)
              (start.1.parts.world.staging.root ∙ root_in (replicate sections 1) 1 (omega (arith, length-replicate {A = ℕ} sections 1, is.fewest_sections))) refl;
        },
        subst (λ (d : DiskState). IsDiskOf (shape x) (formats_of (shape x)) s d) (sym quiet) start.1.disk,
        record { count = 0; start = λ id. None; gives = start.0; events = []; said = tt; legal = refl },
      )

-- ---- what it is made of

module _ (format : Format) (extents pages sections : ℕ) (items : List Superblock) (new_ones : AreNew format extents pages sections items) where
  -- its sections are one superblock
  first : (it : Superblock) × (slice_get items 0 ≡ Some it)
  first = some_at items 0 (omega (arith, new_ones.new_ones.counted, new_ones.geometry.fewest_sections))

  counts : (xs : List Superblock) (it : Superblock) → slice_get xs 0 ≡ Some it → (format_of xs ≡ it.format) × (count_of xs ≡ it.extent_count) × (pages_of xs ≡ it.pages)
  counts [] it at = absurd (cc at)
  counts (y ∷ xs) it at = let same : y ≡ it = same_Some y it at in (ap (λ (u : Superblock). u.format) same, ap (λ (u : Superblock). u.extent_count) same, ap (λ (u : Superblock). u.pages) same)

  format_is : format_of items ≡ format
  format_is = (counts items first.0 first.1).0 ∙ (new_ones.new_ones.each 0 first.0 first.1).section_at.of_format

  count_is : count_of items ≡ extents
  count_is = (counts items first.0 first.1).1 ∙ (new_ones.new_ones.each 0 first.0 first.1).section_at.of_extents

  pages_are : pages_of items ≡ pages
  pages_are = (counts items first.0 first.1).2 ∙ (new_ones.new_ones.each 0 first.0 first.1).section_at.of_pages

  pub new_sections : AreSections items
  new_sections = record {
    some = omega (arith, new_ones.new_ones.counted, new_ones.geometry.fewest_sections);
    each = λ k it at.
        subst (λ (f : Format). IsSectionAt f (count_of items) (pages_of items) (length items) k it) (sym format_is)
        (subst (λ (n : ℕ). IsSectionAt format n (pages_of items) (length items) k it) (sym count_is)
        (subst (λ (n : ℕ). IsSectionAt format extents n (length items) k it) (sym pages_are)
        (subst (λ (n : ℕ). IsSectionAt format extents pages n k it) (sym new_ones.new_ones.counted) (new_ones.new_ones.each k it at).section_at)));
  }

  -- all their rows are empty extents
  rows_empty : (xs : List Superblock) → ((k : ℕ) (it : Superblock) → slice_get xs k ≡ Some it → (n : ℕ) × (it.extents.items ≡ replicate n (0, 0)))
      → rows_of xs ≡ replicate (length (rows_of xs)) (0, 0)
  rows_empty [] each = refl
  rows_empty (it ∷ xs) each =
      let here = each 0 it refl in
      let rest : rows_of xs ≡ replicate (length (rows_of xs)) (0, 0) = rows_empty xs (λ k other at. each (suc k) other at) in
      let long : length (it.extents.items ++ rows_of xs) ≡ here.0 + length (rows_of xs) =
      length-append it.extents.items (rows_of xs) ∙ ap (λ (n : ℕ). n + length (rows_of xs)) (ap length here.1 ∙ length-replicate {A = ℕ × ℕ} here.0 (0, 0)) in
      ap₂ (λ (a b : List (ℕ × ℕ)). a ++ b) here.1 rest
      ∙ replicate-append-replicate {A = ℕ × ℕ} here.0 (length (rows_of xs)) (0, 0)
      ∙ ap (λ (n : ℕ). replicate {A = ℕ × ℕ} n (0, 0)) (sym long)

  rows_are : rows_of items ≡ replicate extents (0, 0)
  rows_are = rows_empty items (λ k it at. (section_length extents sections k, (new_ones.new_ones.each k it at).rows))
      ∙ ap (λ (n : ℕ). replicate {A = ℕ × ℕ} n (0, 0)) (rows_are_all items new_sections ∙ count_is)

  -- and all their versions the first
  versions_first : (xs : List Superblock) → ((k : ℕ) (it : Superblock) → slice_get xs k ≡ Some it → it.version ≡ 1) → map (λ (it : Superblock). it.version) xs ≡ replicate (length xs) 1
  versions_first [] each = refl
  versions_first (it ∷ xs) each = ap₂ (λ (v : ℕ) (vs : List ℕ). v ∷ vs) (each 0 it refl) (versions_first xs (λ k other at. each (suc k) other at))

  versions_are : map (λ (it : Superblock). it.version) items ≡ replicate sections 1
  versions_are = versions_first items (λ k it at. (new_ones.new_ones.each k it at).first) ∙ ap (λ (n : ℕ). replicate n 1) new_ones.new_ones.counted

  pub new_graph_is : (g : GraphState) → g ≡ graph_at (map (λ (it : Superblock). it.version) items) 1 → g ≡ (new_stored format extents pages sections).graph
  new_graph_is g is = is ∙ ap (λ (vs : List ℕ). graph_at vs 1) versions_are

  pub new_extents_are : (x : ExtentsState) → x ≡ extents_at (format_of items) (pages_of items) (length items) (rows_of items) → x ≡ (new_stored format extents pages sections).extents
  new_extents_are x is = is
      ∙ ap (λ (f : Format). extents_at f (pages_of items) (length items) (rows_of items)) format_is
      ∙ ap (λ (n : ℕ). extents_at format n (length items) (rows_of items)) pages_are
      ∙ ap (λ (n : ℕ). extents_at format pages n (rows_of items)) new_ones.new_ones.counted
      ∙ ap (λ (rows : List (ℕ × ℕ)). extents_at format pages sections rows) rows_are

-- that no root was persistent can be spelled
none_fits : (format : Format) → FitsRecord format 0
none_fits format =
    let none : record_in format 0 ≡ 0 = (let le : record_in format 0 ≤ 0 = recorded_below_root format 0 in omega (arith, le)) in
    let small : 0 < 2 ^ 64 = omega arith in
    subst (λ (n : ℕ). FitsRecord format n) none (recorded_fits_in format 0 small)

-- a section of it, from its numbers
pub new_section_is : (format : Format) (extents pages sections section : ℕ) → IsGeometry format extents pages sections → section < sections → (it : Superblock) → it.format ≡ format → it.version ≡ 1 → it.recorded ≡ 0 → it.extent_count ≡ extents → it.pages ≡ pages
    → it.sections ≡ sections → it.section ≡ section → it.extents.items ≡ replicate (section_length extents sections section) (0, 0) → IsNewSection format extents pages sections section it
new_section_is format extents pages sections section g lt it written version unrecorded counted same divided place rows = record {
  section_at = record {
    is = record {
      first_version = omega (arith, version);
      last_version = omega (arith, version);
      recorded_fits = subst (λ (n : ℕ). FitsRecord it.format n) (sym unrecorded) (none_fits it.format);
      geometry = subst (λ (f : Format). IsGeometry f it.extent_count it.pages it.sections) (sym written)
          (subst (λ (n : ℕ). IsGeometry format n it.pages it.sections) (sym counted)
          (subst (λ (n : ℕ). IsGeometry format extents n it.sections) (sym same) (subst (λ (n : ℕ). IsGeometry format extents pages n) (sym divided) g)));
      one_of_them = omega (arith, place, divided, lt);
      count = ap length rows ∙ length-replicate {A = ℕ × ℕ} (section_length extents sections section) (0, 0)
          ∙ ap (section_length extents sections) (sym place) ∙ ap (λ (n : ℕ). section_length extents n it.section) (sym divided) ∙ ap (λ (n : ℕ). section_length n it.sections it.section) (sym counted);
      pointers = subst (AllByRecursion (λ (extent : ℕ × ℕ). extent.0 ≤ it.pages)) (sym rows) (empty_points (section_length extents sections section));
    };
    of_format = written;
    of_extents = counted;
    of_pages = same;
    of_sections = divided;
    place = place;
  };
  first = version;
  unrecorded = unrecorded;
  rows = rows;
}
  where
    empty_points : (n : ℕ) → AllByRecursion (λ (extent : ℕ × ℕ). extent.0 ≤ it.pages) (replicate n (0, 0))
    empty_points zero = tt
    empty_points (suc n) = (omega arith, empty_points n)

-- none of them yet
pub none_new : (format : Format) (extents pages sections : ℕ) → AreFirstNew format extents pages sections 0 []
none_new format extents pages sections = record { counted = refl; each = λ k it at. absurd (let clash : None ≡ Some it = at in cc clash) }

-- its page spells it so
pub spelled_new : (format : Format) (extents pages sections section : ℕ) (it : Superblock) → IsNewSection format extents pages sections section it → (bytes : List ℕ)
    → SpellsSuperblock bytes it.format it.version it.recorded it.extent_count it.pages it.sections it.section it.extents.items
    → SpellsNew format extents pages sections section bytes
spelled_new format extents pages sections section it new_one bytes spelled =
    let at = new_one.section_at in
    let rows : List (ℕ × ℕ) = replicate (section_length extents sections section) (0, 0) in
    subst (λ (n : ℕ). SpellsSuperblock bytes format n 0 extents pages sections section rows) new_one.first
    (subst (λ (n : ℕ). SpellsSuperblock bytes format it.version n extents pages sections section rows) new_one.unrecorded
    (subst (λ (f : Format). SpellsSuperblock bytes f it.version it.recorded extents pages sections section rows) at.of_format
    (subst (λ (n : ℕ). SpellsSuperblock bytes it.format it.version it.recorded n pages sections section rows) at.of_extents
    (subst (λ (n : ℕ). SpellsSuperblock bytes it.format it.version it.recorded it.extent_count n sections section rows) at.of_pages
    (subst (λ (n : ℕ). SpellsSuperblock bytes it.format it.version it.recorded it.extent_count it.pages n section rows) at.of_sections
    (subst (λ (n : ℕ). SpellsSuperblock bytes it.format it.version it.recorded it.extent_count it.pages it.sections n rows) at.place
    (subst (λ (rs : List (ℕ × ℕ)). SpellsSuperblock bytes it.format it.version it.recorded it.extent_count it.pages it.sections it.section rs) new_one.rows spelled)))))))

-- its numbers are a geometry
pub section_geometry : (format : Format) (extents pages sections section : ℕ) (it : Superblock) → IsNewSection format extents pages sections section it
    → IsGeometry format extents pages sections
section_geometry format extents pages sections section it new_one =
    let at = new_one.section_at in
    subst (λ (f : Format). IsGeometry f extents pages sections) at.of_format
    (subst (λ (n : ℕ). IsGeometry it.format n pages sections) at.of_extents
    (subst (λ (n : ℕ). IsGeometry it.format it.extent_count n sections) at.of_pages
    (subst (λ (n : ℕ). IsGeometry it.format it.extent_count it.pages n) at.of_sections at.is.geometry)))

-- what was written of a section, by its number
pub moved_section : (format : Format) (extents pages sections section k : ℕ) → section ≡ k → (old new : DiskState)
    → (bytes : List ℕ) × SpellsNew format extents pages sections section bytes × (new ≡ written old (head_page extents pages section) bytes)
    → (bytes : List ℕ) × SpellsNew format extents pages sections k bytes × (new ≡ written old (head_page extents pages k) bytes)
moved_section format extents pages sections section k same old new wrote = subst
    (λ (n : ℕ). (bytes : List ℕ) × SpellsNew format extents pages sections n bytes × (new ≡ written old (head_page extents pages n) bytes)) same wrote

-- one more of them
pub more_new : (format : Format) (extents pages sections count : ℕ) (items : List Superblock) (it : Superblock) → AreFirstNew format extents pages sections count items → IsNewSection format extents pages sections count it
    → AreFirstNew format extents pages sections (count + 1) (items ++ it ∷ [])
more_new format extents pages sections count items it so_far new_one = record {
  counted = length-append items (it ∷ []) ∙ ap (λ (n : ℕ). n + 1) so_far.counted;
  each = λ k other at. ⊎_elim
      (λ (l : slice_get items k ≡ Some other). so_far.each k other l)
      (λ (here : (k ≡ length items) × (it ≡ other)). subst (λ (y : Superblock). IsNewSection format extents pages sections k y) here.1
      (subst (λ (n : ℕ). IsNewSection format extents pages sections n it) (sym (here.0 ∙ so_far.counted)) new_one))
      (in_push items it k other at);
}

pub new_index_is : (format : Format) (extents pages sections : ℕ) (its_format : Format) (limit : ℕ) (runs : List StoredRun) (i : IndexState) → its_format ≡ format → limit ≡ most_weight_in format pages → runs ≡ []
    → i ≡ record { table = []; runs = newest_first runs; format = its_format; limit = limit; room = 0 } → i ≡ (new_stored format extents pages sections).index
new_index_is format extents pages sections its_format limit runs i of_format same none is = is
    ∙ ap (λ (f : Format). record { table = []; runs = newest_first runs; format = f; limit = limit; room = 0 }) of_format
    ∙ ap (λ (k : ℕ). record { table = []; runs = newest_first runs; format = format; limit = k; room = 0 }) same
    ∙ ap (λ (rs : List StoredRun). record { table = []; runs = newest_first rs; format = format; limit = most_weight_in format pages; room = 0 }) none

-- a new store, from its parts
pub new_is : (format : Format) (extents pages sections : ℕ) (g : GraphState) (x : ExtentsState) (i : IndexState) (copies : List Copy) (roots : List Noted) → g ≡ (new_stored format extents pages sections).graph → x ≡ (new_stored format extents pages sections).extents
    → i ≡ (new_stored format extents pages sections).index → copies ≡ [] → roots ≡ record { version = 1; commands = 0 } ∷ []
    → record { graph = g; extents = x; index = i; copies = copies; roots = roots; out = g.round; issued = 0; base = 0; accepted = 0; frontier = 0; halted = false } ≡ new_stored format extents pages sections
new_is format extents pages sections g x i copies roots graph extents_are index none noted =
    ap (λ (k : GraphState). record { graph = k; extents = x; index = i; copies = copies; roots = roots; out = k.round; issued = 0; base = 0; accepted = 0; frontier = 0; halted = false }) graph
    ∙ ap (λ (k : ExtentsState). record (new_stored format extents pages sections) { extents = k; index = i; copies = copies; roots = roots }) extents_are
    ∙ ap (λ (k : IndexState). record (new_stored format extents pages sections) { index = k; copies = copies; roots = roots }) index
    ∙ ap (λ (cs : List Copy). record (new_stored format extents pages sections) { copies = cs; roots = roots }) none
    ∙ ap (λ (rs : List Noted). record (new_stored format extents pages sections) { roots = rs }) noted

-- a pair of the same numbers
pub pair_is : (p : ℕ × ℕ) → (p.0 ≡ 0) × (p.1 ≡ 0) → p ≡ (0, 0)
pair_is (a, b) h = ap (λ (n : ℕ). (n, b)) h.0 ∙ ap (λ (n : ℕ). (0, n)) h.1

-- no shard is there
pub none_there : (m : Map) → ((id : ℕ) → m id ≡ None) → HasCount (λ id. m id ≢ None) 0
none_there m none = ([], record { rising = search rules; exact = λ id. (λ has. absurd (not_in id has), λ some. absurd (some (none id))) }, refl)
  where
    not_in : (id : ℕ) → Contains [] id → ⊥
    not_in id (k, lt, at) = let l : k < 0 = lt in omega arith

-- a core over a disk on which a new store was written
pub new_core : {D : Type 0} (disks : PageDisk D) (disk : D) (opened : Image) (v : Stored) (history : List (Event × Reply)) (base limit : ℕ) (format : Format) (extents pages sections : ℕ)
    → IsGeometry format extents pages sections → v ≡ new_stored format extents pages sections → history ≡ [] → base ≡ 0 → disks.page_count disk ≡ device_pages format extents pages sections → opened ≡ (disks.state disk).durable
    → (disks.honest disk → length (disks.state disk).durable ≡ disks.page_count disk) → (old : DiskState) → (disks.honest disk → IsNewOn format extents pages sections old (disks.state disk))
    → IsCore disks (record { disk = disk; opened = opened; found = (0, 0); store = but_for_room v; history = history; base = base; limit = limit })
new_core disks disk opened v history base limit format extents pages sections is made none first size as_is sized old wrote =
    let total : page_total (shape v.extents) ≡ device_pages format extents pages sections
    = ap (λ (u : Stored). page_total (shape u.extents)) made ∙ ap (λ (n : ℕ). device_pages format n pages sections) (length-replicate extents (0, 0)) in
    record {
      device = size ∙ sym total;
      replaced = omega (arith, first);
      puts = subst (λ (h : List (Event × Reply)). ArePutsMeant h (but_for_room v)) (sym none) (λ id bytes put. absurd (cc put));
      sized = λ h. ap length as_is ∙ sized h ∙ size ∙ sym total;
      legal = λ h.
          let s = starts format extents pages sections is old (disks.state disk) (wrote h) in (
            s.0,
            record {
              store = subst (λ (u : Stored). IsStateOf (but_for_room u) s.0) (sym made) s.1;
              disk = subst (λ (u : Stored). IsDiskOf (shape u.extents) (formats_of (shape u.extents)) s.0 (disks.state disk)) (sym made) s.2;
              reached = subst (λ (u : Stored). IsReached (shape u.extents) (formats_of (shape u.extents)) opened history s.0) (sym made)
                  (subst (λ (i : Image). IsReached (shape (new_stored format extents pages sections).extents) (formats_of (shape (new_stored format extents pages sections).extents)) i history s.0) (sym as_is)
                  (subst (λ (hs : List (Event × Reply)). IsReached (shape (new_stored format extents pages sections).extents) (formats_of (shape (new_stored format extents pages sections).extents)) (disks.state disk).durable hs s.0) (sym none) s.3));
            },
          );
      begun = λ h. (
        λ id. None,
        subst (λ (u : Stored). Recovers (shape u.extents) (formats_of (shape u.extents)) (page opened) 0 (λ id. None)) (sym made)
            (subst (λ (i : Image). Recovers (shape (new_stored format extents pages sections).extents) (formats_of (shape (new_stored format extents pages sections).extents)) (page i) 0 (λ id. None)) (sym as_is)
            (new_recovers format extents pages sections is old (disks.state disk) (wrote h))),
        none_there (λ id. None) (λ id. refl),
      );
    }
