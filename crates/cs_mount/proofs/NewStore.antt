-- What is opened of a new store that was laid.
use Rattle.std.proofs.Common.{All, Contains, ◌≡◌, ◌≢◌, ◌⊎◌, inl, inr, ⊎_elim, if◌then◌else◌, ◌-◌, ◌*◌, ℕ, zero, suc, ◌+◌, ◌<◌, ◌≤◌, Bool, List, [], ◌∷◌, Option, None, Some, length, nat_lt, replicate, refl, sym, ◌∙◌, ap, subst, arith, true}
use Rattle.std.proofs.lemmas.Bool.{cases_lt}
use Rattle.std.proofs.lemmas.List.{length-replicate}
use Rattle.std.proofs.lemmas.List.Elements.{All-append}
use Rattle.cs_disk.specs.Disk.{Image, State, Write, flushed, page, seen}
use Rattle.cs_frame.specs.Formats.{formats_of}
use Rattle.cs_frame.specs.Geometries.{Dimensions, IsGeometry, section_size}
use Rattle.cs_reader.specs.Counts.{HasCount}
use Rattle.law_machine.specs.Element.{Content}
use Rattle.law_machine.specs.Format.{Format, Four, Two}
use Rattle.law_machine.specs.Geometry.{apart_in, most_weight_in, shape_of, twins_in}
use Rattle.law_machine.specs.Recovery.{Recovers}
use Rattle.cs_core.proofs.Starting.{new_recovers}
use Rattle.cs_core.specs.Openings.{AreExtentsOpened, IsOpened, opened_stored}
use Rattle.cs_core.specs.Started.{IsHead, IsNewOn, new_stored}
use Rattle.cs_core.specs.Stored.{Stored}
use Rattle.cs_core.specs.cs_extent.State.{IsWhole, State as ExtentsState, extents_at}
use Rattle.cs_core.specs.cs_index.declared.stored_runs.StoredRun.{StoredRun}
use Rattle.cs_core.specs.cs_index.State.{newest_first}
use Rattle.cs_reader.specs.Loads.{index_at}
use Rattle.cs_twin.specs.Pairs.{Versions, half, shown, shown_state}
use Rattle.cs_mount.specs.Makings.{HasNewStore, IsTornLaying, laid, new_page, new_section}
use Rattle.cs_mount.specs.StorePairs.{pages_of, pairs_where, store_pair, store_pairs, store_shape, store_version}
use Rattle.cs_mount.proofs.NewOn.{laid_shows, own_up_to, shows_first}
use Rattle.cs_mount.proofs.NewRead.{IsNewRead, new_store_is_read, opened_empty}
use Rattle.cs_mount.proofs.Twins.{high, low}
use Rattle.cs_mount.proofs.NewShown.{ShowsFirst, found_new, shows_root, shows_sections, torn_shows_first}

-- a disk of which all is durable
abbrev pub settled : Image → State
settled image = record { durable = image; volatile = [] }

-- ---- what it recovers

own_head : (F k : ℕ) → ((if nat_lt k 2 then k else F + k) < 2) ⊎ (2 + F ≤ (if nat_lt k 2 then k else F + k))
own_head F k = ⊎_elim (λ (lt : k < 2). inl (let is = low F k lt in omega (arith, is, lt))) (λ (le : 2 ≤ k). inr (let is = high F k le in omega (arith, is, le))) (cases_lt k 2)

one_head : (d : Dimensions) (k : ℕ) → All (λ (w : Write). IsHead d.extents d.pages w.0) (((store_pair d k).page, new_page d k) ∷ [])
one_head d k zero x lt = own_head (d.extents * d.pages) k
one_head d k (suc i) x lt = absurd (omega (arith, lt))

own_heads : (d : Dimensions) (n : ℕ) → All (λ (w : Write). IsHead d.extents d.pages w.0) (own_up_to d n)
own_heads d zero = one_head d 0
own_heads d (suc n) = All-append (λ (w : Write). IsHead d.extents d.pages w.0) (own_up_to d n) (((store_pair d (suc n)).page, new_page d (suc n)) ∷ []) (own_heads d n) (one_head d (suc n))

module _ (d : Dimensions) (g : IsGeometry d.format d.extents d.pages d.sections) (twins : twins_in d.format ≡ true) where
  -- an image that shows it has it
  on_itself : (image : Image) → ShowsFirst d image → IsNewOn d.format d.extents d.pages d.sections (settled image) (settled image)
  on_itself image shows = record {
    formatted = (settled image, record { writes = []; head = λ i x lt. absurd (omega (arith, lt)); volatile = refl; durable = refl }, refl);
    superblock = shows_sections d g twins image shows;
    root = shows_root d g twins image shows;
  }

  pub recovers_first : (image : Image) → ShowsFirst d image → Recovers (store_shape d) (formats_of (store_shape d)) (page image) 0 (λ id. None)
  recovers_first image shows =
      subst (λ (n : ℕ). let S = shape_of n d.pages d.sections (section_size n d.sections) d.format in Recovers S (formats_of S) (page image) 0 (λ id. None)) (length-replicate {A = ℕ × ℕ} d.extents (0, 0))
      (new_recovers d.format d.extents d.pages d.sections g (settled image) (settled image) (on_itself image shows))

  -- What a crash left of it is found, where its first section is on one of its two pages.
  pub has_new : (before c : Image) → length before ≡ pages_of d → ((k : ℕ) (twin : Bool) → 0 < k → k ≤ d.sections → page before (half (store_pair d k) twin) ≡ new_page d k) → IsTornLaying d before c
      → (page c 0 ≡ new_section d 0) ⊎ (page c (pages_of d - 1) ≡ new_section d 0) → HasNewStore d c
  has_new before c long there torn one =
      let found = found_new d g twins before c long there torn one in
      record {
        found = found;
        recovers = subst (λ (o : Option Dimensions). Recovers (store_shape d) (formats_of (store_shape d)) (page (shown (store_version o) (pairs_where o) c)) 0 (λ id. None)) (sym found)
            (recovers_first (shown (store_version (Some d)) (store_pairs d) c) (torn_shows_first d g twins before c long there torn one));
      }

  -- ---- what it shows

  module _ (s : State) (sized : length s.durable ≡ pages_of d) where
    abbrev V : Versions
    V = store_version (Some d)

    -- Only pages of the superblock and of the root were written, as the disk shows.
    pub new_on : IsNewOn d.format d.extents d.pages d.sections (shown_state V (store_pairs d) (flushed s)) (settled (shown V (store_pairs d) (laid d s).durable))
    new_on = record {
      formatted = (
        record { durable = shown V (store_pairs d) (seen s); volatile = own_up_to d d.sections },
        record { writes = own_up_to d d.sections; head = own_heads d d.sections; volatile = refl; durable = refl },
        ap settled (sym (laid_shows d g twins s sized)),
      );
      superblock = shows_sections d g twins (shown V (store_pairs d) (laid d s).durable) (shows_first d g twins s sized);
      root = shows_root d g twins (shown V (store_pairs d) (laid d s).durable) (shows_first d g twins s sized);
    }

-- ---- what is opened

-- chunks and runs lie apart where the root has twins
twins_apart : (format : Format) → twins_in format ≡ true → apart_in format ≡ true
twins_apart Two twins = cc twins
twins_apart (Four store device) twins = refl

-- by the numbers that are read
finish : (format : Format) (extents pages sections : ℕ) (f : Format) (p : ℕ) (versions : List ℕ) (written : List (ℕ × ℕ)) (root commands : ℕ) (runs : List StoredRun) (y : ExtentsState) → twins_in format ≡ true → IsWhole y
    → IsNewRead format extents pages sections f versions p written root commands runs → AreExtentsOpened (extents_at f p (length versions) written) (index_at (newest_first runs) f (most_weight_in f p)) root y
    → opened_stored y versions root commands runs ≡ new_stored format extents pages sections
finish format extents pages sections f p versions written root commands runs y twins whole is opened =
    let rows : List (ℕ × ℕ) = replicate extents (0, 0) in
    let apart = twins_apart format twins in
    let first = subst (λ (n : Format). AreExtentsOpened (extents_at n p (length versions) written) (index_at (newest_first runs) n (most_weight_in n p)) root y) is.of_format opened in
    let second = subst (λ (n : ℕ). AreExtentsOpened (extents_at format n (length versions) written) (index_at (newest_first runs) format (most_weight_in format n)) root y) is.of_pages first in
    let third = subst (λ (l : List (ℕ × ℕ)). AreExtentsOpened (extents_at format pages (length versions) l) (index_at (newest_first runs) format (most_weight_in format pages)) root y) is.of_written second in
    let fourth : AreExtentsOpened (extents_at format pages (length versions) rows) (index_at [] format (most_weight_in format pages)) root y =
    subst (λ (l : List StoredRun). AreExtentsOpened (extents_at format pages (length versions) rows) (index_at (newest_first l) format (most_weight_in format pages)) root y) is.of_runs third in
    let many : length versions ≡ sections = ap (λ (l : List ℕ). length l) is.of_versions ∙ length-replicate {A = ℕ} sections 1 in
    let noted = fourth.apart apart in
    let same : y ≡ extents_at format pages (length versions) rows = opened_empty format pages (length versions) extents root [] apart y noted.0 whole fourth.same_shape noted.2 noted.3 in
    let there : y ≡ extents_at format pages sections rows = same ∙ ap (λ (n : ℕ). extents_at format pages n rows) many in
    ap (λ (z : ExtentsState). opened_stored z versions root commands runs) there
    ∙ ap (λ (l : List ℕ). opened_stored (extents_at format pages sections rows) l root commands runs) is.of_versions
    ∙ ap (λ (n : ℕ). opened_stored (extents_at format pages sections rows) (replicate sections 1) n commands runs) is.of_root
    ∙ ap (λ (n : ℕ). opened_stored (extents_at format pages sections rows) (replicate sections 1) 1 n runs) is.of_commands
    ∙ ap (λ (l : List StoredRun). opened_stored (extents_at format pages sections rows) (replicate sections 1) 1 0 l) is.of_runs

-- The store that is opened on an image that shows a new one is the new one.
pub new_is_opened : (d : Dimensions) (honest : Type 0) (image : Image) (found : ℕ × ℕ) (store : Stored) → IsGeometry d.format d.extents d.pages d.sections → twins_in d.format ≡ true → honest → ShowsFirst d image
    → IsWhole store.extents → IsOpened honest image found store → store ≡ new_stored d.format d.extents d.pages d.sections
new_is_opened d honest image found store g twins h shows whole it =
    let read = new_store_is_read (page image) d.format d.extents d.pages d.sections g (shows_sections d g twins image shows) (shows_root d g twins image shows) it.format it.versions it.records it.pages it.written it.root found.0 it.runs (it.read h) in
    let there = subst (λ (z : Stored). IsWhole z.extents) it.made whole in
    it.made ∙ finish d.format d.extents d.pages d.sections it.format it.pages it.versions it.written it.root found.0 it.runs it.extents twins there read it.opened

-- none are counted where there are none
pub none_counted : (n : ℕ) → HasCount (λ (id : ℕ). ◌≢◌ {A = Option Content} None None) n → n ≡ 0
none_counted n has = sym has.2 ∙ by has.0 (λ id there. (has.1.exact id).0 there refl)
  where
    by : (ids : List ℕ) → ((id : ℕ) → Contains ids id → ⊥) → length ids ≡ 0
    by [] none = refl
    by (id ∷ ids) none = absurd (none id (0, omega arith, refl))
