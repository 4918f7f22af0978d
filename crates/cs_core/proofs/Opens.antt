-- A core over what was opened.
use Rattle.std.proofs.Common.{◌≡◌, ◌≢◌, ◌⊎◌, inl, inr, ◌∙◌, ℕ, List, [], None, length, le_of_eq, refl, sym, ap, subst, arith}
use Rattle.cs_disk.specs.declared.disk.PageDisk.{Ghosts as PageDisk}
use Rattle.std.proofs.lemmas.Bool.{cases_Bool}
use Rattle.law_refinement.proofs.Started.{read_started, seen_pages}
use Rattle.law_refinement.proofs.StartedApart.{read_started as read_apart}
use Rattle.law_refinement.specs.Devices.{IsDiskOf}
use Rattle.law_refinement.specs.Openings.{IsStartOf}
use Rattle.cs_chunk.specs.Reads.{IsNoAnswer}
use Rattle.cs_refusal.specs.declared.refusals.Refusal.{Refusal}
use Rattle.cs_disk.specs.Disk.{Image, IsWhole as IsWholeDisk, State as DiskState, flushed, page, seen}
use Rattle.cs_extent.specs.State.{State as ExtentsState, extents_at, shape}
use Rattle.cs_frame.specs.Formats.{formats_of}
use Rattle.cs_frame.specs.Geometries.{IsGeometry, device_pages, section_size}
use Rattle.cs_reader.proofs.ByFamily.{root_in}
use Rattle.cs_reader.proofs.OneByOne.{live_count}
use Rattle.cs_reader.proofs.Superblocks.{read_format, read_shape}
use Rattle.cs_reader.specs.Counts.{AreThose, HasCount}
use Rattle.cs_reader.specs.Loads.{graph_at, index_at}
use Rattle.cs_reader.specs.ImageReads.{ArePages, AreSectionsRead, page_total}
use Rattle.cs_index.specs.declared.stored_runs.StoredRun.{StoredRun}
use Rattle.cs_index.specs.State.{newest_first}
use Rattle.law_machine.proofs.Unique.{one_recovery}
use Rattle.law_machine.specs.Device.{Shape}
use Rattle.law_machine.specs.Element.{Map, Run}
use Rattle.law_machine.specs.Format.{Format}
use Rattle.law_machine.specs.Geometry.{most_weight_in, shape_of}
use Rattle.law_machine.specs.Index.{entries_of, live_at}
use Rattle.law_machine.specs.Open.{opened_state, root_read}
use Rattle.law_machine.specs.Recovery.{Recovers}
use Rattle.law_machine.specs.State.{State}
use Rattle.cs_core.specs.declared.events.Event.{Event}
use Rattle.cs_core.specs.declared.events.Reply.{Reply}
use Rattle.cs_core.specs.Openings.{AreExtentsOpened}
use Rattle.cs_reader.specs.Openings.{IsStoreReadBy, IsWhyNotOpened}
use Rattle.cs_core.specs.Openings.{IsOpened, IsStoreMade, opened_stored}
use Rattle.cs_core.specs.States.{IsStateOf}
use Rattle.cs_core.specs.Stored.{Stored, but_for_room}
use Rattle.cs_core.specs.Views.{IsCore, IsFound, IsReached}
use Rattle.cs_reader.proofs.Exactly.{none_fails, recovers_here, same_numbers}
use Rattle.cs_reader.proofs.Located.{hidden_gone, hidden_stand}
use Rattle.cs_core.proofs.RootsRead.{noted, read_alone}

module _ (image : Image) (format : Format) (versions records : List ℕ) (pages : ℕ) (written : List (ℕ × ℕ)) (root commands : ℕ) (runs : List StoredRun) (y : ExtentsState)
    (opened : AreExtentsOpened (extents_at format pages (length versions) written) (index_at (newest_first runs) format (most_weight_in format pages)) root y)
    (are : ArePages (device_pages format (length written) pages (length versions)) (page image)) (read : IsStoreReadBy (page image) format versions records pages written root commands runs) where
  abbrev x : ExtentsState
  x = extents_at format pages (length versions) written

  -- the start of the machine, by extents and shape
  abbrev Starts : ExtentsState → Shape → Type 0
  Starts z T = (m : Map) × (found : Recovers T (formats_of T) (page image) commands m)
      × IsStartOf z (graph_at versions root) (index_at (newest_first runs) z.format (most_weight_in z.format z.pages)) image (opened_state T (formats_of T) (page image) commands m found)

  -- by either rule what was read is one
  starts : Starts y (shape y)
  starts = elim (cases_Bool (shape x).apart) [
    | inl on ↦ (let noted = opened.apart on in
        let same : y.format ≡ format = ap (λ (S : Shape). S.format) opened.same_shape in
        let s = read_apart image format versions records pages written root commands (most_weight_in y.format y.pages) runs are (read.visible (hidden_gone x on)) noted.0 y (hidden_gone x on) on noted.1 noted.2
        (opened.same_shape ∙ sym noted.2.same_shape) noted.3 in
        subst (λ (T : Shape). Starts y T) (sym opened.same_shape) (
          s.0,
          s.1,
          subst (λ (f : Format). IsStartOf y (graph_at versions root) (index_at (newest_first runs) f (most_weight_in y.format y.pages)) image (opened_state (shape x) (formats_of (shape x)) (page image) commands s.0 s.1)) (sym same) s.2,
        ))
    | inr not ↦ subst (λ (z : ExtentsState). Starts z (shape z)) (sym (opened.together not))
        (read_started image format versions records pages written root commands (most_weight_in format pages) runs are (read.whole (hidden_stand x not)) not)
  ]

  -- the sections of the superblock
  pub sections_there : AreSectionsRead (page image) format versions records pages written
  sections_there = elim (cases_Bool (shape x).hidden_stand) [ inl stand ↦ (read.whole stand).sections | inr gone ↦ (read.visible gone).sections ]

  -- what was read is a state of the machine
  pub begins : (s : State) × IsStateOf (opened_stored y versions root commands runs) s
      × IsDiskOf (shape y) (formats_of (shape y)) s (record { durable = image; volatile = [] }) × IsReached (shape y) (formats_of (shape y)) image [] s
  begins =
      let start = starts in
      let s : State = opened_state (shape y) (formats_of (shape y)) (page image) commands start.0 start.1 in (
        s,
        record {
          parts = start.2.parts;
          copies = refl;
          sound = start.2.sound;
          bounded = start.2.bounded;
          round_out = refl;
          gone = 0;
          gone_is = inl refl;
          left = refl;
          issued = refl;
          halted = refl;
          base = refl;
          accepted = refl;
          frontier = start.2.frontier;
          roots = noted s (root_read (shape y) (formats_of (shape y)) (page image) commands start.0 start.1) root (read_alone (shape y) (formats_of (shape y)) (page image) commands start.0 start.1)
              (start.2.parts.world.staging.root ∙ root_in versions root sections_there.geometry.fewest_sections) refl;
        },
        start.2.disk,
        record { count = commands; start = start.0; gives = start.1; events = []; said = tt; legal = refl },
      )

  -- with so many live shards
  module _ (live : ℕ) (counted : HasCount (λ id. live_at (entries_of (newest_first runs)) id ≢ []) live) where
    pub found_there : IsFound (shape y) image (commands, live)
    found_there =
        let f = starts in (
          f.0,
          f.1,
          (live_count (shape y) (formats_of (shape y)) (page image) commands f.0 f.1 live).0
              (subst (λ (rs : List Run). HasCount (λ id. live_at (entries_of rs) id ≢ []) live) f.2.parts.index.same_runs counted),
        )

    -- and it is what the image recovers
    pub one_map : (n : ℕ) (m : Map) → Recovers (shape x) (formats_of (shape x)) (page image) n m → (commands ≡ n) × HasCount (λ id. m id ≢ None) live
    one_map n m r =
        let found : IsFound (shape x) image (commands, live) = subst (λ (T : Shape). IsFound T image (commands, live)) opened.same_shape found_there in
        let one = one_recovery (shape x) (formats_of (shape x)) (read_shape (page image) format versions records pages written sections_there)
        (read_format (page image) format versions records pages written sections_there) (page image) commands n found.0 m found.1 r in
        let ids : List ℕ = found.2.0 in
        let those : AreThose (λ id. found.0 id ≢ None) ids = found.2.1 in (
          one.0,
          (
            ids,
            record {
              rising = those.rising;
              exact = λ id. ((λ has none. (those.exact id).0 has (one.1 id ∙ none)), (λ some. (those.exact id).1 (λ none. some (sym (one.1 id) ∙ none))));
            },
            found.2.2,
          ),
        )

-- ---- the core

module _ {D : Type 0} (disks : PageDisk D) (disk : D) (old : DiskState) (before : Type 0) (format : Format) (versions records : List ℕ) (pages : ℕ) (written : List (ℕ × ℕ)) (commands live : ℕ) (store : Stored)
    (sized : disks.page_count disk ≡ device_pages format (length written) pages (length versions)) (made : IsStoreMade before (page (seen old)) format versions records pages written commands live store)
    (was : disks.honest disk → before) (now : disks.honest disk → disks.state disk ≡ flushed old) (whole : disks.honest disk → IsWholeDisk (disks.state disk)) (long : disks.honest disk → length (disks.state disk).durable ≡ disks.page_count disk) where
  are_pages : disks.honest disk → ArePages (device_pages format (length written) pages (length versions)) (page (seen old))
  are_pages h = subst (λ (d : DiskState). ArePages (device_pages format (length written) pages (length versions)) (page (seen d))) (now h)
      (seen_pages (disks.state disk) (device_pages format (length written) pages (length versions)) (whole h) (le_of_eq (sym (long h ∙ sized))))

  total : device_pages format (length written) pages (length versions) ≡ page_total (shape made.extents)
  total = ap page_total (sym made.opened.same_shape)

  base : IsCore disks (record { disk = disk; opened = (disks.state disk).durable; found = (commands, live); store = opened_stored made.extents versions made.root commands made.runs; history = []; base = 0; limit = 0 })
  base = record {
    device = sized ∙ total;
    replaced = omega arith;
    puts = λ id bytes none. absurd (cc none);
    sized = λ h. long h ∙ sized ∙ total;
    legal = λ h.
        let b = begins (seen old) format versions records pages written made.root commands made.runs made.extents made.opened (are_pages h) (made.read (was h)) in (
          b.0,
          record {
            store = b.1;
            disk = subst (λ (d : DiskState). IsDiskOf (shape made.extents) (formats_of (shape made.extents)) b.0 d) (sym (now h)) b.2;
            reached = subst (λ (d : DiskState). IsReached (shape made.extents) (formats_of (shape made.extents)) d.durable [] b.0) (sym (now h)) b.3;
          },
        );
    begun = λ h. subst (λ (d : DiskState). IsFound (shape made.extents) d.durable (commands, live)) (sym (now h))
        (found_there (seen old) format versions records pages written made.root commands made.runs made.extents made.opened (are_pages h) (made.read (was h)) live made.counted);
  }

  pub opened_core : (opened : Image) (history : List (Event × Reply)) (first limit : ℕ) → opened ≡ (disks.state disk).durable → history ≡ [] → first ≡ 0
      → IsCore disks (record { disk = disk; opened = opened; found = (commands, live); store = but_for_room store; history = history; base = first; limit = limit })
  opened_core opened history first limit as_is none from =
      let core : IsCore disks (record { disk = disk; opened = opened; found = (commands, live); store = but_for_room store; history = history; base = 0; limit = 0 }) =
      subst (λ (i : Image). IsCore disks (record { disk = disk; opened = i; found = (commands, live); store = but_for_room store; history = history; base = 0; limit = 0 })) (sym as_is)
      (subst (λ (h : List (Event × Reply)). IsCore disks (record { disk = disk; opened = (disks.state disk).durable; found = (commands, live); store = but_for_room store; history = h; base = 0; limit = 0 })) (sym none)
      (subst (λ (u : Stored). IsCore disks (record { disk = disk; opened = (disks.state disk).durable; found = (commands, live); store = but_for_room u; history = []; base = 0; limit = 0 })) (sym made.made) base)) in
      record {
        device = core.device;
        replaced = omega (arith, from);
        puts = core.puts;
        sized = core.sized;
        legal = λ h. let s = core.legal h in (s.0, record { store = s.1.store; disk = s.1.disk; reached = s.1.reached });
        begun = core.begun;
      }

-- ---- what its caller is told

pub is_opened : (before : Type 0) (old : DiskState) (image : Image) (format : Format) (versions records : List ℕ) (pages : ℕ) (written : List (ℕ × ℕ)) (commands live : ℕ) (store : Stored) → IsStoreMade before (page (seen old)) format versions records pages written commands live store
    → (before → image ≡ seen old) → IsOpened before image (commands, live) (but_for_room store)
is_opened before old image format versions records pages written commands live store made same = record {
  format = format;
  versions = versions;
  records = records;
  pages = pages;
  written = written;
  root = made.root;
  runs = made.runs;
  extents = made.extents;
  opened = made.opened;
  made = ap but_for_room made.made;
  read = λ h. subst (λ (i : Image). IsStoreReadBy (page i) format versions records pages written made.root commands made.runs) (sym (same h)) (made.read h);
}

module _ (before : Type 0) (old : DiskState) (count : ℕ) (h : before) (whole : IsWholeDisk old) (long : length old.durable ≡ count) (format : Format) (extents pages sections : ℕ) (is : IsGeometry format extents pages sections) (sized : count ≡ device_pages format extents pages sections) (n : ℕ) (m : Map)
    (r : Recovers (shape_of extents pages sections (section_size extents sections) format) (formats_of (shape_of extents pages sections (section_size extents sections) format)) (page (seen old)) n m) where
  are : ArePages count (page (seen old))
  are = seen_pages old count whole (le_of_eq (sym long))

  pub opened_as : (f : Format) (versions records : List ℕ) (p : ℕ) (written : List (ℕ × ℕ)) (commands live : ℕ) (store : Stored) → count ≡ device_pages f (length written) p (length versions) → IsStoreMade before (page (seen old)) f versions records p written commands live store
      → (shape store.extents ≡ shape_of extents pages sections (section_size extents sections) format) × (commands ≡ n) × HasCount (λ id. m id ≢ None) live
  opened_as f versions records p written commands live store size made =
      let here : ArePages (device_pages f (length written) p (length versions)) (page (seen old)) = subst (λ (k : ℕ). ArePages k (page (seen old))) size are in
      let read = made.read h in
      let same = same_numbers count (page (seen old)) format extents pages sections is sized are n m r f versions records p written
      (sections_there (seen old) f versions records p written made.root commands made.runs made.extents made.opened here read) in
      let one = one_map (seen old) f versions records p written made.root commands made.runs made.extents made.opened here read live made.counted n m
      (recovers_here count (page (seen old)) format extents pages sections is sized are n m r f (length versions) p written same.0 same.1 same.2 same.3) in (
        ap (λ (u : Stored). shape u.extents) made.made ∙ made.opened.same_shape
            ∙ ap (λ (k : Format). shape_of (length written) p (length versions) (section_size (length written) (length versions)) k) same.0
            ∙ ap (λ (k : ℕ). shape_of k p (length versions) (section_size k (length versions)) format) same.1
            ∙ ap (λ (q : ℕ). shape_of extents q (length versions) (section_size extents (length versions)) format) same.2
            ∙ ap (λ (k : ℕ). shape_of extents pages k (section_size extents k) format) same.3,
        one.0,
        one.1,
      )

  pub no_other : (x : Refusal) → IsNoAnswer x ⊎ IsWhyNotOpened count (page (seen old)) x → IsNoAnswer x
  no_other x (inl none) = none
  no_other x (inr why) = absurd (none_fails count (page (seen old)) format extents pages sections is sized are n m r x why)
