-- The lengths that a core knows stay right as it goes on.
use Rattle.std.proofs.Common.{◌≡◌, ◌⊎◌, inl, inr, ⊎_elim, ◌∙◌, ℕ, ◌+◌, ◌-◌, ◌<◌, ◌≤◌, List, [], Some, None, Ok, Err, length, le_of_eq, le_trans, sym, ap, ap₂, subst, subst₂, arith}
use Rattle.cs_chunk.specs.Chunks.{end_in}
use Rattle.cs_chunk.specs.Lengths.{IsHeaderIn}
use Rattle.cs_chunk.specs.Newest.{AreNewest}
use Rattle.cs_chunk.proofs.Newest.{one_view}
use Rattle.cs_deps.specs.State.{IsWhole as IsWholeGraph, State as GraphState}
use Rattle.cs_disk.specs.declared.disk.PageDisk.{Ghosts as PageDisk}
use Rattle.cs_disk.specs.Disk.{Image, State as DiskState, page, seen}
use Rattle.cs_disk.specs.Reads.{OnlyReads}
use Rattle.cs_extent.specs.State.{IsWhole, State as ExtentsState, extents_of, shape}
use Rattle.cs_frame.specs.declared.frames.FrameKind.{FrameKind}
use Rattle.cs_frame.specs.declared.frames.FrameKind.TheVariants.{Chunk}
use Rattle.cs_frame.specs.declared.locators.Locator.{Locator}
use Rattle.cs_frame.specs.Formats.{formats_of}
use Rattle.cs_frame.specs.Frames.{kind_byte, page_count, payload_length}
use Rattle.cs_frame.specs.MeantFrames.{meant_header_fault}
use Rattle.cs_reader.specs.ImageReads.{page_total}
use Rattle.law_machine.specs.Device.{Inside, IsShape, PageKind, Shape}
use Rattle.law_machine.specs.Events.{newest_page}
use Rattle.law_machine.specs.Extents.{Extents, reach}
use Rattle.law_machine.specs.Format.{Format}
use Rattle.law_machine.specs.State as model
use Rattle.law_machine.specs.Step.{Step}
use Rattle.law_refinement.proofs.Shapes.{store_shape}
use Rattle.law_refinement.specs.Devices.{pages_now, read_by}
use Rattle.cs_core.specs.declared.events.Event.{Event}
use Rattle.cs_core.specs.declared.events.OutOfMemory.{OutOfMemory}
use Rattle.cs_core.specs.declared.events.Reply.{Reply}
use Rattle.cs_core.specs.Known.{AreKnown, AreRight, FitsAt, IsGiven, IsRight, IsSaidNow, KeepsKnown, NotesWhatWaits}
use Rattle.cs_core.specs.Lengths.{Row, noted_at, noted_then}
use Rattle.cs_core.specs.Meanings.{event_of}
use Rattle.law_machine.specs.Stays.{IsEmptied, KeepsPages}
use Rattle.cs_core.specs.Served.{IsServed}
use Rattle.cs_core.specs.Stored.{Stored, but_for_room}
use Rattle.cs_core.specs.Views.{IsCore, View}
use Rattle.cs_core.proofs.Applied.{core_of}
use Rattle.cs_core.proofs.Applies.{goes}
use Rattle.cs_core.proofs.Gets.{newest_there}
use Rattle.law_machine.proofs.GivenPages.{step_leaves}
use Rattle.cs_core.proofs.Looking.{newest_roomed}
use Rattle.cs_core.proofs.NotedLengths.{old_or_new}

-- ---- one header

-- a header of the same format, in the same page, where as many pages are there
same_fault : (kind mark : ℕ) (f g : Format) (a b : List ℕ) (m n : ℕ) → g ≡ f → b ≡ a → n ≡ m
    → meant_header_fault g kind mark b n ≡ meant_header_fault f kind mark a m
same_fault kind mark f g a b m n format bytes there =
    ap (λ (h : Format). meant_header_fault h kind mark b n) format
    ∙ ap (λ (p : List ℕ). meant_header_fault f kind mark p n) bytes
    ∙ ap (λ (k : ℕ). meant_header_fault f kind mark a k) there

module _ (x y : ExtentsState) (same : shape y ≡ shape x) (v w : ℕ → List ℕ) (l : Locator) (count : ℕ)
    (bytes : w ((shape y).address l.extent l.page) ≡ v ((shape x).address l.extent l.page))
    (found : (extents_of y).found l.extent ≡ (extents_of x).found l.extent) where
  same_end : end_in y l ≡ end_in x l
  same_end = ap₂ (λ (S : Shape) (n : ℕ). reach S n l.page) same found

  header_stays : IsHeaderIn x v Chunk l count → IsHeaderIn y w Chunk l count
  header_stays is = record {
    passes = same_fault (kind_byte Chunk) l.mark (shape x).format (shape y).format (v ((shape x).address l.extent l.page)) (w ((shape y).address l.extent l.page))
        (end_in x l - l.page) (end_in y l - l.page) (ap (λ (S : Shape). S.format) same) bytes (ap (λ (n : ℕ). n - l.page) same_end) ∙ is.passes;
    says = is.says ∙ sym (ap payload_length bytes);
  }

-- ---- over a step of the machine

-- a page of frames reads as it was staged last
frames_now : (S : Shape) → IsShape S → (s : model.State) (held : Image) (e i : ℕ) → Inside S e i → pages_now S s held (S.address e i) ≡ newest_page s (S.address e i)
frames_now S is s held e i inside = ap (λ (k : PageKind). read_by k (newest_page s (S.address e i)) (page held (S.address e i))) (is.frame_kind e i inside)

module _ (x y : ExtentsState) (whole : IsWhole x) (same : shape y ≡ shape x) (s t : model.State) (event : model.Event) (reply : model.Reply)
    (was : s.world.extents ≡ extents_of x) (is : t.world.extents ≡ extents_of y) (step : Step (shape x) (formats_of (shape x)) s event reply t)
    (held after : Image) (l : Locator) (count : ℕ) (inside : Inside (shape x) l.extent l.page) where
  generation_was : s.world.extents.generation l.extent ≡ (extents_of x).generation l.extent
  generation_was = ap (λ (g : Extents). g.generation l.extent) was

  generation_is : t.world.extents.generation l.extent ≡ (extents_of y).generation l.extent
  generation_is = ap (λ (g : Extents). g.generation l.extent) is

  right_by : (w : ℕ → List ℕ) → w ((shape y).address l.extent l.page) ≡ pages_now (shape y) t after ((shape y).address l.extent l.page)
      → IsRight x (pages_now (shape x) s held) l count → IsEmptied s t l.extent ⊎ KeepsPages (shape x) s t l.extent → IsRight y w l count
  right_by w read right (inl gone) = record {
    not_later = omega (arith, gone, right.not_later, generation_was, generation_is);
    now = λ at. absurd (omega (arith, gone, right.not_later, generation_was, generation_is, at));
  }
  right_by w read right (inr kept) = record {
    not_later = le_trans right.not_later (le_of_eq (sym stays));
    now = λ at. (let old = right.now (sym stays ∙ at) in (
      le_trans old.0 (subst (λ (n : ℕ). n ≤ (extents_of y).pointer l.extent) (ap (λ (g : Extents). g.pointer l.extent) was)
          (le_trans kept.given (le_of_eq (ap (λ (g : Extents). g.pointer l.extent) is)))),
      header_stays x y same (pages_now (shape x) s held) w l count (bytes old.0)
          (sym (ap (λ (g : Extents). g.found l.extent) is) ∙ kept.found ∙ ap (λ (g : Extents). g.found l.extent) was) old.1,
    ));
  }
    where
      stays : (extents_of y).generation l.extent ≡ (extents_of x).generation l.extent
      stays = sym generation_is ∙ kept.generation ∙ generation_was

      bytes : l.page < (extents_of x).pointer l.extent → w ((shape y).address l.extent l.page) ≡ pages_now (shape x) s held ((shape x).address l.extent l.page)
      bytes below = read ∙ ap (λ (S : Shape). pages_now S t after (S.address l.extent l.page)) same
          ∙ frames_now (shape x) (store_shape x whole) t after l.extent l.page inside
          ∙ kept.pages l.page (subst (λ (n : ℕ). l.page < n) (sym (ap (λ (g : Extents). g.pointer l.extent) was)) below) inside
          ∙ sym (frames_now (shape x) (store_shape x whole) s held l.extent l.page inside)

  right_then : (w : ℕ → List ℕ) → w ((shape y).address l.extent l.page) ≡ pages_now (shape y) t after ((shape y).address l.extent l.page)
      → IsRight x (pages_now (shape x) s held) l count → IsRight y w l count
  right_then w read right = right_by w read right (step_leaves (shape x) (formats_of (shape x)) (store_shape x whole) s t event reply step l.extent)

-- ---- what is noted anew

-- what waits at a place is noted
pub noted_said : (x : ExtentsState) (graph : GraphState) (old new : List Row) (place : Locator) (count : ℕ)
    → ((l : Locator) → noted_at new l ≡ noted_then (noted_at old) place count l) ⊎ ((l : Locator) → noted_at new l ≡ noted_at old l)
    → IsSaidNow x graph place count → NotesWhatWaits x graph old new
noted_said x graph old new place count (inl noted) said l n is = ⊎_elim (λ was. inl was)
    (λ here. inr (subst₂ (λ (k : Locator) (m : ℕ). IsSaidNow x graph k m) here.0 here.1 said))
    (old_or_new (noted_at old) place count l n (sym (noted l) ∙ is))
noted_said x graph old new place count (inr same) said l n is = inl (sym (same l) ∙ is)

-- ---- of a core

-- a whole graph is whole whatever its room
pub whole_roomed : (g : GraphState) → IsWholeGraph g → IsWholeGraph (record g { room = 0 })
whole_roomed g whole = record { kept = whole.kept; out = whole.out; writes = whole.writes }

module _ {D : Type 0} (disks : PageDisk D) where
  -- a core of which nothing is known
  pub nothing_known : {v : View D} {lengths : List Row} → lengths ≡ [] → IsCore disks v → KeepsKnown disks v lengths
  nothing_known {v} {lengths} empty core = subst (λ (rows : List Row). KeepsKnown disks v rows) (sym empty) (record {
    core = core;
    known = record {
      fitting = λ l count is. absurd (let none : None ≡ Some count = is in cc none);
      right = λ there view are l count is. absurd (let none : None ≡ Some count = is in cc none);
    };
  })

  -- where the disk was read
  pub known_after : {s : Stored} {disk : D} {lengths : List Row} → AreKnown disks s disk lengths → (after : D) → OnlyReads disks disk after → AreKnown disks s after lengths
  known_after {s} {disk} {lengths} known after reads = record {
    fitting = known.fitting;
    right = λ there. subst (λ (d : DiskState). AreRight s.extents s.graph (seen d) lengths) (sym (reads.same (reads.honesty.1 there))) (known.right (reads.honesty.1 there));
  }

  pub known_read : {v : View D} {lengths : List Row} → KeepsKnown disks v lengths → (after : D) → OnlyReads disks v.disk after → IsCore disks (record v { disk = after })
      → KeepsKnown disks (record v { disk = after }) lengths
  known_read kept after reads core = record { core = core; known = known_after kept.known after reads }

  module _ {s : Stored} {disk : D} {lengths : List Row} (known : AreKnown disks s disk lengths) (kind : FrameKind) (place : Locator) (count : ℕ) where
    -- what is known of a place on a page that is given is what the header says
    pub known_header : kind ≡ Chunk → IsGiven s.extents place → noted_at lengths place ≡ Some count
        → disks.honest disk → (view : ℕ → List ℕ) → AreNewest s.graph (seen (disks.state disk)) view → IsHeaderIn s.extents view kind place count
    known_header chunk given is there view are = subst (λ (k : FrameKind). IsHeaderIn s.extents view k place count) (sym chunk)
        ((known.right there view are place count is).now given.generation).1

    -- what was read is noted
    pub known_more : (after : D) → OnlyReads disks disk after → (new : List Row)
        → ((l : Locator) (n : ℕ) → noted_at new l ≡ Some n → (noted_at lengths l ≡ Some n) ⊎ ((kind ≡ Chunk) × IsGiven s.extents place × (place ≡ l) × (count ≡ n)))
        → place.page + page_count count ≤ (shape s.extents).pages
        → (disks.honest disk → (view : ℕ → List ℕ) → AreNewest s.graph (seen (disks.state disk)) view → IsHeaderIn s.extents view kind place count)
        → AreKnown disks s after new
    known_more after reads new adds fits said = record {
      fitting = λ l n is. ⊎_elim (λ old. known.fitting l n old)
          (λ here. subst₂ (λ (k : Locator) (m : ℕ). FitsAt (shape s.extents) k m) here.2 here.3 (record { inside = here.1.inside; fits = fits })) (adds l n is);
      right = λ there view are l n is.
          (let before = reads.honesty.1 there in
          let read = subst (λ (d : DiskState). AreNewest s.graph (seen d) view) (reads.same before) are in
          ⊎_elim (λ old. known.right before view read l n old)
          (λ here. subst₂ (λ (k : Locator) (m : ℕ). IsRight s.extents view k m) here.2 here.3 (record {
            not_later = le_of_eq (sym here.1.generation);
            now = λ same. (here.1.below, subst (λ (k : FrameKind). IsHeaderIn s.extents view k place count) here.0 (said before view read));
          })) (adds l n is));
    }

  module _ {v w : Stored} {disk after : D} {event : Event} {opened : Image} {found : ℕ × ℕ} {history : List (Event × Reply)} {base limit : ℕ} {lengths : List Row}
      (kept : KeepsKnown disks (core_of disk opened found v history base limit) lengths) where
    -- an event was done or refused, and what waits then was noted
    module _ {told : Reply × Reply} (served : IsServed disks v disk event (Ok told) w after) (whole : IsWhole v.extents) (graph : IsWholeGraph v.graph)
        (whole_then : IsWhole w.extents) (graph_then : IsWholeGraph w.graph)
        (long : disks.honest disk → length (disks.state disk).durable ≡ disks.page_count disk)
        (long_then : disks.honest after → length (disks.state after).durable ≡ disks.page_count after) where
      right_served : disks.honest after → AreRight w.extents (record w.graph { room = 0 }) (seen (disks.state after)) lengths
      right_served there view are l count is =
          let before = served.honesty.1 there in
          let was = kept.core.legal before in
          let d = goes disks.state v w disk after opened found history base base limit limit event told.0 served.same_shape (served.step before) was.0 was.1 in
          let reads = newest_there (but_for_room v) whole (whole_roomed v.graph graph) (disks.state disk) (le_of_eq (sym (long before ∙ kept.core.device))) was.0 was.1.store was.1.disk in
          let reads_then = newest_there (but_for_room w) whole_then (whole_roomed w.graph graph_then) (disks.state after)
          (le_of_eq (sym (long_then there ∙ served.pages ∙ kept.core.device ∙ ap page_total (sym served.same_shape)))) d.1 d.4.store d.4.disk in
          right_then v.extents w.extents whole served.same_shape was.0 d.1 (event_of event) d.0 was.1.store.parts.world.extents d.4.store.parts.world.extents d.3
          (seen (disks.state disk)) (seen (disks.state after)) l count (kept.known.fitting l count is).inside view
          (one_view (record w.graph { room = 0 }) (seen (disks.state after)) view (pages_now (shape w.extents) d.1 (seen (disks.state after))) are reads_then ((shape w.extents).address l.extent l.page))
          (kept.known.right before (pages_now (shape v.extents) was.0 (seen (disks.state disk))) reads l count is)

      pub known_then : (events : List (Event × Reply)) (first : ℕ) → IsCore disks (core_of after opened found w events first limit) → (new : List Row)
          → NotesWhatWaits w.extents w.graph lengths new → KeepsKnown disks (core_of after opened found w events first limit) new
      known_then events first core new notes = record {
        core = core;
        known = record {
          fitting = λ l count is. ⊎_elim (λ old. subst (λ (S : Shape). FitsAt S l count) (sym served.same_shape) (kept.known.fitting l count old))
              (λ said. record { inside = said.given.inside; fits = said.fits }) (notes l count is);
          right = λ there view are l count is. ⊎_elim (λ old. right_served there view are l count old)
              (λ said. record {
                not_later = le_of_eq (sym said.given.generation);
                now = λ same. (said.given.below, said.said (seen (disks.state after)) view (newest_roomed w.graph 0 (seen (disks.state after)) view are));
              }) (notes l count is);
        };
      }

    -- there was no memory for it
    pub known_untouched : {error : OutOfMemory} → IsServed disks v disk event (Err error) w after → (events : List (Event × Reply)) (first : ℕ)
        → IsCore disks (core_of after opened found w events first limit) → KeepsKnown disks (core_of after opened found w events first limit) lengths
    known_untouched served events first core = record {
      core = core;
      known = record {
        fitting = λ l count is. subst (λ (S : Shape). FitsAt S l count) (sym served.same_shape) (kept.known.fitting l count is);
        right = λ there. (let before = served.honesty.1 there in
            subst₂ (λ (u : Stored) (d : DiskState). AreRight u.extents u.graph (seen d) lengths) (sym served.refused) (sym (served.same before)) (kept.known.right before));
      };
    }
