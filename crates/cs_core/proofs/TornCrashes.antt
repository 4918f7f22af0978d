-- What a crash leaves of a core's disk where it tears pages of frames that were being written.
use Rattle.std.proofs.Common.{◌≡◌, ◌⊎◌, inl, inr, ⊎_elim, ℕ, zero, suc, ◌≤◌, List, [], ◌∷◌, ◌++◌, length, replicate, false, None, refl, sym, ap, ◌∙◌, subst, le_of_eq, arith}
use Rattle.std.proofs.lemmas.List.{length-replicate}
use Rattle.std.specs.List.{AllByRecursion}
use Rattle.cs_refusal.specs.declared.refusals.Refusal.TheVariants.{DeviceFault}
use Rattle.cs_disk.proofs.Images.{length-applied}
use Rattle.cs_disk.specs.declared.disk.PageDisk.{Ghosts as PageDisk}
use Rattle.cs_disk.specs.Disk.{Image, MayLeave, State as DiskState, page}
use Rattle.cs_extent.proofs.Changes.{whole_new, zeros_at}
use Rattle.cs_extent.specs.State.{IsWhole, State as ExtentsState, shape}
use Rattle.cs_frame.specs.Formats.{formats_of}
use Rattle.cs_frame.specs.Geometries.{IsGeometry, section_size}
use Rattle.cs_reader.specs.ImageReads.{page_total}
use Rattle.law_machine.proofs.Kept.{history_on}
use Rattle.law_machine.proofs.Staying.{frontier_rises}
use Rattle.law_machine.specs.Device.{Page, Shape}
use Rattle.law_machine.specs.Element.{Map}
use Rattle.law_machine.specs.Events.{IsFrontier}
use Rattle.law_machine.specs.Geometry.{shape_of}
use Rattle.law_machine.specs.Open.{opened_state}
use Rattle.law_machine.specs.Recovery.{Recovers}
use Rattle.law_machine.specs.Sound.{Sound}
use Rattle.law_machine.specs.State as model
use Rattle.law_machine.specs.State.{Command, State, command_of}
use Rattle.law_refinement.proofs.CrashesLeft.{prefix_wider, torn_leaves_from}
use Rattle.law_refinement.specs.Crashes.{IsPrefix, IsTornFrom}
use Rattle.law_refinement.specs.Devices.{IsDiskOf}
use Rattle.cs_core.specs.declared.events.Event.{Event}
use Rattle.cs_core.specs.declared.events.Event.TheVariants.{End, Issue}
use Rattle.cs_core.specs.declared.events.Reply.{Reply}
use Rattle.cs_core.specs.declared.events.Reply.TheVariants.{Ended, Issued, Refused}
use Rattle.cs_core.specs.Disks.{IsDiskAfter}
use Rattle.cs_core.specs.Meanings.{commands_said, event_of}
use Rattle.cs_core.specs.States.{IsStateOf}
use Rattle.cs_core.specs.Stored.{Stored}
use Rattle.cs_core.specs.Views.{Applies, IsCore, IsFull, IsIn, IsReached, IsStep, View}
use Rattle.cs_core.proofs.Crashes.{commands_reached}
use Rattle.cs_core.specs.Prefixes.{IsPrefixOf}

-- ---- some extents of a geometry keep what all extents keep

abbrev HasGeometry : ExtentsState → Type 0
HasGeometry x = IsGeometry x.format (length x.written) x.pages x.sections

-- so many extents that are empty
abbrev rows : ExtentsState → List (ℕ × ℕ)
rows x = replicate (length x.written) (0, 0)

as_many : (x : ExtentsState) → length (rows x) ≡ length x.written
as_many x = length-replicate {A = ℕ × ℕ} (length x.written) (0, 0)

empty_rows : (pages n : ℕ) → AllByRecursion (λ (row : ℕ × ℕ). row.0 ≤ pages) (replicate n (0, 0))
empty_rows pages zero = tt
empty_rows pages (suc n) = (omega arith, empty_rows pages n)

-- the same device, with nothing written on its extents
abbrev emptied : ExtentsState → ExtentsState
emptied x = record {
  format = x.format;
  pages = x.pages;
  sections = x.sections;
  written = rows x;
  resets = replicate (length (rows x)) 0;
  swept = replicate (length (rows x)) false;
  open_extent = None;
  of_runs = replicate (length (rows x)) false;
  found = replicate (length (rows x)) 0;
  fresh = None;
  last = None;
}

emptied_whole : (x : ExtentsState) → HasGeometry x → IsWhole (emptied x)
emptied_whole x geometry = whole_new x.format x.pages x.sections (rows x) (subst (λ (n : ℕ). IsGeometry x.format n x.pages x.sections) (sym (as_many x)) geometry) (empty_rows x.pages (length x.written))
    (replicate (length (rows x)) 0) (replicate (length (rows x)) false) (replicate (length (rows x)) false) (replicate (length (rows x)) 0) refl refl refl
    (length-replicate {A = ℕ} (length (rows x)) 0)
    (λ e. let none = zeros_at (length (rows x)) e in omega (arith, none))

emptied_shape : (x : ExtentsState) → shape x ≡ shape (emptied x)
emptied_shape x = ap (λ (n : ℕ). shape_of n x.pages x.sections (section_size n x.sections) x.format) (sym (as_many x))

-- ---- between two calls

module _ (x : ExtentsState) (whole : IsWhole x) where
  torn_there : (opened : Image) (history : List (Event × Reply)) (s : State) (disk : DiskState) (frontier accepted : ℕ) (left image : Image)
      → IsReached (shape x) (formats_of (shape x)) opened history s → Sound (shape x) (formats_of (shape x)) s → IsFrontier (shape x) (formats_of (shape x)) s frontier → length s.commands ≡ accepted
      → IsDiskOf (shape x) (formats_of (shape x)) s disk → length disk.durable ≡ page_total (shape x) → MayLeave disk left → IsTornFrom (shape x) disk left image
      → IsPrefix (shape x) (page opened) (commands_said history) frontier accepted image
  torn_there opened history s disk frontier accepted left image reached sound front many on size may torn =
      let from = history_on (shape x) (formats_of (shape x)) (opened_state (shape x) (formats_of (shape x)) (page opened) reached.count reached.start reached.gives) s reached.events reached.legal in
      let gives : Recovers (shape x) (formats_of (shape x)) s.opened s.count s.start =
      subst (λ (img : ℕ → Page). Recovers (shape x) (formats_of (shape x)) img s.count s.start) (sym from.opened)
      (subst (λ (n : ℕ). Recovers (shape x) (formats_of (shape x)) (page opened) n s.start) (sym from.count)
      (subst (λ (m : Map). Recovers (shape x) (formats_of (shape x)) (page opened) reached.count m) (sym from.start) reached.gives)) in
      let prefix : IsPrefix (shape x) s.opened s.commands frontier (length s.commands) image = torn_leaves_from x s disk left image whole sound on size may torn frontier gives front in
      subst (λ (img : ℕ → Page). IsPrefix (shape x) img (commands_said history) frontier accepted image) from.opened
      (subst (λ (cs : List Command). IsPrefix (shape x) s.opened cs frontier accepted image) (commands_reached (shape x) (formats_of (shape x)) opened history s reached)
      (subst (λ (n : ℕ). IsPrefix (shape x) s.opened s.commands frontier n image) many prefix))

  -- for a store of the same shape
  torn_of : (v : Stored) → shape v.extents ≡ shape x → (opened : Image) (history : List (Event × Reply)) (s : State) (disk : DiskState) (left image : Image)
      → IsReached (shape v.extents) (formats_of (shape v.extents)) opened history s → IsStateOf v s → IsDiskOf (shape v.extents) (formats_of (shape v.extents)) s disk
      → length disk.durable ≡ page_total (shape v.extents) → MayLeave disk left → IsTornFrom (shape v.extents) disk left image
      → IsPrefix (shape v.extents) (page opened) (commands_said history) v.frontier v.accepted image
  torn_of v same opened history s disk left image reached is on size may torn =
      subst (λ (S : Shape). IsPrefix S (page opened) (commands_said history) v.frontier v.accepted image) (sym same)
      (torn_there opened history s disk v.frontier v.accepted left image
      (subst (λ (S : Shape). IsReached S (formats_of S) opened history s) same reached)
      (subst (λ (S : Shape). Sound S (formats_of S) s) same is.sound)
      (subst (λ (S : Shape). IsFrontier S (formats_of S) s v.frontier) same is.frontier)
      is.accepted
      (subst (λ (S : Shape). IsDiskOf S (formats_of S) s disk) same on)
      (size ∙ ap page_total same)
      may
      (subst (λ (S : Shape). IsTornFrom S disk left image) same torn))

-- ---- within one

-- an event that isn't Issue or End leaves the disk as it was
after_quiet : (old : Stored) (disk : DiskState) (event : Event) (reply : Reply) (after : DiskState) → IsDiskAfter old disk event reply after
    → (event ≡ Issue) ⊎ (event ≡ End) ⊎ (after ≡ disk)
after_quiet old disk Issue reply after is = inl refl
after_quiet old disk End reply after is = inr (inl refl)
after_quiet old disk event reply after is = inr (inr is)

-- and none changes how many pages it has
after_size : (old : Stored) (disk : DiskState) (event : Event) (reply : Reply) (after : DiskState) → IsDiskAfter old disk event reply after
    → length after.durable ≡ length disk.durable
after_size old disk Issue (Issued x p) after is = ap (λ (d : DiskState). length d.durable) is.write
after_size old disk Issue (Refused DeviceFault) after is = ⊎_elim (λ same. ap (λ (d : DiskState). length d.durable) same) (λ made. ap (λ (d : DiskState). length d.durable) made.2.write) is
after_size old disk End (Ended n) after is = ap (λ (d : DiskState). length d.durable) is ∙ length-applied disk.durable disk.volatile
after_size old disk event reply after is = ap (λ (d : DiskState). length d.durable) is

-- Issue and End add no command
none_added : (event : Event) (m : model.Reply) → (event ≡ Issue) ⊎ (event ≡ End) → command_of (event_of event) m ≡ []
none_added event m (inl issue) = ap (λ (e : Event). command_of (event_of e) m) issue
none_added event m (inr end) = ap (λ (e : Event). command_of (event_of e) m) end

module _ {D : Type 0} (disks : PageDisk D) where
  -- a core in a state of the machine, over this disk
  torn_in : (v : View D) (s : State) → HasGeometry v.store.extents → IsIn disks.state v s → length (disks.state v.disk).durable ≡ page_total (shape v.store.extents)
      → (left image : Image) → MayLeave (disks.state v.disk) left → IsTornFrom (shape v.store.extents) (disks.state v.disk) left image → IsPrefixOf v image
  torn_in v s geometry is size left image may torn =
      torn_of (emptied v.store.extents) (emptied_whole v.store.extents geometry) v.store (emptied_shape v.store.extents) v.opened v.history s (disks.state v.disk) left image
      is.reached is.store is.disk size may torn

  -- a core, by what each keeps
  pub torn_now : (v : View D) → IsCore disks v → HasGeometry v.store.extents → disks.honest v.disk → length (disks.state v.disk).durable ≡ disks.page_count v.disk
      → (left image : Image) → MayLeave (disks.state v.disk) left → IsTornFrom (shape v.store.extents) (disks.state v.disk) left image → IsPrefixOf v image
  torn_now v core geometry there long left image may torn = let was = core.legal there in
      torn_in v was.0 geometry was.1 (long ∙ core.device) left image may torn

  -- what it holds after an Issue or an End, by the numbers before
  torn_after : (v w : View D) (event : Event) (reply : Reply) → IsCore disks v → HasGeometry v.store.extents → disks.honest v.disk → length (disks.state v.disk).durable ≡ disks.page_count v.disk
      → IsStep disks v event reply w → length (disks.state w.disk).durable ≡ length (disks.state v.disk).durable → (event ≡ Issue) ⊎ (event ≡ End)
      → (left image : Image) → MayLeave (disks.state w.disk) left → IsTornFrom (shape v.store.extents) (disks.state w.disk) left image → IsPrefixOf v image
  torn_after v w event reply core geometry there long went size quiet left image may torn =
      let was = core.legal there in
      let x = v.store.extents in
      let d = went.step there was.0 was.1 in
      let t : State = d.1 in
      let is_then : IsIn disks.state w t = d.4 in
      let after : IsPrefixOf w image = torn_of (emptied x) (emptied_whole x geometry) w.store (went.same_shape ∙ emptied_shape x) w.opened w.history t (disks.state w.disk) left image
      is_then.reached is_then.store is_then.disk (size ∙ long ∙ core.device ∙ ap page_total (sym went.same_shape)) may
      (subst (λ (S : Shape). IsTornFrom S (disks.state w.disk) left image) (sym went.same_shape) torn) in
      let on = history_on (shape x) (formats_of (shape x)) was.0 t ((event_of event, d.0) ∷ []) (t, d.3, refl) in
      let cs : was.0.commands ≡ commands_said v.history = commands_reached (shape x) (formats_of (shape x)) v.opened v.history was.0 was.1.reached in
      let ds : t.commands ≡ commands_said w.history = commands_reached (shape w.store.extents) (formats_of (shape w.store.extents)) w.opened w.history t is_then.reached in
      let none : t.commands ≡ was.0.commands = on.commands ∙ ap (λ (ks : List Command). ks ++ was.0.commands) (none_added event d.0 quiet) in
      let same : commands_said w.history ≡ commands_said v.history = sym ds ∙ none ∙ cs in
      let many : w.store.accepted ≡ v.store.accepted = sym is_then.store.accepted ∙ ap length none ∙ was.1.store.accepted in
      let rises : v.store.frontier ≤ w.store.frontier = frontier_rises (shape x) (formats_of (shape x)) was.0 t (event_of event) d.0 v.store.frontier w.store.frontier was.1.store.sound
      (subst (λ (S : Shape). Sound S (formats_of S) t) went.same_shape is_then.store.sound) d.3 was.1.store.frontier
      (subst (λ (S : Shape). IsFrontier S (formats_of S) t w.store.frontier) went.same_shape is_then.store.frontier) in
      prefix_wider (shape x) (page v.opened) (commands_said v.history) w.store.frontier w.store.accepted v.store.frontier v.store.accepted image rises (le_of_eq many)
      (subst (λ (i : Image). IsPrefix (shape x) (page i) (commands_said v.history) w.store.frontier w.store.accepted image) went.opened
      (subst (λ (ks : List Command). IsPrefix (shape x) (page w.opened) ks w.store.frontier w.store.accepted image) same
      (subst (λ (S : Shape). IsPrefix S (page w.opened) (commands_said w.history) w.store.frontier w.store.accepted image) went.same_shape after)))

  -- what the disk holds before the call or after it
  pub torn_within : (v w : View D) (event : Event) (reply : Reply) (disk : DiskState) → IsCore disks v → HasGeometry v.store.extents → disks.honest v.disk → length (disks.state v.disk).durable ≡ disks.page_count v.disk
      → Applies disks v event reply w → IsDiskAfter v.store (disks.state v.disk) event reply (disks.state w.disk) → (disk ≡ disks.state v.disk) ⊎ (disk ≡ disks.state w.disk)
      → (left image : Image) → MayLeave disk left → IsTornFrom (shape v.store.extents) disk left image → IsPrefixOf v image
  torn_within v w event reply disk core geometry there long applied after holds left image may torn = ⊎_elim before (λ then_is. ⊎_elim (full then_is) (step then_is) applied) holds
    where
      before : disk ≡ disks.state v.disk → IsPrefixOf v image
      before is = torn_now v core geometry there long left image (subst (λ (d : DiskState). MayLeave d left) is may) (subst (λ (d : DiskState). IsTornFrom (shape v.store.extents) d left image) is torn)

      full : disk ≡ disks.state w.disk → IsFull v event reply w → IsPrefixOf v image
      full is kept = before (is ∙ ap (λ (u : View D). disks.state u.disk) kept.same)

      done : disk ≡ disks.state w.disk → IsStep disks v event reply w → (event ≡ Issue) ⊎ (event ≡ End) → IsPrefixOf v image
      done is went quiet = torn_after v w event reply core geometry there long went (after_size v.store (disks.state v.disk) event reply (disks.state w.disk) after) quiet left image
          (subst (λ (d : DiskState). MayLeave d left) is may) (subst (λ (d : DiskState). IsTornFrom (shape v.store.extents) d left image) is torn)

      step : disk ≡ disks.state w.disk → IsStep disks v event reply w → IsPrefixOf v image
      step is went = ⊎_elim (λ issue. done is went (inl issue)) (λ others. ⊎_elim (λ end. done is went (inr end)) (λ same. before (is ∙ same)) others)
          (after_quiet v.store (disks.state v.disk) event reply (disks.state w.disk) after)
