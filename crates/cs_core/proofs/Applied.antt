-- What a core keeps once it has served an event, and what a crash leaves of it.
use Rattle.std.proofs.Common.{◌≡◌, ◌∙◌, ℕ, ◌<◌, List, [], ◌∷◌, ◌++◌, Ok, Err, drop, length, length-append, refl, sym, ap, subst, arith}
use Rattle.cs_disk.specs.declared.disk.PageDisk.{Ghosts as PageDisk}
use Rattle.cs_disk.specs.Disk.{Image, Leaves, LeavesOnly, MayLeave, State as DiskState}
use Rattle.cs_extent.specs.State.{IsWhole, shape}
use Rattle.cs_frame.specs.Formats.{formats_of}
use Rattle.law_machine.specs.Device.{Shape}
use Rattle.law_machine.specs.State as model
use Rattle.law_machine.specs.Step.{Step}
use Rattle.law_refinement.specs.Devices.{IsDiskOf}
use Rattle.cs_core.specs.declared.events.Event.{Event}
use Rattle.cs_core.specs.declared.events.OutOfMemory.{OutOfMemory}
use Rattle.cs_core.specs.declared.events.Reply.{Reply}
use Rattle.cs_core.specs.Answered.{IsLimited}
use Rattle.cs_core.specs.Meanings.{Says, event_of}
use Rattle.cs_core.specs.Puts.{ArePutsMeant}
use Rattle.cs_core.specs.Served.{IsServed}
use Rattle.cs_core.specs.States.{IsStateOf}
use Rattle.cs_core.specs.Stored.{Stored, but_for_room}
use Rattle.cs_core.specs.Views.{IsCore, IsFound, IsIn, IsReached, IsStep, View}
use Rattle.cs_core.proofs.Answering.{answered_means}
use Rattle.cs_core.proofs.Applies.{goes}
use Rattle.cs_core.proofs.Crashes.{crash_within, left_of, still_before}
use Rattle.cs_core.specs.Prefixes.{IsPrefixOf}
use Rattle.cs_core.proofs.Leaving.{left_now}
use Rattle.cs_core.proofs.Saying.{puts_kept}
use Rattle.cs_reader.specs.ImageReads.{page_total}

-- what is kept of an event: its copy, and the reply that was told
pub kept_is : (now reserved history : List (Event × Reply)) (event copy : Event) (told noted : Reply) → now ≡ reserved ++ (copy, noted) ∷ [] → reserved ≡ history → copy ≡ event → told ≡ noted → now ≡ history ++ (event, told) ∷ []
kept_is now reserved history event copy told noted is reserves copies twice = is ∙ ap (λ (h : List (Event × Reply)). h ++ (copy, noted) ∷ []) reserves
    ∙ ap (λ (e : Event). history ++ (e, noted) ∷ []) copies ∙ ap (λ (r : Reply). history ++ (event, r) ∷ []) (sym twice)

-- a core of these parts, whose store is compared but for rooms
abbrev pub core_of : {D : Type 0} → (disk : D) (opened : Image) (found : ℕ × ℕ) (store : Stored) (history : List (Event × Reply)) (base limit : ℕ) → View D
core_of disk opened found store history base limit = record { disk = disk; opened = opened; found = found; store = but_for_room store; history = history; base = base; limit = limit }

module _ {D : Type 0} (disks : PageDisk D) {v w : Stored} {disk after : D} {event : Event} {opened : Image} {found : ℕ × ℕ} {history : List (Event × Reply)} {base limit : ℕ}
    (core : IsCore disks (core_of disk opened found v history base limit)) where
  -- the event was done or refused, and is kept
  module _ {told : Reply × Reply} (served : IsServed disks v disk event (Ok told) w after) (kept : List (Event × Reply)) (is : kept ≡ history ++ (event, told.0) ∷ []) (first : ℕ) (same : first ≡ base) where
    went : disks.honest disk → (s : model.State) → IsIn disks.state (core_of disk opened found v history base limit) s
        → (m : model.Reply) × (t : model.State) × Says (shape v.extents) (formats_of (shape v.extents)) told.0 m
        × Step (shape v.extents) (formats_of (shape v.extents)) s (event_of event) m t × IsIn disks.state (core_of after opened found w kept first limit) t
    went there s was =
        let d = goes disks.state v w disk after opened found history base first limit limit event told.0 served.same_shape (served.step there) s was in
        (d.0, d.1, d.2, d.3, subst (λ (h : List (Event × Reply)). IsIn disks.state (core_of after opened found w h first limit) d.1) (sym is) d.4)

    pub core_then : IsCore disks (core_of after opened found w kept first limit)
    core_then = record {
      device = served.pages ∙ core.device ∙ ap page_total (sym served.same_shape);
      replaced = omega (arith, same, core.replaced, ap length is, length-append history ((event, told.0) ∷ []));
      puts = subst (λ (h : List (Event × Reply)). ArePutsMeant h (but_for_room w)) (sym is)
          (puts_kept (but_for_room v) (but_for_room w) served.same_shape event told.0 history (answered_means (but_for_room v) (but_for_room w) event told.0 served.answered) core.puts);
      sized = λ there. core.sized (served.honesty.1 there) ∙ ap page_total (sym served.same_shape);
      legal = λ there. let was = core.legal (served.honesty.1 there) in let d = went (served.honesty.1 there) was.0 was.1 in (d.1, d.4);
      begun = λ there. subst (λ (S : Shape). IsFound S opened found) (sym served.same_shape) (core.begun (served.honesty.1 there));
    }

    pub step_then : (IsLimited event → length (drop base history) < limit) → IsStep disks (core_of disk opened found v history base limit) event told.0 (core_of after opened found w kept first limit)
    step_then room = record {
      room = room;
      history = is;
      base = same;
      opened = refl;
      found = refl;
      limit = refl;
      same_shape = served.same_shape;
      means = answered_means (but_for_room v) (but_for_room w) event told.0 served.answered;
      cause = served.cause;
      later = served.later;
      step = went;
    }

    pub left_then : IsWhole v.extents → disks.honest disk → length (disks.state after).durable ≡ disks.page_count after → Leaves (disks.state after) (IsPrefixOf (core_of after opened found w kept first limit))
    left_then whole there long = let was = core_then.legal (served.honesty.0 there) in
        left_of v.extents whole (but_for_room w) served.same_shape opened kept was.0 (disks.state after) was.1.reached was.1.store was.1.disk (long ∙ served.pages ∙ core.device)

    pub crash_then : IsWhole v.extents → disks.honest disk → length (disks.state disk).durable ≡ disks.page_count disk → length (disks.state after).durable ≡ disks.page_count after
        → ((c : Image) → disks.left_since disk (disks.moment disk) c → MayLeave (disks.state disk) c) → LeavesOnly disks.moment disks.left_since disk after (IsPrefixOf (core_of disk opened found v history base limit))
    crash_then whole there long long_then only_now =
        let was = core.legal there in
        let d = goes disks.state v w disk after opened found history base first limit limit event told.0 served.same_shape (served.step there) was.0 was.1 in
        still_before disks.state disks.moment disks.left_since disk after (IsPrefixOf (core_of disk opened found v history base limit)) (left_now disks core whole there long) only_now (served.time there)
        (crash_within v.extents whole (but_for_room v) (but_for_room w) refl served.same_shape opened history event told.0 was.0 d.1 (disks.state disk) (disks.state after)
        was.1.reached was.1.store was.1.disk d.4.reached d.4.store d.4.disk (long ∙ core.device) (long_then ∙ served.pages ∙ core.device) served.rises (served.quiet there))

  -- there was no memory for it
  module _ {error : OutOfMemory} (served : IsServed disks v disk event (Err error) w after) (kept : List (Event × Reply)) (is : kept ≡ history) (first : ℕ) (same : first ≡ base) where
    pub core_untouched : IsCore disks (core_of after opened found w kept first limit)
    core_untouched = record {
      device = served.pages ∙ core.device ∙ ap page_total (sym served.same_shape);
      replaced = omega (arith, same, core.replaced, ap length is);
      puts = subst (λ (h : List (Event × Reply)). ArePutsMeant h (but_for_room w)) (sym is) (subst (λ (u : Stored). ArePutsMeant history u) (sym served.refused) core.puts);
      sized = λ there. core.sized (served.honesty.1 there) ∙ ap page_total (sym served.same_shape);
      legal = λ there. let was = core.legal (served.honesty.1 there) in (
        was.0,
        record {
          store = subst (λ (u : Stored). IsStateOf u was.0) (sym served.refused) was.1.store;
          disk = subst (λ (d : DiskState). IsDiskOf (shape w.extents) (formats_of (shape w.extents)) was.0 d) (sym (served.same (served.honesty.1 there)))
              (subst (λ (S : Shape). IsDiskOf S (formats_of S) was.0 (disks.state disk)) (sym served.same_shape) was.1.disk);
          reached = subst (λ (h : List (Event × Reply)). IsReached (shape w.extents) (formats_of (shape w.extents)) opened h was.0) (sym is)
              (subst (λ (S : Shape). IsReached S (formats_of S) opened history was.0) (sym served.same_shape) was.1.reached);
        },
      );
      begun = λ there. subst (λ (S : Shape). IsFound S opened found) (sym served.same_shape) (core.begun (served.honesty.1 there));
    }

    pub left_untouched : IsWhole v.extents → disks.honest disk → length (disks.state after).durable ≡ disks.page_count after → Leaves (disks.state after) (IsPrefixOf (core_of after opened found w kept first limit))
    left_untouched whole there long = let was = core_untouched.legal (served.honesty.0 there) in
        left_of v.extents whole (but_for_room w) served.same_shape opened kept was.0 (disks.state after) was.1.reached was.1.store was.1.disk (long ∙ served.pages ∙ core.device)

    pub crash_untouched : IsWhole v.extents → disks.honest disk → length (disks.state disk).durable ≡ disks.page_count disk
        → ((c : Image) → disks.left_since disk (disks.moment disk) c → MayLeave (disks.state disk) c) → LeavesOnly disks.moment disks.left_since disk after (IsPrefixOf (core_of disk opened found v history base limit))
    crash_untouched whole there long only_now = let here = left_now disks core whole there long in
        still_before disks.state disks.moment disks.left_since disk after (IsPrefixOf (core_of disk opened found v history base limit)) here only_now (served.time there)
        (subst (λ (d : DiskState). Leaves d (IsPrefixOf (core_of disk opened found v history base limit))) (sym (served.same there)) here)
