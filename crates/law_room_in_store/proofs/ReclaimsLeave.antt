-- What reclaims leave for puts, and what a sync leaves behind a sweep that was given up.
use Rattle.std.proofs.Common.{◌≡◌, inl, inr, ℕ, ◌+◌, ◌-◌, ◌*◌, ◌<◌, ◌≤◌, Bool, true, false, [], ◌∷◌, None, length, le_refl, refl, sym, ap, ◌∙◌, subst, arith}
use Rattle.cs_refusal.specs.declared.refusals.Refusal.TheVariants.{HistoryFull}
use Rattle.cs_disk.specs.declared.disk.PageDisk.{Ghosts as PageDisk}
use Rattle.cs_extent.specs.State.{extents_of, shape}
use Rattle.cs_frame.specs.Formats.{formats_of}
use Rattle.law_machine.specs.Apart.{any_swept}
use Rattle.law_machine.specs.Device.{IsShape, Shape}
use Rattle.law_machine.specs.Extents.{Extents}
use Rattle.law_machine.specs.Frames.{IsFormat}
use Rattle.law_machine.specs.State as model
use Rattle.law_machine.specs.Step.{Step}
use Rattle.law_refinement.proofs.Shapes.{shape_of_store}
use Rattle.law_room.proofs.BrimKept.{left_then}
use Rattle.law_room.proofs.BrimRuns.{along, most_sweeps}
use Rattle.law_room.proofs.MachineAside.{IsOfRound, rounds_leave, stage_marks, staged_fresh, unchanged_fresh}
use Rattle.law_room.proofs.MachineSweeps.{no_sweep}
use Rattle.law_room.proofs.Sharing.{none_fits}
use Rattle.law_room.specs.Brim.{NoneNext, NothingDead, dead_extents}
use Rattle.law_room.specs.OfMachine.{HasRoomNow}
use Rattle.law_room.specs.Rooms.{Room, all_pages, chunk_extents, opened_by}
use Rattle.cs_core.specs.declared.events.Event.TheVariants.{Stage}
use Rattle.cs_core.specs.declared.events.Reply.{Reply}
use Rattle.cs_core.specs.declared.events.Reply.TheVariants.{Refused, Staged, Unchanged}
use Rattle.cs_core.specs.Meanings.{Says}
use Rattle.cs_core.specs.Views.{View}
use Rattle.cs_writeback.specs.Rounds.{events_of_all}
use Rattle.cs_writeback.specs.Syncs.{IsStageDone, Syncs}
use Rattle.law_room_in_store.proofs.CoreRoom.{state_roomy}
use Rattle.law_room_in_store.proofs.CoreSteps.{IsAt}
use Rattle.law_room_in_store.proofs.CoreSweeps.{chunks_counted, room_in}
use Rattle.law_room_in_store.proofs.HavingRoom.{fills_apart, format_is}
use Rattle.law_room_in_store.proofs.KeepingRoom.{IsRoomyState, reached_state, state_of, young_before}
use Rattle.law_room_in_store.proofs.ReclaimChoices.{chose_by, none_within}
use Rattle.law_room_in_store.proofs.ReclaimsChoose.{none_chosen, nothing_dead}
use Rattle.law_room_in_store.proofs.ReclaimsGain.{AreLinked, links, none_below, one_in, reached_in, reclaims_reach}
use Rattle.law_room_in_store.proofs.Reaching.{Anything, IsOfRounds, all_turns, any_sync, reaches_events, reaches_finishes, reaches_ran, reaches_then, reaches_went}
use Rattle.law_room_in_store.specs.Cores.{NoneWornIn}
use Rattle.law_room_in_store.specs.Reclaims.{DeadAtMost, IsIdle, IsReclaim, LiveFewFor, NoneFailed, NothingDeadIn, ReclaimsBy}
use Rattle.law_room_in_store.specs.Roomy.{IsRoomyCore}
use Rattle.law_room_in_store.specs.Sweeps.{AreLeftForPuts, LiveAtMost, chunk_extents_of}

-- where no call of the disk failed as one more found nothing to sweep, none failed before that either
pub none_parts : {D : Type 0} (disks : PageDisk D) (v w x : View D) (k : ℕ) → ReclaimsBy disks k v w → IsReclaim disks w None x → NoneFailed disks v x
    → NoneFailed disks v w × NoneFailed disks w x
none_parts disks v w x k by call none = (
  none_within disks v v w x (le_refl (disks.failure_count v.disk)) (reaches_ran disks w x call.ran).later none,
  none_within disks v w x x (reclaims_reach disks k v w by).later (le_refl (disks.failure_count x.disk)) none,
)

-- a state of w with a room in which nothing is dead and at most so many pages live
pub record RestsAt {D : Type 0} (disks : PageDisk D) (v w : View D) (live : ℕ) : Type 0 where
  pub of_state : model.State
  pub here : IsAt disks (shape v.store.extents) w of_state
  pub room : Room
  pub has : HasRoomNow (shape v.store.extents) (formats_of (shape v.store.extents)) of_state room
  pub rests : room.sweep ≡ None
  pub nothing : NothingDead (shape v.store.extents) room
  pub few : all_pages room.chunks ≤ live

module _ {D : Type 0} (disks : PageDisk D) (sized : (d : D) → disks.honest d → length (disks.state d).durable ≡ disks.page_count d)
    (v : View D) (roomy : IsRoomyCore disks v) (idle : IsIdle v) where
  abbrev S : Shape
  S = shape v.store.extents

  shape_is : IsShape (shape v.store.extents)
  shape_is = shape_of_store v.store.extents roomy.geometry

  abbrev s : model.State
  s = (roomy.core.legal roomy.honest).0

  at_start : IsAt disks (shape v.store.extents) v s
  at_start = record { same = refl; honest = roomy.honest; is_in = (roomy.core.legal roomy.honest).1 }

  -- its room
  first : NoneWornIn v → (r : Room) × HasRoomNow (shape v.store.extents) (formats_of (shape v.store.extents)) s r
  first young = let r = state_roomy disks v roomy.geometry roomy.apart roomy.room young s at_start.is_in in (r.0, r.1.room)

  no_mark : any_swept (shape v.store.extents) s ≡ false
  no_mark = none_below s.world.extents.swept (shape v.store.extents).extents
      (λ e lt. ap (λ (x : Extents). x.swept e) at_start.is_in.store.parts.world.extents ∙ idle.none_swept e lt)

  module _ (w : View D) (young : NoneWornIn w) (k : ℕ) (by : ReclaimsBy disks k v w) (none_failed : NoneFailed disks v w) where
    before : NoneWornIn v
    before = young_before disks v w (state_of disks v roomy) (reclaims_reach disks k v w by) young

    linked : AreLinked disks sized (shape v.store.extents) shape_is (format_is v.store.extents roomy.geometry) roomy.apart k
        (first before).0 w
    linked = links disks sized (shape v.store.extents) shape_is (format_is v.store.extents roomy.geometry) roomy.apart k v w roomy young
        idle by none_failed s at_start (first before).0 (first before).1

    -- as many extents hold chunks as in room
    as_left : (n : ℕ) → chunk_extents linked.after (shape v.store.extents).extents + n + (shape v.store.extents).run_extents + 2
        ≤ (shape v.store.extents).extents → AreLeftForPuts n w
    as_left n left = subst (λ (T : Shape). chunk_extents_of w + n + T.run_extents + 2 ≤ T.extents) (sym linked.here.same)
        (subst (λ (j : ℕ). j + n + (shape v.store.extents).run_extents + 2 ≤ (shape v.store.extents).extents)
        (chunks_counted disks (shape v.store.extents) w linked.then_in linked.after linked.here linked.has.room) left)

    some : 1 ≤ (shape v.store.extents).run_extents
    some = (shape_is.apart roomy.apart).2

    no_sweep_goes : (first before).0.sweep ≡ None
    no_sweep_goes = no_sweep (shape v.store.extents) s (first before).0.sweep no_mark (first before).1.room.sweep

    filled : (shape v.store.extents).fills ≡ true
    filled = fills_apart v.store.extents.format roomy.apart

    -- so many sweeps were made at most
    most : k + dead_extents linked.after (shape v.store.extents).extents + 2 * chunk_extents linked.after (shape v.store.extents).extents
        ≤ dead_extents (first before).0 (shape v.store.extents).extents
        + 2 * chunk_extents (first before).0 (shape v.store.extents).extents + 1
    most = most_sweeps (shape v.store.extents) (shape v.store.extents).run_extents k (first before).0 linked.after some filled
        (first before).1.keeps linked.swept

    dead_first : (dead : ℕ) → DeadAtMost disks.state v dead → dead_extents (first before).0 (shape v.store.extents).extents ≤ dead
    dead_first dead at_most = at_most (first before).0
        (room_in disks (shape v.store.extents) v s (first before).0 at_start (first before).1.room)

    -- two reclaims for each of n extents leave these, and one for each extent with dead pages
    pub left_by_all : (n dead : ℕ) → DeadAtMost disks.state v dead → 2 * n + dead ≤ k → AreLeftForPuts n w
    left_by_all n dead at_most enough =
        let quota : chunk_extents (first before).0 (shape v.store.extents).extents + (shape v.store.extents).run_extents + 2
        ≤ (shape v.store.extents).extents + opened_by (first before).0.sweep = (first before).1.keeps.quotas.chunks in
        let no_fresh : opened_by (first before).0.sweep ≡ 0 = ap opened_by no_sweep_goes in
        as_left n (omega (arith, most, dead_first dead at_most, enough, quota, no_fresh))

    -- so many are made at most
    pub reclaims_end : (dead : ℕ) → DeadAtMost disks.state v dead → k + 2 * chunk_extents_of w ≤ dead + 2 * chunk_extents_of v + 1
    reclaims_end dead at_most =
        let was : chunk_extents (first before).0 (shape v.store.extents).extents ≡ chunk_extents_of v =
        chunks_counted disks (shape v.store.extents) v s (first before).0 at_start (first before).1.room in
        let now : chunk_extents linked.after (shape v.store.extents).extents ≡ chunk_extents_of w =
        chunks_counted disks (shape v.store.extents) w linked.then_in linked.after linked.here linked.has.room in
        omega (arith, most, dead_first dead at_most, was, now)

    -- fewer do, where a further one finds nothing to sweep and little enough lives
    pub left_by_fewer : (n pages : ℕ) (x : View D) → (shape v.store.extents).run_extents + n + 3 ≤ (shape v.store.extents).extents
        → LiveAtMost disks.state v pages
        → 2 * pages < ((shape v.store.extents).extents - ((shape v.store.extents).run_extents + 1 + n))
        * ((shape v.store.extents).pages + 1)
        → IsReclaim disks w None x → NoneFailed disks w x → AreLeftForPuts n w
    left_by_fewer n pages x large live share call none_behind =
        let few : all_pages (first before).0.chunks ≤ pages = live (first before).0
        (room_in disks (shape v.store.extents) v s (first before).0 at_start (first before).1.room) in
        let has : HasRoomNow (shape w.store.extents) (formats_of (shape w.store.extents)) linked.then_in linked.after =
        subst (λ (T : Shape). HasRoomNow T (formats_of T) linked.then_in linked.after) (sym linked.here.same) linked.has in
        let none : NoneNext (shape v.store.extents) (shape v.store.extents).run_extents linked.after =
        subst (λ (T : Shape). NoneNext T T.run_extents linked.after) linked.here.same
        (none_chosen disks sized w x None call (chose_by disks sized w linked.roomy x None call linked.then_in linked.here.is_in) none_behind
        linked.roomy linked.idle linked.then_in linked.here.is_in linked.after has linked.after has.room has.keeps refl) in
        let all : all_pages linked.after.chunks ≡ all_pages (first before).0.chunks =
        (along (shape v.store.extents) (shape v.store.extents).run_extents k (first before).0 linked.after some (first before).1.keeps
        no_sweep_goes linked.swept).2 in
        as_left n (none_fits (shape v.store.extents) (shape v.store.extents).run_extents n linked.after large
        (omega (arith, few, share, all)) none.no_two)

    -- by the greatest chunk
    pub left_by_greatest : (n c : ℕ) (x : View D) → (shape v.store.extents).run_extents + n + 3 ≤ (shape v.store.extents).extents
        → LiveFewFor disks.state v n c → IsReclaim disks w None x → NoneFailed disks w x → AreLeftForPuts n w
    left_by_greatest n c x large few call none_behind =
        let has : HasRoomNow (shape w.store.extents) (formats_of (shape w.store.extents)) linked.then_in linked.after =
        subst (λ (T : Shape). HasRoomNow T (formats_of T) linked.then_in linked.after) (sym linked.here.same) linked.has in
        as_left n (left_then (shape v.store.extents) (shape v.store.extents).run_extents n c k (first before).0 linked.after some
        (first before).1.keeps no_sweep_goes large
        (few (first before).0 (room_in disks (shape v.store.extents) v s (first before).0 at_start (first before).1.room)) linked.swept
        (subst (λ (T : Shape). NoneNext T T.run_extents linked.after) linked.here.same
        (none_chosen disks sized w x None call (chose_by disks sized w linked.roomy x None call linked.then_in linked.here.is_in) none_behind
        linked.roomy linked.idle linked.then_in linked.here.is_in linked.after has linked.after has.room has.keeps refl)))

    -- where a further one finds nothing to sweep, nothing is dead, and no more lives than before
    pub rests_at : (live : ℕ) (x : View D) → LiveAtMost disks.state v live → IsReclaim disks w None x → NoneFailed disks w x → RestsAt disks v w live
    rests_at live x most call none_behind =
        let few : all_pages (first before).0.chunks ≤ live = most (first before).0
        (room_in disks (shape v.store.extents) v s (first before).0 at_start (first before).1.room) in
        let has : HasRoomNow (shape w.store.extents) (formats_of (shape w.store.extents)) linked.then_in linked.after =
        subst (λ (T : Shape). HasRoomNow T (formats_of T) linked.then_in linked.after) (sym linked.here.same) linked.has in
        let left = along (shape v.store.extents) (shape v.store.extents).run_extents k (first before).0 linked.after some (first before).1.keeps
        no_sweep_goes linked.swept in
        let all : all_pages linked.after.chunks ≡ all_pages (first before).0.chunks = left.2 in record {
          of_state = linked.then_in;
          here = linked.here;
          room = linked.after;
          has = linked.has;
          rests = left.1;
          nothing = subst (λ (T : Shape). NothingDead T linked.after) linked.here.same
              (nothing_dead disks sized w x None call (chose_by disks sized w linked.roomy x None call linked.then_in linked.here.is_in) none_behind
              linked.roomy linked.idle linked.then_in linked.here.is_in linked.after has linked.after has.room refl);
          few = omega (arith, few, all);
        }

-- a call that finds nothing to sweep says that nothing is dead
module _ {D : Type 0} (disks : PageDisk D) (sized : (d : D) → disks.honest d → length (disks.state d).durable ≡ disks.page_count d)
    (v x : View D) (roomy : IsRoomyCore disks v) (idle : IsIdle v) (young : NoneWornIn v) (call : IsReclaim disks v None x)
    (unfailed : NoneFailed disks v x) where
  pub none_dead : NothingDeadIn disks.state v
  none_dead r is =
      let first = state_roomy disks v roomy.geometry roomy.apart roomy.room young is.of_state is.is_in in
      nothing_dead disks sized v x None call (chose_by disks sized v roomy x None call is.of_state is.is_in) unfailed roomy idle
      is.of_state is.is_in first.0 first.1.room r is.room refl

-- ---- syncs

of_rounds : IsOfRounds IsOfRound
of_rounds = record { begin = tt; issue = tt; end = tt }

not_full : (reply : Reply) → IsStageDone reply → reply ≡ Refused HistoryFull → ⊥
not_full reply (inl (n, is)) wrong = let no : Staged n ≡ Refused HistoryFull = sym is ∙ wrong in cc
not_full reply (inr is) wrong = let no : Unchanged ≡ Refused HistoryFull = sym is ∙ wrong in cc

module _ {D : Type 0} (disks : PageDisk D) where
  -- after a sync nothing is left of a sweep that was given up
  pub synced_idle : (u v : View D) → IsRoomyState disks u → NoneWornIn v → Syncs disks u v
      → ((e : ℕ) → e < (shape v.store.extents).extents → (extents_of v.store.extents).swept e ≡ false) → IsIdle v
  synced_idle u v roomy young syncs idle =
      let ended = reached_state disks u syncs.ended roomy
      (reaches_finishes disks Anything any_sync u syncs.ended syncs.finished syncs.finishes) in
      let rest = reaches_events disks (events_of_all syncs.turns) syncs.staged v syncs.turned in
      let all = reaches_then disks Anything syncs.ended syncs.staged v
      (reaches_events disks ((Stage, syncs.reply) ∷ []) syncs.ended syncs.staged syncs.stages) rest in
      let ended_young = young_before disks syncs.ended v ended all young in
      let r = state_roomy disks syncs.ended ended.geometry ended.apart ended.room ended_young ended.legal.0 ended.legal.1 in
      let at : IsAt disks (shape syncs.ended.store.extents) syncs.ended ended.legal.0 =
      record { same = refl; honest = ended.honest; is_in = ended.legal.1 } in
      let one = one_in disks (shape syncs.ended.store.extents) syncs.ended syncs.staged Stage syncs.reply ended.legal.0 at
      (not_full syncs.reply syncs.is_staged) syncs.stages in
      let last = reached_in disks (shape syncs.ended.store.extents) IsOfRound syncs.staged v one.then_in one.here
      (reaches_went disks IsOfRound (events_of_all syncs.turns) syncs.staged v (all_turns IsOfRound of_rounds syncs.turns) syncs.turned) in
      let shape_is = shape_of_store syncs.ended.store.extents ended.geometry in
      let format = format_is syncs.ended.store.extents ended.geometry in
      let same : last.0.world.extents ≡ one.then_in.world.extents = rounds_leave (shape syncs.ended.store.extents)
      (formats_of (shape syncs.ended.store.extents)) shape_is format ended.apart one.then_in last.0 last.2 last.3 last.4 in
      let are : last.0.world.extents ≡ extents_of v.store.extents = last.1.is_in.store.parts.world.extents in
      let marks : ended.legal.0.world.extents.swept ≡ (extents_of v.store.extents).swept =
      sym (stage_marks (shape syncs.ended.store.extents) (formats_of (shape syncs.ended.store.extents)) shape_is format ended.apart
      ended.legal.0 one.then_in one.told one.step) ∙ ap (λ (x : Extents). x.swept) (sym same ∙ are) in
      let none : any_swept (shape syncs.ended.store.extents) ended.legal.0 ≡ false = none_below ended.legal.0.world.extents.swept
      (shape syncs.ended.store.extents).extents
      (λ e lt. ap (λ (f : ℕ → Bool). f e) marks ∙ idle e (subst (λ (T : Shape). e < T.extents) (sym last.1.same) lt)) in
      let fresh : one.then_in.world.extents.fresh ≡ None = by (shape syncs.ended.store.extents) shape_is format ended.apart
      ended.legal.0 one.then_in r.0 r.1.room none syncs.reply one.told syncs.is_staged one.says one.step in record {
        none_swept = idle;
        none_opened = ap (λ (x : Extents). x.fresh) (sym are ∙ same) ∙ fresh;
      }
    where
      by : (S : Shape) (shape_is : IsShape S) (format : IsFormat S (formats_of S)) (apart : S.apart ≡ true) (s t : model.State) (r : Room)
          → HasRoomNow S (formats_of S) s r → any_swept S s ≡ false → (reply : Reply) (m : model.Reply) → IsStageDone reply
          → Says S (formats_of S) reply m → Step S (formats_of S) s model.Stage m t → t.world.extents.fresh ≡ None
      by S shape_is format apart s t r has none reply m (inl (n, is)) says step =
          let told : m ≡ model.Staged n = subst (λ (x : Reply). Says S (formats_of S) x m) is says in
          staged_fresh S (formats_of S) shape_is format apart s t n none
          (subst (λ (x : model.Reply). Step S (formats_of S) s model.Stage x t) told step)
      by S shape_is format apart s t r has none reply m (inr is) says step =
          let told : m ≡ model.Unchanged = subst (λ (x : Reply). Says S (formats_of S) x m) is says in
          unchanged_fresh S (formats_of S) shape_is format apart s t r has none
          (subst (λ (x : model.Reply). Step S (formats_of S) s model.Stage x t) told step)
