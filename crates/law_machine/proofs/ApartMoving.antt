-- Where chunks and runs lie apart: MoveOne and Retire keep a state sound.
use Rattle.std.proofs.Common.{◌≡◌, inl, inr, ℕ, ◌≤◌, Bool, true, false, List, [], ◌∷◌, Option, Some, None, if◌then◌else◌, le_of_eq, le_trans, refl, sym, ap, ◌∙◌, subst, true≢false}
use Rattle.law_machine.proofs.ApartResets.{swept_below}
use Rattle.law_machine.proofs.ApartStaging.{stages_sound}
use Rattle.law_machine.proofs.Bounds.{not_first, not_found, bounded_same, bounded_entry}
use Rattle.law_machine.proofs.Carries.{carry_reads}
use Rattle.law_machine.proofs.Commands.{in_number, in_room, not_below}
use Rattle.law_machine.proofs.Frames.{added}
use Rattle.law_machine.proofs.Marks.{keeps_abandon, remarked}
use Rattle.law_machine.proofs.Meant.{one_place}
use Rattle.law_machine.proofs.Movings.{length_replaced, moved_holds, moved_value, named_nth}
use Rattle.law_machine.proofs.Parts.{each}
use Rattle.law_machine.proofs.Roots.{moved_entry}
use Rattle.law_machine.proofs.Settling.{settle_all_is}
use Rattle.law_machine.proofs.Rules.{apart_rule, rule_apart}
use Rattle.law_machine.proofs.Weights.{weight_replaced}
use Rattle.law_machine.specs.Apart.{is_place, settle, settle_all, settled}
use Rattle.law_machine.specs.Device.{IsShape, Shape}
use Rattle.law_machine.specs.Element.{Copy, Locator, Opening}
use Rattle.law_machine.specs.Events.{Does, mark, newest_page}
use Rattle.law_machine.specs.Extents.{ForMove}
use Rattle.law_machine.specs.Formats.{ChunkFrame, Formats}
use Rattle.law_machine.specs.Frames.{IsFormat}
use Rattle.law_machine.specs.Grounds.{Refuses, WouldPass}
use Rattle.law_machine.specs.Index.{Reads, live_at, lookup}
use Rattle.law_machine.specs.Lists.{nth, replaced, ◌∈◌}
use Rattle.law_machine.specs.Refusal.{Full, Halted, NotSweepable, Refusal, StillLive, WornOut}
use Rattle.law_machine.specs.Sound.{Bounded, IsCopy, Sound}
use Rattle.law_machine.specs.State.{MoveOne, Moved, Retire, Retired, State, index_now, map_now}

pub place_is : (o : Option Locator) (l : Locator) → is_place o l ≡ true → o ≡ Some l
place_is None l is = absurd (true≢false (sym is))
place_is (Some k) l is = ap (λ (x : Locator). Some x) (one_place k l is)

module _ (S : Shape) (F : Formats) (shape : IsShape S) (format : IsFormat S F) where
  settle_sound : (s : State) (c : Copy) → Sound S F s → Bounded S F s → IsCopy S F s c
      → Sound S F (settle s c) × Bounded S F (settle s c)
  settle_sound s c sound b copy = go (is_place (nth (live_at (index_now s) c.id) c.chunk) c.from) refl
    where
      moved : List Locator
      moved = replaced (live_at (index_now s) c.id) c.chunk c.to

      go : (t : Bool) → is_place (nth (live_at (index_now s) c.id) c.chunk) c.from ≡ t
          → Sound S F (record s { table = if t then record { id = c.id; locators = moved } ∷ s.table else s.table })
          × Bounded S F (record s { table = if t then record { id = c.id; locators = moved } ∷ s.table else s.table })
      go false is = (sound, b)
      go true is =
          let at = place_is (nth (live_at (index_now s) c.id) c.chunk) c.from is in
          let done = moved_value S F shape format s.opening _ _ _ (lookup c.id (index_now s)) (map_now s c.id) c.chunk
          c.from c.to copy.0 (sound.gives.values c.id) (sound.gives.visible_pass c.id) at copy.3 copy.1 copy.2 in (
            moved_entry S F shape format s c.id moved sound done.0
                (moved_holds S F shape format s.opening _ _ _ (live_at (index_now s) c.id) c.chunk c.to
                (λ x has. sound.gives.holds c.id x has) (inr (copy.0, copy.2)))
                done.1,
            bounded_entry S F shape format s c.id moved s.commands b
                (le_trans (weight_replaced S.weigh c.id moved (index_now s)
                (named_nth S F shape format (lookup c.id (index_now s)) c.chunk c.from at)
                (length_replaced S F shape format (live_at (index_now s) c.id) c.chunk c.to)) b.bounds.weight_fits)
                (le_trans (le_of_eq (length_replaced S F shape format (live_at (index_now s) c.id) c.chunk c.to))
                (b.bounds.chunks_fit c.id)) b.bounds.commands_fit,
          )

  settle_all_sound : (s : State) (cs : List Copy) → Sound S F s → Bounded S F s → ((c : Copy) → c ∈ cs → IsCopy S F s c)
      → Sound S F (settle_all s cs) × Bounded S F (settle_all s cs)
  settle_all_sound s [] sound b copies = (sound, b)
  settle_all_sound s (c ∷ cs) sound b copies =
      let rest = settle_all_sound s cs sound b (λ d has. copies d (inr has)) in
      settle_sound (settle_all s cs) c rest.0 rest.1
      (subst (λ (x : State). IsCopy S F x c) (sym (settle_all_is s cs)) (copies c (inl refl)))

  pub settled_sound : (s : State) → Sound S F s → Bounded S F s → ((c : Copy) → c ∈ s.copies → IsCopy S F s c)
      → Sound S F (settled s) × Bounded S F (settled s)
  settled_sound s sound b copies =
      let all = settle_all_sound s s.copies sound b copies in (
        remarked S F shape (settle_all s s.copies) (settle_all s s.copies).world.extents [] all.0 refl (λ d is. is) all.0.swept
            (λ on. record {
              found = (all.0.apart on).found;
              one_sweep = (all.0.apart on).one_sweep;
              copied = λ some c none. absurd none;
            }),
        record { bounds = all.1.bounds; runs_fit = all.1.runs_fit; written_fits = all.1.written_fits },
      )

  module _ (on : S.apart ≡ true) where
    pub retired_ready : (s : State) (e : ℕ) → Sound S F s → Bounded S F s → s.world.extents.swept e ≡ true
        → Sound S F (settled (mark s e false)) × Bounded S F (settled (mark s e false))
    retired_ready s e sound b swept = settled_sound (mark s e false) (keeps_abandon S F shape s e sound swept)
        (record { bounds = b.bounds; runs_fit = b.runs_fit; written_fits = b.written_fits })
        (λ c has. ((sound.apart on).copied
        (swept_below s.world.extents.swept S.extents e (sound.swept e swept).2 swept) c has).0)

    pub keeps_retire_apart : (s t : State) (e v : ℕ) → Sound S F s → Bounded S F s
        → ((f : Refusal) → Refuses S F s (Retire e) f → ⊥) → Does S F s (Retire e) (Retired v) t → Sound S F t
        × Bounded S F t
    keeps_retire_apart s t e v sound b none d =
        let o = apart_rule _ _ S.apart on d in
        let last = not_first WornOut
        (not_first Full (not_first StillLive (not_first NotSweepable (not_first Halted none).1).1).1).1 in
        let fresh = λ (w : WouldPass S F s (Retire e)). last.0 (rule_apart _ _ S.apart on (inl w)) in
        let mid = o.3.0 in let runs = o.3.1 in let is = o.3.3 in
        let ready = retired_ready s e sound b o.0 in
        let room : t.world.root ≤ S.greatest_number = not_below S F shape format _ _
        (λ lt. fresh (Retired v, t, d, inl (inr (inr (inl lt))))) in
        let done = stages_sound S F shape format on (settled (mark s e false)) mid runs ready.0 ready.1
        (le_trans (le_of_eq (sym (ap (λ (x : State). x.world.root) is))) room)
        (in_room S F shape format s t mid.world (Retire e) (Retired v) fresh d
        (ap (λ (x : State). x.world.superblocks) (sym is)))
        (in_number S F shape format s t mid.world (Retire e) (Retired v) fresh d
        (ap (λ (x : State). x.world.written) (sym is))) o.3.2 in (
          subst (λ (x : State). Sound S F x) (sym is) done.0,
          subst (λ (x : State). Bounded S F x) (sym is) done.1,
        )

    pub keeps_move_apart : (s t : State) (e id k : ℕ) → Sound S F s → Bounded S F s
        → ((f : Refusal) → Refuses S F s (MoveOne e) f → ⊥) → Does S F s (MoveOne e) (Moved id k) t → Sound S F t
        × Bounded S F t
    keeps_move_apart s t e id k sound b none d =
        let o = apart_rule _ _ S.apart on d in
        let worn = not_first WornOut
        (not_first Full (not_found (not_first NotSweepable (not_first Halted none).1).1)).1 in
        let l = o.0 in let new = o.1 in let payload = o.2 in let mid = o.3 in
        let copy : Copy = record { id = id; chunk = k; from = l; to = new } in
        let a = added S F shape format true (λ rule. on) s mid ForMove ChunkFrame payload new sound o.8
        (in_room S F shape format s t mid.world (MoveOne e) (Moved id k) worn.0 d
        (ap (λ (x : State). x.world.superblocks) (sym o.9))) in
        let old : Reads S F mid.opening (newest_page mid) mid.world.extents.pointer mid.world.extents.generation l
        (F.frame ChunkFrame payload) =
        subst (λ (h : Opening). Reads S F h (newest_page mid) mid.world.extents.pointer mid.world.extents.generation l
        (F.frame ChunkFrame payload)) (sym a.opening)
        (carry_reads S F s.opening _ _ _ _ _ _ a.carries a.still l (F.frame ChunkFrame payload) o.7) in
        let bm : Bounded S F mid = bounded_same S F shape format s mid
        (in_number S F shape format s t mid.world (MoveOne e) (Moved id k) worn.0 d
        (ap (λ (x : State). x.world.written) (sym o.9))) a.root a.count a.commands a.runs a.table b in (
          subst (λ (x : State). Sound S F x) (sym o.9)
              (remarked S F shape mid mid.world.extents (copy ∷ mid.copies) a.sound refl (λ x is. is) a.sound.swept
              (λ now. record {
                found = (a.sound.apart on).found;
                one_sweep = (a.sound.apart on).one_sweep;
                copied = λ some. each (λ (c : Copy). IsCopy S F mid c × (mid.world.extents.swept c.from.extent ≡ true))
                    copy mid.copies (
                      (payload, old, a.reads (λ fits. o.7.long), ap (λ (h : Opening). h.damage l) a.opening ∙ o.6),
                      ap (λ (f : ℕ → Bool). f l.extent) a.swept
                          ∙ ap s.world.extents.swept o.5.on_it ∙ o.4,
                    )
                    ((a.sound.apart on).copied some);
              })),
          subst (λ (x : State). Bounded S F x) (sym o.9)
              (record { bounds = bm.bounds; runs_fit = bm.runs_fit; written_fits = bm.written_fits }),
        )
