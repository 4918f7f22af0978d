-- MoveOne keeps a state sound.
use Rattle.std.proofs.Common.{◌≡◌, inl, inr, ℕ, zero, suc, true, List, [], ◌∷◌, length, Option, Some, None, le_of_eq, le_trans, refl, sym, ap, ap₂, ◌∙◌, subst, subst₂, arith, false}
use Rattle.law_machine.proofs.Rules.{before_rule}
use Rattle.law_machine.proofs.Parts.{not_apart}
use Rattle.law_machine.specs.Device.{IsShape, Page, Shape}
use Rattle.law_machine.specs.Element.{Content, Entry, Locator, Map, Opening}
use Rattle.law_machine.specs.Events.{Does, newest_page}
use Rattle.law_machine.specs.Extents.{ForMove}
use Rattle.law_machine.specs.Formats.{ChunkFrame, Formats, Stand}
use Rattle.law_machine.specs.Frames.{IsFormat}
use Rattle.law_machine.specs.Grounds.{Refuses}
use Rattle.law_machine.specs.Index.{AllPass, Holds, Passes, Reads, ReadsAs, Value, live, live_at, lookup, named_weight}
use Rattle.law_machine.specs.Lists.{nth, replaced, ◌∈◌}
use Rattle.law_machine.specs.Refusal.{Full, Halted, NotSweepable, Refusal, WornOut}
use Rattle.law_machine.specs.Sound.{Bounded, Sound}
use Rattle.law_machine.specs.State.{MoveOne, Moved, State, after_all, index_now, map_now}
use Rattle.std.specs.Prelude.{is_some}
use Rattle.law_machine.proofs.Bounds.{not_first, not_found, bounded_same, bounded_entry}
use Rattle.law_machine.proofs.Carries.{carry_reads, carry_value, carry_pass, carry_holds}
use Rattle.law_machine.proofs.Frames.{added}
use Rattle.law_machine.proofs.Roots.{moved_entry}
use Rattle.law_machine.proofs.Commands.{same_index, both, in_room, in_number}
use Rattle.law_machine.proofs.Weights.{weight_replaced}

module _ (S : Shape) (F : Formats) (shape : IsShape S) (format : IsFormat S F) where
  moved_reading : (opening : Opening)
      → (img : ℕ → Page) (p g : ℕ → ℕ) (ls : List Locator) (content : Content) (k : ℕ) (l new : Locator)
      (payload : List ℕ) → ReadsAs S F opening img p g ls content → nth ls k ≡ Some l
      → opening.damage l ≡ None → Reads S F opening img p g l (F.frame ChunkFrame payload)
      → Reads S F opening img p g new (F.frame ChunkFrame payload)
      → ReadsAs S F opening img p g (replaced ls k new) content
  moved_reading opening img p g [] content k l new payload all at whole old fresh = absurd
      (let e : None ≡ Some l = at in cc)
  moved_reading opening img p g (x ∷ ls) content zero l new payload (inr bad) at whole old fresh = absurd (
      let is : x ≡ l = (let e : Some x ≡ Some l = at in cc) in let e : None ≡ Some bad.0 = sym whole
      ∙ ap opening.damage (sym is) ∙ bad.1 in cc)
  moved_reading opening img p g (x ∷ ls) content zero l new payload (inl r) at whole old fresh =
      let is : x ≡ l = (let e : Some x ≡ Some l = at in cc) in
      let stands : Stand S F img l.extent l.page (F.frame ChunkFrame r.0) = subst
      (λ (y : Locator). Stand S F img y.extent y.page (F.frame ChunkFrame r.0)) is r.2.stand in
      let same : payload ≡ r.0 = format.one_payload img l.extent l.page ChunkFrame payload r.0
      (let i = old.inside in omega arith) (let i = r.2.inside in omega arith) old.stand stands in
      inl (r.0, r.1, subst (λ (b : List ℕ). Reads S F opening img p g new (F.frame ChunkFrame b)) same fresh, r.3, r.4)
  moved_reading opening img p g (x ∷ ls) content (suc k) l new payload (inr bad) at whole old fresh = inr bad
  moved_reading opening img p g (x ∷ ls) content (suc k) l new payload (inl r) at whole old fresh = inl
      (r.0, r.1, r.2, moved_reading opening img p g ls r.1 k l new payload r.3 at whole old fresh, r.4)

  moved_pass : (img : ℕ → Page) (p g : ℕ → ℕ) (ls : List Locator) (k : ℕ) (new : Locator)
      → ((l : Locator) → l ∈ ls → Passes S F img p g l) → Passes S F img p g new → (l : Locator)
      → l ∈ replaced ls k new → Passes S F img p g l
  moved_pass img p g [] k new all fresh l none = absurd none
  moved_pass img p g (x ∷ ls) zero new all fresh l (inl is) = subst (λ (y : Locator). Passes S F img p g y)
      (sym is) fresh
  moved_pass img p g (x ∷ ls) zero new all fresh l (inr has) = all l (inr has)
  moved_pass img p g (x ∷ ls) (suc k) new all fresh l (inl is) = all l (inl is)
  moved_pass img p g (x ∷ ls) (suc k) new all fresh l (inr has) = moved_pass img p g ls k new
      (λ y h. all y (inr h)) fresh l has

  pub moved_holds : (opening : Opening) → (img : ℕ → Page) (p g : ℕ → ℕ) (ls : List Locator) (k : ℕ) (new : Locator)
      → ((l : Locator) → l ∈ ls → Holds S F opening img p g l) → Holds S F opening img p g new → (l : Locator)
      → l ∈ replaced ls k new → Holds S F opening img p g l
  moved_holds opening img p g [] k new all fresh l none = absurd none
  moved_holds opening img p g (x ∷ ls) zero new all fresh l (inl is) = subst
      (λ (y : Locator). Holds S F opening img p g y) (sym is) fresh
  moved_holds opening img p g (x ∷ ls) zero new all fresh l (inr has) = all l (inr has)
  moved_holds opening img p g (x ∷ ls) (suc k) new all fresh l (inl is) = all l (inl is)
  moved_holds opening img p g (x ∷ ls) (suc k) new all fresh l (inr has) = moved_holds opening img p g ls k new
      (λ y h. all y (inr h)) fresh l has

  pub moved_value : (opening : Opening)
      → (img : ℕ → Page) (p g : ℕ → ℕ) (o : Option (List Locator)) (v : Option Content) (k : ℕ) (l new : Locator)
      (payload : List ℕ) → Value S F opening img p g o v → AllPass S F img p g o → nth (live o) k ≡ Some l
      → opening.damage l ≡ None → Reads S F opening img p g l (F.frame ChunkFrame payload)
      → Reads S F opening img p g new (F.frame ChunkFrame payload)
      → ((y : Locator) → y ∈ replaced (live o) k new → Passes S F img p g y)
      × Value S F opening img p g (Some (replaced (live o) k new)) v
  moved_value opening img p g None v k l new payload value pass at whole old fresh = absurd
      (let e : None ≡ Some l = at in cc)
  moved_value opening img p g (Some []) v k l new payload value pass at whole old fresh = absurd
      (let e : None ≡ Some l = at in cc)
  moved_value opening img p g (Some (x ∷ ls)) v zero l new payload value pass at whole old fresh = (
    moved_pass img p g (x ∷ ls) zero new pass fresh.passes,
    (
      value.0,
      moved_reading opening img p g (x ∷ ls) value.0 zero l new payload value.1 at whole old fresh,
      value.2,
    ),
  )
  moved_value opening img p g (Some (x ∷ ls)) v (suc k) l new payload value pass at whole old fresh = (
    moved_pass img p g (x ∷ ls) (suc k) new pass fresh.passes,
    (
      value.0,
      moved_reading opening img p g (x ∷ ls) value.0 (suc k) l new payload value.1 at whole old fresh,
      value.2,
    ),
  )

  pub length_replaced : (ls : List Locator) (k : ℕ) (new : Locator) → length (replaced ls k new) ≡ length ls
  length_replaced [] k new = refl
  length_replaced (x ∷ ls) zero new = refl
  length_replaced (x ∷ ls) (suc k) new = ap suc (length_replaced ls k new)

  pub named_nth : (o : Option (List Locator)) (k : ℕ) (l : Locator) → nth (live o) k ≡ Some l → is_some o ≡ true
  named_nth None k l at = absurd (let e : None ≡ Some l = at in cc)
  named_nth (Some ls) k l at = refl

  pub keeps_move : S.apart ≡ false → (s t : State) (e id k : ℕ) → Sound S F s → Bounded S F s
      → ((f : Refusal) → Refuses S F s (MoveOne e) f → ⊥) → Does S F s (MoveOne e) (Moved id k) t → Sound S F t
      × Bounded S F t
  keeps_move before s t e id k sound b none d =
      let o = before_rule _ _ S.apart before d in
      let worn = not_first WornOut
      (not_first Full (not_found (not_first NotSweepable (not_first Halted none).1).1)).1 in
      let l = o.0 in let new = o.1 in let payload = o.2 in let mid = o.3 in
      let a = added S F shape format false not_apart s mid ForMove ChunkFrame payload new sound o.8
      (in_room S F shape format s t mid.world (MoveOne e) (Moved id k) worn.0 d
      (ap (λ (x : State). x.world.superblocks) (sym o.9))) in
      let value = carry_value S F s.opening _ _ _ _ _ _ a.carries a.still (lookup id (index_now s)) (map_now s id)
      (sound.gives.values id) in
      let pass = carry_pass S F s.opening _ _ _ _ _ _ a.carries a.still (lookup id (index_now s))
      (sound.gives.visible_pass id) in
      let fresh : Reads S F s.opening (newest_page mid) mid.world.extents.pointer mid.world.extents.generation new
      (F.frame ChunkFrame payload) =
      subst (λ (o : Opening). Reads S F o
      (newest_page mid) mid.world.extents.pointer mid.world.extents.generation new
      (F.frame ChunkFrame payload)) a.opening (a.reads (λ fits. o.7.long)) in
      let done = moved_value s.opening _ _ _ (lookup id (index_now s))
      (map_now s id) k l new payload value pass o.5.there o.6
      (carry_reads S F s.opening _ _ _ _ _ _ a.carries a.still l (F.frame ChunkFrame payload) o.7) fresh in
      let same_map : map_now mid ≡ map_now s = ap₂ after_all a.start a.commands in
      let index = same_index S F shape format s mid a.table a.runs in
      let bm : Bounded S F mid = bounded_same S F shape format s mid
      (in_number S F shape format s t mid.world (MoveOne e) (Moved id k) worn.0 d
      (ap (λ (x : State). x.world.written) (sym o.9))) a.root a.count a.commands a.runs a.table b in
      both S F shape format _ t o.9
      (moved_entry S F shape format mid id _ a.sound done.0
      (subst (λ (o : Opening). (x : Locator) → x ∈ replaced (live_at (index_now s) id) k new
      → Holds S F o (newest_page mid) mid.world.extents.pointer mid.world.extents.generation x) (sym a.opening)
      (moved_holds s.opening _ _ _ (live_at (index_now s) id) k new
      (λ x has. carry_holds S F s.opening _ _ _ _ _ _ a.carries a.still x (sound.gives.holds id x has))
      (inr (payload, fresh))))
      (subst₂ (λ (h : Opening) (v : Option Content). Value S F h
      (newest_page mid) mid.world.extents.pointer mid.world.extents.generation
      (Some (replaced (live_at (index_now s) id) k new)) v) (sym a.opening)
      (ap (λ (m : Map). m id) (sym same_map)) done.1))
      (bounded_entry S F shape format mid id (replaced (live_at (index_now s) id) k new) mid.commands bm
      (le_trans (le_of_eq (ap (λ (es : List Entry). named_weight S.weigh (record { id = id; locators = replaced (live_at (index_now s) id) k new } ∷ es))
      index))
      (le_trans (weight_replaced S.weigh id (replaced (live_at (index_now s) id) k new) (index_now s)
      (named_nth (lookup id (index_now s)) k l o.5.there) (length_replaced (live_at (index_now s) id) k new)) b.bounds.weight_fits))
      (le_trans (le_of_eq (length_replaced (live_at (index_now s) id) k new)) (b.bounds.chunks_fit id))
      bm.bounds.commands_fit)
