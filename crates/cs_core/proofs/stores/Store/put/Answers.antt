use Rattle.std.proofs.Common.{◌≡◌, ◌∙◌, inl, inr, Bool, false, ◌+◌, ◌^◌, ◌≤◌, ◌<◌, Err, length, ap, arith, refl, sym, subst}
use Rattle.std.specs.Prelude.{map}
use Rattle.cs_refusal.specs.declared.refusals.Refusal.TheVariants as code
use Rattle.cs_deps.specs.State.{State as GraphState}
use Rattle.cs_extent.specs.State.{shape}
use Rattle.cs_frame.specs.Formats.{place_of}
use Rattle.cs_frame.specs.Locators.{KeepFormat}
use Rattle.cs_index.specs.State.{id_number}
use Rattle.law_machine.specs.Extents.{ForPut}
use Rattle.law_machine.specs.Format.{Format}
use Rattle.law_machine.specs.State.{Accepted, Put}
use Rattle.law_refinement.proofs.Shapes.{store_shape}
use Rattle.cs_core.specs.contracts.stores.Store.{the_view}
use Rattle.cs_core.specs.Steps.{Declines, Steps}
use Rattle.cs_core.specs.Stored.{AreSwept, Stored}
use Rattle.cs_core.proofs.Going.{round_told, roomed}
use Rattle.cs_core.proofs.Kept.{inside_live, inside_set, kept_on, noted_on, places_there, same_format, same_limit, same_live, swept_all}
use Rattle.cs_core.proofs.KeptApart.{kept_apart_roomed}
use Rattle.cs_core.proofs.KeptPuts.{kept_apart_put, placed_all}
use Rattle.cs_core.proofs.Moves.{last_root, moves_all, moves_none, moves_refused, root_all}
use Rattle.cs_core.proofs.PutRefusals.{cut_may, cut_no_fault, cut_unlimited, worn_told}
use Rattle.cs_core.proofs.Puts.{chunks_decline, last_declines, light_enough, light_placed, not_heavy, ok_not, put_done, set_from, test_declines, told_false, too_heavy}
use Rattle.cs_core.proofs.PutsMeant.{set_others}
use Rattle.cs_core.proofs.Saying.{put_means}
use Rattle.cs_core.proofs.stores.Store.put.Goals as goal

pub returns-in_default-clause-step : goal.returns-in_default-clause-step
returns-in_default-clause-step c = subst (λ (u : Stored). u.halted ≡ false → Declines u (Put (id_number c.args.id) c.args.bytes.now) code.TooLarge u) c.self.view_is (λ runs.
    let v : Stored = the_view c.self.inside in
    test_declines v v c.of.ensures.whole (shape v.extents).apart refl c.self.invariant.limit c.self.invariant.format runs refl (id_number c.args.id) c.args.bytes.now code.TooLarge (inl refl) (λ q. c.in_default.ensures.cut) (λ q. absurd (cc q)))

pub returns-then-is_full_for-clause-step : goal.returns-then-is_full_for-clause-step
returns-then-is_full_for-clause-step c = subst (λ (u : Stored). u.halted ≡ false → Declines u (Put (id_number c.args.id) c.args.bytes.now) code.IndexFull u) c.self.view_is (λ runs.
    let v : Stored = the_view c.self.inside in
    let heavy = too_heavy (shape v.extents) v.index (id_number c.args.id) c.count.result c.args.bytes.now (λ pieces cut. c.in-Some.ensures.pieces c.args.bytes.now pieces refl cut ∙ sym c.count.ensures.count)
    ((store_shape v.extents c.of.ensures.whole).some_piece (length c.args.bytes.now)) (c.if-is_full_for.ensures.0 refl) in
    test_declines v v c.of.ensures.whole (shape v.extents).apart refl c.self.invariant.limit c.self.invariant.format runs refl (id_number c.args.id) c.args.bytes.now code.IndexFull (inr refl) (λ q. absurd (cc q)) (λ q. (c.in-Some.ensures.small, heavy)))

pub returns-then-is_worn-clause-step : goal.returns-then-is_worn-clause-step
returns-then-is_worn-clause-step c = subst (λ (u : Stored). u.halted ≡ false → Declines u (Put (id_number c.args.id) c.args.bytes.now) c.why_worn.result u) c.self.view_is (λ runs.
    let v : Stored = the_view c.self.inside in
    let last : 2 ^ 63 ≤ v.base + v.accepted + 1 = subst (λ (u : Stored). 2 ^ 63 ≤ u.base + u.accepted + 1) (sym c.self.view_is) c.if-is_worn.ensures in
    last_declines v v c.of.ensures.whole (shape v.extents).apart refl c.self.invariant.limit c.self.invariant.format runs refl (id_number c.args.id) c.args.bytes.now c.why_worn.result c.in-Some.ensures.small
    (not_heavy (shape v.extents) v.index (id_number c.args.id) c.count.result c.args.bytes.now (λ pieces cut. c.in-Some.ensures.pieces c.args.bytes.now pieces refl cut ∙ sym c.count.ensures.count) (told_false c.if-is_full_for.ensures))
    last (c.why_worn.ensures c.args.bytes.now c.in-Some.ensures.cut))

pub returns-then-is_worn-clause-refusals : goal.returns-then-is_worn-clause-refusals
returns-then-is_worn-clause-refusals c = inr (worn_told (the_view c.self.inside).extents c.args.bytes.now c.why_worn.result c.args.id (c.why_worn.ensures c.args.bytes.now c.in-Some.ensures.cut)).may

pub returns-then-is_worn-clause-no_fault : goal.returns-then-is_worn-clause-no_fault
returns-then-is_worn-clause-no_fault c = (worn_told (the_view c.self.inside).extents c.args.bytes.now c.why_worn.result c.args.id (c.why_worn.ensures c.args.bytes.now c.in-Some.ensures.cut)).no_fault

pub returns-then-is_worn-clause-unlimited : goal.returns-then-is_worn-clause-unlimited
returns-then-is_worn-clause-unlimited c = (worn_told (the_view c.self.inside).extents c.args.bytes.now c.why_worn.result c.args.id (c.why_worn.ensures c.args.bytes.now c.in-Some.ensures.cut)).unlimited

pub returns-in-Err-clause-refusals : goal.returns-in-Err-clause-refusals
returns-in-Err-clause-refusals c = cut_may c.args.id c.args.bytes.now c.in-Err.refusal c.in-Err.ensures.refusals

pub returns-in-Err-clause-no_fault : goal.returns-in-Err-clause-no_fault
returns-in-Err-clause-no_fault c = cut_no_fault c.in-Err.refusal c.in-Err.ensures.refusals

pub returns-in-Err-clause-unlimited : goal.returns-in-Err-clause-unlimited
returns-in-Err-clause-unlimited c = cut_unlimited c.in-Err.refusal c.in-Err.ensures.refusals

pub invariant_of-self : goal.invariant_of-self
invariant_of-self c =
    let s : Stored = the_view c.self.inside in
    let i = c.reserve.new.self in
    let room = c.reserve.ensures.rest in
    kept_on s (record s { index = i }) c.self.invariant (moves_none s.extents s.graph) c.self.invariant.ready (same_format s.index i room) (same_limit s.index i room)
    (inside_live (shape s.extents) s.index i c.self.invariant.places (same_live s.index i room)) refl refl c.self.invariant.numbers c.self.invariant.swept
    (kept_apart_roomed s.extents s.extents s.index i s.copies refl room c.self.invariant.apart) c.self.invariant.noted

pub invariant_of-self-in-Err : goal.invariant_of-self-in-Err
invariant_of-self-in-Err c =
    let s : Stored = the_view c.self.inside in
    let i = c.reserve.new.self in
    let room = c.reserve.ensures.rest in
    let e = c.in-Err.ensures in
    let m = moves_refused s.extents s.graph c.put.new.extents c.put.new.graph e.refused e.unstaged in
    kept_on s (record s { index = i; extents = c.put.new.extents; graph = c.put.new.graph; out = c.put.new.graph.round }) c.self.invariant m
    c.put.ensures.ready (same_format s.index i room) (same_limit s.index i room)
    (inside_live (shape s.extents) s.index i c.self.invariant.places (same_live s.index i room)) m.round refl c.self.invariant.numbers (subst (λ x. AreSwept x) (sym e.refused) c.self.invariant.swept)
    (kept_apart_roomed s.extents c.put.new.extents s.index i s.copies e.refused room c.self.invariant.apart)
    (noted_on s c.self.invariant c.put.new.graph (ap last_root e.unstaged) s.roots refl s.accepted (omega arith))

pub invariant_of-self-in-Ok : goal.invariant_of-self-in-Ok
invariant_of-self-in-Ok c =
    let s : Stored = the_view c.self.inside in
    let i = c.reserve.new.self in
    let room = c.reserve.ensures.rest in
    let chunks = c.in-Ok.ensures.chunks in
    let x = c.put.new.extents in
    let g = c.put.new.graph in
    let ls = c.in-Ok.places.items in
    let b : Bool = (shape s.extents).apart in
    let rule : (shape s.extents).apart ≡ b = refl in
    let young : s.base + (s.accepted + 1) < 2 ^ 63 = (let few : s.base + s.accepted + 1 < 2 ^ 63 = subst (λ (u : Stored). u.base + u.accepted + 1 < 2 ^ 63) (sym c.self.view_is) c.if-is_worn.ensures in omega arith) in
    let m = moves_all b s.extents s.graph ForPut _ ls x g chunks.2.0 in
    kept_on s (record s { index = c.enter.new.index; extents = x; graph = g; out = g.round; accepted = s.accepted + 1 }) c.self.invariant m
    c.put.ensures.ready (c.enter.ensures.format ∙ same_format s.index i room) (c.enter.ensures.limit ∙ same_limit s.index i room)
    (inside_set (shape s.extents) i (id_number c.args.id) (map place_of ls) c.enter.new.index (inside_live (shape s.extents) s.index i c.self.invariant.places (same_live s.index i room)) c.enter.ensures
    (λ p among. places_there b s.extents s.graph ForPut (shape s.extents) chunks.0 ls x g refl chunks.2.0 p among)) m.round refl young (swept_all b s.extents x s.graph g ForPut _ ls rule chunks.2.0 c.self.invariant.swept)
    (kept_apart_put b s.extents x s.graph g i c.enter.new.index s.copies _ (id_number c.args.id) ls rule chunks.2.0 c.enter.ensures c.self.invariant.swept (kept_apart_roomed s.extents s.extents s.index i s.copies refl room c.self.invariant.apart))
    (noted_on s c.self.invariant g (root_all b s.extents s.graph ForPut _ ls x g chunks.2.0) s.roots refl (s.accepted + 1) (omega arith))

pub enter-requires-clause-marks : goal.enter-requires-clause-marks
enter-requires-clause-marks c =
    let s : Stored = the_view c.self.inside in
    let ls = c.in-Ok.places.items in
    subst (λ (f : Format). KeepFormat f ls) (sym (same_format s.index c.reserve.new.self c.reserve.ensures.rest ∙ c.self.invariant.format))
    (placed_all (shape s.extents).apart s.extents c.put.new.extents s.graph c.put.new.graph ForPut _ ls c.in-Ok.ensures.chunks.2.0)

pub enter-requires-clause-limit : goal.enter-requires-clause-limit
enter-requires-clause-limit c =
    let s : Stored = the_view c.self.inside in
    let chunks = c.in-Ok.ensures.chunks in
    light_placed (shape s.extents).apart s.extents c.put.new.extents s.graph c.put.new.graph s.index c.reserve.new.self (id_number c.args.id) (s.base + s.accepted + 1) c.args.bytes.now chunks.0
    c.in-Ok.places.items chunks.1 chunks.2.0 (light_enough (shape s.extents) s.index (id_number c.args.id) c.count.result c.args.bytes.now (λ pieces cut. c.in-Some.ensures.pieces c.args.bytes.now pieces refl cut ∙ sym c.count.ensures.count) (told_false c.if-is_full_for.ensures)) c.reserve.ensures.rest

pub returns-in-Err-clause-step : goal.returns-in-Err-clause-step
returns-in-Err-clause-step c = subst (λ (u : Stored). u.halted ≡ false → Declines u (Put (id_number c.args.id) c.args.bytes.now) c.in-Err.refusal (record (the_view c.self.inside) { extents = c.put.new.extents; graph = c.put.new.graph; index = c.reserve.new.self; out = c.put.new.graph.round })) c.self.view_is (λ runs.
    let v : Stored = the_view c.self.inside in
    let b : Bool = (shape v.extents).apart in
    let rule : (shape v.extents).apart ≡ b = refl in
    let i = c.reserve.new.self in
    let x = c.put.new.extents in
    let g = c.put.new.graph in
    let d = c.in-Err.ensures in
    let small = c.in-Some.ensures.small in
    let light = (not_heavy (shape v.extents) v.index (id_number c.args.id) c.count.result c.args.bytes.now (λ pieces cut. c.in-Some.ensures.pieces c.args.bytes.now pieces refl cut ∙ sym c.count.ensures.count) (told_false c.if-is_full_for.ensures)) in
    let w : Stored = record v { extents = x; graph = g; index = i } in
    round_told (λ (u : Stored). Declines v (Put (id_number c.args.id) c.args.bytes.now) c.in-Err.refusal u) w (ap (λ (k : GraphState). k.round) d.unstaged) (chunks_decline v w c.of.ensures.whole b rule c.self.invariant.limit c.self.invariant.format runs (roomed v x g i d.refused d.unstaged c.reserve.ensures.rest) (id_number c.args.id) c.args.bytes.now c.in-Err.refusal
    small light d.refusals (λ q. d.full.0 (ap Err q)) (λ q. d.worn.0 (ap Err q))))

pub returns-in-Ok-clause-step : goal.returns-in-Ok-clause-step
returns-in-Ok-clause-step c = subst (λ (u : Stored). u.halted ≡ false → Steps u (Put (id_number c.args.id) c.args.bytes.now) (Accepted ((the_view c.self.inside).accepted + 1)) (record (the_view c.self.inside) { graph = c.put.new.graph; extents = c.put.new.extents; index = c.enter.new.index; accepted = (the_view c.self.inside).accepted + 1; out = c.put.new.graph.round })) c.self.view_is (λ runs.
    let v : Stored = the_view c.self.inside in
    let b : Bool = (shape v.extents).apart in
    let rule : (shape v.extents).apart ≡ b = refl in
    let d = c.in-Ok.ensures in
    let small = c.in-Some.ensures.small in
    let light = (not_heavy (shape v.extents) v.index (id_number c.args.id) c.count.result c.args.bytes.now (λ pieces cut. c.in-Some.ensures.pieces c.args.bytes.now pieces refl cut ∙ sym c.count.ensures.count) (told_false c.if-is_full_for.ensures)) in
    let young : 2 ^ 63 ≤ v.base + v.accepted + 1 → ⊥ = (let few : v.base + v.accepted + 1 < 2 ^ 63 = subst (λ (u : Stored). u.base + u.accepted + 1 < 2 ^ 63) (sym c.self.view_is) c.if-is_worn.ensures in λ (last : 2 ^ 63 ≤ v.base + v.accepted + 1). omega arith) in
    let m = moves_all b v.extents v.graph ForPut _ c.in-Ok.places.items c.put.new.extents c.put.new.graph d.chunks.2.0 in
    round_told (λ (u : Stored). Steps v (Put (id_number c.args.id) c.args.bytes.now) (Accepted (v.accepted + 1)) u) (record v { graph = c.put.new.graph; extents = c.put.new.extents; index = c.enter.new.index; accepted = v.accepted + 1 }) m.round (λ s is. put_done v s c.of.ensures.whole is b rule (id_number c.args.id) c.args.bytes.now c.self.invariant.limit c.self.invariant.format runs small light
    (λ none. ok_not c.in-Ok.places code.Full d.full none) (λ out. ok_not c.in-Ok.places code.WornOut d.worn out) young
    c.put.new.extents c.put.new.graph c.enter.new.index d.chunks.0 c.in-Ok.places.items d.chunks.1 d.chunks.2.0
    (set_from (id_number c.args.id) v.index c.reserve.new.self c.enter.new.index _ c.reserve.ensures.rest c.enter.ensures) c.put.ensures.shape))

pub returns-in-Ok-clause-behind : goal.returns-in-Ok-clause-behind
returns-in-Ok-clause-behind c = rw (← c.self.view_is) (
    let s : Stored = the_view c.self.inside in
    (moves_all (shape s.extents).apart s.extents s.graph ForPut _ c.in-Ok.places.items c.put.new.extents c.put.new.graph c.in-Ok.ensures.chunks.2.0).behind)

pub returns-in-Ok-clause-round : goal.returns-in-Ok-clause-round
returns-in-Ok-clause-round c = rw (← c.self.view_is) (
    let s : Stored = the_view c.self.inside in
    ((moves_all (shape s.extents).apart s.extents s.graph ForPut _ c.in-Ok.places.items c.put.new.extents c.put.new.graph c.in-Ok.ensures.chunks.2.0).round, refl))

pub returns-in-Ok-clause-meaning : goal.returns-in-Ok-clause-meaning
returns-in-Ok-clause-meaning c = rw (← c.self.view_is) (
    let s : Stored = the_view c.self.inside in
    let chunks = c.in-Ok.ensures.chunks in
    let set = set_from (id_number c.args.id) s.index c.reserve.new.self c.enter.new.index _ c.reserve.ensures.rest c.enter.ensures in
    let w : Stored = record s { graph = c.put.new.graph; extents = c.put.new.extents; index = c.enter.new.index; out = c.put.new.graph.round; accepted = s.accepted + 1 } in (
      put_means s w c.of.ensures.whole (shape s.extents).apart (id_number c.args.id) (s.base + s.accepted + 1) c.args.bytes.now chunks.0 c.in-Ok.places.items chunks.1 chunks.2.0
          c.put.ensures.shape set,
      set_others s.index c.enter.new.index (id_number c.args.id) _ set,
    ))
