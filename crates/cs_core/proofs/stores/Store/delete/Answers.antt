use Rattle.std.proofs.Common.{rules, ◌+◌, ◌^◌, ◌≤◌, ◌<◌, [], arith, inr, refl, sym, subst}
use Rattle.cs_extent.specs.State.{shape}
use Rattle.cs_index.specs.State.{id_number}
use Rattle.law_machine.specs.Refusal.{WornOut}
use Rattle.cs_core.specs.contracts.stores.Store.{the_view}
use Rattle.cs_core.specs.Stored.{Stored}
use Rattle.cs_core.proofs.Deletes.{delete_absent, delete_done, delete_last}
use Rattle.cs_core.proofs.Kept.{inside_set, kept_on, noted_on}
use Rattle.cs_core.proofs.KeptPuts.{kept_apart_delete}
use Rattle.cs_core.proofs.Moves.{moves_none}
use Rattle.cs_core.proofs.PutsMeant.{set_others}
use Rattle.cs_core.proofs.stores.Store.delete.Goals as goal

pub returns-then-not-is_live-clause-step : goal.returns-then-not-is_live-clause-step
returns-then-not-is_live-clause-step c = rw (← c.self.view_is) (λ runs s is.
    let v : Stored = the_view c.self.inside in
    (s, delete_absent v s c.extent_count.ensures.whole is (id_number c.args.id) runs c.if-not-is_live.ensures, is))

pub returns-then-is_worn-clause-step : goal.returns-then-is_worn-clause-step
returns-then-is_worn-clause-step c = rw (← c.self.view_is) (λ runs.
    let v : Stored = the_view c.self.inside in
    let last : 2 ^ 63 ≤ v.base + v.accepted + 1 = subst (λ (u : Stored). 2 ^ 63 ≤ u.base + u.accepted + 1) (sym c.self.view_is) c.if-is_worn.ensures in
    inr (WornOut, refl, λ s is. (s, delete_last v s c.extent_count.ensures.whole is (id_number c.args.id) runs c.if-not-is_live.ensures last, is)))

pub invariant_of-self : goal.invariant_of-self
invariant_of-self c =
    let s : Stored = the_view c.self.inside in
    let set = c.erase.ensures.entered (search rules) in
    let young : s.base + (s.accepted + 1) < 2 ^ 63 = (let few : s.base + s.accepted + 1 < 2 ^ 63 = subst (λ (u : Stored). u.base + u.accepted + 1 < 2 ^ 63) (sym c.self.view_is) c.if-is_worn.ensures in omega arith) in
    kept_on s (record s { index = c.erase.new.self; accepted = s.accepted + 1 }) c.self.invariant (moves_none s.extents s.graph) c.self.invariant.ready set.format set.limit
    (inside_set (shape s.extents) s.index (id_number c.args.id) [] c.erase.new.self c.self.invariant.places set (λ l among. absurd among)) refl refl young c.self.invariant.swept
    (kept_apart_delete s.extents s.index c.erase.new.self s.copies (id_number c.args.id) set c.self.invariant.apart)
    (noted_on s c.self.invariant s.graph refl s.roots refl (s.accepted + 1) (omega arith))

pub returns-in-Ok-true-clause-step : goal.returns-in-Ok-true-clause-step
returns-in-Ok-true-clause-step c = rw (← c.self.view_is) (λ runs s is.
    let v : Stored = the_view c.self.inside in
    let young : 2 ^ 63 ≤ v.base + v.accepted + 1 → ⊥ = (let few : v.base + v.accepted + 1 < 2 ^ 63 = subst (λ (u : Stored). u.base + u.accepted + 1 < 2 ^ 63) (sym c.self.view_is) c.if-is_worn.ensures in λ (last : 2 ^ 63 ≤ v.base + v.accepted + 1). omega arith) in
    delete_done v s c.extent_count.ensures.whole is (id_number c.args.id) runs c.if-not-is_live.ensures young c.erase.new.self (c.erase.ensures.entered (search rules)))

pub returns-in-Ok-true-clause-meaning : goal.returns-in-Ok-true-clause-meaning
returns-in-Ok-true-clause-meaning c = rw (← c.self.view_is) (
    set_others (the_view c.self.inside).index c.erase.new.self (id_number c.args.id) [] (c.erase.ensures.entered (search rules)))
