-- A delete is a step of the machine.
use Rattle.std.proofs.Common.{◌≡◌, ◌≢◌, inl, inr, ℕ, suc, ◌+◌, ◌^◌, ◌≤◌, true, false, [], ◌∷◌, None, length, refl, ap, ◌∙◌, subst, arith}
use Rattle.std.specs.Prelude.{◌↔◌}
use Rattle.cs_extent.specs.State.{IsWhole, shape}
use Rattle.cs_frame.specs.Formats.{formats_of}
use Rattle.cs_index.specs.State.{IsSet, State as IndexState, index_of}
use Rattle.law_machine.specs.Events.{Does}
use Rattle.law_machine.specs.Grounds.{Refuses, WouldPass}
use Rattle.law_machine.specs.Index.{live_at}
use Rattle.law_machine.specs.Refusal.{Halted, Refusal, WornOut}
use Rattle.law_machine.specs.State.{Absent, Accepted, Delete, Refused, State, map_now}
use Rattle.law_machine.specs.Step.{Step}
use Rattle.law_refinement.proofs.Calls.{delete}
use Rattle.law_refinement.proofs.Indexes.{absent}
use Rattle.law_refinement.proofs.RefusedPuts.{delete_worn}
use Rattle.law_refinement.specs.Parts.{ArePartsOf}
use Rattle.cs_core.specs.States.{IsStateOf}
use Rattle.cs_core.specs.Stored.{Stored}
use Rattle.cs_core.proofs.Going.{Beside, beside_is, frontier_same, goes_on, going, no_more, pass, roots_same}
use Rattle.cs_core.proofs.RootsStay.{SameRoots, same_here}

module _ (v : Stored) (s : State) (whole : IsWhole v.extents) (is : IsStateOf v s) (id : ℕ) (runs : v.halted ≡ false) where
  runs_on : s.halted ≡ true → ⊥
  runs_on = going s.halted (is.halted ∙ runs)

  map_of : (live_at (index_of v.index) id ≡ []) ↔ (map_now s id ≡ None)
  map_of = absent (shape v.extents) (formats_of (shape v.extents)) v.index s id is.sound is.parts.index

  worn : WouldPass (shape v.extents) (formats_of (shape v.extents)) s (Delete id) ↔ ((map_now s id ≢ None) × (2 ^ 63 ≤ s.count + length s.commands + 1))
  worn = delete_worn v.extents s is.sound is.bounded id

  -- there is nothing to delete
  pub delete_absent : live_at (index_of v.index) id ≡ [] → Step (shape v.extents) (formats_of (shape v.extents)) s (Delete id) Absent s
  delete_absent none = (pass Halted runs_on (pass WornOut (λ would. (worn.0 would).0 (map_of.0 none)) no_more), (map_of.0 none, refl))

  -- the number of commands is the greatest
  pub delete_last : (live_at (index_of v.index) id ≡ [] → ⊥) → 2 ^ 63 ≤ v.base + v.accepted + 1 → Step (shape v.extents) (formats_of (shape v.extents)) s (Delete id) (Refused WornOut) s
  delete_last some last =
      let past : 2 ^ 63 ≤ s.count + length s.commands + 1 = omega (arith, is.base, is.accepted) in
      (inl (inr (runs_on, inl (worn.1 ((λ none. some (map_of.1 none)), past), refl))), refl)

  pub delete_done : (live_at (index_of v.index) id ≡ [] → ⊥) → (2 ^ 63 ≤ v.base + v.accepted + 1 → ⊥) → (j : IndexState) → IsSet v.index id [] j
      → (t : State) × Step (shape v.extents) (formats_of (shape v.extents)) s (Delete id) (Accepted (v.accepted + 1)) t × IsStateOf (record v { index = j; accepted = v.accepted + 1 }) t
  delete_done some young j set =
      let there : map_now s id ≢ None = λ none. some (map_of.1 none) in
      let none : (f : Refusal) → Refuses (shape v.extents) (formats_of (shape v.extents)) s (Delete id) f → ⊥
      = pass Halted runs_on (pass WornOut (λ would. let past = (worn.0 would).1 in young (omega (arith, is.base, is.accepted))) no_more) in
      let done = delete v.extents v.graph v.index s is.parts j id there set in
      at done.0 none done.1 done.2
    where
      at : (t : State) → ((f : Refusal) → Refuses (shape v.extents) (formats_of (shape v.extents)) s (Delete id) f → ⊥)
          → Does (shape v.extents) (formats_of (shape v.extents)) s (Delete id) (Accepted (suc (length s.commands))) t → ArePartsOf v.extents v.graph j t
          → (z : State) × Step (shape v.extents) (formats_of (shape v.extents)) s (Delete id) (Accepted (v.accepted + 1)) z × IsStateOf (record v { index = j; accepted = v.accepted + 1 }) z
      at t none does parts =
          let u : State = record s { table = record { id = id; locators = [] } ∷ s.table; commands = (id, None) ∷ s.commands } in
          let tis : t ≡ u = does.2 in
          let number : suc (length s.commands) ≡ v.accepted + 1 = omega (arith, is.accepted) in
          let step : Step (shape v.extents) (formats_of (shape v.extents)) s (Delete id) (Accepted (v.accepted + 1)) t
          = subst (λ (n : ℕ). Step (shape v.extents) (formats_of (shape v.extents)) s (Delete id) (Accepted n) t) number (none, does) in
          let beside : Beside s t = beside_is s t u tis (record { round_out = refl; left = refl; issued = refl; halted = refl; count = refl }) in
          let roots : SameRoots s.world t.world = same_here s.world t.world (ap (λ (z : State). z.world) tis) in
          let many : length t.commands ≡ v.accepted + 1 = ap (λ (z : State). length z.commands) tis ∙ number in (
            t,
            step,
            goes_on v (record v { index = j; accepted = v.accepted + 1 }) s t (Delete id) (Accepted (v.accepted + 1)) whole is step refl parts (ap (λ (z : State). z.copies) tis ∙ is.copies) beside refl refl refl refl many
                (frontier_same (shape v.extents) (formats_of (shape v.extents)) s t v.frontier is.frontier roots beside.count)
                (roots_same v.roots s t is.roots roots beside.count),
          )
