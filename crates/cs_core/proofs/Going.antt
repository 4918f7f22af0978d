-- How a store goes on from one state of the machine to the next.
use Rattle.std.proofs.Common.{◌≡◌, ◌⊎◌, inl, inr, ⊎_elim, ℕ, suc, ◌+◌, ◌≤◌, Bool, true, false, List, [], ◌∷◌, ◌++◌, length, map, take, drop, refl, sym, ap, ◌∙◌, subst}
use Rattle.std.specs.Prelude.{Contains, Option, is_some}
use Rattle.std.proofs.lemmas.List.Elements.{Contains-append_left, Contains-push, Contains-push_cases}
use Rattle.cs_deps.specs.declared.elements.Element.{Element as Name}
use Rattle.cs_deps.specs.State.{State as GraphState}
use Rattle.cs_extent.specs.State.{IsWhole, State as ExtentsState, shape}
use Rattle.cs_frame.specs.Formats.{formats_of}
use Rattle.cs_index.specs.State.{State as IndexState}
use Rattle.law_machine.specs.Cut.{Cut}
use Rattle.law_machine.specs.Device.{Shape}
use Rattle.law_machine.specs.Element.{Root, roots_of}
use Rattle.law_machine.specs.Events.{IsFrontier}
use Rattle.law_machine.specs.Formats.{Formats}
use Rattle.law_machine.specs.Lists.{◌∈◌}
use Rattle.law_machine.specs.Refusal.{Refusal}
use Rattle.law_machine.specs.Sound.{Bounded, Sound}
use Rattle.law_machine.specs.State.{Event, Reply, State}
use Rattle.law_machine.specs.Step.{Step}
use Rattle.law_machine.proofs.Keeps.{steps}
use Rattle.law_refinement.specs.Bridge.{name}
use Rattle.law_refinement.specs.Parts.{ArePartsOf}
use Rattle.law_refinement.proofs.Shapes.{store_format, store_shape}
use Rattle.cs_core.specs.declared.histories.Root.{Root as Noted}
use Rattle.cs_core.specs.States.{AreRootsOf, IsStateOf}
use Rattle.cs_core.specs.Stored.{Stored, members_of, but_for_room}
use Rattle.cs_core.proofs.RootsStay.{SameRoots}

-- ---- refusals

-- no ground stands
pub pass : {Ground : Type 0} {Others : Refusal → Type 0} (n : Refusal) → (Ground → ⊥) → ((f : Refusal) → Others f → ⊥)
    → (f : Refusal) → ((Ground × (f ≡ n)) ⊎ ((Ground → ⊥) × Others f)) → ⊥
pass n not others f (inl stands) = not stands.0
pass n not others f (inr rest) = others f rest.1

pub pass_found : {Damage Others : Refusal → Type 0} → ((f : Refusal) → Damage f → ⊥) → ((f : Refusal) → Others f → ⊥)
    → (f : Refusal) → (Damage f ⊎ (((g : Refusal) → Damage g → ⊥) × Others f)) → ⊥
pass_found not others f (inl stands) = not f stands
pass_found not others f (inr rest) = others f rest.1

pub no_more : (f : Refusal) → ⊥ → ⊥
no_more f none = none

-- not halted
pub going : (b : Bool) → b ≡ false → b ≡ true → ⊥
going b not is = let e : false ≡ true = sym not ∙ is in cc

-- ---- states

-- the round, the count at open and whether the store is halted are the same
pub record Beside (s t : State) : Type 0 where
  pub round_out : t.round_out ≡ s.round_out
  pub left : t.left ≡ s.left
  pub issued : t.issued ≡ s.issued
  pub halted : t.halted ≡ s.halted
  pub count : t.count ≡ s.count

pub beside_is : (s t u : State) → t ≡ u → Beside s u → Beside s t
beside_is s t u is beside = subst (λ (z : State). Beside s z) (sym is) beside

-- a root that is staged is so still, and the same root is persistent
pub frontier_stays : (S : Shape) (F : Formats) (s t : State) (n : ℕ) → IsFrontier S F s n
    → ((r : Root) → r ∈ roots_of s.world.elements → r ∈ roots_of t.world.elements) → t.world.persistent ≡ s.world.persistent → t.count ≡ s.count
    → IsFrontier S F t n
frontier_stays S F s t n (r, has, version, commands) more persistent count =
    (r, more r has, version ∙ ap (λ (P : Cut). P.root) (sym persistent), commands ∙ ap (λ (c : ℕ). c + n) (sym count))

pub frontier_same : (S : Shape) (F : Formats) (s t : State) (n : ℕ) → IsFrontier S F s n → SameRoots s.world t.world → t.count ≡ s.count → IsFrontier S F t n
frontier_same S F s t n front same count =
    frontier_stays S F s t n front (λ r has. subst (λ (rs : List Root). r ∈ rs) (sym same.roots) has) same.persistent count

pub roots_same : (roots : List Noted) (s t : State) → AreRootsOf roots s → SameRoots s.world t.world → t.count ≡ s.count → AreRootsOf roots t
roots_same roots s t are same count = record {
  all = λ r has young. let q = are.all r (subst (λ (rs : List Root). r ∈ rs) same.roots has) (subst (λ (P : Cut). P.root ≤ r.version) same.persistent young) in (q.0, q.1, q.2, ap (λ (c : ℕ). c + q.0.commands) count ∙ q.3);
  only = λ q has. let r = are.only q has in (r.0, subst (λ (rs : List Root). r.0 ∈ rs) (sym same.roots) r.1, r.2, ap (λ (c : ℕ). c + q.commands) count ∙ r.3);
}

-- one root more was staged, and noted
pub roots_more : (roots : List Noted) (s t : State) (r : Root) (q : Noted) → AreRootsOf roots s → roots_of t.world.elements ≡ r ∷ roots_of s.world.elements → q.version ≡ r.version → s.count + q.commands ≡ r.commands → t.world.persistent ≡ s.world.persistent → t.count ≡ s.count
    → AreRootsOf (roots ++ q ∷ []) t
roots_more roots s t r q are more version commands persistent count = record {
  all = λ p has young. ⊎_elim
      (λ (e : p ≡ r). (q, Contains-push roots q, version ∙ ap (λ (u : Root). u.version) (sym e), ap (λ (c : ℕ). c + q.commands) count ∙ commands ∙ ap (λ (u : Root). u.commands) (sym e)))
      (λ (old : p ∈ roots_of s.world.elements). let o = are.all p old (subst (λ (P : Cut). P.root ≤ p.version) persistent young) in (o.0, Contains-append_left roots (q ∷ []) o.0 o.1, o.2, ap (λ (c : ℕ). c + o.0.commands) count ∙ o.3))
      (subst (λ (rs : List Root). p ∈ rs) more has);
  only = λ p has. ⊎_elim
      (λ (old : Contains roots p). let o = are.only p old in (o.0, subst (λ (rs : List Root). o.0 ∈ rs) (sym more) (inr o.1), o.2, ap (λ (c : ℕ). c + p.commands) count ∙ o.3))
      (λ (e : q ≡ p). (r, subst (λ (rs : List Root). r ∈ rs) (sym more) (inl refl), ap (λ (u : Noted). u.version) (sym e) ∙ version, ap (λ (c : ℕ). c + p.commands) count ∙ ap (λ (u : Noted). s.count + u.commands) (sym e) ∙ commands))
      (Contains-push_cases roots q p has);
}

-- after a step, where parts, commands, frontier and roots are those of the new state and the round is the same
pub goes_on : (v w : Stored) (s t : State) (event : Event) (reply : Reply) → IsWhole v.extents → IsStateOf v s
    → Step (shape v.extents) (formats_of (shape v.extents)) s event reply t → shape w.extents ≡ shape v.extents
    → ArePartsOf w.extents w.graph w.index t → t.copies ≡ w.copies → Beside s t → w.out ≡ v.out → w.issued ≡ v.issued → w.halted ≡ v.halted → w.base ≡ v.base
    → length t.commands ≡ w.accepted → IsFrontier (shape v.extents) (formats_of (shape v.extents)) t w.frontier → AreRootsOf w.roots t → IsStateOf w t
goes_on v w s t event reply whole is step same parts copies beside out issued halted base accepted frontier roots =
    let kept = steps (shape v.extents) (formats_of (shape v.extents)) (store_shape v.extents whole) (store_format v.extents whole) s t event reply is.sound is.bounded step in
    record {
      parts = parts;
      copies = copies;
      sound = subst (λ (S : Shape). Sound S (formats_of S) t) (sym same) kept.0;
      bounded = subst (λ (S : Shape). Bounded S (formats_of S) t) (sym same) kept.1;
      round_out = beside.round_out ∙ is.round_out ∙ ap (λ (o : _). is_some o) (sym out);
      gone = is.gone;
      gone_is = ⊎_elim
          (λ (all : is.gone ≡ v.issued). inl (all ∙ sym issued))
          (λ (more : (v.halted ≡ true) × (is.gone ≡ suc v.issued)). inr (halted ∙ more.0, more.1 ∙ ap suc (sym issued)))
          is.gone_is;
      left = ap (map name) beside.left ∙ is.left ∙ ap (λ (o : _). drop is.gone (members_of o)) (sym out);
      issued = ap (map name) beside.issued ∙ is.issued ∙ ap (λ (o : _). take is.gone (members_of o)) (sym out);
      halted = beside.halted ∙ is.halted ∙ sym halted;
      base = beside.count ∙ is.base ∙ sym base;
      accepted = accepted;
      frontier = subst (λ (S : Shape). IsFrontier S (formats_of S) t w.frontier) (sym same) frontier;
      roots = roots;
    }

-- ---- the round that is out

-- what is so of a store is so where its graph tells the round that is out
pub round_told : (P : Stored → Type 0) (w : Stored) → w.graph.round ≡ w.out → P w → P (record w { out = w.graph.round })
round_told P w same is = subst (λ (out : Option (List Name)). P (record w { out = out })) (sym same) is

-- ---- room

-- other room in graph and index
pub parts_roomed : (x : ExtentsState) (g h : GraphState) (i j : IndexState) (s : State) → ArePartsOf x g i s → h ≡ record g { room = h.room } → j ≡ record i { room = j.room } → ArePartsOf x h j s
parts_roomed x g h i j s are graph index =
    subst (λ (k : GraphState). ArePartsOf x k j s) (sym graph) (subst (λ (k : IndexState). ArePartsOf x (record g { room = h.room }) k s) (sym index) (record {
      world = record { extents = are.world.extents; staging = are.world.staging; recorded = are.world.recorded; resets = are.world.resets; writes = are.world.writes };
      index = record { lookups = are.index.lookups; same_runs = are.index.same_runs };
    }))

-- other room in its graph and its index, and a store is of the same states
state_roomed : (v : Stored) (h : GraphState) (j : IndexState) (s : State) → h ≡ record v.graph { room = h.room } → j ≡ record v.index { room = j.room } → IsStateOf v s → IsStateOf (record v { graph = h; index = j }) s
state_roomed v h j s graph index is = record {
  parts = parts_roomed v.extents v.graph h v.index j s is.parts graph index;
  copies = is.copies;
  sound = is.sound;
  bounded = is.bounded;
  round_out = is.round_out;
  gone = is.gone;
  gone_is = is.gone_is;
  left = is.left;
  issued = is.issued;
  halted = is.halted;
  base = is.base;
  accepted = is.accepted;
  frontier = is.frontier;
  roots = is.roots;
}

-- a store that differs in room alone is of the same states
pub same_state : (v w : Stored) (s : State) → IsStateOf v s → but_for_room w ≡ but_for_room v → IsStateOf w s
same_state v w s is same = from_settled (subst (λ (u : Stored). IsStateOf u s) (sym same) to_settled)
  where
    to_settled : IsStateOf (but_for_room v) s
    to_settled = state_roomed v (record v.graph { room = 0 }) (record v.index { room = 0 }) s refl refl is

    from_settled : IsStateOf (but_for_room w) s → IsStateOf w s
    from_settled of = state_roomed (but_for_room w) w.graph w.index s refl refl of

pub roomed : (v : Stored) (x : ExtentsState) (g : GraphState) (i : IndexState) → x ≡ v.extents → g ≡ record v.graph { room = g.room } → i ≡ record v.index { room = i.room }
    → but_for_room (record v { extents = x; graph = g; index = i }) ≡ but_for_room v
roomed v x g i extents graph index =
    ap (λ (k : ExtentsState). record v { extents = k; graph = record g { room = 0 }; index = record i { room = 0 } }) extents
    ∙ ap (λ (k : GraphState). record v { graph = record k { room = 0 }; index = record i { room = 0 } }) graph
    ∙ ap (λ (k : IndexState). record v { graph = record v.graph { room = 0 }; index = record k { room = 0 } }) index

pub roomed_roots : (v : Stored) (x : ExtentsState) (g : GraphState) (i : IndexState) (roots : List Noted) → x ≡ v.extents → g ≡ record v.graph { room = g.room } → i ≡ record v.index { room = i.room } → roots ≡ v.roots
    → but_for_room (record v { extents = x; graph = g; index = i; roots = roots }) ≡ but_for_room v
roomed_roots v x g i roots extents graph index same =
    ap (λ (rs : List Noted). but_for_room (record v { extents = x; graph = g; index = i; roots = rs })) same ∙ roomed v x g i extents graph index

pub same_index : (i j : IndexState) → j ≡ i → j ≡ record i { room = j.room }
same_index i j same = subst (λ (k : IndexState). k ≡ record i { room = k.room }) (sym same) refl

pub same_graph : (g h : GraphState) → h ≡ g → h ≡ record g { room = h.room }
same_graph g h same = subst (λ (k : GraphState). k ≡ record g { room = k.room }) (sym same) refl
