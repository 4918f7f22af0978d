-- The commands that are persistent by the roots that are noted.
use Rattle.std.proofs.Common.{◌≡◌, ◌⊎◌, ◌↔◌, inl, inr, ⊎_elim, ℕ, zero, suc, ◌+◌, ◌≤◌, ◌<◌, List, [], ◌∷◌, ◌++◌, length, le_of_eq, le_trans, refl, sym, ap, ◌∙◌, subst, arith}
use Rattle.std.specs.Prelude.{Contains, slice_index}
use Rattle.std.proofs.lemmas.List.Elements.{Contains-append_left, Contains-push, Contains-push_cases}
use Rattle.cs_deps.proofs.Sets.{no_element}
use Rattle.cs_deps.specs.declared.elements.Element.{Element as Name}
use Rattle.cs_deps.specs.declared.elements.Element.TheVariants.{Plain, Version}
use Rattle.cs_deps.specs.Named.{Named, Names}
use Rattle.cs_deps.specs.Staging.{IsKept, IsSatisfied, Staging}
use Rattle.cs_deps.specs.State.{State as GraphState}
use Rattle.cs_extent.specs.Frames.{root_family}
use Rattle.cs_extent.specs.State.{State as ExtentsState, shape}
use Rattle.cs_frame.specs.Formats.{formats_of}
use Rattle.cs_index.specs.State.{State as IndexState}
use Rattle.law_machine.specs.Device.{Page, Shape}
use Rattle.law_machine.specs.Element.{Map, Root, roots_of}
use Rattle.law_machine.specs.Events.{IsFrontier}
use Rattle.law_machine.specs.Formats.{Formats}
use Rattle.law_machine.specs.Lists.{◌∈◌}
use Rattle.law_machine.specs.Open.{opened_state, root_read, superblocks_read}
use Rattle.law_machine.specs.Recovery.{Recovers}
use Rattle.law_machine.specs.Sound.{Sound}
use Rattle.law_machine.specs.State.{Event, NotYet, Persistent, Reply, Retired, Settle, Staged, State}
use Rattle.law_machine.specs.Stays.{AddsRoot, RootsAfter}
use Rattle.law_machine.specs.Step.{Step}
use Rattle.law_machine.proofs.Kept.{history_on}
use Rattle.law_machine.proofs.Staying.{root_stays, step_roots}
use Rattle.law_refinement.specs.Frontiers.{AreRootsOf, IsFrontierOf, IsRootPersistent, Noted, noted_after}
use Rattle.law_refinement.specs.Parts.{ArePartsOf}

-- what a dependency on a version of the root asks
pub root_persistent : (staging : Staging) (d : Named) (v : ℕ) → IsKept staging → ((n : ℕ) → Names d (Plain n) → ⊥)
    → ((f w : ℕ) → Names d (Version f w) ↔ ((f ≡ root_family) × (1 ≤ w) × (w ≤ v)))
    → ((z : Name) → Names d z → IsSatisfied staging z) ↔ IsRootPersistent staging v
root_persistent staging d v kept plain names = (to v names, from)
  where
    to : (k : ℕ) → ((f w : ℕ) → Names d (Version f w) ↔ ((f ≡ root_family) × (1 ≤ w) × (w ≤ k))) → ((z : Name) → Names d z → IsSatisfied staging z) → IsRootPersistent staging k
    to zero said all = omega arith
    to (suc k) said all = (all (Version 1 (suc k)) ((said 1 (suc k)).1 (refl, omega arith, omega arith))).1

    from : IsRootPersistent staging v → (z : Name) → Names d z → IsSatisfied staging z
    from low (Plain n) named = absurd (plain n named)
    from low (Version f w) named =
        let up = (names f w).0 named in
        let below : w ≤ slice_index staging.pending.persistent 1 = le_trans up.2 low in
        let persistent : w ≤ slice_index staging.pending.persistent f = subst (λ (e : ℕ). w ≤ slice_index staging.pending.persistent e) (sym up.0) below in
        (le_trans persistent (kept.persistent_staged f), persistent)

-- the last root that is persistent has as many commands as are counted
pub frontier_at : (x : ExtentsState) (h : GraphState) (i : IndexState) (u : State) → ArePartsOf x h i u → (r : Root) → r ∈ roots_of u.world.elements → r.version ≡ u.world.persistent.root
    → ((p q : Root) → p ∈ roots_of u.world.elements → q ∈ roots_of u.world.elements → p.version ≤ q.version → p.commands ≤ q.commands)
    → (roots : List Noted) (n : ℕ) → AreRootsOf roots u → IsFrontierOf h.staging roots n → r.commands ≡ u.count + n
frontier_at x h i u parts r has version counts roots n noted counted =
    let same : slice_index h.staging.pending.persistent 1 ≡ u.world.persistent.root = parts.world.staging.pending.root in
    let here = noted.all r has (le_of_eq (sym version)) in
    let most : here.0 ≤ n = counted.greatest r.version here.0 here.1 (le_of_eq (version ∙ sym same)) in
    let there : r.commands ≡ u.count + here.0 = here.2 in
    let least : n ≤ here.0 = ⊎_elim
    (λ (none : n ≡ 0). omega arith)
    (λ (some : (v : ℕ) × Contains roots (v, n) × IsRootPersistent h.staging v).
    let q = noted.staged some.0 n some.1 in
    let low : some.0 ≤ slice_index h.staging.pending.persistent 1 = some.2 in
    let older : q.0.version ≤ r.version = le_trans (le_of_eq q.2) (le_trans low (le_of_eq (same ∙ sym version))) in
    let fewer : q.0.commands ≤ r.commands = counts q.0 r q.1 has older in
    let count : q.0.commands ≡ u.count + n = q.3 in
    omega arith)
    counted.reached in
    omega arith

pub frontier_is : (x : ExtentsState) (h : GraphState) (i : IndexState) (s : State) → ArePartsOf x h i s → Sound (shape x) (formats_of (shape x)) s
    → (roots : List Noted) (n : ℕ) → AreRootsOf roots s → IsFrontierOf h.staging roots n → IsFrontier (shape x) (formats_of (shape x)) s n
frontier_is x h i s parts sound roots n noted counted =
    let last = sound.safe.exact.root in
    (last.0, last.1, last.2, frontier_at x h i s parts last.0 last.1 last.2 sound.safe.counts roots n noted counted)

-- the same roots, where no less is persistent
pub roots_stay : (roots : List Noted) (s t : State) → AreRootsOf roots s → roots_of t.world.elements ≡ roots_of s.world.elements
    → s.world.persistent.root ≤ t.world.persistent.root → t.count ≡ s.count → AreRootsOf roots t
roots_stay roots s t are same low count = record {
  staged = λ v n has. (let r = are.staged v n has in
      (r.0, subst (λ (rs : List Root). r.0 ∈ rs) (sym same) r.1, r.2, r.3 ∙ ap (λ (c : ℕ). c + n) (sym count)));
  all = λ r has late. (let n = are.all r (subst (λ (rs : List Root). r ∈ rs) same has) (le_trans low late) in
      (n.0, n.1, n.2 ∙ ap (λ (c : ℕ). c + n.0) (sym count)));
}

-- one root more, that is noted
roots_more : (roots : List Noted) (s t : State) (v : ℕ) → AreRootsOf roots s → AddsRoot s v t
    → s.world.persistent.root ≤ t.world.persistent.root → t.count ≡ s.count → AreRootsOf (roots ++ (v, length s.commands) ∷ []) t
roots_more roots s t v are more low count = record {
  staged = λ w n has. ⊎_elim
      (λ (old : Contains roots (w, n)). let r = are.staged w n old in
      (r.0, subst (λ (rs : List Root). r.0 ∈ rs) (sym more.roots) (inr r.1), r.2, r.3 ∙ ap (λ (c : ℕ). c + n) (sym count)))
      (λ (is : (v, length s.commands) ≡ (w, n)). (
        more.root,
        subst (λ (rs : List Root). more.root ∈ rs) (sym more.roots) (inl refl),
        more.version_is ∙ ap (λ (q : Noted). q.0) is,
        more.commands ∙ ap (λ (q : Noted). s.count + q.1) is ∙ ap (λ (c : ℕ). c + n) (sym count),
      ))
      (Contains-push_cases roots (v, length s.commands) (w, n) has);
  all = λ r has late. ⊎_elim
      (λ (is : r ≡ more.root). (
        length s.commands,
        subst (λ (k : ℕ). Contains (roots ++ (v, length s.commands) ∷ []) (k, length s.commands)) (sym (ap (λ (q : Root). q.version) is ∙ more.version_is)) (Contains-push roots (v, length s.commands)),
        ap (λ (q : Root). q.commands) is ∙ more.commands ∙ ap (λ (c : ℕ). c + length s.commands) (sym count),
      ))
      (λ (old : r ∈ roots_of s.world.elements). let n = are.all r old (le_trans low late) in
      (n.0, Contains-append_left roots ((v, length s.commands) ∷ []) (r.version, n.0) n.1, n.2 ∙ ap (λ (c : ℕ). c + n.0) (sym count)))
      (subst (λ (rs : List Root). r ∈ rs) more.roots has);
}

module _ (S : Shape) (F : Formats) (s t : State) (event : Event) (sound : Sound S F s) (roots : List Noted) (are : AreRootsOf roots s) where
  after_reply : (reply : Reply) → RootsAfter reply s t → s.world.persistent.root ≤ t.world.persistent.root → t.count ≡ s.count
      → AreRootsOf (noted_after roots (length s.commands) reply) t
  after_reply (Staged v) more low count = roots_more roots s t v are more low count
  after_reply (Retired v) more low count = roots_more roots s t v are more low count
  after_reply reply same low count = roots_stay roots s t are same.roots low count

  pub noted : (reply : Reply) → Step S F s event reply t → AreRootsOf (noted_after roots (length s.commands) reply) t
  noted reply step = after_reply reply (step_roots S F s t event reply step) (root_stays S F s t event reply sound step)
      (history_on S F s t ((event, reply) ∷ []) (t, step, refl)).count

-- the root that was read at open has no command since
pub roots_opened : (S : Shape) (F : Formats) (img : ℕ → Page) (n : ℕ) (m : Map) (found : Recovers S F img n m)
    → AreRootsOf ((found.version, 0) ∷ []) (opened_state S F img n m found)
roots_opened S F img n m found = record {
  staged = λ v k has. ⊎_elim
      (λ (old : Contains {X = Noted} [] (v, k)). absurd (no_element {X = Noted} (v, k) old))
      (λ (is : (found.version, 0) ≡ (v, k)). (
        root_read S F img n m found,
        inl refl,
        ap (λ (q : Noted). q.0) is,
        (let none : 0 ≡ k = ap (λ (q : Noted). q.1) is in omega arith),
      ))
      (Contains-push_cases {X = Noted} [] (found.version, 0) (v, k) has);
  all = λ r has late. ⊎_elim
      (λ (is : r ≡ root_read S F img n m found). (
        0,
        subst (λ (q : Root). Contains {X = Noted} ((found.version, 0) ∷ []) (q.version, 0)) (sym is) (Contains-push {X = Noted} [] (found.version, 0)),
        ap (λ (q : Root). q.commands) is ∙ (let e : n ≡ n + 0 = omega arith in e),
      ))
      (λ (none : r ∈ roots_of (superblocks_read S F img n m found S.sections)). absurd (no_root r none))
      has;
}
  where
    no_root_at : (k : ℕ) (r : Root) → r ∈ roots_of (superblocks_read S F img n m found k) → ⊥
    no_root_at zero r none = none
    no_root_at (suc k) r has = no_root_at k r has

    no_root : (r : Root) → r ∈ roots_of (superblocks_read S F img n m found S.sections) → ⊥
    no_root r has = no_root_at S.sections r has

pub roots_let_go : (s : State) (roots rest : List Noted) → AreRootsOf roots s → ((v n : ℕ) → Contains rest (v, n) → Contains roots (v, n))
    → ((v n : ℕ) → Contains roots (v, n) → s.world.persistent.root ≤ v → Contains rest (v, n)) → AreRootsOf rest s
roots_let_go s roots rest are only late = record {
  staged = λ v n has. are.staged v n (only v n has);
  all = λ r has low. (let n = are.all r has low in (n.0, late r.version n.0 n.1 low, n.2));
}

pub settled : (S : Shape) (F : Formats) (s : State) (n f : ℕ) → IsFrontier S F s f → 1 ≤ n → n ≤ f → Step S F s (Settle n) Persistent s
settled S F s n f front some low = ((λ r none. none), (f, front, some, low, refl))

pub not_settled : (S : Shape) (F : Formats) (s : State) (n f : ℕ) → IsFrontier S F s f → (n ≡ 0) ⊎ (f < n) → Step S F s (Settle n) (NotYet f) s
not_settled S F s n f front high = ((λ r none. none), (front, high, refl))
