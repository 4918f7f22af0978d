-- Why events of writeback and of sweeps are refused.
use Rattle.std.proofs.Common.{◌≡◌, ◌≢◌, ◌⊎◌, ◌↔◌, inl, inr, ⊎_elim, ℕ, ◌<◌, true, false, List, [], ◌∷◌, ◌++◌, length, map, Some, None, true≢false, refl, sym, ap, ◌∙◌, subst}
use Rattle.std.specs.Prelude.{Option, is_some, slice_get}
use Rattle.cs_deps.specs.declared.elements.Element.{Element as Name}
use Rattle.cs_deps.specs.State.{State as GraphState}
use Rattle.cs_extent.specs.State.{State as ExtentsState, extents_of, shape}
use Rattle.cs_index.specs.State.{State as IndexState}
use Rattle.law_machine.specs.Device.{Page, Shape}
use Rattle.law_machine.specs.Element.{Element, Map}
use Rattle.law_machine.specs.Extents.{Extents}
use Rattle.law_machine.specs.Formats.{Formats}
use Rattle.law_machine.specs.Grounds.{Refuses}
use Rattle.law_machine.specs.Open.{opened_state}
use Rattle.law_machine.specs.Recovery.{Recovers}
use Rattle.law_machine.specs.Refusal.{Halted, InFlight, NoRound, NotSweepable, Refusal}
use Rattle.law_machine.specs.State.{Abandon, Begin, BeginSweep, Delete, End, Event, Get, Issue, MoveOne, Put, Reply, Retire, Settle, Stage, State}
use Rattle.law_machine.specs.Step.{Step}
use Rattle.law_machine.proofs.Rules.{before_rule, rule_before}
use Rattle.law_machine.proofs.Staying.{step_round}
use Rattle.cs_reclaim.specs.Sweeps.{IsNotSweepable}
use Rattle.law_refinement.specs.Bridge.{name}
use Rattle.law_refinement.specs.Parts.{ArePartsOf}
use Rattle.law_refinement.specs.Rounds.{IsRoundOf, members_of}
use Rattle.law_refinement.proofs.Members.{fewer_gone, next_none, none_next, some_left}
use Rattle.law_refinement.proofs.Refusing.{not_both}

-- behind a ground that doesn't stand one alone decides
one_ground : {Ground Before : Type 0} (b n f : Refusal) → (Before → ⊥)
    → ((Before × (f ≡ b)) ⊎ ((Before → ⊥) × ((Ground × (f ≡ n)) ⊎ ((Ground → ⊥) × ⊥)))) ↔ (Ground × (f ≡ n))
one_ground b n f not = (
  (λ refused. ⊎_elim (λ first. absurd (not first.0)) (λ rest. ⊎_elim (λ here. here) (λ none. absurd none.1) rest.1) refused),
  (λ here. inr (not, inl here)),
)

-- a ground that stands decides alone
this_ground : {Ground : Type 0} {Others : Type 0} (n f : Refusal) → Ground → ((Ground × (f ≡ n)) ⊎ ((Ground → ⊥) × Others)) ↔ (f ≡ n)
this_ground n f here = ((λ refused. ⊎_elim (λ first. first.1) (λ rest. absurd (rest.0 here)) refused), (λ is. inl (here, is)))

-- the same, behind a ground that doesn't stand
next_ground : {Before Ground Others : Type 0} (b n f : Refusal) → (Before → ⊥) → Ground
    → ((Before × (f ≡ b)) ⊎ ((Before → ⊥) × ((Ground × (f ≡ n)) ⊎ ((Ground → ⊥) × Others)))) ↔ (f ≡ n)
next_ground b n f not here = (
  (λ refused. ⊎_elim (λ first. absurd (not first.0)) (λ rest. ⊎_elim (λ this. this.1) (λ more. absurd (more.0 here)) rest.1) refused),
  (λ is. inr (not, inl (here, is))),
)

-- another ground in the same words
alike : {A B C : Type 0} (P : Type 0) → A ↔ (B × P) → (B → C) → (C → B) → A ↔ (C × P)
alike P is to from = ((λ a. (to (is.0 a).0, (is.0 a).1)), (λ c. is.1 (from c.0, c.1)))

none_of : (o : Option (List Name)) → is_some o ≡ false → o ≡ None
none_of None not = refl
none_of (Some round) not = absurd (true≢false not)

some_of : (o : Option (List Name)) → is_some o ≡ true → o ≢ None
some_of None is none = true≢false (sym is)
some_of (Some round) is none = cc none

is_some_of : (o : Option (List Name)) → o ≢ None → is_some o ≡ true
is_some_of None not = absurd (not refl)
is_some_of (Some round) not = refl

get_none : (zs : List Name) (k : ℕ) → zs ≡ [] → slice_get zs k ≡ None
get_none [] k none = refl
get_none (z ∷ zs) k none = absurd (cc none)

module _ (S : Shape) (F : Formats) (g : GraphState) (s : State) (f : Refusal) (is : IsRoundOf g s) (runs : s.halted ≡ false) where
  pub begin_refused : Refuses S F s Begin f ↔ ((g.round ≢ None) × (f ≡ InFlight))
  begin_refused = alike (f ≡ InFlight) (one_ground Halted InFlight f (not_both s.halted runs))
      (λ (out : s.round_out ≡ true). some_of g.round (sym is.out ∙ out))
      (λ (some : g.round ≢ None). is.out ∙ is_some_of g.round some)

  off_none : s.round_out ≡ false → g.round ≡ None
  off_none off = none_of g.round (sym is.out ∙ off)

  pub issue_refused : Refuses S F s Issue f ↔ ((slice_get (members_of g.round) (length s.issued) ≡ None) × (f ≡ NoRound))
  issue_refused = alike (f ≡ NoRound) (one_ground Halted NoRound f (not_both s.halted runs))
      (λ (ground : (s.round_out ≡ false) ⊎ (s.left ≡ [])). ⊎_elim
      (λ (off : s.round_out ≡ false). get_none (members_of g.round) (length s.issued) (ap members_of (off_none off)))
      (λ (none : s.left ≡ []). subst (λ (zs : List Name). slice_get zs (length s.issued) ≡ None) is.members (next_none s.issued s.left none)) ground)
      (λ (at : slice_get (members_of g.round) (length s.issued) ≡ None).
      inr (none_next s.issued s.left (subst (λ (zs : List Name). slice_get zs (length s.issued) ≡ None) (sym is.members) at)))

  pub end_refused : Refuses S F s End f ↔ (((g.round ≡ None) ⊎ (length s.issued < length (members_of g.round))) × (f ≡ NoRound))
  end_refused = alike (f ≡ NoRound) (one_ground Halted NoRound f (not_both s.halted runs))
      (λ (ground : (s.round_out ≡ false) ⊎ (s.left ≢ [])). ⊎_elim
      (λ (off : s.round_out ≡ false). inl (off_none off))
      (λ (some : s.left ≢ []). inr (subst (λ (zs : List Name). length s.issued < length zs) is.members (fewer_gone s.issued s.left some))) ground)
      (λ (ground : (g.round ≡ None) ⊎ (length s.issued < length (members_of g.round))). ⊎_elim
      (λ (none : g.round ≡ None). inl (is.out ∙ ap (λ (o : Option (List Name)). is_some o) none))
      (λ (fewer : length s.issued < length (members_of g.round)).
      inr (some_left s.issued s.left (subst (λ (zs : List Name). length s.issued < length zs) (sym is.members) fewer))) ground)

module _ (S : Shape) (F : Formats) (s : State) (f : Refusal) (halted : s.halted ≡ true) where
  pub all_refused : (event : Event) → ((id : ℕ) → event ≢ Get id) → ((n : ℕ) → event ≢ Settle n) → Refuses S F s event f ↔ (f ≡ Halted)
  all_refused (Put id bytes) get settle = this_ground Halted f halted
  all_refused (Get id) get settle = absurd (get id refl)
  all_refused (Delete id) get settle = this_ground Halted f halted
  all_refused Stage get settle = this_ground Halted f halted
  all_refused Begin get settle = this_ground Halted f halted
  all_refused Issue get settle = this_ground Halted f halted
  all_refused End get settle = this_ground Halted f halted
  all_refused (BeginSweep e) get settle = this_ground Halted f halted
  all_refused (MoveOne e) get settle = this_ground Halted f halted
  all_refused (Retire e) get settle = this_ground Halted f halted
  all_refused (Abandon e) get settle = this_ground Halted f halted
  all_refused (Settle n) get settle = absurd (settle n refl)

-- the round stays where the machine and the graph leave it
pub round_stays : (S : Shape) (F : Formats) (g h : GraphState) (s t : State) (event : Event) (reply : Reply) → IsRoundOf g s → Step S F s event reply t
    → event ≢ Begin → event ≢ Issue → event ≢ End → h.round ≡ g.round → IsRoundOf h t
round_stays S F g h s t event reply is step begin issue end same =
    let stays = step_round S F s t event reply step begin issue end in
    record {
      out = stays.round_out ∙ is.out ∙ ap (λ (o : Option (List Name)). is_some o) (sym same);
      members = ap (λ (gone : List Element). map name (gone ++ t.left)) stays.issued ∙ ap (λ (left : List Element). map name (s.issued ++ left)) stays.left
          ∙ is.members ∙ ap members_of (sym same);
    }

pub round_opened : (S : Shape) (F : Formats) (g : GraphState) (img : ℕ → Page) (n : ℕ) (m : Map) (found : Recovers S F img n m) → g.round ≡ None
    → IsRoundOf g (opened_state S F img n m found)
round_opened S F g img n m found none = record {
  out = sym (ap (λ (o : Option (List Name)). is_some o) none);
  members = sym (ap members_of none);
}

-- ---- sweeps

-- where chunks and runs may lie on one extent
begin_sweep_ground : (S : Shape) (F : Formats) → S.apart ≡ false → (s : State) (e : ℕ) (f : Refusal) → s.halted ≡ false
    → Refuses S F s (BeginSweep e) f ↔ (IsNotSweepable S s.world.extents e × (f ≡ NotSweepable))
begin_sweep_ground S F together s e f runs = alike (f ≡ NotSweepable) (one_ground Halted NotSweepable f (not_both s.halted runs))
    (before_rule _ _ S.apart together) (rule_before _ _ S.apart together)

module _ (F : Formats) (x : ExtentsState) (g : GraphState) (i : IndexState) (s : State) (e : ℕ) (f : Refusal) (are : ArePartsOf x g i s) (runs : s.halted ≡ false) where
  pub begin_sweep_refused : (shape x).apart ≡ false → Refuses (shape x) F s (BeginSweep e) f ↔ (IsNotSweepable (shape x) (extents_of x) e × (f ≡ NotSweepable))
  begin_sweep_refused together = alike (f ≡ NotSweepable) (begin_sweep_ground (shape x) F together s e f runs)
      (λ ground. subst (λ (z : Extents). IsNotSweepable (shape x) z e) are.world.extents ground)
      (λ ground. subst (λ (z : Extents). IsNotSweepable (shape x) z e) (sym are.world.extents) ground)

  unmarked : (extents_of x).swept e ≡ false → s.world.extents.swept e ≡ false
  unmarked not = ap (λ (z : Extents). z.swept e) are.world.extents ∙ not

  pub move_refused : (extents_of x).swept e ≡ false → Refuses (shape x) F s (MoveOne e) f ↔ (f ≡ NotSweepable)
  move_refused not = next_ground Halted NotSweepable f (not_both s.halted runs) (unmarked not)

  pub retire_refused : (extents_of x).swept e ≡ false → Refuses (shape x) F s (Retire e) f ↔ (f ≡ NotSweepable)
  retire_refused not = next_ground Halted NotSweepable f (not_both s.halted runs) (unmarked not)

  pub abandon_refused : Refuses (shape x) F s (Abandon e) f ↔ (((extents_of x).swept e ≡ false) × (f ≡ NotSweepable))
  abandon_refused = alike (f ≡ NotSweepable) (one_ground Halted NotSweepable f (not_both s.halted runs))
      (λ (not : s.world.extents.swept e ≡ false). sym (ap (λ (z : Extents). z.swept e) are.world.extents) ∙ not)
      (λ (not : (extents_of x).swept e ≡ false). unmarked not)
