use Rattle.std.proofs.Common.{◌≡◌, ◌≢◌, ◌∙◌, [], Bool, ℕ, false, subst, sym, true, Ok}
use Rattle.std.proofs.lemmas.Bool.{false≢true}
use Rattle.cs_extent.specs.State.{shape}
use Rattle.law_machine.specs.Index.{lookup}
use Rattle.cs_index.specs.Staged.{IsExact}
use Rattle.cs_index.specs.Stages.{DeletionsStayBy, IsStageFullBy, IsStageWornBy, IsStagedBy}
use Rattle.cs_index.specs.State.{index_of}
use Rattle.cs_index.proofs.Chosen.{nothing_full}
use Rattle.cs_index.proofs.Exact.{exact_with}
use Rattle.cs_index.proofs.indexes.Index.stage.Goals as goal
use Rattle.cs_index.proofs.indexes.Index.stage.Goals.{Else-is_table_empty, Then-is_apart, Else-is_apart}

some_entries : (c : Else-is_table_empty) → c.args.self.now.table ≢ []
some_entries c = λ none. false≢true (sym c.if-is_table_empty.false ∙ c.is_table_empty.ensures.1 none)

apart : (c : Then-is_apart) → true ≡ (shape c.args.extents.now).apart
apart c = sym c.if-is_apart.true ∙ c.is_apart.ensures

together : (c : Else-is_apart) → false ≡ (shape c.args.extents.now).apart
together c = sym c.if-is_apart.false ∙ c.is_apart.ensures

pub stage_v2-requires-clause-some : goal.stage_v2-requires-clause-some
stage_v2-requires-clause-some c = some_entries (goal.at.stage_v2-requires-clause-some c).Else-is_table_empty

pub returns-then-is_table_empty-clause-why : goal.returns-then-is_table_empty-clause-why
returns-then-is_table_empty-clause-why c =
    let none = c.is_table_empty.ensures.0 c.if-is_table_empty.true in
    (nothing_full (shape c.args.extents.now).apart c.args.self.now c.args.extents.now none, (λ worn. worn.0 none))

pub returns-then-is_apart-clause-staged : goal.returns-then-is_apart-clause-staged
returns-then-is_apart-clause-staged c = λ v is.
    let e : c.in_ok-version.version ≡ v = cc in
    subst (λ (b : Bool). IsStagedBy b c.args.self.now c.args.extents.now c.args.graph.now v c.args.commands c.stage_root.new.self c.stage_root.new.extents c.stage_root.new.graph) (apart (goal.at.returns-then-is_apart-clause-staged c).Then-is_apart)
    (subst (λ (n : ℕ). IsStagedBy true c.args.self.now c.args.extents.now c.args.graph.now n c.args.commands c.stage_root.new.self c.stage_root.new.extents c.stage_root.new.graph) e c.in_ok-version.ensures.staged)

pub returns-clause-staged : goal.returns-clause-staged
returns-clause-staged c = λ v is.
    let e : c.in_ok-version-2.version ≡ v = cc in
    subst (λ (b : Bool). IsStagedBy b c.args.self.now c.args.extents.now c.args.graph.now v c.args.commands c.stage_v2.new.self c.stage_v2.new.extents c.stage_v2.new.graph) (together (goal.at.returns-clause-staged c).Else-is_apart)
    (subst (λ (n : ℕ). IsStagedBy false c.args.self.now c.args.extents.now c.args.graph.now n c.args.commands c.stage_v2.new.self c.stage_v2.new.extents c.stage_v2.new.graph) e c.in_ok-version-2.ensures.staged)

pub returns-then-is_apart-clause-lookups : goal.returns-then-is_apart-clause-lookups
returns-then-is_apart-clause-lookups c =
    subst (λ (b : Bool). DeletionsStayBy b c.args.self.now c.args.extents.now → (id : ℕ) → lookup id (index_of c.stage_root.new.self) ≡ lookup id (index_of c.args.self.now))
    (apart (goal.at.returns-then-is_apart-clause-lookups c).Then-is_apart) (λ stay id. c.stage_root.ensures.lookups stay.0 stay.1 id)

pub returns-clause-lookups : goal.returns-clause-lookups
returns-clause-lookups c =
    subst (λ (b : Bool). DeletionsStayBy b c.args.self.now c.args.extents.now → (id : ℕ) → lookup id (index_of c.stage_v2.new.self) ≡ lookup id (index_of c.args.self.now))
    (together (goal.at.returns-clause-lookups c).Else-is_apart) c.stage_v2.ensures.lookups

pub returns-then-is_apart-clause-why : goal.returns-then-is_apart-clause-why
returns-then-is_apart-clause-why c =
    let at = goal.at.returns-then-is_apart-clause-why c in
    exact_with {T = ℕ} (Ok c.in_ok-version.version) _ _ _ (some_entries at.Else-is_table_empty)
    (subst (λ (b : Bool). IsExact {T = ℕ} (Ok c.in_ok-version.version) (IsStageFullBy b c.args.self.now c.args.extents.now) (IsStageWornBy b c.args.self.now c.args.extents.now c.args.graph.now.staging)) (apart at.Then-is_apart) c.in_ok-version.ensures.why)

pub returns-clause-why : goal.returns-clause-why
returns-clause-why c =
    let at = goal.at.returns-clause-why c in
    exact_with {T = ℕ} (Ok c.in_ok-version-2.version) _ _ _ (some_entries at.Else-is_table_empty)
    (subst (λ (b : Bool). IsExact {T = ℕ} (Ok c.in_ok-version-2.version) (IsStageFullBy b c.args.self.now c.args.extents.now) (IsStageWornBy b c.args.self.now c.args.extents.now c.args.graph.now.staging)) (together at.Else-is_apart) c.in_ok-version-2.ensures.why)
