-- A Stage merges as much of an index as of the machine's.
use Rattle.std.proofs.Common.{◌≡◌, ℕ, ◌-◌, ◌*◌, ◌&&◌, ◌||◌, ◌++◌, Bool, false, List, length, take, Option, nat_le, nat_lt, if◌then◌else◌, refl, sym, ap, ◌∙◌, subst}
use Rattle.cs_index.proofs.Names.{names_of_lookups}
use Rattle.cs_index.specs.Merges.{deletions_go as index_deletions_go, part as index_part, stage_takes as index_takes}
use Rattle.cs_index.specs.State.{State as IndexState, index_of}
use Rattle.law_machine.proofs.Gives.{lookup_append}
use Rattle.law_machine.proofs.Sorted.{one_sorted}
use Rattle.law_machine.proofs.Tallies.{counts_alike}
use Rattle.law_machine.specs.Device.{Shape}
use Rattle.law_machine.specs.Element.{Entry, Locator, Run}
use Rattle.law_machine.specs.Extents.{ForRun}
use Rattle.law_machine.specs.Formats.{Formats}
use Rattle.law_machine.specs.Index.{entries_of, if_live, lookup, names}
use Rattle.law_machine.specs.Merges.{IsRunOf, MergesNewest, MergesPart, deletions_go, part, reaching, sizes, stage_takes}
use Rattle.law_machine.specs.State.{State, index_now}
use Rattle.law_machine.specs.Tally.{one_if_some, shards}
use Rattle.law_refinement.specs.Parts.{IsIndexOf}
use Rattle.law_refinement.proofs.Indexes.{as_many_named, live_same, looked_up}

-- ---- the run of a part

module _ (i : IndexState) (s : State) (is : IsIndexOf i s.table s.runs) where
  part_same : (k id : ℕ) → lookup id (index_part i k) ≡ lookup id (part s k)
  part_same k id = lookup_append id i.table s.table (entries_of (take k i.runs)) (is.lookups id)
      ∙ ap (λ (rs : List Run). lookup id (s.table ++ entries_of (take k rs))) is.same_runs

  left_same : (go : Bool) (k id : ℕ) → (if go then if_live (lookup id (index_part i k)) else lookup id (index_part i k)) ≡ (if go then if_live (lookup id (part s k)) else lookup id (part s k))
  left_same go k id = ap (λ (o : Option (List Locator)). if go then if_live o else o) (part_same k id)

  pub run_there : (go : Bool) (k : ℕ) (es : List Entry) → IsRunOf go (index_part i k) es → IsRunOf go (part s k) es
  run_there go k es run = (run.0, λ id. run.1 id ∙ left_same go k id)

  pub run_here : (go : Bool) (k : ℕ) (es : List Entry) → IsRunOf go (part s k) es → IsRunOf go (index_part i k) es
  run_here go k es run = (run.0, λ id. run.1 id ∙ sym (left_same go k id))

  pub same_run : (go : Bool) (k : ℕ) (xs ys : List Entry) → IsRunOf go (part s k) xs → IsRunOf go (index_part i k) ys → xs ≡ ys
  same_run go k xs ys a b = one_sorted xs ys a.0 b.0 (λ id. a.1 id ∙ sym (left_same go k id) ∙ sym (b.1 id))

-- ---- how much is merged

module _ (S : Shape) (i : IndexState) (s : State) (is : IsIndexOf i s.table s.runs) where
  pub same_goes : (k : ℕ) → index_deletions_go S i k ≡ deletions_go S s k
  same_goes k = ap (λ (rs : List Run). nat_le (length rs) k && (S.by_size || nat_lt 0 k)) is.same_runs

  -- where so many are named, so many live, the table names so many, and these are the runs
  abbrev takes_of : (named living entries : ℕ) → List Run → ℕ
  takes_of named living entries runs =
      if S.by_size then (if nat_le S.most_weight (4 * ((named - living) * S.weigh 0)) then length runs else reaching S (sizes runs) entries)
      else (if nat_lt (length runs) 4 then 0 else length runs)

  pub same_takes : index_takes S i ≡ stage_takes S s
  same_takes =
      ap (λ (n : ℕ). takes_of n (shards (index_of i)) (names i.table) i.runs) (as_many_named i s.table s.runs is)
      ∙ ap (λ (n : ℕ). takes_of (names (index_now s)) n (names i.table) i.runs)
      (counts_alike one_if_some refl (index_of i) (index_now s) (live_same (index_of i) (index_now s) (looked_up i s.table s.runs is)))
      ∙ ap (λ (n : ℕ). takes_of (names (index_now s)) (shards (index_now s)) n i.runs) (names_of_lookups i.table s.table is.lookups)
      ∙ ap (λ (rs : List Run). takes_of (names (index_now s)) (shards (index_now s)) (names s.table) rs) is.same_runs

  module _ (F : Formats) (mid : State) (runs : List Run) where
    pub merges_there : MergesPart S F false (index_deletions_go S i (index_takes S i)) s ForRun (index_takes S i) mid runs → MergesNewest S F s ForRun (stage_takes S s) mid runs
    merges_there m = subst (λ (n : ℕ). MergesNewest S F s ForRun n mid runs) same_takes
        (subst (λ (b : Bool). MergesPart S F false b s ForRun (index_takes S i) mid runs) (same_goes (index_takes S i)) m)

    pub merges_here : MergesNewest S F s ForRun (stage_takes S s) mid runs → MergesPart S F false (index_deletions_go S i (index_takes S i)) s ForRun (index_takes S i) mid runs
    merges_here m = subst (λ (b : Bool). MergesPart S F false b s ForRun (index_takes S i) mid runs) (sym (same_goes (index_takes S i)))
        (subst (λ (n : ℕ). MergesNewest S F s ForRun n mid runs) (sym same_takes) m)
