-- What an index weighs.
use Rattle.std.proofs.Common.{◌≡◌, ◌≢◌, ℕ, suc, ◌+◌, ◌-◌, ◌*◌, ◌<◌, ◌≤◌, ◌==◌, Bool, true, false, List, [], ◌∷◌, ◌++◌, length, Option, Some, None, if◌then◌else◌, le_of_eq, le_trans, refl, sym, ap, subst, ◌∙◌, arith}
use Rattle.std.specs.Prelude.{is_some, map, ◌^◌}
use Rattle.std.proofs.lemmas.List.{length-map}
use Rattle.std.specs.List.{AllByRecursion}
use Rattle.law_machine.specs.Format.{Format, Four, Two}
use Rattle.law_machine.proofs.Counting.{ascending_names}
use Rattle.law_machine.proofs.Shapes.{is_weighing}
use Rattle.law_machine.proofs.Tallies.{counts_alike}
use Rattle.law_machine.proofs.Weights.{ascending_weight, named_parts, names_weigh, none_dead, weighs, weight_alike, weight_deletion, weight_one, weight_replaced, weight_some}
use Rattle.law_machine.specs.Element.{Entry, Locator as Place, Run}
use Rattle.law_machine.specs.Geometry.{most_weight_in, weigh_in}
use Rattle.law_machine.specs.Index.{entries_of, live, live_at, lookup, named_weight, names, run_weight, weight, weight_with}
use Rattle.law_machine.specs.Merges.{IsRunOf}
use Rattle.law_machine.specs.Tally.{dead_weight, living_weight, weight_if_some}
use Rattle.cs_extent.specs.State.{State as ExtentsState, shape}
use Rattle.cs_frame.proofs.RunWeights.{length_weighs}
use Rattle.cs_frame.specs.declared.locators.Locator.{Locator}
use Rattle.cs_frame.specs.Formats.{place_of}
use Rattle.cs_index.specs.State.{IsWhole, State, index_of}
use Rattle.cs_index.proofs.Merged.{left, live_left}
use Rattle.cs_index.proofs.Names.{names_of_lookups}

-- no more may be than the bytes of an extent
pub most_few : (format : Format) (pages : ℕ) → pages ≤ 65535 → most_weight_in format pages < 2 ^ 29
most_few Two pages most = omega (arith, most)
most_few (Four store device) pages most = omega (arith, most)

-- no more entries than they weigh
pub entries_weigh : (format : Format) (xs : List Entry) → length xs ≤ run_weight (weigh_in format) xs
entries_weigh format xs = length_weighs (weigh_in format) (weighs (weigh_in format) (is_weighing format)) xs

pub names_light : (format : Format) (xs : List Entry) → names xs ≤ named_weight (weigh_in format) xs
names_light format xs = names_weigh (weigh_in format) (is_weighing format) xs

-- so no more identifiers are named than may be weighed
pub names_few : (s : State) → IsWhole s → names (index_of s) ≤ s.limit
names_few s whole = le_trans (names_light s.format (index_of s)) whole.weight_fits

-- entries that weigh no more than an index may weigh no more than fits on an extent
pub shape_light : (s : State) (x : ExtentsState) (xs : List Entry) → s.format ≡ (shape x).format → s.limit ≡ (shape x).most_weight → run_weight (weigh_in s.format) xs ≤ s.limit
    → run_weight (shape x).weigh xs ≤ (shape x).most_weight
shape_light s x xs format limit light = subst (λ (f : Format). run_weight (weigh_in f) xs ≤ (shape x).most_weight) format (le_trans light (le_of_eq limit))

-- a deletion of what lives weighs no more
pub deletion_light : (s : State) (id : ℕ) → IsWhole s → live_at (index_of s) id ≢ [] → weight_with (weigh_in s.format) (index_of s) id 0 ≤ s.limit
deletion_light s id whole lives = le_trans (weight_deletion (weigh_in s.format) (is_weighing s.format) id (index_of s) (some (lookup id (index_of s)) lives)) whole.weight_fits
  where
    some : (o : Option (List Place)) → live o ≢ [] → is_some o ≡ true
    some None not = absurd (not refl)
    some (Some ls) not = refl

-- nor do no more locators than an identifier has
pub no_more_light : (s : State) (id : ℕ) (old new : List Locator) → IsWhole s → lookup id (index_of s) ≡ Some (map place_of old) → length new ≤ length old
    → weight_with (weigh_in s.format) (index_of s) id (length new) ≤ s.limit
no_more_light s id old new whole is fewer =
    let had : weight (weigh_in s.format) (lookup id (index_of s)) ≡ weigh_in s.format (length old) = ap (weight (weigh_in s.format)) is ∙ ap (weigh_in s.format) (length-map old place_of) in
    let less : weigh_in s.format (length new) ≤ weigh_in s.format (length old) = (is_weighing s.format).more (length new) (length old) fewer in
    omega (arith, had, less, weight_one (weigh_in s.format) (index_of s) id, whole.weight_fits)

module _ (weigh : ℕ → ℕ) where
  pub run_append : (xs ys : List Entry) → run_weight weigh (xs ++ ys) ≡ run_weight weigh xs + run_weight weigh ys
  run_append [] ys = omega arith
  run_append (x ∷ xs) ys = omega (arith, run_append xs ys)

  -- an identifier has other locators
  module _ (old new : List Entry) (id : ℕ) (ls : List Place) (entered : (d : ℕ) → lookup d new ≡ (if id == d then Some ls else lookup d old)) where
    pub weight_entered : named_weight weigh new ≡ weight_with weigh old id (length ls)
    weight_entered = weight_alike weigh new (record { id = id; locators = ls } ∷ old) entered

    -- so what is counted goes on
    pub weight_then : (sum before now : ℕ) → sum ≡ named_weight weigh old → before ≡ weight weigh (lookup id old) → now ≡ weigh (length ls)
        → (sum - before) + now ≡ named_weight weigh new
    weight_then sum before now was had has = omega (arith, was, had, has, weight_entered)

  pub weight_counted : (index : List Entry) (id sum before : ℕ) → sum ≡ named_weight weigh index → before ≡ weight weigh (lookup id index) → before ≤ sum
  weight_counted index id sum before was had = omega (arith, was, had, weight_one weigh index id)

  -- no more locators than before weigh no more
  pub as_many_weigh : (index : List Entry) (id limit : ℕ) (ls : List Place) → is_some (lookup id index) ≡ true → length ls ≡ length (live_at index id) → named_weight weigh index ≤ limit
      → weight_with weigh index id (length ls) ≤ limit
  as_many_weigh index id limit ls some same le = le_trans (weight_replaced weigh id ls index some same) le

  -- ---- a run in place of others

  -- what a run has its index has
  pub run_light : (go : Bool) (index xs : List Entry) → IsRunOf go index xs → run_weight weigh xs ≤ named_weight weigh index
  run_light go index xs run = le_trans (le_of_eq (sym (ascending_weight weigh xs run.0))) (weight_some weigh xs index (λ id ls is. kept go (lookup id index) ls (sym (run.1 id) ∙ is)))
    where
      kept : (go : Bool) (o : Option (List Place)) (ls : List Place) → left go o ≡ Some ls → o ≡ Some ls
      kept true None ls is = is
      kept true (Some []) ls is = absurd (let e : None ≡ Some ls = is in cc)
      kept true (Some (l ∷ ks)) ls is = is
      kept false o ls is = is

  -- what is left weighs what it did, and without deletions what lives does
  pub left_weight : (go : Bool) (old new : List Entry) → ((id : ℕ) → lookup id new ≡ left go (lookup id old))
      → named_weight weigh new ≡ (if go then living_weight weigh old else named_weight weigh old)
  left_weight true old new look =
      let parts : named_weight weigh new ≡ living_weight weigh new + dead_weight weigh new = named_parts weigh new in
      let none : dead_weight weigh new ≡ 0 = none_dead weigh new old look in
      let same : living_weight weigh new ≡ living_weight weigh old = counts_alike (weight_if_some weigh) refl new old (λ id. ap live (look id) ∙ live_left true (lookup id old)) in
      omega (arith, parts, none, same)
  left_weight false old new look = weight_alike weigh new old look

  pub left_light : (go : Bool) (old new : List Entry) → ((id : ℕ) → lookup id new ≡ left go (lookup id old)) → named_weight weigh new ≤ named_weight weigh old
  left_light go old new look = le_trans (le_of_eq (left_weight go old new look)) (by go)
    where
      by : (b : Bool) → (if b then living_weight weigh old else named_weight weigh old) ≤ named_weight weigh old
      by true = omega (arith, named_parts weigh old)
      by false = omega arith

  pub dead_light : (index : List Entry) → dead_weight weigh index ≤ named_weight weigh index
  dead_light index = omega (arith, named_parts weigh index)

  -- what is left without deletions
  pub living_left : (index : List Entry) (all dead : ℕ) → all ≡ named_weight weigh index → dead ≡ dead_weight weigh index → all - dead ≡ living_weight weigh index
  living_left index all dead was is = omega (arith, was, is, named_parts weigh index)

  -- ---- counted one after another

  pub counted_run : (index xs : List Entry) → IsRunOf false index xs → (named sum : ℕ) → named ≡ length xs → sum ≡ run_weight weigh xs
      → (named ≡ names index) × (sum ≡ named_weight weigh index)
  counted_run index xs run named sum many heavy = (
    many ∙ sym (ascending_names xs run.0) ∙ names_of_lookups xs index run.1,
    heavy ∙ sym (ascending_weight weigh xs run.0) ∙ weight_alike weigh xs index run.1,
  )

-- as many are named in runs as these have entries at most
pub names_append : (xs ys : List Entry) → names (xs ++ ys) ≤ length xs + names ys
names_append [] ys = omega arith
names_append (x ∷ xs) ys = by (is_some (lookup x.id (xs ++ ys))) (names_append xs ys)
  where
    by : (b : Bool) → names (xs ++ ys) ≤ length xs + names ys → (if b then names (xs ++ ys) else suc (names (xs ++ ys))) ≤ length (x ∷ xs) + names ys
    by true le = omega (arith, le)
    by false le = omega (arith, le)

pub runs_names : (runs : List Run) → AllByRecursion (λ (run : Run). length run.entries < 2 ^ 32) runs → names (entries_of runs) ≤ length runs * 2 ^ 32
runs_names [] all = omega arith
runs_names (run ∷ runs) all =
    let few : length run.entries < 2 ^ 32 = all.0 in
    let rest : names (entries_of runs) ≤ length runs * 2 ^ 32 = runs_names runs all.1 in
    omega (arith, names_append run.entries (entries_of runs), few, rest)
