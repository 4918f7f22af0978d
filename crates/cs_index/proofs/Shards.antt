-- How many identifiers live.
use Rattle.std.proofs.Common.{◌≡◌, ◌≢◌, inl, inr, ℕ, ◌+◌, ◌-◌, ◌≤◌, ◌==◌, true, List, [], ◌∷◌, ◌++◌, length, length-append, Option, Some, None, if◌then◌else◌, refl, sym, ap, ◌∙◌, arith}
use Rattle.law_machine.proofs.Counting.{ascending_lookup, ascending_tail, none_below}
use Rattle.law_machine.proofs.Sorted.{sorted_live}
use Rattle.law_machine.proofs.Tallies.{counts, counts_alike}
use Rattle.law_machine.specs.Element.{Entry, Locator as Place}
use Rattle.law_machine.specs.Index.{Ascending, IsMergedRun, if_live, live, live_at, lookup, names}
use Rattle.law_machine.specs.Lists.{◌∈◌}
use Rattle.law_machine.specs.Tally.{one_if_some, shards}
use Rattle.cs_index.specs.Sorted.{IsMergedTo, live_entry}
use Rattle.cs_index.specs.State.{IsNext}
use Rattle.cs_index.proofs.Merged.{merged_live, merged_step, run_few}

-- the same identifiers live, where each has the same
pub shards_same : (xs ys : List Entry) → ((id : ℕ) → live_at xs id ≡ live_at ys id) → shards xs ≡ shards ys
shards_same xs ys same = counts_alike one_if_some refl xs ys same

one_where_some : (ls : List Place) → ls ≢ [] → one_if_some ls ≡ 1
one_where_some [] some = absurd (some refl)
one_where_some (l ∷ ls) some = refl

-- where each entry has locators, as many live as there are entries
all_live : (xs : List Entry) → Ascending xs → ((y : Entry) → y ∈ xs → y.locators ≢ []) → shards xs ≡ length xs
all_live [] order each = refl
all_live (x ∷ xs) order each =
    let rest : shards xs ≡ length xs = all_live xs (ascending_tail x xs order) (λ y among. each y (inr among)) in
    let none : one_if_some (live_at xs x.id) ≡ 0 = ap (λ (o : Option (List Place)). one_if_some (live o)) (none_below x xs x.id order (omega arith)) in
    let one : one_if_some x.locators ≡ 1 = one_where_some x.locators (each x (inl refl)) in
    let sum : shards (x ∷ xs) ≡ (shards xs - one_if_some (live_at xs x.id)) + one_if_some x.locators = refl in
    omega arith

some_lives : (o : Option (List Place)) (ls : List Place) → Some ls ≡ if_live o → ls ≢ []
some_lives None ls is none = let e : Some ls ≡ None = is in cc
some_lives (Some []) ls is none = let e : Some ls ≡ None = is in cc
some_lives (Some (l ∷ ks)) ls is none = let e : Some ls ≡ Some (l ∷ ks) = is in cc

-- as many live as the run of all that is live has entries
pub shards_run : (index xs : List Entry) → IsMergedRun index xs → shards index ≡ length xs
shards_run index xs run =
    shards_same index xs (λ id. sym (merged_live index xs run id))
    ∙ all_live xs run.0 (λ y among. some_lives (lookup y.id index) y.locators (sym (ascending_lookup xs y run.0 among) ∙ run.1 y.id))

-- no more live than are named
pub shards_few : (index : List Entry) → shards index ≤ names index
shards_few index =
    let all = sorted_live index in
    let run : IsMergedRun index all.0 = (all.1, all.2) in
    let many : shards index ≡ length all.0 = shards_run index all.0 run in
    let few : length all.0 ≤ names index = run_few true index all.0 run in
    omega arith

-- an identifier has other locators
module _ (old new : List Entry) (id : ℕ) (ls : List Place) (entered : (d : ℕ) → lookup d new ≡ (if id == d then Some ls else lookup d old)) where
  pub shards_entered : shards new ≡ (shards old - one_if_some (live_at old id)) + one_if_some ls
  shards_entered = shards_same new (record { id = id; locators = ls } ∷ old) (λ d. ap live (entered d))

  pub lived_before : one_if_some (live_at old id) ≤ shards old
  lived_before = counts one_if_some refl old id

-- ---- counted one after another

pub one_more : (id : ℕ) (ls : List Place) → length (live_entry id ls) ≡ one_if_some ls
one_more id [] = refl
one_more id (l ∷ ls) = refl

pub counted_more : (index xs : List Entry) (after : Option ℕ) (id more : ℕ) (ls : List Place) → IsMergedTo index after xs → IsNext index after (Some (record { id = id; locators = ls })) → more ≡ one_if_some ls
    → (ys : List Entry) × IsMergedTo index (Some id) ys × (length ys ≡ length xs + more)
counted_more index xs after id more ls was next is =
    let sum : length (xs ++ live_entry id ls) ≡ length xs + length (live_entry id ls) = length-append xs (live_entry id ls) in
    let one : length (live_entry id ls) ≡ one_if_some ls = one_more id ls in
    (xs ++ live_entry id ls, merged_step index xs after id ls was next, omega (arith, is, sum, one))

-- what is counted once an identifier has other locators
module _ (old new : List Entry) (id : ℕ) (ls : List Place) (entered : (d : ℕ) → lookup d new ≡ (if id == d then Some ls else lookup d old))
    (living before now : ℕ) (was : living ≡ shards old) (counted : before ≡ one_if_some (live_at old id)) (counts_now : now ≡ one_if_some ls) where
  pub counted_no_more : before ≤ living
  counted_no_more = let le : one_if_some (live_at old id) ≤ shards old = lived_before old new id ls entered in omega arith

  pub lives_then : (living - before) + now ≡ shards new
  lives_then = let e : shards new ≡ (shards old - one_if_some (live_at old id)) + one_if_some ls = shards_entered old new id ls entered in omega arith
