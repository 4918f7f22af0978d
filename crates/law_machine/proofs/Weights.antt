-- What an index weighs.
use Rattle.std.proofs.Common.{◌≡◌, inl, inr, ℕ, ◌+◌, ◌-◌, ◌*◌, ◌<◌, ◌≤◌, true, false, List, [], ◌∷◌, length, Option, Some, None, true≢false, le_refl, le_of_eq, le_trans, mul-le-mul_right, refl, sym, ap, ap₂, ◌∙◌, arith}
use Rattle.std.specs.Prelude.{is_some}
use Rattle.std.proofs.lemmas.Bool.{cases_Bool}
use Rattle.law_machine.proofs.Counting.{ascending_tail, none_below}
use Rattle.law_machine.proofs.Sums.{summed, sums_alike, sums_no_more, sums_one, sums_parts, sums_times}
use Rattle.law_machine.proofs.Tallies.{tally_is}
use Rattle.law_machine.specs.Device.{IsWeighing}
use Rattle.law_machine.specs.Element.{Entry, Locator}
use Rattle.law_machine.specs.Index.{Ascending, if_live, live, lookup, named_weight, names, run_weight, weight}
use Rattle.law_machine.specs.Tally.{dead_weight, living_weight, one_if_some, shards, weight_if_some}

-- 1 where there is an entry, and 1 where there is a deletion
abbrev one_if_named : Option (List Locator) → ℕ
one_if_named None = 0
one_if_named (Some ls) = 1

abbrev one_if_dead : Option (List Locator) → ℕ
one_if_dead None = 0
one_if_dead (Some []) = 1
one_if_dead (Some (l ∷ ls)) = 0

named_one : (o : Option (List Locator)) → is_some o ≡ true → one_if_named o ≡ 1
named_one None is = absurd (true≢false (sym is))
named_one (Some ls) is = refl

named_none : (o : Option (List Locator)) → is_some o ≡ false → one_if_named o ≡ 0
named_none None is = refl
named_none (Some ls) is = absurd (true≢false is)

names_is : (xs : List Entry) → names xs ≡ summed one_if_named xs
names_is [] = refl
names_is (x ∷ xs) = elim (cases_Bool (is_some (lookup x.id xs))) [
  | inl old ↦ (let rest : names xs ≡ summed one_if_named xs = names_is xs in
      let here : one_if_named (lookup x.id xs) ≡ 1 = named_one (lookup x.id xs) old in
      let some : one_if_named (lookup x.id xs) ≤ summed one_if_named xs = sums_one one_if_named refl xs x.id in
      rw old (omega arith))
  | inr new ↦ (let rest : names xs ≡ summed one_if_named xs = names_is xs in
      let here : one_if_named (lookup x.id xs) ≡ 0 = named_none (lookup x.id xs) new in rw new (omega arith))
]

-- so names depend on what the identifiers have
pub names_alike : (xs ys : List Entry) → ((id : ℕ) → lookup id xs ≡ lookup id ys) → names xs ≡ names ys
names_alike xs ys same = names_is xs ∙ sums_alike one_if_named refl xs ys (λ id. ap one_if_named (same id)) ∙ sym (names_is ys)

-- the identifiers that are named live or are dead
pub names_parts : (xs : List Entry) → names xs ≡ shards xs + summed one_if_dead xs
names_parts xs =
    let parts : summed one_if_named xs ≡ summed (λ (o : Option (List Locator)). one_if_some (live o)) xs + summed one_if_dead xs =
    sums_parts one_if_named (λ (o : Option (List Locator)). one_if_some (live o)) one_if_dead refl refl each xs in
    let named : names xs ≡ summed one_if_named xs = names_is xs in
    let living : shards xs ≡ summed (λ (o : Option (List Locator)). one_if_some (live o)) xs = tally_is one_if_some xs in
    omega arith
  where
    each : (o : Option (List Locator)) → one_if_named o ≡ one_if_some (live o) + one_if_dead o
    each None = refl
    each (Some []) = refl
    each (Some (l ∷ ls)) = refl

dead_is : (xs : List Entry) → names xs - shards xs ≡ summed one_if_dead xs
dead_is xs = let parts : names xs ≡ shards xs + summed one_if_dead xs = names_parts xs in omega arith

module _ (weigh : (chunks : ℕ) → ℕ) where
  pub weight_is : (xs : List Entry) → named_weight weigh xs ≡ summed (weight weigh) xs
  weight_is [] = refl
  weight_is (x ∷ xs) = ap (λ (n : ℕ). (n - weight weigh (lookup x.id xs)) + weigh (length x.locators)) (weight_is xs)

  -- each identifier's entry weighs no more than all
  pub weight_one : (xs : List Entry) (id : ℕ) → weight weigh (lookup id xs) ≤ named_weight weigh xs
  weight_one xs id = le_trans (sums_one (weight weigh) refl xs id) (le_of_eq (sym (weight_is xs)))

  -- an index in which each weighs no more weighs no more
  pub weight_no_more : (xs ys : List Entry) → ((id : ℕ) → weight weigh (lookup id xs) ≤ weight weigh (lookup id ys))
      → named_weight weigh xs ≤ named_weight weigh ys
  weight_no_more xs ys same = le_trans (le_of_eq (weight_is xs))
      (le_trans (sums_no_more (weight weigh) refl xs ys same) (le_of_eq (sym (weight_is ys))))

  pub weight_alike : (xs ys : List Entry) → ((id : ℕ) → lookup id xs ≡ lookup id ys) → named_weight weigh xs ≡ named_weight weigh ys
  weight_alike xs ys same = weight_is xs ∙ sums_alike (weight weigh) refl xs ys (λ id. ap (weight weigh) (same id)) ∙ sym (weight_is ys)

  -- so does one that has some of the entries
  pub weight_some : (xs ys : List Entry) → ((id : ℕ) (ls : List Locator) → lookup id xs ≡ Some ls → lookup id ys ≡ Some ls)
      → named_weight weigh xs ≤ named_weight weigh ys
  weight_some xs ys same = weight_no_more xs ys (λ id. at id (lookup id xs) refl)
    where
      at : (id : ℕ) (o : Option (List Locator)) → lookup id xs ≡ o → weight weigh o ≤ weight weigh (lookup id ys)
      at id None is = omega arith
      at id (Some ls) is = le_of_eq (ap (weight weigh) (sym (same id ls is)))

  -- an entry more that weighs no more than what its identifier has makes no more
  pub weight_entry : (x : Entry) (xs : List Entry) → weigh (length x.locators) ≤ weight weigh (lookup x.id xs)
      → named_weight weigh (x ∷ xs) ≤ named_weight weigh xs
  weight_entry x xs light = let one : weight weigh (lookup x.id xs) ≤ named_weight weigh xs = weight_one xs x.id in omega arith

  -- nor does one of as many chunks
  pub weight_replaced : (id : ℕ) (ls : List Locator) (xs : List Entry) → is_some (lookup id xs) ≡ true
      → length ls ≡ length (live (lookup id xs)) → named_weight weigh (record { id = id; locators = ls } ∷ xs) ≤ named_weight weigh xs
  weight_replaced id ls xs is same = weight_entry (record { id = id; locators = ls }) xs (as_much (lookup id xs) is same)
    where
      as_much : (o : Option (List Locator)) → is_some o ≡ true → length ls ≡ length (live o) → weigh (length ls) ≤ weight weigh o
      as_much None wrong e = absurd (true≢false (sym wrong))
      as_much (Some ks) some e = le_of_eq (ap weigh e)

  pub weight_as : (id : ℕ) (ls ks : List Locator) (xs : List Entry) → lookup id xs ≡ Some ks → length ls ≡ length ks
      → named_weight weigh (record { id = id; locators = ls } ∷ xs) ≤ named_weight weigh xs
  weight_as id ls ks xs is same = weight_entry (record { id = id; locators = ls }) xs
      (le_of_eq (ap weigh same ∙ ap (weight weigh) (sym is)))

  -- the entries of a run weigh what they do one by one
  pub ascending_weight : (xs : List Entry) → Ascending xs → named_weight weigh xs ≡ run_weight weigh xs
  ascending_weight [] order = refl
  ascending_weight (x ∷ xs) order =
      let alone : weight weigh (lookup x.id xs) ≡ 0 = ap (weight weigh) (none_below x xs x.id order (le_refl _)) in
      let rest : named_weight weigh xs ≡ run_weight weigh xs = ascending_weight xs (ascending_tail x xs order) in omega arith

  weight_parts : (o : Option (List Locator)) → weight weigh o ≡ weight_if_some weigh (live o) + one_if_dead o * weigh 0
  weight_parts None = omega arith
  weight_parts (Some []) = omega arith
  weight_parts (Some (l ∷ ls)) = omega arith

  -- what is named lives or is dead
  pub named_parts : (xs : List Entry) → named_weight weigh xs ≡ living_weight weigh xs + dead_weight weigh xs
  named_parts xs = weight_is xs
      ∙ sums_parts (weight weigh) (λ (o : Option (List Locator)). weight_if_some weigh (live o))
      (λ (o : Option (List Locator)). one_if_dead o * weigh 0) refl (omega arith) weight_parts xs
      ∙ ap₂ (λ (a b : ℕ). a + b) (sym (tally_is (weight_if_some weigh) xs))
      (sums_times (weigh 0) one_if_dead refl xs ∙ ap (λ (n : ℕ). n * weigh 0) (sym (dead_is xs)))

  -- deletions weigh as much where the identifiers have the same, and nothing where a run has what lives alone
  pub dead_alike : (xs ys : List Entry) → ((id : ℕ) → lookup id xs ≡ lookup id ys) → dead_weight weigh xs ≡ dead_weight weigh ys
  dead_alike xs ys same = ap (λ (n : ℕ). n * weigh 0)
      (dead_is xs ∙ sums_alike one_if_dead refl xs ys (λ id. ap one_if_dead (same id)) ∙ sym (dead_is ys))

  pub none_dead : (xs ys : List Entry) → ((id : ℕ) → lookup id xs ≡ if_live (lookup id ys)) → dead_weight weigh xs ≡ 0
  none_dead xs ys live_alone = ap (λ (n : ℕ). n * weigh 0)
      (dead_is xs ∙ sums_alike one_if_dead refl xs [] (λ id. ap one_if_dead (live_alone id) ∙ lives (lookup id ys)))
      ∙ nothing (weigh 0)
    where
      nothing : (k : ℕ) → 0 * k ≡ 0
      nothing k = omega arith

      lives : (o : Option (List Locator)) → one_if_dead (if_live o) ≡ 0
      lives None = refl
      lives (Some []) = refl
      lives (Some (l ∷ ls)) = refl

  -- an entry more with a locator makes no deletion
  pub dead_no_more : (x : Entry) (xs : List Entry) → 0 < length x.locators → dead_weight weigh (x ∷ xs) ≤ dead_weight weigh xs
  dead_no_more x xs some = mul-le-mul_right (weigh 0)
      (le_trans (le_of_eq (dead_is (x ∷ xs))) (le_trans fewer (le_of_eq (sym (dead_is xs)))))
    where
      alive : (ls : List Locator) → 0 < length ls → one_if_dead (Some ls) ≡ 0
      alive [] none = absurd (omega arith)
      alive (l ∷ ls) one = refl

      fewer : summed one_if_dead (x ∷ xs) ≤ summed one_if_dead xs
      fewer = let here : one_if_dead (Some x.locators) ≡ 0 = alive x.locators some in omega arith

  -- where each entry weighs one the names are counted
  pub ones_weigh : ((c : ℕ) → weigh c ≡ 1) → (xs : List Entry) → named_weight weigh xs ≡ names xs
  ones_weigh ones xs = weight_is xs ∙ ap (λ (f : Option (List Locator) → ℕ). summed f xs) (λ i o. one o i) ∙ sym (names_is xs)
    where
      one : (o : Option (List Locator)) → weight weigh o ≡ one_if_named o
      one None = refl
      one (Some ls) = ones (length ls)

  module _ (rule : IsWeighing weigh) where
    -- each entry weighs something
    pub weighs : (c : ℕ) → 1 ≤ weigh c
    weighs c = le_trans rule.some (rule.more 0 c (omega arith))

    -- no more identifiers are named than it weighs
    pub names_weigh : (xs : List Entry) → names xs ≤ named_weight weigh xs
    names_weigh xs =
        let parts : summed (weight weigh) xs ≡ summed one_if_named xs + summed (λ (o : Option (List Locator)). weight weigh o - one_if_named o) xs =
        sums_parts (weight weigh) one_if_named (λ (o : Option (List Locator)). weight weigh o - one_if_named o) refl refl each xs in
        let all : named_weight weigh xs ≡ summed (weight weigh) xs = weight_is xs in
        let named : names xs ≡ summed one_if_named xs = names_is xs in omega arith
      where
        each : (o : Option (List Locator)) → weight weigh o ≡ one_if_named o + (weight weigh o - one_if_named o)
        each None = refl
        each (Some ls) = let some : 1 ≤ weigh (length ls) = weighs (length ls) in omega arith

    -- a deletion of what is named makes no more
    pub weight_deletion : (id : ℕ) (xs : List Entry) → is_some (lookup id xs) ≡ true
        → named_weight weigh (record { id = id; locators = [] } ∷ xs) ≤ named_weight weigh xs
    weight_deletion id xs is = weight_entry (record { id = id; locators = [] }) xs (least (lookup id xs) is)
      where
        least : (o : Option (List Locator)) → is_some o ≡ true → weigh 0 ≤ weight weigh o
        least None wrong = absurd (true≢false (sym wrong))
        least (Some ls) some = rule.more 0 (length ls) (omega arith)
