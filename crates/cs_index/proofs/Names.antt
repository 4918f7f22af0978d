-- How many identifiers are named.
use Rattle.std.proofs.Common.{◌≡◌, ℕ, ◌≤◌, List, Option, ap, sym, ◌∙◌, arith}
use Rattle.std.specs.Prelude.{is_some}
use Rattle.law_machine.proofs.Counting.{names_le}
use Rattle.law_machine.specs.Element.{Entry, Locator}
use Rattle.law_machine.specs.Index.{lookup, names}

-- lists that name the same name as many
pub names_same : (xs ys : List Entry) → ((id : ℕ) → is_some (lookup id xs) ≡ is_some (lookup id ys)) → names xs ≡ names ys
names_same xs ys same =
    let a : names xs ≤ names ys = names_le xs ys (λ id is. sym (same id) ∙ is) in
    let b : names ys ≤ names xs = names_le ys xs (λ id is. same id ∙ is) in
    omega arith

-- lists in which the same is looked up name as many
pub names_of_lookups : (xs ys : List Entry) → ((id : ℕ) → lookup id xs ≡ lookup id ys) → names xs ≡ names ys
names_of_lookups xs ys same = names_same xs ys (λ id. ap (λ (o : Option (List Locator)). is_some o) (same id))
