-- What a sweep has left to copy, where in another index the same is looked up.
use Rattle.std.proofs.Common.{◌≡◌, ℕ, List, sym, ap, ◌∙◌}
use Rattle.law_machine.specs.Apart.{AllCopied, FirstUncopied}
use Rattle.law_machine.specs.Element.{Copy, Entry, Locator}
use Rattle.law_machine.specs.Index.{lookup}
use Rattle.law_machine.specs.Lists.{nth}
use Rattle.law_refinement.proofs.Indexes.{live_same}

module _ (xs ys : List Entry) (same : (id : ℕ) → lookup id xs ≡ lookup id ys) (copies : List Copy) where
  pub all_copied : (e : ℕ) → AllCopied xs copies e → AllCopied ys copies e
  all_copied e all id chunk l at on = all id chunk l (ap (λ (ls : List Locator). nth ls chunk) (live_same xs ys same id) ∙ at) on

  pub first_uncopied : (e id chunk : ℕ) (l : Locator) → FirstUncopied xs copies e id chunk l → FirstUncopied ys copies e id chunk l
  first_uncopied e id chunk l found = record {
    there = ap (λ (ls : List Locator). nth ls chunk) (sym (live_same xs ys same id)) ∙ found.there;
    on_it = found.on_it;
    left = found.left;
    first = λ d k x at on. found.first d k x (ap (λ (ls : List Locator). nth ls k) (live_same xs ys same d) ∙ at) on;
  }
