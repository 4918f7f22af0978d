-- How a scrub ends, by what was found and printed.
use Rattle.std.proofs.Common.{◌≡◌, ◌⊎◌, ◌≢◌, ◌+◌, ◌-◌, ◌^◌, ℕ, List, [], ap, arith, length, sym, subst, inl, inr}
use Rattle.std.specs.Prelude.{◌++◌, Option, flat_map, min}
use Rattle.std.specs.Io.KnownBytes.{Appends}
use Rattle.cs_inspect.specs.Scrubs.{AreCaused, device_faults}
use Rattle.cs_inspect.specs.declared.scrubs.Scrubbed.{Scrubbed}
use Rattle.cs_inspect.specs.Failures.{RisesBy}
use Rattle.cs_tools.specs.Pages.{AreLeftWhole}
use Rattle.cs_tools.specs.Scrubs.{Scrubs, damage_line, found_text, read_line, scrub_text}
use Rattle.cs_advice.specs.declared.outcomes.Outcome.{Outcome}
use Rattle.cs_advice.specs.declared.outcomes.Outcome.TheVariants.{Damaged, Done, Failed}
use Rattle.cs_advice.specs.declared.outputs.Style.{Style}
use Rattle.cs_tools.specs.declared.pages.FoundPages.{FoundPages}

-- counted up to the end or not, the same number is printed
pub same_found : (style : Style) (found : Scrubbed) (all left : ℕ) → left ≡ min all (2 ^ 64 - 1) → found_text style found left ≡ found_text style found all
same_found style found all left is =
    let same : min (length found.damages.items + left) (2 ^ 64 - 1) ≡ min (length found.damages.items + all) (2 ^ 64 - 1) = omega (arith, is) in
    ap (λ (n : ℕ). flat_map (damage_line style) found.damages.items ++ read_line style found.chunks found.runs n) same

pub scrubbed : (IsFound : Scrubbed → Type 0) (pages : FoundPages) (style : Style) (failed failed_then : ℕ) (before after : Option (List ℕ)) (found : Scrubbed) (o : Outcome) → IsFound found
    → AreCaused failed failed_then found.damages.items → RisesBy (device_faults found.damages.items) failed failed_then
    → ((o ≡ Done) × (found.damages.items ≡ []) × AreLeftWhole pages) ⊎ ((o ≡ Damaged) × ((found.damages.items ≢ []) ⊎ (¬ AreLeftWhole pages))) ⊎ (o ≡ Failed)
    → ((o ≡ Done) ⊎ (o ≡ Damaged) → Appends before after (scrub_text style pages found)) → Scrubs IsFound pages style failed failed_then before after o
scrubbed IsFound pages style failed failed_then before after found o is caused counted (inl h) printed = subst (Scrubs IsFound pages style failed failed_then before after) (sym h.0) (found, is, h.1, h.2, printed (inl h.0))
scrubbed IsFound pages style failed failed_then before after found o is caused counted (inr (inl h)) printed = subst (Scrubs IsFound pages style failed failed_then before after) (sym h.0) (found, is, caused, counted, h.1, printed (inr h.0))
scrubbed IsFound pages style failed failed_then before after found o is caused counted (inr (inr h)) printed = subst (Scrubs IsFound pages style failed failed_then before after) (sym h) tt
