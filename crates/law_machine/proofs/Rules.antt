-- By the rule of a shape: one of two statements holds.
use Rattle.std.proofs.Common.{◌≡◌, Bool, true, false, true≢false, sym, ◌∙◌}
use Rattle.law_machine.specs.Apart.{by_rule}

pub before_rule : (A B : Type 0) (b : Bool) → b ≡ false → by_rule b A B → A
before_rule A B true not x = absurd (true≢false not)
before_rule A B false not x = x

pub apart_rule : (A B : Type 0) (b : Bool) → b ≡ true → by_rule b A B → B
apart_rule A B true on x = x
apart_rule A B false on x = absurd (true≢false (sym on))

pub rule_before : (A B : Type 0) (b : Bool) → b ≡ false → A → by_rule b A B
rule_before A B true not x = absurd (true≢false not)
rule_before A B false not x = x

pub rule_apart : (A B : Type 0) (b : Bool) → b ≡ true → B → by_rule b A B
rule_apart A B true on x = x
rule_apart A B false on x = absurd (true≢false (sym on))

-- both rules don't hold
pub not_both_rules : {A : Type 0} (b : Bool) → b ≡ false → b ≡ true → A
not_both_rules b not on = absurd (true≢false (sym on ∙ not))
