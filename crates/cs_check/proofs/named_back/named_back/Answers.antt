use Rattle.std.proofs.Common.{◌≡◌, ◌∙◌, ℕ, ◌+◌, ◌-◌, List, true, length, length-set, sym, subst, refl, arith}
use Rattle.std.proofs.lemmas.Option.{slice_get_read}
use Rattle.cs_deps.specs.Named.{IsWithin}
use Rattle.cs_deps.specs.View.{pending_of}
use Rattle.cs_check.specs.Progress.{AreFloors, plain_floor}
use Rattle.cs_check.proofs.Backs.{floors_next, back_next}
use Rattle.cs_check.proofs.named_back.named_back.Goals as goal

pub loop-after-preserved : goal.loop-after-preserved
loop-after-preserved c =
    let g = pending_of c.args.view.now in
    let items = c.args.view.now.waiting.items in
    let k = c.len-in-loop-after.result - 1 - c.loop-after.after in
    let x = c.index-entry.result.now.0 in
    let d = c.index-entry.result.now.1 in
    let at = slice_get_read items (length items) k c.index-entry.result.now refl (omega arith) c.index-entry.ensures in
    let older : length items - c.loop-after.after ≡ k + 1 = omega arith in
    let newer : length items - (c.loop-after.after + 1) ≡ k = omega arith in
    let before = subst (λ n. AreFloors g n c.loop-after.floor c.loop-after.floors.items) older c.loop-after.invariant.floors in
    let floors = subst (λ (n : ℕ). AreFloors g k n c.lower_versions.new.floors.items) (sym c.lower_plain-floor.ensures) (subst (λ (xs : List ℕ). AreFloors g k (plain_floor c.loop-after.floor x) xs) (sym c.lower_versions.ensures) (floors_next g k c.loop-after.floor c.loop-after.floors.items x d at before)) in
    let inside : c.is_within.result ≡ true → IsWithin d (c.lower_plain-floor.result - 1) c.lower_versions.new.floors.items = λ yes.
    subst (λ (n : ℕ). IsWithin d n c.lower_versions.new.floors.items) c.saturating_sub.ensures (subst (λ (xs : List ℕ). IsWithin d c.saturating_sub.result xs) c.deref.ensures.value (c.is_within.ensures.0 yes)) in
    let next = back_next g k c.lower_plain-floor.result c.lower_versions.new.floors.items c.loop-after.back.items x d c.is_within.result at c.loop-after.invariant.count floors inside
    (λ j y e le. c.loop-after.invariant.back j y e (omega (arith, le, older))) in
    record {
      floors = subst (λ n. AreFloors g n c.lower_plain-floor.result c.lower_versions.new.floors.items) (sym newer) floors;
      count = length-set c.loop-after.back.items k c.is_within.result ∙ c.loop-after.invariant.count;
      back = λ j y e le. next j y e (omega (arith, le, newer));
    }
