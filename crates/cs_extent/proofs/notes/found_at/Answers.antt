use Rattle.std.proofs.Common.{◌≡◌, ◌∙◌, Bool, true, List, ap, sym, take_all, ℕ}
use Rattle.std.specs.Prelude.{map}
use Rattle.law_machine.specs.Geometry.{apart_in}
use Rattle.cs_extent.specs.State.{found_at}
use Rattle.cs_extent.proofs.notes.found_at.Goals as goal

-- all count as found
all_found : (apart : Bool) (written : List (ℕ × ℕ)) → apart ≡ true → map (λ (row : ℕ × ℕ). row.0) written ≡ found_at apart written
all_found apart written is = sym (ap (λ (b : Bool). found_at b written) is)

pub returns : goal.returns
returns c =
    c.loop-extent.invariant
    ∙ ap (map (λ (row : ℕ × ℕ). row.0)) (take_all c.loop-extent.extent-index c.args.written.now c.loop-extent-test.false)
    ∙ all_found (apart_in c.args.format) c.args.written.now (sym c.lies_apart.ensures ∙ c.if-not-lies_apart.false)
