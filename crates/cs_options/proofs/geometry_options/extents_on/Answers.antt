use Rattle.std.proofs.Common.{◌≡◌, ℕ, ◌+◌, ◌*◌, ◌-◌, ◌/◌, ◌%◌, arith}
use Rattle.std.specs.Prelude.{min}
use Rattle.cs_options.proofs.ExtentSteps.{greatest_on, room_on}
use Rattle.cs_options.proofs.geometry_options.extents_on.Goals as goal

-- the extents, from the pages that are left
counted : (device pages left rest extents : ℕ) → left ≡ device - 2 → rest ≡ left % (512 * pages + 2) - 2
    → extents ≡ min (512 * (left / (512 * pages + 2)) + rest / pages) 7680
    → extents ≡ min (512 * ((device - 2) / (512 * pages + 2)) + ((device - 2) % (512 * pages + 2) - 2) / pages) 7680
counted device pages left rest extents left_is rest_is extents_is = rw (← left_is, ← rest_is) extents_is

pub returns-clause-room : goal.returns-clause-room
returns-clause-room c one =
    let is = counted (c.args.size / 4096) c.args.pages c.saturating_sub-left.result c.saturating_sub-rest.result c.min.result c.saturating_sub-left.ensures c.saturating_sub-rest.ensures c.min.ensures in
    room_on (c.args.size / 4096) c.args.pages c.requires.0 c.min.result one (omega (arith, is))

pub returns-clause-greatest : goal.returns-clause-greatest
returns-clause-greatest c extents few fits =
    let is = counted (c.args.size / 4096) c.args.pages c.saturating_sub-left.result c.saturating_sub-rest.result c.min.result c.saturating_sub-left.ensures c.saturating_sub-rest.ensures c.min.ensures in
    let le = greatest_on (c.args.size / 4096) c.args.pages c.requires.0 extents fits in omega (arith, is, le, few)
