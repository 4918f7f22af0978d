use Rattle.std.proofs.Common.{◌≡◌, ◌∙◌, ℕ, ◌*◌, ◌-◌, ◌≤◌}
use Rattle.cs_options.specs.SureRooms.{full_extents, largest_shard}
use Rattle.cs_options.proofs.LargestSteps.{largest_taken}
use Rattle.cs_options.proofs.sure_rooms.largest_shard.Goals as goal

-- the longest shard, from the numbers that the code has
longest_from : (bytes extents pages counted each full : ℕ) → counted ≡ extents → each ≡ pages → full ≡ full_extents counted
    → bytes ≤ full * (4096 * each - 75) → bytes ≤ largest_shard extents pages
longest_from bytes extents pages counted each full counted_is each_is full_is fits = rw (← counted_is, ← each_is, ← full_is) fits

pub returns-clause-takes : goal.returns-clause-takes
returns-clause-takes c some bytes fits =
    largest_taken bytes c.args.geometry.extents c.args.geometry.pages c.pages.ensures.geometry.fewest_pages some
    (longest_from bytes c.args.geometry.extents c.args.geometry.pages c.from.result c.from-2.result c.full_extents.result
    (c.from.ensures ∙ c.extents.ensures.extents) (c.from-2.ensures ∙ c.pages.ensures.pages) c.full_extents.ensures fits)
