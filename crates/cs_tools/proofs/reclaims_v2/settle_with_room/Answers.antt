use Rattle.std.proofs.Common.{◌≡◌, inl, refl, sym}
use Rattle.cs_tools.proofs.Resting.{settled}
use Rattle.cs_tools.proofs.Tidying.{tidies_none}
use Rattle.cs_tools.proofs.reclaims_v2.settle_with_room.Goals as goal

pub returns-then-not-has_room-clause-tidies : goal.returns-then-not-has_room-clause-tidies
returns-then-not-has_room-clause-tidies g c = tidies_none g.D.PageDisk c.args.core.now

pub returns-then-not-has_room-clause-rests : goal.returns-then-not-has_room-clause-rests
returns-then-not-has_room-clause-rests g c honest persists = inl (refl, refl)

pub returns-then-has_room-clause-rests : goal.returns-then-has_room-clause-rests
returns-then-has_room-clause-rests g c honest persists =
    settled (Unit {0}) c.args.core.now c.settle.new.core c.args.since c.settle.ensures.none (λ zero. tt) (λ some. c.in_ok-settle.ensures.rests honest (persists some))

pub returns-else-has_room-clause-rests : goal.returns-else-has_room-clause-rests
returns-else-has_room-clause-rests g c honest persists =
    settled (0 ≡ c.args.since) c.args.core.now c.settle.new.core c.args.since c.settle.ensures.none (λ zero. sym zero) (λ some. c.in_ok-settle.ensures.rests honest (persists some))
