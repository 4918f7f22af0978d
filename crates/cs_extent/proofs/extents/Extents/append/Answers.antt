use Rattle.std.proofs.Common.{◌≡◌, length, subst, sym, ℕ}
use Rattle.law_machine.proofs.Places.{goes_inside, goes_one}
use Rattle.cs_extent.specs.Frames.{IsWorn}
use Rattle.cs_extent.specs.Purposes.{reason_of}
use Rattle.cs_extent.specs.State.{extents_of, shape}
use Rattle.cs_extent.proofs.Appending.{whatever_room}
use Rattle.cs_extent.proofs.extents.Extents.append.Goals as goal

pub section-requires : goal.section-requires
section-requires c =
    (goes_inside (shape c.args.self.now) (shape c.args.self.now).apart (extents_of c.args.self.now) (reason_of c.args.purpose) (length c.args.frame.now) c.in-Some.extent c.in-Some.ensures).0

pub give-requires-clause-exists : goal.give-requires-clause-exists
give-requires-clause-exists c =
    (goes_inside (shape c.args.self.now) (shape c.args.self.now).apart (extents_of c.args.self.now) (reason_of c.args.purpose) (length c.args.frame.now) c.in-Some.extent c.in-Some.ensures).0

pub give-requires-clause-fits : goal.give-requires-clause-fits
give-requires-clause-fits c =
    (goes_inside (shape c.args.self.now) (shape c.args.self.now).apart (extents_of c.args.self.now) (reason_of c.args.purpose) (length c.args.frame.now) c.in-Some.extent c.in-Some.ensures).1

pub returns-in-Ok-clause-appended : goal.returns-in-Ok-clause-appended
returns-in-Ok-clause-appended c =
    whatever_room c.args.self.now c.args.graph.now c.reserve.new.self (reason_of c.args.purpose) c.args.frame.now _ c.give.new.self c.give.new.graph
    c.in-Ok.ensures.rest c.give.ensures.appended

pub returns-in-Ok-clause-shape : goal.returns-in-Ok-clause-shape
returns-in-Ok-clause-shape c = c.give.ensures.appended.same_shape

pub returns-in-Ok-clause-worn : goal.returns-in-Ok-clause-worn
returns-in-Ok-clause-worn c = (
  (λ e. absurd (cc e)),
  (λ w.
      let same : w.0 ≡ c.in-Some.extent = goes_one (shape c.args.self.now) (shape c.args.self.now).apart (extents_of c.args.self.now) (reason_of c.args.purpose) (length c.args.frame.now) w.0 c.in-Some.extent w.1 c.in-Some.ensures in
      let here = subst (λ (e : ℕ). IsWorn c.args.graph.now.staging ((shape c.args.self.now).section e) (length c.args.frame.now)) same w.2 in
      let worn = subst (λ (j : ℕ). IsWorn c.args.graph.now.staging j (length c.args.frame.now)) (sym c.section.ensures.section) here in
      absurd (cc (c.if-is_worn.false, c.is_worn.ensures.1 worn))),
)
