use Rattle.std.proofs.Common.{◌≤◌, ◌<◌, arith}
use Rattle.law_machine.specs.Extents.{spare, empties}
use Rattle.cs_extent.specs.Places.{room_at}
use Rattle.cs_extent.specs.Purposes.{reason_of}
use Rattle.cs_extent.specs.State.{shape, extents_of}
use Rattle.cs_extent.proofs.Fitting.{begun_of, place_empty, place_none}
use Rattle.cs_extent.proofs.extents.Extents.place_v2.Goals as goal

pub returns-then-spare-empty_count : goal.returns-then-spare-empty_count
returns-then-spare-empty_count c =
    let gt : room_at c.args.self.now.pages (extents_of c.args.self.now).pointer c.args.self.now.open_extent < c.args.pages = omega (arith, c.room.ensures.room, c.if-pages-room.false) in
    let enough : spare (reason_of c.args.purpose) < empties (extents_of c.args.self.now).pointer (shape c.args.self.now).extents = omega (arith, c.empty_count.ensures, c.spare.ensures, c.if-spare-empty_count.true) in
    place_empty (shape c.args.self.now) (extents_of c.args.self.now) (begun_of c.args.self.now c.room.ensures.whole) (reason_of c.args.purpose) c.args.pages c.requires.0 c.requires.1 gt enough
    c.first_empty_after.result c.first_empty_after.ensures

pub returns : goal.returns
returns c =
    let gt : room_at c.args.self.now.pages (extents_of c.args.self.now).pointer c.args.self.now.open_extent < c.args.pages = omega (arith, c.room.ensures.room, c.if-pages-room.false) in
    let few : empties (extents_of c.args.self.now).pointer (shape c.args.self.now).extents ≤ spare (reason_of c.args.purpose) = omega (arith, c.empty_count.ensures, c.spare.ensures, c.if-spare-empty_count.false) in
    place_none (shape c.args.self.now) (extents_of c.args.self.now) (begun_of c.args.self.now c.room.ensures.whole) (reason_of c.args.purpose) c.args.pages c.requires.0 gt few
