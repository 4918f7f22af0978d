use Rattle.std.proofs.Common.{◌∙◌, ◌+◌, ◌≤◌, Ok, ap, refl, subst, sym}
use Rattle.std.proofs.lemmas.Option.{same_Some}
use Rattle.cs_chunk.proofs.Lengths.{tells_it}
use Rattle.cs_chunk.specs.Lengths.{IsHeaderIn}
use Rattle.cs_chunk.specs.Newest.{AreNewest}
use Rattle.cs_disk.specs.Disk.{Image, seen}
use Rattle.cs_extent.specs.State.{IsWhole, shape}
use Rattle.cs_frame.specs.Frames.{page_count}
use Rattle.cs_core.specs.Stored.{Stored}
use Rattle.cs_core.proofs.Known.{known_after, known_header, known_more}
use Rattle.cs_core.proofs.Looking.{newest_in_room, newest_roomed}
use Rattle.cs_core.proofs.stores.Store.read_length.Goals as goal

-- ---- what is noted

pub returns-in-Some-clause-noted : goal.returns-in-Some-clause-noted
returns-in-Some-clause-noted g c = λ count is chunk given.
    (ap Ok (same_Some c.in-Some.count count (c.in-Some.ensures.noted chunk given ∙ is)), refl)

pub returns-in-Some-clause-told : goal.returns-in-Some-clause-told
returns-in-Some-clause-told g c = λ honest view are.
    let there = c.in-Some.ensures in
    (known_header g.D.PageDisk c.requires.known c.args.kind c.args.place c.in-Some.count there.kind there.given (sym (there.noted there.kind there.given)) honest view
    (newest_in_room c.args.self.now.graph 0 (seen (g.D.PageDisk.state c.args.disk.now)) view are)).says

pub returns-in-Some-clause-read : goal.returns-in-Some-clause-read
returns-in-Some-clause-read g c = λ honest view payload are at.
    let there = c.in-Some.ensures in
    let is = known_header g.D.PageDisk c.requires.known c.args.kind c.args.place c.in-Some.count there.kind there.given (sym (there.noted there.kind there.given)) honest view
    (newest_in_room c.args.self.now.graph 0 (seen (g.D.PageDisk.state c.args.disk.now)) view are) in
    tells_it c.args.self.now.extents (subst (λ (s : Stored). IsWhole s.extents) c.self.view_is c.extent_count.ensures.whole) view c.args.kind c.args.place (Ok c.in-Some.count) payload is.passes is.says at

pub returns-in-Some-clause-header : goal.returns-in-Some-clause-header
returns-in-Some-clause-header g c = λ honest view are.
    let there = c.in-Some.ensures in
    (known_header g.D.PageDisk c.requires.known c.args.kind c.args.place c.in-Some.count there.kind there.given (sym (there.noted there.kind there.given)) honest view
    (newest_in_room c.args.self.now.graph 0 (seen (g.D.PageDisk.state c.args.disk.now)) view are)).passes

pub returns-in-Some-clause-size : goal.returns-in-Some-clause-size
returns-in-Some-clause-size g c =
    let there = c.in-Some.ensures in
    (c.requires.known.fitting c.args.place c.in-Some.count (sym (there.noted there.kind there.given))).fits

-- ---- what is read

pub returns-in-Ok-clause-noted : goal.returns-in-Ok-clause-noted
returns-in-Ok-clause-noted g c = λ count is chunk given. absurd (cc (c.in_default.ensures.noted chunk given, is))

pub returns-in-Err-clause-noted : goal.returns-in-Err-clause-noted
returns-in-Err-clause-noted g c = λ count is chunk given. absurd (cc (c.in_default.ensures.noted chunk given, is))

pub returns-in-Ok-clause-known : goal.returns-in-Ok-clause-known
returns-in-Ok-clause-known g c =
    let v : Stored = c.args.self.now in
    let held : Image = seen (g.D.PageDisk.state c.args.disk.now) in
    known_more g.D.PageDisk c.requires.known c.args.kind c.args.place c.in-Ok.count c.read_length.new.disk c.read_length.ensures.disk c.note_read.new.lengths c.note_read.ensures.adds
    (subst (λ (s : Stored). c.args.place.page + page_count c.in-Ok.count ≤ (shape s.extents).pages) c.self.view_is c.in-Ok.ensures.size)
    (λ honest view are. (let read = subst (λ (s : Stored). AreNewest s.graph held view) (sym c.self.view_is) (newest_roomed v.graph 0 held view are) in
    subst (λ (s : Stored). IsHeaderIn s.extents view c.args.kind c.args.place c.in-Ok.count) c.self.view_is (record {
      passes = c.in-Ok.ensures.header honest view read;
      says = c.in-Ok.ensures.told honest view read;
    })))

pub returns-in-Err-clause-known : goal.returns-in-Err-clause-known
returns-in-Err-clause-known g c = known_after g.D.PageDisk c.requires.known c.read_length.new.disk c.read_length.ensures.disk

pub returns-in-Ok-clause-told : goal.returns-in-Ok-clause-told
returns-in-Ok-clause-told g c = rw (← c.self.view_is) c.in-Ok.ensures.told

pub returns-in-Ok-clause-read : goal.returns-in-Ok-clause-read
returns-in-Ok-clause-read g c = rw (← c.self.view_is) c.in-Ok.ensures.read

pub returns-in-Err-clause-read : goal.returns-in-Err-clause-read
returns-in-Err-clause-read g c = rw (← c.self.view_is) c.in-Err.ensures.read

pub returns-in-Ok-clause-header : goal.returns-in-Ok-clause-header
returns-in-Ok-clause-header g c = rw (← c.self.view_is) c.in-Ok.ensures.header

pub returns-in-Err-clause-header : goal.returns-in-Err-clause-header
returns-in-Err-clause-header g c = rw (← c.self.view_is) c.in-Err.ensures.header

pub returns-in-Err-clause-fault : goal.returns-in-Err-clause-fault
returns-in-Err-clause-fault g c = rw (← c.self.view_is) c.in-Err.ensures.fault
