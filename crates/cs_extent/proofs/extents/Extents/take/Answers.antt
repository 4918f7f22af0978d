use Rattle.std.proofs.Common.{◌∙◌, ap, sym}
use Rattle.law_machine.specs.Device.{Shape}
use Rattle.cs_extent.specs.Purposes.{reason_of}
use Rattle.cs_extent.specs.State.{shape}
use Rattle.cs_extent.proofs.Noting.{given_there, noted_shape, taken_apart, taken_mixed}
use Rattle.cs_extent.proofs.extents.Extents.take.Goals as goal

pub note-requires-clause-given : goal.note-requires-clause-given
note-requires-clause-given c =
    given_there c.args.self.now c.advance.new.self c.advance.new.self (reason_of c.args.purpose) c.args.extent c.args.pages c.advance.ensures.extents c.requires.some

pub open_unless_full-requires-clause-given : goal.open_unless_full-requires-clause-given
open_unless_full-requires-clause-given c =
    given_there c.args.self.now c.advance.new.self c.advance.new.self (reason_of c.args.purpose) c.args.extent c.args.pages c.advance.ensures.extents c.requires.some

pub returns-then-is_apart-clause-extents : goal.returns-then-is_apart-clause-extents
returns-then-is_apart-clause-extents c =
    taken_apart c.args.self.now c.advance.new.self c.note.new.self (reason_of c.args.purpose) c.args.extent c.args.pages c.advance.ensures.extents c.pointer-given.result
    (ap (λ (S : Shape). S.apart) (sym c.advance.ensures.shape) ∙ sym c.is_apart.ensures ∙ c.if-is_apart.true) c.note.ensures.there c.pointer-given.ensures c.note.ensures.notes

pub returns-then-is_apart-clause-shape : goal.returns-then-is_apart-clause-shape
returns-then-is_apart-clause-shape c =
    ap shape c.note.ensures.notes ∙ noted_shape (reason_of c.args.purpose) c.args.extent c.pointer-given.result c.advance.new.self ∙ c.advance.ensures.shape

pub returns-else-is_apart-clause-extents : goal.returns-else-is_apart-clause-extents
returns-else-is_apart-clause-extents c =
    taken_mixed c.args.self.now c.advance.new.self c.open_unless_full.new.self (reason_of c.args.purpose) c.args.extent c.args.pages c.advance.ensures.extents
    (ap (λ (S : Shape). S.apart) (sym c.advance.ensures.shape) ∙ sym c.is_apart.ensures ∙ c.if-is_apart.false) c.advance.ensures.shape c.open_unless_full.ensures

pub returns-else-is_apart-clause-shape : goal.returns-else-is_apart-clause-shape
returns-else-is_apart-clause-shape c = ap shape c.open_unless_full.ensures ∙ c.advance.ensures.shape
