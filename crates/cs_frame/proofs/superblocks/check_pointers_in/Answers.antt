use Rattle.std.proofs.Common.{Bool, ap, ◌∙◌, sym}
use Rattle.cs_frame.specs.Faults.{unless}
use Rattle.cs_frame.specs.declared.faults.FormatFault.TheVariants.{BadLength}
use Rattle.cs_frame.proofs.ExtentPageLaws.{pointers_tested}
use Rattle.cs_frame.proofs.superblocks.check_pointers_in.Goals as goal

pub returns-then-has_pointers : goal.returns-then-has_pointers
returns-then-has_pointers c = ap (λ (t : Bool). unless t BadLength) (sym c.if-has_pointers.true) ∙ pointers_tested c.args.pages c.args.bytes.now c.has_pointers.result c.has_pointers.ensures

pub returns-else-has_pointers : goal.returns-else-has_pointers
returns-else-has_pointers c = ap (λ (t : Bool). unless t BadLength) (sym c.if-has_pointers.false) ∙ pointers_tested c.args.pages c.args.bytes.now c.has_pointers.result c.has_pointers.ensures
