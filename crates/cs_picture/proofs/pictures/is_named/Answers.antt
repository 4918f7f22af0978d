use Rattle.cs_picture.proofs.Tests.{plain_test}
use Rattle.cs_picture.proofs.pictures.is_named.Goals as goal

pub returns-in-Plain : goal.returns-in-Plain
returns-in-Plain c = plain_test c.args.needs.now c.args.element c.in-Plain.field-0 c.names.result c.in-Plain.is c.names.ensures
