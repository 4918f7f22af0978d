use Rattle.uuid.specs.Text.{parsed}
use Rattle.cs_script.proofs.Words.{is_none}
use Rattle.cs_script.proofs.lines.read_id.Goals as goal

pub returns-in-Err : goal.returns-in-Err
returns-in-Err c = is_none (parsed c.args.word.now) (λ x e. let no = c.in-Err.ensures.ok.1 (x, e) in absurd (cc no))
