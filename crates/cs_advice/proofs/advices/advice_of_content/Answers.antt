use Rattle.std.proofs.Common.{ap, sym}
use Rattle.cs_advice.specs.Advised.{content_text}
use Rattle.cs_advice.specs.declared.knowns.Content.{Content}
use Rattle.cs_advice.proofs.Advising.{length_keeps, two_keeps}
use Rattle.cs_advice.proofs.advices.advice_of_content.Goals as goal

pub returns-in-Length-clause-keeps : goal.returns-in-Length-clause-keeps
returns-in-Length-clause-keeps c = length_keeps c.in-Length.pages c.in-Length.wanted

pub returns-in-TwoStores-clause-keeps : goal.returns-in-TwoStores-clause-keeps
returns-in-TwoStores-clause-keeps c = two_keeps c.in-TwoStores.first.0 c.in-TwoStores.last.0

pub returns-in-Torn-clause-text : goal.returns-in-Torn-clause-text
returns-in-Torn-clause-text c = sym (ap (λ (k : Content). content_text k c.args.refusal) c.in-Torn.is)

pub returns-in-Left-clause-text : goal.returns-in-Left-clause-text
returns-in-Left-clause-text c = sym (ap (λ (k : Content). content_text k c.args.refusal) c.in-Left.is)

pub returns-in-Broken-clause-text : goal.returns-in-Broken-clause-text
returns-in-Broken-clause-text c = sym (ap (λ (k : Content). content_text k c.args.refusal) c.in-Broken.is)

pub returns-in-Foreign-clause-text : goal.returns-in-Foreign-clause-text
returns-in-Foreign-clause-text c = sym (ap (λ (k : Content). content_text k c.args.refusal) c.in-Foreign.is)
