use Rattle.std.proofs.Common.{refl, sym, ◌∙◌}
use Rattle.cs_frame.specs.Frames.{payload_in}
use Rattle.cs_frame.proofs.FrameLaws.{frame_fault-spelled, payload_is_read, spells, stands}
use Rattle.cs_frame.proofs.format_laws.frame_has_one_spelling.Goals as goal

pub returns-clause-exact : goal.returns-clause-exact
returns-clause-exact c = λ number kind pages each are. ((λ h. (payload_in pages, spells number kind pages (payload_in pages) each are h refl)), (λ s. frame_fault-spelled number kind pages s.0 s.1))

pub returns-clause-one_payload : goal.returns-clause-one_payload
returns-clause-one_payload c = λ number kind pages payload other a b. sym (payload_is_read number kind pages payload a) ∙ payload_is_read number kind pages other b

pub returns-clause-stands : goal.returns-clause-stands
returns-clause-stands c = λ number kind payload rest fits. stands number kind payload rest fits
