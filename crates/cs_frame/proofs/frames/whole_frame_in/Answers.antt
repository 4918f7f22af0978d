use Rattle.std.proofs.Common.{refl, subst, sym, List, ℕ}
use Rattle.cs_frame.specs.Frames.{SpellsFrame, kind_byte, payload_in}
use Rattle.cs_frame.proofs.FrameLaws.{spells}
use Rattle.cs_frame.proofs.frames.whole_frame_in.Goals as goal

pub returns-clause-spelled : goal.returns-clause-spelled
returns-clause-spelled c =
    subst (λ (ps : List (List ℕ)). SpellsFrame c.args.number (kind_byte c.args.kind) ps (payload_in ps)) c.deref.ensures.value
    (spells c.args.number (kind_byte c.args.kind) c.deref.result.now (payload_in c.deref.result.now) c.in-Ok.ensures.pages c.in-Ok.ensures.bytes (sym c.in-Ok.ensures.fault) refl)
