use Rattle.std.proofs.Common.{inl, inr, subst, sym}
use Rattle.std.specs.Prelude.{MatchBool}
use Rattle.cs_chunk.specs.Cuts.{IsOversized}
use Rattle.cs_extent.specs.State.{shape}
use Rattle.cs_tools.specs.Aims.{IsPutAnd}
use Rattle.cs_tools.specs.declared.aims.Aim.{Aim}
use Rattle.cs_tools.proofs.Aiming.{no_put_is}
use Rattle.cs_tools.proofs.aims.is_too_large.Goals as goal

pub returns-in-Pairs : goal.returns-in-Pairs
returns-in-Pairs c = no_put_is (IsOversized (shape c.args.extents.now)) c.args.aim (inl c.in-Pairs.is)

pub returns-in-Room : goal.returns-in-Room
returns-in-Room c =
    let over = IsOversized (shape c.args.extents.now) in
    subst (λ (aim : Aim). MatchBool c.is_oversized.result (IsPutAnd aim over) (¬ IsPutAnd aim over)) (sym c.in-Room.is) c.is_oversized.ensures

pub returns-in-Brim : goal.returns-in-Brim
returns-in-Brim c = no_put_is (IsOversized (shape c.args.extents.now)) c.args.aim (inr c.in-Brim.is)
