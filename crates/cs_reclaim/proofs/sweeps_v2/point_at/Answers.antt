use Rattle.std.proofs.Common.{◌≡◌, ◌∙◌, Err, ap, arith, length, ⊎_elim}
use Rattle.cs_refusal.specs.declared.refusals.Refusal.{Refusal}
use Rattle.cs_refusal.specs.declared.refusals.Refusal.TheVariants.{IndexFull, OutOfMemory}
use Rattle.cs_index.specs.State.{id_number}
use Rattle.cs_reclaim.proofs.Made.{as_many_light}
use Rattle.cs_reclaim.proofs.sweeps_v2.point_at.Goals as goal

pub unreachable-requires : goal.unreachable-requires
unreachable-requires c =
    let r : Refusal = c.in-Err.field-0 in
    let light = as_many_light c.args.index.now (id_number c.args.id) (length c.args.places.items) c.run_count.ensures.whole c.requires.some.0 c.requires.as_many in
    ⊎_elim
    (λ (is : r ≡ IndexFull). let heavy = c.set.ensures.full.0 (c.in-Err.is ∙ ap (λ (f : Refusal). Err f) is) in omega (arith, heavy, light))
    (λ (is : r ≡ OutOfMemory). c.set.ensures.memory c.requires.room (c.in-Err.is ∙ ap (λ (f : Refusal). Err f) is))
    c.in-Err.ensures.refusals
