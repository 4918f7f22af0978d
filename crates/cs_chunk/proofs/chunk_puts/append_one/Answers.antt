use Rattle.std.proofs.Common.{◌≡◌, ◌⊎◌, Err, ap, ⊎_elim}
use Rattle.cs_refusal.specs.declared.refusals.Refusal.{Refusal}
use Rattle.cs_refusal.specs.declared.refusals.Refusal.TheVariants.{Full, OutOfMemory, WornOut}
use Rattle.cs_chunk.proofs.chunk_puts.append_one.Goals as goal

pub unreachable-requires : goal.unreachable-requires
unreachable-requires c =
    let e = c.in-Err.ensures in
    let r : Refusal = c.in-Err.field-0 in
    ⊎_elim
    (λ (is : r ≡ Full). e.full.0 (ap (λ (f : Refusal). Err f) is) c.requires.place.0 c.requires.place.1)
    (λ (o : (r ≡ WornOut) ⊎ (r ≡ OutOfMemory)). ⊎_elim
    (λ (is : r ≡ WornOut). let w = e.worn.0 (ap (λ (f : Refusal). Err f) is) in c.requires.numbers w.0 w.1 w.2)
    (λ (is : r ≡ OutOfMemory). e.memory c.requires.room (ap (λ (f : Refusal). Err f) is))
    o)
    e.refusals
