use Rattle.std.proofs.Common.{◌≡◌, arith, inl, inr, refl, ⊎_elim}
use Rattle.cs_refusal.specs.declared.refusals.Refusal.TheVariants.{OutOfMemory}
use Rattle.cs_race.proofs.races.run_race.Goals as goal

pub returns-in-Err-clause-refused : goal.returns-in-Err-clause-refused
returns-in-Err-clause-refused g c is =
    ⊎_elim (λ p. (OutOfMemory, inl refl, p.1)) (λ (e : c.print_no_store.result ≡ 4). absurd (omega (arith, is, e))) c.print_no_store.ensures

pub returns-in-Err-clause-closes : goal.returns-in-Err-clause-closes
returns-in-Err-clause-closes g c small =
    ⊎_elim (λ p. absurd (omega (arith, small, p.0))) (λ (e : c.print_no_store.result ≡ 4). absurd (omega (arith, small, e))) c.print_no_store.ensures

pub returns-in-Err-clause-status : goal.returns-in-Err-clause-status
returns-in-Err-clause-status g c =
    ⊎_elim (λ p. inr (inl p.0)) (λ (e : c.print_no_store.result ≡ 4). inr (inr e)) c.print_no_store.ensures
