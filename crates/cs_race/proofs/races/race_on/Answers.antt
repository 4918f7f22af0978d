use Rattle.std.proofs.Common.{ℕ, List, ◌≡◌, arith, inl, inr, subst, sym, ⊎_elim}
use Rattle.std.specs.Io.KnownBytes.{Appends}
use Rattle.cs_node.specs.Starts.{Start}
use Rattle.cs_race.specs.Races.{Races}
use Rattle.cs_race.proofs.races.race_on.Goals as goal

pub returns-in-Ok-close-clause-closes : goal.returns-in-Ok-close-clause-closes
returns-in-Ok-close-clause-closes g c small =
    let before = g.W.Write.contents c.args.writer.now in
    let after = g.W.Write.contents c.close.new.writer in
    subst (λ (s : Start). (out : List ℕ) × Races g.D.PageDisk s c.in-Ok-close.status out × Appends before after out) (sym c.requires.named.1) c.in-Ok-close.ensures.closes

pub returns-in-Err-clause-refused : goal.returns-in-Err-clause-refused
returns-in-Err-clause-refused g c is =
    ⊎_elim (λ p. (c.in-Err.refusal, c.in-Err.ensures, p.1)) (λ (e : c.print_no_store.result ≡ 4). absurd (omega (arith, is, e))) c.print_no_store.ensures

pub returns-in-Err-clause-closes : goal.returns-in-Err-clause-closes
returns-in-Err-clause-closes g c small =
    ⊎_elim (λ p. absurd (omega (arith, small, p.0))) (λ (e : c.print_no_store.result ≡ 4). absurd (omega (arith, small, e))) c.print_no_store.ensures

pub returns-in-Err-clause-status : goal.returns-in-Err-clause-status
returns-in-Err-clause-status g c =
    ⊎_elim (λ p. inr (inl p.0)) (λ (e : c.print_no_store.result ≡ 4). inr (inr e)) c.print_no_store.ensures
