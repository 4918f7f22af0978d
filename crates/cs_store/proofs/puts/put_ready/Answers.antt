use Rattle.std.proofs.Common.{inl, inr, refl}
use Rattle.cs_writeback.proofs.Runs.{ran_none}
use Rattle.cs_store.proofs.Accepting.{accepts_none}
use Rattle.cs_store.proofs.Commanding.{put_adds, put_declines, put_does, put_number}
use Rattle.cs_store.proofs.Refusing.{same_bytes}
use Rattle.cs_store.proofs.puts.put_ready.Goals as goal

pub returns-in_default-clause-refused : goal.returns-in_default-clause-refused
returns-in_default-clause-refused g c = inr (inl (refl, refl))

pub returns-in_default-clause-accepts : goal.returns-in_default-clause-accepts
returns-in_default-clause-accepts g c = accepts_none g.D.PageDisk c.args.core.now

pub returns-in_default-clause-ran : goal.returns-in_default-clause-ran
returns-in_default-clause-ran g c = ran_none g.D.PageDisk c.args.core.now

pub returns-in-Ok-Accepted-clause-done : goal.returns-in-Ok-Accepted-clause-done
returns-in-Ok-Accepted-clause-done g c = put_does g.D.PageDisk c.args.core.now c.ask_ready.new.core c.args.id c.in-Ok.copy c.args.bytes.now c.in-Ok.ensures c.in-Ok-Accepted.field-0 c.in-Ok-Accepted.number c.in-Ok-Accepted.field-0-is c.in-Ok-Accepted.ensures.done

pub returns-in-Ok-Accepted-clause-number : goal.returns-in-Ok-Accepted-clause-number
returns-in-Ok-Accepted-clause-number g c = λ honest.
    let s = c.progress.ensures.legal honest in
    put_number g.D.PageDisk c.args.core.now c.ask_ready.new.core c.args.id c.in-Ok.copy c.args.bytes.now c.in-Ok.ensures c.in-Ok-Accepted.field-0 c.in-Ok-Accepted.number c.in-Ok-Accepted.field-0-is c.in-Ok-Accepted.ensures.done c.in-Ok-Accepted.ensures.accepts s.0 honest s.1 c.ask_ready.ensures.ran

pub returns-in-Ok-Accepted-clause-accepts : goal.returns-in-Ok-Accepted-clause-accepts
returns-in-Ok-Accepted-clause-accepts g c = put_adds g.D.PageDisk c.args.core.now c.ask_ready.new.core c.args.id c.in-Ok.copy c.args.bytes.now c.in-Ok.ensures c.in-Ok-Accepted.field-0 c.in-Ok-Accepted.number c.in-Ok-Accepted.field-0-is c.in-Ok-Accepted.ensures.accepts

pub returns-clause-refused : goal.returns-clause-refused
returns-clause-refused g c = put_declines g.D.PageDisk c.args.core.now c.ask_ready.new.core c.args.id c.in-Ok.copy c.args.bytes.now c.in-Ok.ensures c.in-Err.refusal c.in-Err.refusal refl c.in-Err.ensures.declined

pub returns-clause-refusals : goal.returns-clause-refusals
returns-clause-refusals g c = same_bytes c.args.id c.in-Ok.copy c.args.bytes.now c.in-Ok.ensures c.in-Err.refusal c.in-Err.ensures.refusals
