use Rattle.std.proofs.lemmas.Result.{on_ok_weaker}
use Rattle.cs_index.specs.State.{id_number}
use Rattle.cs_tools.proofs.Copying.{bytes_agree, ok_ends, same_read}
use Rattle.cs_tools.specs.Copies.{EndsWhole}
use Rattle.cs_tools.proofs.copy_command.compare_bytes.Goals as goal

pub returns-in-Ok-read_one-clause-agree : goal.returns-in-Ok-read_one-clause-agree
returns-in-Ok-read_one-clause-agree g c = λ m n has_m has_n h k.
    on_ok_weaker c.check_same.result
    (λ same. bytes_agree (m (id_number c.args.id)) (n (id_number c.args.id)) c.in-Ok-read_one.read.items c.in-Ok.bytes.items c.deref-in-Ok-read_one.result.now c.deref.result.now
    c.deref.ensures.value c.deref-in-Ok-read_one.ensures.value same (c.in-Ok-read_one.ensures.bytes n has_n k) (c.in-Ok.ensures.bytes m has_m h))
    c.check_same.ensures.same

pub returns-in-Ok-read_one-clause-whole : goal.returns-in-Ok-read_one-clause-whole
returns-in-Ok-read_one-clause-whole g c = λ m has_from has_to h k there.
    let number = id_number c.args.id in
    ok_ends EndsWhole c.check_same.result
    (c.check_same.ensures.passes (same_read (m number) c.in-Ok-read_one.read.items c.in-Ok.bytes.items c.deref-in-Ok-read_one.result.now c.deref.result.now
    c.deref.ensures.value c.deref-in-Ok-read_one.ensures.value (c.in-Ok-read_one.ensures.bytes m has_to k) (c.in-Ok.ensures.bytes m has_from h)))

pub returns-in-Err-clause-whole : goal.returns-in-Err-clause-whole
returns-in-Err-clause-whole g c = λ m has_from has_to h k there. c.in-Err.ensures.whole m has_from h there

pub returns-clause-whole : goal.returns-clause-whole
returns-clause-whole g c = λ m has_from has_to h k there. c.in-Err-read_one.ensures.whole m has_to k there
