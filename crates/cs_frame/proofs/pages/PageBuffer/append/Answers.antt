use Rattle.std.proofs.Common.{◌≡◌, ◌+◌, ◌-◌, length, take, ap, ◌∙◌, arith}
use Rattle.std.proofs.lemmas.List.{length-take-le}
use Rattle.cs_frame.proofs.Fields.{zeros_after, length-put_mid}
use Rattle.cs_frame.proofs.pages.PageBuffer.append.Goals as goal

pub invariant_of-self-clause-size : goal.invariant_of-self-clause-size
invariant_of-self-clause-size c =
    let page = c.args.self.now in
    let len : length (take page.len page.bytes) ≡ page.len = length-take-le page.len page.bytes (omega arith) in
    let written : length c.copy_from_slice.new.self ≡ page.len + length c.args.bytes.now - page.len = omega (arith, ap length c.copy_from_slice.ensures.after) in
    length-put_mid page.bytes c.copy_from_slice.new.self page.len _ (omega arith) written ∙ page.size

pub invariant_of-self-clause-padding : goal.invariant_of-self-clause-padding
invariant_of-self-clause-padding c =
    let page = c.args.self.now in
    let len : length (take page.len page.bytes) ≡ page.len = length-take-le page.len page.bytes (omega arith) in
    let written : length c.copy_from_slice.new.self ≡ page.len + length c.args.bytes.now - page.len = omega (arith, ap length c.copy_from_slice.ensures.after) in
    zeros_after page.bytes c.copy_from_slice.new.self page.len (page.len + length c.args.bytes.now) _ 4096 (omega arith) written (omega arith) page.padding
