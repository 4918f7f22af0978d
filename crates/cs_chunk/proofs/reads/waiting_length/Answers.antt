use Rattle.std.proofs.Common.{◌∙◌, ◌-◌, arith, inl, sym}
use Rattle.cs_chunk.proofs.Lengths.{fault_there, told_there}
use Rattle.cs_chunk.proofs.reads.waiting_length.Goals as goal

pub returns-in-Ok-clause-said : goal.returns-in-Ok-clause-said
returns-in-Ok-clause-said c = λ image view are. record {
  passes = fault_there c.args.extents.now c.page_number-number.ensures.whole view c.args.kind c.args.locator c.args.graph.now image are c.page_number-number.result c.page_number-number.ensures.number c.in-Some.first.now (inl c.in-Some.ensures.newest) c.format_of.result (c.end_of.result - c.from.result) c.format_of.ensures (omega (arith, c.from.ensures, c.end_of.ensures.end))
      ∙ sym c.in-Ok.ensures.fault;
  says = told_there c.args.extents.now c.page_number-number.ensures.whole view c.args.kind c.args.locator c.args.graph.now image are c.page_number-number.result c.page_number-number.ensures.number c.in-Some.first.now (inl c.in-Some.ensures.newest) c.in-Ok.header.payload_len c.in-Ok.ensures.length;
}

pub returns-in-Err-clause-there : goal.returns-in-Err-clause-there
returns-in-Err-clause-there c = λ image view are passes.
    let found = fault_there c.args.extents.now c.page_number-number.ensures.whole view c.args.kind c.args.locator c.args.graph.now image are c.page_number-number.result c.page_number-number.ensures.number c.in-Some.first.now (inl c.in-Some.ensures.newest) c.format_of.result (c.end_of.result - c.from.result) c.format_of.ensures (omega (arith, c.from.ensures, c.end_of.ensures.end)) in
    absurd (cc (passes, found, c.in-Err.ensures.fault))
