use Rattle.std.proofs.Common.{◌∙◌, refl, le_refl, arith}
use Rattle.cs_deps.proofs.Trimmed.{trimmed_none, trimmed_more, without_first}
use Rattle.cs_deps.proofs.cleaning.trim_list.Goals as goal

pub loop-init : goal.loop-init
loop-init c = record { list = trimmed_none c.args.base c.args.list.now.items; room = le_refl c.args.list.now.len; capacity = refl }

pub loop-preserved : goal.loop-preserved
loop-preserved c =
    let k = c.is_settled.ensures c.if-not-is_settled.false in
    record {
      list = trimmed_more c.args.base c.args.list.now.items c.loop.list.items c.pop_front.new.self.items c.loop.invariant.list (without_first c.args.base k.0 k.1 c.loop.list.items c.pop_front.new.self.items k.2 c.pop_front.ensures.rest k.3);
      room = omega (arith, c.pop_front.ensures.len, c.loop.invariant.room);
      capacity = c.pop_front.ensures.capacity ∙ c.loop.invariant.capacity;
    }

pub returns-then-not-is_settled-clause-list : goal.returns-then-not-is_settled-clause-list
returns-then-not-is_settled-clause-list c = c.loop.invariant.list

pub returns-then-not-is_settled-clause-room : goal.returns-then-not-is_settled-clause-room
returns-then-not-is_settled-clause-room c = c.loop.invariant.room

pub returns-then-not-is_settled-clause-capacity : goal.returns-then-not-is_settled-clause-capacity
returns-then-not-is_settled-clause-capacity c = c.loop.invariant.capacity

pub returns-clause-list : goal.returns-clause-list
returns-clause-list c = c.loop.invariant.list

pub returns-clause-room : goal.returns-clause-room
returns-clause-room c = c.loop.invariant.room

pub returns-clause-capacity : goal.returns-clause-capacity
returns-clause-capacity c = c.loop.invariant.capacity
