use Rattle.std.proofs.Common.{◌∙◌, length, map, arith, refl, ap}
use Rattle.std.proofs.lemmas.Option.{slice_get_read}
use Rattle.serde_json.specs.View.{view}
use Rattle.cs_deps.specs.View.{pending_of}
use Rattle.cs_check.specs.Written.{entry_data}
use Rattle.cs_check.proofs.Listed.{needs_listed, list_lettered, waiting_lettered}
use Rattle.cs_check.proofs.WrittenEntries.{written_none, entry_written, entries_written}
use Rattle.cs_check.proofs.writings.entries_value.Goals as goal

pub loop-k-init : goal.loop-k-init
loop-k-init c = written_none c.args.letters.now (pending_of c.args.view.now) c.new-values.result.items c.new-values.ensures.items

pub named_in-requires-clause-listed : goal.named_in-requires-clause-listed
named_in-requires-clause-listed c =
    let items = c.args.view.now.waiting.items in
    let at = slice_get_read items (length items) c.loop-k.k c.index-entry.result.now refl (omega arith) c.index-entry.ensures in
    needs_listed (pending_of c.args.view.now) c.loop-k.k c.index-entry.result.now.0 c.index-entry.result.now.1 c.requires.listing at

pub entry_value-requires-clause-letter : goal.entry_value-requires-clause-letter
entry_value-requires-clause-letter c =
    let items = c.args.view.now.waiting.items in
    let at = slice_get_read items (length items) c.loop-k.k c.index-entry.result.now refl (omega arith) c.index-entry.ensures in
    waiting_lettered (pending_of c.args.view.now) c.args.letters.now c.requires.listing c.requires.count c.index-entry.result.now.0 (c.loop-k.k, c.index-entry.result.now.1, at)

pub entry_value-requires-clause-needs : goal.entry_value-requires-clause-needs
entry_value-requires-clause-needs c = rw (c.deref.ensures.value) (list_lettered (pending_of c.args.view.now) c.index-entry.result.now.1 c.args.letters.now c.in_ok-needs.needs.items c.requires.listing c.requires.count c.in_ok-needs.ensures)

pub loop-k-preserved : goal.loop-k-preserved
loop-k-preserved c =
    let items = c.args.view.now.waiting.items in
    let at = slice_get_read items (length items) c.loop-k.k c.index-entry.result.now refl (omega arith) c.index-entry.ensures in
    entry_written c.args.letters.now (pending_of c.args.view.now) c.loop-k.k c.loop-k.values.items c.push.new.self.items c.in_ok-value.value c.index-entry.result.now.0 c.index-entry.result.now.1 c.in_ok-needs.needs.items at c.in_ok-needs.ensures
    (c.in_ok-value.ensures ∙ ap (entry_data c.args.letters.now c.index-entry.result.now.0) c.deref.ensures.value) c.in_ok-push.ensures.items c.loop-k.invariant

pub returns : goal.returns
returns c = (map view c.loop-k.values.items, entries_written c.args.letters.now (pending_of c.args.view.now) c.loop-k.k c.loop-k.values.items (omega arith) c.loop-k.invariant, c.from.ensures)
