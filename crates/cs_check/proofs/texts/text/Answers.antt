use Rattle.std.proofs.Common.{◌≡◌, List, rules}
use Rattle.std.specs.Prelude.{All}
use Rattle.std.proofs.lemmas.List.Elements.{All-weaker}
use Rattle.serde_json.specs.Data.{array, no_members}
use Rattle.serde_json.specs.View.{view, items_of, members_view}
use Rattle.cs_deps.specs.declared.elements.Element.{Element}
use Rattle.cs_deps.specs.Pending.{Waits}
use Rattle.cs_deps.specs.View.{pending_of}
use Rattle.cs_check.specs.Documents.{numbers_data, names_data, letters_data, rounds_data}
use Rattle.cs_check.specs.Progress.{elements_of}
use Rattle.cs_check.specs.Written.{HasLetter, document_data}
use Rattle.cs_check.proofs.Listed.{list_lettered, waiting_lettered}
use Rattle.cs_check.proofs.WrittenEntries.{text_of_document, members_written}
use Rattle.cs_check.proofs.texts.text.Goals as goal

pub put_elements-requires-clause-letter : goal.put_elements-requires-clause-letter
put_elements-requires-clause-letter c = All-weaker (Waits (pending_of c.args.view.now)) (HasLetter c.args.letters.now) (waiting_lettered (pending_of c.args.view.now) c.args.letters.now c.requires.well_formed.elements c.requires.count) c.args.chain.now c.requires.well_formed.links

pub put_rounds-requires-clause-rounds : goal.put_rounds-requires-clause-rounds
put_rounds-requires-clause-rounds c = All-weaker (λ (xs : List Element). All (Waits (pending_of c.args.view.now)) xs) (λ (xs : List Element). All (HasLetter c.args.letters.now) xs)
    (λ xs all. All-weaker (Waits (pending_of c.args.view.now)) (HasLetter c.args.letters.now) (waiting_lettered (pending_of c.args.view.now) c.args.letters.now c.requires.well_formed.elements c.requires.count) xs all)
    (elements_of c.args.rounds.now) c.requires.well_formed.schedule

pub put_rounds-requires-clause-named : goal.put_rounds-requires-clause-named
put_rounds-requires-clause-named c = rw (c.deref-2.ensures.value) (list_lettered (pending_of c.args.view.now) c.args.target.now c.args.letters.now c.in_ok-named.named.items c.requires.well_formed.elements c.requires.count c.in_ok-named.ensures)

pub returns : goal.returns
unfolding document_data
returns c =
    let entries = c.in_ok-put_elements.ensures in
    let named = c.in_ok-named.named.items in
    let letters = c.args.letters.now in
    let none : members_view c.new-members.result.entries ≡ no_members = search rules in
    let rounds = rw (c.deref-2.ensures.value) at c.in_ok-put_rounds.ensures in
    text_of_document letters (pending_of c.args.view.now) c.args.target.now (elements_of c.args.rounds.now) c.args.chain.now entries.0 named (view c.object.result) c.to_string.result entries.1 c.in_ok-named.ensures
    (members_written (view c.object.result) (members_view c.new-members.result.entries) (members_view c.put_elements.new.members.entries) (members_view c.put_families.new.members.entries) (members_view c.put_rounds.new.members.entries)
    (names_data letters c.args.chain.now) (array (items_of entries.0)) (letters_data letters) (numbers_data c.args.view.now.persistent.items) (rounds_data letters (elements_of c.args.rounds.now)) (names_data letters named)
    c.object.ensures none entries.2 c.in_ok-put_families.ensures rounds)
    c.to_string.ensures.text c.to_string.ensures.reads_back
