use Rattle.std.proofs.Common.{◌≡◌, ◌∙◌, ◌<◌, Some, map, get_or, ap, sym, arith, length, List}
use Rattle.std.proofs.lemmas.List.{length-map}
use Rattle.cs_frame.specs.declared.locators.Locator.{Locator}
use Rattle.law_machine.specs.Element.{Entry}
use Rattle.cs_frame.specs.Formats.{place_of}
use Rattle.cs_index.specs.State.{id_number, named_entry}
use Rattle.cs_index.proofs.Sorted.{inside_at, lookup_found, lookup_missed, one_at, read_at}
use Rattle.cs_index.proofs.stored_runs.find.Goals as goal

pub bounds-entries-k : goal.bounds-entries-k
bounds-entries-k c =
    let found = c.if-is_at.ensures in
    omega (arith, length-map c.args.entries.now named_entry, inside_at (map named_entry c.args.entries.now) c.place-k.result found.0 found.1)

pub returns-then-is_at : goal.returns-then-is_at
returns-then-is_at c =
    let found = c.if-is_at.ensures in
    let xs : List Entry = map named_entry c.args.entries.now in
    let inside : c.place-k.result < length c.args.entries.now = omega (arith, length-map c.args.entries.now named_entry, inside_at xs c.place-k.result found.0 found.1) in
    let same : found.0 ≡ named_entry (get_or c.args.entries.now c.place-k.result c.index-entries-k.result) = one_at xs c.place-k.result _ _ found.1 (read_at named_entry c.args.entries.now c.place-k.result c.index-entries-k.result inside) in
    ap (λ (ls : List Locator). Some (map place_of ls)) c.as_slice.ensures.value
    ∙ ap (λ (x : Entry). Some x.locators) (sym same)
    ∙ sym (lookup_found xs c.place-k.result (id_number c.args.id) found.0 c.place-k.ensures found.1 found.2)

pub returns-else-is_at : goal.returns-else-is_at
returns-else-is_at c =
    sym (lookup_missed (map named_entry c.args.entries.now) c.place-k.result (id_number c.args.id) c.requires c.place-k.ensures c.if-is_at.ensures)
