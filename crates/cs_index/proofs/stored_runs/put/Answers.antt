use Rattle.std.proofs.Common.{◌≡◌, ◌∙◌, ◌<◌, arith, sym, ap, subst, get_or, length, map, List, ℕ, slice_set}
use Rattle.std.proofs.lemmas.List.{length-map}
use Rattle.std.proofs.lemmas.Result.{on_ok_weaker}
use Rattle.std.specs.List.{insert}
use Rattle.cs_frame.specs.declared.identifiers.ShardId.{ShardId}
use Rattle.law_machine.specs.Element.{Entry}
use Rattle.cs_frame.specs.Formats.{place_of}
use Rattle.cs_frame.specs.Places.{Listed}
use Rattle.cs_index.specs.State.{id_number, named_entry}
use Rattle.cs_index.specs.Sorted.{IsPlace, IsPut}
use Rattle.cs_index.proofs.Sorted.{one_at, read_at, put_at, put_between, inside_at}
use Rattle.cs_index.proofs.stored_runs.put.Goals as goal

pub returns-then-is_at-clause-put : goal.returns-then-is_at-clause-put
returns-then-is_at-clause-put c =
    let found = c.if-is_at.ensures in
    let k : ℕ = c.place-k.result in
    let r : ShardId × Listed = c.index_mut-entry.result.now in
    let xs : List (ShardId × Listed) = c.deref-2.result.now in
    let inside : k < length xs = omega (arith, length-map xs named_entry, inside_at (map named_entry xs) k found.0 found.1) in
    let same : found.0 ≡ named_entry (get_or xs k r) = one_at (map named_entry xs) k _ _ found.1 (read_at named_entry xs k r inside) in
    let read : r ≡ get_or xs k r = c.index_mut-entry.ensures.value ∙ ap (λ (zs : List (ShardId × Listed)). get_or zs k r) (sym c.deref-2.ensures.value) in
    let id : id_number r.0 ≡ id_number c.args.id = ap (λ (e : ShardId × Listed). id_number e.0) read ∙ ap (λ (x : Entry). x.id) (sym same) ∙ found.2 in
    let at = subst (λ (zs : List (ShardId × Listed)). IsPlace (id_number c.args.id) k (map named_entry zs)) (c.deref.ensures.value) c.place-k.ensures in
    subst (λ (n : ℕ). IsPut (map named_entry c.args.entries.now.items) n (map place_of c.args.locators.items) (map named_entry (slice_set c.args.entries.now.items k (r.0, c.args.locators)))) id
    (put_at named_entry c.args.entries.now.items xs k found.0 (r.0, c.args.locators) c.deref-2.ensures.value c.requires.ascending
    (subst (λ (n : ℕ). IsPlace n k (map named_entry xs)) (sym id) (subst (λ (zs : List (ShardId × Listed)). IsPlace (id_number c.args.id) k (map named_entry zs)) (sym c.deref-2.ensures.value) at))
    found.1 (found.2 ∙ sym id))

pub returns-else-is_at-clause-put : goal.returns-else-is_at-clause-put
returns-else-is_at-clause-put c =
    on_ok_weaker c.insert.result
    (λ (is : c.insert.new.entries.items ≡ insert c.args.entries.now.items c.place-k.result (c.args.id, c.args.locators)).
    subst (λ (zs : List (ShardId × Listed)). IsPut (map named_entry c.args.entries.now.items) (id_number c.args.id) (map place_of c.args.locators.items) (map named_entry zs)) (sym is)
    (put_between named_entry c.args.entries.now.items c.deref.result.now c.deref-2.result.now c.place-k.result (c.args.id, c.args.locators)
    c.deref.ensures.value c.deref-2.ensures.value c.requires.ascending c.place-k.ensures c.if-is_at.ensures))
    c.insert.ensures.items
