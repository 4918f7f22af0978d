use Rattle.std.proofs.Common.{arith, false, true, refl, ◌≡◌, ◌∙◌, Some, slice_get, get_or, eq-eqb}
use Rattle.std.proofs.lemmas.Option.{slice_get-get_or}
use Rattle.cs_disk.proofs.OnlyRead.{reads_none, reads_on}
use Rattle.cs_twin.proofs.Holding.{inside_at}
use Rattle.cs_twin.specs.declared.pairs.Pair.{Pair}
use Rattle.cs_mount.proofs.Unread.{halves_all, halves_next, others_same}
use Rattle.cs_mount.proofs.unreadable.add_others.Goals as goal

pub add_if_needed-requires-clause-own : goal.add_if_needed-requires-clause-own
add_if_needed-requires-clause-own g c = inside_at c.args.pairs.now _ _ c.loop-k.k _ false c.requires.pairs c.loop-k.invariant.disk.pages c.loop-k-test.true

pub add_if_needed-requires-clause-twin : goal.add_if_needed-requires-clause-twin
add_if_needed-requires-clause-twin g c = inside_at c.args.pairs.now _ _ c.loop-k.k _ true c.requires.pairs c.loop-k.invariant.disk.pages c.loop-k-test.true

pub loop-k-init : goal.loop-k-init
loop-k-init g c = record {
  disk = reads_none g.D.PageDisk c.args.disk.now;
  begun = omega arith;
  halves = c.requires.first;
  same = λ x twin at. refl;
  counted = λ before rises. rises;
}

pub loop-k-preserved : goal.loop-k-preserved
loop-k-preserved g c =
    let so_far = c.loop-k.invariant in
    let pairs = c.args.pairs.now in
    let k = c.loop-k.k in
    let n = g.D.PageDisk.page_count c.args.disk.now in
    let x : Pair = get_or pairs k (record { page = 0; twin = 0 }) in
    let at : slice_get pairs k ≡ Some x = slice_get-get_or pairs k (record { page = 0; twin = 0 }) c.loop-k-test.true in
    let added = c.in-Ok.ensures.added in
    let list = c.loop-k.unread.items in
    let now = c.add_if_needed.new.unread.items in
    record {
      disk = reads_on g.D.PageDisk c.args.disk.now c.loop-k.disk c.add_if_needed.new.disk so_far.disk c.add_if_needed.ensures.disk;
      begun = omega (arith, so_far.begun);
      halves = halves_next pairs n c.requires.pairs list now k x added.0 added.1 at added.3 _ (λ same. eq-eqb k 1 same) so_far.begun so_far.halves added.2;
      same = λ y twin at_first. others_same pairs n c.requires.pairs list now k x added.0 added.1 at added.3 0 y twin at_first (λ zero. let begun = so_far.begun in omega (arith, zero, begun)) ∙ so_far.same y twin at_first;
      counted = λ before rises. c.in-Ok.ensures.counted before (so_far.counted before rises);
    }

pub returns-clause-halves : goal.returns-clause-halves
returns-clause-halves g c = halves_all c.args.pairs.now c.loop-k.k c.loop-k.unread.items (let done = c.loop-k-test.false in omega (arith, done)) c.loop-k.invariant.halves

pub returns-in-Err-clause-disk : goal.returns-in-Err-clause-disk
returns-in-Err-clause-disk g c = reads_on g.D.PageDisk c.args.disk.now c.loop-k.disk c.add_if_needed.new.disk c.loop-k.invariant.disk c.add_if_needed.ensures.disk
