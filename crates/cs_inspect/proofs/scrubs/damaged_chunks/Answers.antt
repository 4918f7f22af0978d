use Rattle.std.proofs.Common.{[], ℕ, List, get_or, refl, ap, Vec, ◌∙◌}
use Rattle.std.proofs.lemmas.List.{get_or_default}
use Rattle.std.specs.declared.alloc.Global.{Global}
use Rattle.cs_disk.proofs.OnlyRead.{reads_on}
use Rattle.cs_frame.specs.declared.frames.FrameKind.TheVariants as kind
use Rattle.cs_index.specs.declared.live.LiveChunk.{LiveChunk}
use Rattle.cs_inspect.specs.Chunks.{chunk_of}
use Rattle.cs_inspect.specs.declared.scrubs.Damage.{Damage}
use Rattle.cs_inspect.specs.declared.scrubs.Damage.TheVariants as damage
use Rattle.cs_inspect.specs.Scrubs.{OfChunk}
use Rattle.cs_inspect.proofs.Counting.{counted_more, counted_still}
use Rattle.cs_inspect.proofs.Naming.{all_named, caused_more, caused_still, step_named, step_passed}
use Rattle.cs_inspect.proofs.Telling.{same_on, told_here, why_none, why_some}
use Rattle.cs_inspect.proofs.scrubs.damaged_chunks.Goals as goal
use Rattle.cs_inspect.proofs.scrubs.damaged_chunks.Goals.{in-Some+in_ok-push, in_default}

-- the one at a place
abbrev at_place : List LiveChunk → ℕ → LiveChunk
at_place xs k = get_or xs k (record { id = record { 0 = [] }; chunk = 0; place = record { extent = 0; page = 0; generation = 0; mark = 0 } })

-- the items of what was pushed to
abbrev items : Vec Damage Global → List Damage
items v = v.items

pub loop-k-preserved : goal.loop-k-preserved
loop-k-preserved g c =
    let extents = c.args.core.now.store.extents in
    let xs = c.args.chunks.now in
    let k = c.loop-k.k in
    let x = at_place xs k in
    let lt = c.loop-k-test.true in
    let at = get_or_default xs k _ _ lt in
    let read = c.read_chunk.result in
    let ds = c.loop-k.damages.items in
    let es = c.match-branch-2.damages.items in
    let first = g.D.PageDisk.failure_count c.args.core.now.disk in
    let before = g.D.PageDisk.failure_count c.loop-k.core.disk in
    let after = g.D.PageDisk.failure_count c.read_chunk.new.core.disk in record {
      same = same_on c.args.core.now c.loop-k.core c.read_chunk.new.core c.loop-k.invariant.same c.read_chunk.ensures.same;
      disk = reads_on g.D.PageDisk c.args.core.now.disk c.loop-k.core.disk c.read_chunk.new.core.disk c.loop-k.invariant.disk c.read_chunk.ensures.disk;
      named = λ honest view are.
          let told = told_here g.D.PageDisk c.args.core.now c.loop-k.core c.loop-k.invariant.same c.loop-k.invariant.disk kind.Chunk x.place read c.read_chunk.ensures.told honest view are in
          let was = c.loop-k.invariant.named honest view are in
          elim c.match-branch-2.branch [
            | in-Some+in_ok-push w ↦
                (let no = why_some read c.in_ok-refusal.field-0 w.in-Some.refusal w.in-Some.is c.in_ok-refusal.ensures in
                step_named extents view OfChunk chunk_of xs k x lt at read told ds es (damage.Chunk x.id x.chunk x.place w.in-Some.refusal) w.in-Some.refusal was no.0 no.1 refl refl (ap items w.damages-is ∙ w.in_ok-push.ensures.items))
            | in_default w ↦
                step_passed extents view OfChunk chunk_of xs k x lt at read told ds es was (why_none read c.in_ok-refusal.field-0 w.in_default.is c.in_ok-refusal.ensures) (ap items w.damages-is)
          ];
      caused = elim c.match-branch-2.branch [
        | in-Some+in_ok-push w ↦
            (let no = why_some read c.in_ok-refusal.field-0 w.in-Some.refusal w.in-Some.is c.in_ok-refusal.ensures in
            caused_more first before after read ds es (damage.Chunk x.id x.chunk x.place w.in-Some.refusal) w.in-Some.refusal c.loop-k.invariant.disk.failures c.loop-k.invariant.caused c.read_chunk.ensures.cause no.0 refl (ap items w.damages-is ∙ w.in_ok-push.ensures.items))
        | in_default w ↦ caused_still first before after ds es c.read_chunk.ensures.cause.later c.loop-k.invariant.caused (ap items w.damages-is)
      ];
      counted = elim c.match-branch-2.branch [
        | in-Some+in_ok-push w ↦
            (let no = why_some read c.in_ok-refusal.field-0 w.in-Some.refusal w.in-Some.is c.in_ok-refusal.ensures in
            counted_more first before after read ds es (damage.Chunk x.id x.chunk x.place w.in-Some.refusal) w.in-Some.refusal c.loop-k.invariant.counted c.read_chunk.ensures.cause no.0 refl (ap items w.damages-is ∙ w.in_ok-push.ensures.items))
        | in_default w ↦ counted_still first before after ds es c.read_chunk.ensures.cause.later c.loop-k.invariant.counted (ap items w.damages-is)
      ];
    }

pub returns-clause-named : goal.returns-clause-named
returns-clause-named g c = λ honest view are.
    all_named c.args.core.now.store.extents view OfChunk chunk_of c.args.chunks.now c.loop-k.k c.loop-k.damages.items c.loop-k-test.false (c.loop-k.invariant.named honest view are)

pub returns-in_err-push-clause-disk : goal.returns-in_err-push-clause-disk
returns-in_err-push-clause-disk g c = reads_on g.D.PageDisk c.args.core.now.disk c.loop-k.core.disk c.read_chunk.new.core.disk c.loop-k.invariant.disk c.read_chunk.ensures.disk

pub returns-in_err-refusal-clause-disk : goal.returns-in_err-refusal-clause-disk
returns-in_err-refusal-clause-disk g c = reads_on g.D.PageDisk c.args.core.now.disk c.loop-k.core.disk c.read_chunk.new.core.disk c.loop-k.invariant.disk c.read_chunk.ensures.disk
