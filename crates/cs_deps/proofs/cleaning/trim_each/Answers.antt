use Rattle.std.proofs.Common.{◌∙◌, refl}
use Rattle.cs_deps.specs.Levels.{family_at}
use Rattle.cs_deps.proofs.Trimmed.{trimmed_none, trimmed_more}
use Rattle.cs_deps.proofs.cleaning.trim_each.Goals as goal

pub loop-family-init : goal.loop-family-init
loop-family-init c = record { lists = λ f. trimmed_none c.args.base (family_at c.args.versions.now.items f); counts = c.requires.counts; count = refl; room = λ n all. all }

pub trim_one-requires-clause-counts : goal.trim_one-requires-clause-counts
trim_one-requires-clause-counts c = c.loop-family.invariant.counts

pub loop-family-preserved : goal.loop-family-preserved
loop-family-preserved c =
    let t = c.trim_one.ensures in
    let i = c.loop-family.invariant in
    record {
      lists = λ f. trimmed_more c.args.base (family_at c.args.versions.now.items f) (family_at c.loop-family.versions.items f) (family_at c.trim_one.new.versions.items f) (i.lists f) (t.lists f);
      counts = t.counts;
      count = t.count ∙ i.count;
      room = λ n all. t.room n (i.room n all);
    }

pub returns-clause-lists : goal.returns-clause-lists
returns-clause-lists c = c.loop-family.invariant.lists

pub returns-clause-counts : goal.returns-clause-counts
returns-clause-counts c = c.loop-family.invariant.counts

pub returns-clause-room : goal.returns-clause-room
returns-clause-room c = c.loop-family.invariant.room
