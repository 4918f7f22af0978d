use Rattle.std.proofs.Common.{false, length-set, refl, true, ◌∙◌}
use Rattle.cs_disk.proofs.OnlyRead.{reads_on}
use Rattle.cs_disk.specs.Disk.{seen}
use Rattle.cs_twin.proofs.Holding.{found_held, held_more, inside_at, known_all, known_next}
use Rattle.cs_twin.proofs.findings.read_held.Goals as goal

pub read_pair-requires-clause-own : goal.read_pair-requires-clause-own
read_pair-requires-clause-own g c = inside_at c.args.pairs.now _ _ c.loop-k.k _ false c.requires.pairs c.loop-k.invariant.disk.pages c.loop-k-test.true

pub read_pair-requires-clause-twin : goal.read_pair-requires-clause-twin
read_pair-requires-clause-twin g c = inside_at c.args.pairs.now _ _ c.loop-k.k _ true c.requires.pairs c.loop-k.invariant.disk.pages c.loop-k-test.true

pub loop-k-preserved : goal.loop-k-preserved
loop-k-preserved g c = record {
  disk = reads_on g.D.PageDisk c.args.disk.now c.loop-k.disk c.read_pair.new.disk c.loop-k.invariant.disk c.read_pair.ensures.disk;
  size = length-set c.loop-k.held c.loop-k.k c.held.result ∙ c.loop-k.invariant.size;
  known = λ h.
      known_next (g.R.PageRules.version c.args.rules.now) (g.D.PageDisk.state c.loop-k.disk) (g.D.PageDisk.state c.args.disk.now) c.args.pairs.now c.loop-k.k (record { page = 0; twin = 0 }) c.in-Ok.finding c.loop-k.known _ _ c.loop-k-test.true (c.loop-k.invariant.disk.same h) (c.loop-k.invariant.known h)
      (c.in-Ok.ensures.finding (c.loop-k.invariant.disk.honesty.0 h)) refl c.are_both_known-known.ensures;
  held = λ h.
      let same = c.loop-k.invariant.disk.same h in
      let found = c.in-Ok.ensures.finding (c.loop-k.invariant.disk.honesty.0 h) in
      held_more (g.R.PageRules.version c.args.rules.now) (seen (g.D.PageDisk.state c.args.disk.now)) c.args.pairs.now c.loop-k.held c.loop-k.k (record { page = 0; twin = 0 }) c.held.result c.loop-k-test.true c.loop-k.invariant.size (c.loop-k.invariant.held h)
      (found_held (g.R.PageRules.version c.args.rules.now) (g.D.PageDisk.state c.loop-k.disk) (g.D.PageDisk.state c.args.disk.now) _ c.in-Ok.finding c.held.result same c.held.ensures found);
}

pub returns-clause-known : goal.returns-clause-known
returns-clause-known g c = λ h. known_all (g.R.PageRules.version c.args.rules.now) (seen (g.D.PageDisk.state c.args.disk.now)) c.args.pairs.now c.loop-k.known c.loop-k.k c.loop-k-test.false (c.loop-k.invariant.known h)
