use Rattle.std.proofs.Common.{◌≡◌, ◌≢◌, ◌+◌, MatchBool, arith, subst}
use Rattle.cs_disk.proofs.OnlyRead.{reads_none, reads_on}
use Rattle.cs_disk.specs.Disk.{State, page, seen}
use Rattle.cs_mount.specs.Makings.{zero_page}
use Rattle.cs_mount.proofs.Ending.{test_fails, test_holds, zeros_more}
use Rattle.cs_mount.proofs.ends.written_among.Goals as goal

pub loop-number-init : goal.loop-number-init
loop-number-init g c = record { disk = reads_none g.D.PageDisk c.args.disk.now; zeros = λ h p le lt. absurd (omega (arith, le, lt)) }

pub holds_zeros-requires : goal.holds_zeros-requires
holds_zeros-requires g c = omega (arith, c.loop-number-test.true, c.requires, c.loop-number.invariant.disk.pages)

pub returns-in-Ok-false-clause-written : goal.returns-in-Ok-false-clause-written
returns-in-Ok-false-clause-written g c = λ h.
    let D = g.D.PageDisk in
    let reads = c.loop-number.invariant.disk in
    let n = c.loop-number.number in
    let b = c.in-Ok-false.field-0 in
    let says = subst (λ (s : State). MatchBool b (page (seen s) n ≡ zero_page) (page (seen s) n ≢ zero_page)) (reads.same h) (c.in-Ok-false.ensures.zeros (reads.honesty.0 h)) in
    (c.loop-number.auto.number, c.loop-number-test.true, test_fails b _ _ says c.in-Ok-false.field-0-test, c.loop-number.invariant.zeros h)

pub returns-in-Ok-false-clause-disk : goal.returns-in-Ok-false-clause-disk
returns-in-Ok-false-clause-disk g c = reads_on g.D.PageDisk c.args.disk.now c.loop-number.disk c.holds_zeros.new.disk c.loop-number.invariant.disk c.holds_zeros.ensures.disk

pub returns-in-Err-clause-disk : goal.returns-in-Err-clause-disk
returns-in-Err-clause-disk g c = reads_on g.D.PageDisk c.args.disk.now c.loop-number.disk c.holds_zeros.new.disk c.loop-number.invariant.disk c.holds_zeros.ensures.disk

pub loop-number-preserved : goal.loop-number-preserved
loop-number-preserved g c = record {
  disk = reads_on g.D.PageDisk c.args.disk.now c.loop-number.disk c.holds_zeros.new.disk c.loop-number.invariant.disk c.holds_zeros.ensures.disk;
  zeros = λ h.
      let D = g.D.PageDisk in
      let reads = c.loop-number.invariant.disk in
      let n = c.loop-number.number in
      let b = c.in-Ok-true.field-0 in
      let says = subst (λ (s : State). MatchBool b (page (seen s) n ≡ zero_page) (page (seen s) n ≢ zero_page)) (reads.same h) (c.in-Ok-true.ensures.zeros (reads.honesty.0 h)) in
      zeros_more (seen (D.state c.args.disk.now)) c.args.from n (n + 1) (omega arith) (c.loop-number.invariant.zeros h) (test_holds b _ _ says c.in-Ok-true.field-0-test);
}

pub returns-clause-written : goal.returns-clause-written
returns-clause-written g c = λ h p le lt. c.loop-number.invariant.zeros h p le (let done = c.loop-number-test.false in omega (arith, lt, done))

pub returns-clause-disk : goal.returns-clause-disk
returns-clause-disk g c = c.loop-number.invariant.disk
