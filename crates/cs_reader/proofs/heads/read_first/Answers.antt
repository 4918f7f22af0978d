use Rattle.std.proofs.Common.{◌⊎◌, ℕ, List, subst}
use Rattle.cs_chunk.specs.Reads.{IsNoAnswer}
use Rattle.cs_frame.specs.FirstFormat.{page_zero_fault}
use Rattle.cs_refusal.specs.declared.refusals.Refusal.TheVariants.{NotAStore}
use Rattle.cs_reader.specs.Openings.{IsWhyNoFirst}
use Rattle.cs_reader.proofs.Loading.{fault_or_none, memory_or_fault, not_caused}
use Rattle.cs_reader.proofs.Ranges.{page_zero_refused}
use Rattle.cs_reader.proofs.SectionReads.{damaged_first, other_first}
use Rattle.cs_reader.proofs.heads.read_first.Goals as goal

pub returns-in-Err-decode_superblock-clause-why : goal.returns-in-Err-decode_superblock-clause-why
returns-in-Err-decode_superblock-clause-why g c = λ h.
    let bytes = c.read.new.buffer in
    let fault = c.in-Err-decode_superblock.fault in
    let r = c.refusal_of_fault.result in
    subst (λ (b : List ℕ). IsNoAnswer r ⊎ IsWhyNoFirst b r) (c.in-Ok.ensures.bytes h)
    (damaged_first bytes r (fault_or_none fault (page_zero_fault bytes) r c.refusal_of_fault.ensures.same (λ ne. (c.decode_superblock.ensures.fault fault ne).0 c.in-Err-decode_superblock.is)))

pub returns-in-Err-decode_superblock-clause-number : goal.returns-in-Err-decode_superblock-clause-number
returns-in-Err-decode_superblock-clause-number g c =
    let bytes = c.read.new.buffer in
    let fault = c.in-Err-decode_superblock.fault in
    page_zero_refused bytes c.refusal_of_fault.result (memory_or_fault fault (page_zero_fault bytes) c.refusal_of_fault.result c.refusal_of_fault.ensures.same (λ ne. (c.decode_superblock.ensures.fault fault ne).0 c.in-Err-decode_superblock.is))

pub returns-then-first-ne0-clause-why : goal.returns-then-first-ne0-clause-why
returns-then-first-ne0-clause-why g c = λ h.
    let it = c.in-Ok-decode_superblock.first in
    subst (λ (b : List ℕ). IsNoAnswer NotAStore ⊎ IsWhyNoFirst b NotAStore) (c.in-Ok.ensures.bytes h)
    (other_first c.read.new.buffer it c.in-Ok-decode_superblock.ensures.spelled c.if-first-ne0.true)

pub returns-then-first-ne0-clause-cause : goal.returns-then-first-ne0-clause-cause
returns-then-first-ne0-clause-cause g c = not_caused (g.D.PageDisk.failure_count c.args.disk.now) (g.D.PageDisk.failure_count c.read.new.self) NotAStore c.read.ensures.cause.later (λ e. cc e)

pub returns-clause-cause : goal.returns-clause-cause
returns-clause-cause g c = record { later = c.read.ensures.cause.later; failed = λ e. absurd (cc e) }
