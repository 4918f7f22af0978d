use Rattle.std.proofs.Common.{◌∙◌, ◌⊎◌, List, Option, ℕ, ap, subst, sym}
use Rattle.cs_chunk.specs.Reads.{IsNoAnswer}
use Rattle.cs_frame.specs.declared.formats.FormatNumber.{FormatNumber}
use Rattle.cs_frame.specs.FormatNumbers.{number_in}
use Rattle.cs_frame.specs.Roots.{SpellsRoot, identity_in, root_fault}
use Rattle.cs_refusal.specs.declared.refusals.Refusal.TheVariants.{NotAStore}
use Rattle.cs_reader.specs.Openings.{IsWhyNoRoot}
use Rattle.cs_reader.proofs.HeadReads.{damaged_root, other_root}
use Rattle.cs_reader.proofs.Loading.{fault_or_none, memory_or_fault}
use Rattle.cs_reader.proofs.Ranges.{root_refused}
use Rattle.cs_reader.proofs.heads.read_root.Goals as goal

pub returns-clause-read : goal.returns-clause-read
returns-clause-read g c = λ h.
    let root = c.in-Ok-decode_root.root in
    subst (λ (b : List ℕ). SpellsRoot b (identity_in c.args.format) root.version root.commands root.runs.items) (c.in-Ok.ensures.bytes h)
    (subst (λ (store : Option (List ℕ)). SpellsRoot c.read.new.buffer store root.version root.commands root.runs.items) c.if-not-is_root_of.ensures c.in-Ok-decode_root.ensures.spelled)

pub returns-clause-some : goal.returns-clause-some
returns-clause-some g c =
    let root = c.in-Ok-decode_root.root in
    (c.read.new.buffer, subst (λ (store : Option (List ℕ)). SpellsRoot c.read.new.buffer store root.version root.commands root.runs.items) c.if-not-is_root_of.ensures c.in-Ok-decode_root.ensures.spelled)

pub returns-then-not-is_root_of-clause-why : goal.returns-then-not-is_root_of-clause-why
returns-then-not-is_root_of-clause-why g c = λ h.
    subst (λ (b : List ℕ). IsNoAnswer NotAStore ⊎ IsWhyNoRoot c.args.format b NotAStore) (c.in-Ok.ensures.bytes h)
    (other_root c.args.format c.read.new.buffer c.in-Ok-decode_root.root (c.in-Ok-decode_root.ensures.number ∙ c.number.ensures.number) c.if-not-is_root_of.ensures c.in-Ok-decode_root.ensures.spelled)

pub returns-in-Err-decode_root-clause-why : goal.returns-in-Err-decode_root-clause-why
returns-in-Err-decode_root-clause-why g c = λ h.
    let fault = c.in-Err-decode_root.fault in
    let r = c.refusal_of_fault.result in
    subst (λ (b : List ℕ). IsNoAnswer r ⊎ IsWhyNoRoot c.args.format b r) (c.in-Ok.ensures.bytes h)
    (damaged_root c.args.format c.read.new.buffer r
    (fault_or_none fault (root_fault (number_in c.args.format) c.read.new.buffer) r c.refusal_of_fault.ensures.same
    (λ ne. ap (λ (k : FormatNumber). root_fault k c.read.new.buffer) (sym c.number.ensures.number) ∙ (c.decode_root.ensures.fault fault ne).0 c.in-Err-decode_root.is)))

pub returns-in-Err-decode_root-clause-number : goal.returns-in-Err-decode_root-clause-number
returns-in-Err-decode_root-clause-number g c =
    let fault = c.in-Err-decode_root.fault in
    root_refused c.number.result c.read.new.buffer c.refusal_of_fault.result
    (memory_or_fault fault (root_fault c.number.result c.read.new.buffer) c.refusal_of_fault.result c.refusal_of_fault.ensures.same (λ ne. (c.decode_root.ensures.fault fault ne).0 c.in-Err-decode_root.is))
