use Rattle.std.proofs.Common.{◌≡◌, ◌∙◌, ◌/◌, ◌*◌, ◌≤◌, ap, sym, subst, arith, length, List, ℕ, rules}
use Rattle.std.specs.List.{flat_map}
use Rattle.cs_disk.specs.Disk.{Image, IsBytes}
use Rattle.cs_disk.proofs.Images.{flat_map-first_chunks_all}
use Rattle.cs_disk.proofs.Whole.{BytePages, Pages, first_chunks_bytes, first_chunks_whole}
use Rattle.cs_disk.proofs.memory.MemoryDisk.of_image.Goals as goal

pub returns-clause-durable : goal.returns-clause-durable
returns-clause-durable c =
    let none : length c.as_chunks.result.1.now ≡ 0 = search rules in
    ap (flat_map (λ (p : List ℕ). p)) (c.in_ok-durable.ensures.items ∙ c.as_chunks.ensures.front)
    ∙ flat_map-first_chunks_all 4096 _ c.deref.result.now c.as_chunks.result.1.now c.as_chunks.ensures.back none
    ∙ c.deref.ensures.value

pub invariant_of-result-clause-durable : goal.invariant_of-result-clause-durable
invariant_of-result-clause-durable c =
    let n = length c.deref.result.now in
    let fits : n / 4096 * 4096 ≤ n = omega arith in
    subst (λ (image : Image). Pages 4096 image) (sym (c.in_ok-durable.ensures.items ∙ c.as_chunks.ensures.front)) (first_chunks_whole 4096 (n / 4096) c.deref.result.now fits)

pub invariant_of-result-clause-durable_bytes : goal.invariant_of-result-clause-durable_bytes
invariant_of-result-clause-durable_bytes c =
    subst (λ (image : Image). BytePages image) (sym (c.in_ok-durable.ensures.items ∙ c.as_chunks.ensures.front)) (first_chunks_bytes 4096 (length c.deref.result.now / 4096) c.deref.result.now (subst IsBytes (c.deref-2.ensures.value ∙ sym c.deref.ensures.value) c.are_bytes.ensures))
