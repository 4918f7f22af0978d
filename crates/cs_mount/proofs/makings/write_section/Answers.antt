use Rattle.std.proofs.Common.{◌≡◌, ◌∙◌, ◌≤◌, ℕ, List, OnOk, ap, replicate, subst, sym}
use Rattle.std.specs.List.{AllByRecursion}
use Rattle.cs_disk.specs.Disk.{Write}
use Rattle.cs_mount.specs.Makings.{LeavesSome, after_writes, both_halves, pair_of_section}
use Rattle.cs_mount.proofs.Laying.{none_yet}
use Rattle.cs_mount.proofs.NewPages.{pair_is, rows_low, section_writes}
use Rattle.cs_mount.proofs.makings.write_section.Goals as goal

pub returns-in_default-clause-some : goal.returns-in_default-clause-some
returns-in_default-clause-some g c = λ h.
    none_yet g.D.PageDisk c.args.disk.now (both_halves c.args.geometry (pair_of_section c.args.section)) (λ image left. g.met.D.PageDisk.only_now c.args.disk.now image h left)

pub encode_section-bytes-requires-clause-pointers : goal.encode_section-bytes-requires-clause-pointers
encode_section-bytes-requires-clause-pointers g c =
    subst (λ (l : List (ℕ × ℕ)). AllByRecursion (λ (row : ℕ × ℕ). row.0 ≤ c.args.geometry.pages) l) (sym (c.deref.ensures.value ∙ c.in-Ok.ensures.items_if_clones_equal pair_is)) (rows_low c.args.geometry.pages c.section_length.result)

pub returns-clause-written : goal.returns-clause-written
returns-clause-written g c = λ h.
    let D = g.D.PageDisk in
    let rows = c.deref.ensures.value ∙ c.in-Ok.ensures.items_if_clones_equal pair_is ∙ ap (λ (n : ℕ). replicate {A = ℕ × ℕ} n (0, 0)) c.section_length.ensures in
    let same = section_writes c.args.geometry c.args.section c.pair_of_section.result c.store_pair-pair.result c.encode_section-bytes.result c.deref.result.now c.pair_of_section.ensures c.store_pair-pair.ensures rows c.encode_section-bytes.ensures.spelled in
    subst (λ (l : List Write). OnOk c.write_two.result (D.state c.write_two.new.disk ≡ after_writes (D.state c.args.disk.now) l)) same (c.write_two.ensures.written h)

pub returns-clause-some : goal.returns-clause-some
returns-clause-some g c = λ h.
    let rows = c.deref.ensures.value ∙ c.in-Ok.ensures.items_if_clones_equal pair_is ∙ ap (λ (n : ℕ). replicate {A = ℕ × ℕ} n (0, 0)) c.section_length.ensures in
    let same = section_writes c.args.geometry c.args.section c.pair_of_section.result c.store_pair-pair.result c.encode_section-bytes.result c.deref.result.now c.pair_of_section.ensures c.store_pair-pair.ensures rows c.encode_section-bytes.ensures.spelled in
    subst (λ (l : List Write). LeavesSome g.D.PageDisk c.args.disk.now c.write_two.new.disk l) same (c.write_two.ensures.some h)
