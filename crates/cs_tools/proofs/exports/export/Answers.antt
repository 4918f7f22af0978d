use Rattle.std.proofs.Common.{arith, map, subst}
use Rattle.std.proofs.lemmas.List.{length-map}
use Rattle.cs_index.specs.State.{id_number}
use Rattle.cs_extent.specs.State.{IsWhole}
use Rattle.cs_tools.specs.Exports.{IsExported, IsMeantExport}
use Rattle.cs_tools.proofs.Exported.{all_from, exported_listed}
use Rattle.cs_tools.proofs.Meant.{meant_listed}
use Rattle.cs_tools.proofs.exports.export.Goals as goal

pub returns-in-Ok-true-clause-script : goal.returns-in-Ok-true-clause-script
returns-in-Ok-true-clause-script g c m has honest =
    let contents = g.W.Write.contents in
    let failures = g.D.PageDisk.failure_count in
    let s = c.progress.ensures.legal honest in
    subst (IsExported m (id_number c.args.from) (failures c.args.core.now.disk) (failures c.print_shards.new.core.disk) (contents c.args.writer.now) (contents c.print_shards.new.writer)) c.in-Ok-true.field-0-test
    (exported_listed g.D.PageDisk.state c.args.core.now m (id_number c.args.from) (failures c.args.core.now.disk) (failures c.print_shards.new.core.disk) s.0 (subst IsWhole c.extents.ensures c.extent_count.ensures.whole) has s.1
    c.index.result.now c.index.ensures.index c.in-Ok.ids.items c.deref.result.now c.deref.ensures.value
    (all_from _ _ _ (map id_number c.in-Ok.ids.items) (omega (arith, length-map c.in-Ok.ids.items id_number, c.in-Ok.ids.ok.0, c.in-Ok.ids.ok.1, c.in-Ok.ids.small)) c.in-Ok.ensures)
    c.in-Ok-true.field-0 (contents c.args.writer.now) (contents c.print_shards.new.writer) (c.in-Ok-true.ensures.script s.0 s.1 honest))

pub returns-in-Ok-false-clause-script : goal.returns-in-Ok-false-clause-script
returns-in-Ok-false-clause-script g c m has honest =
    let contents = g.W.Write.contents in
    let failures = g.D.PageDisk.failure_count in
    let s = c.progress.ensures.legal honest in
    subst (IsExported m (id_number c.args.from) (failures c.args.core.now.disk) (failures c.print_shards.new.core.disk) (contents c.args.writer.now) (contents c.print_shards.new.writer)) c.in-Ok-false.field-0-test
    (exported_listed g.D.PageDisk.state c.args.core.now m (id_number c.args.from) (failures c.args.core.now.disk) (failures c.print_shards.new.core.disk) s.0 (subst IsWhole c.extents.ensures c.extent_count.ensures.whole) has s.1
    c.index.result.now c.index.ensures.index c.in-Ok.ids.items c.deref.result.now c.deref.ensures.value
    (all_from _ _ _ (map id_number c.in-Ok.ids.items) (omega (arith, length-map c.in-Ok.ids.items id_number, c.in-Ok.ids.ok.0, c.in-Ok.ids.ok.1, c.in-Ok.ids.small)) c.in-Ok.ensures)
    c.in-Ok-false.field-0 (contents c.args.writer.now) (contents c.print_shards.new.writer) (c.in-Ok-false.ensures.script s.0 s.1 honest))

pub returns-in-Ok-true-clause-meant : goal.returns-in-Ok-true-clause-meant
returns-in-Ok-true-clause-meant g c =
    let contents = g.W.Write.contents in
    let x = g.D.PageDisk.failure_count c.args.core.now.disk in
    let y = g.D.PageDisk.failure_count c.print_shards.new.core.disk in
    subst (IsMeantExport c.args.core.now.store (id_number c.args.from) x y (contents c.args.writer.now) (contents c.print_shards.new.writer)) c.in-Ok-true.field-0-test
    (meant_listed c.args.core.now.store (id_number c.args.from) x y c.index.result.now c.index.ensures.index c.in-Ok.ids.items c.deref.result.now c.deref.ensures.value
    (all_from _ _ _ (map id_number c.in-Ok.ids.items) (omega (arith, length-map c.in-Ok.ids.items id_number, c.in-Ok.ids.ok.0, c.in-Ok.ids.ok.1, c.in-Ok.ids.small)) c.in-Ok.ensures)
    c.in-Ok-true.field-0 (contents c.args.writer.now) (contents c.print_shards.new.writer) c.in-Ok-true.ensures.meant)

pub returns-in-Ok-false-clause-meant : goal.returns-in-Ok-false-clause-meant
returns-in-Ok-false-clause-meant g c =
    let contents = g.W.Write.contents in
    let x = g.D.PageDisk.failure_count c.args.core.now.disk in
    let y = g.D.PageDisk.failure_count c.print_shards.new.core.disk in
    subst (IsMeantExport c.args.core.now.store (id_number c.args.from) x y (contents c.args.writer.now) (contents c.print_shards.new.writer)) c.in-Ok-false.field-0-test
    (meant_listed c.args.core.now.store (id_number c.args.from) x y c.index.result.now c.index.ensures.index c.in-Ok.ids.items c.deref.result.now c.deref.ensures.value
    (all_from _ _ _ (map id_number c.in-Ok.ids.items) (omega (arith, length-map c.in-Ok.ids.items id_number, c.in-Ok.ids.ok.0, c.in-Ok.ids.ok.1, c.in-Ok.ids.small)) c.in-Ok.ensures)
    c.in-Ok-false.field-0 (contents c.args.writer.now) (contents c.print_shards.new.writer) c.in-Ok-false.ensures.meant)
