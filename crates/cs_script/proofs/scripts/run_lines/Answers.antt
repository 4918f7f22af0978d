use Rattle.std.proofs.Common.{◌≡◌, ◌∙◌, ◌+◌, ◌++◌, ◌<◌, ℕ, List, length, ap, subst, arith}
use Rattle.std.specs.Io.BufRead.{take_through}
use Rattle.std.specs.Io.KnownBytes.{Appends}
use Rattle.cs_script.specs.Watched.{RunsOn}
use Rattle.cs_script.proofs.LineSteps.{Ended, all_lines, ended_by, if_some_map, one_line_more}
use Rattle.cs_script.proofs.scripts.run_lines.Goals as goal

pub returns-in-Ok-eq0-clause-watched : goal.returns-in-Ok-eq0-clause-watched
returns-in-Ok-eq0-clause-watched g c text e small =
    let l = c.loop-lines in
    let zero : c.in-Ok-eq0.field-0 ≡ 0 = c.in-Ok-eq0.field-0-test in
    all_lines g.D.PageDisk g.D.CrashDisk.can_crash g.D.CrashDisk.volatile_count g.V.Watcher.meets
    (g.B.Read.remaining c.args.reader.now) (g.B.Read.remaining l.reader) (l.lines + 1) c.args.core l.going.core l.going.status c.args.watcher.now l.watcher
    (g.W.Write.contents c.args.writer.now) (g.W.Write.contents l.writer) l.invariant (c.in-Ok-eq0.ensures.end zero) text e

pub returns-in-Err-watch_line-clause-watched : goal.returns-in-Err-watch_line-clause-watched
returns-in-Err-watch_line-clause-watched g c =
    let l = c.loop-lines in
    let left = g.B.Read.remaining l.reader in
    let before = g.W.Write.contents l.writer in
    let after = g.W.Write.contents c.watch_line.new.writer in
    let number = l.lines + 1 in
    let told = c.watch_line.new.watcher in
    let some : 0 < length c.deref.result.now = omega (arith, c.in-Ok.ensures.ok, c.in-Ok.field-0-test.1, c.read_until.new.buf.ok.0, c.new-line.ensures.len, ap length c.deref.ensures.value, ap length c.new-line.ensures.items) in
    let bytes = if_some_map left (λ xs. c.read_until.new.buf.items ≡ c.new-line.result.items ++ take_through 10 xs) (λ xs. c.deref.result.now ≡ take_through 10 xs) (λ xs e. c.deref.ensures.value ∙ e ∙ ap (λ l. l ++ take_through 10 xs) c.new-line.ensures.items) c.in-Ok.ensures.bytes in
    ended_by g.D.PageDisk g.D.CrashDisk.can_crash g.D.CrashDisk.volatile_count g.V.Watcher.meets
    (g.B.Read.remaining c.args.reader.now) left number c.args.core l.going.core l.going.status c.args.watcher.now l.watcher told (g.W.Write.contents c.args.writer.now) before after c.deref.result.now c.in-Err-watch_line.ran l.invariant bytes some
    (subst (λ text. Ended g.D.PageDisk g.D.CrashDisk.can_crash g.D.CrashDisk.volatile_count g.V.Watcher.meets text number l.going.core l.going.status l.watcher told before after c.in-Err-watch_line.ran) c.without_line_feed.ensures c.in-Err-watch_line.ensures.ended)

pub loop-lines-preserved : goal.loop-lines-preserved
loop-lines-preserved g c =
    let l = c.loop-lines in
    let left = g.B.Read.remaining l.reader in
    let before = g.W.Write.contents l.writer in
    let after = g.W.Write.contents c.watch_line.new.writer in
    let number = l.lines + 1 in
    let told = c.watch_line.new.watcher in
    let next = c.in-Ok-watch_line.next in
    let some : 0 < length c.deref.result.now = omega (arith, c.in-Ok.ensures.ok, c.in-Ok.field-0-test.1, c.read_until.new.buf.ok.0, c.new-line.ensures.len, ap length c.deref.ensures.value, ap length c.new-line.ensures.items) in
    let bytes = if_some_map left (λ xs. c.read_until.new.buf.items ≡ c.new-line.result.items ++ take_through 10 xs) (λ xs. c.deref.result.now ≡ take_through 10 xs) (λ xs e. c.deref.ensures.value ∙ e ∙ ap (λ l. l ++ take_through 10 xs) c.new-line.ensures.items) c.in-Ok.ensures.bytes in
    one_line_more g.D.PageDisk g.D.CrashDisk.can_crash g.D.CrashDisk.volatile_count g.V.Watcher.meets
    (g.B.Read.remaining c.args.reader.now) left (g.B.Read.remaining c.read_until.new.self) number c.args.core l.going.core next.core l.going.status next.status c.args.watcher.now l.watcher told
    (g.W.Write.contents c.args.writer.now) before after c.deref.result.now l.invariant c.in-Ok.ensures.rest bytes some
    (subst (λ text. (out : List ℕ) × RunsOn g.D.PageDisk g.D.CrashDisk.can_crash g.D.CrashDisk.volatile_count g.V.Watcher.meets text number l.going.core l.going.status l.watcher next.core next.status told out × Appends before after out) c.without_line_feed.ensures c.in-Ok-watch_line.ensures.on)
