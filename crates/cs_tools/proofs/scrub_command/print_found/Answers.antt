use Rattle.std.proofs.Common.{◌≡◌, ◌+◌, ◌-◌, ◌^◌, ◌++◌, ℕ, List, arith, length, subst}
use Rattle.std.specs.Prelude.{flat_map, min}
use Rattle.std.specs.Io.KnownBytes.{Appends}
use Rattle.cs_inspect.specs.declared.scrubs.Damage.{Damage}
use Rattle.cs_tools.specs.Scrubs.{damage_line, read_line}
use Rattle.cs_advice.proofs.Appended.{appends_kept, appends_then, whatever}
use Rattle.cs_tools.proofs.scrub_command.print_found.Goals as goal

pub returns : goal.returns
returns g c =
    let contents = g.W.Write.contents in
    let start = contents c.args.writer.now in
    let damages = contents c.print_damages.new.writer in
    let end = contents c.print_read.new.writer in
    let found = c.args.found.now in
    let style = c.args.style in
    let count = min (length found.damages.items + c.args.left) (2 ^ 64 - 1) in
    let lines = flat_map (damage_line style) found.damages.items in
    let line = read_line style found.chunks found.runs count in
    let damaged : c.saturating_add-damaged.result ≡ count = omega (arith, c.saturating_add-damaged.ensures, c.len.ensures, found.damages.ok.0) in
    whatever c.flush.result (appends_kept start end (contents c.flush.new.self) (lines ++ line)
    (appends_then start damages end lines line
    (subst (λ (xs : List Damage). Appends start damages (flat_map (damage_line style) xs)) c.deref.ensures.value c.in_ok-print_damages.ensures)
    (subst (λ (n : ℕ). Appends damages end (read_line style found.chunks found.runs n)) damaged c.in_ok-print_read.ensures))
    c.flush.ensures.bytes)
