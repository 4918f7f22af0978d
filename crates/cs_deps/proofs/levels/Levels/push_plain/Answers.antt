use Rattle.std.proofs.Common.{◌≡◌, ◌∙◌, ◌<◌, ◌+◌, length, set, refl, sym, ap, arith}
use Rattle.std.specs.Prelude.{◌-◌, if◌then◌else◌, ◌==◌, option_map}
use Rattle.std.proofs.lemmas.Option.{slice_get_read, get_or_from_slice_get}
use Rattle.std.specs.VecDeque.{deque_with_item}
use Rattle.std.specs.Prelude.{max}
use Rattle.cs_deps.specs.declared.levels.Row.{Row}
use Rattle.cs_deps.specs.Levels.{kept_in, no_row, row_at, next_plain, with_plain, with_next}
use Rattle.cs_deps.proofs.Pushed.{plain_pushed}
use Rattle.cs_deps.proofs.levels.Levels.push_plain.Goals as goal

pub returns-clause-pushed : goal.returns-clause-pushed
returns-clause-pushed c i is =
    let l = c.args.self.now in
    let place : c.args.best.level - l.ended ≡ i = omega (arith, is) in
    let mid = c.widen.new.rows.items in
    let row = c.index-row.result.now in
    let wide : length mid ≡ max (length l.rows.items) (i + 1) = c.widen.ensures.count ∙ ap (λ j. max (length l.rows.items) (j + 1)) place in
    let there : c.args.best.level - l.ended < length mid = omega (arith, place, wide) in
    let read : row_at mid (c.args.best.level - l.ended) ≡ row = get_or_from_slice_get mid (c.args.best.level - l.ended) row no_row (slice_get_read mid (length mid) (c.args.best.level - l.ended) row refl there c.index-row.ensures) in
    let old : row ≡ row_at l.rows.items i = sym read ∙ c.widen.ensures.rows (c.args.best.level - l.ended) ∙ ap (row_at l.rows.items) place in
    let level : c.args.best.level + 1 ≡ l.ended + i + 1 = ap (λ m. m + 1) (sym is) in
    plain_pushed l c.push_back_reserved.new.self (deque_with_item c.widen.new.rows (c.args.best.level - l.ended) c.with_plain.result) c.link.new.plains.items mid c.args.last i c.next_plain.result c.args.best.before c.args.key
    c.requires.last
    c.push_back_reserved.ensures.items
    (c.next_plain.ensures ∙ ap (λ o. next_plain o (c.args.last + 1) (c.args.best.level + 1) c.args.best.before c.args.key) c.kept_at-before.ensures ∙ ap (λ m. next_plain (kept_in l.plains.items l.dropped c.args.last) (c.args.last + 1) m c.args.best.before c.args.key) level)
    (λ m. c.link.ensures.kept m ∙ ap (λ (r : Row). if m == r.last then option_map (with_next (c.args.last + 1)) (kept_in l.plains.items l.dropped m) else kept_in l.plains.items l.dropped m) old)
    c.link.ensures.count
    (ap (λ j. set mid j c.with_plain.result) place ∙ ap (set mid i) (c.with_plain.ensures ∙ ap (with_plain (c.args.last + 1)) old))
    c.widen.ensures.rows
    wide
