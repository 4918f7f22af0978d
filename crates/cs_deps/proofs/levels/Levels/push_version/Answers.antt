use Rattle.std.proofs.Common.{◌≡◌, ◌∙◌, ◌≤◌, ◌<◌, ◌+◌, ◌++◌, ◌∷◌, [], length, set, get_or, refl, sym, ap, arith}
use Rattle.std.specs.Prelude.{◌-◌, max}
use Rattle.std.specs.Vec.{with_item}
use Rattle.std.specs.VecDeque.{deque_with_item}
use Rattle.std.specs.declared.collections.VecDeque.{VecDeque}
use Rattle.std.specs.VecDeque.{deque_len, deque_capacity}
use Rattle.std.specs.Global.{Global}
use Rattle.std.proofs.lemmas.List.{length-set}
use Rattle.std.proofs.lemmas.List.Elements.{All-set, All-get_or}
use Rattle.std.proofs.lemmas.Option.{slice_get_read, get_or_from_slice_get}
use Rattle.cs_deps.specs.declared.levels.Kept.{Kept}
use Rattle.cs_deps.specs.Levels.{no_row, row_at, keyed, with_version, family_at}
use Rattle.cs_deps.proofs.KeptIn.{family_here}
use Rattle.cs_deps.proofs.Pushed.{version_pushed}
use Rattle.cs_deps.proofs.levels.Levels.push_version.Goals as goal

pub returns-clause-room : goal.returns-clause-room
returns-clause-room c n room =
    let l = c.args.self.now in
    let q = c.index_mut-2.result.now in
    let top : length c.widen.new.rows.items ≤ length l.rows.items + 1 = omega (arith, c.widen.ensures.count, c.requires.high) in
    let same = length-set c.widen.new.rows.items (c.args.kept.level - l.ended - 1) c.with_version.result in
    let old : deque_len q + (n + 1) ≤ deque_capacity q = rw c.index_mut-2.ensures.value (All-get_or (λ (q : VecDeque Kept Global). deque_len q + (n + 1) ≤ deque_capacity q) l.versions.items c.args.family q c.requires.inside room.versions) in
    let less : (q : VecDeque Kept Global) → deque_len q + (n + 1) ≤ deque_capacity q → deque_len q + n ≤ deque_capacity q = λ q h. omega (arith, h) in
    record {
      plains = omega (arith, room.plains);
      rows = omega (arith, room.rows, c.widen.ensures.capacity, top, c.widen.new.rows.ok.0, l.rows.ok.0);
      versions = All-set (λ (q : VecDeque Kept Global). deque_len q + n ≤ deque_capacity q) l.versions.items c.args.family c.push_back_reserved.new.self (omega (arith, old, c.push_back_reserved.ensures.len, c.push_back_reserved.ensures.capacity)) (λ k d lt. less (get_or l.versions.items k d) (room.versions k d lt));
      limit = omega (arith, room.limit, same, top);
    }

pub returns-clause-pushed : goal.returns-clause-pushed
returns-clause-pushed c i is =
    let l = c.args.self.now in
    let f = c.args.family in
    let q = c.index_mut-2.result.now in
    let place : c.args.kept.level - l.ended - 1 ≡ i = omega (arith, is) in
    let mid = c.widen.new.rows.items in
    let row = c.index-row.result.now in
    let wide : length mid ≡ max (length l.rows.items) (i + 1) = c.widen.ensures.count ∙ ap (λ j. max (length l.rows.items) (j + 1)) place in
    let there : c.args.kept.level - l.ended - 1 < length mid = omega (arith, place, wide) in
    let read : row_at mid (c.args.kept.level - l.ended - 1) ≡ row = get_or_from_slice_get mid (c.args.kept.level - l.ended - 1) row no_row (slice_get_read mid (length mid) (c.args.kept.level - l.ended - 1) row refl there c.index-row.ensures) in
    let old : row ≡ row_at l.rows.items i = sym read ∙ c.widen.ensures.rows (c.args.kept.level - l.ended - 1) ∙ ap (row_at l.rows.items) place in
    let here : family_at l.versions.items f ≡ q.items = family_here l.versions.items f q (slice_get_read l.versions.items (length l.versions.items) f q refl c.requires.inside c.index_mut-2.ensures.value) in
    version_pushed l (with_item l.versions f c.push_back_reserved.new.self) (deque_with_item c.widen.new.rows (c.args.kept.level - l.ended - 1) c.with_version.result) c.push_back_reserved.new.self mid f c.args.last i (keyed c.args.key c.args.kept)
    c.requires.inside
    c.requires.last
    (sym is)
    (c.push_back_reserved.ensures.items ∙ ap (λ xs. xs ++ c.keyed.result ∷ []) (sym here) ∙ ap (λ (x : Kept). family_at l.versions.items f ++ x ∷ []) c.keyed.ensures)
    refl
    (ap (λ j. set mid j c.with_version.result) place ∙ ap (set mid i) (c.with_version.ensures ∙ ap (with_version f (c.args.last + 1)) old))
    c.widen.ensures.rows
    wide
