use Rattle.std.proofs.Common.{◌≡◌, ◌∙◌, length, get_or-set_same, refl, ap, arith}
use Rattle.std.proofs.lemmas.Option.{slice_get_read}
use Rattle.cs_deps.specs.Levels.{family_at}
use Rattle.cs_deps.proofs.KeptIn.{family_here}
use Rattle.cs_deps.proofs.Pushed.{family_set, family_other}
use Rattle.cs_deps.proofs.Trimmed.{trimmed_length, room_trimmed}
use Rattle.cs_deps.proofs.cleaning.trim_family.Goals as goal

pub overflow_sub-result : goal.overflow_sub-result
overflow_sub-result c =
    let qs = c.args.versions.now.items in
    let f = c.args.family in
    let q = c.index_mut.result.now in
    let r = c.trim_list.new.list in
    let here : family_at qs f ≡ q.items = family_here qs f q (slice_get_read qs (length qs) f q refl c.requires.inside c.index_mut.ensures.value) in
    let new : c.index.result.now ≡ r = c.index.ensures ∙ get_or-set_same qs f r c.index.result.now c.requires.inside in
    let long : c.len.result ≡ length r.items = c.len.ensures ∙ ap (λ u. u.len) new ∙ r.ok.0 in
    omega (arith, long, ap length here, trimmed_length c.args.base q.items r.items c.trim_list.ensures.list, c.requires.last)

pub returns-clause-here : goal.returns-clause-here
returns-clause-here c =
    let qs = c.args.versions.now.items in
    let f = c.args.family in
    let q = c.index_mut.result.now in
    let r = c.trim_list.new.list in
    let here : family_at qs f ≡ q.items = family_here qs f q (slice_get_read qs (length qs) f q refl c.requires.inside c.index_mut.ensures.value) in
    rw (here, family_set qs f r c.requires.inside) c.trim_list.ensures.list

pub returns-clause-start : goal.returns-clause-start
returns-clause-start c =
    let qs = c.args.versions.now.items in
    let f = c.args.family in
    let q = c.index_mut.result.now in
    let r = c.trim_list.new.list in
    let here : family_at qs f ≡ q.items = family_here qs f q (slice_get_read qs (length qs) f q refl c.requires.inside c.index_mut.ensures.value) in
    let new : c.index.result.now ≡ r = c.index.ensures ∙ get_or-set_same qs f r c.index.result.now c.requires.inside in
    let long : c.len.result ≡ length r.items = c.len.ensures ∙ ap (λ u. u.len) new ∙ r.ok.0 in
    omega (arith, long, ap length (family_set qs f r c.requires.inside), ap length here, trimmed_length c.args.base q.items r.items c.trim_list.ensures.list, c.requires.last)

pub returns-clause-there : goal.returns-clause-there
returns-clause-there c g ne = family_other c.args.versions.now.items c.args.family g c.trim_list.new.list ne

pub returns-clause-room : goal.returns-clause-room
returns-clause-room c n all = room_trimmed c.args.versions.now.items c.args.family c.index_mut.result.now c.trim_list.new.list c.requires.inside c.index_mut.ensures.value c.trim_list.ensures.room c.trim_list.ensures.capacity n all
