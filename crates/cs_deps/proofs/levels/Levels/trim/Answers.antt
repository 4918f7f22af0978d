use Rattle.std.proofs.Common.{◌∙◌, sym, arith}
use Rattle.std.specs.Prelude.{◌-◌}
use Rattle.cs_deps.proofs.Trimmed.{trimmed, trimmed_length}
use Rattle.cs_deps.proofs.levels.Levels.trim.Goals as goal

pub returns : goal.returns
returns c =
    let l = c.args.self.now in
    let t = c.trim_list.ensures in
    let v = c.trim_each.ensures in
    trimmed l c.trim_list.new.list c.trim_each.new.versions c.trim_each.new.starts (c.args.staged - c.len.result) t.list (omega (arith, c.len.ensures, c.trim_list.new.list.ok.0, c.requires.plains, trimmed_length l.base l.plains.items c.trim_list.new.list.items t.list)) v.lists (λ f. v.counts f ∙ sym (c.requires.versions f)) v.count t.room t.capacity v.room
