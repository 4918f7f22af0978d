use Rattle.std.proofs.Common.{[], ◌∙◌, refl}
use Rattle.cs_mount.specs.Hidden.{hidden_at}
use Rattle.cs_mount.proofs.Hiding.{hidden_stays, shows_all, state_chosen_is}
use Rattle.cs_mount.proofs.Repaging.{repages_kept, whole_repaged}
use Rattle.cs_mount.proofs.chosen.Chosen.all.Goals as goal

pub invariant_of-result : goal.invariant_of-result
invariant_of-result g c =
    let hidden = c.new.result.items in
    let s = g.D.PageDisk.state c.args.disk in
    record { shows = repages_kept (hidden_at hidden) s; whole = λ h. whole_repaged (hidden_at hidden) s (hidden_stays hidden) (g.met.D.PageDisk.whole c.args.disk h) }

pub returns-clause-shown : goal.returns-clause-shown
returns-clause-shown g c = λ h. let s = g.D.PageDisk.state c.args.disk in state_chosen_is c.new.result.items [] s s c.new.ensures.items refl ∙ shows_all s
