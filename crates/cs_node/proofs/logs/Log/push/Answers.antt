use Rattle.std.proofs.Common.{◌≡◌, List, sym, ap, subst}
use Rattle.cs_node.specs.declared.logs.Call.{Call}
use Rattle.cs_node.specs.Told.{Below, Logged}
use Rattle.cs_node.proofs.LogSteps.{kept_push}
use Rattle.cs_node.proofs.logs.Log.push.Goals as goal

pub invariant_of-self : goal.invariant_of-self
invariant_of-self c =
    let i = c.self.invariant in
    let e : c.self.inside.calls.items ≡ c.args.self.now.calls = ap (λ (l : Logged). l.calls) c.self.view_is in
    let above : Below c.args.place c.self.inside.calls.items = subst (λ (cs : List Call). Below c.args.place cs) (sym e) c.requires.above in
    kept_push c.args.place c.self.inside.floor c.told.result c.max-self-inside.result c.self.inside.calls.items c.push_reserved.new.self.items c.args.event c.args.reply c.push_reserved.ensures.items c.told.ensures c.max-self-inside.ensures above c.self.inside.next i
