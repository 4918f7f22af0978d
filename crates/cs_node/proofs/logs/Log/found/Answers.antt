use Rattle.std.proofs.Common.{◌≡◌, ◌-◌, List, Some, length, sym, ap, ◌∙◌, subst}
use Rattle.std.specs.Prelude.{slice_get}
use Rattle.cs_node.specs.declared.logs.Call.{Call}
use Rattle.cs_node.specs.Told.{Logged, found_in, found_last}
use Rattle.cs_node.proofs.LogSteps.{found_none, last_found}
use Rattle.cs_node.proofs.logs.Log.found.Goals as goal

pub returns-in-Found : goal.returns-in-Found
returns-in-Found c =
    let at : Some c.in-Some.call.now ≡ slice_get c.self.inside.calls.items (length c.self.inside.calls.items - 1) =
    subst (λ (cs : List Call). Some c.in-Some.call.now ≡ slice_get cs (length cs - 1)) c.deref.ensures.value c.in-Some.ensures.value in
    ap (λ (l : Logged). found_last l.calls) (sym c.self.view_is) ∙ last_found c.self.inside.calls.items c.in-Some.call.now at ∙ ap found_in c.in-Found.is

pub returns-in_default : goal.returns-in_default
returns-in_default c =
    let at : Some c.in-Some.call.now ≡ slice_get c.self.inside.calls.items (length c.self.inside.calls.items - 1) =
    subst (λ (cs : List Call). Some c.in-Some.call.now ≡ slice_get cs (length cs - 1)) c.deref.ensures.value c.in-Some.ensures.value in
    ap (λ (l : Logged). found_last l.calls) (sym c.self.view_is) ∙ last_found c.self.inside.calls.items c.in-Some.call.now at ∙ found_none _ c.in_default.not-Found
