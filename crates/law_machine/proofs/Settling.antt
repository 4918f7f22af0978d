-- What a sweep copied counts: the table changes alone.
use Rattle.std.proofs.Common.{◌≡◌, List, [], ◌∷◌, refl, sym, ap, subst}
use Rattle.law_machine.specs.Apart.{settle, settle_all, settled}
use Rattle.law_machine.specs.Element.{Copy}
use Rattle.law_machine.specs.State.{State}

-- settling changes the table alone
pub settle_all_is : (s : State) (cs : List Copy) → settle_all s cs ≡ record s { table = (settle_all s cs).table }
settle_all_is s [] = refl
settle_all_is s (c ∷ cs) = ap (λ (x : State). record x { table = (settle (settle_all s cs) c).table }) (settle_all_is s cs)

-- what holds of the state with any table and no copy holds once the copies count
pub settled_alike : (P : State → Type 0) (s : State)
    → P (record s { table = (settle_all s s.copies).table; copies = [] }) → P (settled s)
settled_alike P s holds = subst (λ (x : State). P (record x { copies = [] })) (sym (settle_all_is s s.copies)) holds
