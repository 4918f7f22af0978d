use Rattle.std.proofs.Common.{◌≡◌, ◌∙◌, ◌-◌, ℕ, List, Some, ap, false, true, length, refl, slice_get, subst, sym}
use Rattle.cs_mount.specs.Hidden.{is_among}
use Rattle.cs_mount.specs.StorePairs.{store_pair}
use Rattle.cs_mount.specs.Unreadable.{AreHalves}
use Rattle.cs_mount.proofs.Refinding.{first_pair}
use Rattle.cs_mount.proofs.Unread.{ends_are, halves_inside}
use Rattle.cs_twin.specs.declared.pairs.Pair.{Pair}
use Rattle.cs_twin.specs.Pairs.{ArePairs}
use Rattle.cs_mount.proofs.unreadable.find_halves.Goals as goal

pub add_others-requires-clause-pairs : goal.add_others-requires-clause-pairs
add_others-requires-clause-pairs g c = subst (λ (l : List Pair). ArePairs l (g.D.PageDisk.page_count c.args.disk.now)) (sym c.deref.ensures.value) (subst (ArePairs c.in-Ok.pairs.items) c.requires.sized c.in-Ok.ensures.are)

pub add_others-requires-clause-first : goal.add_others-requires-clause-first
add_others-requires-clause-first g c =
    let d = c.args.geometry in
    let n = g.D.PageDisk.page_count c.args.disk.now in
    let first : slice_get c.deref.result.now 0 ≡ Some (store_pair d 0) = ap (λ (l : List Pair). slice_get l 0) (c.deref.ensures.value ∙ c.in-Ok.ensures.pairs) ∙ first_pair d c.requires.twins in
    ends_are c.deref.result.now n (subst (λ (l : List Pair). ArePairs l n) (sym c.deref.ensures.value) (subst (ArePairs c.in-Ok.pairs.items) c.requires.sized c.in-Ok.ensures.are)) c.args.unread.items (store_pair d 0) first refl (ap (λ (m : ℕ). m - 1) c.requires.sized) c.requires.end

pub returns-in-Ok-add_others-clause-halves : goal.returns-in-Ok-add_others-clause-halves
returns-in-Ok-add_others-clause-halves g c = subst (λ (l : List Pair). AreHalves l (length l) c.add_others.new.unread.items) (c.deref.ensures.value ∙ c.in-Ok.ensures.pairs) c.in-Ok-add_others.ensures.halves

pub returns-in-Ok-add_others-clause-inside : goal.returns-in-Ok-add_others-clause-inside
returns-in-Ok-add_others-clause-inside g c =
    let pairs = c.deref.result.now in
    let n = g.D.PageDisk.page_count c.args.disk.now in
    halves_inside pairs n (subst (λ (l : List Pair). ArePairs l n) (sym c.deref.ensures.value) (subst (ArePairs c.in-Ok.pairs.items) c.requires.sized c.in-Ok.ensures.are)) (length pairs) c.add_others.new.unread.items c.in-Ok-add_others.ensures.halves

pub returns-in-Ok-add_others-clause-zero : goal.returns-in-Ok-add_others-clause-zero
returns-in-Ok-add_others-clause-zero g c =
    let d = c.args.geometry in
    let first : slice_get c.deref.result.now 0 ≡ Some (store_pair d 0) = ap (λ (l : List Pair). slice_get l 0) (c.deref.ensures.value ∙ c.in-Ok.ensures.pairs) ∙ first_pair d c.requires.twins in
    c.in-Ok-add_others.ensures.same (store_pair d 0) false first

pub returns-in-Ok-add_others-clause-last : goal.returns-in-Ok-add_others-clause-last
returns-in-Ok-add_others-clause-last g c =
    let d = c.args.geometry in
    let first : slice_get c.deref.result.now 0 ≡ Some (store_pair d 0) = ap (λ (l : List Pair). slice_get l 0) (c.deref.ensures.value ∙ c.in-Ok.ensures.pairs) ∙ first_pair d c.requires.twins in
    subst (λ (m : ℕ). is_among c.add_others.new.unread.items (m - 1) ≡ is_among c.args.unread.items (m - 1)) c.requires.sized (c.in-Ok-add_others.ensures.same (store_pair d 0) true first)
