-- What puts and deletes keep where chunks and runs lie apart.
use Rattle.std.proofs.Common.{◌≡◌, ◌≢◌, ◌∙◌, ℕ, zero, suc, ◌≤◌, Bool, true, false, List, [], ◌∷◌, Some, length, map, sym, ap, subst, refl}
use Rattle.cs_deps.specs.State.{State as GraphState}
use Rattle.cs_extent.specs.Appended.{AreAppendedBy}
use Rattle.cs_extent.specs.State.{State as ExtentsState, extents_of, shape}
use Rattle.cs_frame.specs.declared.locators.Locator.{Locator}
use Rattle.cs_frame.specs.Formats.{place_of}
use Rattle.cs_frame.specs.Locators.{KeepFormat}
use Rattle.cs_index.proofs.Marks.{placed_keeps}
use Rattle.cs_index.specs.State.{IsSet, State as IndexState, index_of}
use Rattle.law_machine.specs.Device.{Inside, Shape}
use Rattle.law_machine.specs.Element.{Copy, Locator as Place}
use Rattle.law_machine.specs.Extents.{Extents, ForPut, Purpose as Reason}
use Rattle.law_machine.specs.Geometry.{marks_in}
use Rattle.law_machine.specs.Lists.{nth}
use Rattle.law_refinement.proofs.cs_reclaim.Copying.{up_to_put}
use Rattle.law_refinement.proofs.cs_reclaim.Marking.{elsewhere_apart}
use Rattle.law_refinement.proofs.cs_reclaim.SweptStays.{append_stays_apart}
use Rattle.law_refinement.specs.cs_reclaim.Sweeps.{IsSweptApart}
use Rattle.cs_core.specs.Stored.{AreSwept, IsKeptApart}
use Rattle.cs_core.proofs.Kept.{not_both}

-- frames that are appended go to none of the extents that are being swept
places_off : (x y : ExtentsState) (g h : GraphState) (r : Reason) (frames : List (List (List ℕ))) (ls : List Locator) (e : ℕ) → AreAppendedBy true x g r frames ls y h
    → IsSweptApart (shape x) (extents_of x) e → (k : ℕ) (p : Place) → nth (map place_of ls) k ≡ Some p → p.extent ≢ e
places_off x y g h r [] [] e all swept k p is = absurd (cc is)
places_off x y g h r (f ∷ fs) (l ∷ ls) e all swept zero p is =
    let here : p ≡ place_of l = cc is in
    λ at. elsewhere_apart (shape x) (extents_of x) e swept r (length f) l.extent all.2.placed (sym (ap (λ (q : Place). q.extent) here) ∙ at)
places_off x y g h r (f ∷ fs) (l ∷ ls) e all swept (suc k) p is = places_off all.0 y all.1 h r fs ls e all.3 (append_stays_apart x all.0 g all.1 r f l e all.2 swept) k p is
places_off x y g h r [] (l ∷ ls) e all swept k p is = absurd all
places_off x y g h r (f ∷ fs) [] e all swept k p is = absurd all

-- the places of frames that are appended keep to the store's format
pub placed_all : (b : Bool) (x y : ExtentsState) (g h : GraphState) (r : Reason) (frames : List (List (List ℕ))) (ls : List Locator) → AreAppendedBy b x g r frames ls y h → KeepFormat x.format ls
placed_all b x y g h r [] [] all = λ off. tt
placed_all b x y g h r (f ∷ fs) (l ∷ ls) all = λ off. (
  (placed_keeps x f l all.2.place off).0,
  placed_all b all.0 y all.1 h r fs ls all.3 (ap (λ (S : Shape). marks_in S.format) all.2.same_shape ∙ off),
)
placed_all b x y g h r [] (l ∷ ls) all = absurd all
placed_all b x y g h r (f ∷ fs) [] all = absurd all

-- frames that are appended mark nothing, and the shape is the same
marks_all : (b : Bool) (x y : ExtentsState) (g h : GraphState) (r : Reason) (frames : List (List (List ℕ))) (ls : List Locator) → AreAppendedBy b x g r frames ls y h
    → (e : ℕ) → (extents_of y).swept e ≡ (extents_of x).swept e
marks_all b x y g h r [] [] all e = ap (λ (z : ExtentsState). (extents_of z).swept e) all.0
marks_all b x y g h r (f ∷ fs) (l ∷ ls) all e = marks_all b all.0 y all.1 h r fs ls all.3 e ∙ ap (λ (u : Extents). u.swept e) all.2.extents
marks_all b x y g h r [] (l ∷ ls) all e = absurd all
marks_all b x y g h r (f ∷ fs) [] all e = absurd all

shape_all : (b : Bool) (x y : ExtentsState) (g h : GraphState) (r : Reason) (frames : List (List (List ℕ))) (ls : List Locator) → AreAppendedBy b x g r frames ls y h
    → shape y ≡ shape x
shape_all b x y g h r [] [] all = ap shape all.0
shape_all b x y g h r (f ∷ fs) (l ∷ ls) all = shape_all b all.0 y all.1 h r fs ls all.3 ∙ all.2.same_shape
shape_all b x y g h r [] (l ∷ ls) all = absurd all
shape_all b x y g h r (f ∷ fs) [] all = absurd all

-- an identifier has other locators, none on an extent that is being swept
kept_apart_set : (x y : ExtentsState) (i j : IndexState) (copies : List Copy) (id : ℕ) (ls : List Place) → shape y ≡ shape x → ((e : ℕ) → (extents_of y).swept e ≡ (extents_of x).swept e)
    → IsSet i id ls j → ((e : ℕ) → (extents_of x).swept e ≡ true → (k : ℕ) (p : Place) → nth ls k ≡ Some p → p.extent ≢ e) → IsKeptApart x i copies → IsKeptApart y j copies
kept_apart_set x y i j copies id ls same marks set off kept = record {
  runs = subst (λ (S : Shape). length j.runs ≤ S.most_runs) (sym same) (subst (λ rs. length rs ≤ (shape x).most_runs) (sym set.runs) kept.runs);
  one = λ d e is at. kept.one d e (sym (marks d) ∙ is) (sym (marks e) ∙ at);
  order = kept.order;
  up_to = λ e is. up_to_put (index_of i) (index_of j) copies e id ls set.index (off e (sym (marks e) ∙ is)) (kept.up_to e (sym (marks e) ∙ is));
  placed = λ c among. subst (λ (S : Shape). Inside S c.to.extent c.to.page) (sym same) (kept.placed c among);
  marks = kept.marks;
}

-- a put
pub kept_apart_put : (b : Bool) (x y : ExtentsState) (g h : GraphState) (i j : IndexState) (copies : List Copy) (frames : List (List (List ℕ))) (id : ℕ) (ls : List Locator) → (shape x).apart ≡ b
    → AreAppendedBy b x g ForPut frames ls y h → IsSet i id (map place_of ls) j → AreSwept x → ((shape x).apart ≡ true → IsKeptApart x i copies) → (shape y).apart ≡ true → IsKeptApart y j copies
kept_apart_put false x y g h i j copies frames id ls rule all set swept kept apart =
    absurd (not_both (shape x).apart rule (sym (ap (λ (S : Shape). S.apart) (shape_all false x y g h ForPut frames ls all)) ∙ apart))
kept_apart_put true x y g h i j copies frames id ls rule all set swept kept apart =
    kept_apart_set x y i j copies id (map place_of ls) (shape_all true x y g h ForPut frames ls all) (marks_all true x y g h ForPut frames ls all) set
    (λ e is. places_off x y g h ForPut frames ls e all ((swept e is).1 rule)) (kept rule)

-- a delete
pub kept_apart_delete : (x : ExtentsState) (i j : IndexState) (copies : List Copy) (id : ℕ) → IsSet i id [] j
    → ((shape x).apart ≡ true → IsKeptApart x i copies) → (shape x).apart ≡ true → IsKeptApart x j copies
kept_apart_delete x i j copies id set kept apart = kept_apart_set x x i j copies id [] refl (λ e. refl) set (λ e is k p none. absurd (cc none)) (kept apart)
