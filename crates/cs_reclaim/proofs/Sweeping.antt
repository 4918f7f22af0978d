-- What is marked, emptied and given while an extent is swept.
use Rattle.std.proofs.Common.{◌≡◌, ◌≢◌, ◌∙◌, ◌==◌, inl, inr, ⊎_elim, ℕ, ◌+◌, ◌<◌, ◌≤◌, Bool, List, [], ◌∷◌, None, Some, false, true, if◌then◌else◌, length, length-set, refl, sym, ap, subst, arith, eq-eqb}
use Rattle.std.specs.Prelude.{slice_index}
use Rattle.std.proofs.lemmas.Bool.{cases_lt}
use Rattle.std.proofs.lemmas.List.{get_or-set_same}
use Rattle.std.proofs.lemmas.Option.{same_Some}
use Rattle.cs_deps.specs.Named.{Named}
use Rattle.cs_deps.specs.Staging.{IsVersionStaged, Staging}
use Rattle.cs_deps.specs.State.{State as GraphState}
use Rattle.cs_extent.proofs.Fitting.{with_other}
use Rattle.cs_extent.specs.Appended.{IsAppendedBy}
use Rattle.cs_extent.specs.Frames.{AreResetsStaged, root_family}
use Rattle.cs_extent.specs.State.{State as ExtentsState, extents_of, shape}
use Rattle.cs_frame.specs.declared.locators.Locator.{Locator}
use Rattle.cs_index.specs.Staged.{IsMergeStaged, IsRunAppendedBy}
use Rattle.cs_index.specs.State.{State, index_of}
use Rattle.law_machine.specs.Device.{Shape}
use Rattle.law_machine.specs.Element.{Entry, Locator as Place}
use Rattle.law_machine.specs.Extents.{Extents, HasRoom, IsFirstEmpty, Placed, Purpose, emptied, empties, forgotten, marked, spare, taken}
use Rattle.law_machine.specs.Index.{IsMergedRun, live_at}
use Rattle.law_machine.specs.Lists.{with}
use Rattle.cs_reclaim.specs.Sweeps.{IsNotSweepable, IsSwept}

pub begun : (S : Shape) (x : Extents) (e : ℕ) → (IsNotSweepable S x e → ⊥) → IsSwept S (marked x e true) e
begun S x e not = record {
  inside = elim (cases_lt e S.extents) [ inl lt ↦ lt | inr ge ↦ absurd (not (inr (inl ge))) ];
  marked = (let here : (e == e) ≡ true = eq-eqb e e refl in rw here refl);
  closed = λ opened. not (inl opened);
  written = elim (cases_lt 0 (x.pointer e)) [ inl lt ↦ lt | inr none ↦ absurd (not (inr (inr (inl (omega (arith, none)))))) ];
}

-- ---- a frame goes elsewhere

pub elsewhere : (S : Shape) (x : Extents) (e d k : ℕ) (purpose : Purpose) → IsSwept S x e → Placed S x purpose k d → d ≢ e
elsewhere S x e d k purpose swept placed is = ⊎_elim
    (λ (room : HasRoom S x k d). swept.closed (room.0 ∙ ap Some is))
    (λ (empty : ((o : ℕ) → HasRoom S x k o → ⊥) × IsFirstEmpty S x d × (k ≤ S.pages) × (spare purpose < empties x.pointer S.extents)).
    let none : x.pointer e ≡ 0 = ap x.pointer (sym is) ∙ empty.1.1 in omega (arith, none, swept.written))
    placed

open_is : (b : Bool) (d e : ℕ) → (if b then None else Some d) ≡ Some e → d ≡ e
open_is true d e is = absurd (cc is)
open_is false d e is = same_Some d e is

pub taken_stays : (S : Shape) (x : Extents) (e d k : ℕ) (purpose : Purpose) → IsSwept S x e → Placed S x purpose k d → IsSwept S (taken S x d k) e
taken_stays S x e d k purpose swept placed =
    let other : d ≢ e = elsewhere S x e d k purpose swept placed in
    record {
      inside = swept.inside;
      marked = swept.marked;
      closed = λ opened. other (open_is (x.pointer d + k == S.pages) d e opened);
      written = omega (arith, swept.written, with_other x.pointer d (x.pointer d + k) e (λ is. other (sym is)));
    }

-- an append leaves a swept extent as it is
module _ (x y : ExtentsState) (g h : GraphState) (reason : Purpose) (frame : List (List ℕ)) (l : Locator) (e : ℕ) (a : IsAppendedBy false x g reason frame l y h) (swept : IsSwept (shape x) (extents_of x) e) where
  pub append_stays : IsSwept (shape x) (extents_of y) e
  append_stays = subst (λ (z : Extents). IsSwept (shape x) z e) (sym a.extents) (taken_stays (shape x) (extents_of x) e l.extent (length frame) reason swept a.placed)

  pub append_generation : (extents_of y).generation e ≡ (extents_of x).generation e
  append_generation = ap (λ (z : Extents). z.generation e) a.extents

  pub append_swept : IsSwept (shape y) (extents_of y) e
  append_swept = subst (λ (S : Shape). IsSwept S (extents_of y) e) (sym a.same_shape) append_stays

-- so does the merged run
module _ (s : State) (x : ExtentsState) (g : GraphState) (reason : Purpose) (v commands : ℕ) (t : State) (y : ExtentsState) (h : GraphState) (e : ℕ) (m : IsMergeStaged s x g reason v commands t y h) where
  abbrev Appended : Type 0
  Appended = (entries : List Entry) × (place : Place) × (entries ≢ []) × IsMergedRun (index_of s) entries × IsRunAppendedBy false x g reason entries place y m.between
      × (t.runs ≡ record { place = place; entries = entries } ∷ [])

  abbrev Nothing : Type 0
  Nothing = ((id : ℕ) → live_at (index_of s) id ≡ []) × (y ≡ x) × (m.between ≡ g) × (t.runs ≡ [])

  pub merge_stays : IsSwept (shape x) (extents_of x) e → IsSwept (shape x) (extents_of y) e
  merge_stays swept = ⊎_elim
      (λ (run : Appended). append_stays x y g m.between reason _ _ e run.4 swept)
      (λ (none : Nothing). subst (λ (z : ExtentsState). IsSwept (shape x) (extents_of z) e) (sym none.1) swept)
      m.appended

  pub merge_generation : IsSwept (shape x) (extents_of x) e → (extents_of y).generation e ≡ (extents_of x).generation e
  merge_generation swept = ⊎_elim
      (λ (run : Appended). append_generation x y g m.between reason _ _ e run.4 swept)
      (λ (none : Nothing). ap (λ (z : ExtentsState). (extents_of z).generation e) none.1)
      m.appended

  pub merge_shape : shape y ≡ shape x
  merge_shape = ⊎_elim (λ (run : Appended). run.4.same_shape) (λ (none : Nothing). ap shape none.1) m.appended

  pub merge_root : root_family < length h.staging.latest → slice_index h.staging.latest root_family ≡ v
  merge_root families = root_is m.between.staging h.staging v m.root.needs m.root.version families
    where
      root_is : (old new : Staging) (w : ℕ) (d : Named) → IsVersionStaged old root_family w d new → root_family < length new.latest → slice_index new.latest root_family ≡ w
      root_is old new w d staged lt =
          let is = ap (λ (z : Staging). z.latest) staged.5 in
          ap (λ ls. slice_index ls root_family) is ∙ get_or-set_same old.latest root_family w 0 (omega (arith, lt, ap length is, length-set old.latest root_family w))

-- ---- what is reset goes with a root that is staged

with_le : (f : ℕ → ℕ) (e v d n : ℕ) → f d ≤ n → v ≤ n → with f e v d ≤ n
with_le f e v d n le more = split (d == e)
  where
    split : (b : Bool) → (if b then v else f d) ≤ n
    split true = more
    split false = le

-- where chunks and runs may lie on one extent nothing else is noted of what is emptied
pub emptied_alone : (S : Shape) (x y : Extents) (e v : ℕ) → S.apart ≡ false → y ≡ forgotten S.apart (emptied x e v) e → y ≡ emptied x e v
emptied_alone S x y e v rule is = subst (λ (b : Bool). y ≡ forgotten b (emptied x e v) e) rule is

pub resets_emptied : (x y z : Extents) (s : Staging) (e v : ℕ) (b : Bool) → y ≡ emptied x e v → z ≡ marked y e b → slice_index s.latest root_family ≡ v → AreResetsStaged x s → AreResetsStaged z s
resets_emptied x y z s e v b empty mark root staged d =
    let is : z.reset d ≡ with x.reset e v d = ap (λ (w : Extents). w.reset d) mark ∙ ap (λ (w : Extents). w.reset d) empty in
    omega (arith, is, with_le x.reset e v d (slice_index s.latest root_family) (staged d) (omega (arith, root)))
