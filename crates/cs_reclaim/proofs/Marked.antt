-- What a move leaves of marks.
use Rattle.std.proofs.Common.{◌≡◌, ◌∙◌, ◌==◌, ℕ, zero, suc, Bool, true, false, Option, Some, List, [], ◌∷◌, map, if◌then◌else◌, eqb-true, refl, sym, ap, subst}
use Rattle.std.proofs.lemmas.Option.{same_Some}
use Rattle.cs_chunk.specs.Chunks.{AreMeant}
use Rattle.cs_deps.specs.State.{State as GraphState}
use Rattle.cs_extent.specs.State.{State as ExtentsState, shape}
use Rattle.cs_frame.specs.declared.locators.Locator.{Locator}
use Rattle.cs_frame.specs.Formats.{as_locator, formats_of, place_of}
use Rattle.cs_index.specs.State.{State, index_of}
use Rattle.law_machine.specs.Device.{Shape, is_meant}
use Rattle.law_machine.specs.Element.{Locator as Place}
use Rattle.law_machine.specs.Formats.{ChunkFrame}
use Rattle.law_machine.specs.Index.{live, live_at, lookup}
use Rattle.law_machine.specs.Lists.{nth, replaced}
use Rattle.cs_reclaim.specs.Keeps.{places_at}
use Rattle.cs_reclaim.specs.Moves.{IsMoved}

-- the marks of places
abbrev marks : List Locator → List ℕ
marks ls = map (λ (l : Locator). l.mark) ls

marks_replaced : (ls : List Place) (k : ℕ) (from to : Place) → nth ls k ≡ Some from → to.mark ≡ from.mark
    → marks (map as_locator (replaced ls k to)) ≡ marks (map as_locator ls)
marks_replaced [] k from to there same = absurd (cc there)
marks_replaced (l ∷ ls) zero from to there same =
    ap (λ (m : ℕ). m ∷ marks (map as_locator ls)) (same ∙ ap (λ (p : Place). p.mark) (sym (same_Some l from there)))
marks_replaced (l ∷ ls) (suc k) from to there same = ap (λ (ms : List ℕ). l.mark ∷ ms) (marks_replaced ls k from to there same)

pub marks_stay : (s t : State) (x y : ExtentsState) (g h : GraphState) (e id chunk : ℕ) (payload : List ℕ) → IsMoved s x g e id chunk payload t y h
    → (d : ℕ) → marks (places_at t d) ≡ marks (places_at s d)
marks_stay s t x y g h e id chunk payload move d =
    ap (λ (o : Option (List Place)). marks (map as_locator (live o))) (move.entry.index d) ∙ go (id == d) refl
  where
    after : List Place
    after = replaced (live_at (index_of s) id) chunk (place_of move.to)

    go : (b : Bool) → (id == d) ≡ b → marks (map as_locator (live (if b then Some after else lookup d (index_of s)))) ≡ marks (places_at s d)
    go true is = marks_replaced (live_at (index_of s) id) chunk move.from (place_of move.to) move.first.there move.mark
        ∙ ap (λ (j : ℕ). marks (places_at s j)) (eqb-true id d is)
    go false is = refl

-- what places mean goes by their marks
meant_by : (S : Shape) (ks ls : List Locator) (cs : List (List ℕ)) → marks ks ≡ marks ls → AreMeant S ks cs → AreMeant S ls cs
meant_by S [] [] cs same are = are
meant_by S [] (l ∷ ls) cs same are = absurd (cc same)
meant_by S (k ∷ ks) [] cs same are = absurd (cc same)
meant_by S (k ∷ ks) (l ∷ ls) [] same are = absurd are
meant_by S (k ∷ ks) (l ∷ ls) (c ∷ cs) same are =
    let here : k.mark ≡ l.mark = (let e : k.mark ∷ marks ks ≡ l.mark ∷ marks ls = same in cc) in
    let rest : marks ks ≡ marks ls = (let e : k.mark ∷ marks ks ≡ l.mark ∷ marks ls = same in cc) in
    (subst (λ (m : ℕ). is_meant S m ((formats_of S).frame ChunkFrame c) ≡ true) here are.0, meant_by S ks ls cs rest are.1)

pub meant_before : (s t : State) (x y : ExtentsState) (g h : GraphState) (e id chunk : ℕ) (payload : List ℕ) → IsMoved s x g e id chunk payload t y h
    → (d : ℕ) (cs : List (List ℕ)) → AreMeant (shape x) (places_at t d) cs → AreMeant (shape x) (places_at s d) cs
meant_before s t x y g h e id chunk payload move d cs = meant_by (shape x) (places_at t d) (places_at s d) cs (marks_stay s t x y g h e id chunk payload move d)
