-- What the places of an index mean, as chunks are put, moved and copied.
use Rattle.std.proofs.Common.{◌≡◌, ◌∙◌, inl, inr, ℕ, zero, suc, ◌==◌, Bool, true, false, if◌then◌else◌, List, [], ◌∷◌, ◌++◌, Option, Some, None, map, ne_eqb, eq-eqb, refl, sym, ap, subst}
use Rattle.std.proofs.lemmas.Bool.{cases_eq, cond-false, cond-true}
use Rattle.cs_chunk.specs.Chunks.{AreMeant, IsMeant}
use Rattle.cs_deps.specs.State.{State as GraphState}
use Rattle.cs_extent.specs.Appended.{AreAppendedBy, IsAppendedBy}
use Rattle.cs_extent.specs.State.{State as ExtentsState, shape}
use Rattle.cs_frame.specs.declared.locators.Locator.{Locator}
use Rattle.cs_frame.specs.Formats.{as_locator, formats_of, place_of}
use Rattle.cs_index.specs.Copies.{IsSettled, settle_in, settle_table}
use Rattle.cs_index.specs.State.{IsSet, State as IndexState, index_of}
use Rattle.law_machine.proofs.Meant.{one_place, own_mark}
use Rattle.law_machine.specs.Apart.{is_place}
use Rattle.law_machine.specs.Append.{chunk_frames}
use Rattle.law_machine.specs.Device.{Shape, is_meant, mark_of}
use Rattle.law_machine.specs.Element.{Copy, Entry, Locator as Place}
use Rattle.law_machine.specs.Extents.{Purpose as Reason}
use Rattle.law_machine.specs.Formats.{ChunkFrame}
use Rattle.law_machine.specs.Index.{entries_of, live, live_at, lookup}
use Rattle.law_machine.specs.Lists.{nth, replaced, ◌∈◌}
use Rattle.law_machine.specs.Meant.{same_mark}
use Rattle.law_refinement.specs.cs_reclaim.Moves.{IsMoved}
use Rattle.cs_core.specs.Puts.{MeansTheSame, MeansTheSameBut, marks_at}

-- ---- what places mean goes by their marks

abbrev marks : List Place → List ℕ
marks ls = map (λ (l : Place). l.mark) ls

abbrev their_marks : List Locator → List ℕ
their_marks ls = map (λ (l : Locator). l.mark) ls

pub meant_as : (S : Shape) (ls ks : List Locator) (cs : List (List ℕ)) → their_marks ks ≡ their_marks ls → AreMeant S ls cs → AreMeant S ks cs
meant_as S [] [] [] same are = tt
meant_as S (l ∷ ls) (k ∷ ks) (c ∷ cs) same are =
    let first : k.mark ≡ l.mark = (let e : k.mark ∷ their_marks ks ≡ l.mark ∷ their_marks ls = same in cc e) in
    let others : their_marks ks ≡ their_marks ls = (let e : k.mark ∷ their_marks ks ≡ l.mark ∷ their_marks ls = same in cc e) in
    (subst (λ (m : ℕ). is_meant S m ((formats_of S).frame ChunkFrame c) ≡ true) (sym first) are.0, meant_as S ls ks cs others are.1)
meant_as S [] (k ∷ ks) cs same are = absurd (let e : k.mark ∷ their_marks ks ≡ [] = same in cc e)
meant_as S (l ∷ ls) [] cs same are = absurd (let e : [] ≡ l.mark ∷ their_marks ls = same in cc e)
meant_as S [] [] (c ∷ cs) same are = absurd are
meant_as S (l ∷ ls) (k ∷ ks) [] same are = absurd are

pub marks_as : (ls : List Place) → their_marks (map as_locator ls) ≡ marks ls
marks_as [] = refl
marks_as (l ∷ ls) = ap (λ (ms : List ℕ). l.mark ∷ ms) (marks_as ls)

pub places_as : (ls : List Locator) → their_marks (map as_locator (map place_of ls)) ≡ their_marks ls
places_as [] = refl
places_as (l ∷ ls) = ap (λ (ms : List ℕ). l.mark ∷ ms) (places_as ls)

-- ---- a put

-- a place that was given to a frame means it
placed : (b : Bool) (x y : ExtentsState) (g h : GraphState) (r : Reason) (S : Shape) (c : List ℕ) (l : Locator) → S ≡ shape x → IsAppendedBy b x g r ((formats_of S).frame ChunkFrame c) l y h → IsMeant S ChunkFrame l c
placed b x y g h r S c l same a =
    let mark : l.mark ≡ mark_of (shape x) ((formats_of S).frame ChunkFrame c) = ap (λ (k : Locator). k.mark) a.place in
    let here : l.mark ≡ mark_of S ((formats_of S).frame ChunkFrame c) = mark ∙ ap (λ (T : Shape). mark_of T ((formats_of S).frame ChunkFrame c)) (sym same) in
    subst (λ (m : ℕ). same_mark (mark_of S ((formats_of S).frame ChunkFrame c)) m ≡ true) (sym here) (own_mark (mark_of S ((formats_of S).frame ChunkFrame c)))

pub placed_meant : (b : Bool) (x y : ExtentsState) (g h : GraphState) (r : Reason) (S : Shape) (cs : List (List ℕ)) (ls : List Locator) → S ≡ shape x
    → AreAppendedBy b x g r (chunk_frames S (formats_of S) cs) ls y h → AreMeant S ls cs
placed_meant b x y g h r S [] [] same all = tt
placed_meant b x y g h r S (c ∷ cs) (l ∷ ls) same all =
    (placed b x all.0 g all.1 r S c l same all.2, placed_meant b all.0 y all.1 h r S cs ls (same ∙ sym all.2.same_shape) all.3)
placed_meant b x y g h r S [] (l ∷ ls) same all = absurd all
placed_meant b x y g h r S (c ∷ cs) [] same all = absurd all

-- ---- another entry

module _ (i j : IndexState) (id : ℕ) (ls : List Place) (set : IsSet i id ls j) where
  pub set_here : live_at (index_of j) id ≡ ls
  set_here = ap live (set.index id ∙ cond-true (id == id) (Some ls) (lookup id (index_of i)) (eq-eqb id id refl))

  pub set_others : MeansTheSameBut id i j
  set_others d other = ap (λ (o : Option (List Place)). marks (live o)) (set.index d ∙ cond-false (id == d) (Some ls) (lookup d (index_of i)) (ne_eqb id d (λ same. other (sym same))))

  -- of the same marks
  pub set_same : marks ls ≡ marks_at i id → MeansTheSame i j
  set_same same d = elim (cases_eq d id) [
    | inl here ↦ subst (λ (k : ℕ). marks_at j k ≡ marks_at i k) (sym here) (ap marks set_here ∙ same)
    | inr other ↦ set_others d other
  ]

-- ---- a chunk lies elsewhere

pub replaced_marks : (ls : List Place) (k : ℕ) (from to : Place) → nth ls k ≡ Some from → to.mark ≡ from.mark → marks (replaced ls k to) ≡ marks ls
replaced_marks [] k from to at same = refl
replaced_marks (l ∷ ls) zero from to at same =
    let here : l ≡ from = (let e : Some l ≡ Some from = at in cc e) in
    ap (λ (m : ℕ). m ∷ marks ls) (same ∙ ap (λ (p : Place). p.mark) (sym here))
replaced_marks (l ∷ ls) (suc k) from to at same = ap (λ (ms : List ℕ). l.mark ∷ ms) (replaced_marks ls k from to at same)

pub moved_means : (i j : IndexState) (x y : ExtentsState) (g h : GraphState) (e id k : ℕ) (payload : List ℕ) → IsMoved i x g e id k payload j y h → MeansTheSame i j
moved_means i j x y g h e id k payload moved =
    set_same i j id (replaced (live_at (index_of i) id) k (place_of moved.to)) moved.entry
    (replaced_marks (live_at (index_of i) id) k moved.from (place_of moved.to) moved.first.there moved.mark)

-- ---- copies count

some_place : (o : Option Place) (l : Place) → is_place o l ≡ true → o ≡ Some l
some_place None l is = absurd (let e : false ≡ true = is in cc e)
some_place (Some k) l is = ap (λ (p : Place). Some p) (one_place k l is)

-- one of them
settled_one : (older table : List Entry) (c : Copy) → c.to.mark ≡ c.from.mark → (id : ℕ) → marks (live_at (settle_in older table c ++ older) id) ≡ marks (live_at (table ++ older) id)
settled_one older table c same id = go (is_place (nth (live_at (table ++ older) c.id) c.chunk) c.from) refl
  where
    go : (b : Bool) → is_place (nth (live_at (table ++ older) c.id) c.chunk) c.from ≡ b
        → marks (live_at ((if b then record { id = c.id; locators = replaced (live_at (table ++ older) c.id) c.chunk c.to } ∷ table else table) ++ older) id) ≡ marks (live_at (table ++ older) id)
    go false is = refl
    go true is = elim (cases_eq c.id id) [
      | inl here ↦ (ap (λ (o : Option (List Place)). marks (live o)) (cond-true (c.id == id) (Some (replaced (live_at (table ++ older) c.id) c.chunk c.to)) (lookup id (table ++ older)) (eq-eqb c.id id here))
          ∙ replaced_marks (live_at (table ++ older) c.id) c.chunk c.from c.to (some_place (nth (live_at (table ++ older) c.id) c.chunk) c.from is) same
          ∙ ap (λ (k : ℕ). marks (live_at (table ++ older) k)) here)
      | inr other ↦ ap (λ (o : Option (List Place)). marks (live o)) (cond-false (c.id == id) (Some (replaced (live_at (table ++ older) c.id) c.chunk c.to)) (lookup id (table ++ older)) (ne_eqb c.id id other))
    ]

settled_all : (older table : List Entry) (copies : List Copy) → ((c : Copy) → c ∈ copies → c.to.mark ≡ c.from.mark) → (id : ℕ) → marks (live_at (settle_table older table copies ++ older) id) ≡ marks (live_at (table ++ older) id)
settled_all older table [] same id = refl
settled_all older table (c ∷ cs) same id =
    settled_one older (settle_table older table cs) c (same c (inl refl)) id ∙ settled_all older table cs (λ d among. same d (inr among)) id

pub settled_means : (i j : IndexState) (copies : List Copy) → IsSettled i copies j → ((c : Copy) → c ∈ copies → c.to.mark ≡ c.from.mark) → MeansTheSame i j
settled_means i j copies settled same id = ap (λ (o : Option (List Place)). marks (live o)) (settled.index id) ∙ settled_all (entries_of i.runs) i.table copies same id

-- ---- what lives is the same

pub live_means : (i j : IndexState) → ((id : ℕ) → live_at (index_of j) id ≡ live_at (index_of i) id) → MeansTheSame i j
live_means i j same id = ap marks (same id)

pub then_means : (i j k : IndexState) → MeansTheSame i j → MeansTheSame j k → MeansTheSame i k
then_means i j k first later id = later id ∙ first id
