-- A Retire of the machine is one of room.
use Rattle.std.proofs.Common.{◌≡◌, ◌≢◌, ◌⊎◌, inl, inr, ⊎_elim, ℕ, suc, ◌+◌, ◌==◌, Bool, true, false, List, [], ◌∷◌, ◌++◌, map, Option, Some, None, if◌then◌else◌, refl, sym, ap, ◌∙◌, subst, arith}
use Rattle.std.proofs.lemmas.Bool.{cases_Bool, true≢false}
use Rattle.law_machine.proofs.ApartMoving.{place_is}
use Rattle.law_machine.proofs.Settling.{settle_all_is}
use Rattle.law_machine.specs.Apart.{is_place, settle_all}
use Rattle.law_machine.specs.Device.{Page, Shape}
use Rattle.law_machine.specs.Element.{Copy, Entry, Locator, Opening, Run}
use Rattle.law_machine.specs.Formats.{Formats}
use Rattle.law_machine.specs.Index.{entries_of, live_at}
use Rattle.law_machine.specs.Lists.{nth, replaced, ◌∈◌}
use Rattle.law_machine.specs.State.{State, index_now}
use Rattle.law_room.proofs.MachineBlank.{in_last}
use Rattle.law_room.proofs.MachineCopies.{copy_is}
use Rattle.law_room.proofs.MachineMoves.{this_copy}
use Rattle.law_room.proofs.MachineSettled.{map_from, settled_place}
use Rattle.law_room.specs.Events.{place_of, settle}
use Rattle.law_room.specs.OfMachine.{AreChunksOf, HasPages, IsChunkOf, copied_to, either_of, is_copy_of, of_id, targets_of}
use Rattle.law_room.specs.Rooms.{Chunk}

pub settled_ids : (id : ℕ) (cs : List Chunk) → of_id id (map settle cs) ≡ map settle (of_id id cs)
settled_ids id [] = refl
settled_ids id (c ∷ cs) = step (c.id == id) (settled_ids id cs)
  where
    step : (b : Bool) → of_id id (map settle cs) ≡ map settle (of_id id cs)
        → (if b then settle c ∷ of_id id (map settle cs) else of_id id (map settle cs))
        ≡ map settle (if b then c ∷ of_id id cs else of_id id cs)
    step true rest = ap (λ (xs : List Chunk). settle c ∷ xs) rest
    step false rest = rest

settled_last : (xs : List Chunk) (c : Chunk) → map settle (xs ++ c ∷ []) ≡ map settle xs ++ settle c ∷ []
settled_last [] c = refl
settled_last (x ∷ xs) c = ap (λ (ys : List Chunk). settle x ∷ ys) (settled_last xs c)

pub in_targets : (copies : List Copy) (c : Copy) → c ∈ copies → c.to.extent ∈ targets_of copies
in_targets [] c none = absurd none
in_targets (d ∷ copies) c (inl is) = inl (ap (λ (x : Copy). x.to.extent) is)
in_targets (d ∷ copies) c (inr there) = inr (in_targets copies c there)

-- where a chunk lies then: where it lay, or where the copy is that room knows of
abbrev pub IsSettled : List Copy → (id k : ℕ) → (l place : Locator) → Option ℕ → Type 0
IsSettled copies id k l place o = ((o ≡ None) × (place ≡ l))
    ⊎ ((c : Copy) × (c ∈ copies) × (c.from ≡ l) × (place ≡ c.to) × (o ≡ Some c.to.extent))

pub settled_or_not : (e : ℕ) (copies : List Copy) (id k : ℕ) (l : Locator)
    → ((c : Copy) → c ∈ copies → (c.from.extent ≡ e) × (c.to.extent ≢ e))
    → IsSettled copies id k l (settled_place copies id k l) (copied_to copies id k l)
settled_or_not e [] id k l all = inl (refl, refl)
settled_or_not e (c ∷ cs) id k l all =
    step (settled_place cs id k l) (copied_to cs id k l) (settled_or_not e cs id k l (λ d there. all d (inr there)))
  where
    step : (place : Locator) (o : Option ℕ) → IsSettled cs id k l place o
        → IsSettled (c ∷ cs) id k l (if is_copy_of c id k place then c.to else place)
        (either_of o (if is_copy_of c id k l then Some c.to.extent else None))
    step place o (inl (none, same)) = go (is_copy_of c id k l) refl (ap (λ (x : Locator). is_copy_of c id k x) same)
      where
        go : (b : Bool) → is_copy_of c id k l ≡ b → is_copy_of c id k place ≡ is_copy_of c id k l
            → IsSettled (c ∷ cs) id k l (if is_copy_of c id k place then c.to else place)
            (either_of o (if is_copy_of c id k l then Some c.to.extent else None))
        go true on alike = rw (none, alike, on) (inr (c, inl refl, (copy_is c id k l on).2, refl, refl))
        go false off alike = rw (none, alike, off) (inl (refl, same))
    step place o (inr (d, there, from, at, is)) = go (is_copy_of c id k place) refl
      where
        go : (b : Bool) → is_copy_of c id k place ≡ b
            → IsSettled (c ∷ cs) id k l (if is_copy_of c id k place then c.to else place)
            (either_of o (if is_copy_of c id k l then Some c.to.extent else None))
        go true on = absurd ((all d (inr there)).1 (ap (λ (x : Locator). x.extent) (sym at)
            ∙ ap (λ (x : Locator). x.extent) (sym (copy_is c id k place on).2) ∙ (all c (inl refl)).0))
        go false off = rw (off, is) (inr (d, inr there, from, at, refl))

module _ (S : Shape) (F : Formats) (opening : Opening) (img : ℕ → Page) (p g : ℕ → ℕ) (copies : List Copy) (id : ℕ) where
  -- each chunk has its number
  pub has_number : (k : ℕ) (ls : List Locator) (cs : List Chunk) (c : Chunk)
      → AreChunksOf S F opening img p g copies id k ls cs → c ∈ cs
      → (i : ℕ) × (l : Locator) × (nth ls i ≡ Some l) × IsChunkOf S F opening img p g copies id (k + i) l c
  has_number k [] cs c none got = absurd (subst (λ (xs : List Chunk). c ∈ xs) none got)
  has_number k (l ∷ ls) cs c (last, rest, parts, is, more) got = ⊎_elim
      (λ there. (let found = has_number (suc k) ls rest c more there in let at : suc k + found.0 ≡ k + suc found.0 = omega arith in
      (suc found.0, found.1, found.2, subst (λ (n : ℕ). IsChunkOf S F opening img p g copies id n found.1 c) at found.3)))
      (λ same. (let at : k ≡ k + 0 = omega arith in (
        0,
        l,
        refl,
        subst (λ (n : ℕ). IsChunkOf S F opening img p g copies id n l c) at
            (subst (λ (x : Chunk). IsChunkOf S F opening img p g copies id k l x) (sym same) is),
      )))
      (in_last rest last c (subst (λ (xs : List Chunk). c ∈ xs) parts got))

  -- the chunks of room settle as those of the machine
  pub chunks_settle : (e : ℕ) → ((c : Copy) → c ∈ copies → (c.from.extent ≡ e) × (c.to.extent ≢ e))
      → ((c : Copy) (n : ℕ) → c ∈ copies → HasPages S F opening img p g c.from n → HasPages S F opening img p g c.to n)
      → (k : ℕ) (ls : List Locator) (cs : List Chunk) → AreChunksOf S F opening img p g copies id k ls cs
      → AreChunksOf S F opening img p g [] id k (map_from (settled_place copies id) k ls) (map settle cs)
  chunks_settle e all pages k [] cs none = ap (map settle) none
  chunks_settle e all pages k (l ∷ ls) cs (c, rest, parts, is, more) = (
    settle c,
    map settle rest,
    ap (map settle) parts ∙ settled_last rest c,
    one (settled_or_not e copies id k l all),
    chunks_settle e all pages (suc k) ls rest more,
  )
    where
      one : IsSettled copies id k l (settled_place copies id k l) (copied_to copies id k l)
          → IsChunkOf S F opening img p g [] id k (settled_place copies id k l) (settle c)
      one (inl (none, same)) = record {
        id = is.id;
        extent = ap (λ (o : Option ℕ). place_of o c.extent) (is.copy ∙ none) ∙ is.extent
            ∙ ap (λ (x : Locator). x.extent) (sym same);
        pages = subst (λ (x : Locator). HasPages S F opening img p g x c.pages) (sym same) is.pages;
        copy = refl;
      }
      one (inr (d, there, from, at, copied)) = record {
        id = is.id;
        extent = ap (λ (o : Option ℕ). place_of o c.extent) (is.copy ∙ copied) ∙ ap (λ (x : Locator). x.extent) (sym at);
        pages = subst (λ (x : Locator). HasPages S F opening img p g x c.pages) (sym at) (pages d c.pages there
            (subst (λ (x : Locator). HasPages S F opening img p g x c.pages) (sym from) is.pages));
        copy = refl;
      }

-- the table is empty afterwards where it was and nothing was copied
pub table_before : (s : State) (cs : List Copy) → (settle_all s cs).table ≡ [] → s.table ≡ []
table_before s [] none = none
table_before s (c ∷ cs) none = table_before s cs
    (go (is_place (nth (live_at (index_now (settle_all s cs)) c.id) c.chunk) c.from) none)
  where
    go : (b : Bool) → (if b then record {
      id = c.id;
      locators = replaced (live_at (index_now (settle_all s cs)) c.id) c.chunk c.to;
    } ∷ (settle_all s cs).table else (settle_all s cs).table) ≡ [] → (settle_all s cs).table ≡ []
    go true wrong = absurd cc
    go false is = is

pub table_still : (s : State) (cs : List Copy) → ((id k : ℕ) (l : Locator) → nth (live_at (index_now s) id) k ≡ Some l
    → copied_to cs id k l ≡ None) → (settle_all s cs).table ≡ s.table
table_still s [] none = refl
table_still s (c ∷ cs) none =
    let old : (settle_all s cs).table ≡ s.table = table_still s cs
    (λ id k l is. first_none (copied_to cs id k l) _ (none id k l is)) in
    let runs = ap (λ (x : State). x.runs) (settle_all_is s cs) in
    let index : index_now (settle_all s cs) ≡ index_now s =
    ap (λ (es : List Entry). es ++ entries_of (settle_all s cs).runs) old ∙ ap (λ (rs : List Run). s.table ++ entries_of rs) runs in
    let off : is_place (nth (live_at (index_now (settle_all s cs)) c.id) c.chunk) c.from ≡ false = elim
    (cases_Bool (is_place (nth (live_at (index_now (settle_all s cs)) c.id) c.chunk) c.from)) [
      | inl on ↦ absurd (let at = sym (ap (λ (es : List Entry). nth (live_at es c.id) c.chunk) index)
          ∙ place_is (nth (live_at (index_now (settle_all s cs)) c.id) c.chunk) c.from on in
          let gone = none c.id c.chunk c.from at in
          some_not (copied_to cs c.id c.chunk c.from) c.to.extent (is_copy_of c c.id c.chunk c.from)
          (this_copy c c.id c.chunk c.from refl refl refl) gone)
      | inr not_on ↦ not_on
    ] in ap (λ (b : Bool). if b then (record {
      id = c.id;
      locators = replaced (live_at (index_now (settle_all s cs)) c.id) c.chunk c.to;
    }) ∷ (settle_all s cs).table else (settle_all s cs).table) off ∙ old
  where
    first_none : (o p : Option ℕ) → either_of o p ≡ None → o ≡ None
    first_none None p is = refl
    first_none (Some e) p wrong = absurd cc

    some_not : (o : Option ℕ) (e : ℕ) (b : Bool) → b ≡ true → either_of o (if b then Some e else None) ≡ None → ⊥
    some_not None e true on wrong = cc
    some_not (Some d) e true on wrong = cc
    some_not o e false off is = true≢false (sym off)
