-- A copy of the machine goes where one of room may go.
use Rattle.std.proofs.Common.{◌≡◌, ◌≢◌, inl, inr, ℕ, zero, suc, ◌+◌, ◌<◌, ◌≤◌, ◌==◌, not, Bool, true, false, List, [], ◌∷◌, ◌++◌, Option, Some, None, if◌then◌else◌, eq-eqb, refl, sym, ap, ◌∙◌, subst, arith}
use Rattle.std.proofs.lemmas.Bool.{cases_Bool, cases_eq, eqb-true, ne_eqb, true≢false}
use Rattle.std.proofs.lemmas.List.{append_assoc}
use Rattle.law_machine.specs.Apart.{same_place}
use Rattle.law_machine.proofs.Carries.{and_true}
use Rattle.law_machine.proofs.Meant.{own_place}
use Rattle.law_machine.proofs.Filled.{may_fill}
use Rattle.law_machine.specs.Device.{Page, Shape}
use Rattle.law_machine.specs.Element.{Copy, Locator, Opening}
use Rattle.law_machine.specs.Extents.{Extents, ForMove, GoesApart, MayFill, Takes, fresh_by, taken_by}
use Rattle.law_machine.specs.Formats.{Formats}
use Rattle.law_machine.specs.Lists.{nth}
use Rattle.law_room.proofs.MachineGoes.{chunk_of, empty_here, empty_still, filled_grows, filled_here, holds_given, holds_runs, may_fill_all, pointer_given, pointer_is}
use Rattle.law_room.specs.Events.{GoesForCopy, TakesCopy, unless, with_copy}
use Rattle.law_room.specs.OfMachine.{AreChunksOf, AreExtentsOf, IsChunkOf, IsFilled, copied_to, either_of, holding, is_copy_of, of_id}
use Rattle.law_room.specs.Rooms.{Chunk, OfChunks, Room, Sweep}

pub all_there : (o : Option ℕ) → unless (λ (e : ℕ). false) o ≡ o
all_there None = refl
all_there (Some e) = refl

module _ (S : Shape) (x : Extents) (r : Room) (of : AreExtentsOf S (λ (e : ℕ). false) x r) (w : Sweep)
    (swept : x.swept w.extent ≡ true) (one : (c d : ℕ) → x.swept c ≡ true → x.swept d ≡ true → c ≡ d)
    (fresh : w.fresh ≡ x.fresh) (some_swept : (d : ℕ) → x.swept d ≡ true → 0 < x.pointer d) where
  takes_room : (k e : ℕ) → Takes S x ForMove k e → TakesCopy S r w k e
  takes_room k e takes =
      let behind = takes.0 in
      let fits : x.pointer e + k ≤ S.pages = behind.3 in
      let is : r.pointer e ≡ x.pointer e = pointer_is S (λ (d : ℕ). false) x r of e behind.0 refl in (
        (behind.0, filled_here S (λ (d : ℕ). false) x r of e refl behind.1 behind.0 false behind.2, omega arith),
        λ same. true≢false (sym swept ∙ ap x.swept (sym same) ∙ takes.1),
      )

  takes_machine : (k e : ℕ) → r.last ≡ Some e → TakesCopy S r w k e → (x.last ≡ Some e) × Takes S x ForMove k e
  takes_machine k e is takes =
      let at : x.last ≡ Some e = sym (all_there x.last) ∙ sym of.last ∙ is in
      let filled = of.noted.copied e at in
      let fits : r.pointer e + k ≤ S.pages = takes.0.2 in
      let same : r.pointer e ≡ x.pointer e = pointer_is S (λ (d : ℕ). false) x r of e filled.0 refl in (
        at,
        (
          (filled.0, filled.1, filled.2, omega arith, filled.3),
          elim (cases_Bool (x.swept e)) [
            | inl on ↦ absurd (takes.1 (one e w.extent on swept))
            | inr off ↦ off
          ],
        ),
      )

  -- where extents are filled up, what takes it in room does so in the machine
  takes_filled : (k e : ℕ) → S.fills ≡ true → TakesCopy S r w k e → Takes S x ForMove k e
  takes_filled k e filled takes =
      let there = chunk_of S (λ (d : ℕ). false) x r of e takes.0.0 takes.0.1 in
      let fits : r.pointer e + k ≤ S.pages = takes.0.2 in
      let same : r.pointer e ≡ x.pointer e = pointer_is S (λ (d : ℕ). false) x r of e takes.0.0 refl in (
        (takes.0.0, there.1, there.2, omega arith, may_fill_all S.fills (x.found e) filled),
        elim (cases_Bool (x.swept e)) [
          | inl on ↦ absurd (takes.1 (one e w.extent on swept))
          | inr off ↦ off
        ],
      )

  still_fresh : (k e : ℕ) → 0 < x.pointer e → fresh_by S true ForMove x e x.fresh ≡ w.fresh
  still_fresh k e some = let test : (x.pointer e == 0) ≡ false = ne_eqb (x.pointer e) 0 (λ none. omega arith) in
      rw test (sym fresh)

  pub copy_goes_there : (k e : ℕ) → GoesApart S x ForMove k e
      → GoesForCopy S r w k e (fresh_by S true ForMove x e x.fresh)
  copy_goes_there k e (inl (is, takes)) = inl (of.last ∙ all_there x.last ∙ is, takes_room k e takes, still_fresh k e takes.0.1)
  copy_goes_there k e (inr (inl (full, first))) = inr (inl (
    (λ d is takes. (let m = takes_machine k d is takes in full d m.0 m.1)),
    takes_room k e first.0,
    still_fresh k e first.0.0.1,
  ))
  copy_goes_there k e (inr (inr (none, first, fits, more))) = inr (inr (
    (λ d is takes. (let m = takes_machine k d is takes in none d m.1)),
    (first.0, empty_here S (λ (d : ℕ). false) x r of e first.0 first.1, fits),
    fresh ∙ more,
    rw first.1 refl,
    (λ filled d takes. none d (takes_filled k d filled takes)),
  ))

  -- e is there, has no runs, isn't being swept and may be filled up
  pub record IsTarget (e : ℕ) : Type 0 where
    pub exists : e < S.extents
    pub chunks : x.of_runs e ≡ false
    pub found : MayFill S.fills (x.found e)
    pub idle : x.swept e ≡ false

  pub target : (k e : ℕ) → GoesApart S x ForMove k e → IsTarget e
  target k e (inl (is, takes)) =
      record { exists = takes.0.0; chunks = takes.0.2; found = takes.0.4; idle = takes.1 }
  target k e (inr (inl (full, first))) =
      record { exists = first.0.0.0; chunks = first.0.0.2; found = first.0.0.4; idle = first.0.1 }
  target k e (inr (inr (none, first, fits, more))) = let empty = of.noted.empty e first.0 first.1 in record {
    exists = first.0;
    chunks = empty.0;
    found = may_fill S.fills (x.found e) empty.1;
    idle = elim (cases_Bool (x.swept e)) [
      | inl on ↦ absurd (let some : 0 < x.pointer e = some_swept e on in let none : x.pointer e ≡ 0 = first.1 in omega arith)
      | inr off ↦ off
    ];
  }

  pub copy_extents : (before : List Chunk) (c : Chunk) (behind : List Chunk) (e : ℕ) (made : Option ℕ) → 0 < c.pages
      → IsTarget e
      → AreExtentsOf S (λ (d : ℕ). false) (taken_by S true ForMove x e c.pages) (with_copy S r w before c behind e made)
  copy_extents before c behind e made some at =
      let k : ℕ = c.pages in
      let y : Extents = taken_by S true ForMove x e k in
      let up : 0 < y.pointer e = (let test : (e == e) ≡ true = eq-eqb e e refl in
      let is : y.pointer e ≡ x.pointer e + k = rw test refl in omega arith) in
      let there : holding y e ≡ OfChunks = holds_runs y e false up at.chunks in record {
        pointer = λ d lt. pointer_given S (λ (d : ℕ). false) x r of e k OfChunks y refl refl there (λ d not. refl) d lt;
        holds = λ d lt. holds_given S (λ (d : ℕ). false) x r of e k OfChunks y refl refl there (λ d not. refl) d lt;
        open_extent = of.open_extent;
        last = refl;
        noted = record {
          appended = λ d is. filled_grows S (λ (d : ℕ). false) x r of e k y refl refl (λ c off lt. off) d
              (of.noted.appended d is);
          copied = λ d is. (let same : e ≡ d = cc in subst (λ (n : ℕ). IsFilled S y n) same
              (at.exists, up, at.chunks, at.found));
          opened = λ d is. either y (x.pointer e == 0) d is (λ old. filled_grows S (λ (d : ℕ). false) x r of e k y refl refl
              (λ c off lt. off) d (of.noted.opened d old)) (at.exists, up, at.chunks, at.found);
          empty = empty_still S (λ (d : ℕ). false) x r of e k y some refl refl (λ d not. refl);
        };
      }
    where
      either : (y : Extents) (b : Bool) (d : ℕ) → (if b then Some e else x.fresh) ≡ Some d
          → (x.fresh ≡ Some d → IsFilled S y d) → IsFilled S y e → IsFilled S y d
      either y true d is old here = (let same : e ≡ d = cc in subst (λ (n : ℕ). IsFilled S y n) same here)
      either y false d is old here = old is

-- one chunk of an identifier, among the others
module _ (S : Shape) (F : Formats) (opening : Opening) (img : ℕ → Page) (p g : ℕ → ℕ) (copies more : List Copy) (id : ℕ) where
  pub chunks_copied : (k : ℕ) (ls : List Locator) (cs : List Chunk)
      → ((i : ℕ) (l : Locator) → k ≤ i → copied_to copies id i l ≡ copied_to more id i l)
      → AreChunksOf S F opening img p g copies id k ls cs → AreChunksOf S F opening img p g more id k ls cs
  chunks_copied k [] cs same none = none
  chunks_copied k (l ∷ ls) cs same (c, rest, parts, is, others) = (
    c,
    rest,
    parts,
    record { id = is.id; extent = is.extent; pages = is.pages; copy = is.copy ∙ same k l (omega arith) },
    chunks_copied (suc k) ls rest (λ i x le. same i x (omega arith)) others,
  )

  -- it can be another where its copy is another
  pub record IsAmong (k j : ℕ) (ls : List Locator) (l : Locator) (cs : List Chunk) : Type 0 where
    pub front : List Chunk
    pub chunk : Chunk
    pub back : List Chunk
    pub parts : cs ≡ front ++ chunk ∷ back
    pub is : IsChunkOf S F opening img p g copies id (k + j) l chunk
    pub becomes : (c : Chunk) → IsChunkOf S F opening img p g more id (k + j) l c
        → ((i : ℕ) (x : Locator) → i ≢ k + j → copied_to copies id i x ≡ copied_to more id i x)
        → AreChunksOf S F opening img p g more id k ls (front ++ c ∷ back)

  pub among : (k j : ℕ) (ls : List Locator) (l : Locator) (cs : List Chunk) → nth ls j ≡ Some l
      → AreChunksOf S F opening img p g copies id k ls cs → IsAmong k j ls l cs
  among k j [] l cs none are = absurd (let wrong : None ≡ Some l = none in cc)
  among k zero (y ∷ ls) l cs is (c, rest, parts, here, others) =
      let same : y ≡ l = cc in
      let at : k ≡ k + 0 = omega arith in record {
        front = rest;
        chunk = c;
        back = [];
        parts = parts;
        is = subst (λ (n : ℕ). IsChunkOf S F opening img p g copies id n l c) at
            (subst (λ (z : Locator). IsChunkOf S F opening img p g copies id k z c) same here);
        becomes = λ d new copied. (
          d,
          rest,
          refl,
          subst (λ (z : Locator). IsChunkOf S F opening img p g more id k z d) (sym same)
              (subst (λ (n : ℕ). IsChunkOf S F opening img p g more id n l d) (sym at) new),
          chunks_copied (suc k) ls rest (λ i z le. copied i z (λ wrong. omega arith)) others,
        );
      }
  among k (suc j) (y ∷ ls) l cs is (c, rest, parts, here, others) =
      let at : suc k + j ≡ k + suc j = omega arith in
      let found : IsAmong (suc k) j ls l rest = among (suc k) j ls l rest is others in record {
        front = found.front;
        chunk = found.chunk;
        back = found.back ++ c ∷ [];
        parts = parts ∙ ap (λ (xs : List Chunk). xs ++ c ∷ []) found.parts
            ∙ append_assoc found.front (found.chunk ∷ found.back) (c ∷ []);
        is = subst (λ (n : ℕ). IsChunkOf S F opening img p g copies id n l found.chunk) at found.is;
        becomes = λ d new copied. (
          c,
          found.front ++ d ∷ found.back,
          sym (append_assoc found.front (d ∷ found.back) (c ∷ [])),
          record {
            id = here.id;
            extent = here.extent;
            pages = here.pages;
            copy = here.copy ∙ copied k y (λ wrong. omega arith);
          },
          found.becomes d (subst (λ (n : ℕ). IsChunkOf S F opening img p g more id n l d) (sym at) new)
              (λ i z not. copied i z (λ wrong. not (wrong ∙ sym at))),
        );
      }

-- the place of a chunk of an identifier in a list of chunks
pub record IsPart (id : ℕ) (front : List Chunk) (c : Chunk) (back cs : List Chunk) : Type 0 where
  pub before : List Chunk
  pub behind : List Chunk
  pub parts : cs ≡ before ++ c ∷ behind
  pub becomes : (d : Chunk) → d.id ≡ id → of_id id (before ++ d ∷ behind) ≡ front ++ d ∷ back
  pub others : (n : ℕ) (d : Chunk) → d.id ≡ id → n ≢ id → of_id n (before ++ d ∷ behind) ≡ of_id n cs

pub part_of : (id : ℕ) (front : List Chunk) (c : Chunk) (back cs : List Chunk) → c.id ≡ id
    → of_id id cs ≡ front ++ c ∷ back → IsPart id front c back cs
part_of id front c back [] here is = absurd (empty front is)
  where
    empty : (xs : List Chunk) → [] ≡ xs ++ c ∷ back → ⊥
    empty [] wrong = cc
    empty (x ∷ xs) wrong = cc
part_of id front c back (x ∷ cs) here is = go (x.id == id) refl front is (λ xs. part_of id xs c back cs here)
  where
    other_at : (n : ℕ) (d : Chunk) → d.id ≡ id → n ≢ id → (d.id == n) ≡ false
    other_at n d at not = ne_eqb d.id n (λ same. not (sym same ∙ at))

    go : (b : Bool) → (x.id == id) ≡ b → (xs : List Chunk) → (if b then x ∷ of_id id cs else of_id id cs) ≡ xs ++ c ∷ back
        → ((ys : List Chunk) → of_id id cs ≡ ys ++ c ∷ back → IsPart id ys c back cs) → IsPart id xs c back (x ∷ cs)
    go true test [] eq rest = (let same : x ≡ c = cc in let left : of_id id cs ≡ back = cc in record {
      before = [];
      behind = cs;
      parts = ap (λ (y : Chunk). y ∷ cs) same;
      becomes = λ d at. (let on : (d.id == id) ≡ true = eq-eqb d.id id at in
          rw on (ap (λ (ys : List Chunk). d ∷ ys) left));
      others = λ n d at not. (let off : (d.id == n) ≡ false = other_at n d at not in
          let old : (x.id == n) ≡ false = other_at n x (eqb-true x.id id test) not in rw (off, old) refl);
    })
    go true test (y ∷ ys) eq rest = (let same : x ≡ y = cc in let left : of_id id cs ≡ ys ++ c ∷ back = cc in
        let found : IsPart id ys c back cs = rest ys left in record {
          before = x ∷ found.before;
          behind = found.behind;
          parts = ap (λ (zs : List Chunk). x ∷ zs) found.parts;
          becomes = λ d at. rw test (ap (λ (zs : List Chunk). x ∷ zs) (found.becomes d at)
              ∙ ap (λ (z : Chunk). z ∷ ys ++ d ∷ back) same);
          others = λ n d at not. ap (λ (zs : List Chunk). if x.id == n then x ∷ zs else zs) (found.others n d at not);
        })
    go false test xs eq rest = (let found : IsPart id xs c back cs = rest xs eq in record {
      before = x ∷ found.before;
      behind = found.behind;
      parts = ap (λ (zs : List Chunk). x ∷ zs) found.parts;
      becomes = λ d at. rw test (found.becomes d at);
      others = λ n d at not. ap (λ (zs : List Chunk). if x.id == n then x ∷ zs else zs) (found.others n d at not);
    })

-- what one copy more changes
pub copied_more : (c : Copy) (copies : List Copy) (id k : ℕ) (l : Locator) → is_copy_of c id k l ≡ false
    → copied_to copies id k l ≡ copied_to (c ∷ copies) id k l
copied_more c copies id k l off = sym (ap (λ (b : Bool). either_of (copied_to copies id k l)
    (if b then Some c.to.extent else None)) off ∙ either_none (copied_to copies id k l))
  where
    either_none : (o : Option ℕ) → either_of o None ≡ o
    either_none None = refl
    either_none (Some e) = refl

pub other_copy : (c : Copy) (id k : ℕ) (l : Locator) → (c.id ≡ id → c.chunk ≡ k → ⊥) → is_copy_of c id k l ≡ false
other_copy c id k l not = elim (cases_eq c.id id) [
  | inr other ↦ (let test : (c.id == id) ≡ false = ne_eqb c.id id other in rw test refl)
  | inl same ↦ (let on : (c.id == id) ≡ true = eq-eqb c.id id same in
      let off : (c.chunk == k) ≡ false = ne_eqb c.chunk k (not same) in rw (on, off) refl)
]

pub this_copy : (c : Copy) (id k : ℕ) (l : Locator) → c.id ≡ id → c.chunk ≡ k → c.from ≡ l → is_copy_of c id k l ≡ true
this_copy c id k l a b is =
    let one : (c.id == id) ≡ true = eq-eqb c.id id a in
    let two : (c.chunk == k) ≡ true = eq-eqb c.chunk k b in
    let from : same_place c.from l ≡ true = own_place c.from l is in
    and_true (c.id == id) _ one (and_true (c.chunk == k) (same_place c.from l) two from)
