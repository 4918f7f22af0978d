-- The chunks of one identifier.
use Rattle.std.proofs.Common.{◌≡◌, ◌≢◌, ◌⊎◌, inl, inr, ℕ, suc, ◌<◌, ◌==◌, ◌&&◌, not, Bool, true, false, List, [], ◌∷◌, ◌++◌, length, Option, Some, None, if◌then◌else◌, eq-eqb, refl, sym, ap, ◌∙◌, subst}
use Rattle.std.proofs.lemmas.Bool.{cases_Bool, eqb-true, ne_eqb, true≢false}
use Rattle.law_machine.proofs.Meant.{one_place}
use Rattle.law_machine.proofs.ApartResets.{swept_below}
use Rattle.law_machine.proofs.Carries.{and_right}
use Rattle.law_machine.specs.Apart.{any_below, any_swept, same_place}
use Rattle.law_machine.specs.Device.{Page, Shape}
use Rattle.law_machine.specs.Element.{Copy, Locator, Opening}
use Rattle.law_machine.specs.Extents.{one_if}
use Rattle.law_machine.specs.Formats.{ChunkFrame, Formats}
use Rattle.law_machine.specs.Index.{Chunks}
use Rattle.law_machine.specs.Lists.{◌∈◌}
use Rattle.law_machine.specs.State.{State}
use Rattle.law_room.proofs.MachineGoes.{IsSwept}
use Rattle.law_room.proofs.MachinePut.{AreWritten}
use Rattle.law_room.specs.OfMachine.{AreChunksOf, IsSweepOf, copied_to, either_of, is_aside, is_copy_of, of_id}
use Rattle.law_room.specs.Rooms.{Chunk, Sweep, is_at, without}

-- of a list in front of which stand chunks of one identifier
pub id_of_news : (id : ℕ) (news cs : List Chunk) → ((c : Chunk) → c ∈ news → c.id ≡ id)
    → of_id id (news ++ cs) ≡ news ++ of_id id cs
id_of_news id [] cs all = refl
id_of_news id (c ∷ news) cs all = let test : (c.id == id) ≡ true = eq-eqb c.id id (all c (inl refl)) in
    rw test (ap (λ (xs : List Chunk). c ∷ xs) (id_of_news id news cs (λ x there. all x (inr there))))

pub id_of_others : (d id : ℕ) (news cs : List Chunk) → d ≢ id → ((c : Chunk) → c ∈ news → c.id ≡ id)
    → of_id d (news ++ cs) ≡ of_id d cs
id_of_others d id [] cs other all = refl
id_of_others d id (c ∷ news) cs other all =
    let test : (c.id == d) ≡ false = ne_eqb c.id d (λ same. other (sym same ∙ all c (inl refl))) in
    rw test (id_of_others d id news cs other (λ x there. all x (inr there)))

pub id_without : (id : ℕ) (cs : List Chunk) → of_id id (without id cs) ≡ []
id_without id [] = refl
id_without id (c ∷ cs) = step (c.id == id) refl (id_without id cs)
  where
    step : (b : Bool) → (c.id == id) ≡ b → of_id id (without id cs) ≡ []
        → of_id id (if b then without id cs else c ∷ without id cs) ≡ []
    step true test rest = rest
    step false test rest = rw test rest

pub other_without : (d id : ℕ) (cs : List Chunk) → d ≢ id → of_id d (without id cs) ≡ of_id d cs
other_without d id [] other = refl
other_without d id (c ∷ cs) other = step (c.id == id) refl (other_without d id cs other)
  where
    step : (b : Bool) → (c.id == id) ≡ b → of_id d (without id cs) ≡ of_id d cs
        → of_id d (if b then without id cs else c ∷ without id cs) ≡ of_id d (c ∷ cs)
    step true test rest = (let off : (c.id == d) ≡ false = ne_eqb c.id d (λ same. other (sym same ∙ eqb-true c.id id test)) in
        rest ∙ sym (rw off refl))
    step false test rest = ap (λ (xs : List Chunk). if c.id == d then c ∷ xs else xs) rest

-- the chunks of a put are those of its identifier
pub written_ids : (F : Formats) (id : ℕ) (cs : List (List ℕ)) (ls : List Locator) (news : List Chunk)
    → AreWritten F id cs ls news → (c : Chunk) → c ∈ news → c.id ≡ id
written_ids F id [] [] news none c there = absurd (subst (λ (xs : List Chunk). c ∈ xs) none there)
written_ids F id [] (l ∷ ls) news none c there = absurd none
written_ids F id (b ∷ cs) [] news none c there = absurd none
written_ids F id (b ∷ cs) (l ∷ ls) news (rest, parts, more) c there = in_parts rest
    (subst (λ (xs : List Chunk). c ∈ xs) parts there) (λ x has_it. written_ids F id cs ls rest more x has_it)
  where
    in_parts : (xs : List Chunk)
        → c ∈ xs ++ record { id = id; extent = l.extent; pages = length (F.frame ChunkFrame b); copy = None } ∷ []
        → ((x : Chunk) → x ∈ xs → x.id ≡ id) → c.id ≡ id
    in_parts [] (inl is) all = ap (λ (x : Chunk). x.id) is
    in_parts [] (inr none) all = absurd none
    in_parts (x ∷ xs) (inl is) all = ap (λ (y : Chunk). y.id) is ∙ all x (inl refl)
    in_parts (x ∷ xs) (inr there) all = in_parts xs there (λ y has_it. all y (inr has_it))

-- no copy was made from there
pub not_copied : (copies : List Copy) (id k : ℕ) (l : Locator) → ((c : Copy) → c ∈ copies → c.from.extent ≢ l.extent)
    → copied_to copies id k l ≡ None
not_copied [] id k l none = refl
not_copied (c ∷ copies) id k l none =
    let rest : copied_to copies id k l ≡ None = not_copied copies id k l (λ x there. none x (inr there)) in
    let test : is_copy_of c id k l ≡ false = elim (cases_Bool (is_copy_of c id k l)) [
      | inl on ↦ absurd (none c (inl refl) (ap (λ (x : Locator). x.extent) (one_place c.from l
          (and_right (c.chunk == k) (same_place c.from l) (and_right (c.id == id) _ on)))))
      | inr off ↦ off
    ] in ap (λ (o : Option ℕ). either_of o (if is_copy_of c id k l then Some c.to.extent else None)) rest
    ∙ ap (λ (b : Bool). if b then Some c.to.extent else None) test

pub written_are : (S : Shape) (F : Formats) (opening : Opening) (img : ℕ → Page) (p g : ℕ → ℕ) (copies : List Copy)
    (id k : ℕ) (cs : List (List ℕ)) (ls : List Locator) (news : List Chunk) → AreWritten F id cs ls news
    → Chunks S F opening img p g ls cs → ((j : ℕ) (l : Locator) → l ∈ ls → copied_to copies id j l ≡ None)
    → AreChunksOf S F opening img p g copies id k ls news
written_are S F opening img p g copies id k [] [] news none reads not_there = none
written_are S F opening img p g copies id k [] (l ∷ ls) news none reads not_there = absurd none
written_are S F opening img p g copies id k (c ∷ cs) [] news none reads not_there = absurd none
written_are S F opening img p g copies id k (c ∷ cs) (l ∷ ls) news (rest, parts, more) reads not_there = (
  record { id = id; extent = l.extent; pages = length (F.frame ChunkFrame c); copy = None },
  rest,
  parts,
  record { id = refl; extent = refl; pages = inl (c, reads.0, refl); copy = sym (not_there k l (inl refl)) },
  written_are S F opening img p g copies id (suc k) cs ls rest more reads.1 (λ j x there. not_there j x (inr there)),
)

-- what the unfinished sweep holds
pub none_below : (test : ℕ → Bool) (n e : ℕ) → any_below test n ≡ false → e < n → test e ≡ false
none_below test n e none lt = elim (cases_Bool (test e)) [
  | inl on ↦ absurd (true≢false (sym (swept_below test n e lt on) ∙ none))
  | inr off ↦ off
]

pub at_some : (o : Option ℕ) (e : ℕ) → is_at o e ≡ true → o ≡ Some e
at_some None e wrong = absurd (true≢false (sym wrong))
at_some (Some d) e is = ap (λ (n : ℕ). Some n) (eqb-true d e is)

pub at_here : (o : Option ℕ) (e : ℕ) → o ≡ Some e → is_at o e ≡ true
at_here None e wrong = absurd (let no : None ≡ Some e = wrong in cc)
at_here (Some d) e is = (let same : d ≡ e = cc in eq-eqb d e same)

pub swept_of : (S : Shape) (s : State) (sweep : Option Sweep)
    → ((c d : ℕ) → s.world.extents.swept c ≡ true → s.world.extents.swept d ≡ true → c ≡ d) → IsSweepOf S s sweep
    → IsSwept S (is_aside S s) s.world.extents sweep
swept_of S s None one none = record {
  alone = λ e off not w wrong. absurd (let no : None ≡ Some w = wrong in cc);
  left = λ e lt alone. (
    none_below s.world.extents.swept S.extents e none lt,
    λ is. aside_there (any_swept S s) none (is_at s.world.extents.fresh e) (at_here s.world.extents.fresh e is),
  );
  aside_fresh = λ e on. at_some s.world.extents.fresh e (and_right (not (any_swept S s)) _ on);
  counts = some_fresh s.world.extents.fresh refl;
}
  where
    aside_there : (b : Bool) → b ≡ false → (c : Bool) → c ≡ true → (not b && c) ≡ true
    aside_there true wrong c is = absurd (true≢false wrong)
    aside_there false off c is = is

    some_fresh : (o : Option ℕ) → s.world.extents.fresh ≡ o → (0 ≡ one_if s.world.extents.fresh)
        ⊎ ((e : ℕ) × (s.world.extents.fresh ≡ Some e) × (is_aside S s e ≡ true))
    some_fresh None is = inl (sym (ap one_if is))
    some_fresh (Some e) is = inr (
      e,
      is,
      aside_there (any_swept S s) none (is_at s.world.extents.fresh e) (at_here s.world.extents.fresh e is),
    )
swept_of S s (Some w) one (any, below, swept, fresh, targets) = record {
  alone = λ e off not v is. (let same : w ≡ v = cc in (
    (λ at. true≢false (sym swept ∙ ap s.world.extents.swept (ap (λ (u : Sweep). u.extent) same ∙ at) ∙ off)),
    (λ at. not (sym fresh ∙ ap (λ (u : Sweep). u.fresh) same ∙ at)),
  ));
  left = λ e lt alone. (
    (elim (cases_Bool (s.world.extents.swept e)) [
      | inl on ↦ absurd ((alone w refl).0 (one w.extent e swept on))
      | inr off ↦ off
    ]),
    λ is. absurd ((alone w refl).1 (fresh ∙ is)),
  );
  aside_fresh = λ e on. at_some s.world.extents.fresh e (and_right (not (any_swept S s)) _ on);
  counts = inl (ap one_if fresh);
}
