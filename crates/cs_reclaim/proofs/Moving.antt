-- A chunk that is moved, and why it isn't.
use Rattle.std.proofs.Common.{◌≡◌, ◌∙◌, ◌⊎◌, ◌↔◌, refl, sym, inl, inr, ⊎_elim, ℕ, ◌+◌, ◌^◌, ◌<◌, ◌≤◌, List, Option, None, Some, Result, Ok, Err, IfErr, IfOk, length, ap, eqb-true, subst, arith, false}
use Rattle.std.proofs.lemmas.Option.{same_Some}
use Rattle.cs_chunk.proofs.Chunkings.{length-spelled}
use Rattle.cs_chunk.specs.Chunks.{IsMeant}
use Rattle.cs_chunk.specs.Reads.{IsCaused, IsReadRefusal}
use Rattle.cs_refusal.specs.declared.refusals.Refusal.{Refusal}
use Rattle.cs_refusal.specs.declared.refusals.Refusal.TheVariants.{DeviceFault, Full, Misplaced, OutOfMemory, WornOut}
use Rattle.cs_refusal.specs.Refusals.{number_of}
use Rattle.cs_deps.specs.Staging.{Staging}
use Rattle.cs_deps.specs.State.{State as GraphState}
use Rattle.cs_extent.specs.Appended.{IsAppended, IsAppendedBy}
use Rattle.cs_extent.specs.State.{State as ExtentsState, shape}
use Rattle.cs_extent.specs.Worn.{IsFrameWorn}
use Rattle.cs_frame.specs.declared.faults.FormatFault.{FormatFault}
use Rattle.cs_frame.specs.declared.formats.FormatNumber.{FormatNumber}
use Rattle.cs_frame.specs.declared.identifiers.ShardId.{ShardId}
use Rattle.cs_frame.specs.declared.locators.Locator.{Locator}
use Rattle.cs_frame.specs.Formats.{as_locator, place_of}
use Rattle.cs_frame.specs.Frames.{spelled_frame}
use Rattle.cs_index.specs.Staged.{IsExact, IsWhy}
use Rattle.cs_index.specs.State.{IsSet, State, id_number, index_of}
use Rattle.law_machine.specs.Device.{mark_of}
use Rattle.law_machine.specs.Element.{Entry}
use Rattle.law_machine.specs.Extents.{ForMove}
use Rattle.law_machine.specs.Formats.{ChunkFrame}
use Rattle.law_machine.specs.Index.{FirstLive, live_at}
use Rattle.law_machine.specs.Lists.{replaced}
use Rattle.cs_index.specs.declared.live.LiveChunk.{LiveChunk}
use Rattle.cs_reclaim.specs.Moves.{AnswersMove, AnswersPlace, IsMoveFull, IsMoveWorn, IsMoved, Nowhere, chunk_frame}

-- what lies in an extent is short
pub small_payload : (number : FormatNumber) (page pages : ℕ) (payload : List ℕ) → pages ≤ 65535 → page + length (spelled_frame number 0 payload) ≤ pages → length payload < 2 ^ 32
small_payload number page pages payload few le = omega (arith, few, le, length-spelled number 0 payload)

pub if_ok : {T E : Type 0} (r : Result T E) (A B : T → Type 0) → ((t : T) → A t → B t) → IfOk r A → IfOk r B
if_ok (Ok t) A B to a = to t a
if_ok (Err e) A B to a = tt

-- what was read is meant, and so the frame that is appended of it has the mark of where it was read
pub same_mark_there : (x y : ExtentsState) (g h : GraphState) (payload : List ℕ) (from to : Locator) → IsMeant (shape x) ChunkFrame from payload
    → IsAppended x g ForMove (chunk_frame x payload) to y h → to.mark ≡ from.mark
same_mark_there x y g h payload from to meant appended =
    ap (λ (l : Locator). l.mark) appended.place ∙ eqb-true (mark_of (shape x) (chunk_frame x payload)) from.mark meant

-- ---- where a frame goes

module _ (x : ExtentsState) (s : Staging) (payload : List ℕ) where
  abbrev pub No : Type 0
  No = Nowhere x (length (chunk_frame x payload))

  abbrev pub Worn : Type 0
  Worn = IsFrameWorn x ForMove s (length (chunk_frame x payload))

  pub exact_place : {T : Type 0} (r : Result T Refusal) → IsExact r No Worn → AnswersPlace x s payload r
  exact_place (Ok t) exact = exact
  exact_place (Err r) exact = inr exact

  -- what there is no place or no number for is the frame of a payload, whatever was read
  pub full_move : {T : Type 0} (r : Result T Refusal) → length (chunk_frame x payload) ≤ x.pages → IsExact r No Worn → IfErr r (λ e. e ≡ Full → IsMoveFull x)
  full_move (Ok t) fits exact = tt
  full_move (Err e) fits exact = λ same. (payload, fits, subst (λ f. IsWhy f No Worn) same exact)

  pub worn_move : {T : Type 0} (r : Result T Refusal) → length (chunk_frame x payload) ≤ x.pages → IsExact r No Worn → IfErr r (λ e. e ≡ WornOut → IsMoveWorn x s)
  worn_move (Ok t) fits exact = tt
  worn_move (Err e) fits exact = λ same. let why = subst (λ f. IsWhy f No Worn) same exact in (payload, fits, why.1)

-- a refused read is neither 30 nor 35
pub not_full : (r : Refusal) → IsReadRefusal r → r ≡ Full → ⊥
not_full r read is = elim (subst IsReadRefusal is read) [
  | inl none ↦ ⊎_elim (λ (e : Full ≡ DeviceFault). absurd (cc e)) (λ (e : Full ≡ OutOfMemory). absurd (cc e)) none
  | inr some ↦ ⊎_elim (λ (n : (20 ≤ number_of Full) × (number_of Full ≤ 24)). absurd (omega (arith, n.1))) (λ (e : Full ≡ Misplaced). absurd (cc e)) some
]

pub not_worn : (r : Refusal) → IsReadRefusal r → r ≡ WornOut → ⊥
not_worn r read is = elim (subst IsReadRefusal is read) [
  | inl none ↦ ⊎_elim (λ (e : WornOut ≡ DeviceFault). absurd (cc e)) (λ (e : WornOut ≡ OutOfMemory). absurd (cc e)) none
  | inr some ↦ ⊎_elim (λ (n : (20 ≤ number_of WornOut) × (number_of WornOut ≤ 24)). absurd (omega (arith, n.1))) (λ (e : WornOut ≡ Misplaced). absurd (cc e)) some
]

-- ---- what was moved

abbrev answer_of : {T E : Type 0} → Result (Option T) E → Option T
answer_of (Ok o) = o
answer_of (Err e) = None

pub first_here : (index : List Entry) (d e : ℕ) (live : LiveChunk) → d ≡ e → FirstLive index d (id_number live.id) live.chunk (place_of live.place) → FirstLive index e (id_number live.id) live.chunk (place_of live.place)
first_here index d e live is first = subst (λ (n : ℕ). FirstLive index n (id_number live.id) live.chunk (place_of live.place)) is first

pub same_answer : {T E : Type 0} (a b : T) → ◌≡◌ {A = Result (Option T) E} (Ok (Some a)) (Ok (Some b)) → a ≡ b
same_answer a b is = same_Some a b (ap answer_of is)

pub not_none : {T E : Type 0} (a : T) → ◌≡◌ {A = Result (Option T) E} (Ok (Some a)) (Ok None) → ⊥
not_none a is = absurd (let wrong : Some a ≡ None = ap answer_of is in cc)

module _ (s t : State) (x y : ExtentsState) (g h : GraphState) (e : ℕ) (live : LiveChunk) (Reads : Locator → List ℕ → Type 0) (first : FirstLive (index_of s) e (id_number live.id) live.chunk (place_of live.place)) where
  abbrev Found : Type 0
  Found = (payload : List ℕ) × (to : Locator) × IsAppendedBy false x g ForMove (chunk_frame x payload) to y h
      × IsSet s (id_number live.id) (replaced (live_at (index_of s) (id_number live.id)) live.chunk (place_of to)) t × (to.mark ≡ live.place.mark)
      × Reads live.place payload

  abbrev Made : ShardId × ℕ → Type 0
  Made p = (payload : List ℕ) × (move : IsMoved s x g e (id_number p.0) p.1 payload t y h) × Reads (as_locator move.from) payload

  pub move_made : Found → (id : ShardId) (chunk : ℕ) → ◌≡◌ {A = ShardId × ℕ} (live.id, live.chunk) (id, chunk) → Made (id, chunk)
  move_made found id chunk is = subst Made is (
    found.0,
    record { from = place_of live.place; to = found.1; first = first; appended = found.2; mark = found.4; entry = found.3 },
    found.5,
  )

-- what is done is no refusal of the device
pub done_cause : {T U : Type 0} (a b : ℕ) (read : Result U Refusal) (t : T) → IsCaused a b read → IsCaused {T = T} a b (Ok t)
done_cause a b read t caused = record { later = caused.later; failed = λ is. absurd (cc is) }

-- ---- how an append and a move are refused

-- an append is refused 30 exactly where there is no place, and 35 where there is one and a number would pass its
-- greatest
module _ (Placed : ℕ → Type 0) (Worn : Type 0) (has_place : Worn → (e : ℕ) × Placed e) where
  abbrev None_there : Type 0
  None_there = (e : ℕ) → Placed e → ⊥

  pub append_why : {T : Type 0} (r : Result T Refusal) (place : T → ℕ) → (r ≡ Err Full) ↔ None_there → (r ≡ Err WornOut) ↔ Worn
      → IfErr r (λ f. (f ≡ Full) ⊎ (f ≡ WornOut) ⊎ (f ≡ OutOfMemory)) → IfOk r (λ t. Placed (place t)) → IsExact r None_there Worn
  append_why (Ok t) place full worn refusals placed = ((λ none. none (place t) placed), (λ w. absurd (cc (worn.1 w))))
  append_why (Err f) place full worn refusals placed = ⊎_elim
      (λ (is : f ≡ Full). subst (λ g. IsWhy g None_there Worn) (sym is) (full.0 (ap Err is)))
      (λ (rest : (f ≡ WornOut) ⊎ (f ≡ OutOfMemory)). ⊎_elim
      (λ (is : f ≡ WornOut). let why = worn.0 (ap Err is) in let there = has_place why in subst (λ g. IsWhy g None_there Worn) (sym is) ((λ none. none there.0 there.1), why))
      (λ (is : f ≡ OutOfMemory). subst (λ g. IsWhy g None_there Worn) (sym is) tt)
      rest)
      refusals

-- the same, where what was given says where
pub append_why_of : {T : Type 0} (Placed : ℕ → Type 0) (Worn : Type 0) → (Worn → (e : ℕ) × Placed e) → (r : Result T Refusal) (place : T → ℕ) (Given : T → Type 0) → ((t : T) → Given t → Placed (place t))
    → (r ≡ Err Full) ↔ ((e : ℕ) → Placed e → ⊥) → (r ≡ Err WornOut) ↔ Worn → IfErr r (λ f. (f ≡ Full) ⊎ (f ≡ WornOut) ⊎ (f ≡ OutOfMemory)) → IfOk r Given → IsExact r ((e : ℕ) → Placed e → ⊥) Worn
append_why_of Placed Worn has_place (Ok t) place Given there full worn refusals given = append_why Placed Worn has_place (Ok t) place full worn refusals (there t given)
append_why_of Placed Worn has_place (Err f) place Given there full worn refusals given = append_why Placed Worn has_place (Err f) place full worn refusals tt

module _ (No Worn : Type 0) where
  why_refusal : (f : Refusal) → IsWhy f No Worn → (f ≡ Full) ⊎ (f ≡ WornOut) ⊎ (f ≡ OutOfMemory)
  why_refusal Full why = inl refl
  why_refusal WornOut why = inr (inl refl)
  why_refusal OutOfMemory why = inr (inr refl)
  why_refusal _ why = absurd why

  pub exact_answers : {T : Type 0} (r : Result T Refusal) (found : Option FormatFault) → found ≡ None → IsExact r No Worn → AnswersMove found r
  exact_answers (Ok t) found none exact = none
  exact_answers (Err f) found none exact = ⊎_elim
      (λ (is : f ≡ Full). inr (inr (none, inl is)))
      (λ (rest : (f ≡ WornOut) ⊎ (f ≡ OutOfMemory)). ⊎_elim
      (λ (is : f ≡ WornOut). inr (inr (none, inr is)))
      (λ (is : f ≡ OutOfMemory). inl (inr is))
      rest)
      (why_refusal f exact)

  pub exact_refusals : {T : Type 0} (r : Result T Refusal) → IsExact r No Worn → IfErr r (λ f. IsReadRefusal f ⊎ (f ≡ Full) ⊎ (f ≡ WornOut))
  exact_refusals (Ok t) exact = tt
  exact_refusals (Err f) exact = ⊎_elim
      (λ (is : f ≡ Full). inr (inl is))
      (λ (rest : (f ≡ WornOut) ⊎ (f ≡ OutOfMemory)). ⊎_elim (λ (is : f ≡ WornOut). inr (inr is)) (λ (is : f ≡ OutOfMemory). inl (inl (inr is))) rest)
      (why_refusal f exact)

  pub exact_cause : {T U : Type 0} (a b : ℕ) (read : Result U Refusal) (r : Result T Refusal) → IsCaused a b read → IsExact r No Worn → IsCaused a b r
  exact_cause a b read (Ok t) caused exact = done_cause a b read t caused
  exact_cause a b read (Err f) caused exact = record { later = caused.later; failed = λ is. absurd (subst (λ g. IsWhy g No Worn) (err_same f DeviceFault is) exact) }
    where
      err_of : {X Y : Type 0} → Y → Result X Y → Y
      err_of d (Ok x) = d
      err_of d (Err y) = y

      err_same : {X Y : Type 0} (f g : Y) → ◌≡◌ {A = Result X Y} (Err f) (Err g) → f ≡ g
      err_same f g is = ap (err_of f) is
