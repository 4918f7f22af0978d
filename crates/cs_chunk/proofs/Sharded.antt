-- The chunks of a shard, read one after another.
use Rattle.std.proofs.Common.{◌≡◌, ◌∙◌, ℕ, zero, suc, ◌+◌, ◌<◌, ◌≤◌, ◌⊎◌, List, [], ◌∷◌, ◌++◌, length, take, get_or, Some, slice_get, append-nil, append_assoc, refl, sym, ap, subst, inl, inr, ⊎_elim, arith, Result, Ok, Err, MatchResult, take_all}
use Rattle.std.proofs.lemmas.List.{take_more}
use Rattle.cs_chunk.specs.Chunks.{AreChunksIn, AreMeant, IsFrameIn, IsMeant}
use Rattle.cs_chunk.specs.Reads.{IsNoAnswer, IsOfChunkIn, IsOfFault, fault_in}
use Rattle.cs_chunk.proofs.Framed.{no_fault_there, one_frame}
use Rattle.cs_refusal.specs.declared.refusals.Refusal.{Refusal}
use Rattle.cs_extent.specs.State.{IsWhole, State, shape}
use Rattle.cs_frame.specs.declared.frames.FrameKind.TheVariants.{Chunk}
use Rattle.cs_frame.specs.declared.locators.Locator.{Locator}
use Rattle.cs_frame.specs.Formats.{formats_of}
use Rattle.law_machine.specs.Device.{Shape}
use Rattle.law_machine.specs.Formats.{ChunkFrame, Formats}
use Rattle.law_machine.specs.Index.{joined_bodies}

joined_more : (F : Formats) (cs : List (List ℕ)) (c : List ℕ) → joined_bodies F (cs ++ c ∷ []) ≡ joined_bodies F cs ++ F.body c
joined_more F [] c = append-nil (F.body c)
joined_more F (d ∷ cs) c = ap (λ (ys : List ℕ). F.body d ++ ys) (joined_more F cs c) ∙ sym (append_assoc (F.body d) (joined_bodies F cs) (F.body c))

chunks_more : (x : State) (view : ℕ → List ℕ) (ls : List Locator) (cs : List (List ℕ)) (l : Locator) (c : List ℕ) → AreChunksIn x view ls cs → IsFrameIn x view ChunkFrame l c → AreChunksIn x view (ls ++ l ∷ []) (cs ++ c ∷ [])
chunks_more x view [] [] l c are is = (is, tt)
chunks_more x view (k ∷ ls) (d ∷ cs) l c are is = (are.0, chunks_more x view ls cs l c are.1 is)
chunks_more x view [] (d ∷ cs) l c are is = absurd are
chunks_more x view (k ∷ ls) [] l c are is = absurd are

-- these bytes were read of the first k places
abbrev pub IsRead : State → (view : ℕ → List ℕ) → List Locator → ℕ → List ℕ → Type 0
IsRead x view ls k bytes = (cs : List (List ℕ)) × AreChunksIn x view (take k ls) cs × (bytes ≡ joined_bodies (formats_of (shape x)) cs)

pub one_more : (x : State) (view : ℕ → List ℕ) (ls : List Locator) (k : ℕ) (l : Locator) (bytes new chunk c : List ℕ) → k < length ls → l ≡ get_or ls k l → IsRead x view ls k bytes → IsFrameIn x view ChunkFrame l chunk → c ≡ (formats_of (shape x)).body chunk → new ≡ bytes ++ c → IsRead x view ls (k + 1) new
one_more x view ls k l bytes new chunk c lt at was is same pushed = (
  was.0 ++ chunk ∷ [],
  subst (λ ks. AreChunksIn x view ks (was.0 ++ chunk ∷ [])) (sym (take_more ls k l lt ∙ ap (λ (m : Locator). take k ls ++ m ∷ []) (sym at))) (chunks_more x view (take k ls) was.0 l chunk was.1 is),
  pushed ∙ ap (λ (ys : List ℕ). bytes ++ ys) same ∙ ap (λ (ys : List ℕ). ys ++ (formats_of (shape x)).body chunk) was.2 ∙ sym (joined_more (formats_of (shape x)) was.0 chunk),
)

pub all_read : (x : State) (view : ℕ → List ℕ) (ls : List Locator) (k : ℕ) (bytes : List ℕ) → length ls ≤ k → IsRead x view ls k bytes → (cs : List (List ℕ)) × AreChunksIn x view ls cs × (bytes ≡ joined_bodies (formats_of (shape x)) cs)
all_read x view ls k bytes le was = (was.0, subst (λ ks. AreChunksIn x view ks was.0) (take_all k ls le) was.1, was.2)

meant_more : (S : Shape) (ls : List Locator) (cs : List (List ℕ)) (l : Locator) (c : List ℕ) → AreMeant S ls cs → IsMeant S ChunkFrame l c → AreMeant S (ls ++ l ∷ []) (cs ++ c ∷ [])
meant_more S [] [] l c are is = (is, tt)
meant_more S (k ∷ ls) (d ∷ cs) l c are is = (are.0, meant_more S ls cs l c are.1 is)
meant_more S [] (d ∷ cs) l c are is = absurd are
meant_more S (k ∷ ls) [] l c are is = absurd are

-- these bytes are those of chunks that the first k places mean
abbrev pub IsMeantSoFar : Shape → List Locator → ℕ → List ℕ → Type 0
IsMeantSoFar S ls k bytes = (cs : List (List ℕ)) × AreMeant S (take k ls) cs × (bytes ≡ joined_bodies (formats_of S) cs)

pub one_meant_more : (S : Shape) (ls : List Locator) (k : ℕ) (l : Locator) (bytes new chunk c : List ℕ) → k < length ls → l ≡ get_or ls k l → IsMeantSoFar S ls k bytes → IsMeant S ChunkFrame l chunk → c ≡ (formats_of S).body chunk → new ≡ bytes ++ c → IsMeantSoFar S ls (k + 1) new
one_meant_more S ls k l bytes new chunk c lt at was is same pushed = (
  was.0 ++ chunk ∷ [],
  subst (λ ks. AreMeant S ks (was.0 ++ chunk ∷ [])) (sym (take_more ls k l lt ∙ ap (λ (m : Locator). take k ls ++ m ∷ []) (sym at))) (meant_more S (take k ls) was.0 l chunk was.1 is),
  pushed ∙ ap (λ (ys : List ℕ). bytes ++ ys) same ∙ ap (λ (ys : List ℕ). ys ++ (formats_of S).body chunk) was.2 ∙ sym (joined_more (formats_of S) was.0 chunk),
)

pub meant_all : (S : Shape) (ls : List Locator) (k : ℕ) (bytes : List ℕ) → length ls ≤ k → IsMeantSoFar S ls k bytes → (cs : List (List ℕ)) × AreMeant S ls cs × (bytes ≡ joined_bodies (formats_of S) cs)
meant_all S ls k bytes le was = (was.0, subst (λ ks. AreMeant S ks was.0) (take_all k ls le) was.1, was.2)

pub at_place : (ls : List Locator) (k : ℕ) (l : Locator) → k < length ls → l ≡ get_or ls k l → slice_get ls k ≡ Some l
at_place [] k l lt at = absurd (omega (arith, lt))
at_place (m ∷ ls) zero l lt at = ap (λ (n : Locator). Some n) (sym at)
at_place (m ∷ ls) (suc k) l lt at = at_place ls k l (omega (arith, lt)) at

-- the chunk at a place is refused
pub refused_at : (x : State) (view : ℕ → List ℕ) (ls : List Locator) (k : ℕ) (l : Locator) (bytes : List ℕ) (r : Refusal) → k < length ls → l ≡ get_or ls k l → IsRead x view ls k bytes → IsNoAnswer r ⊎ IsOfFault (fault_in x view Chunk l) r → IsOfChunkIn x view ls r
refused_at x view ls k l bytes r lt at was h = ⊎_elim
    (λ (n : IsNoAnswer r). inl n)
    (λ (f : IsOfFault (fault_in x view Chunk l) r). inr (k, l, was.0, at_place ls k l lt at, was.1, f))
    h

module _ (x : State) (whole : IsWhole x) (view : ℕ → List ℕ) where
  -- each place is there
  abbrev pub AreInside : List Locator → Type 0
  AreInside ls = (k : ℕ) (l : Locator) → slice_get ls k ≡ Some l → l.page < x.pages

  one_list : (ls : List Locator) (cs ds : List (List ℕ)) → AreInside ls → AreChunksIn x view ls cs → AreChunksIn x view ls ds → joined_bodies (formats_of (shape x)) cs ≡ joined_bodies (formats_of (shape x)) ds
  one_list [] [] [] inside a b = refl
  one_list (l ∷ ls) (c ∷ cs) (d ∷ ds) inside a b =
      ap (λ (ys : List ℕ). (formats_of (shape x)).body ys ++ joined_bodies (formats_of (shape x)) cs) (one_frame x whole view Chunk l (inside 0 l refl) c d a.0 b.0)
      ∙ ap (λ (ys : List ℕ). (formats_of (shape x)).body d ++ ys) (one_list ls cs ds (λ k m at. inside (suc k) m at) a.1 b.1)
  one_list [] (c ∷ cs) ds inside a b = absurd a
  one_list [] [] (d ∷ ds) inside a b = absurd b
  one_list (l ∷ ls) [] ds inside a b = absurd a
  one_list (l ∷ ls) (c ∷ cs) [] inside a b = absurd b

  pub chunk_at : (ls : List Locator) (cs : List (List ℕ)) (k : ℕ) (l : Locator) → slice_get ls k ≡ Some l → AreChunksIn x view ls cs → (c : List ℕ) × IsFrameIn x view ChunkFrame l c
  chunk_at [] cs k l at are = absurd (cc at)
  chunk_at (m ∷ ls) [] k l at are = absurd are
  chunk_at (m ∷ ls) (c ∷ cs) zero l at are = (c, subst (λ n. IsFrameIn x view ChunkFrame n c) (let s : m ≡ l = cc at in s) are.0)
  chunk_at (m ∷ ls) (c ∷ cs) (suc k) l at are = chunk_at ls cs k l at are.1

  -- what is there is read
  pub reads_all : {V : Type 0} (items : V → List ℕ) (result : Result V Refusal) (ls : List Locator) (cs : List (List ℕ)) → AreInside ls
      → MatchResult result (λ v. (ds : List (List ℕ)) × AreChunksIn x view ls ds × (items v ≡ joined_bodies (formats_of (shape x)) ds)) (IsOfChunkIn x view ls) → AreChunksIn x view ls cs → MatchResult result (λ v. items v ≡ joined_bodies (formats_of (shape x)) cs) IsNoAnswer
  reads_all items (Ok v) ls cs inside was are = was.2 ∙ one_list ls was.0 cs inside was.1 are
  reads_all items (Err r) ls cs inside was are = ⊎_elim
      (λ (n : IsNoAnswer r). n)
      (λ (f : (k : ℕ) × (l : Locator) × (ds : List (List ℕ)) × (slice_get ls k ≡ Some l) × AreChunksIn x view (take k ls) ds × IsOfFault (fault_in x view Chunk l) r).
      let there = chunk_at ls cs f.0 f.1 f.3 are in
      let none = no_fault_there x whole view Chunk f.1 (inside f.0 f.1 f.3) there.0 there.1 in
      absurd (cc (none, f.5.1)))
      was
