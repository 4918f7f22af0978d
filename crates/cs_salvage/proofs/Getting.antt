-- What a get answers.
use Rattle.std.proofs.Common.{◌≡◌, ◌≢◌, ◌∙◌, ◌⊎◌, inl, inr, ⊎_elim, ℕ, zero, suc, ◌<◌, List, [], ◌∷◌, Some, None, Option, Result, Ok, Err, IfErr, IfOk, OnOk, Vec, length, map, refl, sym, ap, subst, arith}
use Rattle.std.specs.Prelude.{◌↔◌, IfSome, slice_index_or}
use Rattle.std.specs.List.{AllByRecursion}
use Rattle.std.specs.declared.alloc.Global.{Global}
use Rattle.cs_chunk.specs.Chunks.{AreChunksIn, AreMeant}
use Rattle.cs_chunk.specs.Reads.{IsCaused, IsOfChunkIn, IsReadRefusal}
use Rattle.cs_refusal.specs.declared.refusals.Refusal.{Refusal}
use Rattle.cs_refusal.specs.declared.refusals.Refusal.TheVariants.{DeviceFault}
use Rattle.cs_disk.specs.Disk.{Rises}
use Rattle.cs_extent.specs.State.{IsWhole, State as ExtentsState, shape}
use Rattle.cs_frame.specs.declared.locators.Locator.{Locator}
use Rattle.cs_frame.specs.Formats.{as_locator, formats_of, place_of}
use Rattle.cs_reader.proofs.OneByOne.{place_inside}
use Rattle.cs_reader.specs.ImageReads.{IsLocated}
use Rattle.cs_index.specs.State.{index_of}
use Rattle.law_machine.specs.Element.{Locator as Place}
use Rattle.law_machine.specs.Index.{joined_bodies, live, live_at, lookup}
use Rattle.cs_reader.proofs.Lists.{there_and_back}
use Rattle.cs_salvage.specs.declared.rescues.RescueRefusal.{RescueRefusal}
use Rattle.cs_salvage.specs.declared.rescues.RescueRefusal.TheVariants.{Refused, RunLost}
use Rattle.cs_salvage.specs.Answers.{AreMeantBytes, AreReadBytes, IsAbsent, IsUnknown, IsWhyNoChunks, places_of}
use Rattle.cs_salvage.specs.Founds.{Found}

-- places that are located lie in the extents
pub all_inside : (x : ExtentsState) → IsWhole x → (ls : List Locator) → AllByRecursion (IsLocated x) ls → (k : ℕ) (d : Locator) → k < length ls → ((slice_index_or ls k d).extent < (shape x).extents) × ((slice_index_or ls k d).page < (shape x).pages)
all_inside x whole [] all k d lt = absurd (omega (arith, lt))
all_inside x whole (l ∷ ls) all zero d lt = place_inside x l whole all.0
all_inside x whole (l ∷ ls) all (suc k) d lt = all_inside x whole ls all.1 k d (omega (arith, lt))

-- of places that are located the refusal is that of the first that has no chunk
pub why_located : {T : Type 0} (x : ExtentsState) (view : ℕ → List ℕ) (ls : List Locator) → AllByRecursion (IsLocated x) ls → (result : Result T Refusal) → IfErr result (IsOfChunkIn x view ls) → IfErr result (IsWhyNoChunks x view ls)
why_located x view ls all (Ok bytes) why = tt
why_located x view ls all (Err r) why = inr (all, why)

-- an answer
abbrev pub Answer : Type 0
Answer = Result (Option (Vec ℕ Global)) RescueRefusal

-- ---- where nothing is told

-- that it isn't got is for no run alone
module _ (Lost : Type 0) where
  pub none_got : (u : Answer) → IfOk u (λ found. found ≡ None) → (P : Vec ℕ Global → Type 0) → IfOk u (λ found. IfSome found P)
  none_got (Ok found) none P = subst (λ (o : Option (Vec ℕ Global)). IfSome o P) (sym none) tt
  none_got (Err r) none P = tt

  pub none_why : (u : Answer) → IfErr u (λ r. (r ≡ RunLost) × Lost) → (P : Refusal → Type 0) → IfErr u (λ refused. (q : Refusal) → refused ≡ Refused q → P q)
  none_why (Ok found) lost P = tt
  none_why (Err r) lost P = λ q same. absurd (let e : RunLost ≡ Refused q = sym lost.0 ∙ same in cc e)

  pub none_refused : (u : Answer) → IfErr u (λ r. (r ≡ RunLost) × Lost) → IfErr u (λ refused. (refused ≡ RunLost) ⊎ ((q : Refusal) × (refused ≡ Refused q) × IsReadRefusal q))
  none_refused (Ok found) lost = tt
  none_refused (Err r) lost = inl lost.0

  pub none_caused : (u : Answer) → IfErr u (λ r. (r ≡ RunLost) × Lost) → (P : Type 0) → u ≡ Err (Refused DeviceFault) → P
  none_caused (Ok found) lost P e = absurd (cc e)
  none_caused (Err r) lost P e = absurd (let same : r ≡ Refused DeviceFault = cc e in let clash : RunLost ≡ Refused DeviceFault = sym lost.0 ∙ same in cc clash)

-- 1 has its cause
pub caused_at : {T : Type 0} (before now : ℕ) (result : Result T Refusal) (r : Refusal) (u v : Answer) → IsCaused before now result → result ≡ Err r → u ≡ Err (Refused r) → v ≡ Err (Refused DeviceFault) → u ≡ v → Rises before now
caused_at before now result r u v caused is one other same =
    let both : Err (Refused r) ≡ Err (Refused DeviceFault) = sym one ∙ same ∙ other in
    let device : r ≡ DeviceFault = cc both in
    caused.failed (is ∙ ap Err device)

module _ (f : Found) (id : ℕ) where
  -- no run names the identifier that was read
  module _ (named : None ≡ lookup id (index_of f.index)) (u : Answer) where
    pub none_absent : OnOk u (f.damaged ≡ None) → IfOk u (λ found. found ≡ None) → IfErr u (λ r. (r ≡ RunLost) × (f.damaged ≢ None)) → (u ≡ Ok None) ↔ IsAbsent f id
    none_absent whole none lost = go u whole none lost
      where
        go : (u : Answer) → OnOk u (f.damaged ≡ None) → IfOk u (λ found. found ≡ None) → IfErr u (λ r. (r ≡ RunLost) × (f.damaged ≢ None)) → (u ≡ Ok None) ↔ IsAbsent f id
        go (Ok found) whole none lost = ((λ e. inr (sym named, whole)), (λ e. ap Ok none))
        go (Err r) whole none lost = (
          λ e. absurd (cc e),
          λ absent. ⊎_elim
              (λ (deleted : lookup id (index_of f.index) ≡ Some []). absurd (let e : None ≡ Some [] = named ∙ deleted in cc e))
              (λ (both : (lookup id (index_of f.index) ≡ None) × (f.damaged ≡ None)). absurd (lost.1 both.1))
              absent,
        )

    pub none_unknown : OnOk u (f.damaged ≡ None) → IfErr u (λ r. (r ≡ RunLost) × (f.damaged ≢ None)) → (u ≡ Err RunLost) ↔ IsUnknown f id
    none_unknown whole lost = go u whole lost
      where
        go : (u : Answer) → OnOk u (f.damaged ≡ None) → IfErr u (λ r. (r ≡ RunLost) × (f.damaged ≢ None)) → (u ≡ Err RunLost) ↔ IsUnknown f id
        go (Ok found) whole lost = ((λ e. absurd (cc e)), (λ unknown. absurd (unknown.1 whole)))
        go (Err r) whole lost = ((λ e. (sym named, lost.1)), (λ unknown. ap Err lost.0))

    pub none_live : live_at (index_of f.index) id ≢ [] → ⊥
    none_live some = some (ap live (sym named))

  -- it is named with these places
  module _ (ls : List Locator) (named : Some (map place_of ls) ≡ lookup id (index_of f.index)) where
    pub spots : places_of f id ≡ ls
    spots = ap (λ (o : Option (List Place)). map as_locator (live o)) (sym named) ∙ there_and_back ls

    -- none of them: it is deleted
    pub deleted_absent : map place_of ls ≡ [] → IsAbsent f id
    deleted_absent none = inl (sym named ∙ ap Some none)

    pub named_known : IsUnknown f id → ⊥
    named_known unknown = let e : Some (map place_of ls) ≡ None = named ∙ unknown.0 in cc e

    pub deleted_live : map place_of ls ≡ [] → live_at (index_of f.index) id ≢ [] → ⊥
    deleted_live none some = some (ap live (sym named) ∙ none)

    -- some
    pub named_there : ls ≢ [] → IsAbsent f id → ⊥
    named_there some absent = ⊎_elim
        (λ (deleted : lookup id (index_of f.index) ≡ Some []). no_places ls some (let e : Some (map place_of ls) ≡ Some [] = named ∙ deleted in cc e))
        (λ (both : (lookup id (index_of f.index) ≡ None) × (f.damaged ≡ None)). let e : Some (map place_of ls) ≡ None = named ∙ both.0 in cc e)
        absent
      where
        no_places : (ks : List Locator) → ks ≢ [] → map place_of ks ≡ [] → ⊥
        no_places [] some none = some refl
        no_places (k ∷ ks) some none = cc none

    pub meant_at : (bytes : List ℕ) → (cs : List (List ℕ)) × AreMeant (shape f.extents) ls cs × (bytes ≡ joined_bodies (formats_of (shape f.extents)) cs) → AreMeantBytes f id bytes
    meant_at bytes meant = (meant.0, subst (λ (ks : List Locator). AreMeant (shape f.extents) ks meant.0) (sym spots) meant.1, meant.2)

    pub read_at : (view : ℕ → List ℕ) (bytes : List ℕ) → (cs : List (List ℕ)) × AreChunksIn f.extents view ls cs × (bytes ≡ joined_bodies (formats_of (shape f.extents)) cs) → AreReadBytes f view id bytes
    read_at view bytes read = (read.0, subst (λ (ks : List Locator). AreChunksIn f.extents view ks read.0) (sym spots) read.1, read.2)

    pub why_at : (view : ℕ → List ℕ) (r : Refusal) → IsWhyNoChunks f.extents view ls r → (q : Refusal) → Refused r ≡ Refused q → IsWhyNoChunks f.extents view (places_of f id) q
    why_at view r why q same =
        let e : r ≡ q = cc same in
        subst (λ (s : Refusal). IsWhyNoChunks f.extents view (places_of f id) s) e (subst (λ (ks : List Locator). IsWhyNoChunks f.extents view ks r) (sym spots) why)

    -- what is said of chunks at these places is said of those that it has
    pub read_on : (view : ℕ → List ℕ) (cs : List (List ℕ)) (P : Type 0) → (AllByRecursion (IsLocated f.extents) ls → AreChunksIn f.extents view ls cs → P)
        → AllByRecursion (IsLocated f.extents) (places_of f id) → AreChunksIn f.extents view (places_of f id) cs → P
    read_on view cs P said located there = said
        (subst (λ (ks : List Locator). AllByRecursion (IsLocated f.extents) ks) spots located)
        (subst (λ (ks : List Locator). AreChunksIn f.extents view ks cs) spots there)
