-- What is asked of each event: it has an answer. And what a frame and a run come to.
use Rattle.std.proofs.Common.{◌≡◌, ◌≢◌, ◌⊎◌, inl, inr, ⊎_elim, ℕ, zero, suc, ◌<◌, ◌≤◌, Bool, true, false, List, [], ◌∷◌, length, drop, Option, Some, None, refl, sym, ap, ap₂, ◌∙◌, subst, true≢false, arith}
use Rattle.std.proofs.lemmas.Bool.{cases_eq, cases_lt}
use Rattle.law_machine.proofs.Merging.{in_part, in_world}
pub use Rattle.law_machine.proofs.Merging.{none_live}
use Rattle.law_machine.proofs.Places.{goes_or_full}
use Rattle.law_machine.proofs.Needs.{append_there_by, append_one, after_extents_by}
use Rattle.law_machine.proofs.Counting.{lookup_here, ascending_lookup}
use Rattle.law_machine.proofs.Bounds.{if_live_some}
use Rattle.law_machine.proofs.Sorted.{sorted, sorted_live, one_sorted}
use Rattle.law_machine.proofs.FirstChunks.{first_entry, lookup_member}
use Rattle.law_machine.specs.Append.{AppendAll, AppendAllBy, AppendsFrame, AppendsFrameBy}
use Rattle.law_machine.specs.Device.{IsShape, Page, Shape}
use Rattle.law_machine.specs.Element.{Entry, Locator, Run}
use Rattle.law_machine.specs.Events.{Merged}
use Rattle.law_machine.specs.Extents.{Extents, Goes, Purpose}
use Rattle.law_machine.specs.Formats.{Formats, FrameKind, RunFrame}
use Rattle.law_machine.specs.Frames.{IsFormat}
use Rattle.law_machine.specs.Grounds.{First, NoMore, NoRoomForRun}
use Rattle.law_machine.specs.Index.{Ascending, FirstLive, IsMergedRun, IsTableRun, NothingLive, if_live, live, live_at, lookup}
use Rattle.law_machine.specs.Lists.{nth, ◌∈◌}
use Rattle.law_machine.specs.Machine.{World}
use Rattle.law_machine.specs.Merges.{IsRunOf, MergesPart, part}
use Rattle.law_machine.specs.Refusal.{Refusal}
use Rattle.law_machine.specs.State.{Event, Reply, State, index_now}
use Rattle.law_machine.specs.Step.{Step}

pub not_true : (b : Bool) → b ≡ false → b ≡ true → ⊥
not_true b is wrong = true≢false (sym wrong ∙ is)

module _ (S : Shape) (F : Formats) (shape : IsShape S) (format : IsFormat S F) where
  -- some reply, and the state after it
  abbrev pub Answers : State → Event → Type 0
  Answers s event = (reply : Reply) × (t : State) × Step S F s event reply t

  -- generations after frames
  pub all_generations_by : (apart : Bool) (w v : World) (purpose : Purpose) (frames : List (List Page)) (ls : List Locator)
      → AppendAllBy S apart w purpose frames ls v → v.extents.generation ≡ w.extents.generation
  all_generations_by apart w v purpose [] [] is = ap (λ (x : World). x.extents.generation) is
  all_generations_by apart w v purpose [] (l ∷ ls) is = absurd is
  all_generations_by apart w v purpose (bs ∷ frames) [] is = absurd is
  all_generations_by apart w v purpose (bs ∷ frames) (l ∷ ls) is =
      all_generations_by apart is.0 v purpose frames ls is.2
      ∙ ap (λ (x : Extents). x.generation) (after_extents_by S shape apart w is.0 purpose bs l is.1)

  pub all_generations : (w v : World) (purpose : Purpose) (frames : List (List Page)) (ls : List Locator)
      → AppendAll S w purpose frames ls v → v.extents.generation ≡ w.extents.generation
  all_generations w v purpose frames ls all = all_generations_by false w v purpose frames ls all

  pub frame_one : (apart : Bool) (s t u : State) (purpose : Purpose) (kind : FrameKind) (payload : List ℕ) (l k : Locator)
      → AppendsFrameBy S F apart s purpose kind payload l t → AppendsFrameBy S F apart s purpose kind payload k u
      → (l ≡ k) × (t ≡ u)
  frame_one apart s t u purpose kind payload l k a b =
      let one = append_one S apart s.world a.0 b.0 purpose (F.frame kind payload) l k a.1 b.1 in
      (one.0, a.2 ∙ ap (λ (v : World). record s { world = v }) one.1 ∙ sym b.2)

  pub frame_generations_by : (apart : Bool) (s t : State) (purpose : Purpose) (kind : FrameKind) (payload : List ℕ)
      (l : Locator) → AppendsFrameBy S F apart s purpose kind payload l t
      → t.world.extents.generation ≡ s.world.extents.generation
  frame_generations_by apart s t purpose kind payload l a = ap (λ (x : State). x.world.extents.generation) a.2
      ∙ ap (λ (x : Extents). x.generation) (after_extents_by S shape apart s.world a.0 purpose (F.frame kind payload) l a.1)

  pub frame_generations : (s t : State) (purpose : Purpose) (kind : FrameKind) (payload : List ℕ) (l : Locator)
      → AppendsFrame S F s purpose kind payload l t → t.world.extents.generation ≡ s.world.extents.generation
  frame_generations s t purpose kind payload l a = frame_generations_by false s t purpose kind payload l a

  -- a frame goes somewhere or nowhere
  pub frame_or_full : (apart : Bool) (s : State) (purpose : Purpose) (kind : FrameKind) (payload : List ℕ)
      → ((l : Locator) × (t : State) × AppendsFrameBy S F apart s purpose kind payload l t)
      ⊎ ((l : Locator) (t : State) → AppendsFrameBy S F apart s purpose kind payload l t → ⊥)
  frame_or_full apart s purpose kind payload = ⊎_elim
      (λ at. let one = append_there_by S apart s.world purpose (F.frame kind payload) at.0 at.1 in
      inl (one.0, record s { world = one.1 }, (one.1, one.2, refl)))
      (λ (full : (e : ℕ) → Goes S apart s.world.extents purpose (length (F.frame kind payload)) e → ⊥). inr
      (λ l t a. full a.1.extent a.1.placed))
      (goes_or_full S apart s.world.extents purpose (length (F.frame kind payload)))

  -- the run of the table
  pub table_one : (s : State) (xs ys : List Entry) → IsTableRun s.table xs → IsTableRun s.table ys → xs ≡ ys
  table_one s xs ys a b = one_sorted xs ys a.0 b.0 (λ id. a.1 id ∙ sym (b.1 id))

  run_one : (go : Bool) (index xs ys : List Entry) → IsRunOf go index xs → IsRunOf go index ys → xs ≡ ys
  run_one go index xs ys a b = one_sorted xs ys a.0 b.0 (λ id. a.1 id ∙ sym (b.1 id))

  live_some : (o : Option (List Locator)) (ls : List Locator) → Some ls ≡ if_live o → live o ≡ [] → ⊥
  live_some None ls is none = (let e : Some ls ≡ None = is in cc)
  live_some (Some []) ls is none = (let e : Some ls ≡ None = is in cc)
  live_some (Some (l ∷ ks)) ls is none = (let e : l ∷ ks ≡ [] = none in cc)

  -- a run of something and no run don't go together
  pub not_both : (s : State) (entries : List Entry) → entries ≢ [] → IsMergedRun (index_now s) entries
      → ((id : ℕ) → live_at (index_now s) id ≡ []) → ⊥
  not_both s [] some run none = some refl
  not_both s (x ∷ xs) some run none = live_some (lookup x.id (index_now s)) x.locators
      (sym (lookup_here x xs x.id refl) ∙ run.1 x.id) (none x.id)

  -- a part is merged in one way
  pub part_one : (apart : Bool) (s t u : State) (purpose : Purpose) (k : ℕ) (go : Bool) (xs ys : List Run)
      → MergesPart S F apart go s purpose k t xs → MergesPart S F apart go s purpose k u ys → (t ≡ u) × (xs ≡ ys)
  part_one apart s t u purpose k go xs ys (inl a) (inl b) =
      let entries : a.0 ≡ b.0 = run_one go (part s k) a.0 b.0 a.3 b.3 in
      let one = frame_one apart s t u purpose RunFrame (F.run b.0) a.1 b.1
      (subst (λ (es : List Entry). AppendsFrameBy S F apart s purpose RunFrame (F.run es) a.1 t) entries a.4) b.4 in (
        one.1,
        a.5 ∙ ap₂ (λ (l : Locator) (es : List Entry). record { place = l; entries = es } ∷ drop k s.runs) one.0 entries
            ∙ sym b.5,
      )
  part_one apart s t u purpose k go xs ys (inl a) (inr b) = absurd (a.2 (run_one go (part s k) a.0 [] a.3 b.0))
  part_one apart s t u purpose k go xs ys (inr a) (inl b) = absurd (b.2 (run_one go (part s k) b.0 [] b.3 a.0))
  part_one apart s t u purpose k go xs ys (inr a) (inr b) = (a.1 ∙ sym b.1, a.2 ∙ sym b.2)

  pub merged_one : (s t u : State) (purpose : Purpose) (xs ys : List Run) → Merged S F s purpose t xs
      → Merged S F s purpose u ys → (t ≡ u) × (xs ≡ ys)
  merged_one s t u purpose xs ys a b = part_one false s t u purpose (length s.runs) true xs ys
      (in_part S F s t purpose xs a) (in_part S F s u purpose ys b)

  -- the run of a part
  run_there : (go : Bool) (index : List Entry) → (ws : List Entry) × IsRunOf go index ws
  run_there true index = let all = sorted_live index in (all.0, (all.1, all.2))
  run_there false index = let all = sorted index in (all.0, (all.1, all.2))

  -- a part is merged, or its run goes nowhere
  pub part_or_full : (apart : Bool) (s : State) (purpose : Purpose) (k : ℕ) (go : Bool)
      → ((t : State) × (runs : List Run) × MergesPart S F apart go s purpose k t runs)
      ⊎ ((t : State) (runs : List Run) → MergesPart S F apart go s purpose k t runs → ⊥)
  part_or_full apart s purpose k go = let all = run_there go (part s k) in by_entries all.0 all.1
    where
      by_entries : (ws : List Entry) → IsRunOf go (part s k) ws
          → ((t : State) × (runs : List Run) × MergesPart S F apart go s purpose k t runs)
          ⊎ ((t : State) (runs : List Run) → MergesPart S F apart go s purpose k t runs → ⊥)
      by_entries [] run = inl (s, drop k s.runs, inr (run, refl, refl))
      by_entries (w ∷ ws) run = ⊎_elim
          (λ one. inl (
            one.1,
            record { place = one.0; entries = w ∷ ws } ∷ drop k s.runs,
            inl (w ∷ ws, one.0, (λ none. let e : w ∷ ws ≡ [] = none in cc), run, one.2, refl),
          ))
          (λ (full : (l : Locator) (t : State) → AppendsFrameBy S F apart s purpose RunFrame (F.run (w ∷ ws)) l t → ⊥). inr
          (λ t runs m. ⊎_elim
          (λ some. full some.1 t
          (subst (λ (es : List Entry). AppendsFrameBy S F apart s purpose RunFrame (F.run es) some.1 t)
          (run_one go (part s k) some.0 (w ∷ ws) some.3 run) some.4))
          (λ none. let e : w ∷ ws ≡ [] = run_one go (part s k) (w ∷ ws) [] run none.0 in cc)
          m))
          (frame_or_full apart s purpose RunFrame (F.run (w ∷ ws)))

  pub merged_or_full : (s : State) (purpose : Purpose)
      → ((t : State) × (runs : List Run) × Merged S F s purpose t runs) ⊎ NoRoomForRun S F s purpose
  merged_or_full s purpose = ⊎_elim
      (λ one. inl (one.0, one.1, in_world S F s one.0 purpose one.1 one.2))
      (λ (full : (t : State) (runs : List Run) → MergesPart S F false true s purpose (length s.runs) t runs → ⊥). inr
      (λ t runs m. full t runs (in_part S F s t purpose runs m)))
      (part_or_full false s purpose (length s.runs) true)

  pub part_generations : (apart : Bool) (s t : State) (purpose : Purpose) (k : ℕ) (go : Bool) (runs : List Run)
      → MergesPart S F apart go s purpose k t runs → t.world.extents.generation ≡ s.world.extents.generation
  part_generations apart s t purpose k go runs (inl some) = frame_generations_by apart s t purpose RunFrame (F.run some.0) some.1 some.4
  part_generations apart s t purpose k go runs (inr none) = ap (λ (x : State). x.world.extents.generation) none.1

  pub merged_generations : (s t : State) (purpose : Purpose) (runs : List Run) → Merged S F s purpose t runs
      → t.world.extents.generation ≡ s.world.extents.generation
  merged_generations s t purpose runs m = part_generations false s t purpose (length s.runs) true runs
      (in_part S F s t purpose runs m)

  -- the first live chunk on an extent
  nth_live : (o : Option (List Locator)) (j : ℕ) (l : Locator) → nth (live o) j ≡ Some l → if_live o ≡ Some (live o)
  nth_live None j l at = absurd (let e : None ≡ Some l = at in cc)
  nth_live (Some []) j l at = absurd (let e : None ≡ Some l = at in cc)
  nth_live (Some (k ∷ ls)) j l at = refl

  nth_of : (ls : List Locator) (l : Locator) → l ∈ ls → (j : ℕ) × (nth ls j ≡ Some l)
  nth_of [] l none = absurd none
  nth_of (k ∷ ls) l (inl is) = (0, ap (λ (x : Locator). Some x) (sym is))
  nth_of (k ∷ ls) l (inr has) = let rest = nth_of ls l has in (suc rest.0, rest.1)

  pub of_nth : (ls : List Locator) (j : ℕ) (l : Locator) → nth ls j ≡ Some l → l ∈ ls
  of_nth [] j l at = absurd (let e : None ≡ Some l = at in cc)
  of_nth (k ∷ ls) zero l at = inl (let e : Some k ≡ Some l = at in cc)
  of_nth (k ∷ ls) (suc j) l at = inr (of_nth ls j l at)

  -- an identifier's live locators stand in the list of what is live
  listed_live : (s : State) (ws : List Entry) → ((id : ℕ) → lookup id ws ≡ if_live (lookup id (index_now s)))
      → (d j : ℕ) (l : Locator) → nth (live_at (index_now s) d) j ≡ Some l
      → (w : Entry) × (w ∈ ws) × (w.id ≡ d) × (w.locators ≡ live_at (index_now s) d)
  listed_live s ws same d j l at = lookup_member ws d (live_at (index_now s) d)
      (same d ∙ nth_live (lookup d (index_now s)) j l at)

  -- the first chunk that lives of which P holds, by identifier and chunk
  pub record Chosen (s : State) (P : ℕ → ℕ → Locator → Type 0) (id k : ℕ) (l : Locator) : Type 0 where
    pub there : nth (live_at (index_now s) id) k ≡ Some l
    pub chosen : P id k l
    pub first : (d j : ℕ) (x : Locator) → nth (live_at (index_now s) d) j ≡ Some x → P d j x
        → (id < d) ⊎ ((id ≡ d) × (k ≤ j))

  pub chosen_found : (s : State) (P : ℕ → ℕ → Locator → Type 0) → ((d j : ℕ) (x : Locator) → P d j x ⊎ (P d j x → ⊥))
      → ((id : ℕ) × (k : ℕ) × (l : Locator) × Chosen s P id k l)
      ⊎ ((d j : ℕ) (x : Locator) → nth (live_at (index_now s) d) j ≡ Some x → P d j x → ⊥)
  chosen_found s P decided = ⊎_elim
      (λ found.
      let x = found.0 in let k = found.1 in let l = found.2 in let fe = found.3 in
      let at : lookup x.id (index_now s) ≡ Some x.locators = if_live_some (lookup x.id (index_now s)) x.locators
      (sym (all.2 x.id) ∙ ascending_lookup all.0 x all.1 fe.among) in
      inl (
        x.id,
        k,
        l,
        record {
          there = ap (λ (o : Option (List Locator)). nth (live o) k) at ∙ fe.on.there;
          chosen = fe.on.chosen;
          first = λ d j y there is.
              let w = listed_live s all.0 all.2 d j y there in
              let is_there : P w.0.id j y = subst (λ (n : ℕ). P n j y) (sym w.2) is in
              elim (cases_lt w.0.id x.id) [
                | inl lt ↦ absurd (fe.first w.0 w.1 lt j y (ap (λ (ls : List Locator). nth ls j) w.3 ∙ there) is_there)
                | inr ge ↦ elim (cases_eq x.id d) [
                  | inl same ↦ inr (
                    same,
                    fe.on.first j y (ap (λ (o : Option (List Locator)). nth (live o) j) (sym at)
                        ∙ ap (λ (n : ℕ). nth (live_at (index_now s) n) j) same ∙ there)
                        (subst (λ (n : ℕ). P n j y) (sym same) is),
                  )
                  | inr not ↦ inl (let same : w.0.id ≡ d = w.2 in omega arith)
                ]
              ];
        },
      ))
      (λ (none : (y : Entry) → y ∈ all.0 → (j : ℕ) (z : Locator) → nth y.locators j ≡ Some z → P y.id j z → ⊥). inr
      (λ d j x there is.
      let w = listed_live s all.0 all.2 d j x there in
      none w.0 w.1 j x (ap (λ (ls : List Locator). nth ls j) w.3 ∙ there) (subst (λ (n : ℕ). P n j x) (sym w.2) is)))
      (first_entry P decided all.0 all.1)
    where
      all : (ws : List Entry) × Ascending ws × ((id : ℕ) → lookup id ws ≡ if_live (lookup id (index_now s)))
      all = sorted_live (index_now s)

  pub live_found : (s : State) (e : ℕ) → ((id : ℕ) × (k : ℕ) × (l : Locator) × FirstLive (index_now s) e id k l)
      ⊎ NothingLive (index_now s) e
  live_found s e = ⊎_elim
      (λ found. inl (
        found.0,
        found.1,
        found.2,
        record {
          there = found.3.there;
          on_it = found.3.chosen;
          first = found.3.first;
        },
      ))
      (λ (none : (d j : ℕ) (x : Locator) → nth (live_at (index_now s) d) j ≡ Some x → x.extent ≡ e → ⊥). inr
      (λ id l has. let at = nth_of (live_at (index_now s) id) l has in none id at.0 l at.1))
      (chosen_found s (λ d j x. x.extent ≡ e) (λ d j x. on_it x))
    where
      on_it : (x : Locator) → (x.extent ≡ e) ⊎ (x.extent ≢ e)
      on_it x = elim (cases_eq x.extent e) [
        | inl is ↦ inl is
        | inr not ↦ inr not
      ]

  pub first_one : (s : State) (e id d k j : ℕ) (l m : Locator) → FirstLive (index_now s) e id k l
      → FirstLive (index_now s) e d j m
      → (id ≡ d) × (k ≡ j) × (l ≡ m)
  first_one s e id d k j l m a b =
      let both = together (a.first d j m b.there b.on_it) (b.first id k l a.there a.on_it) in (
        both.0,
        both.1,
        (let same : Some l ≡ Some m = sym a.there
            ∙ ap₂ (λ (x n : ℕ). nth (live_at (index_now s) x) n) both.0 both.1 ∙ b.there in cc),
      )
    where
      together : ((id < d) ⊎ ((id ≡ d) × (k ≤ j))) → ((d < id) ⊎ ((d ≡ id) × (j ≤ k))) → (id ≡ d) × (k ≡ j)
      together (inl x) (inl y) = absurd (omega arith)
      together (inl x) (inr y) = absurd (let same : d ≡ id = y.0 in omega arith)
      together (inr x) (inl y) = absurd (let same : id ≡ d = x.0 in omega arith)
      together (inr x) (inr y) = (x.0, (let a_le : k ≤ j = x.1 in let b_le : j ≤ k = y.1 in omega arith))

  pub not_nothing : (s : State) (e id k : ℕ) (l : Locator) → FirstLive (index_now s) e id k l
      → NothingLive (index_now s) e → ⊥
  not_nothing s e id k l first none = none id l (of_nth (live_at (index_now s) id) k l first.there) first.on_it

-- no ground that comes first stands, and none that follows
pub clears : {Ground : Type 0} {Others : Refusal → Type 0} (r : Refusal) → (Ground → ⊥)
    → ((f : Refusal) → Others f → ⊥) → (f : Refusal) → First r Ground Others f → ⊥
clears r no_ground no_other f (inl x) = no_ground x.0
clears r no_ground no_other f (inr x) = no_other f x.1

pub ends : (f : Refusal) → NoMore f → ⊥
ends f none = none
