-- An extent of the machine is empty, and one run of all goes there.
use Rattle.std.proofs.Common.{◌≡◌, ◌≢◌, ◌⊎◌, inl, inr, ⊎_elim, ℕ, zero, suc, ◌+◌, ◌<◌, ◌≤◌, ◌==◌, not, nat_le, Bool, true, false, List, [], ◌∷◌, length, drop, Option, Some, None, if◌then◌else◌, refl, sym, ap, ◌∙◌, subst, arith}
use Rattle.std.proofs.lemmas.Bool.{cases_Bool, cases_eq, cases_lt, true≢false}
use Rattle.std.proofs.lemmas.Bool.Decides.{nat_tests}
use Rattle.law_machine.proofs.Bounds.{run_list}
use Rattle.law_machine.proofs.Carries.{and_right}
use Rattle.law_machine.proofs.Merging.{part_all}
use Rattle.law_machine.proofs.Needs.{append_there_by}
use Rattle.law_machine.proofs.Sorted.{sorted_live}
use Rattle.law_machine.specs.Apart.{MergesFor, StagesApart, any_swept, rooted_apart}
use Rattle.law_machine.specs.Device.{IsShape, Shape}
use Rattle.law_machine.specs.Element.{Entry, Locator, Run}
use Rattle.law_machine.specs.Events.{newest_page}
use Rattle.law_machine.specs.Extents.{Extents, ForMerge, IsFirstEmpty}
use Rattle.law_machine.specs.Formats.{Formats, RunFrame}
use Rattle.law_machine.specs.Frames.{IsFormat}
use Rattle.law_machine.specs.Index.{AllPass, Ascending, IsRunList, if_live, lookup}
use Rattle.law_machine.specs.Merges.{IsRunOf, deletions_go, part}
use Rattle.law_machine.specs.Sound.{Bounded, Sound}
use Rattle.law_machine.specs.State.{State, index_now}
use Rattle.law_room.proofs.Counts.{count_le, count_more, empty_there}
use Rattle.law_room.proofs.MachineGoes.{not_aside, runs_there}
use Rattle.law_room.proofs.MachineIds.{at_some}
use Rattle.law_room.proofs.MachineSweeps.{none_aside}
use Rattle.law_room.proofs.Places.{opened_at_most}
use Rattle.law_room.specs.OfMachine.{HasRoomNow, IsFilled, IsSweepOf, RunsFit, holding, is_aside}
use Rattle.law_room.specs.Rooms.{Empty, Holding, OfChunks, OfRuns, Room, Sweep, chunk_extents, how_many, is_of_chunks, is_of_runs, opened_by, run_extents}

pub first_below : (f : ℕ → ℕ) (n : ℕ) → ((d : ℕ) × (d < n) × (f d ≡ 0) × ((c : ℕ) → c < d → 0 < f c))
    ⊎ ((c : ℕ) → c < n → 0 < f c)
first_below f zero = inr (λ c lt. absurd (omega arith))
first_below f (suc n) = ⊎_elim
    (λ (found : (d : ℕ) × (d < n) × (f d ≡ 0) × ((c : ℕ) → c < d → 0 < f c)).
    inl (found.0, (let lt : found.0 < n = found.1 in omega arith), found.2, found.3))
    (λ (none : (c : ℕ) → c < n → 0 < f c). ⊎_elim
    (λ (some : 0 < f n). inr (λ c lt. elim (cases_eq c n) [
      | inl same ↦ (let at : f c ≡ f n = ap f same in omega arith)
      | inr other ↦ none c (omega arith)
    ]))
    (λ (le : f n ≤ 0). inl (n, omega arith, omega arith, none)) (cases_lt 0 (f n))) (first_below f n)

pub empty_pointer : (x : Extents) (e : ℕ) → holding x e ≡ Empty → x.pointer e ≡ 0
empty_pointer x e is = go (x.pointer e == 0) (x.of_runs e) refl is
  where
    go : (a b : Bool) → (x.pointer e == 0) ≡ a → (if a then Empty else if b then OfRuns else OfChunks) ≡ Empty → x.pointer e ≡ 0
    go true b at is = grind (arith, nat_tests)
    go false true at wrong = absurd (true≢false (ap is_of_runs wrong))
    go false false at wrong = absurd (true≢false (ap is_of_chunks wrong))

module _ (S : Shape) (F : Formats) (shape : IsShape S) (format : IsFormat S F) (apart : S.apart ≡ true) where
  kinds_there : (s : State) (r : Room) → HasRoomNow S F s r → (f : Holding → Bool) (e : ℕ) → e < S.extents
      → f (holding s.world.extents e) ≡ true → is_aside S s e ≡ false → f (r.holds e) ≡ true
  kinds_there s r has f e lt on off =
      ap f (has.room.extents.holds e lt ∙ not_aside (is_aside S s e) Empty (holding s.world.extents e) off) ∙ on

  -- what is set aside holds chunks
  aside_filled : (s : State) (r : Room) → HasRoomNow S F s r → (e : ℕ) → is_aside S s e ≡ true
      → (s.world.extents.fresh ≡ Some e) × IsFilled S s.world.extents e
  aside_filled s r has e on =
      let fresh : s.world.extents.fresh ≡ Some e = at_some s.world.extents.fresh e (and_right (not (any_swept S s)) _ on) in
      (fresh, has.room.extents.noted.opened e fresh)

  runs_kept : (s : State) (r : Room) → HasRoomNow S F s r
      → how_many (λ e. is_of_runs (holding s.world.extents e)) S.extents ≤ run_extents r S.extents
  runs_kept s r has = count_le (λ e. is_of_runs (holding s.world.extents e)) (λ e. is_of_runs (r.holds e)) S.extents
      (λ e lt on. kinds_there s r has is_of_runs e lt on (elim (cases_Bool (is_aside S s e)) [
        | inl aside ↦ absurd (true≢false (sym (runs_there s.world.extents e on).1 ∙ (aside_filled s r has e aside).1.2))
        | inr off ↦ off
      ]))

  abbrev fresh_or : Option ℕ → ℕ
  fresh_or None = 0
  fresh_or (Some e) = e

  fresh_is : (o : Option ℕ) (e : ℕ) → o ≡ Some e → e ≡ fresh_or o
  fresh_is None e wrong = absurd (let no : None ≡ Some e = wrong in cc)
  fresh_is (Some d) e is = (let same : d ≡ e = cc in sym same)

  chunks_kept : (s : State) (r : Room) → HasRoomNow S F s r
      → how_many (λ e. is_of_chunks (holding s.world.extents e)) S.extents ≤ suc (chunk_extents r S.extents)
  chunks_kept s r has = count_more (λ e. is_of_chunks (holding s.world.extents e)) (λ e. is_of_chunks (r.holds e))
      (fresh_or s.world.extents.fresh) S.extents (λ e lt on. elim (cases_Bool (is_aside S s e)) [
        | inl aside ↦ inr (fresh_is s.world.extents.fresh e (aside_filled s r has e aside).0)
        | inr off ↦ inl (kinds_there s r has is_of_chunks e lt on off)
      ])

  few_extents : (s : State) (r : Room) → HasRoomNow S F s r → (o : Option Sweep) → r.sweep ≡ o → IsSweepOf S s o
      → how_many (λ e. is_of_chunks (holding s.world.extents e)) S.extents
      + how_many (λ e. is_of_runs (holding s.world.extents e)) S.extents < S.extents
  few_extents s r has None is none =
      let runs = runs_kept s r has in
      let chunks = chunks_kept s r has in
      let most : run_extents r S.extents ≤ S.run_extents = has.keeps.quotas.runs in
      let quota : chunk_extents r S.extents + S.run_extents + 2 ≤ S.extents + 0 =
      subst (λ (x : Option Sweep). chunk_extents r S.extents + S.run_extents + 2 ≤ S.extents + opened_by x) is
      has.keeps.quotas.chunks in omega (arith, runs, chunks, most, quota)
  few_extents s r has (Some w) is some =
      let runs = runs_kept s r has in
      let chunks : how_many (λ e. is_of_chunks (holding s.world.extents e)) S.extents ≤ chunk_extents r S.extents =
      count_le (λ e. is_of_chunks (holding s.world.extents e)) (λ e. is_of_chunks (r.holds e)) S.extents
      (λ e lt on. kinds_there s r has is_of_chunks e lt on (none_aside S s some.0 e)) in
      let most : run_extents r S.extents ≤ S.run_extents = has.keeps.quotas.runs in
      let one : opened_by r.sweep ≤ 1 = opened_at_most S S.run_extents r.sweep in
      let quota : chunk_extents r S.extents + S.run_extents + 2 ≤ S.extents + opened_by r.sweep =
      has.keeps.quotas.chunks in omega (arith, runs, chunks, most, quota, one)

  -- where room has an empty extent the machine has one that isn't set aside
  pub machine_empty : (s : State) (r : Room) → HasRoomNow S F s r → (e : ℕ) × IsFirstEmpty S s.world.extents e
  machine_empty s r has =
      let empty = empty_there (holding s.world.extents) S.extents (few_extents s r has r.sweep refl has.room.sweep) in
      ⊎_elim
      (λ (found : (d : ℕ) × (d < S.extents) × (s.world.extents.pointer d ≡ 0)
      × ((c : ℕ) → c < d → 0 < s.world.extents.pointer c)). (found.0, (found.1, found.2, found.3)))
      (λ (none : (c : ℕ) → c < S.extents → 0 < s.world.extents.pointer c). absurd
      (let some : 0 < s.world.extents.pointer empty.0 = none empty.0 empty.1 in
      let nothing : s.world.extents.pointer empty.0 ≡ 0 = empty_pointer s.world.extents empty.0 empty.2 in omega arith))
      (first_below s.world.extents.pointer S.extents)

  live_some : (o : Option (List Locator)) (ls : List Locator) → if_live o ≡ Some ls → o ≡ Some ls
  live_some None ls wrong = absurd (let no : None ≡ Some ls = wrong in cc)
  live_some (Some []) ls wrong = absurd (let no : None ≡ Some ls = wrong in cc)
  live_some (Some (l ∷ ks)) ls is = is

  they_all_go : (s : State) → deletions_go S s (length s.runs) ≡ true
  they_all_go s = let test : nat_le (length s.runs) (length s.runs) ≡ true = grind (arith, nat_tests) in
      rw (test, (shape.apart apart).1) refl

  -- one run of all goes onto an empty extent
  pub merges_all : (s : State) (e : ℕ) → Sound S F s → Bounded S F s → RunsFit S F → IsFirstEmpty S s.world.extents e
      → ((t : State) (runs : List Run) → MergesFor S F s true t runs → ⊥) → ⊥
  merges_all s e sound b fit empty none = by_entries all.0 all.1 all.2
    where
      all : (ws : List Entry) × Ascending ws × ((id : ℕ) → lookup id ws ≡ if_live (lookup id (index_now s)))
      all = sorted_live (index_now s)

      run_of : (ws : List Entry) → Ascending ws → ((id : ℕ) → lookup id ws ≡ if_live (lookup id (index_now s)))
          → IsRunOf (deletions_go S s (length s.runs)) (part s (length s.runs)) ws
      run_of ws order lookups = subst (λ (go : Bool). IsRunOf go (part s (length s.runs)) ws) (sym (they_all_go s))
          (subst (λ (es : List Entry). IsRunOf true es ws) (sym (part_all s)) (order, lookups))

      passes : (o : Option (List Locator)) (id : ℕ) → o ≡ if_live (lookup id (index_now s))
          → AllPass S F (newest_page s) s.world.extents.pointer s.world.extents.generation o
      passes None id is = tt
      passes (Some ls) id is = subst
          (λ (o : Option (List Locator)). AllPass S F (newest_page s) s.world.extents.pointer s.world.extents.generation o)
          (live_some (lookup id (index_now s)) ls (sym is)) (sound.gives.visible_pass id)

      by_entries : (ws : List Entry) → Ascending ws → ((id : ℕ) → lookup id ws ≡ if_live (lookup id (index_now s))) → ⊥
      by_entries [] order lookups = none s (drop (length s.runs) s.runs) (inr (run_of [] order lookups, refl, refl))
      by_entries (w ∷ ws) order lookups =
          let some : w ∷ ws ≢ [] = (λ wrong. let no : w ∷ ws ≡ [] = wrong in cc) in
          let list : IsRunList S (w ∷ ws) = run_list S F shape format s s.world.root (s.count + length s.commands) (length s.runs)
          (index_now s) (w ∷ ws) (newest_page s) s.world.extents.pointer sound b.bounds some order
          (λ id ls is. live_some (lookup id (index_now s)) ls (sym (lookups id) ∙ is))
          (λ id. passes (lookup id (w ∷ ws)) id (lookups id)) in
          let one = append_there_by S true s.world ForMerge (F.frame RunFrame (F.run (w ∷ ws))) e
          (inr (inr ((λ d wrong. wrong), empty, fit (w ∷ ws) list, tt))) in
          none (record s { world = one.1 }) (record { place = one.0; entries = w ∷ ws } ∷ drop (length s.runs) s.runs)
          (inl (w ∷ ws, one.0, some, run_of (w ∷ ws) order lookups, (one.1, one.2, refl), refl))

  -- so a root can be staged
  pub stages_there : (s : State) (e : ℕ) → Sound S F s → Bounded S F s → RunsFit S F → IsFirstEmpty S s.world.extents e
      → ((t : State) → StagesApart S F s t → ⊥) → ⊥
  stages_there s e sound b fit empty none = merges_all s e sound b fit empty
      (λ t runs m. none (rooted_apart S F t runs) (
        t,
        runs,
        inr (
          (λ u others n. none (rooted_apart S F u others)
              (u, others, inl n, refl)),
          m,
        ),
        refl,
      ))
