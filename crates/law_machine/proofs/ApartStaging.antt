-- Where chunks and runs lie apart: Stage keeps a state sound.
use Rattle.std.proofs.Common.{◌++◌, ◌≡◌, ◌≢◌, inl, inr, ℕ, suc, ◌<◌, ◌≤◌, Bool, true, false, List, [], ◌∷◌, length, drop, Option, Some, None, if◌then◌else◌, le_of_eq, le_trans, true≢false, refl, sym, ap, ◌∙◌, subst, arith, ◌+◌}
use Rattle.std.proofs.Math.Seq.{drop-length}
use Rattle.law_machine.proofs.Counting.{lookup_here}
use Rattle.law_machine.proofs.ApartResets.{freed_sound}
use Rattle.law_machine.proofs.Bounds.{not_first}
use Rattle.law_machine.proofs.Commands.{in_number, in_room, not_below}
use Rattle.law_machine.proofs.Marks.{remarked}
use Rattle.law_machine.proofs.Merging.{few_left, goes_all, merged_lookup, some_staged, part_few}
use Rattle.law_machine.proofs.Named.{named_live, named_or_none, named_run, unnamed_blank}
use Rattle.law_machine.proofs.Parts.{each}
use Rattle.law_machine.proofs.Roots.{rooted_under}
use Rattle.law_machine.proofs.Rules.{apart_rule}
use Rattle.law_machine.proofs.Stagings.{merged_gives}
use Rattle.law_machine.specs.Apart.{MergesApart, any_swept, named, rested, rooted_apart, MergesFor, is_none, takes}
use Rattle.law_machine.specs.Device.{IsShape, Shape}
use Rattle.law_machine.specs.Element.{Entry, Locator, Root, Run, roots_of}
use Rattle.law_machine.specs.Events.{Does, rooted}
use Rattle.law_machine.specs.Extents.{ForMerge, ForRun, Purpose}
use Rattle.law_machine.specs.Formats.{Formats}
use Rattle.law_machine.specs.Frames.{IsFormat, most_staged}
use Rattle.law_machine.specs.Grounds.{Refuses}
use Rattle.law_machine.specs.Index.{entries_of, if_live, live, live_at, lookup}
use Rattle.law_machine.specs.Lists.{◌∈◌}
use Rattle.law_machine.specs.Machine.{root_now}
use Rattle.law_machine.specs.Merges.{IsRunOf, MergesPart, deletions_go, stage_takes}
use Rattle.law_machine.specs.Refusal.{Full, Halted, Refusal, WornOut}
use Rattle.law_machine.specs.Sound.{Bounded, Sound}
use Rattle.law_machine.specs.State.{Stage, Staged, State, index_now, map_now}

live_kept : (go : Bool) (o : Option (List Locator)) → live (if go then if_live o else o) ≡ live o
live_kept false o = refl
live_kept true None = refl
live_kept true (Some []) = refl
live_kept true (Some (l ∷ ls)) = refl

-- what lives lives on after a merge
pub merged_live : (S : Shape) (F : Formats) (apart : Bool) (s t : State) (purpose : Purpose) (k : ℕ) (go : Bool) (runs : List Run)
    → (go ≡ true → drop k s.runs ≡ []) → MergesPart S F apart go s purpose k t runs → (id : ℕ)
    → live_at (entries_of runs) id ≡ live_at (index_now s) id
merged_live S F apart s t purpose k go runs all (inl m) id =
    ap (λ (rs : List Run). live_at (entries_of rs) id) m.5 ∙ ap live (merged_lookup s k go m.0 all m.3 id)
    ∙ live_kept go (lookup id (index_now s))
merged_live S F apart s t purpose k go runs all (inr m) id =
    ap (λ (rs : List Run). live_at (entries_of rs) id) m.2 ∙ ap live (merged_lookup s k go [] all m.0 id)
    ∙ live_kept go (lookup id (index_now s))

module _ (S : Shape) (F : Formats) (shape : IsShape S) (format : IsFormat S F) (on : S.apart ≡ true) where
  rested_sound : (s : State) → Sound S F s → Sound S F (rested S s)
  rested_sound s sound = remarked S F shape s
      (record s.world.extents { fresh = if any_swept S s then s.world.extents.fresh else None })
      (if any_swept S s then s.copies else []) sound refl (λ d is. is) sound.swept
      (λ now. record {
        found = (sound.apart on).found;
        one_sweep = (sound.apart on).one_sweep;
        copied = λ some c has. (sound.apart on).copied some c
            (subst (λ (b : Bool). c ∈ (if b then s.copies else [])) some has);
      })

  stage_sound : (s mid : State) (purpose : Purpose) (k : ℕ) (runs : List Run) → Sound S F s → Bounded S F s
      → suc mid.world.root ≤ S.greatest_number
      → ((j : ℕ) → j < S.sections → mid.world.superblocks j ≤ S.greatest_number)
      → mid.world.written ≤ S.greatest_number → MergesPart S F true (deletions_go S s k) s purpose k mid runs
      → length runs ≤ most_staged S
      → Sound S F (rooted_apart S F mid runs) × Bounded S F (rooted_apart S F mid runs)
  stage_sound s mid purpose k runs sound b room versions written m few =
      let pointers : ℕ → ℕ = named mid.world.extents.pointer runs in
      let plain = merged_gives S F shape format true (λ rule. on) s mid purpose k (deletions_go S s k) runs
      mid.world.extents.pointer sound b room versions written m (goes_all S s k) few
      (λ id l has. refl) (λ run has. refl) (λ stand run has id l there. refl) in
      let under = merged_gives S F shape format true (λ rule. on) s mid purpose k (deletions_go S s k) runs
      pointers sound b room versions written m (goes_all S s k) few
      (λ id l has. named_live mid.world.extents.pointer runs id l (subst (λ (ls : List Locator). l ∈ ls)
      (sym (merged_live S F true s mid purpose k (deletions_go S s k) runs (goes_all S s k) m id)) has))
      (named_run mid.world.extents.pointer runs)
      (λ stand run has id l there. absurd (true≢false (sym stand ∙ (shape.apart on).0))) in
      let staged : State = rested S (rooted S F mid runs pointers) in
      let root : Root = root_now S mid.world (mid.count + length mid.commands) runs (map_now mid) pointers in (
        freed_sound S F shape on staged
            (rested_sound (rooted S F mid runs pointers)
            (rooted_under S F shape format mid runs pointers plain.0 (named_or_none mid.world.extents.pointer runs) plain.2
            under.2 plain.3))
            (λ e is. each (λ (r : Root). suc mid.world.root ≤ r.version → r.pointers e ≡ 0) root
            (roots_of mid.world.elements)
            (λ ver. unnamed_blank S staged e mid.world.extents.pointer runs refl refl is)
            (λ r has ver. absurd (let old : r.version ≤ mid.world.root = (plain.0.safe.roots_below r has).0 in
            omega arith)))
            (root, inl refl, refl, λ e x has at. (plain.0.settled e).pages x has at),
        record { bounds = plain.3.2; runs_fit = plain.3.1; written_fits = written },
      )

  -- a root has no more runs than may be staged: where the table is empty those that it had
  few_runs : (s mid : State) (runs : List Run) → Bounded S F s → MergesFor S F s false mid runs → length runs ≤ most_staged S
  few_runs s mid runs b m = by_table s.table refl
    where
      none_there : (entries : List Entry) (go : Bool) → entries ≢ [] → IsRunOf go [] entries → ⊥
      none_there [] go some is = some refl
      none_there (x ∷ xs) true some is = let e : None ≡ Some x.locators = sym (is.1 x.id) ∙ lookup_here x xs x.id refl in cc
      none_there (x ∷ xs) false some is = let e : None ≡ Some x.locators = sym (is.1 x.id) ∙ lookup_here x xs x.id refl in cc

      kept : (go : Bool) → s.table ≡ [] → MergesPart S F true go s ForRun 0 mid runs → length runs ≤ most_staged S
      kept go none (inl n) = absurd (none_there n.0 go n.2
          (subst (λ (es : List Entry). IsRunOf go (es ++ []) n.0) none n.3))
      kept go none (inr n) = le_trans (le_of_eq (ap length n.2)) (le_trans b.bounds.few_runs (le_of_eq
          (sym (ap (λ (by_size : Bool). if by_size then S.most_runs else 4) (shape.apart on).1))))

      by_table : (es : List Entry) → s.table ≡ es → length runs ≤ most_staged S
      by_table [] is = kept (deletions_go S s 0) is
          (subst (λ (k : ℕ). MergesPart S F true (deletions_go S s k) s ForRun k mid runs)
          (ap (λ (es : List Entry). if is_none es then 0 else stage_takes S s) is) m)
      by_table (x ∷ xs) is = part_few S F true s mid ForRun (stage_takes S s) (most_staged S)
          (deletions_go S s (stage_takes S s)) runs
          (subst (λ (k : ℕ). MergesPart S F true (deletions_go S s k) s ForRun k mid runs)
          (ap (λ (es : List Entry). if is_none es then 0 else stage_takes S s) is) m) (few_left S s shape)

  -- of any number of newest runs, or of all
  pub stages_sound : (s mid : State) (runs : List Run) → Sound S F s → Bounded S F s
      → suc mid.world.root ≤ S.greatest_number
      → ((j : ℕ) → j < S.sections → mid.world.superblocks j ≤ S.greatest_number)
      → mid.world.written ≤ S.greatest_number → MergesApart S F s mid runs
      → Sound S F (rooted_apart S F mid runs) × Bounded S F (rooted_apart S F mid runs)
  stages_sound s mid runs sound b room versions written (inl m) =
      stage_sound s mid ForRun (takes S s) runs sound b room versions written m (few_runs s mid runs b m)
  stages_sound s mid runs sound b room versions written (inr m) =
      stage_sound s mid ForMerge (length s.runs) runs sound b room versions written m.1
      (part_few S F true s mid ForMerge (length s.runs) (most_staged S) (deletions_go S s (length s.runs)) runs m.1
      (le_trans (le_of_eq (ap (λ (rs : List Run). suc (length rs)) (drop-length s.runs))) (some_staged S shape)))

  pub keeps_stage_apart : (s t : State) (v : ℕ) → Sound S F s → Bounded S F s
      → ((f : Refusal) → Refuses S F s Stage f → ⊥) → Does S F s Stage (Staged v) t → Sound S F t × Bounded S F t
  keeps_stage_apart s t v sound b none d =
      let o = apart_rule _ _ S.apart on d in
      let worn = not_first WornOut (not_first Full (not_first Halted none).1).1 in
      let mid = o.2.0 in let runs = o.2.1 in let is = o.2.3 in
      let room : t.world.root ≤ S.greatest_number = not_below S F shape format _ _
      (λ lt. worn.0 (Staged v, t, d, inl (inr (inr (inl lt))))) in
      let done = stages_sound s mid runs sound b
      (le_trans (le_of_eq (sym (ap (λ (x : State). x.world.root) is))) room)
      (in_room S F shape format s t mid.world Stage (Staged v) worn.0 d
      (ap (λ (x : State). x.world.superblocks) (sym is)))
      (in_number S F shape format s t mid.world Stage (Staged v) worn.0 d
      (ap (λ (x : State). x.world.written) (sym is))) o.2.2 in (
        subst (λ (x : State). Sound S F x) (sym is) done.0,
        subst (λ (x : State). Bounded S F x) (sym is) done.1,
      )
