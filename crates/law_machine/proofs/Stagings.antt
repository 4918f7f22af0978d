-- Stage and Retire keep a state sound.
use Rattle.std.proofs.Common.{◌≡◌, ◌≢◌, inl, inr, ℕ, suc, ◌<◌, ◌≤◌, Bool, true, List, [], ◌∷◌, ◌++◌, length, take, drop, Option, Some, None, le_of_eq, le_trans, refl, sym, ap, ap₂, ◌∙◌, subst, false}
use Rattle.std.proofs.Math.Seq.{drop-length}
use Rattle.law_machine.proofs.Rules.{before_rule, rule_before}
use Rattle.law_machine.proofs.Merging.{few_left, goes_all, in_drop, in_part, index_cut, merged_lookup, some_staged, part_few}
use Rattle.law_machine.specs.Device.{IsShape, Shape}
use Rattle.law_machine.specs.Disk.{written}
use Rattle.law_machine.specs.Element.{Entry, Locator, Run}
use Rattle.law_machine.specs.Events.{Does, newest_page, rooted}
use Rattle.law_machine.specs.Extents.{ForMove, ForRun, Purpose}
use Rattle.law_machine.specs.Formats.{Formats, RunFrame}
use Rattle.law_machine.specs.Frames.{IsFormat, most_staged}
use Rattle.law_machine.specs.Grounds.{Refuses, WouldPass}
use Rattle.law_machine.specs.Index.{AllPass, Gives, Reads, entries_of, live, live_at, lookup}
use Rattle.law_machine.specs.Lists.{with, ◌∈◌}
use Rattle.law_machine.specs.Merges.{IsRunOf, MergesPart, deletions_go, part, stage_takes}
use Rattle.law_machine.specs.Refusal.{Full, Halted, NotSweepable, Refusal, StillLive, WornOut}
use Rattle.law_machine.specs.Sound.{Bounded, Sound}
use Rattle.law_machine.specs.State.{Retire, Retired, Stage, Staged, State, index_now, map_now}
use Rattle.law_machine.proofs.Bounds.{not_first, lookup_front, part_fits, rest_fits, bounded_same}
use Rattle.law_machine.proofs.Parts.{each, with_same, with_other, not_apart}
use Rattle.law_machine.proofs.Gives.{front_passes, gives_kept, kept_pass, pass_under, reads_under}
use Rattle.law_machine.proofs.Frames.{added, away}
use Rattle.law_machine.proofs.Roots.{RootFits, rooted_sound}
use Rattle.law_machine.proofs.Resets.{reset_sound}
use Rattle.law_machine.proofs.Commands.{both, same_index, in_room, in_number, not_below}

module _ (S : Shape) (F : Formats) (shape : IsShape S) (format : IsFormat S F) where
  -- the merged run's own entries pass
  front_of : (s : State) (k : ℕ) (go : Bool) (entries : List Entry) (q : ℕ → ℕ) → Sound S F s
      → IsRunOf go (part s k) entries
      → ((id : ℕ) (l : Locator) → l ∈ live_at (index_now s) id → q l.extent ≡ s.world.extents.pointer l.extent)
      → (id : ℕ) → AllPass S F (newest_page s) q s.world.extents.generation (lookup id entries)
  front_of s k go entries q sound run agree id =
      subst (λ (o : Option (List Locator)). AllPass S F (newest_page s) q s.world.extents.generation o) (sym (run.1 id))
      (kept_pass S F go _ _ _ _ (lookup id (part s k))
      (λ l has. agree id l (in_front id l has))
      (front_passes S F _ _ _ id (part s k) (entries_of (drop k s.runs))
      (subst (λ (es : List Entry). AllPass S F (newest_page s) s.world.extents.pointer s.world.extents.generation
      (lookup id es)) (index_cut s k) (sound.gives.visible_pass id))))
    where
      in_front : (id : ℕ) (l : Locator) → l ∈ live (lookup id (part s k)) → l ∈ live_at (index_now s) id
      in_front id l has = subst (λ (es : List Entry). l ∈ live (lookup id es)) (sym (index_cut s k))
          (of_front (lookup id (part s k)) refl has)
        where
          of_front : (o : Option (List Locator)) → lookup id (part s k) ≡ o → l ∈ live o
              → l ∈ live (lookup id (part s k ++ entries_of (drop k s.runs)))
          of_front None at none = absurd none
          of_front (Some ls) at there = subst (λ (o : Option (List Locator)). l ∈ live o)
              (sym (lookup_front id (part s k) (entries_of (drop k s.runs)) ls at)) there

  -- where the part is merged the runs give the map, under pointers that agree where live things and runs lie
  pub merged_gives : (apart : Bool) → (apart ≡ true → S.apart ≡ true) → (s mid : State) (purpose : Purpose) (k : ℕ) (go : Bool)
      (runs : List Run) (q : ℕ → ℕ) → Sound S F s
      → Bounded S F s → suc mid.world.root ≤ S.greatest_number
      → ((j : ℕ) → j < S.sections → mid.world.superblocks j ≤ S.greatest_number)
      → mid.world.written ≤ S.greatest_number → MergesPart S F apart go s purpose k mid runs
      → (go ≡ true → drop k s.runs ≡ []) → length runs ≤ most_staged S
      → ((id : ℕ) (l : Locator) → l ∈ live_at (index_now s) id → q l.extent ≡ mid.world.extents.pointer l.extent)
      → ((run : Run) → run ∈ runs → q run.place.extent ≡ mid.world.extents.pointer run.place.extent)
      → (S.hidden_stand ≡ true → (run : Run) → run ∈ drop k s.runs → (id : ℕ) (l : Locator)
      → l ∈ live (lookup id run.entries) → q l.extent ≡ mid.world.extents.pointer l.extent)
      → Sound S F mid × (mid.world.extents.swept ≡ s.world.extents.swept)
      × Gives S F mid.opening (newest_page mid) q mid.world.extents.generation [] runs (map_now mid)
      × RootFits S F mid runs × (mid.world.extents.generation ≡ s.world.extents.generation)
  merged_gives apart by s mid purpose k go runs q sound b room versions written (inl m) all few agree rest hidden =
      let entries = m.0 in
      let l = m.1 in
      let a = added S F shape format apart by s mid purpose RunFrame (F.run entries) l sound m.4 versions in
      let index = same_index S F shape format s mid a.table a.runs in
      let bm : Bounded S F mid = bounded_same S F shape format s mid written a.root a.count a.commands a.runs
      a.table b in
      let parts : part mid k ≡ part s k = ap₂ (λ (x : List Entry) (y : List Run). x ++ entries_of (take k y)) a.table a.runs in
      let run : IsRunOf go (part mid k) entries =
      subst (λ (es : List Entry). IsRunOf go es entries) (sym parts) m.3 in
      let left : drop k mid.runs ≡ drop k s.runs = ap (drop k) a.runs in
      let lookups = merged_lookup mid k go entries (λ is. left ∙ all is) run in
      let among : (r : Run) → r ∈ (record { place = l; entries = entries } ∷ drop k s.runs) → r ∈ runs =
      λ r has. subst (λ (rs : List Run). r ∈ rs) (sym m.5) has in
      let gives = gives_kept S F go
      (newest_page mid) mid.world.extents.pointer q mid.world.extents.generation mid.table mid.runs
      (map_now mid) (record { place = l; entries = entries } ∷ drop k mid.runs) a.sound.gives lookups
      (λ id y has. agree id y (subst (λ (es : List Entry). y ∈ live (lookup id es)) index has))
      (each (λ (r : Run). Reads S F mid.opening (newest_page mid) q mid.world.extents.generation r.place
      (F.frame RunFrame (F.run r.entries))) _ _
      (reads_under S F mid.opening _ _ _ _ l (F.frame RunFrame (F.run entries))
      (rest (record { place = l; entries = entries }) (among (record { place = l; entries = entries }) (inl refl))) (a.reads (format.long_run entries)))
      (λ r has. reads_under S F mid.opening _ _ _ _ r.place (F.frame RunFrame (F.run r.entries))
      (rest r (among r (inr (subst (λ (rs : List Run). r ∈ rs) left has)))) (a.sound.gives.runs_read r (in_drop k mid.runs r has))))
      (λ stand. each (λ (r : Run). (id : ℕ) → AllPass S F (newest_page mid) q mid.world.extents.generation (lookup id r.entries))
      _ _ (front_of mid k go entries q a.sound run
      (λ id y has. agree id y (subst (λ (es : List Entry). y ∈ live (lookup id es)) index has)))
      (λ r has id. pass_under S F _ _ _ _ (lookup id r.entries)
      (hidden stand r (subst (λ (rs : List Run). r ∈ rs) left has) id)
      (a.sound.gives.runs_pass stand r (in_drop k mid.runs r has) id))) in
      let is : runs ≡ record { place = l; entries = entries } ∷ drop k mid.runs = m.5
      ∙ ap (λ (rs : List Run). record { place = l; entries = entries } ∷ rs) (sym left) in (
        a.sound,
        a.swept,
        subst
            (λ (rs : List Run). Gives S F mid.opening (newest_page mid) q mid.world.extents.generation [] rs
            (map_now mid)) (sym is) gives,
        subst (λ (rs : List Run). RootFits S F mid rs) (sym is)
            (part_fits S F shape format mid k go l entries q a.sound bm room
            (le_trans (le_of_eq (ap length (sym is))) few) m.2 run lookups gives),
        a.generation,
      )
  merged_gives apart by s mid purpose k go runs q sound b room versions written (inr m) all few agree rest hidden =
      let same : mid ≡ s = m.1 in
      let are = both S F shape format s mid same sound b in
      let left : drop k mid.runs ≡ drop k s.runs = ap (λ (x : State). drop k x.runs) same in
      let run : IsRunOf go (part mid k) [] =
      subst (λ (x : State). IsRunOf go (part x k) []) (sym same) m.0 in
      let lookups = merged_lookup mid k go [] (λ is. left ∙ all is) run in
      let gives = gives_kept S F go
      (newest_page mid) mid.world.extents.pointer q mid.world.extents.generation mid.table mid.runs
      (map_now mid) (drop k mid.runs) are.0.gives lookups
      (λ id y has. agree id y (subst (λ (x : State). y ∈ live (lookup id (index_now x))) same has))
      (λ r has. reads_under S F mid.opening _ _ _ _ r.place (F.frame RunFrame (F.run r.entries))
      (rest r (subst (λ (rs : List Run). r ∈ rs) (left ∙ sym m.2) has)) (are.0.gives.runs_read r (in_drop k mid.runs r has)))
      (λ stand r has id. pass_under S F _ _ _ _ (lookup id r.entries)
      (hidden stand r (subst (λ (rs : List Run). r ∈ rs) left has) id)
      (are.0.gives.runs_pass stand r (in_drop k mid.runs r has) id)) in
      let is : runs ≡ drop k mid.runs = m.2 ∙ sym left in (
        are.0,
        ap (λ (x : State). x.world.extents.swept) same,
        subst (λ (rs : List Run). Gives S F mid.opening (newest_page mid) q mid.world.extents.generation [] rs
            (map_now mid)) (sym is) gives,
        subst (λ (rs : List Run). RootFits S F mid rs) (sym is)
            (rest_fits S F shape format mid k go q are.0 are.1 room (le_trans (le_of_eq (ap length (sym is))) few) lookups gives),
        ap (λ (x : State). x.world.extents.generation) same,
      )

  pub rooted_bounded : (s : State) (runs : List Run) (pointers : ℕ → ℕ) → s.world.written ≤ S.greatest_number
      → RootFits S F s runs → Bounded S F (rooted S F s runs pointers)
  rooted_bounded s runs pointers written fit = record { bounds = fit.2; runs_fit = fit.1; written_fits = written }

  pub keeps_stage : S.apart ≡ false → (s t : State) (v : ℕ) → Sound S F s → Bounded S F s
      → ((f : Refusal) → Refuses S F s Stage f → ⊥) → Does S F s Stage (Staged v) t → Sound S F t × Bounded S F t
  keeps_stage before s t v sound b none d =
      let o = before_rule _ _ S.apart before d in
      let worn = not_first WornOut (not_first Full (not_first Halted none).1).1 in
      let room : t.world.root ≤ S.greatest_number = not_below S F shape format _ _
      (λ lt. worn.0 (Staged v, t, d, inl (inr (inr (inl lt))))) in
      let mid = o.2 in
      let written : mid.world.written ≤ S.greatest_number = in_number S F shape format s t mid.world Stage (Staged v)
      worn.0 d (ap (λ (x : State). x.world.written) (sym o.5)) in
      let done = merged_gives false not_apart s mid ForRun (stage_takes S s) (deletions_go S s (stage_takes S s)) o.3
      mid.world.extents.pointer sound b
      (le_trans (le_of_eq (sym (ap (λ (x : State). x.world.root) o.5))) room)
      (in_room S F shape format s t mid.world Stage (Staged v) worn.0 d
      (ap (λ (x : State). x.world.superblocks) (sym o.5))) written o.4
      (goes_all S s (stage_takes S s)) (part_few S F false s mid ForRun (stage_takes S s) (most_staged S)
      (deletions_go S s (stage_takes S s)) o.3 o.4 (few_left S s shape))
      (λ id k has. refl) (λ run has. refl) (λ stand run has id l there. refl) in
      both S F shape format _ t o.5 (rooted_sound S F shape format mid o.3 done.0 done.2 done.3)
      (rooted_bounded mid o.3 mid.world.extents.pointer written done.3)

  -- the run of a Retire isn't put where a sweep goes on
  run_away : (s mid : State) (runs : List Run) (e : ℕ) → Sound S F s → s.world.extents.swept e ≡ true
      → MergesPart S F false true s ForMove (length s.runs) mid runs → (run : Run) → run ∈ runs → run.place.extent ≢ e
  run_away s mid runs e sound swept (inl m) run has = each (λ (r : Run). r.place.extent ≢ e) _ _
      (away S F shape format s mid ForMove RunFrame (F.run m.0) m.1 sound m.4 e swept)
      (λ r more. absurd (subst (λ (rs : List Run). r ∈ rs) (drop-length s.runs) more)) run
      (subst (λ (rs : List Run). run ∈ rs) m.5 has)
  run_away s mid runs e sound swept (inr m) run has =
      absurd (subst (λ (rs : List Run). run ∈ rs) (m.2 ∙ drop-length s.runs) has)

  pub keeps_retire : S.apart ≡ false → (s t : State) (e v : ℕ) → Sound S F s → Bounded S F s
      → ((f : Refusal) → Refuses S F s (Retire e) f → ⊥) → Does S F s (Retire e) (Retired v) t → Sound S F t
      × Bounded S F t
  keeps_retire before s t e v sound b none d =
      let o = before_rule _ _ S.apart before d in
      let mid = o.3 in let runs = o.4 in
      let last = not_first WornOut
      (not_first Full (not_first StillLive (not_first NotSweepable (not_first Halted none).1).1).1).1 in
      let fresh = λ (w : WouldPass S F s (Retire e)). last.0 (rule_before _ _ S.apart before w) in
      let room : t.world.root ≤ S.greatest_number = not_below S F shape format _ _
      (λ lt. fresh (Retired v, t, d, inl (inr (inr (inl lt))))) in
      let raised : t.world.extents.generation e ≡ suc (mid.world.extents.generation e) = ap
      (λ (x : State). x.world.extents.generation e) o.6
      ∙ with_same mid.world.extents.generation e (suc (mid.world.extents.generation e)) e refl in
      let young : mid.world.extents.generation e < S.greatest_generation = le_trans (le_of_eq (sym raised))
      (not_below S F shape format _ _ (λ lt. fresh (Retired v, t, d, inl (inr (inr (inr (e, lt))))))) in
      let none_left : drop (length s.runs) s.runs ≡ [] = drop-length s.runs in
      let done = merged_gives false not_apart s mid ForMove (length s.runs) true runs (with mid.world.extents.pointer e 0) sound b
      (le_trans (le_of_eq (sym (ap (λ (x : State). x.world.root) o.6))) room)
      (in_room S F shape format s t mid.world (Retire e) (Retired v) fresh d
      (ap (λ (x : State). x.world.superblocks) (sym o.6)))
      (in_number S F shape format s t mid.world (Retire e) (Retired v) fresh d
      (ap (λ (x : State). x.world.written) (sym o.6))) (in_part S F s mid ForMove runs o.5)
      (λ go. none_left) (part_few S F false s mid ForMove (length s.runs) (most_staged S) true runs (in_part S F s mid ForMove runs o.5)
      (le_trans (le_of_eq (ap (λ (rs : List Run). suc (length rs)) none_left)) (some_staged S shape)))
      (λ id k has. with_other mid.world.extents.pointer e 0 k.extent (o.1 id k has))
      (λ run has. with_other mid.world.extents.pointer e 0 run.place.extent
      (run_away s mid runs e sound o.0 (in_part S F s mid ForMove runs o.5) run has))
      (λ stand run has id l there. absurd (subst (λ (rs : List Run). run ∈ rs) none_left has)) in
      both S F shape format _ t o.6
      (reset_sound S F shape format before mid runs e done.0 done.2 done.3 young (sound.swept e o.0).2)
      (record {
        bounds = done.3.2;
        runs_fit = done.3.1;
        written_fits = in_number S F shape format s t mid.world (Retire e) (Retired v) fresh d
            (ap (λ (x : State). x.world.written) (sym o.6));
      })
