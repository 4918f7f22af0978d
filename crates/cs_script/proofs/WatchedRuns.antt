-- Scripts with a watcher are scripts without one.
use Rattle.std.proofs.Common.{◌≡◌, ◌≢◌, ◌⊎◌, ◌∙◌, ◌+◌, ℕ, zero, suc, ◌==◌, Bool, true, false, cond, List, [], ◌∷◌, ◌++◌, Some, None, sym, ap, subst, refl, inl, inr}
use Rattle.std.specs.Prelude.{Option, Result, Ok, Err}
use Rattle.std.proofs.lemmas.List.{append-nil}
use Rattle.std.specs.Io.BufRead.{strip_last, take_through, drop_through, first_piece}
use Rattle.cs_refusal.specs.declared.refusals.Refusal.{Refusal}
use Rattle.cs_disk.specs.declared.disk.PageDisk.{Ghosts as PageDisk}
use Rattle.cs_writeback.specs.cs_core.Views.{View}
use Rattle.cs_script.specs.Crashes.{CrashesForGood}
use Rattle.cs_script.specs.Lines.{said_of}
use Rattle.cs_script.specs.Scripts.{GoesOn, Runs, ended, then_runs, unopened}
use Rattle.cs_script.specs.Stores.{RunsOver, RunsOverInPart, RunsOverWatched}
use Rattle.cs_script.specs.declared.watchers.LineFault.{LineFault}
use Rattle.cs_script.specs.declared.watchers.Onward.{Onward}
use Rattle.cs_script.specs.declared.watchers.Onward.TheVariants.{GoOn, Stop}
use Rattle.cs_script.specs.Lines.{Said, says_put, says_get, says_delete, says_sweep, says_sync, says_step, says_plan, says_document, says_crash, says_nothing, unreadable}
use Rattle.cs_script.specs.Scripts.{Does, said_to, status_after}
use Rattle.cs_script.specs.declared.answers.Answer.TheVariants.{Given, Bad, Refused}
use Rattle.cs_script.specs.Watched.{EndsStrictly, GoesOnSo, Hears, RunsToFault, RunsWatched, all_ran, all_taken, at_fault, ended_early, first_lines, next_taken, past_taken, went_on}

take_yes : (x : ℕ) (xs : List ℕ) → (x == 10) ≡ true → take_through 10 (x ∷ xs) ≡ x ∷ []
take_yes x xs e = ap (λ b. cond b (x ∷ []) (x ∷ take_through 10 xs)) e

take_no : (x : ℕ) (xs : List ℕ) → (x == 10) ≡ false → take_through 10 (x ∷ xs) ≡ x ∷ take_through 10 xs
take_no x xs e = ap (λ b. cond b (x ∷ []) (x ∷ take_through 10 xs)) e

drop_yes : (x : ℕ) (xs : List ℕ) → (x == 10) ≡ true → drop_through 10 (x ∷ xs) ≡ xs
drop_yes x xs e = ap (λ b. cond b xs (drop_through 10 xs)) e

drop_no : (x : ℕ) (xs : List ℕ) → (x == 10) ≡ false → drop_through 10 (x ∷ xs) ≡ drop_through 10 xs
drop_no x xs e = ap (λ b. cond b xs (drop_through 10 xs)) e

-- With other lines after its first one a text has the same first line, and those are the rest.
pub record IsFront (text more : List ℕ) : Type 0 where
  pub line : take_through 10 (take_through 10 text ++ more) ≡ take_through 10 text
  pub rest : drop_through 10 (take_through 10 text ++ more) ≡ more

front : (text more : List ℕ) → (drop_through 10 text ≡ [] → more ≡ []) → IsFront text more
front [] more h = record { line = ap (take_through 10) (h refl); rest = ap (drop_through 10) (h refl) ∙ sym (h refl) }
front (x ∷ xs) more h = at_head (x == 10) refl (λ k. front xs more k)
  where
    at_head : (b : Bool) → (x == 10) ≡ b → ((drop_through 10 xs ≡ [] → more ≡ []) → IsFront xs more) → IsFront (x ∷ xs) more
    at_head true e later = record {
      line = ap (λ l. take_through 10 (l ++ more)) (take_yes x xs e) ∙ take_yes x more e ∙ sym (take_yes x xs e);
      rest = ap (λ l. drop_through 10 (l ++ more)) (take_yes x xs e) ∙ drop_yes x more e;
    }
    at_head false e later =
        let f = later (λ none. h (drop_no x xs e ∙ none)) in record {
          line = ap (λ l. take_through 10 (l ++ more)) (take_no x xs e) ∙ take_no x (take_through 10 xs ++ more) e ∙ ap (λ (l : List ℕ). x ∷ l) f.line ∙ sym (take_no x xs e);
          rest = ap (λ l. drop_through 10 (l ++ more)) (take_no x xs e) ∙ drop_no x (take_through 10 xs ++ more) e ∙ f.rest;
        }

-- no text has no lines
no_lines : (count : ℕ) → first_lines count [] ≡ []
no_lines zero = refl
no_lines (suc count) = no_lines count

some_taken : (text more : List ℕ) → text ≢ [] → take_through 10 text ++ more ≢ []
some_taken [] more some is = some refl
some_taken (x ∷ xs) more some is = at_head (x == 10) refl
  where
    at_head : (b : Bool) → (x == 10) ≡ b → ⊥
    at_head true e = absurd (cc (sym (ap (λ l. l ++ more) (take_yes x xs e)) ∙ is))
    at_head false e = absurd (cc (sym (ap (λ l. l ++ more) (take_no x xs e)) ∙ is))

front_of : (text : List ℕ) (count : ℕ) → IsFront text (first_lines count (drop_through 10 text))
front_of text count = front text (first_lines count (drop_through 10 text)) (λ none. ap (first_lines count) none ∙ no_lines count)

module _ {D V : Type 0} (disks : PageDisk D) (can_crash : D → Type 0) (volatile_count : D → ℕ) (meets : V → ℕ → List ℕ → LineFault → Onward → V → Type 0) where
  forget : (line : List ℕ) (old new : View D) (status after : ℕ) (found : Option LineFault) (out : List ℕ)
      → GoesOnSo disks can_crash volatile_count line old status new after found out → GoesOn disks can_crash volatile_count (said_of line) old status new after out
  forget line old new status after found out (inl (not, ready, made, can, tells, answer, does, is, wrong)) = inl (not, ready, made, (can, tells, (answer, does), is))
  forget line old new status after found out (inr (mask, is_crash, crashes, is, none)) = inr (mask, is_crash, crashes, is)

  abbrev NeverEnds : Type 0
  NeverEnds = (before after : V) (number : ℕ) (line : List ℕ) (found : LineFault) (onward : Onward) → meets before number line found onward after → onward ≡ GoOn

  never_stops : NeverEnds → (watcher told : V) (number : ℕ) (line : List ℕ) (found : Option LineFault) → Hears meets watcher number line found Stop told → ⊥
  never_stops never watcher told number line None (is, same) = absurd (cc is)
  never_stops never watcher told number line (Some found) met = let is = never watcher told number line found Stop met in absurd (cc is)

  -- all of it, where the watcher never ends it
  pub runs_all : NeverEnds → (text : List ℕ) (number : ℕ) (old : View D) (status : ℕ) (watcher : V) (left : Option (View D)) (last : ℕ) (told : V) (out : List ℕ)
      → RunsWatched disks can_crash volatile_count meets text number old status watcher left last told out → Runs disks can_crash volatile_count text old status left last out
  runs_all never t n o s w l e d p (all_ran number core status watcher) = ended core status
  runs_all never t n o s w l e d p (went_on text number old mid left status after last watcher heard told first rest some (found, goes, hears) more) =
      then_runs text old mid left status after last first rest some (forget (first_piece 10 text) old mid status after found first goes)
      (runs_all never (drop_through 10 text) (number + 1) mid after heard left last told rest more)
  runs_all never t n o s w l e d p (ended_early text number old left status last watcher told out some (inl (new, after, found, goes, hears, is, one))) =
      absurd (never_stops never watcher told number (first_piece 10 text) found hears)
  runs_all never t n o s w l e d p (ended_early text number old left status last watcher told out some (inr (r, crashes, onward, met, none, is))) =
      subst (λ (o : Option (View D)). Runs disks can_crash volatile_count text old status o last out) (sym none)
      (subst (λ n. Runs disks can_crash volatile_count text old status None n out) (sym is) (unopened text old status out some (r, crashes)))

  abbrev pub RunsFirst : List ℕ → View D → ℕ → Option (View D) → ℕ → List ℕ → Type 0
  RunsFirst text old status left last out = (count so_far : ℕ) × Runs disks can_crash volatile_count (first_lines count text) old status left so_far out × ((last ≡ so_far) ⊎ (last ≡ 1))

  -- a line, and some lines of the rest
  line_then : (text : List ℕ) (count : ℕ) (old mid : View D) (left : Option (View D)) (status after last : ℕ) (out rest : List ℕ) → text ≢ []
      → GoesOn disks can_crash volatile_count (said_of (first_piece 10 text)) old status mid after out
      → Runs disks can_crash volatile_count (first_lines count (drop_through 10 text)) mid after left last rest
      → Runs disks can_crash volatile_count (first_lines (suc count) text) old status left last (out ++ rest)
  line_then text count old mid left status after last out rest some goes more =
      let lines = first_lines (suc count) text in
      let f = front_of text count in
      then_runs lines old mid left status after last out rest (some_taken text (first_lines count (drop_through 10 text)) some)
      (subst (λ l. GoesOn disks can_crash volatile_count (said_of (strip_last 10 l)) old status mid after out) (sym f.line) goes)
      (subst (λ l. Runs disks can_crash volatile_count l mid after left last rest) (sym f.rest) more)

  -- its first lines
  pub runs_first : (text : List ℕ) (number : ℕ) (old : View D) (status : ℕ) (watcher : V) (left : Option (View D)) (last : ℕ) (told : V) (out : List ℕ)
      → RunsWatched disks can_crash volatile_count meets text number old status watcher left last told out → RunsFirst text old status left last out
  runs_first t n o s w l e d p (all_ran number core status watcher) = (0, status, ended core status, inl refl)
  runs_first t n o s w l e d p (went_on text number old mid left status after last watcher heard told first rest some (found, goes, hears) more) =
      let r = runs_first (drop_through 10 text) (number + 1) mid after heard left last told rest more in
      (suc r.0, r.1, line_then text r.0 old mid left status after r.1 first rest some (forget (first_piece 10 text) old mid status after found first goes) r.2, r.3)
  runs_first t n o s w l e d p (ended_early text number old left status last watcher told out some (inl (new, after, found, goes, hears, is, one))) =
      let runs = line_then text 0 old new (Some new) status after after out [] some (forget (first_piece 10 text) old new status after found out goes) (ended new after) in (
        1,
        after,
        subst (λ (o : Option (View D)). Runs disks can_crash volatile_count (first_lines 1 text) old status o after out) (sym is)
            (subst (λ l. Runs disks can_crash volatile_count (first_lines 1 text) old status (Some new) after l) (append-nil out) runs),
        inr one,
      )
  runs_first t n o s w l e d p (ended_early text number old left status last watcher told out some (inr (r, crashes, onward, met, none, is))) =
      let f = front_of text 0 in
      let lines = first_lines 1 text in
      let good = subst (λ l. CrashesForGood disks can_crash volatile_count (said_of (strip_last 10 l)) old out) (sym f.line) (r, crashes) in (
        1,
        3,
        subst (λ (o : Option (View D)). Runs disks can_crash volatile_count lines old status o 3 out) (sym none)
            (unopened lines old status out (some_taken text [] some) good),
        inl is,
      )

  -- over a store that there is or isn't
  pub over_all : NeverEnds → (store : Result (View D) Refusal) (text : List ℕ) (watcher told : V) (status : ℕ) (out : List ℕ)
      → RunsOverWatched disks can_crash volatile_count meets store text watcher status told out → RunsOver disks can_crash volatile_count store text status out
  over_all never (Ok core) text watcher told status out (left, run) = (left, runs_all never text 1 core 0 watcher left status told out run)
  over_all never (Err r) text watcher told status out (is, same, printed) = (is, printed)

  pub over_first : (store : Result (View D) Refusal) (text : List ℕ) (watcher told : V) (status : ℕ) (out : List ℕ)
      → RunsOverWatched disks can_crash volatile_count meets store text watcher status told out → RunsOverInPart disks can_crash volatile_count store text status out
  over_first (Ok core) text watcher told status out (left, run) = (left, runs_first text 1 core 0 watcher left status told out run)
  over_first (Err r) text watcher told status out (is, same, printed) = (is, printed)

  -- ---- where the watcher ends it at each fault

  abbrev Ends : V → Type 0
  Ends watcher = (number : ℕ) (line : List ℕ) (found : LineFault) (onward : Onward) (after : V) → meets watcher number line found onward after → onward ≡ Stop

  -- a line that is taken leaves the status
  still : (said : Said) (status : ℕ) (old new : View D) (out : List ℕ) → Does disks said old new out → status_after said status ≡ status
  still (says_put id bytes) status old new out does = refl
  still (says_get id) status old new out does = refl
  still (says_delete id) status old new out does = refl
  still (says_sweep extent) status old new out does = refl
  still says_sync status old new out does = refl
  still says_step status old new out does = refl
  still says_plan status old new out does = refl
  still says_document status old new out does = refl
  still says_nothing status old new out does = refl
  still (says_crash mask) status old new out does = absurd does
  still unreadable status old new out does = absurd does

  taken_still : (line : List ℕ) (old new : View D) (status after : ℕ) (out : List ℕ) → GoesOnSo disks can_crash volatile_count line old status new after None out → after ≡ status
  taken_still line old new status after out (inl (not, ready, made, can, tells, Given, does, is, wrong)) = is ∙ still (said_to can (said_of line)) status ready new out does
  taken_still line old new status after out (inl (not, ready, made, can, tells, Bad, does, is, (why, tests, clash))) = absurd (cc clash)
  taken_still line old new status after out (inl (not, ready, made, can, tells, Refused r, does, is, clash)) = absurd (cc clash)
  taken_still line old new status after out (inr (mask, is_crash, crashes, is, none)) = is

  -- a line that is taken, and then the rest
  taken_then : (text : List ℕ) (old mid : View D) (left : Option (View D)) (last : ℕ) (out rest : List ℕ) → text ≢ []
      → GoesOnSo disks can_crash volatile_count (first_piece 10 text) old 0 mid 0 None out
      → EndsStrictly disks can_crash volatile_count (drop_through 10 text) mid left last rest → EndsStrictly disks can_crash volatile_count text old left last (out ++ rest)
  taken_then text old mid left last out rest some goes (inl (is, taken)) = inl (is, next_taken text old mid left out rest some goes taken)
  taken_then text old mid left last out rest some goes (inr (inl (is, fault))) = inr (inl (is, past_taken text old mid left out rest some goes fault))
  taken_then text old mid left last out rest some goes (inr (inr lost)) = inr (inr lost)

  pub runs_strictly : (text : List ℕ) (number : ℕ) (old : View D) (status : ℕ) (watcher : V) (left : Option (View D)) (last : ℕ) (told : V) (out : List ℕ) → Ends watcher → status ≡ 0
      → RunsWatched disks can_crash volatile_count meets text number old status watcher left last told out → EndsStrictly disks can_crash volatile_count text old left last out
  runs_strictly t n o s w l e d p ends none (all_ran number core status watcher) = inl (none, all_taken core)
  runs_strictly t n o s w l e d p ends none (went_on text number old mid left status after last watcher heard told first rest some (None, goes, hears) more) =
      let line = first_piece 10 text in
      let same : after ≡ 0 = taken_still line old mid status after first goes ∙ none in
      let from_none = subst (λ (k : ℕ). GoesOnSo disks can_crash volatile_count line old k mid after None first) none goes in
      let taken = subst (λ (k : ℕ). GoesOnSo disks can_crash volatile_count line old 0 mid k None first) same from_none in
      taken_then text old mid left last first rest some taken
      (runs_strictly (drop_through 10 text) (number + 1) mid after heard left last told rest (subst Ends (sym hears.1) ends) same more)
  runs_strictly t n o s w l e d p ends none (went_on text number old mid left status after last watcher heard told first rest some (Some found, goes, hears) more) =
      let clash : GoOn ≡ Stop = ends number (first_piece 10 text) found GoOn heard hears in absurd (cc clash)
  runs_strictly t n o s w l e d p ends none (ended_early text number old left status last watcher told out some (inl (new, after, None, goes, hears, is, one))) =
      let clash : Stop ≡ GoOn = hears.0 in absurd (cc clash)
  runs_strictly t n o s w l e d p ends none (ended_early text number old left status last watcher told out some (inl (new, after, Some found, goes, hears, is, one))) =
      let from_none = subst (λ (k : ℕ). GoesOnSo disks can_crash volatile_count (first_piece 10 text) old k new after (Some found) out) none goes in
      inr (inl (one, subst (λ (o : Option (View D)). RunsToFault disks can_crash volatile_count text old o out) (sym is) (at_fault text old new after found out some from_none)))
  runs_strictly t n o s w l e d p ends none (ended_early text number old left status last watcher told out some (inr (r, crashes, onward, met, lost, three))) = inr (inr (three, lost))
