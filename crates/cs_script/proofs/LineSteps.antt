-- The lines of a script, one after another.
use Rattle.std.proofs.Common.{◌≡◌, ◌≢◌, ◌⊎◌, ◌∙◌, ℕ, ◌+◌, ◌<◌, ◌≤◌, List, [], ◌++◌, length, Some, None, sym, ap, subst, inl, inr, arith, append_assoc}
use Rattle.std.specs.Prelude.{Option, IfSome}
use Rattle.std.proofs.lemmas.List.{append-nil}
use Rattle.std.specs.Io.BufRead.{strip_last, take_through, drop_through, first_piece, DropsThrough}
use Rattle.std.specs.Io.KnownBytes.{Appends, IsAtEnd}
use Rattle.cs_disk.specs.declared.disk.PageDisk.{Ghosts as PageDisk}
use Rattle.cs_writeback.specs.cs_core.Views.{View}
use Rattle.cs_script.specs.Lines.{Said, says_put, says_get, says_delete, says_sweep, says_sync, says_step, says_plan, says_document, says_crash, says_nothing, unreadable, said_of}
use Rattle.cs_script.specs.declared.scripts.Ran.{Ran}
use Rattle.cs_script.specs.declared.watchers.LineFault.{LineFault}
use Rattle.cs_script.specs.declared.watchers.Onward.{Onward}
use Rattle.cs_script.specs.Scripts.{said_to, status_after}
use Rattle.cs_script.specs.Watched.{EndsSo, GoesOnSo, RunsOn, RunsWatched, all_ran, ended_early, went_on}
use Rattle.cs_script.proofs.Appended.{appends_then}

small_after : (said : Said) (status : ℕ) → status ≤ 1 → status_after said status ≤ 1
small_after (says_put id bytes) status h = h
small_after (says_get id) status h = h
small_after (says_delete id) status h = h
small_after (says_sweep extent) status h = h
small_after says_sync status h = h
small_after says_step status h = h
small_after says_plan status h = h
small_after says_document status h = h
small_after (says_crash mask) status h = omega arith
small_after says_nothing status h = h
small_after unreadable status h = omega arith

pub if_some_map : (o : Option (List ℕ)) (P Q : List ℕ → Type 0) → ((xs : List ℕ) → P xs → Q xs) → IfSome o P → IfSome o Q
if_some_map None P Q f p = tt
if_some_map (Some xs) P Q f p = f xs p

module _ {D V : Type 0} (disks : PageDisk D) (can_crash : D → Type 0) (volatile_count : D → ℕ) (meets : V → ℕ → List ℕ → LineFault → Onward → V → Type 0) where
  abbrev pub RunsFrom : List ℕ → ℕ → View D → ℕ → V → Option (View D) → ℕ → V → List ℕ → Type 0
  RunsFrom text number old status watcher left last told out = RunsWatched disks can_crash volatile_count meets text number old status watcher left last told out

  abbrev pub GoesOnFrom : List ℕ → ℕ → View D → ℕ → V → View D → ℕ → V → List ℕ → Type 0
  GoesOnFrom line number old status watcher new after told out = RunsOn disks can_crash volatile_count meets line number old status watcher new after told out

  abbrev pub EndsFrom : List ℕ → ℕ → View D → ℕ → V → Option (View D) → ℕ → V → List ℕ → Type 0
  EndsFrom line number old status watcher left last told out = EndsSo disks can_crash volatile_count meets line number old status watcher left last told out

  small_then : (line : List ℕ) (old new : View D) (status after : ℕ) (found : Option LineFault) (out : List ℕ) → status ≤ 1 → GoesOnSo disks can_crash volatile_count line old status new after found out → after ≤ 1
  small_then line old new status after found out h (inl (not, ready, made, can, tells, answer, does, is, wrong)) = subst (λ n. n ≤ 1) (sym is) (small_after (said_to can (said_of line)) status h)
  small_then line old new status after found out h (inr (mask, is_crash, crashes, is, none)) = subst (λ n. n ≤ 1) (sym is) h

  -- What ran so far: with whatever runs from here on, it is a run of the whole text.
  pub record LinesSoFar (was left : Option (List ℕ)) (number : ℕ) (first now : View D) (status : ℕ) (at_first watcher : V) (before after : Option (List ℕ)) : Type 0 where
    pub small : status ≤ 1
    pub runs : (text : List ℕ) → was ≡ Some text → (rest : List ℕ) × (left ≡ Some rest) × (out : List ℕ) × Appends before after out
        × ((final : Option (View D)) (last : ℕ) (told : V) (more : List ℕ) → RunsFrom rest number now status watcher final last told more → RunsFrom text 1 first 0 at_first final last told (out ++ more))

  -- the first line of what is left
  first_line : (left : Option (List ℕ)) (line rest : List ℕ) → left ≡ Some rest → IfSome left (λ xs. line ≡ take_through 10 xs) → strip_last 10 line ≡ first_piece 10 rest
  first_line left line rest e bytes = ap (strip_last 10) (subst (λ (o : Option (List ℕ)). IfSome o (λ xs. line ≡ take_through 10 xs)) e bytes)

  some_left : (left : Option (List ℕ)) (line rest : List ℕ) → left ≡ Some rest → IfSome left (λ xs. line ≡ take_through 10 xs) → 0 < length line → rest ≢ []
  some_left left line rest e bytes some none =
      let taken : line ≡ take_through 10 rest = subst (λ (o : Option (List ℕ)). IfSome o (λ xs. line ≡ take_through 10 xs)) e bytes in
      absurd (omega (arith, some, ap length (taken ∙ ap (take_through 10) none)))

  -- one line more
  pub one_line_more : (was left next : Option (List ℕ)) (number : ℕ) (first now new : View D) (status after_status : ℕ) (at_first watcher told : V) (before mid after : Option (List ℕ)) (line : List ℕ)
      → LinesSoFar was left number first now status at_first watcher before mid
      → DropsThrough left next 10 → IfSome left (λ xs. line ≡ take_through 10 xs) → 0 < length line
      → (out : List ℕ) × GoesOnFrom (strip_last 10 line) number now status watcher new after_status told out × Appends mid after out
      → LinesSoFar was next (number + 1) first new after_status at_first told before after
  one_line_more was left next number first now new status after_status at_first watcher told before mid after line so drops bytes some (out, (found, goes, hears), printed) = record {
    small = small_then (strip_last 10 line) now new status after_status found out so.small goes;
    runs = λ text e.
        let r = so.runs text e in
        let rest = r.0 in
        let dropped : next ≡ Some (drop_through 10 rest) = subst (λ (o : Option (List ℕ)). IfSome o (λ xs. next ≡ Some (drop_through 10 xs))) r.1 drops in
        let piece : strip_last 10 line ≡ first_piece 10 rest = first_line left line rest r.1 bytes in
        let more_left : rest ≢ [] = some_left left line rest r.1 bytes some in (
          drop_through 10 rest,
          dropped,
          r.2 ++ out,
          appends_then before mid after r.2 out r.3 printed,
          λ final last end more h.
              subst (λ l. RunsFrom text 1 first 0 at_first final last end l) (sym (append_assoc r.2 out more))
              (r.4 final last end (out ++ more) (went_on rest number now new final status after_status last watcher told end out more more_left
              (subst (λ l. GoesOnFrom l number now status watcher new after_status told out) piece (found, goes, hears)) h)),
        );
  }

  -- what a line left behind with which the script ends
  abbrev pub Ended : List ℕ → ℕ → View D → ℕ → V → V → (before after : Option (List ℕ)) → Ran D → Type 0
  Ended line number old status watcher told before after ran =
      (ran.status ≡ 4) ⊎ ((out : List ℕ) × EndsFrom line number old status watcher ran.core ran.status told out × Appends before after out)

  pub ended_by : (was left : Option (List ℕ)) (number : ℕ) (first now : View D) (status : ℕ) (at_first watcher told : V) (before mid after : Option (List ℕ)) (line : List ℕ) (ran : Ran D)
      → LinesSoFar was left number first now status at_first watcher before mid
      → IfSome left (λ xs. line ≡ take_through 10 xs) → 0 < length line
      → Ended (strip_last 10 line) number now status watcher told mid after ran
      → (text : List ℕ) → was ≡ Some text → ran.status < 4 → (out : List ℕ) × RunsFrom text 1 first 0 at_first ran.core ran.status told out × Appends before after out
  ended_by was left number first now status at_first watcher told before mid after line ran so bytes some (inl is) text e small = absurd (omega (arith, small, is))
  ended_by was left number first now status at_first watcher told before mid after line ran so bytes some (inr (out, ends, printed)) text e small =
      let r = so.runs text e in
      let piece : strip_last 10 line ≡ first_piece 10 r.0 = first_line left line r.0 r.1 bytes in (
        r.2 ++ out,
        r.4 ran.core ran.status told out (ended_early r.0 number now ran.core status ran.status watcher told out (some_left left line r.0 r.1 bytes some)
            (subst (λ l. EndsFrom l number now status watcher ran.core ran.status told out) piece ends)),
        appends_then before mid after r.2 out r.3 printed,
      )

  -- the end of the text
  pub all_lines : (was left : Option (List ℕ)) (number : ℕ) (first now : View D) (status : ℕ) (at_first watcher : V) (before after : Option (List ℕ))
      → LinesSoFar was left number first now status at_first watcher before after → IsAtEnd left
      → (text : List ℕ) → was ≡ Some text → (out : List ℕ) × RunsFrom text 1 first 0 at_first (Some now) status watcher out × Appends before after out
  all_lines was left number first now status at_first watcher before after so at_end text e =
      let r = so.runs text e in
      let none : r.0 ≡ [] = subst IsAtEnd r.1 at_end in (
        r.2,
        subst (λ l. RunsFrom text 1 first 0 at_first (Some now) status watcher l) (append-nil r.2)
            (r.4 (Some now) status watcher [] (subst (λ l. RunsFrom l number now status watcher (Some now) status watcher []) (sym none) (all_ran number now status watcher))),
        r.3,
      )
