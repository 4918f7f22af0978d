-- Scripts with a watcher: what it is told of which line, and where the script ends.
use Rattle.std.specs.Prelude.{◌≡◌, ◌≢◌, ◌⊎◌, ◌↔◌, ◌+◌, ℕ, zero, suc, Bool, IsTrue, List, [], ◌++◌, Option, Some, None}
use Rattle.std.specs.Io.BufRead.{first_piece, drop_through, take_through}
use Rattle.cs_refusal.specs.declared.refusals.Refusal.{Refusal}
use Rattle.cs_disk.specs.declared.disk.PageDisk.{Ghosts as PageDisk}
use Rattle.cs_writeback.specs.cs_core.Views.{View}
use Rattle.cs_writeback.specs.Histories.{MakesRoom}
use Rattle.cs_script.specs.declared.answers.Answer.{Answer}
use Rattle.cs_script.specs.declared.answers.Answer.TheVariants.{Given, Bad, Refused}
use Rattle.cs_script.specs.declared.bad_lines.BadLine.{BadLine}
use Rattle.cs_script.specs.declared.watchers.LineFault.{LineFault}
use Rattle.cs_script.specs.declared.watchers.LineFault.TheVariants as fault
use Rattle.cs_script.specs.declared.watchers.Onward.{Onward}
use Rattle.cs_script.specs.declared.watchers.Onward.TheVariants.{GoOn, Stop}
use Rattle.cs_script.specs.BadLines.{IsWhy}
use Rattle.cs_script.specs.Crashes.{Crashes, CrashesUnder, IsCrash}
use Rattle.cs_script.specs.Lines.{said_of}
use Rattle.cs_script.specs.Scripts.{AnswersSo, Runs, said_to, status_after}

-- what is wrong with a line that is answered so, over a disk that can crash or can't
abbrev pub IsFaultOf : (can_crash : Bool) → (line : List ℕ) → Answer → Option LineFault → Type 0
IsFaultOf can_crash line Given found = found ≡ None
IsFaultOf can_crash line Bad found = (why : BadLine) × IsWhy can_crash line why × (found ≡ Some (fault.Bad why))
IsFaultOf can_crash line (Refused r) found = found ≡ Some (fault.Refused r)

-- a watcher is told of what is wrong with a line, where something is
abbrev pub Hears : {V : Type 0} → (meets : V → ℕ → List ℕ → LineFault → Onward → V → Type 0) → V → ℕ → List ℕ → Option LineFault → Onward → V → Type 0
Hears meets before number line None onward after = (onward ≡ GoOn) × (after ≡ before)
Hears meets before number line (Some found) onward after = meets before number line found onward after

-- so many lines from the front, each with its line feed, or all where there are fewer
abbrev pub first_lines : ℕ → List ℕ → List ℕ
first_lines zero text = []
first_lines (suc count) text = take_through 10 text ++ first_lines count (drop_through 10 text)

module _ {D : Type 0} (disks : PageDisk D) (can_crash : D → Type 0) (volatile_count : D → ℕ) where
  -- a line that isn't a readable `crash` is answered by the core, which makes room first where it has to
  abbrev pub AnswersLine : (line : List ℕ) → (old : View D) (status : ℕ) → (new : View D) (after : ℕ) → Option LineFault → List ℕ → Type 0
  AnswersLine line old status new after found out = ((mask : List Bool) → ¬ IsCrash can_crash volatile_count (said_of line) old mask)
      × (ready : View D) × MakesRoom old ready × (can : Bool) × (IsTrue can ↔ can_crash ready.disk)
      × (answer : Answer) × AnswersSo disks (said_to can (said_of line)) answer ready new out
      × (after ≡ status_after (said_to can (said_of line)) status) × IsFaultOf can line answer found

  -- after a crash the core goes on that is opened then
  abbrev pub CrashesLine : (line : List ℕ) → (old : View D) (status : ℕ) → (new : View D) (after : ℕ) → Option LineFault → List ℕ → Type 0
  CrashesLine line old status new after found out = (mask : List Bool) × IsCrash can_crash volatile_count (said_of line) old mask
      × Crashes disks can_crash volatile_count mask old new out × (after ≡ status) × (found ≡ None)

  -- what a line does after which a core is there, and what is wrong with it
  abbrev pub GoesOnSo : (line : List ℕ) → (old : View D) (status : ℕ) → (new : View D) (after : ℕ) → Option LineFault → List ℕ → Type 0
  GoesOnSo line old status new after found out = AnswersLine line old status new after found out ⊎ CrashesLine line old status new after found out

  -- A script runs each of whose lines is taken: none is refused or can't be read, and after each crash a store is opened.
  pub data RunsTaken : List ℕ → View D → Option (View D) → List ℕ → Type 0 where
    all_taken : (core : View D) → RunsTaken [] core (Some core) []
    next_taken : (text : List ℕ) (old mid : View D) (left : Option (View D)) (out rest : List ℕ)
        → text ≢ [] → GoesOnSo (first_piece 10 text) old 0 mid 0 None out → RunsTaken (drop_through 10 text) mid left rest → RunsTaken text old left (out ++ rest)

  -- A script runs up to the first line that is refused or can't be read.
  pub data RunsToFault : List ℕ → View D → Option (View D) → List ℕ → Type 0 where
    at_fault : (text : List ℕ) (old new : View D) (after : ℕ) (found : LineFault) (out : List ℕ)
        → text ≢ [] → GoesOnSo (first_piece 10 text) old 0 new after (Some found) out → RunsToFault text old (Some new) out
    past_taken : (text : List ℕ) (old mid : View D) (left : Option (View D)) (out rest : List ℕ)
        → text ≢ [] → GoesOnSo (first_piece 10 text) old 0 mid 0 None out → RunsToFault (drop_through 10 text) mid left rest → RunsToFault text old left (out ++ rest)

  -- with status 0 each line was taken, with 1 all before one that wasn't; with 3 no store was opened after a crash
  abbrev pub EndsStrictly : List ℕ → View D → Option (View D) → (status : ℕ) → List ℕ → Type 0
  EndsStrictly text core left status out = ((status ≡ 0) × RunsTaken text core left out) ⊎ ((status ≡ 1) × RunsToFault text core left out) ⊎ ((status ≡ 3) × (left ≡ None))

  module _ {V : Type 0} (meets : V → ℕ → List ℕ → LineFault → Onward → V → Type 0) where
    -- a line after which the script goes on, with what the watcher is told
    abbrev pub RunsOn : (line : List ℕ) (number : ℕ) → (old : View D) (status : ℕ) (watcher : V) → (new : View D) (after : ℕ) (told : V) → List ℕ → Type 0
    RunsOn line number old status watcher new after told out = (found : Option LineFault) × GoesOnSo line old status new after found out × Hears meets watcher number line found GoOn told

    -- a line after which the watcher ends the script, with status 1
    abbrev pub IsStopped : (line : List ℕ) (number : ℕ) → (old : View D) (status : ℕ) (watcher : V) → Option (View D) → ℕ → V → List ℕ → Type 0
    IsStopped line number old status watcher left last told out = (new : View D) × (after : ℕ) × (found : Option LineFault) × GoesOnSo line old status new after found out
        × Hears meets watcher number line found Stop told × (left ≡ Some new) × (last ≡ 1)

    -- a crash after which no store is opened, of which the watcher is told, ends the script with status 3
    abbrev pub IsLost : (line : List ℕ) (number : ℕ) → (old : View D) (watcher : V) → Option (View D) → ℕ → V → List ℕ → Type 0
    IsLost line number old watcher left last told out = (r : Refusal) × CrashesUnder disks can_crash volatile_count (said_of line) old r out
        × (onward : Onward) × meets watcher number line (fault.Refused r) onward told × (left ≡ None) × (last ≡ 3)

    -- a line that ends the script
    abbrev pub EndsSo : (line : List ℕ) (number : ℕ) → (old : View D) (status : ℕ) (watcher : V) → Option (View D) → ℕ → V → List ℕ → Type 0
    EndsSo line number old status watcher left last told out = IsStopped line number old status watcher left last told out ⊎ IsLost line number old watcher left last told out

    -- A script runs from a line of this number on: nothing is left of it; or its first line is answered, and the rest
    -- runs; or its first line ends it. Each line ends with a line feed, the last one may end with the text.
    pub data RunsWatched : List ℕ → ℕ → View D → ℕ → V → Option (View D) → ℕ → V → List ℕ → Type 0 where
      all_ran : (number : ℕ) (core : View D) (status : ℕ) (watcher : V) → RunsWatched [] number core status watcher (Some core) status watcher []
      went_on : (text : List ℕ) (number : ℕ) (old mid : View D) (left : Option (View D)) (status after last : ℕ) (watcher told end : V) (out rest : List ℕ)
          → text ≢ [] → RunsOn (first_piece 10 text) number old status watcher mid after told out
          → RunsWatched (drop_through 10 text) (number + 1) mid after told left last end rest
          → RunsWatched text number old status watcher left last end (out ++ rest)
      ended_early : (text : List ℕ) (number : ℕ) (old : View D) (left : Option (View D)) (status last : ℕ) (watcher told : V) (out : List ℕ)
          → text ≢ [] → EndsSo (first_piece 10 text) number old status watcher left last told out
          → RunsWatched text number old status watcher left last told out

  -- the first lines of the text run with this status, or the script was ended after them with status 1
  abbrev pub RunsInPart : List ℕ → View D → Option (View D) → ℕ → List ℕ → Type 0
  RunsInPart text old new last out = (count status : ℕ) × Runs disks can_crash volatile_count (first_lines count text) old 0 new status out × ((last ≡ status) ⊎ (last ≡ 1))
