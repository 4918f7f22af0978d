-- What a script prints and what its core's history gains, line by line.
use Rattle.std.specs.Prelude.{◌≡◌, ◌≢◌, ◌⊎◌, ◌↔◌, ℕ, Bool, false, IsTrue, List, [], ◌∷◌, ◌++◌, Option, Some, None, length, take}
use Rattle.std.specs.Io.BufRead.{first_piece, drop_through}
use Rattle.cs_deps.specs.declared.elements.Element.{Element}
use Rattle.cs_refusal.specs.declared.refusals.Refusal.{Refusal}
use Rattle.cs_refusal.specs.declared.refusals.Refusal.TheVariants as refusal
use Rattle.cs_deps.specs.Pending.{Pending}
use Rattle.cs_deps.specs.State.{everything}
use Rattle.cs_disk.specs.declared.disk.PageDisk.{Ghosts as PageDisk}
use Rattle.cs_plan.specs.Best.{IsBestPlan}
use Rattle.cs_check.specs.Written.{HasDocument, IsTextOf}
use Rattle.cs_writeback.specs.cs_core.declared.events.Event.{Event}
use Rattle.cs_writeback.specs.cs_core.declared.events.Event.TheVariants.{Delete, Get, Put, Stage}
use Rattle.cs_writeback.specs.cs_core.declared.events.Reply.{Reply}
use Rattle.cs_writeback.specs.cs_core.declared.events.Reply.TheVariants.{Absent, Accepted, Begun, Ended, Found, Issued, Nothing}
use Rattle.cs_writeback.specs.cs_core.Stored.{Stored}
use Rattle.cs_writeback.specs.cs_core.Views.{View}
use Rattle.cs_writeback.specs.Histories.{IsStopped, MakesRoom, Went}
use Rattle.cs_writeback.specs.Rounds.{Finishes, StopsFirst, rounds_of, step_event}
use Rattle.cs_writeback.specs.Sweeps.{IsSweepRefused, Sweeps}
use Rattle.cs_writeback.specs.Syncs.{IsStageDone, StopsLater, Syncs}
use Rattle.cs_script.specs.Crashes.{Crashes, CrashesForGood, IsCrash}
use Rattle.cs_script.specs.declared.answers.Answer.{Answer}
use Rattle.cs_script.specs.declared.answers.Answer.TheVariants.{Given, Bad, Refused}
use Rattle.cs_script.specs.Lines.{Said, says_put, says_get, says_delete, says_sweep, says_sync, says_step, says_plan, says_document, says_crash, says_nothing, unreadable, said_of}
use Rattle.cs_script.specs.Outputs.{absent_line, acknowledged_line, bad_line, begin_line, chain_line, delete_line, end_line, end_lines, flushes_line, idle_line, issue_line, letters, line_of, plan_lines, put_line, refusal_line, round_lines, swept_line, value_line}

-- these are a best plan of all that waits in this store
abbrev pub IsBestOfAll : Stored → List (List Element) → List Element → Type 0
IsBestOfAll s rounds chain = IsBestPlan s.graph.staging.pending (everything s.graph.staging) rounds chain

-- what a line `step` prints
abbrev pub step_line : Reply → List ℕ → Type 0
step_line (Issued x page) out = out ≡ issue_line x page
step_line (Ended frontier) out = out ≡ end_line frontier
step_line (Begun round) out = out ≡ begin_line round
step_line Nothing out = out ≡ idle_line
step_line reply out = ⊥

-- a letter for each family
abbrev pub document_letters : Pending → List ℕ
document_letters g = take (length g.persistent) letters

-- the document of a best plan of all that waits, which has one, is printed as one line, where no round is out
abbrev pub Documents : Stored → List ℕ → Type 0
Documents s out = (s.out ≡ None) × (rounds : List (List Element)) × (chain : List Element) × (text : List ℕ) × IsBestOfAll s rounds chain
    × HasDocument (document_letters s.graph.staging.pending) s.graph.staging.pending (everything s.graph.staging) rounds chain
    × IsTextOf text (document_letters s.graph.staging.pending) s.graph.staging.pending (everything s.graph.staging) rounds chain × (out ≡ line_of text)

-- a round is out; or there is no memory; or a best plan can't be written
abbrev pub IsDocumentRefused : Stored → Refusal → Type 0
IsDocumentRefused s r = ((s.out ≢ None) × (r ≡ refusal.InFlight)) ⊎ (r ≡ refusal.OutOfMemory)
    ⊎ ((r ≡ refusal.BadDocument) × (rounds : List (List Element)) × (chain : List Element) × IsBestOfAll s rounds chain
    × (¬ HasDocument (document_letters s.graph.staging.pending) s.graph.staging.pending (everything s.graph.staging) rounds chain))

module _ {D : Type 0} (disks : PageDisk D) where
  -- the event is refused, and that is printed
  abbrev pub Declines : View D → Event → Refusal → View D → List ℕ → Type 0
  Declines old event r new out = IsStopped disks old [] event r new × (out ≡ refusal_line r)

  -- the event is recorded with this reply, and this line is printed
  abbrev pub Answered : View D → Event → Reply → View D → (printed out : List ℕ) → Type 0
  Answered old event reply new printed out = Went disks old ((event, reply) ∷ []) new × (out ≡ printed)

  -- A sync that ends well, and what it prints: the rounds that were begun and ended, which are a best plan of what
  -- waited after the Stage, with the chain that is printed, and how many commands are persistent then.
  pub record PrintsSync (old new : View D) (out : List ℕ) : Type 0 where
    pub syncs : Syncs disks old new
    pub chain : List Element
    pub best : IsBestOfAll syncs.staged.store (rounds_of syncs.turns) chain
    pub printed : out ≡ end_lines syncs.finished ++ round_lines 1 (rounds_of syncs.turns) ++ chain_line chain ++ flushes_line (length syncs.turns) ++ acknowledged_line new.store.frontier

  -- the index's changes are staged where no round is out
  abbrev pub Stages : View D → View D → Type 0
  Stages old new = (old.store.out ≡ None) × (reply : Reply) × IsStageDone reply × Went disks old ((Stage, reply) ∷ []) new

  -- the Stage is refused, or there is no memory for the plan of what waits after it
  abbrev pub StopsAtPlan : View D → View D → Refusal → Type 0
  StopsAtPlan old new r = IsStopped disks old [] Stage r new ⊎ (Stages old new × (r ≡ refusal.OutOfMemory))

  -- A sync in which the Stage or a later event is refused, after some rounds, which are printed as they end.
  pub record PrintsLater (old new : View D) (r : Refusal) (before : List ℕ) : Type 0 where
    pub stops : StopsLater disks old r new
    pub printed : before ≡ end_lines stops.finished ++ round_lines 1 (rounds_of stops.turns)

  -- A sync in which there is no memory for the plan: a round that was out was ended, and the index's changes were
  -- staged.
  pub record LacksPlan (old new : View D) (r : Refusal) (before : List ℕ) : Type 0 where
    pub finished : Option ℕ
    pub ended : View D
    pub finishes : Finishes disks old finished ended
    pub stages : Stages ended new
    pub no_memory : r ≡ refusal.OutOfMemory
    pub printed : before ≡ end_lines finished

  -- a sync in which an event is refused, or in which there is no memory for the plan, after these lines
  abbrev pub PrintsStop : View D → View D → Refusal → List ℕ → Type 0
  PrintsStop old new r before = (StopsFirst disks old r new × (before ≡ [])) ⊎ PrintsLater old new r before ⊎ LacksPlan old new r before

  -- the plan of all that waits after a Stage is printed
  abbrev pub Plans : View D → View D → List ℕ → Type 0
  Plans old new out = Stages old new × (rounds : List (List Element)) × (chain : List Element) × IsBestOfAll new.store rounds chain × (out ≡ plan_lines rounds chain)

  -- a round is out, and nothing changes; or the Stage is refused; or there is no memory for the plan
  abbrev pub IsPlanRefused : View D → View D → Refusal → Type 0
  IsPlanRefused old new r = ((old.store.out ≢ None) × (new ≡ old) × (r ≡ refusal.InFlight)) ⊎ StopsAtPlan old new r

  -- the extent is swept, and it is printed how many chunks were moved off it, and under which root it is retired
  abbrev pub PrintsSweep : ℕ → View D → View D → List ℕ → Type 0
  PrintsSweep extent old new out = (moved root : ℕ) × Sweeps disks extent old new moved root × (out ≡ swept_line extent moved root)

  -- the event of writeback that is due, with its reply
  abbrev pub Steps : View D → View D → List ℕ → Type 0
  Steps old new out = (reply : Reply) × Went disks old ((step_event old.store, reply) ∷ []) new × step_line reply out

  -- what a line that is readable and isn't refused does to the core, and what it prints
  abbrev pub Does : Said → View D → View D → List ℕ → Type 0
  Does (says_put id bytes) old new out = (n : ℕ) × Answered old (Put (record { 0 = id }) bytes) (Accepted n) new (put_line n) out
  Does (says_get id) old new out = ((bytes : List ℕ) × Answered old (Get (record { 0 = id })) (Found bytes) new (value_line bytes) out)
      ⊎ Answered old (Get (record { 0 = id })) Absent new absent_line out
  Does (says_delete id) old new out = ((n : ℕ) × Answered old (Delete (record { 0 = id })) (Accepted n) new (delete_line n) out)
      ⊎ Answered old (Delete (record { 0 = id })) Absent new absent_line out
  Does (says_sweep extent) old new out = PrintsSweep extent old new out
  Does says_sync old new out = PrintsSync old new out
  Does says_step old new out = Steps old new out
  Does says_plan old new out = Plans old new out
  Does says_document old new out = (new ≡ old) × Documents old.store out
  Does says_nothing old new out = (new ≡ old) × (out ≡ [])
  Does (says_crash mask) old new out = ⊥
  Does unreadable old new out = ⊥

  -- what a line does that is refused, and what it prints
  abbrev pub IsDeclined : Said → Refusal → View D → View D → List ℕ → Type 0
  IsDeclined (says_put id bytes) r old new out = Declines old (Put (record { 0 = id }) bytes) r new out
  IsDeclined (says_get id) r old new out = Declines old (Get (record { 0 = id })) r new out
  IsDeclined (says_delete id) r old new out = Declines old (Delete (record { 0 = id })) r new out
  IsDeclined (says_sweep extent) r old new out = IsSweepRefused disks extent old new r × (out ≡ refusal_line r)
  IsDeclined says_sync r old new out = (before : List ℕ) × PrintsStop old new r before × (out ≡ before ++ refusal_line r)
  IsDeclined says_step r old new out = Declines old (step_event old.store) r new out
  IsDeclined says_plan r old new out = IsPlanRefused old new r × (out ≡ refusal_line r)
  IsDeclined says_document r old new out = (new ≡ old) × IsDocumentRefused old.store r × (out ≡ refusal_line r)
  IsDeclined says_nothing r old new out = ⊥
  IsDeclined (says_crash mask) r old new out = ⊥
  IsDeclined unreadable r old new out = ⊥

  -- nothing is done, and it is printed that the line isn't readable
  abbrev pub IsBad : Said → View D → View D → List ℕ → Type 0
  IsBad (says_crash mask) old new out = (new ≡ old) × (out ≡ bad_line)
  IsBad unreadable old new out = (new ≡ old) × (out ≡ bad_line)
  IsBad said old new out = ⊥

  -- what a line does to the core that is answered so, and what it prints. A line `crash` stands here for one that isn't
  -- readable
  abbrev pub AnswersSo : Said → Answer → View D → View D → List ℕ → Type 0
  AnswersSo said Given old new out = Does said old new out
  AnswersSo said Bad old new out = IsBad said old new out
  AnswersSo said (Refused r) old new out = IsDeclined said r old new out

  -- what a line does to the core, and what it prints
  abbrev pub Answers : Said → View D → View D → List ℕ → Type 0
  Answers said old new out = (answer : Answer) × AnswersSo said answer old new out

-- what a line says to a disk of which it is told whether it can crash: where it can't, a line `step` isn't readable
abbrev pub said_to : (can_crash : Bool) → Said → Said
said_to false says_step = unreadable
said_to can_crash said = said

-- the exit status after a line: 1 from the first line on that isn't readable
abbrev pub status_after : Said → ℕ → ℕ
status_after unreadable status = 1
status_after (says_crash mask) status = 1
status_after said status = status

module _ {D : Type 0} (disks : PageDisk D) (can_crash : D → Type 0) (volatile_count : D → ℕ) where
  -- a line is answered by the core, as what it says to the core's disk
  abbrev pub AnswersOver : Said → (old : View D) (status : ℕ) → (new : View D) (after : ℕ) → List ℕ → Type 0
  AnswersOver said old status new after out =
      (can : Bool) × (IsTrue can ↔ can_crash old.disk) × Answers disks (said_to can said) old new out × (after ≡ status_after (said_to can said) status)

  -- a line that isn't a readable `crash` is answered by the core, which makes room first where it has to; and after a
  -- crash the core goes on that is opened then
  abbrev pub GoesOn : Said → (old : View D) (status : ℕ) → (new : View D) (after : ℕ) → List ℕ → Type 0
  GoesOn said old status new after out =
      (((mask : List Bool) → ¬ IsCrash can_crash volatile_count said old mask) × (ready : View D) × MakesRoom old ready × AnswersOver said ready status new after out)
      ⊎ ((mask : List Bool) × IsCrash can_crash volatile_count said old mask × Crashes disks can_crash volatile_count mask old new out × (after ≡ status))

  -- A script runs: nothing is left of it; or its first line is answered and the rest runs; or no store is opened after
  -- a crash, and it ends with no core. Each line ends with a line feed, the last one may end with the text.
  pub data Runs : List ℕ → View D → ℕ → Option (View D) → ℕ → List ℕ → Type 0 where
    ended : (v : View D) (status : ℕ) → Runs [] v status (Some v) status []
    then_runs : (text : List ℕ) (old mid : View D) (new : Option (View D)) (status after last : ℕ) (out rest : List ℕ)
        → text ≢ [] → GoesOn (said_of (first_piece 10 text)) old status mid after out
        → Runs (drop_through 10 text) mid after new last rest
        → Runs text old status new last (out ++ rest)
    unopened : (text : List ℕ) (old : View D) (status : ℕ) (out : List ℕ)
        → text ≢ [] → CrashesForGood disks can_crash volatile_count (said_of (first_piece 10 text)) old out
        → Runs text old status None 3 out
