-- What the command `reclaim` does, and what it leaves as it is.
use Rattle.std.specs.Prelude.{◌≡◌, ◌≢◌, ◌⊎◌, ◌↔◌, ◌≤◌, ◌==◌, ◌∷◌, ◌++◌, [], ℕ, List, Option, true, false, codes, decimal, if◌then◌else◌, length}
use Rattle.std.specs.Io.KnownBytes.{Appends}
use Rattle.cs_refusal.specs.Refusals.{name_of, number_of}
use Rattle.cs_refusal.specs.declared.refusals.Refusal.{Refusal}
use Rattle.cs_refusal.specs.declared.refusals.Refusal.TheVariants.{Full, OutOfMemory, TooLarge}
use Rattle.cs_chunk.specs.Cuts.{IsOversized}
use Rattle.cs_disk.specs.declared.disk.PageDisk.{Ghosts as PageDisk}
use Rattle.cs_core.specs.Views.{View}
use Rattle.cs_writeback.specs.Histories.{MakesRoom}
use Rattle.cs_writeback.specs.Runs.{Ran}
use Rattle.cs_writeback.specs.Sweeps.{IsSweepRefused, MayRefuseSweep, Sweeps}
use Rattle.cs_writeback.specs.Syncs.{MayRefuseSync, StopsSync, Syncs}
use Rattle.cs_extent.specs.State.{extents_of, shape}
use Rattle.law_machine.specs.Extents.{empties}
use Rattle.law_machine.specs.Element.{Map}
use Rattle.cs_store.specs.Maps.{HasMap}
use Rattle.cs_inspect.specs.Choices.{ReadsOn}
use Rattle.cs_inspect.specs.Past.{is_of_chunk}
use Rattle.cs_tools.specs.Aims.{IsFullFor, IsPutAnd, IsSettled, NoneIsChosen, Picks, most_emptied}
use Rattle.cs_tools.specs.Headers.{HasUnreadable, IsLeft}
use Rattle.cs_advice.specs.Members.{member}
use Rattle.cs_advice.specs.Outputs.{quote, refusal_text}
use Rattle.cs_tools.specs.declared.aims.Aim.{Aim}
use Rattle.cs_advice.specs.declared.outputs.Style.{Style}
use Rattle.cs_advice.specs.declared.outputs.Style.TheVariants.{Json, Text}
use Rattle.cs_advice.specs.declared.outcomes.Outcome.{Outcome}
use Rattle.cs_advice.specs.declared.outcomes.Outcome.TheVariants.{Done}
use Rattle.cs_tools.specs.declared.emptyings.Sought.{Sought}
use Rattle.cs_tools.specs.declared.emptyings.Sought.TheVariants.{Found, Nothing}
use Rattle.cs_tools.specs.declared.emptyings.Tried.{Tried}
use Rattle.cs_tools.specs.declared.emptyings.Tried.TheVariants as tried
use Rattle.cs_tools.specs.declared.reclaim_command.Left.{Left}
use Rattle.cs_tools.specs.declared.reclaim_command.Stop.{Stop}
use Rattle.cs_tools.specs.declared.reclaim_command.Stop.TheVariants.{Failed, Refused}

-- an extent of the store holds chunks or runs, never both, as in all formats but 1 and 2
abbrev pub LieApart : {D : Type 0} → View D → Type 0
LieApart v = (shape v.store.extents).apart ≡ true

-- chunks and runs may lie on one, as in format 2
abbrev pub LieTogether : {D : Type 0} → View D → Type 0
LieTogether v = (shape v.store.extents).apart ≡ false

-- how many extents are empty
abbrev pub empty_extents : {D : Type 0} → View D → ℕ
empty_extents v = empties (extents_of v.store.extents).pointer (shape v.store.extents).extents

-- all commands that were accepted are persistent
abbrev pub IsPersistent : {D : Type 0} → View D → Type 0
IsPersistent v = v.store.frontier ≡ v.store.accepted

-- what a sweep or a sync may be refused, want of memory among it
abbrev pub MayRefuseReclaim : Refusal → Type 0
MayRefuseReclaim r = MayRefuseSweep r ⊎ MayRefuseSync r

-- so may what ends it early, or the writer failed
abbrev pub MayStop : Stop → Type 0
MayStop (Refused r) = MayRefuseReclaim r
MayStop Failed = Unit {0}

-- what holds of the refusal that ended it early, if one did
abbrev pub IfRefused : Stop → (Refusal → Type 0) → Type 0
IfRefused (Refused r) Holds = Holds r
IfRefused Failed Holds = Unit {0}

-- ---- what is printed

-- the line of an extent that was emptied: its number, how many of its pages no shard had, and how many chunks were
-- moved off it
abbrev pub emptied_line : Style → (extent dead moved : ℕ) → List ℕ
emptied_line Text extent dead moved = codes "extent " ++ decimal extent ++ codes " emptied: dead pages " ++ decimal dead ++ codes ", chunks moved " ++ decimal moved ++ 10 ∷ []
emptied_line Json extent dead moved =
    123 ∷ member (codes "extent") ++ decimal extent ++ 44 ∷ member (codes "dead") ++ decimal dead ++ 44 ∷ member (codes "moved") ++ decimal moved ++ 125 ∷ 10 ∷ []

-- the members of a refusal's number and name, and the end of the object
abbrev pub passed_members : Refusal → List ℕ
passed_members why = member (codes "passed_over") ++ decimal (number_of why) ++ (44 ∷ member (codes "refusal") ++ quote ∷ name_of why ++ quote ∷ 125 ∷ 10 ∷ [])

-- the line of an extent that was passed over: its number, and the refusal of its sweep
abbrev pub passed_line : Style → (extent : ℕ) → Refusal → List ℕ
passed_line Text extent why = (codes "extent " ++ decimal extent ++ codes " passed over: ") ++ refusal_text why ++ 10 ∷ []
passed_line Json extent why = (123 ∷ member (codes "extent") ++ decimal extent ++ 44 ∷ []) ++ passed_members why

-- the line of how many extents are empty, and how many were before
abbrev pub empty_line : Style → (before after : ℕ) → List ℕ
empty_line Text before after = codes "empty " ++ decimal after ++ codes ", before " ++ decimal before ++ 10 ∷ []
empty_line Json before after = 123 ∷ member (codes "empty") ++ decimal after ++ 44 ∷ member (codes "before") ++ decimal before ++ 125 ∷ 10 ∷ []

-- the line of how many headers couldn't be read
abbrev pub count_line : Style → ℕ → List ℕ
count_line Text n = codes "unreadable " ++ decimal n ++ 10 ∷ []
count_line Json n = 123 ∷ member (codes "unreadable") ++ decimal n ++ 125 ∷ 10 ∷ []

-- the same, if there are any
abbrev pub unreadable_line : Style → ℕ → List ℕ
unreadable_line style n = if n == 0 then [] else count_line style n

-- both lines
abbrev pub left_text : Style → (before after unreadable : ℕ) → List ℕ
left_text style before after unreadable = empty_line style before after ++ unreadable_line style unreadable

-- ---- what is done

-- a step of a reclaim: this extent is emptied, or passed over
pub data Step : Type 0 where
  Emptied : (extent : ℕ) → Step
  PassedOver : (extent : ℕ) → Step

-- of which extent it is
abbrev pub extent_of : Step → ℕ
extent_of (Emptied extent) = extent
extent_of (PassedOver extent) = extent

-- the extents that are passed over after a step, where these were before, the last one at the end
abbrev pub passed_after : Step → (passed : List ℕ) → List ℕ
passed_after (Emptied extent) passed = passed
passed_after (PassedOver extent) passed = passed ++ extent ∷ []

-- those that were passed over in these steps, of which the last is the first of the list
abbrev pub passed_in : List Step → List ℕ
passed_in [] = []
passed_in (step ∷ steps) = passed_after step (passed_in steps)

-- a step was done, and the one holds; or nothing more is to be emptied, and the other does
abbrev pub WhetherFound : Sought → (found nothing : Type 0) → Type 0
WhetherFound Found found nothing = found
WhetherFound (Nothing unreadable) found nothing = nothing

-- no header was left that couldn't be read, and no extent was passed over
abbrev pub IsClean : Left → Type 0
IsClean left = (left.unreadable ≡ 0) × (left.passed_over ≡ 0)

-- one was
abbrev pub IsMarred : Left → Type 0
IsMarred left = (left.unreadable ≢ 0) ⊎ (left.passed_over ≢ 0)

-- the command is done, and not damaged, exactly if no extent was passed over and no header couldn't be read
abbrev pub IsDoneIfWhole : Outcome → List Step → (unreadable : ℕ) → Type 0
IsDoneIfWhole outcome steps unreadable = (outcome ≡ Done) ↔ ((passed_in steps ≡ []) × (unreadable ≡ 0))

-- it is printed how many extents are empty and how many were, and that so many headers couldn't be read
abbrev pub PrintsLeft : {D : Type 0} → Style → (unreadable : ℕ) → (old new : View D) → (before after : Option (List ℕ)) → Type 0
PrintsLeft style unreadable old new before after = Appends before after (left_text style (empty_extents old) (empty_extents new) unreadable)

module _ {D : Type 0} (disks : PageDisk D) where
  -- The core came from what it was by calls, one after another, or by none; its shape is the same, and over an honest
  -- disk its map.
  pub record Tidies (old new : View D) : Type 0 where
    pub ran : Ran disks old new
    pub shape : shape new.store.extents ≡ shape old.store.extents
    pub honest : disks.honest old.disk ↔ disks.honest new.disk
    pub map : disks.honest old.disk → (m : Map) → HasMap old m → HasMap new m

  -- An extent is emptied: room is made in the history, the extent is swept, which moves so many chunks, and then all is
  -- synced.
  pub record Empties (extent moved : ℕ) (old new : View D) : Type 0 where
    pub room : View D
    pub made : MakesRoom old room
    pub swept : View D
    pub root : ℕ
    pub sweeps : Sweeps disks extent room swept moved root
    pub syncs : Syncs disks swept new

  -- An extent is passed over: room is made in the history, its sweep is refused so, which tells of a chunk, and then all
  -- is synced.
  pub record PassesOver (extent : ℕ) (why : Refusal) (old new : View D) : Type 0 where
    pub room : View D
    pub made : MakesRoom old room
    pub given_up : View D
    pub refused : IsSweepRefused disks extent room given_up why
    pub of_chunk : is_of_chunk why ≡ true
    pub syncs : Syncs disks given_up new

  -- it was tried to sweep an extent: it was emptied, or passed over
  abbrev pub Tries : (extent : ℕ) → Tried → (old new : View D) → Type 0
  Tries extent (tried.Emptied moved) old new = Empties extent moved old new
  Tries extent (tried.GivenUp why) old new = PassesOver extent why old new

  -- an extent with so many dead pages is emptied, or it is passed over, and its line is printed
  abbrev pub Handles : Style → (dead : ℕ) → Step → (old new : View D) → (before after : Option (List ℕ)) → Type 0
  Handles style dead (Emptied extent) old new before after = (moved : ℕ) × Empties extent moved old new × Appends before after (emptied_line style extent dead moved)
  Handles style dead (PassedOver extent) old new before after = (why : Refusal) × PassesOver extent why old new × Appends before after (passed_line style extent why)

  -- this extent with so many dead pages is emptied, or passed over, and then these are passed over
  abbrev pub HandlesExtent : Style → (extent dead : ℕ) → (passed next : List ℕ) → (old new : View D) → (before after : Option (List ℕ)) → Type 0
  HandlesExtent style extent dead passed next old new before after = (step : Step) × (extent_of step ≡ extent) × Handles style dead step old new before after × (next ≡ passed_after step passed)

  -- A step: an extent is chosen by what was read, past those that were passed over before. It is emptied, or it is passed
  -- over, and its line is printed.
  abbrev pub DoesStep : Aim → Style → (passed : List ℕ) → Step → (old new : View D) → (before after : Option (List ℕ)) → Type 0
  DoesStep aim style passed step old new before after = (read : View D) × (dead : ℕ) × ReadsOn disks old read × Picks disks aim passed old read (extent_of step) dead × Handles style dead step read new before after

  -- a step is done, and then these are passed over
  abbrev pub DoesOne : Aim → Style → (passed next : List ℕ) → (old new : View D) → (before after : Option (List ℕ)) → Type 0
  DoesOne aim style passed next old new before after = (step : Step) × DoesStep aim style passed step old new before after × (next ≡ passed_after step passed)

  -- these steps are done, one after another, the first of the list last
  abbrev pub DoesSteps : Aim → Style → List Step → (old new : View D) → (before after : Option (List ℕ)) → Type 0
  DoesSteps aim style [] old new before after = (new ≡ old) × (after ≡ before)
  DoesSteps aim style (step ∷ steps) old new before after = (mid : View D) × (between : Option (List ℕ)) × DoesSteps aim style steps old mid before between
      × DoesStep aim style (passed_in steps) step mid new between after

  -- steps are done until nothing more is to be emptied, or until as many were done as may be; then it is only read
  abbrev pub EmptiesAll : Aim → Style → List Step → (old new : View D) → (before after : Option (List ℕ)) → Type 0
  EmptiesAll aim style steps old new before after = (length steps ≤ most_emptied aim (shape old.store.extents).extents) × (last : View D) × DoesSteps aim style steps old last before after
      × ReadsOn disks last new × (IsSettled disks aim (passed_in steps) last ⊎ (length steps ≡ most_emptied aim (shape old.store.extents).extents))

  -- steps are done until none is chosen, or until as many were done as may be; then it is only read, and the put that is
  -- aimed at has no room
  abbrev pub EmptiesInVain : Aim → Style → List Step → (old new : View D) → (before after : Option (List ℕ)) → Type 0
  EmptiesInVain aim style steps old new before after = (length steps ≤ most_emptied aim (shape old.store.extents).extents) × (last : View D) × DoesSteps aim style steps old last before after
      × ReadsOn disks last new × (NoneIsChosen disks aim (passed_in steps) last ⊎ (length steps ≡ most_emptied aim (shape old.store.extents).extents)) × IsPutAnd aim (IsFullFor new.store.extents)

  -- steps are done, in which so many extents are passed over
  abbrev pub EmptiesPast : Aim → Style → (passed_over : ℕ) → (old new : View D) → (before after : Option (List ℕ)) → Type 0
  EmptiesPast aim style passed_over old new before after = (steps : List Step) × (passed_over ≡ length (passed_in steps)) × EmptiesAll aim style steps old new before after

  -- all is emptied, and then that is printed
  abbrev pub Reclaims : Aim → Style → List Step → (unreadable : ℕ) → (old new : View D) → (before after : Option (List ℕ)) → Type 0
  Reclaims aim style steps unreadable old new before after = (between : Option (List ℕ)) × EmptiesAll aim style steps old new before between × PrintsLeft style unreadable old new between after

  -- that in steps in which so much is left
  abbrev pub ReclaimsPast : Aim → Style → Left → (old new : View D) → (before after : Option (List ℕ)) → Type 0
  ReclaimsPast aim style left old new before after = (steps : List Step) × (left.passed_over ≡ length (passed_in steps)) × Reclaims aim style steps left.unreadable old new before after

  -- a header can't be read, or a read failed, as the extents were looked at last; or an extent was passed over
  abbrev pub IsDamagedFor : Aim → Style → (old new : View D) → (before after : Option (List ℕ)) → Type 0
  IsDamagedFor aim style old new before after = ((last : View D) × ReadsOn disks last new × HasUnreadable disks last new)
      ⊎ ((steps : List Step) × (unreadable : ℕ) × Reclaims aim style steps unreadable old new before after × (passed_in steps ≢ []))

  -- a sweep of an extent is over: it was swept, or the sweep was refused so that it tells of a chunk
  abbrev pub IsSweepOver : (extent : ℕ) → (room swept : View D) → Type 0
  IsSweepOver extent room swept = ((moved : ℕ) × (root : ℕ) × Sweeps disks extent room swept moved root)
      ⊎ ((why : Refusal) × IsSweepRefused disks extent room swept why × (is_of_chunk why ≡ true))

  -- the sweep of an extent is refused so, which tells of no chunk; or the sweep is over, and the sync after it is refused
  abbrev pub StopsEmptying : (extent : ℕ) → (old new : View D) → Refusal → Type 0
  StopsEmptying extent old new r = (room : View D) × MakesRoom old room
      × ((IsSweepRefused disks extent room new r × (is_of_chunk r ≡ false)) ⊎ ((swept : View D) × IsSweepOver extent room swept × StopsSync disks swept r new))

  -- memory runs out as the extents are looked at; or one is chosen by what was read, past those that are passed over,
  -- and its sweep is refused so, or the sync after it
  abbrev pub StopsNext : Aim → (passed : List ℕ) → (old new : View D) → Refusal → Type 0
  StopsNext aim passed old new r = ((r ≡ OutOfMemory) × ReadsOn disks old new)
      ⊎ ((read : View D) × (extent : ℕ) × (dead : ℕ) × ReadsOn disks old read × Picks disks aim passed old read extent dead × StopsEmptying extent read new r)

  -- steps are done, and then it is refused so
  abbrev pub StopsLater : Aim → Style → (old new : View D) → (before after : Option (List ℕ)) → Refusal → Type 0
  StopsLater aim style old new before after r = (steps : List Step) × (last : View D) × DoesSteps aim style steps old last before after × StopsNext aim (passed_in steps) last new r

  -- the put that is aimed at has no room, though all is emptied: the lines are printed, and it is refused 30
  abbrev pub StopsFull : Aim → Style → (old new : View D) → (before after : Option (List ℕ)) → Refusal → Type 0
  StopsFull aim style old new before after r = (r ≡ Full) × (steps : List Step) × (unreadable : ℕ) × IsLeft disks unreadable new
      × (between : Option (List ℕ)) × EmptiesInVain aim style steps old new before between × PrintsLeft style unreadable old new between after

  -- the put that is aimed at is too large for a shard: it is refused 31, and nothing is done
  abbrev pub StopsAtOnce : Aim → (old new : View D) → (before after : Option (List ℕ)) → Refusal → Type 0
  StopsAtOnce aim old new before after r = (r ≡ TooLarge) × IsPutAnd aim (IsOversized (shape old.store.extents)) × (new ≡ old) × (after ≡ before)

  -- it is refused so in one of these ways
  abbrev pub StopsReclaim : Aim → Style → (old new : View D) → (before after : Option (List ℕ)) → Refusal → Type 0
  StopsReclaim aim style old new before after r = StopsAtOnce aim old new before after r ⊎ StopsLater aim style old new before after r ⊎ StopsFull aim style old new before after r
