-- What a Stage merges: the table and so many of the newest runs.
use Rattle.std.specs.Prelude.{◌≡◌, ◌≢◌, ◌⊎◌, ◌+◌, ◌*◌, ◌∷◌, ◌++◌, ◌&&◌, ◌||◌, ℕ, suc, Bool, false, List, length, take, drop, nat_le, nat_lt, [], if◌then◌else◌}
use Rattle.law_machine.specs.Append.{AppendsFrameBy}
use Rattle.law_machine.specs.Device.{Shape}
use Rattle.law_machine.specs.Element.{Entry, Locator, Run}
use Rattle.law_machine.specs.Extents.{Purpose}
use Rattle.law_machine.specs.Formats.{Formats, RunFrame}
use Rattle.law_machine.specs.Index.{Ascending, entries_of, if_live, lookup, names}
use Rattle.law_machine.specs.State.{State, index_now}
use Rattle.law_machine.specs.Tally.{dead_weight}

-- the entries of the table and of the newest k runs
abbrev pub part : State → ℕ → List Entry
part s k = s.table ++ entries_of (take k s.runs)

-- how many entries each run has
abbrev pub sizes : List Run → List ℕ
sizes [] = []
sizes (run ∷ runs) = length run.entries ∷ sizes runs

-- entries are those of an index, in a run: without its deletions, or with them
abbrev pub IsRunOf : (deletions_go : Bool) → (index entries : List Entry) → Type 0
IsRunOf deletions_go index entries = Ascending entries
    × ((id : ℕ) → lookup id entries ≡ (if deletions_go then if_live (lookup id index) else lookup id index))

module _ (S : Shape) where
  -- deletions go where the oldest run takes part; up to format 2 not where there was no run
  abbrev pub deletions_go : State → ℕ → Bool
  deletions_go s k = nat_le (length s.runs) k && (S.by_size || nat_lt 0 k)

  -- entries are those of the table and of the newest k runs, in a run
  abbrev pub IsPartRun : State → ℕ → List Entry → Type 0
  IsPartRun s k entries = IsRunOf (deletions_go s k) (part s k) entries

  -- how many runs of these numbers of entries, newest first, are merged with so many entries: on as long as the next has at
  -- most twice as many as those that are merged, and where as many runs would be left as a root may have
  abbrev pub reaching : List ℕ → ℕ → ℕ
  reaching [] size = 0
  reaching (n ∷ ns) size =
      if nat_le n (2 * size) || nat_le S.most_runs (suc (length ns)) then suc (reaching ns (size + n)) else 0

  -- how many of the newest runs a Stage merges by size: all where the deletions weigh at least a quarter of what the newest entries
  -- may weigh
  abbrev pub reached : State → ℕ
  reached s = if nat_le S.most_weight (4 * dead_weight S.weigh (index_now s)) then length s.runs
      else reaching (sizes s.runs) (names s.table)

  -- how many of the newest runs a Stage merges: by size, or else none of up to three, and all of more
  abbrev pub stage_takes : State → ℕ
  stage_takes s = if S.by_size then reached s else (if nat_lt (length s.runs) 4 then 0 else length s.runs)

module _ (S : Shape) (F : Formats) where
  -- the table and the newest k runs become one run in front of the others, or none where it would have no entry
  abbrev pub MergesPart : (apart deletions_go : Bool) → State → Purpose → ℕ → State → List Run → Type 0
  MergesPart apart deletions_go s purpose k t runs =
      ((entries : List Entry) × (l : Locator) × (entries ≢ []) × IsRunOf deletions_go (part s k) entries
      × AppendsFrameBy S F apart s purpose RunFrame (F.run entries) l t
      × (runs ≡ record { place = l; entries = entries } ∷ drop k s.runs))
      ⊎ (IsRunOf deletions_go (part s k) [] × (t ≡ s) × (runs ≡ drop k s.runs))

  -- so does a Stage merge them
  abbrev pub MergesNewest : State → Purpose → ℕ → State → List Run → Type 0
  MergesNewest s purpose k t runs = MergesPart false (deletions_go S s k) s purpose k t runs
