-- The index: entries of identifiers, the table over the runs, and what they give of an image.
use Rattle.std.specs.Prelude.{◌≡◌, ◌≢◌, ◌⊎◌, ◌+◌, ◌-◌, ◌<◌, ◌≤◌, ◌∷◌, ◌++◌, ◌==◌, ℕ, suc, true, List, length, Option, Some, None, is_some, [], if◌then◌else◌}
use Rattle.law_machine.specs.Device.{FitsMark, Inside, Page, Shape, is_meant}
use Rattle.law_machine.specs.Element.{Bytes, Content, Damaged, Entry, Locator, Map, Opening, Run}
use Rattle.law_machine.specs.Formats.{ChunkFrame, Formats, RunFrame, Stand, is_long_frame}
use Rattle.law_machine.specs.Lists.{nth, ◌∈◌}
use Rattle.law_machine.specs.Refusal.{Refusal}

-- the entry of an identifier: the first of the list
abbrev pub lookup : ℕ → List Entry → Option (List Locator)
lookup id [] = None
lookup id (x ∷ xs) = if x.id == id then Some x.locators else lookup id xs

-- the entries of the runs, of the newest run first
abbrev pub entries_of : List Run → List Entry
entries_of [] = []
entries_of (run ∷ runs) = run.entries ++ entries_of runs

-- the bytes of these lists, one after another
abbrev pub joined : List (List ℕ) → List ℕ
joined [] = []
joined (c ∷ cs) = c ++ joined cs

-- the bytes of a shard whose chunks have these payloads: the piece of each, one after another
abbrev pub joined_bodies : Formats → (payloads : List (List ℕ)) → List ℕ
joined_bodies F [] = []
joined_bodies F (c ∷ cs) = F.body c ++ joined_bodies F cs

-- the locators of an entry, none where there is no entry or a deletion
abbrev pub live : Option (List Locator) → List Locator
live None = []
live (Some ls) = ls

-- what a merged run has of an entry
abbrev pub if_live : Option (List Locator) → Option (List Locator)
if_live None = None
if_live (Some []) = None
if_live (Some (l ∷ ls)) = Some (l ∷ ls)

-- how many identifiers have an entry
abbrev pub names : List Entry → ℕ
names [] = 0
names (x ∷ xs) = if is_some (lookup x.id xs) then names xs else suc (names xs)

-- by the rule of how much an entry weighs that has so many chunks
module _ (weigh : (chunks : ℕ) → ℕ) where
  -- what an entry weighs, nothing where there is none
  abbrev pub weight : Option (List Locator) → ℕ
  weight None = 0
  weight (Some locators) = weigh (length locators)

  -- what the newest entries of the identifiers weigh together: those of the others behind the first, with it in place of what its
  -- identifier has there
  abbrev pub named_weight : List Entry → ℕ
  named_weight [] = 0
  named_weight (x ∷ xs) = (named_weight xs - weight (lookup x.id xs)) + weigh (length x.locators)

  -- what they weigh with an entry of so many chunks in place of what an identifier has
  abbrev pub weight_with : List Entry → (id chunks : ℕ) → ℕ
  weight_with index id chunks = (named_weight index - weight (lookup id index)) + weigh chunks

  -- what the entries of a run weigh together, each of an identifier of its own
  abbrev pub run_weight : List Entry → ℕ
  run_weight [] = 0
  run_weight (x ∷ xs) = weigh (length x.locators) + run_weight xs

-- the identifiers rise
abbrev pub Ascending : List Entry → Type 0
Ascending [] = Unit {0}
Ascending (x ∷ []) = Unit {0}
Ascending (x ∷ y ∷ xs) = (x.id < y.id) × Ascending (y ∷ xs)

-- the locators of an identifier in an index
abbrev pub live_at : List Entry → ℕ → List Locator
live_at index id = live (lookup id index)

-- no chunk of a shard is on the extent
abbrev pub NothingLive : List Entry → ℕ → Type 0
NothingLive index e = (id : ℕ) (l : Locator) → l ∈ live_at index id → l.extent ≢ e

-- the first live chunk on an extent, by identifier and chunk
pub record FirstLive (index : List Entry) (e id chunk : ℕ) (l : Locator) : Type 0 where
  pub there : nth (live_at index id) chunk ≡ Some l
  pub on_it : l.extent ≡ e
  pub first : (d k : ℕ) (x : Locator) → nth (live_at index d) k ≡ Some x → x.extent ≡ e
      → (id < d) ⊎ ((id ≡ d) × (chunk ≤ k))

-- entries are those of a table, in a run
abbrev pub IsTableRun : (table entries : List Entry) → Type 0
IsTableRun table entries = Ascending entries × ((id : ℕ) → lookup id entries ≡ lookup id table)

-- entries are all that is live in an index, in a run
abbrev pub IsMergedRun : (index entries : List Entry) → Type 0
IsMergedRun index entries = Ascending entries × ((id : ℕ) → lookup id entries ≡ if_live (lookup id index))

-- what a root, the number of its runs and the entries keep to
pub record InBounds (S : Shape) (version commands runs : ℕ) (entries : List Entry) : Type 0 where
  pub some_version : 1 ≤ version
  pub version_fits : version ≤ S.greatest_number
  pub commands_fit : commands ≤ S.greatest_number
  pub few_runs : runs ≤ S.most_runs
  pub weight_fits : named_weight S.weigh entries ≤ S.most_weight
  pub chunks_fit : (id : ℕ) → length (live (lookup id entries)) ≤ S.most_chunks

-- an extent and a page that are there, and a generation and a mark that can be
abbrev pub InRange : Shape → Locator → Type 0
InRange S l = Inside S l.extent l.page × (l.generation ≤ S.greatest_generation) × FitsMark S l.mark

-- the entries of a run
pub record IsRunList (S : Shape) (entries : List Entry) : Type 0 where
  pub some : entries ≢ []
  pub ascending : Ascending entries
  pub weight_fits : run_weight S.weigh entries ≤ S.most_weight
  pub locators : (x : Entry) → x ∈ entries
      → (length x.locators ≤ S.most_chunks) × ((l : Locator) → l ∈ x.locators → InRange S l)

-- a piece of a shard, and what is read after it
abbrev pub after : List ℕ → Content → Content
after piece (Bytes rest) = Bytes (piece ++ rest)
after piece (Damaged f) = Damaged f

module _ (S : Shape) (F : Formats) where
  module _ (img : ℕ → Page) (pointers generations : ℕ → ℕ) where
    -- the locator's generation is its extent's, its page is there and lies below the pointer, and its mark can be
    pub record Passes (l : Locator) : Type 0 where
      pub generation : generations l.extent ≡ l.generation
      pub below : l.page < pointers l.extent
      pub inside : Inside S l.extent l.page
      pub mark : FitsMark S l.mark

    -- each locator of an entry passes
    abbrev pub AllPass : Option (List Locator) → Type 0
    AllPass None = Unit {0}
    AllPass (Some ls) = (l : Locator) → l ∈ ls → Passes l

  -- opening: what is known of the image at open
  module _ (opening : Opening) (img : ℕ → Page) (pointers generations : ℕ → ℕ) where
    -- a frame of these pages lies there, below the pointer, or in an extent that isn't written before it is reset. It
    -- reaches no further than it may, it is the one that the locator means, and it is long enough for what it holds
    pub record Reads (l : Locator) (bs : List Page) : Type 0 where
      pub passes : Passes img pointers generations l
      pub below : (l.page + length bs ≤ pointers l.extent)
          ⊎ ((i : ℕ) → opening.frozen l.extent i l.generation ≡ true)
      pub inside : l.page + length bs ≤ S.pages
      pub within : l.page + length bs ≤ opening.limit l
      pub stand : Stand S F img l.extent l.page bs
      pub marked : is_meant S l.mark bs ≡ true
      pub long : is_long_frame F bs ≡ true

    -- each locator has a frame of that payload
    abbrev pub Chunks : List Locator → List (List ℕ) → Type 0
    Chunks [] [] = Unit {0}
    Chunks (l ∷ ls) (c ∷ cs) = Reads l (F.frame ChunkFrame c) × Chunks ls cs
    Chunks [] (c ∷ cs) = ⊥
    Chunks (l ∷ ls) [] = ⊥

    -- reading these locators one after another gives this: the piece of each payload
    abbrev pub ReadsAs : List Locator → Content → Type 0
    ReadsAs [] content = content ≡ Bytes []
    ReadsAs (l ∷ ls) content =
        ((chunk : List ℕ) × (rest : Content) × Reads l (F.frame ChunkFrame chunk)
        × ReadsAs ls rest × (content ≡ after (F.body chunk) rest))
        ⊎ ((f : Refusal) × (opening.damage l ≡ Some f) × (content ≡ Damaged f))

    -- what an entry gives
    abbrev pub Value : Option (List Locator) → Option Content → Type 0
    Value None v = v ≡ None
    Value (Some []) v = v ≡ None
    Value (Some (l ∷ ls)) v = (content : Content) × ReadsAs (l ∷ ls) content × (v ≡ Some content)

    -- the locator has a chunk, or a damaged one
    abbrev pub Holds : Locator → Type 0
    Holds l = ((f : Refusal) × (opening.damage l ≡ Some f))
        ⊎ ((chunk : List ℕ) × Reads l (F.frame ChunkFrame chunk))

    -- the table over the runs gives this map
    pub record Gives (table : List Entry) (runs : List Run) (m : Map) : Type 0 where
      pub runs_read : (run : Run) → run ∈ runs
          → Reads run.place (F.frame RunFrame (F.run run.entries))
      pub table_passes : (id : ℕ) → AllPass img pointers generations (lookup id table)
      pub visible_pass : (id : ℕ) → AllPass img pointers generations (lookup id (table ++ entries_of runs))
      pub runs_pass : S.hidden_stand ≡ true → (run : Run) → run ∈ runs → (id : ℕ)
          → AllPass img pointers generations (lookup id run.entries)
      pub holds : (id : ℕ) (l : Locator) → l ∈ live (lookup id (table ++ entries_of runs)) → Holds l
      pub values : (id : ℕ) → Value (lookup id (table ++ entries_of runs)) (m id)

-- no shard of this map is damaged
abbrev pub NoneDamaged : Map → Type 0
NoneDamaged m = (id : ℕ) (f : Refusal) → m id ≢ Some (Damaged f)
