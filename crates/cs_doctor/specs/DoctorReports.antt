-- What the command `doctor` prints.
use Rattle.std.specs.Prelude.{◌≡◌, ◌≤◌, ◌∷◌, ◌++◌, ℕ, List, [], Some, codes, decimal, flat_map, map}
use Rattle.serde_json.specs.Data.{Data, array, depth, number, string, unsigned}
use Rattle.serde_json.specs.Find.{get}
use Rattle.serde_json.specs.View.{items_of}
use Rattle.serde_json.specs.Read.{max_depth, read}
use Rattle.serde_json.specs.Written.{IsInOrder}
use Rattle.cs_doctor.specs.Doctor.{status_of_file}
use Rattle.cs_doctor.specs.Steps.{step_text, steps_in}
use Rattle.cs_doctor.specs.declared.diagnoses.FileDiagnosis.{FileDiagnosis}
use Rattle.cs_doctor.specs.declared.diagnoses.FileDiagnosis.TheVariants as file
use Rattle.cs_doctor.specs.declared.diagnosis_steps.Step.{Step}
use Rattle.cs_advice.specs.declared.outputs.Style.{Style}
use Rattle.cs_advice.specs.declared.outputs.Style.TheVariants.{Json, Text}

-- the line of a command to type
abbrev pub step_line : (file : List ℕ) → Step → List ℕ
step_line name step = codes "  " ++ step_text name step ++ 10 ∷ []

-- the lines of those to type next, where there are any
abbrev pub next_text : (file : List ℕ) → List Step → List ℕ
next_text name [] = []
next_text name (step ∷ steps) = codes "next:\n" ++ flat_map (step_line name) (step ∷ steps)

-- the line of a page on which a section is lost that was made
abbrev pub made_line : (page : ℕ) → List ℕ
made_line page = codes "section on page " ++ decimal page ++ codes " lost, made from the index\n"

-- a page has the lines of these pages, one after another
abbrev pub HasMade : (made : List ℕ) → (text : List ℕ) → Type 0
HasMade made text = (front : List ℕ) × (back : List ℕ) × (text ≡ front ++ flat_map made_line made ++ back)

-- of a disk that was read it has those of all sections that were made as the store was opened
abbrev pub TellsMade : FileDiagnosis → (text : List ℕ) → Type 0
TellsMade (file.Found d) text = HasMade d.made.items text
TellsMade (file.Unopened fault) text = Unit {0}
TellsMade (file.InUse pages geometry) text = Unit {0}
TellsMade (file.OddLength bytes) text = Unit {0}

-- an array of these pages
abbrev pub pages_array : List ℕ → Data
pages_array pages = array (items_of (map (λ page. number (unsigned page)) pages))

-- an object has them as its member of this name
abbrev pub HasMadeIn : (made : List ℕ) → Data → Type 0
HasMadeIn made d = get (codes "made") d ≡ Some (pages_array made)

-- of a disk that was read it has those of all sections that were made
abbrev pub TellsMadeIn : FileDiagnosis → Data → Type 0
TellsMadeIn (file.Found d) what = HasMadeIn d.made.items what
TellsMadeIn (file.Unopened fault) what = Unit {0}
TellsMadeIn (file.InUse pages geometry) what = Unit {0}
TellsMadeIn (file.OddLength bytes) what = Unit {0}

-- A JSON object has the exit status of what was found, these commands to type next, and what was found, with the pages
-- of sections that were made.
pub record IsObjectOf (file : List ℕ) (found : FileDiagnosis) (steps : List Step) (d : Data) : Type 0 where
  pub status : get (codes "status") d ≡ Some (number (unsigned (status_of_file found)))
  pub next : get (codes "next") d ≡ Some (array (items_of (map (λ step. string (step_text file step)) steps)))
  pub what : Data
  pub has_what : get (codes "found") d ≡ Some what
  pub made : TellsMadeIn found what

-- These bytes spell the data as JSON, in order. They read back as it, unless it is deeper than a reader goes.
pub record IsSpelledBy (d : Data) (line : List ℕ) : Type 0 where
  pub order : IsInOrder line d
  pub reads_back : depth d ≤ max_depth → read line ≡ Some d

-- A page that tells each section that was made, and ends with the commands to type next; or the line of a JSON object
-- that has them.
abbrev pub IsReport : Style → (file : List ℕ) → FileDiagnosis → (text : List ℕ) → Type 0
IsReport Text file found text = (page : List ℕ) × TellsMade found page × (text ≡ page ++ next_text file (steps_in found))
IsReport Json file found text = (d : Data) × (line : List ℕ) × IsObjectOf file found (steps_in found) d × IsSpelledBy d line × (text ≡ line ++ 10 ∷ [])
