-- The text of a document.
use Rattle.std.specs.Prelude.{◌≡◌, ℕ, ◌≤◌, ◌<◌, ◌⊎◌, ◌↔◌, List, AllPairs, Contains, Some, codes, length, slice_get}
use Rattle.serde_json.specs.Data.{Data, object, member, no_members, number, string, array, unsigned}
use Rattle.serde_json.specs.View.{items_of}
use Rattle.serde_json.specs.Read.{read}
use Rattle.serde_json.specs.Written.{compact_text}
use Rattle.cs_deps.specs.declared.elements.Element.{Element}
use Rattle.cs_deps.specs.declared.elements.Element.TheVariants.{Plain, Version}
use Rattle.cs_deps.specs.Named.{Named, Names}
use Rattle.cs_deps.specs.Pending.{Pending, WaitsAt, Waits, IsPersistent}
use Rattle.cs_deps.specs.Rounds.{IsListedBefore}
use Rattle.cs_check.specs.Listing.{IsWellFormed}
use Rattle.cs_check.specs.Names.{AreLetters, name_of}
use Rattle.cs_check.specs.Documents.{names_data, numbers_data, letters_data, rounds_data, elements_in, IsDocumentOf}

-- its family has a letter
abbrev pub HasLetter : List ℕ → Element → Type 0
HasLetter letters (Plain n) = Unit {0}
HasLetter letters (Version f v) = f < length letters

-- it waits and is named, a version as the greatest of its family
abbrev pub IsGreatest : Pending → Named → Element → Type 0
IsGreatest g d (Plain n) = Waits g (Plain n) × Names d (Plain n)
IsGreatest g d (Version f v) = Waits g (Version f v) × Names d (Version f v) × ((w : ℕ) → Waits g (Version f w) → Names d (Version f w) → w ≤ v)

-- What d names among what waits, in the order of documents: plain writes come first, by number, then one version a family, the greatest.
pub record IsListOf (g : Pending) (d : Named) (xs : List Element) : Type 0 where
  pub members : (x : Element) → Contains xs x ↔ IsGreatest g d x
  pub order : AllPairs IsListedBefore xs

-- d names no version past the last one listed
abbrev pub NamesListed : Pending → Named → Type 0
NamesListed g d = (f v : ℕ) → Names d (Version f v) → IsPersistent g (Version f v) ⊎ Waits g (Version f v)

-- an element with the list of its needs
abbrev pub entry_data : List ℕ → Element → List Element → Data
entry_data letters x xs = object (member (codes "e") (string (name_of letters x)) (member (codes "needs") (names_data letters xs) no_members))

-- the object with these members, in the order of their keys
abbrev pub object_data : Data → Data → Data → Data → Data → Data → Data
object_data chain elements families persistent rounds target = object (
    member (codes "chain") chain (
    member (codes "elements") elements (
    member (codes "families") families (
    member (codes "format") (number (unsigned 1)) (
    member (codes "persistent") persistent (
    member (codes "rounds") rounds (
    member (codes "target") target no_members)))))))

-- the document with these entries, whose target names these
unfoldable pub document_data : List ℕ → List ℕ → List Data → List Element → List (List Element) → List Element → Data
document_data letters persistent entries named rounds chain = object_data (names_data letters chain) (array (items_of entries)) (letters_data letters) (numbers_data persistent) (rounds_data letters rounds) (names_data letters named)

-- one entry for each waiting element, in order
pub record AreWritten (letters : List ℕ) (g : Pending) (entries : List Data) : Type 0 where
  pub count : length entries ≡ length g.waiting
  pub each : (k : ℕ) (e : Data) (x : Element) (d : Named) → slice_get entries k ≡ Some e → WaitsAt g k x d → (xs : List Element) × IsListOf g d xs × (e ≡ entry_data letters x xs)

-- the compact text of the document of a view, a target, rounds and a chain, which reads as that document
abbrev pub IsTextOf : List ℕ → List ℕ → Pending → Named → List (List Element) → List Element → Type 0
IsTextOf text letters g target rounds chain = (entries : List Data) × AreWritten letters g entries × (named : List Element) × IsListOf g target named × (text ≡ compact_text (document_data letters g.persistent entries named rounds chain)) × (read text ≡ Some (document_data letters g.persistent entries named rounds chain))

-- what can be written
pub record HasDocument (letters : List ℕ) (g : Pending) (target : Named) (rounds : List (List Element)) (chain : List Element) : Type 0 where
  pub distinct : AreLetters letters
  pub count : length letters ≡ length g.persistent
  pub well_formed : IsWellFormed g target rounds chain
  pub listed : NamesListed g target

-- They agree on what waits: the same elements and the same names among them, the same rounds and the same chain.
pub record AgreesOnWaiting (letters : List ℕ) (g : Pending) (target : Named) (rounds : List (List Element)) (chain : List Element) (letters' : List ℕ) (h : Pending) (target' : Named) (rounds' : List (List Element)) (chain' : List Element) : Type 0 where
  pub same_letters : letters ≡ letters'
  pub persistent : g.persistent ≡ h.persistent
  pub elements : elements_in g.waiting ≡ elements_in h.waiting
  pub needs : (k : ℕ) (x : Element) (d e : Named) → WaitsAt g k x d → WaitsAt h k x e → (y : Element) → Waits g y → Names d y ↔ Names e y
  pub named : (y : Element) → Waits g y → Names target y ↔ Names target' y
  pub same_rounds : rounds ≡ rounds'
  pub same_chain : chain ≡ chain'

-- whatever this text is read as, it agrees with what was written on all that waits
abbrev pub ReadsAs : List ℕ → List ℕ → Pending → Named → List (List Element) → List Element → Type 0
ReadsAs text letters g target rounds chain = (d : Data) → read text ≡ Some d
    → (letters' : List ℕ) (h : Pending) (target' : Named) (rounds' : List (List Element)) (chain' : List Element) → IsDocumentOf d letters' h target' rounds' chain'
    → AgreesOnWaiting letters g target rounds chain letters' h target' rounds' chain'
