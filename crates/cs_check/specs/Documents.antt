-- What a plan document says, over the values of `serde_json`.
use Rattle.std.specs.Prelude.{◌≡◌, ℕ, ◌≤◌, ◌↔◌, List, [], ◌∷◌, All, Contains, Some, codes, length, map, slice_get, take}
use Rattle.serde_json.specs.Data.{Data, number, string, array, unsigned}
use Rattle.serde_json.specs.Find.{get}
use Rattle.serde_json.specs.View.{items_of}
use Rattle.cs_deps.specs.declared.elements.Element.{Element}
use Rattle.cs_deps.specs.declared.elements.Element.TheVariants.{Plain, Version}
use Rattle.cs_deps.specs.Named.{Named, Names}
use Rattle.cs_deps.specs.Pending.{Pending}
use Rattle.cs_check.specs.Listing.{IsWellFormed}
use Rattle.cs_check.specs.Names.{AreLetters, IsName, name_of}

-- the array of the names
abbrev pub names_data : List ℕ → List Element → Data
names_data letters xs = array (items_of (map (λ x. string (name_of letters x)) xs))

-- the array of the numbers
abbrev pub numbers_data : List ℕ → Data
numbers_data vs = array (items_of (map (λ v. number (unsigned v)) vs))

-- the array of texts of one letter
abbrev pub letters_data : List ℕ → Data
letters_data letters = array (items_of (map (λ c. string (c ∷ [])) letters))

-- the array of arrays of names
abbrev pub rounds_data : List ℕ → List (List Element) → Data
rounds_data letters rounds = array (items_of (map (names_data letters) rounds))

-- The name of a version names the earlier ones too.
abbrev pub NamesToo : Element → Element → Type 0
NamesToo (Plain m) (Plain n) = m ≡ n
NamesToo (Version f v) (Version g w) = (g ≡ f) × (1 ≤ w) × (w ≤ v)
NamesToo (Plain m) (Version g w) = ⊥
NamesToo (Version f v) (Plain n) = ⊥

-- d names what these names name
abbrev pub NamesThese : Named → List Element → Type 0
NamesThese d xs = (y : Element) → Names d y ↔ ((x : Element) × Contains xs x × NamesToo x y)

-- the value has this member
abbrev pub HasMember : Data → List ℕ → Data → Type 0
HasMember d key e = get key d ≡ Some e

-- the elements without their needs
abbrev pub elements_in : List (Element × Named) → List Element
elements_in waiting = map (λ w. w.0) waiting

-- the entry of x, with needs n, each of which is one of those before
pub record IsEntry (letters : List ℕ) (before : List Element) (d : Data) (x : Element) (n : Named) : Type 0 where
  pub name : IsName letters x
  pub element : HasMember d (codes "e") (string (name_of letters x))
  pub needs : (xs : List Element) × All (IsName letters) xs × All (Contains before) xs × HasMember d (codes "needs") (names_data letters xs) × NamesThese n xs

-- one entry for each waiting element, in order
pub record AreEntries (letters : List ℕ) (entries : List Data) (waiting : List (Element × Named)) : Type 0 where
  pub count : length entries ≡ length waiting
  pub each : (k : ℕ) (d : Data) (x : Element) (n : Named) → slice_get entries k ≡ Some d → slice_get waiting k ≡ Some (x, n) → IsEntry letters (take k (elements_in waiting)) d x n

-- The document says this: a view, a target, rounds and a chain, with the families' letters.
pub record IsDocumentOf (d : Data) (letters : List ℕ) (g : Pending) (target : Named) (rounds : List (List Element)) (chain : List Element) : Type 0 where
  pub format : HasMember d (codes "format") (number (unsigned 1))
  pub families : HasMember d (codes "families") (letters_data letters)
  pub distinct : AreLetters letters
  pub persistent : HasMember d (codes "persistent") (numbers_data g.persistent)
  pub count : length g.persistent ≡ length letters
  pub elements : (entries : List Data) × HasMember d (codes "elements") (array (items_of entries)) × AreEntries letters entries g.waiting
  pub named : (xs : List Element) × All (IsName letters) xs × All (Contains (elements_in g.waiting)) xs × HasMember d (codes "target") (names_data letters xs) × NamesThese target xs
  pub taken : All (All (IsName letters)) rounds × HasMember d (codes "rounds") (rounds_data letters rounds)
  pub links : All (IsName letters) chain × HasMember d (codes "chain") (names_data letters chain)
  pub well_formed : IsWellFormed g target rounds chain

-- It is a document.
abbrev pub IsDocument : Data → Type 0
IsDocument d = (letters : List ℕ) × (g : Pending) × (target : Named) × (rounds : List (List Element)) × (chain : List Element) × IsDocumentOf d letters g target rounds chain
