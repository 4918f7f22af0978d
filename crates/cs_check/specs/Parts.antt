-- What the members of a document say, each with what was read before it. Private clauses and proofs alone cite it.
use Rattle.std.specs.Prelude.{◌≡◌, ℕ, List, All, Contains, codes, length}
use Rattle.serde_json.specs.Data.{Data, array}
use Rattle.serde_json.specs.View.{items_of}
use Rattle.cs_deps.specs.declared.elements.Element.{Element}
use Rattle.cs_deps.specs.Named.{Named}
use Rattle.cs_check.specs.Names.{AreLetters, IsName}
use Rattle.cs_check.specs.Documents.{HasMember, AreEntries, NamesThese, elements_in, names_data, numbers_data, letters_data, rounds_data}

-- the letters of the families
pub record HasFamilies (d : Data) (letters : List ℕ) : Type 0 where
  pub distinct : AreLetters letters
  pub member : HasMember d (codes "families") (letters_data letters)

-- what is persistent of each family
pub record HasPersistent (d : Data) (letters versions : List ℕ) : Type 0 where
  pub member : HasMember d (codes "persistent") (numbers_data versions)
  pub count : length versions ≡ length letters

-- what waits
pub record HasElements (d : Data) (letters : List ℕ) (waiting : List (Element × Named)) : Type 0 where
  pub entries : List Data
  pub member : HasMember d (codes "elements") (array (items_of entries))
  pub are : AreEntries letters entries waiting

-- what the target names
pub record HasTarget (d : Data) (letters : List ℕ) (waiting : List (Element × Named)) (target : Named) : Type 0 where
  pub names : List Element
  pub named : All (IsName letters) names
  pub listed : All (Contains (elements_in waiting)) names
  pub member : HasMember d (codes "target") (names_data letters names)
  pub these : NamesThese target names

-- the rounds
pub record HasRounds (d : Data) (letters : List ℕ) (rounds : List (List Element)) : Type 0 where
  pub named : All (All (IsName letters)) rounds
  pub member : HasMember d (codes "rounds") (rounds_data letters rounds)

-- the chain
pub record HasChain (d : Data) (letters : List ℕ) (chain : List Element) : Type 0 where
  pub named : All (IsName letters) chain
  pub member : HasMember d (codes "chain") (names_data letters chain)
