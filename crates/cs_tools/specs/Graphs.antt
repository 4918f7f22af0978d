-- What the command `graph` writes.
use Rattle.std.specs.Prelude.{◌≡◌, ℕ, List, Some}
use Rattle.std.specs.Str.{IsUtf8}
use Rattle.serde_json.specs.Data.{Data}
use Rattle.serde_json.specs.Read.{read}
use Rattle.cs_check.specs.Documents.{IsDocument, IsDocumentOf}
use Rattle.cs_deps.specs.declared.elements.Element.{Element}
use Rattle.cs_deps.specs.Named.{Named}
use Rattle.cs_deps.specs.Pending.{Pending}
use Rattle.cs_picture.specs.Picture.{picture}

-- the bytes are the UTF-8 text of a document
abbrev pub IsDocumentText : List ℕ → Type 0
IsDocumentText text = IsUtf8 text × ((d : Data) × (read text ≡ Some d) × IsDocument d)

-- The text is a plan document, and this is its picture.
pub record IsPictureOf (text drawn : List ℕ) : Type 0 where
  pub value : Data
  pub letters : List ℕ
  pub waits : Pending
  pub target : Named
  pub rounds : List (List Element)
  pub chain : List Element
  pub reads : read text ≡ Some value
  pub document : IsDocumentOf value letters waits target rounds chain
  pub picture_is : drawn ≡ picture letters waits.waiting target rounds chain
