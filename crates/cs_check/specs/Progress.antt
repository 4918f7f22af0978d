-- How far a view has been read. Private clauses and proofs alone cite it.
use Rattle.std.specs.Prelude.{[], ◌∷◌, ◌++◌, ◌≡◌, ℕ, suc, ◌+◌, ◌-◌, ◌^◌, ◌≤◌, ◌<◌, ◌⊎◌, ◌↔◌, List, All, AllPairs, Contains, Some, length, map, min, slice_get, slice_index, slice_set, take, Vec}
use Rattle.std.specs.Global.{Global}
use Rattle.cs_deps.specs.declared.elements.Element.{Element}
use Rattle.cs_deps.specs.declared.elements.Element.TheVariants.{Plain, Version}
use Rattle.cs_deps.specs.declared.spans.Span.{Span}
use Rattle.cs_deps.specs.Named.{Named, Names, IsInSpan, IsPlain}
use Rattle.cs_deps.specs.Pending.{Pending, WaitsAt, Waits, Needs, SatisfiedBy}
use Rattle.cs_deps.specs.Rounds.{IsListedBefore}
use Rattle.cs_deps.specs.Schedule.{all_of}
use Rattle.cs_check.specs.Documents.{NamesToo}
use Rattle.cs_check.specs.Listing.{IsListedAt, NamesOthers, WaitsBefore, versions_before}

-- 1 to 16 families, with versions below 2^63
abbrev pub HaveFamilies : Pending → Type 0
HaveFamilies g = (1 ≤ length g.persistent) × (length g.persistent ≤ 16) × All (λ v. v < 2 ^ 63) g.persistent

-- d names an element at place k or later
abbrev pub NamesFrom : Pending → Named → ℕ → Type 0
NamesFrom g d k = (j : ℕ) × (x : Element) × (e : Named) × (k ≤ j) × WaitsAt g j x e × Names d x

-- d names no version past the last listed
abbrev pub IsKnown : Named → List ℕ → Type 0
IsKnown d latest = (f v : ℕ) → Names d (Version f v) → v ≤ slice_index latest f

-- the next number, after the last plain write and the last versions
abbrev pub IsNext : ℕ → List ℕ → Element → Type 0
IsNext plain latest (Plain n) = (plain < n) × (n < 2 ^ 63)
IsNext plain latest (Version f v) = (f < length latest) × (v < 2 ^ 63) × (v ≡ slice_index latest f + 1)

-- x, with needs d, keeps the rules at place k, after the last plain write and the last versions
abbrev pub MayStand : Pending → ℕ → ℕ → List ℕ → Element → Named → Type 0
MayStand g k plain latest x d = IsNext plain latest x × IsKnown d latest × (¬ NamesFrom g d k) × NamesOthers g x d

-- the last plain write and the last version of each family among the first k elements
pub record IsUpTo (g : Pending) (k : ℕ) (plain : ℕ) (latest : List ℕ) : Type 0 where
  pub below : (j n : ℕ) (d : Named) → j < k → WaitsAt g j (Plain n) d → n ≤ plain
  pub found : (plain ≡ 0) ⊎ WaitsBefore g k (Plain plain)
  pub families : length latest ≡ length g.persistent
  pub versions : (f : ℕ) → slice_index latest f ≡ slice_index g.persistent f + versions_before g f k

-- the first k elements are listed as they have to be
abbrev pub IsListedTo : Pending → ℕ → Type 0
IsListedTo g k = (j : ℕ) (x : Element) (d : Named) → j < k → WaitsAt g j x d → IsListedAt g j x d

-- the number of the last plain write once this element was listed
abbrev pub plain_after : ℕ → Element → ℕ
plain_after plain (Plain n) = n
plain_after plain (Version f v) = plain

-- the last version of each family once this element was listed
abbrev pub latest_after : List ℕ → Element → List ℕ
latest_after latest (Plain n) = latest
latest_after latest (Version f v) = slice_set latest f v

-- the last version listed of each family, or the persistent one
abbrev pub AreLatest : Pending → List ℕ → Type 0
AreLatest g latest = (f : ℕ) → slice_index latest f ≡ slice_index g.persistent f + versions_before g f (length g.waiting)

-- x stands among the first n elements
abbrev pub StandsBelow : List Element → ℕ → Element → Type 0
StandsBelow xs n x = (i : ℕ) × (i < n) × (slice_get xs i ≡ Some x)

-- the next version, if it waits, needs each waiting element that the version at place k needs
abbrev pub IsNestedAt : Pending → ℕ → Type 0
IsNestedAt g k = (f v : ℕ) (d : Named) (x : Element) → WaitsAt g k (Version f v) d → Names d x → Waits g x → Waits g (Version f (v + 1)) → Needs g (Version f (v + 1)) x

-- e names each waiting element that d names
abbrev pub NamesAsMuch : Pending → Named → Named → Type 0
NamesAsMuch g d e = (k : ℕ) (x : Element) (h : Named) → WaitsAt g k x h → Names d x → Names e x

-- the elements of each round
abbrev pub elements_of : List (Vec Element Global) → List (List Element)
elements_of rounds = map (λ round. round.items) rounds

-- so many rounds don't satisfy x, and one more does if there is one
abbrev pub IsFirst : List (List Element) → Element → ℕ → Type 0
IsFirst rounds x i = (m : ℕ) → m ≤ length rounds → SatisfiedBy (all_of (take m rounds)) x ↔ (i < m)

-- for each waiting element, how many rounds don't satisfy it
abbrev pub AreFirsts : Pending → List (List Element) → List ℕ → Type 0
AreFirsts g rounds firsts = (length firsts ≡ length g.waiting) × ((k : ℕ) (x : Element) (d : Named) → WaitsAt g k x d → IsFirst rounds x (slice_index firsts k))

-- by these numbers each waiting element that d names is satisfied by the first i rounds
abbrev pub AllBefore : Pending → List ℕ → Named → ℕ → Type 0
AllBefore g firsts d i = (k : ℕ) (x : Element) (e : Named) → WaitsAt g k x e → Names d x → slice_index firsts k < i

-- by these numbers each waiting need of a waiting element x is satisfied by the first i rounds
abbrev pub NeedsBefore : Pending → List ℕ → Element → ℕ → Type 0
NeedsBefore g firsts x i = (k : ℕ) (d : Named) → WaitsAt g k x d → AllBefore g firsts d i

-- the element at place i is a need of the next, the last is named by the target
abbrev pub IsLink : Pending → Named → List Element → ℕ → Type 0
IsLink g target chain i = ((x y : Element) → slice_get chain i ≡ Some x → slice_get chain (suc i) ≡ Some y → Needs g y x)
    × ((x : Element) → slice_get chain i ≡ Some x → suc i ≡ length chain → Names target x)

-- with one element more where P holds
abbrev pub AddsIf : Type 0 → List Element → Element → List Element → Type 0
AddsIf P old x new = (P × (new ≡ old ++ x ∷ [])) ⊎ ((P → ⊥) × (new ≡ old))

-- a plain write that is named among the first k elements, or a version that is named of one of the first f families
abbrev pub IsListedTill : Pending → Named → ℕ → ℕ → Element → Type 0
IsListedTill g d k f (Plain n) = WaitsBefore g k (Plain n) × Names d (Plain n)
IsListedTill g d k f (Version c v) = (c < f) × (slice_index g.persistent c < v) × (v ≡ slice_index d.least c)

-- by these numbers the plain write n is satisfied by the first i rounds, if it waits
abbrev pub ArePlainsBefore : Pending → List ℕ → ℕ → ℕ → Type 0
ArePlainsBefore g firsts n i = (k : ℕ) (d : Named) → WaitsAt g k (Plain n) d → slice_index firsts k < i

-- by these numbers the versions of family f up to v that wait are satisfied by the first i rounds
abbrev pub AreVersionsBefore : Pending → List ℕ → ℕ → ℕ → ℕ → Type 0
AreVersionsBefore g firsts f v i = (k w : ℕ) (d : Named) → WaitsAt g k (Version f w) d → w ≤ v → slice_index firsts k < i

-- the least plain write, with this element
abbrev pub plain_floor : ℕ → Element → ℕ
plain_floor floor (Plain n) = min floor n
plain_floor floor (Version f v) = floor

-- a number for each family, less than the version that this element is
abbrev pub version_floors : List ℕ → Element → List ℕ
version_floors floors (Plain n) = floors
version_floors floors (Version f v) = slice_set floors f (min (slice_index floors f) (v - 1))

-- all that is listed from place k on is at least the floor, or more than its family's
pub record AreFloors (g : Pending) (k floor : ℕ) (floors : List ℕ) : Type 0 where
  pub plain : (j n : ℕ) (d : Named) → k ≤ j → WaitsAt g j (Plain n) d → floor ≤ n
  pub version : (j f v : ℕ) (d : Named) → k ≤ j → WaitsAt g j (Version f v) d → slice_index floors f ≤ v - 1

-- the second is the first, the next plain write, or a version of the same family that is no earlier
abbrev pub Follows : Element → Element → Type 0
Follows (Plain m) (Plain n) = (m ≤ n) × (n ≤ m + 1)
Follows (Version f v) (Version g w) = (f ≡ g) × (v ≤ w)
Follows (Plain m) (Version g w) = ⊥
Follows (Version f v) (Plain n) = ⊥

-- what a run names that begins with this plain write, or with any version, and ends with this element
abbrev pub IsBetween : ℕ → Element → Element → Type 0
IsBetween first (Plain l) (Plain n) = (first ≤ n) × (n ≤ l)
IsBetween first (Version f v) (Version g w) = (g ≡ f) × (1 ≤ w) × (w ≤ v)
IsBetween first (Plain l) (Version g w) = ⊥
IsBetween first (Version f v) (Plain n) = ⊥

-- the number of a plain write
abbrev pub number_of : Element → ℕ
number_of (Plain n) = n
number_of (Version f v) = 0

-- these elements name what the run from `first` to `last` names
abbrev pub IsRun : List Element → ℕ → Element → Type 0
IsRun xs first last = (y : Element) → ((x : Element) × Contains xs x × NamesToo x y) ↔ IsBetween first last y

-- so do the first n elements, and the run does not end before it begins
pub record IsRunTo (xs : List Element) (n first : ℕ) (last : Element) : Type 0 where
  pub begins : first ≤ number_of last ⊎ (IsPlain last → ⊥)
  pub names : (y : Element) → ((x : Element) × StandsBelow xs n x × NamesToo x y) ↔ IsBetween first last y

-- an order of elements: versions by family and number, then plain writes
abbrev pub IsBelow : Element → Element → Type 0
IsBelow (Plain m) (Plain n) = m < n
IsBelow (Version f v) (Version g w) = (f < g) ⊎ ((f ≡ g) × (v < w))
IsBelow (Plain m) (Version g w) = ⊥
IsBelow (Version f v) (Plain n) = Unit {0}

-- i is the number of x now, which waits, or x doesn't wait
abbrev pub MarksOne : Pending → Element → ℕ → List ℕ → List ℕ → Type 0
MarksOne g x i old new = ((p : ℕ) × (d : Named) × WaitsAt g p x d × (new ≡ slice_set old p i)) ⊎ ((¬ Waits g x) × (new ≡ old))

-- the round's members have i as their number now, and all else has what it had
pub record Marks (g : Pending) (round : List Element) (i : ℕ) (old new : List ℕ) : Type 0 where
  pub count : length new ≡ length old
  pub each : (k : ℕ) → (slice_index new k ≡ slice_index old k) ⊎ ((slice_index new k ≡ i) × ((x : Element) (d : Named) → WaitsAt g k x d → Contains round x))
  pub members : (x : Element) → Contains round x → (k : ℕ) (d : Named) → WaitsAt g k x d → slice_index new k ≡ i

-- the number of an element is that of a round that satisfies it, or of none; no round from place b on holds it earlier
pub record AreHeld (g : Pending) (rounds : List (List Element)) (b : ℕ) (firsts : List ℕ) : Type 0 where
  pub count : length firsts ≡ length g.waiting
  pub held : (k : ℕ) (x : Element) (d : Named) → WaitsAt g k x d → slice_index firsts k < length rounds → (round : List Element) × (slice_get rounds (slice_index firsts k) ≡ Some round) × SatisfiedBy round x
  pub early : (i k : ℕ) (round : List Element) (x : Element) (d : Named) → b ≤ i → slice_get rounds i ≡ Some round → Contains round x → WaitsAt g k x d → slice_index firsts k ≤ i

-- from place k on no version has a greater number than a later one of its family
pub record AreSpread (g : Pending) (rounds : List (List Element)) (k : ℕ) (firsts families : List ℕ) : Type 0 where
  pub are : AreHeld g rounds 0 firsts
  pub each : length families ≡ length g.persistent
  pub least : (j f v : ℕ) (d : Named) → k ≤ j → WaitsAt g j (Version f v) d → slice_index families f ≤ slice_index firsts j
  pub holds : (f : ℕ) → f < length g.persistent → slice_index families f < length rounds → (j v : ℕ) × (d : Named) × (round : List Element) × (k ≤ j) × WaitsAt g j (Version f v) d × (slice_get rounds (slice_index families f) ≡ Some round) × SatisfiedBy round (Version f v)
  pub rising : (i j f v w : ℕ) (d e : Named) → k ≤ i → i ≤ j → WaitsAt g i (Version f v) d → WaitsAt g j (Version f w) e → slice_index firsts i ≤ slice_index firsts j

-- the element's number, where it is a version, becomes that of its family if that is less, and the family's becomes the same
abbrev pub Lowers : ℕ → Element → List ℕ → List ℕ → List ℕ → List ℕ → Type 0
Lowers k (Plain n) firsts firsts' families families' = (firsts' ≡ firsts) × (families' ≡ families)
Lowers k (Version f v) firsts firsts' families families' = f < length families → k < length firsts
    → (firsts' ≡ slice_set firsts k (min (slice_index firsts k) (slice_index families f))) × (families' ≡ slice_set families f (min (slice_index firsts k) (slice_index families f)))

-- what is listed till then, in the order of documents
pub record ListsTill (g : Pending) (d : Named) (k f : ℕ) (xs : List Element) : Type 0 where
  pub members : (x : Element) → Contains xs x ↔ IsListedTill g d k f x
  pub order : AllPairs IsListedBefore xs

-- the plain writes of a span are added, which wait
pub record Spells (g : Pending) (span : Span) (old new : List Element) : Type 0 where
  pub kept : (x : Element) → Contains old x → Contains new x
  pub added : (n : ℕ) → IsInSpan n span → Contains new (Plain n)
  pub each : (x : Element) → Contains new x → Contains old x ⊎ ((n : ℕ) × (x ≡ Plain n) × IsInSpan n span × Waits g (Plain n))
  pub order : AllPairs IsListedBefore old → ((x : Element) → Contains old x → IsListedBefore x (Plain span.first)) → AllPairs IsListedBefore new
