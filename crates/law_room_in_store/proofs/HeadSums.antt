-- What headers count of chunks, and what room has of them.
use Rattle.std.proofs.Common.{◌≡◌, inl, inr, ℕ, ◌+◌, ◌≤◌, ◌==◌, max, Bool, true, false, List, [], ◌∷◌, ◌++◌, Option, Some, map, if◌then◌else◌, eq-eqb, ne_eqb, add_assoc, le_refl, refl, sym, ap, ap₂, ◌∙◌, subst, arith}
use Rattle.std.proofs.lemmas.Bool.{cases_eq}
use Rattle.law_machine.proofs.Counting.{none_below}
use Rattle.law_machine.specs.Element.{Entry}
use Rattle.law_machine.specs.Index.{Ascending, live, lookup}
use Rattle.law_machine.specs.Lists.{◌∈◌}
use Rattle.law_room.proofs.Chunks.{sum_append}
use Rattle.law_room.proofs.MachineBlank.{in_id}
use Rattle.law_room.proofs.MachineIds.{id_without, other_without}
use Rattle.law_room.specs.OfMachine.{of_id}
use Rattle.law_room.specs.Brim.{greatest_chunk}
use Rattle.law_room.specs.Rooms.{Chunk, live_pages, pages_of, without}
use Rattle.cs_inspect.specs.Chunks.{Chunk as Listed, chunks_from, chunks_of}
use Rattle.cs_inspect.specs.Brim.{greatest_in}
use Rattle.cs_inspect.specs.Uses.{Head, missing_in, pages_in, sum_on}

-- a header counts a chunk where it lies, and as many pages at least; just as many
pub record AtLeast (c : Chunk) (h : Head) : Type 0 where
  pub place : h.0 ≡ c.extent
  pub pages : c.pages ≤ pages_in h.1

pub record Exactly (c : Chunk) (h : Head) : Type 0 where
  pub place : h.0 ≡ c.extent
  pub pages : h.1 ≡ Some c.pages

-- so the headers of a shard's chunks in their order, which room has the last first
abbrev pub Matched : (Chunk → Head → Type 0) → List Chunk → List Head → Type 0
Matched R cs [] = cs ≡ []
Matched R cs (h ∷ hs) = (c : Chunk) × (rest : List Chunk) × (cs ≡ rest ++ c ∷ []) × R c h × Matched R rest hs

pub weaker : (cs : List Chunk) (hs : List Head) → Matched Exactly cs hs → Matched AtLeast cs hs
weaker cs [] none = none
weaker cs (h ∷ hs) (c, rest, is, one, more) = (
  c,
  rest,
  is,
  record { place = one.place; pages = subst (λ (o : Option ℕ). c.pages ≤ pages_in o) (sym one.pages) (le_refl c.pages) },
  weaker rest hs more,
)

sums : (count : Option ℕ → ℕ) (e : ℕ) (xs ys : List Head) → sum_on count e (xs ++ ys) ≡ sum_on count e xs + sum_on count e ys
sums count e [] ys = let same : 0 + sum_on count e ys ≡ sum_on count e ys = omega arith in sym same
sums count e (h ∷ hs) ys = ap (λ (n : ℕ). (if h.0 == e then count h.1 else 0) + n) (sums count e hs ys)
    ∙ sym (add_assoc (if h.0 == e then count h.1 else 0) (sum_on count e hs) (sum_on count e ys))

if_le : (b : Bool) (m n : ℕ) → m ≤ n → (if b then m else 0) ≤ (if b then n else 0)
if_le true m n le = le
if_le false m n le = omega arith

-- ---- of one shard

last_live : (e : ℕ) (rest : List Chunk) (c : Chunk) → live_pages (rest ++ c ∷ []) e ≡ live_pages rest e + (if c.extent == e then c.pages else 0)
last_live e rest c =
    let zero : (if c.extent == e then c.pages else 0) + 0 ≡ (if c.extent == e then c.pages else 0) = omega arith in
    sum_append (λ x. x.extent == e) rest (c ∷ []) ∙ ap (λ (n : ℕ). live_pages rest e + n) zero

shard_least : (e : ℕ) (hs : List Head) (cs : List Chunk) → Matched AtLeast cs hs → live_pages cs e ≤ sum_on pages_in e hs
shard_least e [] cs none = let is : live_pages cs e ≡ 0 = ap (λ (xs : List Chunk). live_pages xs e) none in omega (arith, is)
shard_least e (h ∷ hs) cs (c, rest, is, one, more) =
    let all : live_pages cs e ≡ live_pages rest e + (if c.extent == e then c.pages else 0) =
    ap (λ (xs : List Chunk). live_pages xs e) is ∙ last_live e rest c in
    let here : (if c.extent == e then c.pages else 0) ≤ (if h.0 == e then pages_in h.1 else 0) =
    subst (λ (d : ℕ). (if c.extent == e then c.pages else 0) ≤ (if d == e then pages_in h.1 else 0)) (sym one.place)
    (if_le (c.extent == e) c.pages (pages_in h.1) one.pages) in
    let others : live_pages rest e ≤ sum_on pages_in e hs = shard_least e hs rest more in
    omega (arith, all, here, others)

shard_exact : (e : ℕ) (hs : List Head) (cs : List Chunk) → Matched Exactly cs hs → live_pages cs e ≡ sum_on pages_in e hs
shard_exact e [] cs none = ap (λ (xs : List Chunk). live_pages xs e) none
shard_exact e (h ∷ hs) cs (c, rest, is, one, more) =
    let all : live_pages cs e ≡ live_pages rest e + (if c.extent == e then c.pages else 0) =
    ap (λ (xs : List Chunk). live_pages xs e) is ∙ last_live e rest c in
    let here : (if c.extent == e then c.pages else 0) ≡ (if h.0 == e then pages_in h.1 else 0) =
    sym (ap₂ (λ (d : ℕ) (o : Option ℕ). if d == e then pages_in o else 0) one.place one.pages) in
    let others : live_pages rest e ≡ sum_on pages_in e hs = shard_exact e hs rest more in
    omega (arith, all, here, others)

if_zero : (b : Bool) (n : ℕ) → n ≡ 0 → (if b then n else 0) ≡ 0
if_zero true n is = is
if_zero false n is = refl

shard_readable : (e : ℕ) (hs : List Head) (cs : List Chunk) → Matched Exactly cs hs → sum_on missing_in e hs ≡ 0
shard_readable e [] cs none = refl
shard_readable e (h ∷ hs) cs (c, rest, is, one, more) =
    let here : (if h.0 == e then missing_in h.1 else 0) ≡ 0 =
    ap (λ (o : Option ℕ). if h.0 == e then missing_in o else 0) one.pages ∙ if_zero (h.0 == e) 0 refl in
    let others : sum_on missing_in e hs ≡ 0 = shard_readable e hs rest more in
    omega (arith, here, others)

-- ---- of all

-- the pages of all are those of one shard and those of the others
split : (f : Chunk → Bool) (id : ℕ) (cs : List Chunk) → pages_of f cs ≡ pages_of f (of_id id cs) + pages_of f (without id cs)
split f id [] = refl
split f id (c ∷ cs) = go (c.id == id) (split f id cs)
  where
    go : (b : Bool) → pages_of f cs ≡ pages_of f (of_id id cs) + pages_of f (without id cs)
        → (if f c then c.pages else 0) + pages_of f cs ≡ pages_of f (if b then c ∷ of_id id cs else of_id id cs)
        + pages_of f (if b then without id cs else c ∷ without id cs)
    go true same = omega (arith, same)
    go false same = omega (arith, same)

nothing : (cs : List Chunk) → ((id : ℕ) → of_id id cs ≡ []) → cs ≡ []
nothing [] none = refl
nothing (c ∷ cs) none = absurd (subst (λ (xs : List Chunk). c ∈ xs) (none c.id) (in_id (c ∷ cs) c (inl refl)))

module _ (head : Listed → Head) where
  heads_both : (xs ys : List Listed) → map head (xs ++ ys) ≡ map head xs ++ map head ys
  heads_both [] ys = refl
  heads_both (x ∷ xs) ys = ap (λ (hs : List Head). head x ∷ hs) (heads_both xs ys)

  -- the headers of each shard match its chunks
  abbrev pub AllMatched : (Chunk → Head → Type 0) → List Entry → List Chunk → Type 0
  AllMatched R es cs = (id : ℕ) → Matched R (of_id id cs) (map head (chunks_from id 0 (live (lookup id es))))

  first_matched : (R : Chunk → Head → Type 0) (x : Entry) (es : List Entry) (cs : List Chunk) → AllMatched R (x ∷ es) cs
      → Matched R (of_id x.id cs) (map head (chunks_from x.id 0 x.locators))
  first_matched R x es cs all = subst (λ (b : Bool). Matched R (of_id x.id cs)
      (map head (chunks_from x.id 0 (live (if b then Some x.locators else lookup x.id es))))) (eq-eqb x.id x.id refl) (all x.id)

  rest_matched : (R : Chunk → Head → Type 0) (x : Entry) (es : List Entry) (cs : List Chunk) → Ascending (x ∷ es)
      → AllMatched R (x ∷ es) cs → AllMatched R es (without x.id cs)
  rest_matched R x es cs order all d = elim (cases_eq x.id d) [
    | inl is ↦ subst (λ (k : ℕ). Matched R (of_id k (without x.id cs)) (map head (chunks_from k 0 (live (lookup k es))))) is
        (subst (λ (o : Option (List _)). Matched R (of_id x.id (without x.id cs)) (map head (chunks_from x.id 0 (live o))))
        (sym (none_below x es x.id order (le_refl x.id))) (id_without x.id cs))
    | inr not ↦ subst (λ (xs : List Chunk). Matched R xs (map head (chunks_from d 0 (live (lookup d es)))))
        (sym (other_without d x.id cs (λ is. not (sym is))))
        (subst (λ (b : Bool). Matched R (of_id d cs) (map head (chunks_from d 0 (live (if b then Some x.locators else lookup d es)))))
        (ne_eqb x.id d not) (all d))
  ]

  tail_order : (x : Entry) (es : List Entry) → Ascending (x ∷ es) → Ascending es
  tail_order x [] order = tt
  tail_order x (y ∷ es) order = order.1

  heads_split : (count : Option ℕ → ℕ) (e : ℕ) (x : Entry) (es : List Entry) → sum_on count e (map head (chunks_of (x ∷ es)))
      ≡ sum_on count e (map head (chunks_from x.id 0 x.locators)) + sum_on count e (map head (chunks_of es))
  heads_split count e x es = ap (λ (hs : List Head). sum_on count e hs) (heads_both (chunks_from x.id 0 x.locators) (chunks_of es))
      ∙ sums count e (map head (chunks_from x.id 0 x.locators)) (map head (chunks_of es))

  pub all_least : (e : ℕ) (es : List Entry) (cs : List Chunk) → Ascending es → AllMatched AtLeast es cs
      → live_pages cs e ≤ sum_on pages_in e (map head (chunks_of es))
  all_least e [] cs order all = let none : live_pages cs e ≡ 0 = ap (λ (xs : List Chunk). live_pages xs e) (nothing cs all) in
      omega (arith, none)
  all_least e (x ∷ es) cs order all =
      let one : live_pages (of_id x.id cs) e ≤ sum_on pages_in e (map head (chunks_from x.id 0 x.locators)) =
      shard_least e (map head (chunks_from x.id 0 x.locators)) (of_id x.id cs) (first_matched AtLeast x es cs all) in
      let more : live_pages (without x.id cs) e ≤ sum_on pages_in e (map head (chunks_of es)) =
      all_least e es (without x.id cs) (tail_order x es order) (rest_matched AtLeast x es cs order all) in
      let parts : live_pages cs e ≡ live_pages (of_id x.id cs) e + live_pages (without x.id cs) e = split (λ c. c.extent == e) x.id cs in
      omega (arith, one, more, parts, heads_split pages_in e x es)

  pub all_exact : (e : ℕ) (es : List Entry) (cs : List Chunk) → Ascending es → AllMatched Exactly es cs
      → (live_pages cs e ≡ sum_on pages_in e (map head (chunks_of es))) × (sum_on missing_in e (map head (chunks_of es)) ≡ 0)
  all_exact e [] cs order all = (ap (λ (xs : List Chunk). live_pages xs e) (nothing cs all), refl)
  all_exact e (x ∷ es) cs order all =
      let first = first_matched Exactly x es cs all in
      let one : live_pages (of_id x.id cs) e ≡ sum_on pages_in e (map head (chunks_from x.id 0 x.locators)) =
      shard_exact e (map head (chunks_from x.id 0 x.locators)) (of_id x.id cs) first in
      let read : sum_on missing_in e (map head (chunks_from x.id 0 x.locators)) ≡ 0 =
      shard_readable e (map head (chunks_from x.id 0 x.locators)) (of_id x.id cs) first in
      let more = all_exact e es (without x.id cs) (tail_order x es order) (rest_matched Exactly x es cs order all) in
      let live_more : live_pages (without x.id cs) e ≡ sum_on pages_in e (map head (chunks_of es)) = more.0 in
      let read_more : sum_on missing_in e (map head (chunks_of es)) ≡ 0 = more.1 in
      let parts : live_pages cs e ≡ live_pages (of_id x.id cs) e + live_pages (without x.id cs) e = split (λ c. c.extent == e) x.id cs in (
        omega (arith, one, live_more, parts, heads_split pages_in e x es),
        omega (arith, read, read_more, heads_split missing_in e x es),
      )

-- ---- the greatest

greatest_both : (xs ys : List Head) → greatest_in (xs ++ ys) ≡ max (greatest_in xs) (greatest_in ys)
greatest_both [] ys = none (greatest_in ys)
  where
    none : (n : ℕ) → n ≡ max 0 n
    none n = omega arith
greatest_both (h ∷ hs) ys = turned (pages_in h.1) (greatest_in (hs ++ ys)) (greatest_in hs) (greatest_in ys) (greatest_both hs ys)
  where
    turned : (a b c d : ℕ) → b ≡ max c d → max a b ≡ max (max a c) d
    turned a b c d is = omega (arith, is)

last_greatest : (rest : List Chunk) (c : Chunk) → greatest_chunk (rest ++ c ∷ []) ≡ max c.pages (greatest_chunk rest)
last_greatest [] c = refl
last_greatest (d ∷ rest) c = turned d.pages (greatest_chunk (rest ++ c ∷ [])) c.pages (greatest_chunk rest) (last_greatest rest c)
  where
    turned : (a b c d : ℕ) → b ≡ max c d → max a b ≡ max c (max a d)
    turned a b c d is = omega (arith, is)

shard_greatest : (hs : List Head) (cs : List Chunk) → Matched Exactly cs hs → greatest_chunk cs ≡ greatest_in hs
shard_greatest [] cs none = ap (λ (xs : List Chunk). greatest_chunk xs) none
shard_greatest (h ∷ hs) cs (c, rest, is, one, more) =
    ap (λ (xs : List Chunk). greatest_chunk xs) is ∙ last_greatest rest c
    ∙ ap₂ (λ (n m : ℕ). max n m) (sym (ap (λ (o : Option ℕ). pages_in o) one.pages)) (shard_greatest hs rest more)

-- the greatest of all is that of one shard or that of the others
split_greatest : (id : ℕ) (cs : List Chunk) → greatest_chunk cs ≡ max (greatest_chunk (of_id id cs)) (greatest_chunk (without id cs))
split_greatest id [] = refl
split_greatest id (c ∷ cs) = go (c.id == id) (split_greatest id cs)
  where
    go : (b : Bool) → greatest_chunk cs ≡ max (greatest_chunk (of_id id cs)) (greatest_chunk (without id cs))
        → max c.pages (greatest_chunk cs) ≡ max (greatest_chunk (if b then c ∷ of_id id cs else of_id id cs)) (greatest_chunk (if b then without id cs else c ∷ without id cs))
    go true same = omega (arith, same)
    go false same = omega (arith, same)

module _ (head : Listed → Head) where
  pub greatest_exact : (es : List Entry) (cs : List Chunk) → Ascending es → AllMatched head Exactly es cs → greatest_chunk cs ≡ greatest_in (map head (chunks_of es))
  greatest_exact [] cs order all = ap (λ (xs : List Chunk). greatest_chunk xs) (nothing cs all)
  greatest_exact (x ∷ es) cs order all =
      split_greatest x.id cs
      ∙ ap₂ (λ (n m : ℕ). max n m)
      (shard_greatest (map head (chunks_from x.id 0 x.locators)) (of_id x.id cs) (first_matched head Exactly x es cs all))
      (greatest_exact es (without x.id cs) (tail_order head x es order) (rest_matched head Exactly x es cs order all))
      ∙ sym (ap (λ (hs : List Head). greatest_in hs) (heads_both head (chunks_from x.id 0 x.locators) (chunks_of es))
      ∙ greatest_both (map head (chunks_from x.id 0 x.locators)) (map head (chunks_of es)))
