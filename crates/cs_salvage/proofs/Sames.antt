-- Tests that two values are the same, and what the same frame says.
use Rattle.std.proofs.Common.{◌≡◌, ◌≢◌, ◌∙◌, ◌==◌, ◌&&◌, ℕ, zero, suc, ◌-◌, ◌<◌, Bool, true, false, not, List, [], ◌∷◌, MatchBool, Some, slice_get, length, get_or, bytes_eq, refl, sym, ap, ap₂, subst, arith, eqb-true, eq-eqb, true≢false}
use Rattle.std.proofs.lemmas.Option.{same_Some}
use Rattle.sha2.specs.Sha256.{sha256}
use Rattle.cs_disk.specs.Disk.{Image}
use Rattle.cs_frame.specs.Frames.{page_count}
use Rattle.cs_frame.specs.declared.heads.ChunkHead.{ChunkHead}
use Rattle.cs_frame.specs.declared.identifiers.ShardId.{ShardId}
use Rattle.cs_frame.specs.Geometries.{IsGeometry}
use Rattle.cs_frame.specs.Identifiers.{id_bytes, id_number}
use Rattle.cs_frame.proofs.HeadTelling.{one_head}
use Rattle.cs_frame.proofs.NamedRuns.{id_of_16}
use Rattle.cs_frame.proofs.TestLaws.{equal_bytes, same_bytes}
use Rattle.cs_salvage.specs.declared.parts.Part.{Part}
use Rattle.cs_salvage.specs.declared.parts.Put.{Put}
use Rattle.cs_salvage.specs.declared.searches.Sought.{Sought}
use Rattle.cs_salvage.specs.Parts.{EndsWith, IsChunkAt, IsIdentifier, IsPart, IsSpellable}
use Rattle.std.specs.List.{Contains}
use Rattle.cs_salvage.proofs.Standing.{one_chunk}

-- whatever is read beyond the end, an element inside is one
pub at_any : {A : Type 0} (xs : List A) (k : ℕ) → k < length xs → (d e : A) → get_or xs k d ≡ get_or xs k e
at_any [] k lt d e = absurd (omega (arith, lt))
at_any (x ∷ xs) zero lt d e = refl
at_any (x ∷ xs) (suc k) lt d e = at_any xs k (omega (arith, lt)) d e

-- ---- tests

both_true : (a b : Bool) → a && b ≡ true → (a ≡ true) × (b ≡ true)
both_true true b h = (refl, h)
both_true false b h = absurd (cc h)

same_put : (a b : Put) → bytes_eq a.id.0 b.id.0 && (a.command == b.command) ≡ true → a ≡ b
same_put a b h =
    let both = both_true (bytes_eq a.id.0 b.id.0) (a.command == b.command) h in
    ap₂ (λ (bytes : List ℕ) (command : ℕ). record { id = record { 0 = bytes }; command = command }) (same_bytes a.id.0 b.id.0 both.0) (eqb-true a.command b.command both.1)

put_same : (a b : Put) → a ≡ b → bytes_eq a.id.0 b.id.0 && (a.command == b.command) ≡ true
put_same a b same =
    ap₂ (λ (x y : Bool). x && y) (equal_bytes a.id.0 b.id.0 (ap (λ (p : Put). p.id.0) same)) (eq-eqb a.command b.command (ap (λ (p : Put). p.command) same))

-- the test that two parts are the same
abbrev alike : Part → Part → Bool
alike a b = (a.extent == b.extent) && ((a.page == b.page) && ((a.pages == b.pages)
    && ((bytes_eq a.head.id.0 b.head.id.0 && ((a.head.number == b.head.number) && ((a.head.count == b.head.count) && (a.head.command == b.head.command)))) && (bytes_eq a.store b.store && bytes_eq a.digest b.digest))))

pub parts_same : (a b : Part) → true ≡ alike a b → a ≡ b
parts_same a b is =
    let extent = both_true (a.extent == b.extent) _ (sym is) in
    let page = both_true (a.page == b.page) _ extent.1 in
    let pages = both_true (a.pages == b.pages) _ page.1 in
    let head = both_true _ (bytes_eq a.store b.store && bytes_eq a.digest b.digest) pages.1 in
    let store = both_true (bytes_eq a.store b.store) (bytes_eq a.digest b.digest) head.1 in
    let id = both_true (bytes_eq a.head.id.0 b.head.id.0) _ head.0 in
    let number = both_true (a.head.number == b.head.number) _ id.1 in
    let count = both_true (a.head.count == b.head.count) (a.head.command == b.head.command) number.1 in
    let same_extent = eqb-true a.extent b.extent extent.0 in
    let same_page = eqb-true a.page b.page page.0 in
    let same_pages = eqb-true a.pages b.pages pages.0 in
    let same_bytes_of_id = same_bytes a.head.id.0 b.head.id.0 id.0 in
    let same_number = eqb-true a.head.number b.head.number number.0 in
    let same_count = eqb-true a.head.count b.head.count count.0 in
    let same_command = eqb-true a.head.command b.head.command count.1 in
    let same_store = same_bytes a.store b.store store.0 in
    let same_digest = same_bytes a.digest b.digest store.1 in
    λ i. record {
      extent = same_extent i;
      page = same_page i;
      pages = same_pages i;
      head = record { id = record { 0 = same_bytes_of_id i }; number = same_number i; count = same_count i; command = same_command i };
      store = same_store i;
      digest = same_digest i;
    }

pub parts_differ : (a b : Part) → false ≡ alike a b → a ≢ b
parts_differ a b is same = true≢false (sym (itself b) ∙ ap (λ (p : Part). alike p b) (sym same) ∙ sym is)
  where
    both : (x y : Bool) → x ≡ true → y ≡ true → x && y ≡ true
    both x y p q = ap₂ (λ (v w : Bool). v && w) p q

    number : (n : ℕ) → (n == n) ≡ true
    number n = eq-eqb n n refl

    itself : (p : Part) → alike p p ≡ true
    itself p = both _ _ (number p.extent) (both _ _ (number p.page) (both _ _ (number p.pages)
        (both _ _ (both _ _ (equal_bytes p.head.id.0 p.head.id.0 refl) (both _ _ (number p.head.number) (both _ _ (number p.head.count) (number p.head.command)))) (both _ _ (equal_bytes p.store p.store refl) (equal_bytes p.digest p.digest refl)))))

not_true : (b : Bool) → true ≡ not b → b ≡ false
not_true true h = absurd (cc h)
not_true false h = refl

not_false : (b : Bool) → false ≡ not b → b ≡ true
not_false true h = refl
not_false false h = absurd (cc h)

-- two puts are the same, or aren't
pub puts_differ : (a b : Put) (r : Bool) → r ≡ not (bytes_eq a.id.0 b.id.0 && (a.command == b.command)) → r ≡ true → a ≢ b
puts_differ a b r is told same = true≢false (sym (put_same a b same) ∙ not_true (bytes_eq a.id.0 b.id.0 && (a.command == b.command)) (sym told ∙ is))

pub puts_same : (a b : Put) (r : Bool) → r ≡ not (bytes_eq a.id.0 b.id.0 && (a.command == b.command)) → r ≡ false → a ≡ b
puts_same a b r is told = same_put a b (not_false (bytes_eq a.id.0 b.id.0 && (a.command == b.command)) (sym told ∙ is))

-- bytes that don't differ are the same
pub same_text : (xs ys : List ℕ) → false ≡ not (bytes_eq xs ys) → xs ≡ ys
same_text xs ys is = same_bytes xs ys (not_false (bytes_eq xs ys) is)

pub other_text : (xs ys : List ℕ) → true ≡ not (bytes_eq xs ys) → xs ≢ ys
other_text xs ys is same = true≢false (sym (equal_bytes xs ys same) ∙ not_true (bytes_eq xs ys) is)

-- what a test of bytes says
pub bytes_match : (P Q : Type 0) (xs ys : List ℕ) (r : Bool) → r ≡ bytes_eq xs ys → (xs ≡ ys → P) → (xs ≢ ys → Q) → MatchBool r P Q
bytes_match P Q xs ys true is alike apart = alike (same_bytes xs ys (sym is))
bytes_match P Q xs ys false is alike apart = apart (λ same. true≢false (sym (equal_bytes xs ys same) ∙ sym is))

pub bytes_differ : (P Q : Type 0) (xs ys : List ℕ) (r : Bool) → r ≡ not (bytes_eq xs ys) → (xs ≢ ys → P) → (xs ≡ ys → Q) → MatchBool r P Q
bytes_differ P Q xs ys true is apart alike = apart (λ same. true≢false (sym (equal_bytes xs ys same) ∙ not_true (bytes_eq xs ys) is))
bytes_differ P Q xs ys false is apart alike = alike (same_bytes xs ys (not_false (bytes_eq xs ys) is))

-- the last of a list
last_get : {A : Type 0} (xs : List A) (k : ℕ) (x : A) → slice_get xs k ≡ Some x → (k < length xs) × ((d : A) → get_or xs k d ≡ x)
last_get [] k x is = absurd (cc is)
last_get (y ∷ ys) zero x is = (omega arith, λ d. same_Some y x is)
last_get (y ∷ ys) (suc k) x is = let rest = last_get ys k x is in (omega (arith, rest.0), rest.1)

-- whether it has an identifier
module _ {A : Type 0} (id_of : A → ShardId) where
  pub ends_by : (id : ShardId) (xs : List A) (last : A) (r : Bool) → Some last ≡ slice_get xs (length xs - 1) → r ≡ bytes_eq (id_of last).0 id.0
      → MatchBool r ((x : A) × Contains xs x × (id_of x ≡ id)) ((d : A) → 0 < length xs → id_of (get_or xs (length xs - 1) d) ≢ id)
  ends_by id xs last r is test =
      let there = last_get xs (length xs - 1) last (sym is) in
      bytes_match ((x : A) × Contains xs x × (id_of x ≡ id)) ((d : A) → 0 < length xs → id_of (get_or xs (length xs - 1) d) ≢ id) (id_of last).0 id.0 r test
      (λ same. (last, (length xs - 1, there.0, there.1 last), ap (λ (bytes : List ℕ). record { 0 = bytes }) same))
      (λ apart d some same. apart (ap (λ (i : ShardId). i.0) (sym (ap id_of (there.1 d)) ∙ same)))

-- the part that stands for none
abbrev pub no_part : Part
no_part = record { extent = 0; page = 0; pages = 0; head = record { id = record { 0 = [] }; number = 0; count = 0; command = 0 }; store = []; digest = [] }

-- ---- one frame

same_id : (a b : ShardId) → IsIdentifier a → IsIdentifier b → id_number a ≡ id_number b → a ≡ b
unfolding id_number
same_id a b is also same = ap (λ (bytes : List ℕ). record { 0 = bytes }) (sym (id_of_16 a.0 is.0 is.1) ∙ ap id_bytes same ∙ id_of_16 b.0 also.0 also.1)

-- a payload ends with one head, of one store
pub same_head : (a b : ChunkHead) (front other_front payload : List ℕ) → IsSpellable a front → IsSpellable b other_front → EndsWith a front payload → EndsWith b other_front payload → (a ≡ b) × (front ≡ other_front)
same_head a b front other_front payload is also ends other =
    let told = one_head (id_number a.id) a.number a.count a.command (id_number b.id) b.number b.count b.command front other_front ends.0 other.0 is.2 also.2 is.1 also.1 (sym ends.1 ∙ other.1) in
    let id = same_id a.id b.id is.0 also.0 told.0 in
    (λ i. record { id = id i; number = told.1 i; count = told.2 i; command = told.3 i }, told.4)

-- and at one place there is one part
module _ (sought : Sought) (image : Image) (known : IsGeometry sought.geometry.format sought.geometry.extents sought.geometry.pages sought.geometry.sections) (a b : Part) (extent : a.extent ≡ b.extent) (page : a.page ≡ b.page) where
  moved : (payload : List ℕ) → IsChunkAt sought.geometry image a.extent a.page payload → IsChunkAt sought.geometry image b.extent b.page payload
  moved payload is = subst (λ (n : ℕ). IsChunkAt sought.geometry image n b.page payload) extent (subst (λ (n : ℕ). IsChunkAt sought.geometry image a.extent n payload) page is)

  pub same_part : (payload other : List ℕ) → IsPart sought image a payload → IsPart sought image b other → a ≡ b
  same_part payload other is also =
      let one : payload ≡ other = one_chunk sought.geometry image known b.extent b.page payload other (moved payload is.chunk) also.chunk in
      let pages : a.pages ≡ b.pages = is.pages ∙ ap (λ (xs : List ℕ). page_count (length xs)) one ∙ sym also.pages in
      let head = same_head a.head b.head a.store b.store other is.spellable also.spellable (subst (EndsWith a.head a.store) one is.head) also.head in
      let digest : a.digest ≡ b.digest = is.digest ∙ ap sha256 one ∙ sym also.digest in
      λ i. record { extent = extent i; page = page i; pages = pages i; head = head.0 i; store = head.1 i; digest = digest i }
