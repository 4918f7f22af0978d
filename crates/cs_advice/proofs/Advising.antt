-- What is advised about a store that is damaged or isn't opened.
use Rattle.std.proofs.Common.{◌≡◌, ◌≢◌, ◌∙◌, ◌==◌, ◌&&◌, ◌+◌, ◌-◌, ◌*◌, ◌^◌, ◌/◌, ◌%◌, ◌<◌, ℕ, zero, suc, Bool, true, false, List, [], ◌∷◌, ◌++◌, append_assoc, ap, arith, eqb-true, ltb-true, refl, subst, sym}
use Rattle.std.specs.Prelude.{◌||◌, Option, Some, None, codes, decimal, if◌then◌else◌, min, nat_lt, slice_index}
use Rattle.std.specs.Fmt.{digit_glyph, digits, digits_onto}
use Rattle.std.specs.List.{AllByRecursion}
use Rattle.std.proofs.lemmas.List.{append-nil}
use Rattle.hex.specs.Hex.{encode_lower, encode_with, lower_digits}
use Rattle.cs_refusal.specs.declared.refusals.Refusal.{Refusal}
use Rattle.cs_refusal.specs.declared.refusals.Refusal.TheVariants.{DeviceFault, UnknownNeed, OwnFamily, NotStaged, InFlight, OddLength, BadGeometry, OutOfMemory, BadDocument, NotNested, Uncovered, TooEarly, ChainBroken, ChainShort, BadMagic, BadDigest, BadLength, BadPadding, BadVersion, OutOfOrder, Misplaced, RootLost, Unreadable, Full, TooLarge, IndexFull, NotSweepable, StillLive, WornOut, Reserved, Halted, HistoryFull, NoRound, NotAStore, Unsettled, Occupied, NotEmpty}
use Rattle.cs_refusal.specs.Refusals.{number_of}
use Rattle.cs_disk.specs.declared.fault.SystemFault.{SystemFault}
use Rattle.cs_disk.specs.declared.fault.SystemFault.TheVariants.{Folder, InUse, NoRoom, NotAllowed, NotThere, ReadOnly}
use Rattle.cs_disk.specs.declared.fault.SystemFault.TheVariants as fault
use Rattle.cs_frame.specs.declared.formats.FormatNumber.TheVariants.{Four, Two}
use Rattle.cs_advice.specs.declared.knowns.Content.{Content}
use Rattle.cs_advice.specs.declared.knowns.Content.TheVariants.{Broken, Empty, Foreign, Left, Length, Store, Superseded, Torn, TwoStores, Unknown, Written}
use Rattle.cs_advice.specs.declared.knowns.Known.{Known}
use Rattle.cs_advice.specs.Advised.{advice_text, content_text, damage_text, damaged_text, doctor_text, found_text, length_text, longer_text, misplaced_text, missing_text, no_store_text, not_whole_text, older_text, root_lost_text, system_advice, two_text}
use Rattle.cs_advice.specs.Advices.{asks_doctor, begins, erases, has_word, is_clear, is_of_store}
use Rattle.cs_advice.specs.Members.{number_text}

-- each refusal but these three
pub damage_else : (r : Refusal) (other : List ℕ) → r ≢ Misplaced → r ≢ RootLost → r ≢ NotAStore → damage_text r other ≡ damaged_text
damage_else DeviceFault other a b c = refl
damage_else UnknownNeed other a b c = refl
damage_else OwnFamily other a b c = refl
damage_else NotStaged other a b c = refl
damage_else InFlight other a b c = refl
damage_else OddLength other a b c = refl
damage_else BadGeometry other a b c = refl
damage_else OutOfMemory other a b c = refl
damage_else BadDocument other a b c = refl
damage_else NotNested other a b c = refl
damage_else Uncovered other a b c = refl
damage_else TooEarly other a b c = refl
damage_else ChainBroken other a b c = refl
damage_else ChainShort other a b c = refl
damage_else BadMagic other a b c = refl
damage_else BadDigest other a b c = refl
damage_else BadLength other a b c = refl
damage_else BadPadding other a b c = refl
damage_else BadVersion other a b c = refl
damage_else OutOfOrder other a b c = refl
damage_else Misplaced other a b c = absurd (a refl)
damage_else RootLost other a b c = absurd (b refl)
damage_else Unreadable other a b c = refl
damage_else Full other a b c = refl
damage_else TooLarge other a b c = refl
damage_else IndexFull other a b c = refl
damage_else NotSweepable other a b c = refl
damage_else StillLive other a b c = refl
damage_else WornOut other a b c = refl
damage_else Reserved other a b c = refl
damage_else Halted other a b c = refl
damage_else HistoryFull other a b c = refl
damage_else NoRound other a b c = refl
damage_else NotAStore other a b c = absurd (c refl)
damage_else Unsettled other a b c = refl
damage_else Occupied other a b c = refl
damage_else NotEmpty other a b c = refl

-- ---- words that don't stand in a text

-- no letter of the text is this one
abbrev pub Lacks : (letter : ℕ) → List ℕ → Type 0
Lacks letter text = AllByRecursion (λ x. x ≢ letter) text

other_letter : (w x : ℕ) → x ≢ w → (w == x) ≡ false
other_letter w x differs = go (w == x) refl
  where
    go : (b : Bool) → (w == x) ≡ b → b ≡ false
    go false is = refl
    go true is = absurd (differs (sym (eqb-true w x is)))

itself : (n : ℕ) → (n == n) ≡ true
itself n = grind arith

-- then no word that begins with it begins there
skipped : (w : ℕ) (ws xs rest : List ℕ) → Lacks w xs → has_word (w ∷ ws) (xs ++ rest) ≡ has_word (w ∷ ws) rest
skipped w ws [] rest lacks = refl
skipped w ws (x ∷ xs) rest lacks =
    ap (λ (b : Bool). (b && begins ws (xs ++ rest)) || has_word (w ∷ ws) (xs ++ rest)) (other_letter w x lacks.0) ∙ skipped w ws xs rest lacks.1

-- No word that erases begins in the text, whatever comes behind it.
pub record Passes (text : List ℕ) : Type 0 where
  pub force : (rest : List ℕ) → has_word (codes "--force") (text ++ rest) ≡ has_word (codes "--force") rest
  pub new_one : (rest : List ℕ) → has_word (codes "--new") (text ++ rest) ≡ has_word (codes "--new") rest
  pub removes : (rest : List ℕ) → has_word (codes "`rm ") (text ++ rest) ≡ has_word (codes "`rm ") rest
  pub copies : (rest : List ℕ) → has_word (codes "`dd ") (text ++ rest) ≡ has_word (codes "`dd ") rest

lacking : (text : List ℕ) → Lacks 45 text → Lacks 96 text → Passes text
lacking text dash tick = record {
  force = λ rest. skipped 45 (codes "-force") text rest dash;
  new_one = λ rest. skipped 45 (codes "-new") text rest dash;
  removes = λ rest. skipped 96 (codes "rm ") text rest tick;
  copies = λ rest. skipped 96 (codes "dd ") text rest tick;
}

both_pass : (one other : List ℕ) → Passes one → Passes other → Passes (one ++ other)
both_pass one other p q = record {
  force = λ rest. ap (has_word (codes "--force")) (append_assoc one other rest) ∙ (p.force (other ++ rest) ∙ q.force rest);
  new_one = λ rest. ap (has_word (codes "--new")) (append_assoc one other rest) ∙ (p.new_one (other ++ rest) ∙ q.new_one rest);
  removes = λ rest. ap (has_word (codes "`rm ")) (append_assoc one other rest) ∙ (p.removes (other ++ rest) ∙ q.removes rest);
  copies = λ rest. ap (has_word (codes "`dd ")) (append_assoc one other rest) ∙ (p.copies (other ++ rest) ∙ q.copies rest);
}

none_erases : (text : List ℕ) → Passes text → erases text ≡ false
none_erases text p =
    let at : text ++ [] ≡ text = append-nil text in
    subst (λ (t : List ℕ). erases t ≡ false) at
    (ap (λ (b : Bool). b || has_word (codes "--new") (text ++ []) || has_word (codes "`rm ") (text ++ []) || has_word (codes "`dd ") (text ++ [])) (p.force [])
    ∙ (ap (λ (b : Bool). b || has_word (codes "`rm ") (text ++ []) || has_word (codes "`dd ") (text ++ [])) (p.new_one [])
    ∙ (ap (λ (b : Bool). b || has_word (codes "`dd ") (text ++ [])) (p.removes []) ∙ p.copies [])))

-- ---- numbers and identities

-- a digit's glyph is none of these
no_dash : (d : ℕ) → digit_glyph false d ≢ 45
no_dash d is = go (nat_lt d 10) is
  where
    go : (b : Bool) → (if b then 48 + d else 87 + d) ≡ 45 → ⊥
    go true e = absurd (omega (arith, e))
    go false e = absurd (omega (arith, e))

no_tick : (d : ℕ) → digit_glyph false d ≢ 96
no_tick d is = go (nat_lt d 10) refl is
  where
    go : (b : Bool) → nat_lt d 10 ≡ b → (if b then 48 + d else 87 + d) ≡ 96 → ⊥
    go true lt e = let small : d < 10 = ltb-true d 10 lt in absurd (omega (arith, small, e))
    go false lt e = let nine : d ≡ 9 = omega (arith, e) in absurd (cc (sym lt ∙ ap (λ (k : ℕ). nat_lt k 10) nine))

onto_lack : (w : ℕ) → ((d : ℕ) → digit_glyph false d ≢ w) → (k n : ℕ) (acc : List ℕ) → Lacks w acc → Lacks w (digits_onto k 10 false n acc)
onto_lack w differs zero n acc lacks = lacks
onto_lack w differs (suc k) n acc lacks = one_digit w k n acc (n / 10 == 0) (differs (n % 10), lacks) (onto_lack w differs k (n / 10) (digit_glyph false (n % 10) ∷ acc) (differs (n % 10), lacks))
  where
    one_digit : (w k n : ℕ) (acc : List ℕ) (b : Bool) → Lacks w (digit_glyph false (n % 10) ∷ acc) → Lacks w (digits_onto k 10 false (n / 10) (digit_glyph false (n % 10) ∷ acc))
        → Lacks w (if b then digit_glyph false (n % 10) ∷ acc else digits_onto k 10 false (n / 10) (digit_glyph false (n % 10) ∷ acc))
    one_digit w k n acc true last more = last
    one_digit w k n acc false last more = more

decimal_lacks : (w : ℕ) → ((d : ℕ) → digit_glyph false d ≢ w) → (n : ℕ) → Lacks w (decimal n)
unfolding digits
decimal_lacks w differs n = onto_lack w differs 64 n [] tt

pub decimal_passes : (n : ℕ) → Passes (decimal n)
decimal_passes n = lacking (decimal n) (decimal_lacks 45 no_dash n) (decimal_lacks 96 no_tick n)

index_lacks : (w : ℕ) (table : List ℕ) (i : ℕ) → Lacks w table → 0 ≢ w → slice_index table i ≢ w
index_lacks w [] i lacks none = none
index_lacks w (t ∷ ts) zero lacks none = lacks.0
index_lacks w (t ∷ ts) (suc i) lacks none = index_lacks w ts i lacks.1 none

encoded_lacks : (w : ℕ) (table bytes : List ℕ) → Lacks w table → 0 ≢ w → Lacks w (encode_with table bytes)
unfolding encode_with
encoded_lacks w table [] lacks none = tt
encoded_lacks w table (b ∷ bs) lacks none = (index_lacks w table (b / 16) lacks none, (index_lacks w table (b % 16) lacks none, encoded_lacks w table bs lacks none))

table_lacks : (w : ℕ) (table : List ℕ) → AllByRecursion (λ x. (x == w) ≡ false) table → Lacks w table
table_lacks w [] all = tt
table_lacks w (t ∷ ts) all = ((λ is. let same : (w == w) ≡ false = subst (λ (x : ℕ). (x == w) ≡ false) is all.0 in absurd (cc (sym same ∙ itself w))), table_lacks w ts all.1)

identity_passes : (bytes : List ℕ) → Passes (encode_lower bytes)
identity_passes bytes = lacking (encode_lower bytes)
    (encoded_lacks 45 lower_digits bytes (table_lacks 45 lower_digits (refl, (refl, (refl, (refl, (refl, (refl, (refl, (refl, (refl, (refl, (refl, (refl, (refl, (refl, (refl, (refl, tt))))))))))))))))) (λ e. absurd (omega (arith, e))))
    (encoded_lacks 96 lower_digits bytes (table_lacks 96 lower_digits (refl, (refl, (refl, (refl, (refl, (refl, (refl, (refl, (refl, (refl, (refl, (refl, (refl, (refl, (refl, (refl, tt))))))))))))))))) (λ e. absurd (omega (arith, e))))

-- ---- the advice that has them

number_passes : (before : List ℕ) (n : ℕ) → Passes before → Passes (number_text before n)
number_passes before n p = both_pass before (decimal n) p (decimal_passes n)

plain_found : Passes (doctor_text ++ codes "The file has ")
plain_found = record { force = λ rest. refl; new_one = λ rest. refl; removes = λ rest. refl; copies = λ rest. refl }

plain_pages : Passes (codes " pages, and its superblock says ")
plain_pages = record { force = λ rest. refl; new_one = λ rest. refl; removes = λ rest. refl; copies = λ rest. refl }

plain_too : Passes (codes ": it is too ")
plain_too = record { force = λ rest. refl; new_one = λ rest. refl; removes = λ rest. refl; copies = λ rest. refl }

plain_short : Passes (codes "short by ")
plain_short = record { force = λ rest. refl; new_one = λ rest. refl; removes = λ rest. refl; copies = λ rest. refl }

plain_long : Passes (codes "long by ")
plain_long = record { force = λ rest. refl; new_one = λ rest. refl; removes = λ rest. refl; copies = λ rest. refl }

plain_copy : Passes (codes ". Copy it, `truncate -s ")
plain_copy = record { force = λ rest. refl; new_one = λ rest. refl; removes = λ rest. refl; copies = λ rest. refl }

plain_again : Passes (codes " COPY`, and try again with the copy. If that doesn't open either, `export --salvage` of the copy reads the shards whose frames are there. A device that has grown is opened by `--device-pages ")
plain_again = record { force = λ rest. refl; new_one = λ rest. refl; removes = λ rest. refl; copies = λ rest. refl }

plain_neither : Passes (codes "`. In format 2 there is neither.")
plain_neither = record { force = λ rest. refl; new_one = λ rest. refl; removes = λ rest. refl; copies = λ rest. refl }

plain_two : Passes (codes "The device holds pages of two stores, ")
plain_two = record { force = λ rest. refl; new_one = λ rest. refl; removes = λ rest. refl; copies = λ rest. refl }

plain_first : Passes (codes " on page 0 and ")
plain_first = record { force = λ rest. refl; new_one = λ rest. refl; removes = λ rest. refl; copies = λ rest. refl }

plain_last : Passes (codes " on the last page. Name one by `--id` to read it: nothing is written to such a device.")
plain_last = record { force = λ rest. refl; new_one = λ rest. refl; removes = λ rest. refl; copies = λ rest. refl }

missing_passes : (pages wanted : ℕ) → Passes (missing_text pages wanted)
missing_passes pages wanted = go (nat_lt pages wanted)
  where
    go : (b : Bool) → Passes (if b then number_text (codes "short by ") (wanted - pages) else number_text (codes "long by ") (pages - wanted))
    go true = number_passes (codes "short by ") (wanted - pages) plain_short
    go false = number_passes (codes "long by ") (pages - wanted) plain_long

found_passes : (pages wanted : ℕ) → Passes (found_text pages wanted)
found_passes pages wanted =
    both_pass (number_text (doctor_text ++ codes "The file has ") pages ++ number_text (codes " pages, and its superblock says ") wanted) (codes ": it is too ")
    (both_pass (number_text (doctor_text ++ codes "The file has ") pages) (number_text (codes " pages, and its superblock says ") wanted)
    (number_passes (doctor_text ++ codes "The file has ") pages plain_found) (number_passes (codes " pages, and its superblock says ") wanted plain_pages))
    plain_too

longer_passes : (bytes wanted : ℕ) → Passes (longer_text bytes wanted)
longer_passes bytes wanted =
    let again = codes " COPY`, and try again with the copy. If that doesn't open either, `export --salvage` of the copy reads the shards whose frames are there. A device that has grown is opened by `--device-pages " in
    both_pass (number_text (codes ". Copy it, `truncate -s ") bytes ++ number_text again wanted) (codes "`. In format 2 there is neither.")
    (both_pass (number_text (codes ". Copy it, `truncate -s ") bytes) (number_text again wanted) (number_passes (codes ". Copy it, `truncate -s ") bytes plain_copy) (number_passes again wanted plain_again))
    plain_neither

pub length_keeps : (pages wanted : ℕ) → erases (length_text pages wanted) ≡ false
length_keeps pages wanted =
    let bytes = min (wanted * 4096) (2 ^ 64 - 1) in
    none_erases (length_text pages wanted)
    (both_pass (found_text pages wanted ++ missing_text pages wanted) (longer_text bytes wanted)
    (both_pass (found_text pages wanted) (missing_text pages wanted) (found_passes pages wanted) (missing_passes pages wanted)) (longer_passes bytes wanted))

pub two_keeps : (first last : List ℕ) → erases (two_text first last) ≡ false
two_keeps first last =
    let one = codes "The device holds pages of two stores, " in
    let mid = codes " on page 0 and " in
    let end = codes " on the last page. Name one by `--id` to read it: nothing is written to such a device." in
    none_erases (two_text first last)
    (both_pass (one ++ encode_lower first ++ mid ++ encode_lower last) end
    (both_pass (one ++ encode_lower first ++ mid) (encode_lower last)
    (both_pass (one ++ encode_lower first) mid (both_pass one (encode_lower first) plain_two (identity_passes first)) plain_first)
    (identity_passes last))
    plain_last)

-- ---- what is advised about a store, by each refusal

-- what holds of each text about damage
damage_cases : (P : List ℕ → Type 0) (r : Refusal) (other : List ℕ) → P misplaced_text → P root_lost_text → ((number_of r == 43) ≡ true → P other) → P damaged_text → P (damage_text r other)
damage_cases P DeviceFault other m l o d = d
damage_cases P UnknownNeed other m l o d = d
damage_cases P OwnFamily other m l o d = d
damage_cases P NotStaged other m l o d = d
damage_cases P InFlight other m l o d = d
damage_cases P OddLength other m l o d = d
damage_cases P BadGeometry other m l o d = d
damage_cases P OutOfMemory other m l o d = d
damage_cases P BadDocument other m l o d = d
damage_cases P NotNested other m l o d = d
damage_cases P Uncovered other m l o d = d
damage_cases P TooEarly other m l o d = d
damage_cases P ChainBroken other m l o d = d
damage_cases P ChainShort other m l o d = d
damage_cases P BadMagic other m l o d = d
damage_cases P BadDigest other m l o d = d
damage_cases P BadLength other m l o d = d
damage_cases P BadPadding other m l o d = d
damage_cases P BadVersion other m l o d = d
damage_cases P OutOfOrder other m l o d = d
damage_cases P Misplaced other m l o d = m
damage_cases P RootLost other m l o d = l
damage_cases P Unreadable other m l o d = d
damage_cases P Full other m l o d = d
damage_cases P TooLarge other m l o d = d
damage_cases P IndexFull other m l o d = d
damage_cases P NotSweepable other m l o d = d
damage_cases P StillLive other m l o d = d
damage_cases P WornOut other m l o d = d
damage_cases P Reserved other m l o d = d
damage_cases P Halted other m l o d = d
damage_cases P HistoryFull other m l o d = d
damage_cases P NoRound other m l o d = d
damage_cases P NotAStore other m l o d = o refl
damage_cases P Unsettled other m l o d = d
damage_cases P Occupied other m l o d = d
damage_cases P NotEmpty other m l o d = d

damage_asks : (r : Refusal) (other : List ℕ) → asks_doctor other ≡ true → asks_doctor (damage_text r other) ≡ true
damage_asks r other asks = damage_cases (λ (t : List ℕ). asks_doctor t ≡ true) r other refl refl (λ is. asks) refl

older_asks : (r : Refusal) → (number_of r == 43) ≡ false → asks_doctor (damage_text r older_text) ≡ true
older_asks r other = damage_cases (λ (t : List ℕ). asks_doctor t ≡ true) r older_text refl refl (λ is. absurd (cc (sym is ∙ other))) refl

damage_keeps : (r : Refusal) (other : List ℕ) → erases other ≡ false → erases (damage_text r other) ≡ false
damage_keeps r other keeps = damage_cases (λ (t : List ℕ). erases t ≡ false) r other refl refl (λ is. keeps) refl

content_asks : (content : Content) (r : Refusal) → is_clear r content ≡ false → asks_doctor (content_text content r) ≡ true
content_asks Empty r other = absurd (cc other)
content_asks (Length pages wanted) r other = refl
content_asks (Torn page twin) r other = refl
content_asks Broken r other = refl
content_asks Left r other = refl
content_asks Foreign r other = refl
content_asks (Store Two) r other = older_asks r other
content_asks (Store Four) r other = damage_asks r not_whole_text refl
content_asks (TwoStores first last) r other = absurd (cc other)
content_asks Superseded r other = absurd (cc other)
content_asks Unknown r other = damage_asks r no_store_text refl
content_asks (Written page) r other = damage_asks r no_store_text refl

content_keeps : (content : Content) (r : Refusal) → erases (content_text content r) ≡ false
content_keeps Empty r = refl
content_keeps (Length pages wanted) r = length_keeps pages wanted
content_keeps (Torn page twin) r = refl
content_keeps Broken r = refl
content_keeps Left r = refl
content_keeps Foreign r = refl
content_keeps (Store Two) r = damage_keeps r older_text refl
content_keeps (Store Four) r = damage_keeps r not_whole_text refl
content_keeps (TwoStores first last) r = two_keeps first.0 last.0
content_keeps Superseded r = refl
content_keeps Unknown r = damage_keeps r no_store_text refl
content_keeps (Written page) r = damage_keeps r no_store_text refl

system_keeps : (fault : Option SystemFault) → erases (system_advice fault) ≡ false
system_keeps None = refl
system_keeps (Some NotThere) = refl
system_keeps (Some NotAllowed) = refl
system_keeps (Some Folder) = refl
system_keeps (Some InUse) = refl
system_keeps (Some NoRoom) = refl
system_keeps (Some ReadOnly) = refl
system_keeps (Some fault.Failed) = refl

pub advice_asks : (r : Refusal) (known : Known) → is_of_store r ≡ true → is_clear r known.content ≡ false → asks_doctor (advice_text r known) ≡ true
advice_asks DeviceFault known store other = absurd (cc store)
advice_asks UnknownNeed known store other = absurd (cc store)
advice_asks OwnFamily known store other = absurd (cc store)
advice_asks NotStaged known store other = absurd (cc store)
advice_asks InFlight known store other = absurd (cc store)
advice_asks OddLength known store other = absurd (cc store)
advice_asks BadGeometry known store other = absurd (cc store)
advice_asks OutOfMemory known store other = absurd (cc store)
advice_asks BadDocument known store other = absurd (cc store)
advice_asks NotNested known store other = absurd (cc store)
advice_asks Uncovered known store other = absurd (cc store)
advice_asks TooEarly known store other = absurd (cc store)
advice_asks ChainBroken known store other = absurd (cc store)
advice_asks ChainShort known store other = absurd (cc store)
advice_asks BadMagic known store other = content_asks known.content BadMagic other
advice_asks BadDigest known store other = content_asks known.content BadDigest other
advice_asks BadLength known store other = content_asks known.content BadLength other
advice_asks BadPadding known store other = content_asks known.content BadPadding other
advice_asks BadVersion known store other = content_asks known.content BadVersion other
advice_asks OutOfOrder known store other = content_asks known.content OutOfOrder other
advice_asks Misplaced known store other = content_asks known.content Misplaced other
advice_asks RootLost known store other = content_asks known.content RootLost other
advice_asks Unreadable known store other = refl
advice_asks Full known store other = absurd (cc store)
advice_asks TooLarge known store other = absurd (cc store)
advice_asks IndexFull known store other = absurd (cc store)
advice_asks NotSweepable known store other = absurd (cc store)
advice_asks StillLive known store other = absurd (cc store)
advice_asks WornOut known store other = absurd (cc store)
advice_asks Reserved known store other = absurd (cc store)
advice_asks Halted known store other = absurd (cc store)
advice_asks HistoryFull known store other = absurd (cc store)
advice_asks NoRound known store other = absurd (cc store)
advice_asks NotAStore known store other = content_asks known.content NotAStore other
advice_asks Unsettled known store other = absurd (cc store)
advice_asks Occupied known store other = absurd (cc store)
advice_asks NotEmpty known store other = absurd (cc store)

pub advice_keeps : (r : Refusal) (known : Known) → r ≢ NotEmpty → erases (advice_text r known) ≡ false
advice_keeps DeviceFault known other = system_keeps known.system
advice_keeps UnknownNeed known other = refl
advice_keeps OwnFamily known other = refl
advice_keeps NotStaged known other = refl
advice_keeps InFlight known other = refl
advice_keeps OddLength known other = refl
advice_keeps BadGeometry known other = refl
advice_keeps OutOfMemory known other = refl
advice_keeps BadDocument known other = refl
advice_keeps NotNested known other = refl
advice_keeps Uncovered known other = refl
advice_keeps TooEarly known other = refl
advice_keeps ChainBroken known other = refl
advice_keeps ChainShort known other = refl
advice_keeps BadMagic known other = content_keeps known.content BadMagic
advice_keeps BadDigest known other = content_keeps known.content BadDigest
advice_keeps BadLength known other = content_keeps known.content BadLength
advice_keeps BadPadding known other = content_keeps known.content BadPadding
advice_keeps BadVersion known other = content_keeps known.content BadVersion
advice_keeps OutOfOrder known other = content_keeps known.content OutOfOrder
advice_keeps Misplaced known other = content_keeps known.content Misplaced
advice_keeps RootLost known other = content_keeps known.content RootLost
advice_keeps Unreadable known other = refl
advice_keeps Full known other = refl
advice_keeps TooLarge known other = refl
advice_keeps IndexFull known other = refl
advice_keeps NotSweepable known other = refl
advice_keeps StillLive known other = refl
advice_keeps WornOut known other = refl
advice_keeps Reserved known other = refl
advice_keeps Halted known other = refl
advice_keeps HistoryFull known other = refl
advice_keeps NoRound known other = refl
advice_keeps NotAStore known other = content_keeps known.content NotAStore
advice_keeps Unsettled known other = refl
advice_keeps Occupied known other = refl
advice_keeps NotEmpty known other = absurd (other refl)
