-- A request is read as it is spelled.
use Rattle.std.proofs.Common.{◌≡◌, ◌≢◌, ◌⊎◌, ◌∙◌, ℕ, zero, suc, ◌-◌, ◌^◌, ◌<◌, ◌≤◌, Bool, true, false, cond, List, [], ◌∷◌, ◌++◌, length, take, drop, Ok, Err, refl, sym, ap, subst, inl, inr, eqb, ltb, arith, length-append, length-take}
use Rattle.std.specs.List.{flat_map, AllByRecursion}
use Rattle.std.specs.Fmt.{decimal}
use Rattle.std.specs.Prelude.{nat_le}
use Rattle.std.proofs.lemmas.Bool.{eqb-true, ltb-false, ltb-true, le-ltb}
use Rattle.std.proofs.lemmas.Bool.Decides.{nat_tests}
use Rattle.std.proofs.lemmas.List.{append-nil, take_at, drop_at, take-append-drop, nil_from_length}
use Rattle.std.proofs.lemmas.List.Concat.{flat_map-cons}
use Rattle.cs_resp.specs.declared.faults.Fault.{Fault}
use Rattle.cs_resp.specs.declared.faults.Fault.TheVariants.{NotAnArray, NestedArray, NotABulk, TooManyArguments, NoBulkEnd}
use Rattle.cs_resp.specs.declared.faults.End.TheVariants.{More, Wrong}
use Rattle.cs_resp.specs.declared.limits.Limits.{Limits}
use Rattle.cs_resp.specs.Spelling.{line_end, spelled_bulk, spelled_request}
use Rattle.cs_resp.specs.Requests.{IsWithin, total}
use Rattle.cs_resp.specs.Reading.{◌>>=◌, byte_at, line_end_at, number_at, bytes_at, text_at, bulk_sign_at, longest, too_long, argument_at, arguments_at, request_at}
use Rattle.cs_resp.proofs.Readers.{Skips, Reads, chosen, ok_is, done, ended, known, byte_skips, skip_then, reads_then, reads_none, reads_as}
use Rattle.cs_resp.proofs.Digits.{breaks, number_reads}

-- ---- so many bytes

abbrev AreSoMany : ℕ → List ℕ → List ℕ → Type 0
AreSoMany n bytes text = (length text ≡ n) × (text ≡ bytes)

abbrev split : ℕ → List ℕ → List ℕ × List ℕ
split n bytes = (take n bytes, drop n bytes)

zeros : (n : ℕ) → (xs : List ℕ) × (length xs ≡ n)
zeros zero = ([], refl)
zeros (suc n) = let xs = zeros n in (0 ∷ xs.0, ap suc xs.1)

bytes_take : (n : ℕ) (bytes : List ℕ) (x : List ℕ × List ℕ) → bytes_at n bytes ≡ Ok x → (text : List ℕ) × AreSoMany n x.0 text × (bytes ≡ text ++ x.1)
bytes_take n bytes x h = by_test (chosen (ltb (length bytes) n) (Err More) (done (split n bytes)) (Ok x) h)
  where
    by_test : ((ltb (length bytes) n ≡ true) × (Err More ≡ done x)) ⊎ ((ltb (length bytes) n ≡ false) × (done (split n bytes) ≡ Ok x)) → (text : List ℕ) × AreSoMany n x.0 text × (bytes ≡ text ++ x.1)
    by_test (inl (test, is)) = absurd cc
    by_test (inr (test, is)) =
        let e = ok_is (known (take n bytes) (drop n bytes)) x is in
        let long : n ≤ length bytes = ltb-false (length bytes) n test in
        subst (λ (y : List ℕ × List ℕ). (text : List ℕ) × AreSoMany n y.0 text × (bytes ≡ text ++ y.1)) e (take n bytes, (omega (arith, length-take n bytes), refl), sym (take-append-drop n bytes))

bytes_again : (n : ℕ) (a text rest : List ℕ) → AreSoMany n a text → bytes_at n (text ++ rest) ≡ Ok (a, rest)
bytes_again n a text rest (len, is) =
    let long : ltb (length (text ++ rest)) n ≡ false = le-ltb (length (text ++ rest)) n (omega (arith, length-append text rest)) in
    rw (long, take_at text rest n len, drop_at text rest n len, is) refl

bytes_more : (n : ℕ) (bytes : List ℕ) → bytes_at n bytes ≡ Err More → (a text tail : List ℕ) × AreSoMany n a text × (tail ≢ []) × (bytes ++ tail ≡ text)
bytes_more n bytes h = by_test (chosen (ltb (length bytes) n) (Err More) (done (split n bytes)) (Err More) h)
  where
    by_test : ((ltb (length bytes) n ≡ true) × (ended {A = List ℕ × List ℕ} More ≡ Err More)) ⊎ ((ltb (length bytes) n ≡ false) × (done (split n bytes) ≡ Err More)) → (a text tail : List ℕ) × AreSoMany n a text × (tail ≢ []) × (bytes ++ tail ≡ text)
    by_test (inl (test, is)) =
        let short : length bytes < n = ltb-true (length bytes) n test in
        let z = zeros (n - length bytes) in
        let len : length (bytes ++ z.0) ≡ n = omega (arith, length-append bytes z.0, z.1) in
        (bytes ++ z.0, bytes ++ z.0, z.0, (len, refl), (λ e. absurd (omega (arith, ap length e, z.1, short))), refl)
    by_test (inr (test, is)) = absurd cc

bytes_stay : (n : ℕ) (bytes tail : List ℕ) (fault : Fault) → bytes_at n bytes ≡ Err (Wrong fault) → bytes_at n (bytes ++ tail) ≡ Err (Wrong fault)
bytes_stay n bytes tail fault h = by_test (ltb (length bytes) n) h
  where
    by_test : (t : Bool) → cond t (Err More) (done (split n bytes)) ≡ Err (Wrong fault) → bytes_at n (bytes ++ tail) ≡ Err (Wrong fault)
    by_test true h = absurd cc
    by_test false h = absurd cc

bytes_read : (n : ℕ) → Reads (bytes_at n) (AreSoMany n)
bytes_read n = let z = zeros n in record { takes = bytes_take n; again = bytes_again n; more = bytes_more n; stays = bytes_stay n; some = (z.0, z.0, (z.1, refl)) }

-- ---- bytes and a line break

abbrev IsText : ℕ → List ℕ → List ℕ → Type 0
IsText n bytes text = (length bytes ≡ n) × (text ≡ bytes ++ line_end)

ends_text : (bytes : List ℕ) → Reads (λ rest. line_end_at NoBulkEnd rest >>= λ more. Ok (bytes, more)) (λ a text. (own : List ℕ) × ((a ≡ bytes) × (own ≡ [])) × (text ≡ line_end ++ own))
ends_text bytes = skip_then (line_end_at NoBulkEnd) line_end (λ more. Ok (bytes, more)) (λ a text. (a ≡ bytes) × (text ≡ [])) (breaks NoBulkEnd) (reads_none bytes)

abbrev IsTextInParts : ℕ → List ℕ → List ℕ → Type 0
IsTextInParts n b text = (a front back : List ℕ) × AreSoMany n a front × ((own : List ℕ) × ((b ≡ a) × (own ≡ [])) × (back ≡ line_end ++ own)) × (text ≡ front ++ back)

text_to : (n : ℕ) (b text : List ℕ) → IsTextInParts n b text → IsText n b text
text_to n b text (a, front, back, (len, is), (own, (same, none), behind), whole) =
    let front_is : front ≡ b = is ∙ sym same in
    let back_is : back ≡ line_end = behind ∙ ap (λ (x : List ℕ). line_end ++ x) none ∙ append-nil line_end in
    (ap length (sym front_is) ∙ len, whole ∙ ap (λ (x : List ℕ). x ++ back) front_is ∙ ap (λ (x : List ℕ). b ++ x) back_is)

text_from : (n : ℕ) (b text : List ℕ) → IsText n b text → IsTextInParts n b text
text_from n b text (len, is) = (b, b, line_end, (len, refl), ([], (refl, refl), sym (append-nil line_end)), is)

text_reads : (n : ℕ) → Reads (text_at n) (IsText n)
unfolding text_at
text_reads n = reads_as (text_at n) (IsTextInParts n) (IsText n)
    (reads_then (bytes_at n) (AreSoMany n) (λ bytes rest. line_end_at NoBulkEnd rest >>= λ more. Ok (bytes, more)) (λ bytes a text. (own : List ℕ) × ((a ≡ bytes) × (own ≡ [])) × (text ≡ line_end ++ own)) (bytes_read n) ends_text)
    (text_to n) (text_from n)

-- ---- an argument

sign_takes : (bytes rest : List ℕ) → bulk_sign_at bytes ≡ Ok rest → bytes ≡ 36 ∷ rest
sign_takes [] rest h = absurd cc
sign_takes (b ∷ bs) rest h = by_test (chosen (eqb b 36) (done bs) (Err (Wrong (cond (eqb b 42) NestedArray NotABulk))) (Ok rest) h)
  where
    by_test : ((eqb b 36 ≡ true) × (done bs ≡ Ok rest)) ⊎ ((eqb b 36 ≡ false) × (Err (Wrong (cond (eqb b 42) NestedArray NotABulk)) ≡ done rest)) → b ∷ bs ≡ 36 ∷ rest
    by_test (inl (test, is)) = let same : b ≡ 36 = eqb-true b 36 test in cc
    by_test (inr (test, is)) = absurd cc

sign_more : (bytes : List ℕ) → bulk_sign_at bytes ≡ Err More → (tail : List ℕ) × (tail ≢ []) × (bytes ++ tail ≡ 36 ∷ [])
sign_more [] h = (36 ∷ [], (λ e. absurd cc), refl)
sign_more (b ∷ bs) h = by_test (eqb b 36) h
  where
    by_test : (t : Bool) → cond t (done bs) (Err (Wrong (cond (eqb b 42) NestedArray NotABulk))) ≡ Err More → (tail : List ℕ) × (tail ≢ []) × ((b ∷ bs) ++ tail ≡ 36 ∷ [])
    by_test true h = absurd cc
    by_test false h = absurd cc

sign_stays : (bytes tail : List ℕ) (fault : Fault) → bulk_sign_at bytes ≡ Err (Wrong fault) → bulk_sign_at (bytes ++ tail) ≡ Err (Wrong fault)
sign_stays [] tail fault h = absurd cc
sign_stays (b ∷ bs) tail fault h = by_test (eqb b 36) h
  where
    by_test : (t : Bool) → cond t (done bs) (Err (Wrong (cond (eqb b 42) NestedArray NotABulk))) ≡ Err (Wrong fault) → cond t (done (bs ++ tail)) (Err (Wrong (cond (eqb b 42) NestedArray NotABulk))) ≡ Err (Wrong fault)
    by_test true h = absurd cc
    by_test false h = h

sign_skips : Skips bulk_sign_at (36 ∷ [])
sign_skips = record { takes = sign_takes; again = λ rest. refl; more = sign_more; stays = sign_stays }

abbrev IsArgument : ℕ → List ℕ → List ℕ → Type 0
IsArgument most word text = (length word ≤ most) × (text ≡ spelled_bulk word)

abbrev IsArgumentInParts : ℕ → List ℕ → List ℕ → Type 0
IsArgumentInParts most word text = (own : List ℕ) × ((n : ℕ) × (front back : List ℕ) × ((n ≤ most) × (front ≡ decimal n ++ line_end)) × IsText n word back × (own ≡ front ++ back)) × (text ≡ 36 ∷ [] ++ own)

argument_to : (most : ℕ) (word text : List ℕ) → IsArgumentInParts most word text → IsArgument most word text
argument_to most word text (own, (n, front, back, (le, front_is), (len, back_is), own_is), is) =
    let own_spelled : own ≡ (decimal (length word) ++ line_end) ++ (word ++ line_end) =
    own_is ∙ ap (λ (x : List ℕ). x ++ back) (front_is ∙ ap (λ k. decimal k ++ line_end) (sym len)) ∙ ap (λ (x : List ℕ). (decimal (length word) ++ line_end) ++ x) back_is in
    (omega arith, is ∙ ap (λ (x : List ℕ). 36 ∷ x) own_spelled)

argument_from : (most : ℕ) (word text : List ℕ) → IsArgument most word text → IsArgumentInParts most word text
argument_from most word text (le, is) = ((decimal (length word) ++ line_end) ++ (word ++ line_end), (length word, decimal (length word) ++ line_end, word ++ line_end, (le, refl), (refl, refl), refl), is)

pub argument_reads : (limits : Limits) (room : ℕ) → longest limits room < 2 ^ 64 → Reads (argument_at limits room) (IsArgument (longest limits room))
unfolding argument_at
argument_reads limits room small =
    let most = longest limits room in
    let fault = too_long limits room in
    reads_as (argument_at limits room) (IsArgumentInParts most) (IsArgument most)
    (skip_then bulk_sign_at (36 ∷ []) (λ rest. number_at most fault rest >>= λ n. text_at n.0 n.1) (λ word own. (n : ℕ) × (front back : List ℕ) × ((n ≤ most) × (front ≡ decimal n ++ line_end)) × IsText n word back × (own ≡ front ++ back)) sign_skips
    (reads_then (number_at most fault) (λ n text. (n ≤ most) × (text ≡ decimal n ++ line_end)) text_at IsText (number_reads most fault small) text_reads))
    (argument_to most) (argument_from most)

-- ---- arguments

-- each argument fits where those before it have left so much
abbrev pub FitsIn : Limits → ℕ → List (List ℕ) → Type 0
FitsIn limits room [] = Unit {0}
FitsIn limits room (word ∷ words) = (length word ≤ longest limits room) × FitsIn limits (room - length word) words

abbrev pub AreArguments : Limits → ℕ → ℕ → List (List ℕ) → List ℕ → Type 0
AreArguments limits count room words text = (length words ≡ count) × FitsIn limits room words × (text ≡ flat_map spelled_bulk words)

by_bulk : (limits : Limits) (room : ℕ) (P : ℕ → Type 0) → (limits.bulk ≤ room → P limits.bulk) → (room < limits.bulk → P room) → P (longest limits room)
by_bulk limits room P if_bulk if_room = by_test (nat_le limits.bulk room) refl
  where
    small : (n m : ℕ) → nat_le n m ≡ true → n ≤ m
    small n m test = grind (arith, nat_tests)

    large : (n m : ℕ) → nat_le n m ≡ false → m < n
    large n m test = grind (arith, nat_tests)

    by_test : (t : Bool) → nat_le limits.bulk room ≡ t → P (cond t limits.bulk room)
    by_test true test = if_bulk (small limits.bulk room test)
    by_test false test = if_room (large limits.bulk room test)

longest_bulk : (limits : Limits) (room : ℕ) → longest limits room ≤ limits.bulk
longest_bulk limits room = by_bulk limits room (λ n. n ≤ limits.bulk) (λ le. omega arith) (λ lt. omega arith)

longest_room : (limits : Limits) (room : ℕ) → longest limits room ≤ room
longest_room limits room = by_bulk limits room (λ n. n ≤ room) (λ le. omega arith) (λ lt. omega arith)

below_longest : (limits : Limits) (room n : ℕ) → n ≤ limits.bulk → n ≤ room → n ≤ longest limits room
below_longest limits room n bulk left = by_bulk limits room (λ m. n ≤ m) (λ le. bulk) (λ lt. left)

no_arguments : (limits : Limits) (room : ℕ) → Reads (arguments_at limits 0 room) (AreArguments limits 0 room)
unfolding arguments_at
no_arguments limits room = reads_as (arguments_at limits 0 room) (λ words text. (words ≡ []) × (text ≡ [])) (AreArguments limits 0 room) (reads_none []) to from
  where
    to : (words : List (List ℕ)) (text : List ℕ) → (words ≡ []) × (text ≡ []) → AreArguments limits 0 room words text
    to words text (none, is) = subst (λ (ws : List (List ℕ)). AreArguments limits 0 room ws text) (sym none) (refl, tt, is)

    from : (words : List (List ℕ)) (text : List ℕ) → AreArguments limits 0 room words text → (words ≡ []) × (text ≡ [])
    from words text (len, fits, is) = let none : words ≡ [] = nil_from_length words len in (none, is ∙ ap (flat_map spelled_bulk) none)

-- the arguments behind one
abbrev Onward : Limits → ℕ → ℕ → List ℕ → List (List ℕ) → List ℕ → Type 0
Onward limits count room word words text = (others : List (List ℕ)) × (front back : List ℕ) × AreArguments limits count (room - length word) others front × ((words ≡ word ∷ others) × (back ≡ [])) × (text ≡ front ++ back)

abbrev InParts : Limits → ℕ → ℕ → List (List ℕ) → List ℕ → Type 0
InParts limits count room words text = (word : List ℕ) × (front back : List ℕ) × IsArgument (longest limits room) word front × Onward limits count room word words back × (text ≡ front ++ back)

parts_to : (limits : Limits) (count room : ℕ) (words : List (List ℕ)) (text : List ℕ) → InParts limits count room words text → AreArguments limits (suc count) room words text
parts_to limits count room words text (word, front, back, (le, front_is), (others, first, none, (len, fits, first_is), (words_is, none_is), back_is), is) =
    let behind : back ≡ flat_map spelled_bulk others = back_is ∙ ap (λ (x : List ℕ). first ++ x) none_is ∙ append-nil first ∙ first_is in
    let whole : text ≡ flat_map spelled_bulk (word ∷ others) = is ∙ ap (λ (x : List ℕ). x ++ back) front_is ∙ ap (λ (x : List ℕ). spelled_bulk word ++ x) behind ∙ sym (flat_map-cons spelled_bulk word others) in
    subst (λ (ws : List (List ℕ)). AreArguments limits (suc count) room ws text) (sym words_is) (ap suc len, (le, fits), whole)

parts_from : (limits : Limits) (count room : ℕ) (words : List (List ℕ)) (text : List ℕ) → AreArguments limits (suc count) room words text → InParts limits count room words text
parts_from limits count room [] text (len, fits, is) = absurd cc
parts_from limits count room (word ∷ words) text (len, (le, fits), is) =
    let rest = flat_map spelled_bulk words in (
      word,
      spelled_bulk word,
      rest,
      (le, refl),
      (words, rest, [], (omega arith, fits, refl), (refl, refl), sym (append-nil rest)),
      is ∙ flat_map-cons spelled_bulk word words,
    )

one_more_argument : (limits : Limits) (count room : ℕ) → limits.bulk < 2 ^ 64 → ((left : ℕ) → Reads (arguments_at limits count left) (AreArguments limits count left)) → Reads (arguments_at limits (suc count) room) (AreArguments limits (suc count) room)
unfolding arguments_at
one_more_argument limits count room small later = reads_as (arguments_at limits (suc count) room) (InParts limits count room) (AreArguments limits (suc count) room)
    (reads_then (argument_at limits room) (IsArgument (longest limits room)) (λ first rest. arguments_at limits count (room - length first) rest >>= λ others. Ok (first ∷ others.0, others.1)) (Onward limits count room)
    (argument_reads limits room (omega (arith, longest_bulk limits room, small)))
    (λ first. reads_then (arguments_at limits count (room - length first)) (AreArguments limits count (room - length first)) (λ others rest. Ok (first ∷ others, rest)) (λ others words text. (words ≡ first ∷ others) × (text ≡ [])) (later (room - length first)) (λ others. reads_none (first ∷ others))))
    (parts_to limits count room) (parts_from limits count room)

pub arguments_read : (limits : Limits) (count room : ℕ) → limits.bulk < 2 ^ 64 → Reads (arguments_at limits count room) (AreArguments limits count room)
arguments_read limits zero room small = no_arguments limits room
arguments_read limits (suc count) room small = one_more_argument limits count room small (λ left. arguments_read limits count left small)

-- ---- a request

within_to : (limits : Limits) (room : ℕ) (words : List (List ℕ)) → AllByRecursion (λ word. length word ≤ limits.bulk) words → total words ≤ room → FitsIn limits room words
within_to limits room [] each together = tt
within_to limits room (word ∷ words) each together = (below_longest limits room (length word) each.0 (omega arith), within_to limits (room - length word) words each.1 (omega arith))

within_from : (limits : Limits) (room : ℕ) (words : List (List ℕ)) → FitsIn limits room words → AllByRecursion (λ word. length word ≤ limits.bulk) words × (total words ≤ room)
within_from limits room [] fits = (tt, omega arith)
within_from limits room (word ∷ words) fits =
    let rest = within_from limits (room - length word) words fits.1 in
    let left : length word ≤ room = omega (arith, fits.0, longest_room limits room) in
    ((omega (arith, fits.0, longest_bulk limits room), rest.0), omega (arith, rest.1, left))

abbrev pub IsRequest : Limits → List (List ℕ) → List ℕ → Type 0
IsRequest limits request text = IsWithin limits request × (text ≡ spelled_request request)

abbrev IsCounted : Limits → List (List ℕ) → List ℕ → Type 0
IsCounted limits request own = (count : ℕ) × (front back : List ℕ) × ((count ≤ limits.arguments) × (front ≡ decimal count ++ line_end)) × AreArguments limits count limits.bytes request back × (own ≡ front ++ back)

abbrev IsSigned : Limits → List (List ℕ) → List ℕ → Type 0
IsSigned limits request text = (own : List ℕ) × IsCounted limits request own × (text ≡ 42 ∷ [] ++ own)

request_to : (limits : Limits) (request : List (List ℕ)) (text : List ℕ) → IsSigned limits request text → IsRequest limits request text
request_to limits request text (own, (count, front, back, (le, front_is), (len, fits, back_is), own_is), is) =
    let w = within_from limits limits.bytes request fits in
    let own_spelled : own ≡ (decimal (length request) ++ line_end) ++ flat_map spelled_bulk request =
    own_is ∙ ap (λ (x : List ℕ). x ++ back) (front_is ∙ ap (λ k. decimal k ++ line_end) (sym len)) ∙ ap (λ (x : List ℕ). (decimal (length request) ++ line_end) ++ x) back_is in
    (record { few = omega (arith, le, len); each = w.0; together = w.1 }, is ∙ ap (λ (x : List ℕ). 42 ∷ x) own_spelled)

request_from : (limits : Limits) (request : List (List ℕ)) (text : List ℕ) → IsRequest limits request text → IsSigned limits request text
request_from limits request text (within, is) =
    ((decimal (length request) ++ line_end) ++ flat_map spelled_bulk request, (length request, decimal (length request) ++ line_end, flat_map spelled_bulk request, (within.few, refl), (refl, within_to limits limits.bytes request within.each within.together, refl), refl), is)

pub request_reads : (limits : Limits) → limits.arguments < 2 ^ 64 → limits.bulk < 2 ^ 64 → Reads (request_at limits) (IsRequest limits)
unfolding request_at
request_reads limits few small = reads_as (request_at limits) (IsSigned limits) (IsRequest limits)
    (skip_then (byte_at 42 NotAnArray) (42 ∷ []) (λ rest. number_at limits.arguments TooManyArguments rest >>= λ n. arguments_at limits n.0 limits.bytes n.1) (IsCounted limits) (byte_skips 42 NotAnArray)
    (reads_then (number_at limits.arguments TooManyArguments) (λ n text. (n ≤ limits.arguments) × (text ≡ decimal n ++ line_end)) (λ n. arguments_at limits n limits.bytes) (λ n. AreArguments limits n limits.bytes)
    (number_reads limits.arguments TooManyArguments few) (λ n. arguments_read limits n limits.bytes small)))
    (request_to limits) (request_from limits)
