-- What is told of bytes, from what is read of them.
use Rattle.std.proofs.Common.{◌≡◌, ◌≢◌, ◌↔◌, ◌∙◌, ℕ, ◌-◌, ◌^◌, ◌<◌, ◌≤◌, List, [], ◌∷◌, ◌++◌, length, take, drop, Result, Ok, Err, refl, sym, ap, subst, append_assoc, arith, length-append, length-drop}
use Rattle.std.specs.Prelude.{IfOk}
use Rattle.std.proofs.lemmas.List.{append-nil, take_at, drop_at}
use Rattle.cs_resp.specs.declared.faults.Fault.{Fault}
use Rattle.cs_resp.specs.declared.faults.End.{End}
use Rattle.cs_resp.specs.declared.faults.End.TheVariants.{More, Wrong}
use Rattle.cs_resp.specs.declared.limits.Limits.{Limits}
use Rattle.cs_resp.specs.declared.progress.Progress.{Progress}
use Rattle.cs_resp.specs.declared.progress.Progress.TheVariants as progress
use Rattle.cs_resp.specs.Spelling.{spelled_request, texts}
use Rattle.cs_resp.specs.Requests.{IsWithin, IsPartOfRequest, IsNoRequest, IsWholeOf, IsSpelledBy}
use Rattle.cs_resp.specs.Reading.{Tells, request_at}
use Rattle.cs_resp.proofs.Readers.{Reads, same_parts}
use Rattle.cs_resp.proofs.RequestReaders.{IsRequest, request_reads}

pub if_ok_map : {A E : Type 0} (r : Result A E) (P Q : A → Type 0) → ((x : A) → P x → Q x) → IfOk r P → IfOk r Q
if_ok_map (Ok x) P Q f p = f x p
if_ok_map (Err e) P Q f p = tt

some_behind : (xs ys : List ℕ) → ys ≢ [] → xs ++ ys ≢ []
some_behind [] ys h e = h e
some_behind (x ∷ xs) ys h e = absurd cc

module _ (limits : Limits) (few : limits.arguments < 2 ^ 64) (small : limits.bulk < 2 ^ 64) where
  abbrev read : List ℕ → Result (List (List ℕ) × List ℕ) End
  read bytes = request_at limits bytes

  reads : Reads read (IsRequest limits)
  reads = request_reads limits few small

  -- what is behind a request
  pub behind : (bytes : List ℕ) (request : List (List ℕ)) (rest : List ℕ) → read bytes ≡ Ok (request, rest) → (length bytes - length rest ≤ length bytes) × (length rest ≤ length bytes) × (read bytes ≡ Ok (request, drop (length bytes - length rest) bytes))
  behind bytes request rest h =
      let t = reads.takes bytes (request, rest) h in
      let len : length t.0 ≡ length bytes - length rest = omega (arith, ap length t.2, length-append t.0 rest) in
      let dropped : drop (length bytes - length rest) bytes ≡ rest = ap (drop (length bytes - length rest)) t.2 ∙ drop_at t.0 rest (length bytes - length rest) len in
      (omega arith, omega (arith, ap length t.2, length-append t.0 rest), h ∙ ap with_rest (sym dropped))
    where
      with_rest : List ℕ → Result (List (List ℕ) × List ℕ) End
      with_rest rest = Ok (request, rest)

  -- a whole request
  pub is_spelled : (bytes : List ℕ) (p : Progress) → Tells bytes (read bytes) p → IsSpelledBy limits bytes p
  is_spelled bytes (progress.Whole found used) (le, h) =
      let t = reads.takes bytes (texts found.items, drop used bytes) h in
      let len : length t.0 ≡ used = omega (arith, ap length t.2, length-append t.0 (drop used bytes), length-drop used bytes) in
      (t.1.0, le, ap (take used) t.2 ∙ take_at t.0 (drop used bytes) used len ∙ t.1.1)
  is_spelled bytes progress.More h = tt
  is_spelled bytes (progress.Wrong fault) h = tt

  spelled_so : (bytes rest : List ℕ) (request : List (List ℕ)) → IsWithin limits request → bytes ≡ spelled_request request ++ rest → read bytes ≡ Ok (request, rest)
  spelled_so bytes rest request within is = ap (request_at limits) is ∙ reads.again request (spelled_request request) rest (within, refl)

  pub is_whole : (bytes : List ℕ) (p : Progress) → Tells bytes (read bytes) p → (request : List (List ℕ)) (rest : List ℕ) → IsWithin limits request → bytes ≡ spelled_request request ++ rest → IsWholeOf request (length (spelled_request request)) p
  is_whole bytes (progress.Whole found used) (le, h) request rest within is =
      let e = same_parts (texts found.items) request (drop used bytes) rest (sym h ∙ spelled_so bytes rest request within is) in
      (e.0, omega (arith, le, length-drop used bytes, ap length e.1, ap length is, length-append (spelled_request request) rest))
  is_whole bytes progress.More h request rest within is = let e = sym h ∙ spelled_so bytes rest request within is in absurd (cc e)
  is_whole bytes (progress.Wrong fault) h request rest within is = let e = sym h ∙ spelled_so bytes rest request within is in absurd (cc e)

  -- a part of one
  part_of : (bytes : List ℕ) → read bytes ≡ Err More → IsPartOfRequest limits bytes
  part_of bytes h = let m = reads.more bytes h in (m.0, m.2, m.3.0, m.4, m.5 ∙ m.3.1)

  no_fault : (bytes tail rest : List ℕ) (request : List (List ℕ)) (fault : Fault) → IsWithin limits request → bytes ++ tail ≡ spelled_request request ++ rest → read bytes ≡ Err (Wrong fault) → ⊥
  no_fault bytes tail rest request fault within is h =
      let e = sym (reads.stays bytes tail fault h) ∙ spelled_so (bytes ++ tail) rest request within is in
      absurd (cc e)

  -- a whole request goes on as it is
  pub goes_on : (bytes tail : List ℕ) (request : List (List ℕ)) (rest : List ℕ) → read bytes ≡ Ok (request, rest) → read (bytes ++ tail) ≡ Ok (request, rest ++ tail)
  goes_on bytes tail request rest h =
      let t = reads.takes bytes (request, rest) h in
      ap (request_at limits) (ap (λ (x : List ℕ). x ++ tail) t.2 ∙ append_assoc t.0 rest tail) ∙ reads.again request t.0 (rest ++ tail) t.1

  no_whole : (bytes tail : List ℕ) (request found : List (List ℕ)) (rest : List ℕ) → IsWithin limits request → tail ≢ [] → bytes ++ tail ≡ spelled_request request → read bytes ≡ Ok (found, rest) → ⊥
  no_whole bytes tail request found rest within some is h =
      let e = sym (goes_on bytes tail found rest h) ∙ spelled_so (bytes ++ tail) [] request within (is ∙ sym (append-nil (spelled_request request))) in
      some_behind rest tail some (same_parts found request (rest ++ tail) [] e).1

  is_more : (bytes : List ℕ) (p : Progress) → Tells bytes (read bytes) p → IsPartOfRequest limits bytes → p ≡ progress.More
  is_more bytes (progress.Whole found used) (le, h) (request, tail, within, some, is) = absurd (no_whole bytes tail request (texts found.items) (drop used bytes) within some is h)
  is_more bytes progress.More h part = refl
  is_more bytes (progress.Wrong fault) h (request, tail, within, some, is) = absurd (no_fault bytes tail [] request fault within (is ∙ sym (append-nil (spelled_request request))) h)

  pub more_exactly : (bytes : List ℕ) (p : Progress) → Tells bytes (read bytes) p → (p ≡ progress.More) ↔ IsPartOfRequest limits bytes
  more_exactly bytes p h = (λ e. part_of bytes (subst (Tells bytes (read bytes)) e h), is_more bytes p h)

  -- none, whatever follows
  none_of : (bytes : List ℕ) (fault : Fault) → read bytes ≡ Err (Wrong fault) → IsNoRequest limits bytes
  none_of bytes fault h request tail rest within is = no_fault bytes tail rest request fault within is h

  abbrev IsFaulty : Progress → Type 0
  IsFaulty p = (fault : Fault) × (p ≡ progress.Wrong fault)

  is_wrong : (bytes : List ℕ) (p : Progress) → Tells bytes (read bytes) p → IsNoRequest limits bytes → IsFaulty p
  is_wrong bytes (progress.Whole found used) (le, h) none =
      let t = reads.takes bytes (texts found.items, drop used bytes) h in
      absurd (none (texts found.items) [] (drop used bytes) t.1.0 (append-nil bytes ∙ t.2 ∙ ap (λ (x : List ℕ). x ++ drop used bytes) t.1.1))
  is_wrong bytes progress.More h none =
      let m = reads.more bytes h in
      absurd (none m.0 m.2 [] m.3.0 (m.5 ∙ m.3.1 ∙ sym (append-nil (spelled_request m.0))))
  is_wrong bytes (progress.Wrong fault) h none = (fault, refl)

  pub wrong_exactly : (bytes : List ℕ) (p : Progress) → Tells bytes (read bytes) p → IsFaulty p ↔ IsNoRequest limits bytes
  wrong_exactly bytes p h = (λ e. none_of bytes e.0 (subst (Tells bytes (read bytes)) e.1 h), is_wrong bytes p h)

  -- a fault stays
  pub fault_stays : (bytes tail : List ℕ) (fault : Fault) → read bytes ≡ Err (Wrong fault) → read (bytes ++ tail) ≡ Err (Wrong fault)
  fault_stays bytes tail fault h = reads.stays bytes tail fault h

  -- one request
  pub one_request : (a b : List (List ℕ)) (x y : List ℕ) → IsWithin limits a → IsWithin limits b → spelled_request a ++ x ≡ spelled_request b ++ y → (a ≡ b) × (x ≡ y)
  one_request a b x y first second is =
      same_parts a b x y (sym (spelled_so (spelled_request a ++ x) x a first refl) ∙ spelled_so (spelled_request a ++ x) y b second is)
