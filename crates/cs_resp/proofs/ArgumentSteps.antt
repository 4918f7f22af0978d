-- Reading arguments one after the other, as a loop does.
use Rattle.std.proofs.Common.{◌≡◌, ℕ, suc, ◌-◌, ◌+◌, ◌≤◌, ◌<◌, List, [], ◌∷◌, ◌++◌, length, Result, Ok, Err, refl, sym, ap, ◌∙◌, append_assoc, arith}
use Rattle.std.proofs.lemmas.List.{append-nil}
use Rattle.cs_resp.specs.declared.faults.End.{End}
use Rattle.cs_resp.specs.declared.faults.Stop.{Stop}
use Rattle.cs_resp.specs.declared.faults.Stop.TheVariants.{Memory, Ends}
use Rattle.cs_resp.specs.declared.limits.Limits.{Limits}
use Rattle.cs_resp.specs.Reading.{◌>>=◌, Stops, argument_at, arguments_at}

-- what was read before, and what is still read
abbrev pub with_front : List (List ℕ) → Result (List (List ℕ) × List ℕ) End → Result (List (List ℕ) × List ℕ) End
with_front front read = read >>= λ x. Ok (front ++ x.0, x.1)

regroup : (front : List (List ℕ)) (word : List ℕ) (read : Result (List (List ℕ) × List ℕ) End) → with_front front (read >>= λ x. Ok (word ∷ x.0, x.1)) ≡ with_front (front ++ word ∷ []) read
regroup front word (Ok x) = ap (λ (ws : List (List ℕ)). Ok (ws, x.1)) (simp append_assoc)
regroup front word (Err e) = refl

pub goes_on : (limits : Limits) (front : List (List ℕ)) (count i room : ℕ) (bytes word after : List ℕ) (whole : Result (List (List ℕ) × List ℕ) End) → i < count → argument_at limits room bytes ≡ Ok (word, after)
    → with_front front (arguments_at limits (count - i) room bytes) ≡ whole → with_front (front ++ word ∷ []) (arguments_at limits (count - (i + 1)) (room - length word) after) ≡ whole
unfolding arguments_at
goes_on limits front count i room bytes word after whole lt h so_far =
    let k : count - i ≡ suc (count - (i + 1)) = omega arith in
    let one : with_front front (arguments_at limits (count - i) room bytes) ≡ with_front (front ++ word ∷ []) (arguments_at limits (count - (i + 1)) (room - length word) after) =
    rw (k, h) (regroup front word (arguments_at limits (count - (i + 1)) (room - length word) after)) in
    sym one ∙ so_far

pub stops : (limits : Limits) (stop : Stop) (front : List (List ℕ)) (count i room : ℕ) (bytes : List ℕ) (whole : Result (List (List ℕ) × List ℕ) End) → i < count → Stops stop (argument_at limits room bytes)
    → with_front front (arguments_at limits (count - i) room bytes) ≡ whole → Stops stop whole
unfolding arguments_at
stops limits Memory front count i room bytes whole lt h so_far = tt
stops limits (Ends e) front count i room bytes whole lt h so_far =
    let k : count - i ≡ suc (count - (i + 1)) = omega arith in
    let one : with_front front (arguments_at limits (count - i) room bytes) ≡ Err e = rw (k, h) refl in
    sym so_far ∙ one

pub is_done : (limits : Limits) (front : List (List ℕ)) (count i room : ℕ) (bytes : List ℕ) (whole : Result (List (List ℕ) × List ℕ) End) → count ≤ i → with_front front (arguments_at limits (count - i) room bytes) ≡ whole → whole ≡ Ok (front, bytes)
unfolding arguments_at
is_done limits front count i room bytes whole le so_far =
    let k : count - i ≡ 0 = omega arith in
    let one : with_front front (arguments_at limits (count - i) room bytes) ≡ Ok (front, bytes) = rw k (ap (λ (ws : List (List ℕ)). Ok (ws, bytes)) (append-nil front)) in
    sym so_far ∙ one
