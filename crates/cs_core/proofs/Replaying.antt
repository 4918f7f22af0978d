-- A history is replayed event by event.
use Rattle.std.proofs.Common.{◌≡◌, ◌∙◌, ⊎_elim, ℕ, zero, suc, ◌+◌, ◌<◌, ◌≤◌, List, [], ◌∷◌, ◌++◌, get_or, length, min, take, refl, sym, ap, subst, append_assoc, arith}
use Rattle.std.specs.Prelude.{Option}
use Rattle.std.proofs.lemmas.Bool.{cases_lt}
use Rattle.std.proofs.lemmas.List.{append-nil}
use Rattle.cs_frame.specs.declared.identifiers.ShardId.{ShardId}
use Rattle.cs_core.specs.declared.events.Event.{Event}
use Rattle.cs_core.specs.declared.events.Event.TheVariants.{Delete, Put}
use Rattle.cs_core.specs.declared.events.Reply.{Reply}
use Rattle.cs_core.specs.declared.events.Reply.TheVariants.{Accepted}
use Rattle.cs_core.specs.Replays.{change_said, replayed}

-- an event that wasn't accepted changes nothing
unaccepted : (e : Event) (r : Reply) → ((n : ℕ) → r ≡ Accepted n → ⊥) → change_said e r ≡ []
unaccepted (Put id bytes) (Accepted n) not = absurd (not n refl)
unaccepted (Delete id) (Accepted n) not = absurd (not n refl)
unaccepted e r not = refl

-- nor does one that isn't a put or a delete
other_event : (e : Event) (r : Reply) → ((id : ShardId) (bytes : List ℕ) → e ≡ Put id bytes → ⊥) → ((id : ShardId) → e ≡ Delete id → ⊥) → change_said e r ≡ []
other_event (Put id bytes) r put delete = absurd (put id bytes refl)
other_event (Delete id) r put delete = absurd (delete id refl)
other_event e r put delete = refl

abbrev pub Changes : Type 0
Changes = List (ShardId × Option (List ℕ))

nothing_more : (xs ys : Changes) → ys ≡ [] → xs ≡ xs ++ ys
nothing_more xs ys none = sym (append-nil xs) ∙ ap (λ (zs : Changes). xs ++ zs) (sym none)

pub unaccepted_adds : (xs : Changes) (e : Event) (r : Reply) → ((n : ℕ) → r ≡ Accepted n → ⊥) → xs ≡ xs ++ change_said e r
unaccepted_adds xs e r not = nothing_more xs (change_said e r) (unaccepted e r not)

pub other_adds : (xs : Changes) (e : Event) (r : Reply) → ((id : ShardId) (bytes : List ℕ) → e ≡ Put id bytes → ⊥) → ((id : ShardId) → e ≡ Delete id → ⊥) → xs ≡ xs ++ change_said e r
other_adds xs e r put delete = nothing_more xs (change_said e r) (other_event e r put delete)

-- one event more
pub replayed_more : (h : List (Event × Reply)) (k : ℕ) (d : Event × Reply) → k < length h → replayed (take (k + 1) h) ≡ replayed (take k h) ++ change_said (get_or h k d).0 (get_or h k d).1
replayed_more h k d lt =
    let next : suc k ≡ k + 1 = omega arith in subst (λ (n : ℕ). replayed (take n h) ≡ replayed (take k h) ++ change_said (get_or h k d).0 (get_or h k d).1) next (go h k lt)
  where
    go : (xs : List (Event × Reply)) (n : ℕ) → n < length xs → replayed (take (suc n) xs) ≡ replayed (take n xs) ++ change_said (get_or xs n d).0 (get_or xs n d).1
    go [] n below = absurd (omega (arith, below))
    go (x ∷ xs) zero below = append-nil (change_said x.0 x.1)
    go (x ∷ xs) (suc n) below = ap (λ (zs : Changes). change_said x.0 x.1 ++ zs) (go xs n (omega (arith, below))) ∙ sym (append_assoc (change_said x.0 x.1) (replayed (take n xs)) (change_said (get_or xs n d).0 (get_or xs n d).1))

-- no more events than there are
pub replayed_all : (h : List (Event × Reply)) (n m : ℕ) → m ≡ min n (length h) → replayed (take m h) ≡ replayed (take n h)
replayed_all h n m is = ap replayed (⊎_elim
    (λ (few : n < length h). ap (λ (k : ℕ). take k h) (let same : m ≡ n = omega (arith, is, few) in same))
    (λ (many : length h ≤ n). all h m (omega (arith, is, many)) ∙ sym (all h n many))
    (cases_lt n (length h)))
  where
    all : (xs : List (Event × Reply)) (k : ℕ) → length xs ≤ k → take k xs ≡ xs
    all [] zero le = refl
    all [] (suc k) le = refl
    all (x ∷ xs) zero le = absurd (omega (arith, le))
    all (x ∷ xs) (suc k) le = ap (λ (ys : List (Event × Reply)). x ∷ ys) (all xs k (omega (arith, le)))

-- the loop goes on by one event
pub replayed_next : (h : List (Event × Reply)) (k : ℕ) (entry : Event × Reply) (before now : Changes) → k < length h → entry ≡ get_or h k entry → before ≡ replayed (take k h)
    → now ≡ before ++ change_said entry.0 entry.1 → now ≡ replayed (take (k + 1) h)
replayed_next h k entry before now lt is so_far adds = adds ∙ ap (λ (xs : Changes). xs ++ change_said entry.0 entry.1) so_far
    ∙ ap (λ (x : Event × Reply). replayed (take k h) ++ change_said x.0 x.1) is ∙ sym (replayed_more h k entry lt)
