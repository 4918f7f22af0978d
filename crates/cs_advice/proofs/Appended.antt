-- Bytes that are written one after another.
use Rattle.std.proofs.Common.{◌≡◌, ◌∙◌, ℕ, ◌+◌, ◌<◌, List, [], ◌++◌, Some, None, length, take, get_or, sym, ap, subst, append_assoc}
use Rattle.std.specs.Prelude.{Option, Result, Ok, Err, OnOk, flat_map}
use Rattle.std.proofs.lemmas.List.{append-nil, flat_map_more, take_more}
use Rattle.std.specs.Io.KnownBytes.{Appends, Keeps}

pub appends_none : (a : Option (List ℕ)) → Appends a a []
appends_none None = tt
appends_none (Some xs) = sym (append-nil xs)

pub appends_then : (a b c : Option (List ℕ)) (xs ys : List ℕ) → Appends a b xs → Appends b c ys → Appends a c (xs ++ ys)
appends_then None b c xs ys h k = tt
appends_then (Some us) None c xs ys h k = absurd h
appends_then (Some us) (Some vs) None xs ys h k = absurd k
appends_then (Some us) (Some vs) (Some ws) xs ys h k = k ∙ ap (λ l. l ++ ys) h ∙ append_assoc us xs ys

-- with the same bytes, written otherwise
pub appends_same : (a b : Option (List ℕ)) (xs ys : List ℕ) → xs ≡ ys → Appends a b xs → Appends a b ys
appends_same a b xs ys e h = subst (Appends a b) e h

-- and then nothing more
pub appends_kept : (a b c : Option (List ℕ)) (xs : List ℕ) → Appends a b xs → Keeps b c → Appends a c xs
appends_kept None b c xs h k = tt
appends_kept (Some us) None c xs h k = absurd h
appends_kept (Some us) (Some vs) None xs h k = absurd k
appends_kept (Some us) (Some vs) (Some ws) xs h k = k ∙ h

-- a line more for one more element
pub one_more : {X : Type 0} (f : X → List ℕ) (xs : List X) (i : ℕ) (d : X) (a b c : Option (List ℕ)) → i < length xs → Appends a b (flat_map f (take i xs)) → Appends b c (f (get_or xs i d)) → Appends a c (flat_map f (take (i + 1) xs))
one_more f xs i d a b c lt so_far line =
    appends_same a c (flat_map f (take i xs) ++ f (get_or xs i d)) (flat_map f (take (i + 1) xs)) (flat_map_more f [] (take i xs) (get_or xs i d) ∙ ap (flat_map f) (sym (take_more xs i d lt)))
    (appends_then a b c (flat_map f (take i xs)) (f (get_or xs i d)) so_far line)

-- the same of an element that is known to stand there
pub one_read : {X : Type 0} (f : X → List ℕ) (xs : List X) (i : ℕ) (x : X) (a b c : Option (List ℕ)) → i < length xs → x ≡ get_or xs i x → Appends a b (flat_map f (take i xs)) → Appends b c (f x) → Appends a c (flat_map f (take (i + 1) xs))
one_read {X} f xs i x a b c lt at so_far line = one_more f xs i x a b c lt so_far (subst (λ (y : X). Appends b c (f y)) at line)

-- what holds anyhow holds where a call succeeded
pub whatever : {T E P : Type 0} (r : Result T E) → P → OnOk r P
whatever (Ok v) p = p
whatever (Err e) p = tt
