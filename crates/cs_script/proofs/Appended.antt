-- Bytes that are written one after another.
use Rattle.std.proofs.Common.{◌≡◌, ◌∙◌, ℕ, List, [], ◌++◌, Some, None, sym, ap, subst, append_assoc}
use Rattle.std.specs.Prelude.{Option, Result, Ok, Err, OnOk}
use Rattle.std.proofs.lemmas.List.{append-nil}
use Rattle.std.specs.Io.KnownBytes.{Appends, Keeps}

pub appends_none : (a : Option (List ℕ)) → Appends a a []
appends_none None = tt
appends_none (Some xs) = sym (append-nil xs)

pub appends_then : (a b c : Option (List ℕ)) (xs ys : List ℕ) → Appends a b xs → Appends b c ys → Appends a c (xs ++ ys)
appends_then None b c xs ys h k = tt
appends_then (Some us) None c xs ys h k = absurd h
appends_then (Some us) (Some vs) None xs ys h k = absurd k
appends_then (Some us) (Some vs) (Some ws) xs ys h k = k ∙ ap (λ l. l ++ ys) h ∙ append_assoc us xs ys

-- with the same bytes, written otherwise
pub appends_same : (a b : Option (List ℕ)) (xs ys : List ℕ) → xs ≡ ys → Appends a b xs → Appends a b ys
appends_same a b xs ys e h = subst (Appends a b) e h

-- and then nothing more
pub appends_kept : (a b c : Option (List ℕ)) (xs : List ℕ) → Appends a b xs → Keeps b c → Appends a c xs
appends_kept None b c xs h k = tt
appends_kept (Some us) None c xs h k = absurd h
appends_kept (Some us) (Some vs) None xs h k = absurd k
appends_kept (Some us) (Some vs) (Some ws) xs h k = k ∙ h

-- one line is printed, of which this holds
pub prints : {T E : Type 0} (r : Result T E) (before after : Option (List ℕ)) (line : List ℕ) (P : List ℕ → Type 0) → P line → OnOk r (Appends before after line)
    → OnOk r ((out : List ℕ) × P out × Appends before after out)
prints (Ok v) before after line P p h = (line, p, h)
prints (Err e) before after line P p h = tt
