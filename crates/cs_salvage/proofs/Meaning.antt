-- What parts mean, whatever a disk answers.
use Rattle.std.proofs.Common.{◌≡◌, ◌≢◌, ◌∙◌, ◌⊎◌, ℕ, zero, suc, ◌+◌, ◌<◌, Bool, true, false, List, [], ◌∷◌, ◌++◌, Option, Some, None, MatchOption, IfSome, length, get_or, take, All, bytes_eq, true≢false, refl, sym, ap₂, subst, inl, inr, ⊎_elim}
use Rattle.std.specs.List.{AllZip}
use Rattle.std.proofs.lemmas.List.Elements.{All-push}
use Rattle.cs_frame.proofs.TestLaws.{equal_bytes, same_bytes}
use Rattle.law_machine.specs.Formats.{Formats}
use Rattle.law_machine.specs.Index.{joined_bodies}
use Rattle.cs_salvage.specs.declared.parts.Part.{Part}
use Rattle.cs_salvage.specs.Frames.{IsMeant, IsOfFrame, IsPartIn, IsSpelled, TwoWithOneDigest}
use Rattle.cs_salvage.proofs.Sames.{at_any, no_part}
use Rattle.cs_salvage.proofs.Zips.{bodies_push, zip_more}

-- what was decoded of some pages is spelled by them
pub spelled_where : {V : Type 0} (N : Type 0) (part_of : V → Part) (payload_of : V → List ℕ) (pages : List (List ℕ)) (found : Option V)
    → MatchOption found N (λ v. IsPartIn pages (part_of v) (payload_of v)) → IfSome found (λ v. IsSpelled (part_of v) (payload_of v))
spelled_where N part_of payload_of pages (Some v) is = (pages, is)
spelled_where N part_of payload_of pages None is = tt

-- one part more
pub one_spelled : (parts : List Part) (part : Part) (payload : List ℕ) → IsSpelled part payload → All IsOfFrame parts → All IsOfFrame (parts ++ part ∷ [])
one_spelled parts part payload spelled all = All-push IsOfFrame parts part all (payload, spelled)

-- a payload that some pages spell is what the part means
pub meant_by : (found part : Part) (payload : List ℕ) → found ≡ part → IsSpelled found payload → IsMeant part payload
meant_by found part payload same it = subst (λ (p : Part). IsMeant p payload) same (it.1.digest, it.1.head)

-- the bytes of one part more, of payloads that are so
pub read_more : (R : Part → List ℕ → Type 0) (F : Formats) (parts items : List Part) (k : ℕ) (payload bytes piece now : List ℕ) → items ≡ parts → k < length parts → R (get_or items k no_part) payload
    → (payloads : List (List ℕ)) × AllZip R (take k parts) payloads × (bytes ≡ joined_bodies F payloads) → now ≡ bytes ++ piece → piece ≡ F.body payload
    → (payloads : List (List ℕ)) × AllZip R (take (k + 1) parts) payloads × (now ≡ joined_bodies F payloads)
read_more R F parts items k payload bytes piece now same inside is was longer body =
    let here = subst (λ (ps : List Part). R (get_or ps k no_part) payload) same is in (
      was.0 ++ payload ∷ [],
      zip_more R parts was.0 k (get_or parts k no_part) payload inside (at_any parts k inside no_part (get_or parts k no_part)) was.1 here,
      longer ∙ ap₂ (λ (xs ys : List ℕ). xs ++ ys) was.2 body ∙ sym (bodies_push F was.0 payload),
    )

-- two lists that the same parts mean
same_or_not : (x y : List ℕ) → (x ≡ y) ⊎ (x ≢ y)
same_or_not x y = go (bytes_eq x y) refl
  where
    go : (b : Bool) → bytes_eq x y ≡ b → (x ≡ y) ⊎ (x ≢ y)
    go true is = inl (same_bytes x y is)
    go false is = inr (λ same. true≢false (sym (equal_bytes x y same) ∙ is))

further : (x y : List ℕ) (xs ys : List (List ℕ)) → TwoWithOneDigest xs ys → TwoWithOneDigest (x ∷ xs) (y ∷ ys)
further x y xs ys two = (suc two.0, two.1, two.2, two.3, two.4, two.5, two.6)

pub one_or_two : (parts : List Part) (xs ys : List (List ℕ)) → AllZip IsMeant parts xs → AllZip IsMeant parts ys → (xs ≡ ys) ⊎ TwoWithOneDigest xs ys
one_or_two [] [] [] some other = inl refl
one_or_two (part ∷ parts) (x ∷ xs) (y ∷ ys) some other = ⊎_elim
    (λ (same : x ≡ y). ⊎_elim
    (λ (rest : xs ≡ ys). inl (ap₂ (λ (z : List ℕ) (zs : List (List ℕ)). z ∷ zs) same rest))
    (λ (two : TwoWithOneDigest xs ys). inr (further x y xs ys two))
    (one_or_two parts xs ys some.1 other.1))
    (λ (apart : x ≢ y). inr (zero, x, y, refl, refl, apart, sym some.0.0 ∙ other.0.0))
    (same_or_not x y)
one_or_two [] (x ∷ xs) ys some other = absurd some
one_or_two [] [] (y ∷ ys) some other = absurd other
one_or_two (part ∷ parts) [] ys some other = absurd some
one_or_two (part ∷ parts) (x ∷ xs) [] some other = absurd other
