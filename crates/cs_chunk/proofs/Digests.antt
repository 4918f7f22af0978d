-- What marks tell of chunks.
use Rattle.std.proofs.Common.{◌≡◌, ◌≢◌, ◌∙◌, ◌⊎◌, ℕ, Bool, true, false, List, [], ◌∷◌, bytes_eq, eqb-true, refl, sym, ap₂, inl, inr, ⊎_elim}
use Rattle.std.proofs.lemmas.Slice.Eq.{bytes_eq-Decides}
use Rattle.cs_chunk.specs.Chunks.{AgreeInDigests, AreMeant, IsMeant, TwoAgree}
use Rattle.cs_extent.specs.State.{State, shape}
use Rattle.cs_frame.specs.FormatNumbers.{number_in}
use Rattle.cs_frame.specs.Frames.{payload_mark, spelled_frame}
use Rattle.cs_frame.specs.declared.locators.Locator.{Locator}
use Rattle.cs_frame.proofs.MarkLaws.{mark_of_frame, mark_of_pages, one_front}
use Rattle.law_machine.specs.Device.{mark_of}
use Rattle.law_machine.specs.Formats.{ChunkFrame}
use Rattle.law_machine.specs.Geometry.{marks_in}

-- a place whose frame has this payload has its mark
mark_is : (x : State) (l : Locator) (c : List ℕ) → marks_in x.format ≡ true → IsMeant (shape x) ChunkFrame l c → payload_mark c ≡ l.mark
mark_is x l c on meant =
    sym (mark_of_frame x.format (number_in x.format) 0 c on)
    ∙ sym (mark_of_pages (shape x) x.format refl (spelled_frame (number_in x.format) 0 c))
    ∙ eqb-true (mark_of (shape x) (spelled_frame (number_in x.format) 0 c)) l.mark meant

pub agree : (x : State) (ls : List Locator) (cs ds : List (List ℕ)) → marks_in x.format ≡ true → AreMeant (shape x) ls cs → AreMeant (shape x) ls ds → AgreeInDigests cs ds
agree x [] [] [] on a b = tt
agree x (l ∷ ls) (c ∷ cs) (d ∷ ds) on a b = (one_front c d (mark_is x l c on a.0 ∙ sym (mark_is x l d on b.0)), agree x ls cs ds on a.1 b.1)
agree x [] (c ∷ cs) ds on a b = absurd a
agree x [] [] (d ∷ ds) on a b = absurd b
agree x (l ∷ ls) [] ds on a b = absurd a
agree x (l ∷ ls) (c ∷ cs) [] on a b = absurd b

same_or_not : (c d : List ℕ) → (c ≡ d) ⊎ (c ≢ d)
same_or_not c d = go (bytes_eq c d) refl
  where
    go : (b : Bool) → bytes_eq c d ≡ b → (c ≡ d) ⊎ (c ≢ d)
    go true is = inl ((bytes_eq-Decides c d).0 is)
    go false is = inr (λ e. let on : bytes_eq c d ≡ true = (bytes_eq-Decides c d).1 e in cc (on, is))

pub one_or_two : (cs ds : List (List ℕ)) → AgreeInDigests cs ds → (cs ≡ ds) ⊎ TwoAgree cs ds
one_or_two [] [] are = inl refl
one_or_two (c ∷ cs) (d ∷ ds) are = ⊎_elim
    (λ (same : c ≡ d). ⊎_elim
    (λ (rest : cs ≡ ds). inl (ap₂ (λ (y : List ℕ) (ys : List (List ℕ)). y ∷ ys) same rest))
    (λ (two : TwoAgree cs ds). inr (inr two))
    (one_or_two cs ds are.1))
    (λ (other : c ≢ d). inr (inl (other, are.0)))
    (same_or_not c d)
one_or_two [] (d ∷ ds) are = absurd are
one_or_two (c ∷ cs) [] are = absurd are
