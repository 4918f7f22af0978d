-- The payloads of a put: the pieces of its bytes, each with its head.
use Rattle.std.proofs.Common.{◌≡◌, inl, inr, ℕ, zero, suc, ◌+◌, Some, true, ◌*◌, ◌<◌, ◌≤◌, List, [], ◌∷◌, ◌++◌, length, refl, sym, ap, ap₂, ◌∙◌, le_of_eq, le_trans, arith, subst}
use Rattle.law_machine.proofs.Chunks.{chunked_one, chunked_there}
use Rattle.law_machine.proofs.Counting.{few_chunks}
use Rattle.law_machine.specs.Device.{IsShape, Shape}
use Rattle.law_machine.specs.Events.{ArePayloads, headed}
use Rattle.law_machine.specs.Formats.{ChunkFrame, Formats, is_long_frame}
use Rattle.law_machine.specs.Frames.{AreLong, IsFormat}
use Rattle.law_machine.specs.Index.{joined, joined_bodies}
use Rattle.law_machine.specs.Lists.{nth}
use Rattle.std.proofs.lemmas.Option.{same_Some}

pub length_heads : (F : Formats) (id number count command : ℕ) (pieces : List (List ℕ))
    → length (headed F id number count command pieces) ≡ length pieces
length_heads F id number count command [] = refl
length_heads F id number count command (piece ∷ pieces) = ap suc (length_heads F id (suc number) count command pieces)

-- each has the head of its number
head_at : (F : Formats) (id number count command k : ℕ) (pieces : List (List ℕ)) (payload : List ℕ)
    → nth (headed F id number count command pieces) k ≡ Some payload
    → (piece : List ℕ) × (payload ≡ F.chunk id (number + k) count command piece)
head_at F id number count command k [] payload there = absurd (cc there)
head_at F id number count command zero (piece ∷ pieces) payload there = (
  piece,
  sym (same_Some (F.chunk id number count command piece) payload there)
      ∙ ap (λ (n : ℕ). F.chunk id n count command piece) (let e : number ≡ number + 0 = omega arith in e),
)
head_at F id number count command (suc k) (piece ∷ pieces) payload there =
    let more = head_at F id (suc number) count command k pieces payload there in
    (more.0, more.1 ∙ ap (λ (n : ℕ). F.chunk id n count command more.0) (let e : suc number + k ≡ number + suc k = omega arith in e))

module _ (S : Shape) (F : Formats) where
  -- the pieces are read back
  pub bodies : IsFormat S F → (id number count command : ℕ) (pieces : List (List ℕ))
      → joined_bodies F (headed F id number count command pieces) ≡ joined pieces
  bodies format id number count command [] = refl
  bodies format id number count command (piece ∷ pieces) = ap₂ (λ (xs ys : List ℕ). xs ++ ys)
      (format.one_piece id number count command piece) (bodies format id (suc number) count command pieces)

  -- there is one list of payloads
  pub payloads_there : (id command : ℕ) (bytes : List ℕ) → 0 < S.piece_bytes (length bytes)
      → (cs : List (List ℕ)) × ArePayloads S F id command bytes cs
  payloads_there id command bytes some =
      let pieces = chunked_there (S.piece_bytes (length bytes)) bytes some in
      (headed F id 0 (length pieces.0) command pieces.0, (pieces.0, pieces.1, refl))

  pub payloads_one : (id command : ℕ) (bytes : List ℕ) (cs ds : List (List ℕ)) → ArePayloads S F id command bytes cs
      → ArePayloads S F id command bytes ds → cs ≡ ds
  payloads_one id command bytes cs ds a b =
      a.2 ∙ ap (λ (pieces : List (List ℕ)). headed F id 0 (length pieces) command pieces)
      (chunked_one (S.piece_bytes (length bytes)) bytes a.0 b.0 a.1 b.1) ∙ sym b.2

  -- reading it gives the bytes
  pub payloads_bytes : IsFormat S F → (id command : ℕ) (bytes : List ℕ) (cs : List (List ℕ))
      → ArePayloads S F id command bytes cs → joined_bodies F cs ≡ bytes
  payloads_bytes format id command bytes cs a =
      ap (joined_bodies F) a.2 ∙ bodies format id 0 (length a.0) command a.0 ∙ a.1.0

  -- there are as many as pieces: one at least, and no more than a shard may have where the bytes are not too many
  pub payloads_length : (id command : ℕ) (bytes : List ℕ) (cs : List (List ℕ)) (a : ArePayloads S F id command bytes cs)
      → length cs ≡ length a.0
  payloads_length id command bytes cs a = ap length a.2 ∙ length_heads F id 0 (length a.0) command a.0

  pub payloads_some : (id command : ℕ) (bytes : List ℕ) (cs : List (List ℕ)) → ArePayloads S F id command bytes cs
      → 0 < length cs
  payloads_some id command bytes cs a = let same = payloads_length id command bytes cs a in
      let some : 0 < length a.0 = a.1.1 in omega arith

  pub payloads_few : IsShape S → (id command : ℕ) (bytes : List ℕ) (cs : List (List ℕ))
      → ArePayloads S F id command bytes cs → length bytes ≤ S.most_chunks * S.chunk_bytes → length cs ≤ S.most_chunks
  payloads_few shape id command bytes cs a short = le_trans (le_of_eq (payloads_length id command bytes cs a))
      (few_chunks (S.piece_bytes (length bytes)) S.most_chunks bytes a.0 shape.some_chunk a.1.2 a.1.0 (shape.few_pieces (length bytes) short))

  -- payload k has the head of chunk k
  pub payloads_heads : (id command : ℕ) (bytes : List ℕ) (cs : List (List ℕ)) (k : ℕ) (payload : List ℕ)
      → ArePayloads S F id command bytes cs → nth cs k ≡ Some payload
      → (piece : List ℕ) × (payload ≡ F.chunk id k (length cs) command piece)
  payloads_heads id command bytes cs k payload a there =
      let found = head_at F id 0 (length a.0) command k a.0 payload (ap (λ (xs : List (List ℕ)). nth xs k) (sym a.2) ∙ there) in (
        found.0,
        found.1 ∙ ap (λ (n : ℕ). F.chunk id n (length a.0) command found.0) (let e : 0 + k ≡ k = omega arith in e)
            ∙ ap (λ (n : ℕ). F.chunk id k n command found.0) (sym (payloads_length id command bytes cs a)),
      )

  -- each is long enough
  headed_long : IsFormat S F → (id number count command : ℕ) (pieces : List (List ℕ))
      → AreLong S F (headed F id number count command pieces)
  headed_long format id number count command [] payload none = absurd none
  headed_long format id number count command (piece ∷ pieces) payload (inl is) =
      subst (λ (c : List ℕ). length (F.frame ChunkFrame c) ≤ S.pages → is_long_frame F (F.frame ChunkFrame c) ≡ true) (sym is)
      (format.long_chunk id number count command piece)
  headed_long format id number count command (piece ∷ pieces) payload (inr there) =
      headed_long format id (suc number) count command pieces payload there

  pub payloads_long : IsFormat S F → (id command : ℕ) (bytes : List ℕ) (cs : List (List ℕ))
      → ArePayloads S F id command bytes cs → AreLong S F cs
  payloads_long format id command bytes cs a =
      subst (λ (xs : List (List ℕ)). AreLong S F xs) (sym a.2) (headed_long format id 0 (length a.0) command a.0)
