-- Puts of which each chunk has a whole frame.
use Rattle.std.proofs.Common.{◌≡◌, ◌∙◌, ℕ, zero, suc, ◌*◌, ◌<◌, ◌≤◌, ◌^◌, true, List, [], ◌∷◌, length, get_or, inl, inr, refl, sym, ap, arith}
use Rattle.std.specs.List.{Contains}
use Rattle.std.proofs.lemmas.Bool.{cases_lt}
use Rattle.std.proofs.lemmas.List.Elements.{Contains-get_or}
use Rattle.sha2.specs.Sha256.{sha256}
use Rattle.cs_disk.specs.Disk.{Image}
use Rattle.cs_frame.specs.Frames.{page_count}
use Rattle.cs_frame.specs.Geometries.{FitsFormat}
use Rattle.cs_frame.specs.Identifiers.{id_number}
use Rattle.law_machine.proofs.Counting.{few_chunks}
use Rattle.law_machine.proofs.Pieces.{few_pieces}
use Rattle.law_machine.specs.Events.{ArePayloads}
use Rattle.law_machine.specs.Format.{Format}
use Rattle.law_machine.specs.Geometry.{heads_in, store_front}
use Rattle.law_machine.specs.Pieces.{chunk_bytes_in, piece_bytes_in}
use Rattle.cs_salvage.specs.declared.parts.Part.{Part}
use Rattle.cs_salvage.specs.declared.parts.Put.{Put}
use Rattle.cs_salvage.specs.declared.searches.Sought.{Sought}
use Rattle.cs_salvage.specs.declared.searches.Whose.{Whose}
use Rattle.cs_salvage.specs.declared.searches.Whose.TheVariants.{OfAny, OfStore}
use Rattle.cs_salvage.specs.Parts.{AreParts, AreTaken, IsIdentifier, IsPart, formats_in, shape_in}
use Rattle.cs_salvage.specs.Shards.{Conflict, HasFrames, HasOnly, IsAmbiguous, IsWhole, put_of}
use Rattle.cs_salvage.proofs.Putting.{IsOfPut, eight_bytes, many, part_of_put, payload_at}

-- a list of what there is of each number below a count
listed : {A : Type 0} (P : ℕ → A → Type 0) (n : ℕ) → ((k : ℕ) → k < n → (x : A) × P k x) → (xs : List A) × (length xs ≡ n) × ((k : ℕ) (d : A) → k < length xs → P k (get_or xs k d))
listed P zero each = ([], refl, λ k d lt. absurd (omega (arith, lt)))
listed {A = A} P (suc n) each =
    let first = each 0 (omega arith) in
    let rest = listed (λ (k : ℕ). P (suc k)) n (λ k lt. each (suc k) (omega (arith, lt))) in
    (first.0 ∷ rest.0, ap suc rest.1, at first.0 first.1 rest.0 rest.2)
  where
    at : (x : A) → P 0 x → (xs : List A) → ((k : ℕ) (d : A) → k < length xs → P (suc k) (get_or xs k d)) → (k : ℕ) (d : A) → k < length (x ∷ xs) → P k (get_or (x ∷ xs) k d)
    at x is xs others zero d lt = is
    at x is xs others (suc k) d lt = others k d (omega (arith, lt))

-- chunks of a store are taken of it
taken : (whose : Whose) (own : List ℕ) → AreTaken whose own own
taken OfStore own = refl
taken OfAny own = tt

-- eight pieces are enough for what eight chunks hold
eight_enough : (format : Format) (pages bytes : ℕ) → bytes ≤ 8 * chunk_bytes_in format pages → bytes ≤ 8 * piece_bytes_in format pages bytes
eight_enough format pages bytes short = elim (cases_lt 0 (chunk_bytes_in format pages)) [
  | inl some ↦ few_pieces format pages bytes some short
  | inr none ↦ omega (arith, short, none)
]

module _ (sought : Sought) (image : Image) (put : Put) (bytes : List ℕ) (payloads : List (List ℕ))
    (are : ArePayloads (shape_in sought.geometry) (formats_in sought.geometry) (id_number put.id) put.command bytes payloads) where
  -- two parts of the put don't conflict
  clear : FitsFormat sought.geometry.format → HasOnly sought image put payloads → (parts : List Part) → AreParts sought image parts → IsAmbiguous parts put → ⊥
  clear fits only parts all two =
      let one = all.sound two.one two.one_there in
      let other = all.sound two.other two.other_there in
      let first = part_of_put sought image put bytes payloads are fits only two.one one.0 one.1 two.one_of in
      let second = part_of_put sought image put bytes payloads are fits only two.other other.0 other.1 two.other_of in
      go first second one.1 other.1 two.conflict
    where
      go : {x y : List ℕ} → IsOfPut sought image put bytes payloads are two.one x → IsOfPut sought image put bytes payloads are two.other y → IsPart sought image two.one x → IsPart sought image two.other y
          → Conflict two.one two.other → ⊥
      go first second one other (inl stores) = stores (first.store ∙ sym second.store)
      go first second one other (inr (inl counts)) = counts (first.count ∙ sym second.count)
      go {x = x} {y = y} first second one other (inr (inr (number, digests))) =
          let same : x ≡ y = first.own ∙ ap (λ (n : ℕ). get_or payloads n []) number ∙ sym second.own in
          digests (one.digest ∙ ap sha256 same ∙ sym other.digest)

  -- it is a part of the put with this number
  abbrev IsNumberOf : List Part → ℕ → Part → Type 0
  IsNumberOf parts k part = Contains parts part × (put_of part ≡ put) × (part.head.number ≡ k) × (part.head.count ≡ length payloads)

  module _ (small : put.command < 2 ^ 64) (fits : FitsFormat sought.geometry.format) (heads : heads_in sought.geometry.format ≡ true) (id : IsIdentifier put.id) (few : length payloads ≤ 8) (frames : HasFrames sought.geometry image payloads) (parts : List Part) (all : AreParts sought image parts) where
    part_at : (k : ℕ) → k < length payloads → (part : Part) × IsNumberOf parts k part
    part_at k lt =
        let payload : List ℕ = get_or payloads k [] in
        let frame = frames (get_or payloads k []) (Contains-get_or payloads k [] lt) in
        let part : Part = record {
          extent = frame.0;
          page = frame.1;
          pages = page_count (length (get_or payloads k []));
          head = record { id = put.id; number = k; count = length payloads; command = put.command };
          store = store_front sought.geometry.format;
          digest = sha256 (get_or payloads k []);
        } in
        let is : IsPart sought image part payload = record {
          heads = heads;
          chunk = frame.2;
          pages = refl;
          head = (get_or are.0 k [], payload_at sought.geometry put bytes payloads are heads k lt);
          store = taken sought.whose (store_front sought.geometry.format);
          spellable = (id, small, eight_bytes sought.geometry.format fits heads);
          numbered = (lt, few);
          digest = refl;
        } in
        (part, (all.complete part payload is, refl, refl, refl))

    pub all_there : (IsAmbiguous parts put → ⊥) → 0 < length payloads → IsWhole parts put
    all_there none some =
        let pieces = listed (IsNumberOf parts) (length payloads) part_at in (
          pieces.0,
          record {
            some = omega (arith, pieces.1, some);
            there = λ k d lt. (pieces.2 k d lt).0;
            own = λ k d lt. (pieces.2 k d lt).1;
            numbered = λ k d lt. (pieces.2 k d lt).2;
            counted = λ k d lt. (pieces.2 k d lt).3 ∙ sym pieces.1;
            clear = none;
          },
        )

  pub is_whole : put.command < 2 ^ 64 → FitsFormat sought.geometry.format → heads_in sought.geometry.format ≡ true → IsIdentifier put.id → length bytes ≤ (shape_in sought.geometry).most_chunks * (shape_in sought.geometry).chunk_bytes
      → HasFrames sought.geometry image payloads → HasOnly sought image put payloads → (parts : List Part) → AreParts sought image parts → IsWhole parts put
  is_whole small fits heads id short frames only parts all =
      let count = many sought.geometry put bytes payloads are in
      let few : length are.0 ≤ 8 = few_chunks ((shape_in sought.geometry).piece_bytes (length bytes)) 8 bytes are.0 (omega arith) are.1.2 are.1.0
      (eight_enough sought.geometry.format sought.geometry.pages (length bytes) short) in
      all_there small fits heads id (omega (arith, count, few)) frames parts all (clear fits only parts all) (omega (arith, count, are.1.1))
