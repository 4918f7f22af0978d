-- What sections record of the root.
use Rattle.std.proofs.Common.{◌≡◌, ◌∙◌, ⊎_elim, ℕ, ◌+◌, ◌<◌, ◌≤◌, List, Some, le_of_eq, le_trans, length, map, subst, sym, ap, arith}
use Rattle.std.specs.Prelude.{option_map, slice_get, slice_index}
use Rattle.std.proofs.lemmas.Bool.{cases_eq}
use Rattle.std.proofs.lemmas.Option.{get_or_from_slice_get, slice_get-map, slice_get_within}
use Rattle.cs_frame.specs.declared.superblocks.Superblock.{Superblock}
use Rattle.cs_reader.specs.Openings.{AreRecordedBy}

module _ (sections : List Superblock) (root : ℕ) where
  abbrev records : List ℕ
  records = map (λ (it : Superblock). it.recorded) sections

  record_is : (k : ℕ) (it : Superblock) → slice_get sections k ≡ Some it → slice_index records k ≡ it.recorded
  record_is k it at = get_or_from_slice_get records k it.recorded 0
      (slice_get-map (λ (x : Superblock). x.recorded) sections k ∙ ap (option_map (λ (x : Superblock). x.recorded)) at)

  pub none_recorded : AreRecordedBy 0 records root
  none_recorded j lt = absurd (omega (arith, lt))

  -- one section more
  pub recorded_more : (k : ℕ) (it : Superblock) → slice_get sections k ≡ Some it → it.recorded ≤ root → AreRecordedBy k records root → AreRecordedBy (k + 1) records root
  recorded_more k it at le so_far j lt = ⊎_elim
      (λ (same : j ≡ k). subst (λ (n : ℕ). slice_index records n ≤ root) (sym same) (le_trans (le_of_eq (record_is k it at)) le))
      (λ (other : j ≡ k → ⊥). so_far j (omega (arith, lt, other)))
      (cases_eq j k)

  -- or one that records a later root
  pub recorded_later : (k : ℕ) (it : Superblock) → slice_get sections k ≡ Some it → root < it.recorded → (j : ℕ) × (j < length sections) × (root < slice_index records j)
  recorded_later k it at later = (k, slice_get_within sections k it at, subst (λ (n : ℕ). root < n) (sym (record_is k it at)) later)

  pub recorded_all : (k : ℕ) → length sections ≤ k → AreRecordedBy k records root → AreRecordedBy (length sections) records root
  recorded_all k all so_far j lt = so_far j (omega (arith, lt, all))
