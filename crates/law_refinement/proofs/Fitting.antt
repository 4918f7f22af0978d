-- Where no number is past its greatest: which numbers of a frame, of a root or of a command would be.
use Rattle.std.proofs.Common.{◌≡◌, ◌⊎◌, inl, inr, ℕ, ◌+◌, ◌^◌, ◌<◌, ◌≤◌, [], ◌∷◌, length, refl, sym, subst, arith}
use Rattle.std.proofs.lemmas.Bool.{cases_eq, cases_lt}
use Rattle.std.specs.Prelude.{slice_index}
use Rattle.cs_deps.specs.State.{State as GraphState}
use Rattle.cs_extent.proofs.Worn.{in_section_here, in_section_other}
use Rattle.cs_extent.specs.Frames.{IsWorn, family_of}
use Rattle.cs_extent.specs.State.{State as ExtentsState, shape}
use Rattle.cs_extent.specs.Worn.{in_section}
use Rattle.cs_frame.specs.Formats.{formats_of}
use Rattle.cs_frame.specs.Geometries.{IsGeometry}
use Rattle.law_machine.specs.Grounds.{PastLimit}
use Rattle.law_machine.specs.State.{State}
use Rattle.law_refinement.specs.Stores.{IsWorldOf}
use Rattle.law_refinement.proofs.Numbers.{IsPast}
use Rattle.law_refinement.proofs.Shapes.{shape_of_store}

-- numbers by other names
past_by : (a b m n : ℕ) → a ≡ b → m ≡ n → 2 ^ 63 ≤ a + m → 2 ^ 63 ≤ b + n
past_by a b m n same as_many over = omega arith

module _ (x : ExtentsState) (s : State) (fits : PastLimit (shape x) (formats_of (shape x)) s → ⊥) where
  pub no_command : 2 ^ 63 ≤ s.count + length s.commands + 0 → ⊥
  no_command over = fits (inr (omega arith))

  pub no_root : 2 ^ 63 ≤ s.world.root + 0 → ⊥
  no_root over = fits (inl (inr (inr (inl (omega arith)))))

  pub no_write : 2 ^ 63 ≤ s.world.written + 0 → ⊥
  no_write over = fits (inl (inl (omega arith)))

  pub no_section : (j : ℕ) → j < (shape x).sections → 2 ^ 63 ≤ s.world.superblocks j + 0 → ⊥
  no_section j there over = fits (inl (inr (inl (j, there, (let high : 2 ^ 63 ≤ s.world.superblocks j + 0 = over in omega arith)))))

  pub young : (e : ℕ) → s.world.extents.generation e ≤ (shape x).greatest_generation
  young e = elim (cases_lt 4294967295 (s.world.extents.generation e)) [
    | inl over ↦ absurd (fits (inl (inr (inr (inr (e, over))))))
    | inr low ↦ low
  ]

  module _ (g : GraphState) (is : IsWorldOf x g s.world) (e n r c : ℕ) where
    -- a number of the frame's, or that of the root or of the commands
    abbrev pub IsOver : Type 0
    IsOver = IsWorn g.staging ((shape x).section e) n ⊎ (2 ^ 63 ≤ s.world.root + r) ⊎ (2 ^ 63 ≤ s.count + length s.commands + c)

    section_alone : (j : ℕ) → j < (shape x).sections → 2 ^ 63 ≤ s.world.superblocks j + in_section (shape x) j (e ∷ [])
        → 2 ^ 63 ≤ slice_index g.staging.latest (family_of ((shape x).section e)) + 1
    section_alone j there over = elim (cases_eq j ((shape x).section e)) [
      | inl here ↦
          let one : in_section (shape x) j (e ∷ []) ≡ 1 = in_section_here (shape x) j e [] (sym here) in
          subst (λ (k : ℕ). 2 ^ 63 ≤ slice_index g.staging.latest (family_of k) + 1) here
          (past_by (s.world.superblocks j) (slice_index g.staging.latest (family_of j)) (in_section (shape x) j (e ∷ [])) 1 (is.staging.sections j there) one over)
      | inr other ↦
          let none : in_section (shape x) j (e ∷ []) ≡ 0 = in_section_other (shape x) j e [] (λ same. other (sym same)) in
          absurd (no_section j there (past_by (s.world.superblocks j) (s.world.superblocks j) (in_section (shape x) j (e ∷ [])) 0 refl none over))
    ]

    -- what a frame that goes to e takes past the greatest
    pub of_frame : IsPast (shape x) s n (λ j. in_section (shape x) j (e ∷ [])) r c → IsOver
    of_frame (inl over) = inl (inl (let same : s.world.written ≡ g.staging.staged = is.staging.written in omega arith))
    of_frame (inr (inl (j, there, over))) = inl (inr (section_alone j there over))
    of_frame (inr (inr (inl over))) = inr (inl over)
    of_frame (inr (inr (inr over))) = inr (inr over)

    pub to_frame : IsGeometry x.format (length x.written) x.pages x.sections → IsOver → IsPast (shape x) s n (λ j. in_section (shape x) j (e ∷ [])) r c
    to_frame geometry (inl (inl over)) = inl (let same : s.world.written ≡ g.staging.staged = is.staging.written in omega arith)
    to_frame geometry (inl (inr over)) =
        let there : (shape x).section e < (shape x).sections = (shape_of_store x geometry).section e in
        let one : in_section (shape x) ((shape x).section e) (e ∷ []) ≡ 1 = in_section_here (shape x) ((shape x).section e) e [] refl in
        inr (inl (
          (shape x).section e,
          there,
          past_by (slice_index g.staging.latest (family_of ((shape x).section e))) (s.world.superblocks ((shape x).section e)) 1 (in_section (shape x) ((shape x).section e) (e ∷ []))
              (sym (is.staging.sections ((shape x).section e) there)) (sym one) over,
        ))
    to_frame geometry (inr (inl over)) = inr (inr (inl over))
    to_frame geometry (inr (inr over)) = inr (inr (inr over))
