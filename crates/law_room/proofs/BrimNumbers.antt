-- How much may live beside a put, by numbers: 64 extents of 256 pages, two of which may hold runs.
use Rattle.std.proofs.Common.{◌≡◌, inl, ⊎_elim, ℕ, ◌+◌, ◌-◌, ◌*◌, ◌<◌, ◌≤◌, List, [], ◌∷◌, refl, ap, ◌∙◌, arith}
use Rattle.std.specs.Prelude.{sum}
use Rattle.law_machine.specs.Device.{Shape}
use Rattle.law_machine.specs.Lists.{◌∈◌}
use Rattle.law_room.specs.Brim.{FitBeside}

-- the same number so many times
abbrev pub eight_of : ℕ → List ℕ
eight_of k = k ∷ k ∷ k ∷ k ∷ k ∷ k ∷ k ∷ k ∷ []

in_eight : (k j : ℕ) → j ∈ eight_of k → j ≤ k
in_eight k j got = ⊎_elim is_it (⊎_elim is_it (⊎_elim is_it (⊎_elim is_it (⊎_elim is_it (⊎_elim is_it (⊎_elim is_it
    (⊎_elim is_it (λ none. absurd none)))))))) got
  where
    is_it : j ≡ k → j ≤ k
    is_it is = omega (arith, is)

module _ (S : Shape) (extents : S.extents ≡ 64) (pages : S.pages ≡ 256) where
  space : (most : ℕ) → (S.extents - (2 + 2)) * (S.pages + 1 - most) ≡ 60 * (257 - most)
  space most = ap (λ (n : ℕ). (n - (2 + 2)) * (S.pages + 1 - most)) extents
      ∙ ap (λ (n : ℕ). (64 - (2 + 2)) * (n + 1 - most)) pages ∙ omega arith

  pub page_beside : FitBeside S 2 15359 (1 ∷ [])
  page_beside = record {
    most = 1;
    each = λ k got. ⊎_elim (λ is. omega (arith, is)) (λ none. absurd none) got;
    one_fits = omega (arith, pages);
    extents = omega (arith, extents);
    few = (let room = space 1 in let all : sum (1 ∷ []) ≡ 1 = refl in omega (arith, room));
  }

  pub no_page_more : FitBeside S 2 15360 (1 ∷ []) → ⊥
  no_page_more fit =
      let room = space fit.most in
      let all : sum (1 ∷ []) ≡ 1 = refl in
      let some : 1 ≤ fit.most = fit.each 1 (inl refl) in
      let few : 15360 + sum (1 ∷ []) < (S.extents - (2 + 2)) * (S.pages + 1 - fit.most) + fit.most = fit.few in
      let fits : fit.most ≤ S.pages = fit.one_fits in omega (arith, room, pages)

  pub eight_beside : FitBeside S 2 13208 (eight_of 33)
  eight_beside = record {
    most = 33;
    each = in_eight 33;
    one_fits = omega (arith, pages);
    extents = omega (arith, extents);
    few = (let room = space 33 in let all : sum (eight_of 33) ≡ 264 = refl in omega (arith, room));
  }
