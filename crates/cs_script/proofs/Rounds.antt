-- The lines of rounds.
use Rattle.std.proofs.Common.{◌≡◌, ◌∙◌, ℕ, ◌+◌, List, [], ◌∷◌, ◌++◌, length, sym, ap, arith, append_assoc}
use Rattle.std.proofs.lemmas.List.{append-nil}
use Rattle.cs_deps.specs.declared.elements.Element.{Element}
use Rattle.cs_script.specs.Outputs.{round_line, round_lines}

-- one line more
pub round_lines_more : (i : ℕ) (rounds : List (List Element)) (round : List Element) → round_lines i (rounds ++ round ∷ []) ≡ round_lines i rounds ++ round_line (i + length rounds) round
round_lines_more i [] round = append-nil (round_line i round) ∙ ap (λ n. round_line n round) same
  where
    same : i ≡ i + 0
    same = omega arith
round_lines_more i (r ∷ rounds) round =
    ap (λ l. round_line i r ++ l) (round_lines_more (i + 1) rounds round)
    ∙ sym (append_assoc (round_line i r) (round_lines (i + 1) rounds) (round_line (i + 1 + length rounds) round))
    ∙ ap (λ n. (round_line i r ++ round_lines (i + 1) rounds) ++ round_line n round) same
  where
    same : i + 1 + length rounds ≡ i + length (r ∷ rounds)
    same = omega arith
