-- How requests are spelled.
use Rattle.std.specs.Prelude.{ℕ, List, [], ◌∷◌, ◌++◌, length, map, decimal}
use Rattle.std.specs.Global.{Vec}
use Rattle.std.specs.List.{flat_map}

-- a line break: CR and LF
abbrev pub line_end : List ℕ
line_end = 13 ∷ 10 ∷ []

-- a sign, a number in decimal digits, and a line break
abbrev pub spelled_count : ℕ → ℕ → List ℕ
spelled_count sign n = sign ∷ (decimal n ++ line_end)

-- a bulk string: `$`, its length, its bytes, and a line break
abbrev pub spelled_bulk : List ℕ → List ℕ
spelled_bulk bytes = spelled_count 36 (length bytes) ++ (bytes ++ line_end)

-- a request: `*`, how many arguments it has, and each as a bulk string
abbrev pub spelled_request : List (List ℕ) → List ℕ
spelled_request request = spelled_count 42 (length request) ++ flat_map spelled_bulk request

-- byte strings without where they lie in memory
abbrev pub texts : List (Vec ℕ) → List (List ℕ)
texts vs = map (λ v. v.items) vs
