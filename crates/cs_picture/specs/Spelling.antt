-- How a name is spelled.
use Rattle.std.specs.Prelude.{ℕ, List, ◌++◌, decimal, encode_utf8}
use Rattle.cs_picture.specs.declared.names.Name.{Name}

-- its letter and its number in decimal
abbrev pub spelling : Name → List ℕ
spelling name = encode_utf8 name.letter ++ decimal name.number
