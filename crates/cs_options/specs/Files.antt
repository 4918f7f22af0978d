-- Which file a command is about.
use Rattle.std.specs.Prelude.{◌≡◌, ◌≢◌, ℕ, List, Option, None, Some, codes}
use Rattle.clap.specs.declared.parser.matches.ArgMatches.{ArgMatches}
use Rattle.clap.specs.Words.{first_value, found_of}

-- the first of two where there is one, else the second
abbrev pub first_of : (first second : Option (List ℕ)) → Option (List ℕ)
first_of None second = second
first_of (Some text) second = Some text

-- the file of the word, else that of --file, else the environment's
abbrev pub file_asked : ArgMatches → (environment : Option (List ℕ)) → Option (List ℕ)
file_asked options environment = first_of (first_value (found_of options) (codes "store")) (first_of (first_value (found_of options) (codes "file")) environment)

-- a word and --file name two files
abbrev pub NamesTwo : ArgMatches → Type 0
NamesTwo options = (word option : List ℕ)
    × (first_value (found_of options) (codes "store") ≡ Some word) × (first_value (found_of options) (codes "file") ≡ Some option) × (word ≢ option)
