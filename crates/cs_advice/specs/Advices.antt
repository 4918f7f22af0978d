-- What advice may say.
use Rattle.std.specs.Prelude.{◌==◌, ◌&&◌, ◌||◌, ℕ, Bool, true, false, List, [], ◌∷◌, codes, nat_le}
use Rattle.cs_refusal.specs.Refusals.{number_of}
use Rattle.cs_refusal.specs.declared.refusals.Refusal.{Refusal}
use Rattle.cs_frame.specs.declared.formats.FormatNumber.TheVariants.{Two}
use Rattle.cs_advice.specs.declared.advices.Todo.{Todo}
use Rattle.cs_advice.specs.declared.advices.Todo.TheVariants.{Length, Make, Move, Text, TwoStores, Written}
use Rattle.cs_advice.specs.declared.knowns.Content.{Content}
use Rattle.cs_advice.specs.declared.knowns.Content.TheVariants as content

-- the text begins with this word
abbrev pub begins : (word text : List ℕ) → Bool
begins [] text = true
begins (w ∷ ws) [] = false
begins (w ∷ ws) (x ∷ xs) = w == x && begins ws xs

-- the text has this word somewhere
abbrev pub has_word : (word text : List ℕ) → Bool
has_word word [] = false
has_word word (x ∷ xs) = begins word (x ∷ xs) || has_word word xs

-- the text says to make a store, by one of these words
abbrev pub says_make : List ℕ → Bool
says_make text = has_word (codes "create") text || has_word (codes "make a") text || has_word (codes "--new") text

-- what is said but for making a store, in the file or in another one, and but for numbers and identities
abbrev pub words_of : Todo → List ℕ
words_of (Text text) = text.now
words_of (Length pages wanted) = []
words_of (TwoStores first last) = []
words_of (Written page) = []
words_of (Move text) = []
words_of Make = []

-- what is said to move the shards into another store
abbrev pub moving_words : Todo → List ℕ
moving_words (Move text) = text.now
moving_words (Text text) = []
moving_words (Length pages wanted) = []
moving_words (TwoStores first last) = []
moving_words (Written page) = []
moving_words Make = []

-- The text says how the shards of a store of format 3 come into another one: by the version of which commit, by which
-- of its commands, and by which commands of this version.
abbrev pub says_how_to_move : List ℕ → Bool
says_how_to_move text =
    has_word (codes "format 3") text && has_word (codes "commit 8d0b7298936e") text && has_word (codes "export --file OLD") text
    && has_word (codes "run --strict --file NEW") text && has_word (codes "create NEW") text

-- the refusal is of a page, or of a file that holds no store: 20 to 27, or 43
abbrev pub is_of_pages : Refusal → Bool
is_of_pages r = (nat_le 20 (number_of r) && nat_le (number_of r) 27) || number_of r == 43

-- The refusal is of a store that is damaged or isn't opened, or of a page of it that can't be read: 20 to 29, or 43.
abbrev pub is_of_store : Refusal → Bool
is_of_store r = (nat_le 20 (number_of r) && nat_le (number_of r) 29) || number_of r == 43

-- the text names a command, or an option of one, by which what is in a file is gone
abbrev pub erases : List ℕ → Bool
erases text = has_word (codes "--force") text || has_word (codes "--new") text || has_word (codes "`rm ") text || has_word (codes "`dd ") text

-- the first step that the text names is a command that only reads
abbrev pub asks_doctor : List ℕ → Bool
asks_doctor text = begins (codes "First run `doctor FILE`: it only reads") text

-- What is known of the file says by itself what to do about this refusal: the file is empty, or it holds pages of two
-- stores, a store of format 3, or one of format 2 that is read in a way which it hasn't.
abbrev pub is_clear : Refusal → Content → Bool
is_clear r content.Empty = true
is_clear r (content.TwoStores first last) = true
is_clear r content.Superseded = true
is_clear r (content.Store Two) = number_of r == 43
is_clear r known = false
