-- What is exported, one after another and piece after piece. What is told of each thing is a relation R, with two counts of the disk's failures, before and
-- after.
use Rattle.std.proofs.Common.{◌≡◌, ◌∙◌, ◌<◌, ◌≤◌, ◌+◌, ℕ, Bool, true, false, ◌&&◌, zero, suc, List, [], ◌∷◌, ◌++◌, get_or, length, take, refl, sym, ap, subst, arith, append_assoc}
use Rattle.std.specs.Prelude.{Option, flat_map, min}
use Rattle.std.proofs.lemmas.Grind.{flat_map-append}
use Rattle.std.proofs.lemmas.List.{append-nil, length-append, take_more}
use Rattle.std.proofs.lemmas.List.Folds.{list_all-append}
use Rattle.std.proofs.lemmas.Slice.Zip.{AllZip-long}
use Rattle.std.specs.Io.KnownBytes.{Appends, Keeps}
use Rattle.std.specs.List.{AllByRecursion, AllZip, list_all}
use Rattle.cs_tools.specs.Exports.{ArePieces, IsScript, Shard, is_whole, piece_lines, shard_line, sync_line}
use Rattle.cs_advice.proofs.Appended.{appends_kept, appends_none, appends_then}

-- ---- what holds of each

pub all_behind : {X : Type 0} (P : X → Type 0) (xs ys : List X) → AllByRecursion P (xs ++ ys) → AllByRecursion P ys
all_behind P [] ys h = h
all_behind P (x ∷ xs) ys h = all_behind P xs ys h.1

pub all_ahead : {X : Type 0} (P : X → Type 0) (xs ys : List X) → AllByRecursion P (xs ++ ys) → AllByRecursion P xs
all_ahead P [] ys h = tt
all_ahead P (x ∷ xs) ys h = (h.0, all_ahead P xs ys h.1)

pub all_at : {X : Type 0} (P : X → Type 0) (xs : List X) (i : ℕ) (d : X) → i < length xs → AllByRecursion P xs → P (get_or xs i d)
all_at P [] i d lt h = absurd (omega (arith, lt))
all_at P (x ∷ xs) zero d lt h = h.0
all_at P (x ∷ xs) (suc i) d lt h = all_at P xs i d (omega (arith, lt)) h.1

pub all_mapped : {X : Type 0} (P Q : X → Type 0) → ((x : X) → P x → Q x) → (xs : List X) → AllByRecursion P xs → AllByRecursion Q xs
all_mapped P Q f [] h = tt
all_mapped P Q f (x ∷ xs) h = (f x h.0, all_mapped P Q f xs h.1)

-- the same of two lists side by side
zip_both : {X Y : Type 0} (R : X → Y → Type 0) (xs us : List X) (ys vs : List Y) → AllZip R xs ys → AllZip R us vs → AllZip R (xs ++ us) (ys ++ vs)
zip_both R [] us [] vs h k = k
zip_both R [] us (y ∷ ys) vs h k = absurd h
zip_both R (x ∷ xs) us [] vs h k = absurd h
zip_both R (x ∷ xs) us (y ∷ ys) vs h k = (h.0, zip_both R xs us ys vs h.1 k)

zip_mapped : {X Y : Type 0} (R Q : X → Y → Type 0) → ((x : X) (y : Y) → R x y → Q x y) → (xs : List X) (ys : List Y) → AllZip R xs ys → AllZip Q xs ys
zip_mapped R Q f [] [] h = tt
zip_mapped R Q f [] (y ∷ ys) h = absurd h
zip_mapped R Q f (x ∷ xs) [] h = absurd h
zip_mapped R Q f (x ∷ xs) (y ∷ ys) h = (f x y h.0, zip_mapped R Q f xs ys h.1)

-- ---- whether all could be read

and_true : (b : Bool) → b ≡ (b && true)
and_true true = refl
and_true false = refl

whole_more : (ss ts : List Shard) (a b : Bool) → a ≡ list_all is_whole ss → b ≡ list_all is_whole ts → (a && b) ≡ list_all is_whole (ss ++ ts)
whole_more ss ts a b h k = ap (λ (w : Bool). w && b) h ∙ ap (λ (w : Bool). list_all is_whole ss && w) k ∙ sym (list_all-append is_whole ss ts)

-- ---- what is told, with counts that lie further apart

-- what is told with two counts is so with counts before and after them
abbrev pub Widens : {X : Type 0} → (ℕ → ℕ → X → Shard → Type 0) → Type 0
Widens {X} R = (x y z u : ℕ) (item : X) (shard : Shard) → x ≤ y → z ≤ u → R y z item shard → R x u item shard

-- some, and then others
told_both : {X : Type 0} (R : ℕ → ℕ → X → Shard → Type 0) → Widens R → (x y z : ℕ) (is js : List X) (ss ts : List Shard) → x ≤ y → y ≤ z → AllZip (R x y) is ss → AllZip (R y z) js ts → AllZip (R x z) (is ++ js) (ss ++ ts)
told_both R wider x y z is js ss ts le le' h k =
    zip_both (R x z) is js ss ts (zip_mapped (R x y) (R x z) (λ i s told. wider x x y z i s (omega arith) le' told) is ss h) (zip_mapped (R y z) (R x z) (λ i s told. wider x y z z i s le (omega arith) told) js ts k)

-- ---- a piece

-- The lines so far of what was read.
pub record ArePrinted {X : Type 0} (R : X → Shard → Type 0) (items : List X) (whole : Bool) (before after : Option (List ℕ)) : Type 0 where
  pub shards : List Shard
  pub told : AllZip R items shards
  pub whole_is : whole ≡ list_all is_whole shards
  pub lines : Appends before after (flat_map shard_line shards)

pub none_printed : {X : Type 0} (R : X → Shard → Type 0) (a : Option (List ℕ)) → ArePrinted R [] true a a
none_printed R a = record { shards = []; told = tt; whole_is = refl; lines = appends_none a }

one_line : (ss : List Shard) (s : Shard) → flat_map shard_line ss ++ shard_line s ≡ flat_map shard_line (ss ++ s ∷ [])
one_line ss s = ap (λ (l : List ℕ). flat_map shard_line ss ++ l) (sym (append-nil (shard_line s))) ∙ sym (flat_map-append shard_line ss (s ∷ []))

one_printed : {X : Type 0} (R : ℕ → ℕ → X → Shard → Type 0) → Widens R → (x y z : ℕ) (items : List X) (item : X) (whole read : Bool) (a b c : Option (List ℕ)) → x ≤ y → y ≤ z → ArePrinted (R x y) items whole a b
    → ((shard : Shard) × R y z item shard × (read ≡ is_whole shard) × Appends b c (shard_line shard)) → ArePrinted (R x z) (items ++ item ∷ []) (whole && read) a c
one_printed R wider x y z items item whole read a b c le le' so_far h = record {
  shards = so_far.shards ++ h.0 ∷ [];
  told = told_both R wider x y z items (item ∷ []) so_far.shards (h.0 ∷ []) le le' so_far.told (h.1, tt);
  whole_is = whole_more so_far.shards (h.0 ∷ []) whole read so_far.whole_is (h.2 ∙ and_true (is_whole h.0));
  lines = subst (Appends a c) (one_line so_far.shards h.0) (appends_then a b c (flat_map shard_line so_far.shards) (shard_line h.0) so_far.lines h.3);
}

-- the same of them in order
pub shard_printed : {X : Type 0} (R : ℕ → ℕ → X → Shard → Type 0) → Widens R → (x y z : ℕ) (items : List X) (i : ℕ) (d : X) (whole read : Bool) (a b c : Option (List ℕ)) → x ≤ y → y ≤ z → i < length items → ArePrinted (R x y) (take i items) whole a b
    → ((shard : Shard) × R y z (get_or items i d) shard × (read ≡ is_whole shard) × Appends b c (shard_line shard)) → ArePrinted (R x z) (take (i + 1) items) (whole && read) a c
shard_printed {X} R wider x y z items i d whole read a b c le le' lt so_far h =
    subst (λ (l : List X). ArePrinted (R x z) l (whole && read) a c) (sym (take_more items i d lt)) (one_printed R wider x y z (take i items) (get_or items i d) whole read a b c le le' so_far h)

-- a sync behind them
pub synced : {X : Type 0} (R : X → Shard → Type 0) (items : List X) (whole : Bool) (a b c : Option (List ℕ)) → ArePrinted R items whole a b → Appends b c sync_line
    → (shards : List Shard) × AllZip R items shards × (whole ≡ list_all is_whole shards) × Appends a c (piece_lines shards)
synced R items whole a b c printed line = (printed.shards, printed.told, printed.whole_is, appends_then a b c (flat_map shard_line printed.shards) sync_line printed.lines line)

-- ---- a script

-- each piece has 1,000 elements
abbrev pub AreFull : {X : Type 0} → List (List X) → Type 0
AreFull [] = Unit {0}
AreFull (piece ∷ pieces) = (length piece ≡ 1000) × AreFull pieces

full_more : {X : Type 0} (pieces : List (List X)) (piece : List X) → AreFull pieces → length piece ≡ 1000 → AreFull (pieces ++ piece ∷ [])
full_more [] piece full size = (size, tt)
full_more (p ∷ ps) piece full size = (full.0, full_more ps piece full.1 size)

pieces_more : {X : Type 0} (pieces : List (List X)) (piece : List X) → AreFull pieces → 0 < length piece → length piece ≤ 1000 → ArePieces (pieces ++ piece ∷ [])
pieces_more [] piece full some few = (some, few)
pieces_more (p ∷ []) piece full some few = (full.0, (some, few))
pieces_more (p ∷ q ∷ ps) piece full some few = (full.0, pieces_more (q ∷ ps) piece full.1 some few)

-- What is printed of some things, where these are left.
pub record IsPrintedUpTo {X : Type 0} (R : X → Shard → Type 0) (items rest : List X) (whole : Bool) (before after : Option (List ℕ)) : Type 0 where
  pub done : List X
  pub split : items ≡ done ++ rest
  pub pieces : List (List Shard)
  pub full : 0 < length rest → AreFull pieces
  pub cut : ArePieces pieces
  pub told : AllZip R done (flat_map (λ piece. piece) pieces)
  pub whole_is : whole ≡ list_all is_whole (flat_map (λ piece. piece) pieces)
  pub lines : Appends before after (flat_map piece_lines pieces)

pub nothing_printed : {X : Type 0} (R : X → Shard → Type 0) (items : List X) (a : Option (List ℕ)) → IsPrintedUpTo R items items true a a
nothing_printed R items a = record {
  done = [];
  split = refl;
  pieces = [];
  full = λ some. tt;
  cut = tt;
  told = tt;
  whole_is = refl;
  lines = appends_none a;
}

at_end : {X : Type 0} (f : X → List ℕ) (xs : List X) (x : X) → flat_map f xs ++ f x ≡ flat_map f (xs ++ x ∷ [])
at_end f xs x = ap (λ (l : List ℕ). flat_map f xs ++ l) (sym (append-nil (f x))) ∙ sym (flat_map-append f xs (x ∷ []))

joined : (pieces : List (List Shard)) (piece : List Shard) → flat_map (λ (p : List Shard). p) pieces ++ piece ≡ flat_map (λ (p : List Shard). p) (pieces ++ piece ∷ [])
joined pieces piece = ap (λ (l : List Shard). flat_map (λ (p : List Shard). p) pieces ++ l) (sym (append-nil piece)) ∙ sym (flat_map-append (λ (p : List Shard). p) pieces (piece ∷ []))

pub piece_printed : {X : Type 0} (R : ℕ → ℕ → X → Shard → Type 0) → Widens R → (x y z : ℕ) (size : ℕ) (items rest piece left : List X) (whole read : Bool) (a b c : Option (List ℕ)) → x ≤ y → y ≤ z → size ≡ 1000 → IsPrintedUpTo (R x y) items rest whole a b
    → rest ≡ piece ++ left → length piece ≡ min size (length rest) → 0 < length rest
    → ((shards : List Shard) × AllZip (R y z) piece shards × (read ≡ list_all is_whole shards) × Appends b c (piece_lines shards)) → IsPrintedUpTo (R x z) items left (whole && read) a c
piece_printed {X} R wider x y z size items rest piece left whole read a b c le le' is so_far begins taken some h =
    let shards = h.0 in
    let count : length shards ≡ length piece = AllZip-long (R y z) piece shards h.1 in
    let all : length rest ≡ length piece + length left = ap length begins ∙ length-append piece left in
    let was = so_far.full some in
    let before = flat_map (λ (p : List Shard). p) so_far.pieces in
    record {
      done = so_far.done ++ piece;
      split = so_far.split ∙ ap (λ (l : List X). so_far.done ++ l) begins ∙ sym (append_assoc so_far.done piece left);
      pieces = so_far.pieces ++ shards ∷ [];
      full = λ more. full_more so_far.pieces shards was (omega (arith, count, all, is, taken, more));
      cut = pieces_more so_far.pieces shards was (omega (arith, count, is, taken, some)) (omega (arith, count, is, taken));
      told = subst (AllZip (R x z) (so_far.done ++ piece)) (joined so_far.pieces shards) (told_both R wider x y z so_far.done piece before shards le le' so_far.told h.1);
      whole_is = whole_more before shards whole read so_far.whole_is h.2 ∙ ap (list_all is_whole) (joined so_far.pieces shards);
      lines = subst (Appends a c) (at_end piece_lines so_far.pieces shards) (appends_then a b c (flat_map piece_lines so_far.pieces) (piece_lines shards) so_far.lines h.3);
    }

-- the next piece holds some of them
pub piece_of : {X : Type 0} (P : X → Type 0) (R : X → Shard → Type 0) (items rest piece left : List X) (whole : Bool) (a b : Option (List ℕ)) → IsPrintedUpTo R items rest whole a b
    → rest ≡ piece ++ left → AllByRecursion P items → AllByRecursion P piece
piece_of P R items rest piece left whole a b so_far begins all =
    all_ahead P piece left (subst (AllByRecursion P) begins (all_behind P so_far.done rest (subst (AllByRecursion P) so_far.split all)))

-- none is left, and then nothing more is written
pub all_printed : {X : Type 0} (R : X → Shard → Type 0) (items rest : List X) (whole : Bool) (a b c : Option (List ℕ)) → IsPrintedUpTo R items rest whole a b → length rest ≡ 0 → Keeps b c
    → (shards : List Shard) × AllZip R items shards × (whole ≡ list_all is_whole shards) × ((text : List ℕ) × IsScript shards text × Appends a c text)
all_printed {X} R items [] whole a b c so_far none kept =
    let shards = flat_map (λ (p : List Shard). p) so_far.pieces in
    let text = flat_map piece_lines so_far.pieces in (
      shards,
      subst (λ (l : List X). AllZip R l shards) (sym (so_far.split ∙ append-nil so_far.done)) so_far.told,
      so_far.whole_is,
      (text, record { pieces = so_far.pieces; cut = so_far.cut; all = refl; lines = refl }, appends_kept a b c text so_far.lines kept),
    )
all_printed R items (i ∷ is) whole a b c so_far none kept = absurd (omega (arith, none))
