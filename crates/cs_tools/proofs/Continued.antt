-- Bytes that are written behind others, whichever they are.
use Rattle.std.proofs.Common.{◌≡◌, ◌∙◌, ℕ, List, [], ◌++◌, ap, append_assoc, sym}
use Rattle.std.proofs.lemmas.List.{append-nil}
use Rattle.std.specs.Prelude.{Option}
use Rattle.std.specs.Io.KnownBytes.{Appends, Keeps}
use Rattle.cs_advice.specs.Members.{BeginsWith, GoesOn}
use Rattle.cs_tools.specs.Stats.{dimensions_text}
use Rattle.cs_advice.specs.Tellings.{GrowsWith}
use Rattle.cs_advice.specs.declared.outputs.Style.{Style}
use Rattle.cs_advice.proofs.Appended.{appends_kept, appends_same, appends_then}

pub goes_then : (a b c : Option (List ℕ)) → GoesOn a b → GoesOn b c → GoesOn a c
goes_then a b c (xs, h) (ys, k) = (xs ++ ys, appends_then a b c xs ys h k)

pub goes_kept : (a b c : Option (List ℕ)) → GoesOn a b → Keeps b c → GoesOn a c
goes_kept a b c (xs, h) k = (xs, appends_kept a b c xs h k)

-- these bytes, and then others
pub begins_then : (a b c : Option (List ℕ)) (text : List ℕ) → Appends a b text → GoesOn b c → BeginsWith a c text
begins_then a b c text h (ys, k) = (ys, appends_then a b c text ys h k)

-- the same numbers have the same text
pub same_dimensions : (style : Style) (e p s f extents pages sections format : ℕ) → e ≡ extents → p ≡ pages → s ≡ sections → f ≡ format
    → dimensions_text style e p s f ≡ dimensions_text style extents pages sections format
same_dimensions style e p s f extents pages sections format es ps ss fs =
    ap (λ (n : ℕ). dimensions_text style n p s f) es ∙ ap (λ (n : ℕ). dimensions_text style extents n s f) ps
    ∙ ap (λ (n : ℕ). dimensions_text style extents pages n f) ss ∙ ap (λ (n : ℕ). dimensions_text style extents pages sections n) fs

-- the numbers of a geometry, one after another, and the end
pub five_then : (a b c d e z : Option (List ℕ)) (ks ls ms ns end : List ℕ) → Appends a b ks → Appends b c ls → Appends c d ms → Appends d e ns → Appends e z end
    → Appends a z (ks ++ ls ++ ms ++ ns ++ end)
five_then a b c d e z ks ls ms ns end k l m n last =
    appends_then a e z (ks ++ ls ++ ms ++ ns) end (appends_then a d e (ks ++ ls ++ ms) ns (appends_then a c d (ks ++ ls) ms (appends_then a b c ks ls k l) m) n) last

-- ---- bytes in which some stand

pub grows_same : (a b : Option (List ℕ)) (text : List ℕ) → Appends a b text → GrowsWith a b text
grows_same a b text h = ([], [], appends_same a b text (text ++ []) (sym (append-nil text)) h)

-- with others before them
pub grows_behind : (a b c : Option (List ℕ)) (text : List ℕ) → GoesOn a b → GrowsWith b c text → GrowsWith a c text
grows_behind a b c text (more, h) (front, behind, k) =
    (more ++ front, behind, appends_same a c (more ++ (front ++ text ++ behind)) ((more ++ front) ++ text ++ behind) (sym (append_assoc more (front ++ text) behind) ∙ ap (λ l. l ++ behind) (sym (append_assoc more front text))) (appends_then a b c more (front ++ text ++ behind) h k))

-- and with others behind them
pub grows_on : (a b c : Option (List ℕ)) (text : List ℕ) → GrowsWith a b text → GoesOn b c → GrowsWith a c text
grows_on a b c text (front, behind, h) (more, k) =
    (front, behind ++ more, appends_same a c ((front ++ text ++ behind) ++ more) (front ++ text ++ (behind ++ more)) (append_assoc (front ++ text) behind more) (appends_then a b c (front ++ text ++ behind) more h k))
