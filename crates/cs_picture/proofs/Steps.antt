-- The lines of a picture, one after another.
use Rattle.std.proofs.Common.{◌≡◌, ◌∙◌, ℕ, ◌+◌, ◌<◌, List, [], ◌∷◌, ◌++◌, Bool, true, false, cond, length, take, map, get_or, Vec, refl, sym, ap, arith, append_assoc}
use Rattle.std.specs.Prelude.{Option, filter, flat_map}
use Rattle.std.specs.Global.{Global}
use Rattle.std.proofs.lemmas.List.{append-nil, take_more, map-append, length-map, length-take-le}
use Rattle.std.specs.Io.KnownBytes.{Appends}
use Rattle.cs_deps.specs.declared.elements.Element.{Element}
use Rattle.cs_deps.specs.Named.{Named}
use Rattle.cs_check.specs.Documents.{elements_in}
use Rattle.cs_picture.specs.Picture.{bold_arrow_line, link_lines, round_lines, rounds_lines}
use Rattle.cs_picture.proofs.Appended.{appends_same, appends_then}

-- one round more
rounds_more : (letters : List ℕ) (k : ℕ) (rounds : List (List Element)) (round : List Element) → rounds_lines letters k (rounds ++ round ∷ []) ≡ rounds_lines letters k rounds ++ round_lines letters (k + length rounds) round
rounds_more letters k [] round = append-nil (round_lines letters k round) ∙ ap (λ n. round_lines letters n round) same
  where
    same : k ≡ k + 0
    same = omega arith
rounds_more letters k (r ∷ rounds) round =
    ap (λ l. round_lines letters k r ++ l) (rounds_more letters (k + 1) rounds round)
    ∙ sym (append_assoc (round_lines letters k r) (rounds_lines letters (k + 1) rounds) (round_lines letters (k + 1 + length rounds) round))
    ∙ ap (λ n. (round_lines letters k r ++ rounds_lines letters (k + 1) rounds) ++ round_lines letters n round) same
  where
    same : k + 1 + length rounds ≡ k + length (r ∷ rounds)
    same = omega arith

abbrev pub members_of : List (Vec Element Global) → List (List Element)
members_of rounds = map (λ (round : Vec Element Global). round.items) rounds

-- one round more is drawn
pub one_round_more : (letters : List ℕ) (rounds : List (Vec Element Global)) (i : ℕ) (v : Vec Element Global) (members : List Element) (before mid after : Option (List ℕ)) → i < length rounds → v ≡ get_or rounds i v → members ≡ v.items
    → Appends before mid (rounds_lines letters 1 (members_of (take i rounds))) → Appends mid after (round_lines letters (i + 1) members) → Appends before after (rounds_lines letters 1 (members_of (take (i + 1) rounds)))
one_round_more letters rounds i v members before mid after lt is same so_far drawn =
    let first = members_of (take i rounds) in
    let taken : take (i + 1) rounds ≡ take i rounds ++ v ∷ [] = take_more rounds i v lt ∙ ap (λ (r : Vec Element Global). take i rounds ++ r ∷ []) (sym is) in
    let more : members_of (take (i + 1) rounds) ≡ first ++ members ∷ [] = ap members_of taken ∙ map-append (λ (round : Vec Element Global). round.items) (take i rounds) (v ∷ []) ∙ ap (λ (l : List Element). first ++ l ∷ []) (sym same) in
    let number : i + 1 ≡ 1 + length first = omega (arith, length-map (take i rounds) (λ (round : Vec Element Global). round.items), length-take-le i rounds (omega (arith, lt))) in
    appends_same before after (rounds_lines letters 1 first ++ round_lines letters (i + 1) members) (rounds_lines letters 1 (members_of (take (i + 1) rounds)))
    (ap (λ n. rounds_lines letters 1 first ++ round_lines letters n members) number ∙ sym (rounds_more letters 1 first members) ∙ ap (rounds_lines letters 1) (sym more))
    (appends_then before mid after (rounds_lines letters 1 first) (round_lines letters (i + 1) members) so_far drawn)

kept_one : (f : Element → List ℕ) (b : Bool) (x : Element) (xs : List Element) → flat_map f (cond b (x ∷ xs) xs) ≡ cond b (f x) [] ++ flat_map f xs
kept_one f true x xs = refl
kept_one f false x xs = refl

-- lines of the elements that pass a test
pub kept : (f : Element → List ℕ) (p : Element → Bool) (waiting : List (Element × Named)) → flat_map (λ w. cond (p w.0) (f w.0) []) waiting ≡ flat_map f (filter p (elements_in waiting))
kept f p [] = refl
kept f p (w ∷ ws) = ap (λ l. cond (p w.0) (f w.0) [] ++ l) (kept f p ws) ∙ sym (kept_one f (p w.0) w.0 (filter p (elements_in ws)))

-- a link more at the end
link_last : (letters : List ℕ) (zs : List Element) (x y : Element) → link_lines letters (zs ++ x ∷ y ∷ []) ≡ link_lines letters (zs ++ x ∷ []) ++ bold_arrow_line letters y x
link_last letters [] x y = append-nil (bold_arrow_line letters y x)
link_last letters (z ∷ []) x y =
    ap (λ l. bold_arrow_line letters x z ++ l) (link_last letters [] x y) ∙ sym (append_assoc (bold_arrow_line letters x z) [] (bold_arrow_line letters y x))
link_last letters (z ∷ w ∷ zs) x y =
    ap (λ l. bold_arrow_line letters w z ++ l) (link_last letters (w ∷ zs) x y) ∙ sym (append_assoc (bold_arrow_line letters w z) (link_lines letters ((w ∷ zs) ++ x ∷ [])) (bold_arrow_line letters y x))

pub no_link : (letters : List ℕ) (chain : List Element) → [] ≡ link_lines letters (take 1 chain)
no_link letters [] = refl
no_link letters (x ∷ xs) = refl

-- a link more is drawn
pub one_link_more : (letters : List ℕ) (chain : List Element) (i j : ℕ) (d : Element) (before mid after : Option (List ℕ)) → i < length chain → i ≡ j + 1
    → Appends before mid (link_lines letters (take i chain)) → Appends mid after (bold_arrow_line letters (get_or chain i d) (get_or chain j d)) → Appends before after (link_lines letters (take (i + 1) chain))
one_link_more letters chain i j d before mid after lt next so_far drawn =
    let x : Element = get_or chain j d in
    let y : Element = get_or chain i d in
    let up_to : take i chain ≡ take j chain ++ x ∷ [] = ap (λ n. take n chain) next ∙ take_more chain j d (omega (arith, lt, next)) in
    let more : take (i + 1) chain ≡ take j chain ++ x ∷ y ∷ [] = take_more chain i d lt ∙ ap (λ (l : List Element). l ++ y ∷ []) up_to ∙ append_assoc (take j chain) (x ∷ []) (y ∷ []) in
    appends_same before after (link_lines letters (take i chain) ++ bold_arrow_line letters y x) (link_lines letters (take (i + 1) chain))
    (ap (λ (l : List Element). link_lines letters l ++ bold_arrow_line letters y x) up_to ∙ sym (link_last letters (take j chain) x y) ∙ ap (link_lines letters) (sym more))
    (appends_then before mid after (link_lines letters (take i chain)) (bold_arrow_line letters y x) so_far drawn)
