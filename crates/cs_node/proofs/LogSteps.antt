-- A log with one call more, and with those alone that aren't forgotten.
use Rattle.std.proofs.Common.{◌≡◌, ◌<◌, ◌≤◌, ℕ, zero, suc, ◌+◌, ◌-◌, Bool, true, false, List, [], ◌∷◌, ◌++◌, Some, None, refl, sym, ap, ◌∙◌, subst, arith, cond, get_or, length, length-append, max}
use Rattle.std.specs.Prelude.{filter, nat_le, slice_get}
use Rattle.std.specs.List.{AllPairs}
use Rattle.std.proofs.lemmas.Option.{get_or_from_slice_get, slice_get_within}
use Rattle.std.proofs.lemmas.List.Elements.{All-filter, All-push}
use Rattle.std.proofs.lemmas.List.Kept.{AllPairs-cons, AllPairs-filter}
use Rattle.std.proofs.Math.ListN.{get_or-append}
use Rattle.std.proofs.Math.Seq.{get_or-append_seam}
use mathlib.Core.Logic.{dite}
use native.Mathlib.Decide.{dec_lt}
use Rattle.cs_core.specs.declared.events.Event.{Event}
use Rattle.cs_core.specs.declared.events.Reply.{Reply}
use Rattle.cs_core.specs.declared.events.Reply.TheVariants.{Found}
use Rattle.cs_node.specs.declared.logs.Call.{Call}
use Rattle.cs_node.specs.Told.{Below, Rising, call, floor_of, found_in, found_last, from_place, told_by}

pub floor_of-push : (cs : List Call) (c : Call) → floor_of (cs ++ c ∷ []) ≡ max (floor_of cs) (told_by c.event c.reply)
floor_of-push [] c = omega arith
floor_of-push (x ∷ xs) c = let h = floor_of-push xs c in omega (arith, h)

pub below_more : (m n : ℕ) (cs : List Call) → m ≤ n → Below m cs → Below n cs
below_more m n cs le h k d here = let b = h k d here in omega arith

pub Below-push : (place : ℕ) (cs : List Call) (e : Event) (r : Reply) → Below place cs → Below (place + 1) (cs ++ call place e r ∷ [])
Below-push place cs e r h = All-push (λ (c : Call). c.place < place + 1) cs (call place e r) (below_more place (place + 1) cs (omega arith) h) (omega arith)

pub Rising-push : (place : ℕ) (cs : List Call) (e : Event) (r : Reply) → Below place cs → Rising cs → Rising (cs ++ call place e r ∷ [])
Rising-push place cs e r below rises k d lt = dite (dec_lt (k + 1) (length cs))
    (λ inside.
    let here : k < length cs = omega arith in
    rw (get_or-append cs (call place e r ∷ []) d k here, get_or-append cs (call place e r ∷ []) d (k + 1) inside) (rises k d inside))
    (λ out.
    let all : length (cs ++ call place e r ∷ []) ≡ length cs + 1 = length-append cs (call place e r ∷ []) in
    let last : k + 1 ≡ length cs = omega (arith, all) in
    let here : k < length cs = omega arith in
    let b = below k d here in
    rw (get_or-append cs (call place e r ∷ []) d k here, last, get_or-append_seam cs (call place e r) [] d) (omega arith))

-- the last call is the one that was added
pub found_last-push : (cs : List Call) (c : Call) → found_last (cs ++ c ∷ []) ≡ found_in c.reply
found_last-push [] c = refl
found_last-push (x ∷ []) c = refl
found_last-push (x ∷ y ∷ cs) c = found_last-push (y ∷ cs) c

found_last_at : (cs : List Call) (k : ℕ) (d : Call) → suc k ≡ length cs → found_last cs ≡ found_in (get_or cs k d).reply
found_last_at [] k d e = absurd (omega arith)
found_last_at (x ∷ []) zero d e = refl
found_last_at (x ∷ []) (suc k) d e = absurd (omega arith)
found_last_at (x ∷ y ∷ cs) zero d e = absurd (omega arith)
found_last_at (x ∷ y ∷ cs) (suc k) d e = found_last_at (y ∷ cs) k d (omega arith)

-- the call that stands last
pub last_found : (cs : List Call) (c : Call) → Some c ≡ slice_get cs (length cs - 1) → found_last cs ≡ found_in c.reply
last_found cs c e =
    let within = slice_get_within cs (length cs - 1) c (sym e) in
    let at : suc (length cs - 1) ≡ length cs = omega arith in
    found_last_at cs (length cs - 1) c at ∙ ap (λ (x : Call). found_in x.reply) (get_or_from_slice_get cs (length cs - 1) c c (sym e))

-- a reply that found none
pub found_none : (r : Reply) → ((bytes : List ℕ) → r ≡ Found bytes → ⊥) → found_in r ≡ None
found_none (Found bytes) none = absurd (none bytes refl)
found_none _ none = refl

-- each place is below all later ones
above_first : (x y : Call) (cs : List Call) → x.place < y.place → AllPairs (λ (a b : Call). a.place < b.place) (y ∷ cs) → (k : ℕ) (d : Call) → k < length (y ∷ cs) → x.place < (get_or (y ∷ cs) k d).place
above_first x y cs first rest zero d within = first
above_first x y cs first rest (suc k) d within = let more : y.place < (get_or cs k d).place = rest zero (suc k) d (omega arith) within in omega arith

pairs_from_rising : (cs : List Call) → Rising cs → AllPairs (λ (a b : Call). a.place < b.place) cs
pairs_from_rising [] rises = λ i j d lt within. absurd (omega arith)
pairs_from_rising (x ∷ []) rises = λ i j d lt within. absurd (omega arith)
pairs_from_rising (x ∷ y ∷ cs) rises =
    let rest = pairs_from_rising (y ∷ cs) (λ k d within. let e : suc k + 1 ≡ suc (k + 1) = omega arith in subst (λ (n : ℕ). (get_or (y ∷ cs) k d).place < (get_or (x ∷ y ∷ cs) n d).place) e (rises (suc k) d (omega arith))) in
    AllPairs-cons (λ (a b : Call). a.place < b.place) x (y ∷ cs) (above_first x y cs (rises 0 x (omega arith)) rest) rest

pub Rising-filter : (p : Call → Bool) (cs : List Call) → Rising cs → Rising (filter p cs)
Rising-filter p cs rises k d within = AllPairs-filter (λ (a b : Call). a.place < b.place) p cs (pairs_from_rising cs rises) k (k + 1) d (omega arith) within

floor_one : (b : Bool) (c : Call) (cs : List Call) (n : ℕ) → floor_of cs ≤ n → floor_of (cond b (c ∷ cs) cs) ≤ max (told_by c.event c.reply) n
floor_one true c cs n le = omega arith
floor_one false c cs n le = omega arith

-- some of the calls told of no greater number than all
pub floor_of-filter : (p : Call → Bool) (cs : List Call) → floor_of (filter p cs) ≤ floor_of cs
floor_of-filter p [] = omega arith
floor_of-filter p (c ∷ cs) = floor_one (p c) c (filter p cs) (floor_of cs) (floor_of-filter p cs)

-- what a log keeps stands after calls are forgotten
pub kept_from : (base next floor : ℕ) (cs left : List Call) → left ≡ from_place base cs → Below next cs × Rising cs × (floor_of cs ≤ floor) → Below next left × Rising left × (floor_of left ≤ floor)
kept_from base next floor cs left is (below, rises, least) =
    let P : List Call → Type 0 = λ ds. Below next ds × Rising ds × (floor_of ds ≤ floor) in
    subst P (sym is) (All-filter (λ c. nat_le base c.place) (λ (c : Call). c.place < next) cs below, Rising-filter (λ c. nat_le base c.place) cs rises, let no_more = floor_of-filter (λ c. nat_le base c.place) cs in omega arith)

-- and after one call more
pub kept_push : (place floor told now : ℕ) (cs more : List Call) (e : Event) (r : Reply) → more ≡ cs ++ call place e r ∷ [] → told ≡ told_by e r → now ≡ max floor told → Below place cs → (next : ℕ) → Below next cs × Rising cs × (floor_of cs ≤ floor) → Below (place + 1) more × Rising more × (floor_of more ≤ now)
kept_push place floor told now cs more e r is tells greater above next (below, rises, least) =
    let P : List Call → Type 0 = λ ds. Below (place + 1) ds × Rising ds × (floor_of ds ≤ now) in
    subst P (sym is) (Below-push place cs e r above, Rising-push place cs e r above rises, let more = floor_of-push cs (call place e r) in omega arith)
