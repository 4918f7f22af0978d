-- What is added up over purses: the places of their calls, and the numbers that they and what they handed in hold.
use Rattle.std.proofs.Common.{◌≡◌, ◌≤◌, ◌<◌, ℕ, ◌+◌, ◌-◌, List, [], ◌∷◌, length, cond, refl, sym, ap, ◌∙◌, subst, arith, drop, get_or, min, take, get_or-drop, length-drop}
use Rattle.std.proofs.lemmas.Bool.Decides.{nat_tests}
use Rattle.std.specs.Prelude.{All, nat_le, slice_index, slice_index_or}
use Rattle.std.proofs.lemmas.List.Elements.{All-head, All-tail}
use Rattle.std.proofs.lemmas.List.Sums.{sum_by-cons, sum_by_more}
use mathlib.Core.Logic.{dite}
use native.Mathlib.Decide.{dec_le}
use Rattle.cs_node.specs.declared.stretches.Stretch.{Stretch}
use Rattle.cs_node.specs.Numbers.{Within, once_to, times}
use Rattle.cs_node.specs.Numbers as numbers
use Rattle.cs_node.proofs.Laws.{lacking-held}
use Rattle.cs_core.specs.declared.events.Event.{Event}
use Rattle.cs_core.specs.declared.events.Event.TheVariants.{Abandon, Begin, BeginSweep, Delete, End, Get, Issue, MoveOne, Put, Retire, Settle, Stage}
use Rattle.cs_core.specs.declared.events.Reply.{Reply}
use Rattle.cs_core.specs.Views.{View}
use Rattle.cs_node.specs.Told.{Holdings}
use Rattle.cs_node.specs.Accounts.{Accounted, AcksWithin, AreAllNumbers, AreCalls, Stands, acknowledged_by, called_at, held, lacking, wanted}

-- a mark up to 2 that is as wanted
once_marked : (m w : ℕ) → w ≤ 1 → min 2 m ≡ w → m ≡ w
once_marked m w le e = omega arith

small : (e : Event) → wanted e ≤ 1
small (Put id bytes) = omega arith
small (Get id) = omega arith
small (Delete id) = omega arith
small (Settle n) = omega arith
small Stage = omega arith
small Begin = omega arith
small Issue = omega arith
small End = omega arith
small (BeginSweep e) = omega arith
small (MoveOne e) = omega arith
small (Retire e) = omega arith
small (Abandon e) = omega arith

-- of a history the events from `base` on are kept, and each of them is marked by how often it is called, up to 2
module _ (base : ℕ) (history kept : List (Event × Reply)) (marks : List ℕ) (ps : List Holdings) (within : base ≤ length history) (is : kept ≡ drop base history)
    (marked : (k : ℕ) → k < length kept → slice_index marks k ≡ min 2 (called_at (base + k) ps)) where
  kept_at : (k : ℕ) (d : Event × Reply) → slice_index_or kept k d ≡ slice_index_or history (base + k) d
  kept_at k d = ap (λ (l : List (Event × Reply)). get_or l k d) is ∙ get_or-drop base history k d

  kept_length : length kept ≡ length history - base
  kept_length = ap length is ∙ length-drop base history

  -- as the marks say the calls are those of the history
  pub calls_from : ((k : ℕ) (d : Event × Reply) → k < length kept → slice_index marks k ≡ wanted (slice_index_or kept k d).0)
      → All (λ (h : Holdings). All (λ c. base ≤ c.place → Stands history c) h.calls) ps → AreCalls base history ps
  calls_from wants stand = record {
    stand = stand;
    once = λ place d from lt.
        let e : base + (place - base) ≡ place = omega arith in
        let here : place - base < length kept = omega (arith, kept_length) in
        subst (λ (n : ℕ). called_at n ps ≡ wanted (slice_index_or history n d).0) e
        (once_marked (called_at (base + (place - base)) ps) (wanted (slice_index_or history (base + (place - base)) d).0) (small (slice_index_or history (base + (place - base)) d).0)
        (sym (marked (place - base) here) ∙ wants (place - base) d here ∙ ap (λ (x : Event × Reply). wanted x.0) (kept_at (place - base) d)));
  }

  -- and the other way round
  pub wants_of : AreCalls base history ps → (k : ℕ) (d : Event × Reply) → k < length kept → slice_index marks k ≡ wanted (slice_index_or kept k d).0
  wants_of h k d lt =
      let a = marked k lt in
      let b = h.once (base + k) d (omega arith) (omega (arith, kept_length)) in
      let c = small (slice_index_or history (base + k) d).0 in
      let e = ap (λ (x : Event × Reply). wanted x.0) (kept_at k d) in
      omega arith

-- the numbers of one purse
abbrev pub held_by : ℕ → Holdings → ℕ
held_by x h = times x h.tickets + times x h.acks

held_cons : (x : ℕ) (handed : List Stretch) (p : Holdings) (ps : List Holdings) → held x handed (p ∷ ps) ≡ held_by x p + held x handed ps
held_cons x handed p ps = omega (arith, sum_by-cons (λ (h : Holdings). times x h.tickets + times x h.acks) p ps)

-- the first i purses, and the next
pub held_more : (x : ℕ) (handed : List Stretch) (ps : List Holdings) (i : ℕ) (d : Holdings) → i < length ps → held x handed (take (i + 1) ps) ≡ held x handed (take i ps) + held_by x (get_or ps i d)
held_more x handed ps i d within = omega (arith, sum_by_more (λ (h : Holdings). times x h.tickets + times x h.acks) ps i d within)

-- what a list lacks that has just these numbers
lacking_of : (all handed : List Stretch) (ps : List Holdings) → ((x : ℕ) → times x all ≡ held x handed ps) → (n : ℕ) → numbers.lacking n all ≡ lacking n handed ps
lacking_of all handed ps same n = lacking-held all (λ x. held x handed ps) same (λ m. lacking m handed ps) refl (λ m. refl) n

once_up : (n f x : ℕ) → f ≤ n → x ≤ f → once_to n x ≡ once_to f x
once_up n f x le up = grind (arith, nat_tests)

once_above : (f x : ℕ) → f < x → once_to f x ≡ 0
once_above f x above = grind (arith, nat_tests)

acknowledged_cons : (f x : ℕ) (handed : List Stretch) (p : Holdings) (ps : List Holdings) → acknowledged_by f x handed (p ∷ ps) ≡ (times x p.acks + cond (nat_le x f) (times x p.tickets) 0) + acknowledged_by f x handed ps
acknowledged_cons f x handed p ps = omega (arith, sum_by-cons (λ (h : Holdings). times x h.acks + cond (nat_le x f) (times x h.tickets) 0) p ps)

-- of numbers up to f, those that become acks are all
acknowledged_up : (f x : ℕ) (handed : List Stretch) (ps : List Holdings) → x ≤ f → acknowledged_by f x handed ps ≡ held x handed ps
acknowledged_up f x handed [] le = refl
acknowledged_up f x handed (p ∷ ps) le =
    let r = acknowledged_up f x handed ps le in
    let b : cond (nat_le x f) (times x p.tickets) 0 ≡ times x p.tickets = grind (arith, nat_tests) in
    omega (arith, acknowledged_cons f x handed p ps, held_cons x handed p ps)

-- and above f there is none
acknowledged_above : (f x : ℕ) (handed : List Stretch) (ps : List Holdings) → f < x → AcksWithin f handed ps → acknowledged_by f x handed ps ≡ 0
acknowledged_above f x handed [] lt (in_hand, rest) = omega (arith, in_hand x lt)
acknowledged_above f x handed (p ∷ ps) lt (in_hand, each) =
    let r = acknowledged_above f x handed ps lt (in_hand, All-tail (λ (q : Holdings). Within f q.acks) p ps each) in
    let b : cond (nat_le x f) (times x p.tickets) 0 ≡ 0 = grind (arith, nat_tests) in
    let t = All-head (λ (q : Holdings). Within f q.acks) p ps each x lt in
    omega (arith, acknowledged_cons f x handed p ps)

-- all numbers are 1 to n, each once, and no ack is above f: then those up to f are acknowledged, each once
pub acknowledged_once : (n f : ℕ) (handed : List Stretch) (ps : List Holdings) → f ≤ n → AreAllNumbers n handed ps → AcksWithin f handed ps → (x : ℕ) → acknowledged_by f x handed ps ≡ once_to f x
acknowledged_once n f handed ps le all within x = dite (dec_le x f)
    (λ up. acknowledged_up f x handed ps up ∙ all x ∙ once_up n f x le up)
    (λ not_up. let lt : f < x = omega arith in acknowledged_above f x handed ps lt within ∙ sym (once_above f x lt))

-- what four tests find is what accounts for a core, with n accepted commands, f persistent ones, and `base` events that
-- were replaced, where a list has just the numbers that are held
module _ {D : Type 0} (core : View D) (given n f base : ℕ) (all handed : List Stretch) (ps : List Holdings) (accepted : n ≡ core.store.accepted) (frontier : f ≡ core.store.frontier) (replaced : base ≡ core.base)
    (same : (x : ℕ) → times x all ≡ held x handed ps) where
  pub accounted : length ps ≡ given → AreCalls base core.history ps → numbers.AreNumbers n all → AcksWithin f handed ps → Accounted core given handed ps
  accounted here calls whole within = record {
    here = here;
    calls = subst (λ (b : ℕ). AreCalls b core.history ps) replaced calls;
    numbers = subst (λ (m : ℕ). AreAllNumbers m handed ps) accepted (λ x. sym (same x) ∙ whole x);
    within = subst (λ (m : ℕ). AcksWithin m handed ps) frontier within;
  }

  pub passes : Accounted core given handed ps → (length ps ≡ given) × AreCalls base core.history ps × numbers.AreNumbers n all × AcksWithin f handed ps
  passes a = (
    a.here,
    subst (λ (b : ℕ). AreCalls b core.history ps) (sym replaced) a.calls,
    subst (λ (m : ℕ). numbers.AreNumbers m all) (sym accepted) (λ x. same x ∙ a.numbers x),
    subst (λ (m : ℕ). AcksWithin m handed ps) (sym frontier) a.within,
  )

  pub lacks : numbers.lacking n all ≡ lacking core.store.accepted handed ps
  lacks = ap (λ (m : ℕ). numbers.lacking m all) accepted ∙ lacking_of all handed ps same core.store.accepted
