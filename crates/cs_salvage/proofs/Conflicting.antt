-- Parts of one put that conflict, and those that make up a shard.
use Rattle.std.proofs.Common.{◌≡◌, ◌≢◌, ◌∙◌, ◌==◌, ℕ, zero, suc, ◌<◌, ◌≤◌, Bool, true, false, cond, List, [], ◌∷◌, All, MatchOption, MatchBool, IfOk, Option, Some, None, Result, Ok, Err, length, get_or, refl, sym, ap, subst, inl, inr, ⊎_elim, arith, not, bytes_eq, eqb-true, eq-eqb, true≢false}
use Rattle.std.specs.List.{Contains}
use Rattle.std.proofs.lemmas.Bool.{cases_lt}
use Rattle.std.proofs.lemmas.List.Elements.{All-contains}
use Rattle.std.proofs.lemmas.Option.{same_Some}
use Rattle.cs_salvage.specs.declared.parts.Part.{Part}
use Rattle.cs_salvage.specs.declared.parts.Put.{Put}
use Rattle.cs_salvage.specs.Puts.{Agrees, AreFirst, AreOf, Conflicts, Lacks, first_with}
use Rattle.cs_salvage.specs.Shards.{AreAllOf, Conflict, IsAmbiguous, IsWhole, put_of}
use Rattle.cs_salvage.proofs.Sames.{at_any, bytes_differ}

-- ---- the first part of a number

pub found : (n : ℕ) (parts : List Part) (p : Part) → first_with n parts ≡ Some p → Contains parts p × (p.head.number ≡ n)
found n [] p is = absurd (cc is)
found n (x ∷ xs) p is = go (found n xs p) (x.head.number == n) refl is
  where
    go : (first_with n xs ≡ Some p → Contains xs p × (p.head.number ≡ n)) → (b : Bool) → (x.head.number == n) ≡ b → cond b (Some x) (first_with n xs) ≡ Some p → Contains (x ∷ xs) p × (p.head.number ≡ n)
    go rest true e h =
        let same : x ≡ p = same_Some x p h in
        ((0, omega arith, same), ap (λ (q : Part). q.head.number) (sym same) ∙ eqb-true x.head.number n e)
    go rest false e h = let there = rest h in ((suc there.0.0, omega (arith, there.0.1), there.0.2), there.1)

pub missing : (n : ℕ) (parts : List Part) (p : Part) → first_with n parts ≡ None → Contains parts p → p.head.number ≡ n → ⊥
missing n [] p is there same = absurd (omega (arith, there.1))
missing n (x ∷ xs) p is there same = go (missing n xs p) (x.head.number == n) refl is there
  where
    go : (first_with n xs ≡ None → Contains xs p → p.head.number ≡ n → ⊥) → (b : Bool) → (x.head.number == n) ≡ b → cond b (Some x) (first_with n xs) ≡ None → Contains (x ∷ xs) p → ⊥
    go rest true e h at = absurd (cc h)
    go rest false e h (zero, lt, at) = true≢false (sym (eq-eqb x.head.number n (ap (λ (q : Part). q.head.number) at ∙ same)) ∙ e)
    go rest false e h (suc k, lt, at) = rest h (k, omega (arith, lt), at) same

-- ---- conflicts

module _ (parts : List Part) (some : 0 < length parts) where
  of_number : (part other : Part) → first_with part.head.number parts ≡ Some other → other.digest ≢ part.digest → Conflicts parts part
  of_number part other is differ = let it = found part.head.number parts other is in (other, it.0, inr (inr (it.1, differ)))

  agrees : (part d : Part) → part.store ≡ (get_or parts 0 d).store → part.head.count ≡ (get_or parts 0 d).head.count → ((other : Part) → first_with part.head.number parts ≡ Some other → other.digest ≡ part.digest) → Agrees parts part
  agrees part d store same digests = record {
    store = λ e. store ∙ ap (λ (q : Part). q.store) (at_any parts 0 some d e);
    count = λ e. same ∙ ap (λ (q : Part). q.head.count) (at_any parts 0 some d e);
    digest = digests;
  }

  -- what the test of the first digest says
  pub conflict_by : (part d other : Part) (r : Bool) → part.store ≡ (get_or parts 0 d).store → part.head.count ≡ (get_or parts 0 d).head.count → Some other ≡ first_with part.head.number parts → r ≡ not (bytes_eq other.digest part.digest)
      → MatchBool r (Conflicts parts part) (Agrees parts part)
  conflict_by part d other r store same first is = bytes_differ (Conflicts parts part) (Agrees parts part) other.digest part.digest r is
      (λ differ. of_number part other (sym first) differ)
      (λ digests. agrees part d store same (λ q at. ap (λ (p : Part). p.digest) (same_Some q other (sym at ∙ sym first)) ∙ digests))

module _ (parts : List Part) (put : Put) (own : AreOf put parts) where
  of_put : (p : Part) → Contains parts p → put_of p ≡ put
  of_put p there = All-contains (λ (part : Part). put_of part ≡ put) parts p own there

  pub two_conflict : (p : Part) → Contains parts p → Conflicts parts p → IsAmbiguous parts put
  two_conflict p there is = record {
    one = is.0;
    other = p;
    one_there = is.1;
    other_there = there;
    one_of = of_put is.0 is.1;
    other_of = of_put p there;
    conflict = is.2;
  }

  pub all_agree : All (Agrees parts) parts → IsAmbiguous parts put → ⊥
  all_agree all is =
      let a = All-contains (Agrees parts) parts is.one all is.one_there in
      let b = All-contains (Agrees parts) parts is.other all is.other_there in
      go a b is.conflict
    where
      one_digest : (one other : Part) → Contains parts one → Agrees parts one → Agrees parts other → one.head.number ≡ other.head.number → one.digest ≡ other.digest
      one_digest one other there a b same = go (first_with one.head.number parts) refl
        where
          go : (o : Option Part) → first_with one.head.number parts ≡ o → one.digest ≡ other.digest
          go None e = absurd (missing one.head.number parts one e there refl)
          go (Some f) e = sym (a.digest f e) ∙ b.digest f (subst (λ (n : ℕ). first_with n parts ≡ Some f) same e)

      go : Agrees parts is.one → Agrees parts is.other → Conflict is.one is.other → ⊥
      go a b (inl stores) = stores (a.store is.one ∙ sym (b.store is.one))
      go a b (inr (inl counts)) = counts (a.count is.one ∙ sym (b.count is.one))
      go a b (inr (inr (number, digests))) = digests (one_digest is.one is.other is.one_there a b number)

  -- ---- what is whole

  -- all parts say one count
  one_count : (IsAmbiguous parts put → ⊥) → (p q : Part) → Contains parts p → Contains parts q → p.head.count ≡ q.head.count
  one_count clear p q p_there q_there = ⊎_elim
      (λ (less : p.head.count < q.head.count). absurd (differ (λ same. omega (arith, less, same))))
      (λ (le : q.head.count ≤ p.head.count). ⊎_elim
      (λ (less : q.head.count < p.head.count). absurd (differ (λ same. omega (arith, less, same))))
      (λ (also : p.head.count ≤ q.head.count). omega (arith, le, also))
      (cases_lt q.head.count p.head.count))
      (cases_lt p.head.count q.head.count)
    where
      differ : p.head.count ≢ q.head.count → ⊥
      differ ne = clear (record { one = p; other = q; one_there = p_there; other_there = q_there; one_of = of_put p p_there; other_of = of_put q q_there; conflict = inr (inl ne) })

  module _ (some : 0 < length parts) (d0 : Part) where
    abbrev r : Part
    r = get_or parts 0 d0

    first : r ≡ get_or parts 0 r
    first = at_any parts 0 some d0 r

    -- the first of all says as many as there are
    counted : (pieces : List Part) → AreAllOf parts put pieces → r.head.count ≡ length pieces
    counted [] all = absurd (omega (arith, all.some))
    counted (p ∷ ps) all = one_count all.clear r p (0, some, sym first) (all.there 0 p (omega arith)) ∙ all.counted 0 p (omega arith)

    pub not_of_none : r.head.count ≡ 0 → IsWhole parts put → ⊥
    not_of_none none is = absurd (omega (arith, none, counted is.0 is.1, is.1.some))

    pub not_lacking : Lacks parts r.head.count → IsWhole parts put → ⊥
    not_lacking lacks is =
        let k : ℕ = lacks.0 in
        let inside : lacks.0 < length is.0 = omega (arith, lacks.1, counted is.0 is.1) in
        let p : Part = get_or is.0 lacks.0 r in
        missing lacks.0 parts p lacks.2 (is.1.there lacks.0 r inside) (is.1.numbered lacks.0 r inside)

    pub all_are : (IsAmbiguous parts put → ⊥) → r.head.count ≢ 0 → (pieces : List Part) → AreFirst parts r.head.count pieces → AreAllOf parts put pieces
    all_are clear ne pieces are = record {
      some = omega (arith, are.size, ne);
      there = λ k d lt. (at k d lt).0;
      own = λ k d lt. of_put (get_or pieces k d) (at k d lt).0;
      numbered = λ k d lt. (at k d lt).1;
      counted = λ k d lt. one_count clear (get_or pieces k d) r (at k d lt).0 (0, some, sym first) ∙ sym are.size;
      clear = clear;
    }
      where
        at : (k : ℕ) (d : Part) → k < length pieces → Contains parts (get_or pieces k d) × ((get_or pieces k d).head.number ≡ k)
        at k d lt = found k parts (get_or pieces k d) (are.each k d (omega (arith, lt, are.size)))

    pub whole_by : {V E : Type 0} (items : V → List Part) (result : Result (Option V) E) → (IsAmbiguous parts put → ⊥) → r.head.count ≢ 0
        → IfOk result (λ found. MatchOption found (Lacks parts r.head.count) (λ v. AreFirst parts r.head.count (items v)))
        → IfOk result (λ found. MatchOption found (IsWhole parts put → ⊥) (λ v. AreAllOf parts put (items v)))
    whole_by items (Ok (Some v)) clear ne are = all_are clear ne (items v) are
    whole_by items (Ok None) clear ne lacks = not_lacking lacks
    whole_by items (Err e) clear ne is = tt
