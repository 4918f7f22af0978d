-- What may be staged may be staged once the round that is out has joined.
use Rattle.std.proofs.Common.{◌≡◌, ◌≢◌, ℕ, ◌⊎◌, Bool, true, false, List, Option, Some, None, refl, sym, ap, ◌∙◌, subst, inl, inr, ⊎_elim, arith}
use Rattle.std.specs.Prelude.{Contains}
use Rattle.cs_deps.specs.declared.elements.Element.{Element}
use Rattle.cs_deps.specs.declared.elements.Element.TheVariants.{Plain, Version}
use Rattle.cs_deps.specs.Named.{Named, StandsFor}
use Rattle.cs_deps.specs.Pending.{Pending, WaitsAt, Waits, IsPersistent, IsStaged}
use Rattle.cs_deps.specs.Staging.{settled, staged_after, is_left_waiting}
use Rattle.cs_deps.specs.State.{State, after, after_round}
use Rattle.cs_deps.specs.Entries.{IsSound}
use Rattle.cs_deps.proofs.Filtered.{filter_keeps}
use Rattle.cs_deps.proofs.Kept.{MayFollow, old_or_new}
use Rattle.cs_deps.proofs.Settled.{came, waited, needed, persists, joins, one_stands, raised_count, raised_below}
use Rattle.cs_deps.proofs.Tops.{after_staged}

module _ (g : Pending) (ok : IsStaged g) (x : Element) (d : Named) (may : MayFollow g x d) where
  -- nothing that waits stands for what is staged
  pub none_for_new : (y : Element) → Waits g y → StandsFor y x → ⊥
  none_for_new y w s = go x y w s refl
    where
      go : (u y : Element) → Waits g y → StandsFor y u → x ≡ u → ⊥
      go (Plain n) (Plain m) w s is = absurd (may.fresh (subst (Waits g) (ap (λ i. Plain i) s ∙ sym is) w))
      go (Version f v) (Version h u) w s is =
          let there : Waits g (Version f u) = subst (λ i. Waits g (Version i u)) s.0 w in
          absurd (omega (arith, may.later f u v is there, s.1))
      go (Plain n) (Version h u) w s is = absurd s
      go (Version f v) (Plain m) w s is = absurd s

  module _ (round : List Element) (out : (y : Element) → Contains round y → Waits g y) where
    pub may_settled : MayFollow (settled g round) x d
    may_settled = record {
      fresh = λ w. may.fresh (waited g ok round x w);
      known = λ y named. ⊎_elim
          (λ (p : IsPersistent g y). inl (persists g ok round y p))
          (λ (w : Waits g y). left y w.0 w.1 w.2 (is_left_waiting round (y, w.1)) refl)
          (may.known y named);
      stays = λ k y z e at named. let c = came g ok round k z e at in may.stays c.0 y z e c.1 named;
      not_itself = may.not_itself;
      own = may.own;
      nests = λ f v w y is n. may.nests f v w y is (needed g ok round (Version f v) y n);
      later = λ f v w is at. may.later f v w is (waited g ok round (Version f v) at);
      greater = λ m n is at. may.greater m n is (waited g ok round (Plain m) at);
      family = λ f v is. (let e = raised_count round g.persistent in let lt = may.family f v is in omega (arith, e, lt));
      not_yet = λ f v is. raised_below round g.persistent f v (may.not_yet f v is) (λ w c. may.later f w v is (out (Version f w) c));
    }
      where
        left : (y : Element) (k : ℕ) (e : Named) → WaitsAt g k y e → (b : Bool) → is_left_waiting round (y, e) ≡ b → IsPersistent (settled g round) y ⊎ Waits (settled g round) y
        left y k e at true is = let r = filter_keeps (is_left_waiting round) g.waiting k (y, e) at is in inr (r.0, e, r.1)
        left y k e at false is = inl (joins g ok round y (k, e, at) (one_stands round (y, e) is))

module _ (s : State) (whole : IsSound s) (x : Element) (d : Named) (may : MayFollow s.staging.pending x d) where
  pub may_after : MayFollow (after s) x d
  may_after = from s.round refl
    where
      from : (o : Option (List Element)) → s.round ≡ o → MayFollow (after_round s.staging.pending o) x d
      from None is = may
      from (Some round) is = may_settled s.staging.pending whole.kept.staged x d may round (λ y c. whole.out y (round, is, c))

  pub staged_then : after_round (staged_after s.staging.pending x d) s.round ≡ staged_after (after s) x d
  staged_then = after_staged s.staging.pending s.round x d (λ round y is c stands. none_for_new s.staging.pending whole.kept.staged x d may y (whole.out y (round, is, c)) stands)

-- what is persistent stays so
pub persists_staged : (g : Pending) (x : Element) (d : Named) (y : Element) → y ≢ x → (IsStaged g) → (may : MayFollow g x d) → IsPersistent g y → IsPersistent (staged_after g x d) y
persists_staged g x d (Plain n) ne ok may p = λ w. ⊎_elim
    (λ (o : Waits g (Plain n)). p o)
    (λ (e : x ≡ Plain n). ne (sym e))
    (old_or_new g ok x d may (Plain n) w)
persists_staged g x d (Version f v) ne ok may p = p
