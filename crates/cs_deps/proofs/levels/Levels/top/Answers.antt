use Rattle.std.proofs.Common.{◌≡◌, ◌∙◌, ⊎_elim, inl, inr, refl, sym, ap, slice_index, le_refl, arith}
use Rattle.cs_deps.specs.declared.elements.Element.TheVariants.{Plain, Version}
use Rattle.cs_deps.proofs.levels.Levels.top.Goals as goal

pub returns : goal.returns
returns c =
    let t = c.top_through-some.ensures in
    let m = c.top_listed-more.ensures in
    let v = c.top_versions.ensures in
    record {
      low = omega (arith, t.low, m.low, v.low);
      through = λ k at. omega (arith, t.above k (rw c.through_number.ensures at), m.low, v.low);
      listed = λ n has. omega (arith, m.above n (rw c.spans.ensures has), v.low);
      versions = v.above;
      reached = ⊎_elim
          (λ (a : c.top_versions.result ≡ c.top_listed-more.result). ⊎_elim
          (λ (b : c.top_listed-more.result ≡ c.top_through-some.result). ⊎_elim
          (λ (e : _). inl (ap (λ x. x.level) (a ∙ b ∙ e)))
          (λ (h : _). inr (Plain h.0.least, ap (λ x. x.before) (a ∙ b) ∙ h.2, inl (h.0, rw (← c.through_number.ensures) h.1, refl, ap (λ x. x.level) (a ∙ b) ∙ h.3)))
          t.reached)
          (λ (h : _). inr (Plain h.0, ap (λ x. x.before) a ∙ h.2, inr (inr (rw (← c.spans.ensures) h.1), h.3 ∙ ap (λ x. x.level) (sym a))))
          m.reached)
          (λ (h : _). inr (Version h.0 (slice_index c.args.needs.now.least h.0), h.1, inr ((h.3, le_refl (slice_index c.args.needs.now.least h.0)), h.2)))
          v.reached;
    }
