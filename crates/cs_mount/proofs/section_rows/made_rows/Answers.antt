use Rattle.std.proofs.Common.{◌∙◌, ◌++◌, ◌∷◌, ◌≡◌, ◌≤◌, ◌+◌, [], List, ap, arith, map, subst, sym, ℕ, refl}
use Rattle.std.specs.List.{AllByRecursion, range_with_len}
use Rattle.std.proofs.lemmas.List.FromFn.{map-range_with_len_more}
use Rattle.cs_index.proofs.Sorted.{all_append}
use Rattle.cs_mount.specs.MadeSections.{made_row}
use Rattle.cs_mount.proofs.section_rows.made_rows.Goals as goal

pub loop-k-preserved : goal.loop-k-preserved
loop-k-preserved c =
    let was = c.loop-k.invariant in
    let start = c.section_start-start.result in
    let k = c.loop-k.k in
    let f = made_row c.args.geometry.pages c.args.named.now in
    let row : c.made_row.result ≡ f (start + k) = c.made_row.ensures.row ∙ ap (λ (n : ℕ). made_row n c.args.named.now (start + k)) c.pages.ensures.pages in
    record {
      items = c.push_reserved.ensures.items ∙ ap (λ (l : List (ℕ × ℕ)). l ++ c.made_row.result ∷ []) was.items ∙ ap (λ (r : ℕ × ℕ). map f (range_with_len start k) ++ r ∷ []) row ∙ sym (map-range_with_len_more f start k (start + k) refl);
      fits = subst (λ (l : List (ℕ × ℕ)). AllByRecursion (λ (r : ℕ × ℕ). r.0 ≤ c.args.geometry.pages) l) (sym c.push_reserved.ensures.items)
          (all_append (λ (r : ℕ × ℕ). r.0 ≤ c.args.geometry.pages) c.loop-k.rows.items (c.made_row.result ∷ []) was.fits ((let low = c.made_row.ensures.fits in let same = c.pages.ensures.pages in omega (arith, low, same)), tt));
      size = omega (arith, c.push_reserved.ensures.len, was.size, c.push_reserved.new.self.ok.0, c.loop-k.rows.ok.0);
      room = omega (arith, was.room, c.push_reserved.ensures.capacity);
    }
