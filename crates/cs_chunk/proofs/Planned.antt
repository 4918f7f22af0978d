-- What a cut says of the payloads of a put.
use Rattle.std.proofs.Common.{◌≡◌, ◌∙◌, ℕ, ◌<◌, ◌≤◌, Bool, true, false, List, length, MatchBool, IsTrue, refl, sym, ap, subst, le_of_eq, le_trans}
use Rattle.std.specs.Prelude.{◌↔◌, Result, Err}
use Rattle.cs_chunk.specs.declared.cuts.Cut.{Cut}
use Rattle.cs_chunk.specs.Cuts.{IsCut, pages_of, pieces}
use Rattle.cs_chunk.specs.Puts.{ArePayloadsIn, IsPutFull, IsPutWorn, PutFits, frames_in}
use Rattle.cs_chunk.proofs.Chunkings.{cut_only, cut_pages, cut_payloads, size_fits, size_some}
use Rattle.cs_refusal.specs.declared.refusals.Refusal.{Refusal}
use Rattle.cs_deps.specs.Staging.{Staging}
use Rattle.cs_extent.specs.Places.{FitIn}
use Rattle.cs_extent.specs.State.{IsWhole, State, shape}
use Rattle.cs_extent.specs.Worn.{AreWorn}
use Rattle.cs_frame.specs.Formats.{formats_of}
use Rattle.law_machine.specs.Append.{page_counts}
use Rattle.law_machine.specs.Events.{headed}
use Rattle.law_machine.specs.Extents.{ForPut}

-- a refusal that is passed on is so where it was before
pub passed_on : {T U : Type 0} {P : Type 0} (tested : Result T Refusal) (r q : Refusal) → tested ≡ Err r → (tested ≡ Err q) ↔ P → (◌≡◌ {A = Result U Refusal} (Err r) (Err q)) ↔ P
passed_on tested r q is h = (
  λ e. let same : r ≡ q = cc e in h.0 (is ∙ ap (λ (u : Refusal). Err u) same),
  λ p. let same : r ≡ q = cc (is, h.1 p) in ap (λ (u : Refusal). Err u) same,
)

module _ (x : State) (id command : ℕ) (bytes : List ℕ) (whole : IsWhole x) (cut : Cut) (is : IsCut (shape x) (length bytes) cut) where
  -- the payloads that the cut makes
  abbrev pub payloads : List (List ℕ)
  payloads = headed (formats_of (shape x)) id 0 cut.count command (pieces cut.size cut.count bytes)

  some_byte : 0 < cut.size
  some_byte = size_some x.format (length bytes) cut.size x.pages whole.geometry.fewest_pages is.size

  pub pages_fit : cut.pages ≤ x.pages
  pages_fit = le_trans (le_of_eq is.pages) (size_fits x.format (length bytes) cut.size x.pages whole.geometry.fewest_pages is.size)

  pub chunked : ArePayloadsIn x id command bytes payloads
  chunked = cut_payloads (shape x) bytes cut is some_byte id command

  pub pages : page_counts (frames_in x payloads) ≡ pages_of cut
  pages = cut_pages (shape x) bytes cut is some_byte whole.geometry.fits_format id command

  pub one_cut : (cs : List (List ℕ)) → ArePayloadsIn x id command bytes cs → cs ≡ payloads
  one_cut = cut_only (shape x) bytes cut is some_byte id command

  pub only : (cs : List (List ℕ)) → ArePayloadsIn x id command bytes cs → page_counts (frames_in x cs) ≡ pages_of cut
  only cs h = ap (λ (ds : List (List ℕ)). page_counts (frames_in x ds)) (one_cut cs h) ∙ pages

  put_fits : FitIn x ForPut (pages_of cut) → PutFits x id command bytes
  put_fits fits = (payloads, chunked, subst (λ ks. FitIn x ForPut ks) (sym pages) fits)

  put_full : ¬ FitIn x ForPut (pages_of cut) → IsPutFull x id command bytes
  put_full full cs are fits = full (subst (λ ks. FitIn x ForPut ks) (only cs are) fits)

  pub fits_or_full : (b : Bool) → IsTrue b ↔ FitIn x ForPut (pages_of cut) → MatchBool b (PutFits x id command bytes) (IsPutFull x id command bytes)
  fits_or_full true h = put_fits (h.0 refl)
  fits_or_full false h = put_full (λ fits. let t : IsTrue false = h.1 fits in cc)

  pub full_iff : {P : Type 0} → P ↔ ¬ FitIn x ForPut (pages_of cut) → P ↔ IsPutFull x id command bytes
  full_iff h = (
    λ p. put_full (h.0 p),
    λ full. h.1 (λ fits. let f = put_fits fits in full f.0 f.1 f.2),
  )

  pub worn_iff : {P : Type 0} (s : Staging) → P ↔ FitIn x ForPut (pages_of cut) × AreWorn x s ForPut (pages_of cut) → P ↔ IsPutWorn x s id command bytes
  worn_iff s h = (
    λ p. let w = h.0 p in (payloads, chunked, subst (λ ks. FitIn x ForPut ks) (sym pages) w.0, subst (λ ks. AreWorn x s ForPut ks) (sym pages) w.1),
    λ w. h.1 (subst (λ ks. FitIn x ForPut ks) (only w.0 w.1) w.2, subst (λ ks. AreWorn x s ForPut ks) (only w.0 w.1) w.3),
  )
