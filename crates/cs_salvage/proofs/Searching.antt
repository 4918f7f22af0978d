-- Parts of a store among those of any.
use Rattle.std.proofs.Common.{◌≡◌, ◌∙◌, ℕ, List, Option, Some, None, MatchOption, IfSome, [], ◌∷◌, ◌++◌, sym, subst}
use Rattle.std.proofs.lemmas.List.Elements.{All-push}
use Rattle.cs_disk.specs.Disk.{Image}
use Rattle.cs_frame.specs.Geometries.{IsGeometry}
use Rattle.cs_salvage.specs.declared.parts.FoundPart.{FoundPart}
use Rattle.cs_salvage.specs.declared.parts.Part.{Part}
use Rattle.cs_salvage.specs.declared.searches.Sought.{Sought}
use Rattle.cs_salvage.specs.declared.searches.Whose.TheVariants.{OfAny}
use Rattle.cs_salvage.specs.Parts.{AreSought, IsPart, IsSought, NoPartAt}
use Rattle.cs_salvage.proofs.Sames.{same_part}

module _ (sought : Sought) (image : Image) where
  -- the same, whosoever they are
  abbrev pub any : Sought
  any = record { geometry = sought.geometry; whose = OfAny }

  pub of_any : (part : Part) (payload : List ℕ) → IsPart sought image part payload → IsPart any image part payload
  of_any part payload is = record {
    heads = is.heads;
    chunk = is.chunk;
    pages = is.pages;
    head = is.head;
    store = tt;
    spellable = is.spellable;
    numbered = is.numbered;
    digest = is.digest;
  }

  pub of_store : (part : Part) (payload : List ℕ) → IsPart any image part payload → IsSought sought part.store → IsPart sought image part payload
  of_store part payload is taken = record {
    heads = is.heads;
    chunk = is.chunk;
    pages = is.pages;
    head = is.head;
    store = taken;
    spellable = is.spellable;
    numbered = is.numbered;
    digest = is.digest;
  }

  module _ (e i : ℕ) where
    pub none_at : NoPartAt any image e i → NoPartAt sought image e i
    none_at none part payload extent page is = none part payload extent page (of_any part payload is)

    -- what is sought of what is there
    pub sought_at : IsGeometry sought.geometry.format sought.geometry.extents sought.geometry.pages sought.geometry.sections → (found : FoundPart) → IsPart any image found.part found.payload.items
        → (found.part.extent ≡ e) × (found.part.page ≡ i) → (result : Option FoundPart)
        → MatchOption result (IsSought sought found.part.store → ⊥) (λ it. (it ≡ found) × IsSought sought it.part.store)
        → MatchOption result (NoPartAt sought image e i) (λ it. IsPart sought image it.part it.payload.items)
    sought_at known found is place (Some it) taken =
        of_store it.part it.payload.items (subst (λ (f : FoundPart). IsPart any image f.part f.payload.items) (sym taken.0) is) taken.1
    sought_at known found is place None away = λ part payload extent page it.
        let one : found.part ≡ part = same_part any image known found.part part (place.0 ∙ sym extent) (place.1 ∙ sym page) found.payload.items payload is (of_any part payload it) in
        away (subst (λ (p : Part). IsSought sought p.store) (sym one) it.store)

-- what is so of what is there is so of what is sought of it
pub kept : (sought : Sought) (found : FoundPart) (P : FoundPart → Type 0) → P found → (result : Option FoundPart)
    → MatchOption result (IsSought sought found.part.store → ⊥) (λ it. (it ≡ found) × IsSought sought it.part.store) → IfSome result P
kept sought found P is (Some it) taken = subst P (sym taken.0) is
kept sought found P is None away = tt

pub taken_all : (sought : Sought) (found : FoundPart) (result : Option FoundPart)
    → MatchOption result (IsSought sought found.part.store → ⊥) (λ it. (it ≡ found) × IsSought sought it.part.store) → IfSome result (λ it. IsSought sought it.part.store)
taken_all sought found (Some it) taken = taken.1
taken_all sought found None away = tt

-- one part more that is sought
pub one_taken : (sought : Sought) (parts : List Part) (part : Part) → IsSought sought part.store → AreSought sought parts → AreSought sought (parts ++ part ∷ [])
one_taken sought parts part is all = All-push (λ (p : Part). IsSought sought p.store) parts part all is
