use Rattle.std.proofs.Common.{◌≤◌, ◌∙◌, List, ℕ, ap, length, refl, subst, sym}
use Rattle.std.specs.List.{AllByRecursion}
use Rattle.cs_frame.specs.Superblocks.{SpellsSuperblock}
use Rattle.cs_frame.proofs.SuperblockLaws.{same_section}
use Rattle.cs_frame.proofs.superblocks.encode_superblock.Goals as goal

pub spelled_page-requires : goal.spelled_page-requires
spelled_page-requires c =
    let it = c.args.superblock.now in
    same_section it.format it.version it.recorded it.extent_count it.pages it.sections it.section _ _ _ _ c.deref.result.now refl refl refl refl (record {
      first_version = c.requires.first_version;
      last_version = c.requires.last_version;
      recorded_fits = c.requires.recorded_fits;
      geometry = c.requires.geometry;
      one_of_them = c.requires.one_of_them;
      count = ap length c.deref.ensures.value ∙ c.requires.count;
      pointers = subst (λ (es : List (ℕ × ℕ)). AllByRecursion (λ (extent : ℕ × ℕ). extent.0 ≤ it.pages) es) (sym c.deref.ensures.value) c.requires.pointers;
    })

pub returns : goal.returns
returns c =
    let it = c.args.superblock.now in
    subst (λ (es : List (ℕ × ℕ)). SpellsSuperblock c.spelled_page.result it.format it.version it.recorded it.extent_count it.pages it.sections it.section es) c.deref.ensures.value c.spelled_page.ensures
