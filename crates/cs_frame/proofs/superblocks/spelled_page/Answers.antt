use Rattle.std.proofs.Common.{◌≤◌, ◌∙◌, ap, arith, length, ℕ}
use Rattle.cs_frame.specs.FormatNumbers.{number_in}
use Rattle.cs_frame.specs.Pages.{padded, sealed}
use Rattle.cs_frame.specs.Pointers.{FitsExtent, FitsGeneration}
use Rattle.cs_frame.proofs.Pieces.{AllByRecursion-and}
use Rattle.cs_frame.proofs.SuperblockLaws.{end_in_page, extents_in_page, length-superblock_fields}
use Rattle.cs_frame.proofs.superblocks.spelled_page.Goals as goal

pub unsealed-page-requires : goal.unsealed-page-requires
unsealed-page-requires c = omega (arith, c.requires.count, extents_in_page c.args.head.format c.args.head.extent_count c.args.head.pages c.args.head.sections c.args.head.section c.requires.geometry)

pub seal-requires : goal.seal-requires
seal-requires c =
    omega (arith, ap length c.unsealed-page.ensures.text, length-superblock_fields c.args.head.format c.args.head.version c.args.head.recorded c.args.head.extent_count c.args.head.pages c.args.head.sections c.args.head.section c.args.extents.now c.requires.geometry.fits_format, c.requires.count, end_in_page (number_in c.args.head.format) c.args.head.format c.args.head.extent_count c.args.head.pages c.args.head.sections c.args.head.section c.requires.geometry)

pub returns : goal.returns
returns c = record {
  fits = record {
    first_version = c.requires.first_version;
    last_version = c.requires.last_version;
    recorded_fits = c.requires.recorded_fits;
    geometry = c.requires.geometry;
    one_of_them = c.requires.one_of_them;
    count = c.requires.count;
    each = AllByRecursion-and (λ (extent : ℕ × ℕ). extent.0 ≤ c.args.head.pages) FitsGeneration (FitsExtent c.args.head.pages) (λ e low fits. record { pointer = low; generation = fits.generation }) c.args.extents.now c.requires.pointers c.unsealed-page.ensures.generations;
  };
  spelled = c.finish.ensures ∙ ap padded (c.seal.ensures ∙ ap sealed c.unsealed-page.ensures.text);
}
