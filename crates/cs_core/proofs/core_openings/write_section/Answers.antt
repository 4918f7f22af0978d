use Rattle.std.proofs.Common.{◌≡◌, ◌⊎◌, ◌∙◌, ◌<◌, inl, inr, ⊎_elim, ℕ, List, Result, Ok, Err, OnErr, OnOk, ap, arith, subst, sym}
use Rattle.cs_disk.specs.Disk.{State as DiskState, written}
use Rattle.cs_frame.specs.Geometries.{device_pages}
use Rattle.cs_core.proofs.Heads.{head_below}
use Rattle.cs_core.proofs.NewTaken.{others_taken}
use Rattle.cs_core.proofs.Starting.{section_geometry, spelled_new}
use Rattle.cs_core.proofs.core_openings.write_section.Goals as goal
use Rattle.cs_core.specs.Started.{head_page, SpellsNew}

-- what is written, with its bytes
wrote : {T E : Type 0} (r : Result T E) (old now : DiskState) (number place : ℕ) (bytes : List ℕ) (P : List ℕ → Type 0) → number ≡ place → P bytes → OnOk r (now ≡ written old number bytes)
    → OnOk r ((b : List ℕ) × P b × (now ≡ written old place b))
wrote (Ok t) old now number place bytes P same spelled is = (bytes, spelled, is ∙ ap (λ (n : ℕ). written old n bytes) same)
wrote (Err e) old now number place bytes P same spelled is = tt

-- or not
faulted : {T E : Type 0} (r : Result T E) (old now : DiskState) (number place : ℕ) (bytes : List ℕ) → number ≡ place → (now ≡ old) ⊎ (now ≡ written old number bytes)
    → OnErr r ((now ≡ old) ⊎ ((b : List ℕ) × (now ≡ written old place b)))
faulted (Ok t) old now number place bytes same why = tt
faulted (Err e) old now number place bytes same why = ⊎_elim (λ (n : now ≡ old). inl n) (λ (w : now ≡ written old number bytes). inr (bytes, w ∙ ap (λ (n : ℕ). written old n bytes) same)) why

pub write-requires : goal.write-requires
write-requires g c =
    let it = c.args.superblock.now in
    let below : head_page c.args.geometry.extents c.args.geometry.pages it.section < device_pages c.args.geometry.format c.args.geometry.extents c.args.geometry.pages c.args.geometry.sections =
    head_below c.args.geometry.format c.args.geometry.extents c.args.geometry.pages c.args.geometry.sections it.section
    (section_geometry c.args.geometry.format c.args.geometry.extents c.args.geometry.pages c.args.geometry.sections it.section it c.requires.section)
    (subst (λ (n : ℕ). it.section < n) c.requires.section.section_at.of_sections c.requires.section.section_at.is.one_of_them) in
    omega (arith, below, c.section_page-number.ensures, c.requires.sized)

pub encode_superblock-requires : goal.encode_superblock-requires
encode_superblock-requires g c = c.requires.section.section_at.is

pub returns-clause-written : goal.returns-clause-written
returns-clause-written g c = λ h.
    let it = c.args.superblock.now in
    let s = c.args.geometry in
    wrote c.write.result (g.D.PageDisk.state c.args.disk.now) (g.D.PageDisk.state c.write.new.self) c.section_page-number.result (head_page s.extents s.pages it.section) c.encode_superblock.result
    (λ (b : List ℕ). SpellsNew s.format s.extents s.pages s.sections it.section b) c.section_page-number.ensures
    (spelled_new s.format s.extents s.pages s.sections it.section it c.requires.section c.encode_superblock.result c.encode_superblock.ensures) (c.write.ensures.ok h)

pub returns-clause-failed : goal.returns-clause-failed
returns-clause-failed g c = λ h.
    let s = c.args.geometry in
    faulted c.write.result (g.D.PageDisk.state c.args.disk.now) (g.D.PageDisk.state c.write.new.self) c.section_page-number.result (head_page s.extents s.pages c.args.superblock.now.section) c.encode_superblock.result
    c.section_page-number.ensures (c.write.ensures.fault h)

pub returns-clause-taken : goal.returns-clause-taken
returns-clause-taken g c = λ h sound takes.
    let it = c.args.superblock.now in
    let s = c.args.geometry in
    let few = subst (λ (n : ℕ). it.section < n) c.requires.section.section_at.of_sections c.requires.section.section_at.is.one_of_them in
    let spelled = spelled_new s.format s.extents s.pages s.sections it.section it c.requires.section c.encode_superblock.result c.encode_superblock.ensures in
    c.write.ensures.taken h sound
    (subst (λ (n : ℕ). g.D.PageDisk.takes c.args.disk.now n c.encode_superblock.result) (sym c.section_page-number.ensures) (takes.of_section it.section c.encode_superblock.result (omega arith) few spelled))

pub returns-clause-others : goal.returns-clause-others
returns-clause-others g c = λ h.
    let s = c.args.geometry in
    others_taken g.D.PageDisk s.format s.extents s.pages s.sections c.write.result c.args.disk.now c.write.new.self c.args.superblock.now.section c.section_page-number.result c.section_page-number.ensures (c.write.ensures.others h)
