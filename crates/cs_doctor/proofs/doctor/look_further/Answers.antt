use Rattle.std.proofs.Common.{◌≡◌, ◌∙◌, ◌⊎◌, ℕ, arith, ap, inl, inr, ⊎_elim}
use Rattle.cs_disk.proofs.OnlyRead.{reads_on}
use Rattle.cs_disk.specs.Disk.{Image, Rises, seen}
use Rattle.cs_mount.specs.StorePairs.{dimensions_on}
use Rattle.cs_doctor.proofs.Doctoring.{look_deep, look_pairs}
use Rattle.cs_doctor.proofs.doctor.look_further.Goals as goal

pub returns-clause-look : goal.returns-clause-look
returns-clause-look g c = λ h.
    let D = g.D.PageDisk in
    let disk_0 = c.args.disk.now in
    let disk_1 = c.known_of-known.new.disk in
    let disk_2 = c.store_geometry.new.disk in
    let disk_3 = c.find_pairs.new.disk in
    let disk_4 = c.shown_geometry-geometry.new.disk in
    let disk_5 = c.read_by_depth.new.disk in
    let reads_1 = c.known_of-known.ensures.disk in
    let reads_2 = reads_on D disk_0 disk_1 disk_2 reads_1 c.store_geometry.ensures.disk in
    let reads_3 = reads_on D disk_0 disk_2 disk_3 reads_2 c.find_pairs.ensures.disk in
    let reads_4 = reads_on D disk_0 disk_3 disk_4 reads_3 c.shown_geometry-geometry.ensures.disk in
    let m4 = c.shown_geometry-geometry.ensures.disk.failures in
    let m5 = c.read_by_depth.ensures.disk.failures in
    let image = seen (D.state disk_0) in
    let store = c.in_ok-store.store in
    let found : (store ≡ dimensions_on (D.page_count disk_0) image) ⊎ Rises (D.failure_count disk_1) (D.failure_count disk_2) =
    ⊎_elim (λ (is : store ≡ dimensions_on (D.page_count disk_1) (seen (D.state disk_1))). inl (is ∙ ap (λ (n : ℕ). dimensions_on n (seen (D.state disk_1))) reads_1.pages ∙ ap (λ (i : Image). dimensions_on (D.page_count disk_0) i) (ap seen (reads_1.same h))))
    (λ (rise : Rises (D.failure_count disk_1) (D.failure_count disk_2)). inr rise) (c.in_ok-store.ensures.found (reads_1.honesty.0 h)) in
    record {
      two = λ first last is. c.known_of-known.ensures.two first last h is;
      superseded = λ is. c.known_of-known.ensures.superseded h is;
      pairs = look_pairs (D.page_count disk_0) image (seen (D.state disk_2)) (D.failure_count disk_0) (D.failure_count disk_1) (D.failure_count disk_2) (D.failure_count disk_3) (D.failure_count disk_5) store c.in_ok-pairs.pairs.items
          reads_1.failures reads_2.failures (omega (arith, c.find_pairs.ensures.disk.failures, m4, m5)) (omega (arith, m4, m5)) (ap seen (reads_2.same h)) found (c.in_ok-pairs.ensures.found (reads_2.honesty.0 h));
      deep = look_deep (D.page_count disk_0) image (seen (D.state disk_4)) (D.failure_count disk_0) (D.failure_count disk_1) (D.failure_count disk_2) (D.failure_count disk_4) (D.failure_count disk_5) store c.in_ok-found.found
          reads_1.failures reads_4.failures (omega (arith, c.find_pairs.ensures.disk.failures, m4, m5)) (ap seen (reads_4.same h)) found (c.in_ok-found.ensures.found (reads_4.honesty.0 h));
    }

pub returns-in_err-store-clause-disk : goal.returns-in_err-store-clause-disk
returns-in_err-store-clause-disk g c = reads_on g.D.PageDisk c.args.disk.now c.known_of-known.new.disk c.store_geometry.new.disk c.known_of-known.ensures.disk c.store_geometry.ensures.disk

pub returns-in_err-pairs-clause-disk : goal.returns-in_err-pairs-clause-disk
returns-in_err-pairs-clause-disk g c =
    let D = g.D.PageDisk in
    let disk_0 = c.args.disk.now in
    reads_on D disk_0 c.store_geometry.new.disk c.find_pairs.new.disk (reads_on D disk_0 c.known_of-known.new.disk c.store_geometry.new.disk c.known_of-known.ensures.disk c.store_geometry.ensures.disk) c.find_pairs.ensures.disk

pub returns-in_err-found-clause-disk : goal.returns-in_err-found-clause-disk
returns-in_err-found-clause-disk g c =
    let D = g.D.PageDisk in
    let disk_0 = c.args.disk.now in
    let reads_2 = reads_on D disk_0 c.known_of-known.new.disk c.store_geometry.new.disk c.known_of-known.ensures.disk c.store_geometry.ensures.disk in
    let reads_3 = reads_on D disk_0 c.store_geometry.new.disk c.find_pairs.new.disk reads_2 c.find_pairs.ensures.disk in
    let reads_4 = reads_on D disk_0 c.find_pairs.new.disk c.shown_geometry-geometry.new.disk reads_3 c.shown_geometry-geometry.ensures.disk in
    reads_on D disk_0 c.shown_geometry-geometry.new.disk c.read_by_depth.new.disk reads_4 c.read_by_depth.ensures.disk

pub returns-clause-disk : goal.returns-clause-disk
returns-clause-disk g c =
    let D = g.D.PageDisk in
    let disk_0 = c.args.disk.now in
    let reads_2 = reads_on D disk_0 c.known_of-known.new.disk c.store_geometry.new.disk c.known_of-known.ensures.disk c.store_geometry.ensures.disk in
    let reads_3 = reads_on D disk_0 c.store_geometry.new.disk c.find_pairs.new.disk reads_2 c.find_pairs.ensures.disk in
    let reads_4 = reads_on D disk_0 c.find_pairs.new.disk c.shown_geometry-geometry.new.disk reads_3 c.shown_geometry-geometry.ensures.disk in
    reads_on D disk_0 c.shown_geometry-geometry.new.disk c.read_by_depth.new.disk reads_4 c.read_by_depth.ensures.disk
