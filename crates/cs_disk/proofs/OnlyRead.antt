-- Reads one after another.
use Rattle.std.proofs.Common.{◌∙◌, sym, refl, subst, inl, inr, ⊎_elim, arith}
use Rattle.cs_disk.specs.declared.disk.PageDisk.{Ghosts as PageDisk}
use Rattle.cs_disk.specs.Disk.{MayLeave, State}
use Rattle.cs_disk.specs.Reads.{OnlyReads}

module _ {D : Type 0} (disks : PageDisk D) where
  -- no read at all
  pub reads_none : (disk : D) → OnlyReads disks disk disk
  reads_none disk = record {
    same = λ h. refl;
    device = λ h. refl;
    still = λ h. refl;
    time = λ h. record { later = omega arith; nothing_else = λ t i le left. inl left; keeps = λ t i le past. past };
    honesty = ((λ h. h), (λ h. h));
    pages = refl;
    failures = omega arith;
    sound = λ s. (s, refl);
  }

  -- some reads, and some more
  pub reads_on : (a b c : D) → OnlyReads disks a b → OnlyReads disks b c → OnlyReads disks a c
  reads_on a b c first more = record {
    same = λ h. more.same (first.honesty.0 h) ∙ first.same h;
    device = λ h. more.device (first.honesty.0 h) ∙ first.device h;
    still = λ h. more.still (first.honesty.0 h) ∙ first.still h;
    time = λ h.
        let one = first.time h in
        let two = more.time (first.honesty.0 h) in
        let still = more.same (first.honesty.0 h) in
        record {
          later = omega (arith, one.later, two.later);
          nothing_else = λ t i le left. ⊎_elim
              (λ (was : disks.left_since b t i). ⊎_elim (λ (w : disks.left_since a t i). inl w) (λ (n : MayLeave (disks.state b) i). inr (subst (λ (s : State). MayLeave s i) (sym still) n)) (one.nothing_else t i le was))
              (λ (n : MayLeave (disks.state c) i). inr n)
              (two.nothing_else t i (omega (arith, le, one.later)) left);
          keeps = λ t i le past. two.keeps t i (omega (arith, le, one.later)) (one.keeps t i le past);
        };
    honesty = ((λ h. more.honesty.0 (first.honesty.0 h)), (λ h. first.honesty.1 (more.honesty.1 h)));
    pages = more.pages ∙ first.pages;
    failures = omega (arith, first.failures, more.failures);
    sound = λ s. let one = first.sound s in let two = more.sound one.0 in (two.0, two.1 ∙ one.1);
  }
