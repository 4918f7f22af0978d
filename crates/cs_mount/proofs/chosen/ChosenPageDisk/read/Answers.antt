use Rattle.std.proofs.Common.{◌≡◌, ◌∙◌, List, OnOk, ℕ, arith, false, refl, subst, sym, true}
use Rattle.cs_disk.specs.Disk.{page, seen}
use Rattle.cs_mount.specs.Hidden.{hidden_at, is_among}
use Rattle.cs_mount.proofs.Hiding.{hidden_stays, hides_page, leaves_page}
use Rattle.cs_mount.proofs.Repaging.{elapses_repaged, read_repaged, reads_repaged, repages_kept, whole_repaged}
use Rattle.cs_mount.proofs.chosen.ChosenPageDisk.read.Goals as goal

pub invariant_of-self : goal.invariant_of-self
invariant_of-self g c =
    let self = c.args.self.now in
    let f = hidden_at self.hidden.items in
    let s = g.D.PageDisk.state c.read.new.self in
    record { shows = repages_kept f s; whole = λ h. whole_repaged f s (hidden_stays self.hidden.items) (g.met.D.PageDisk.whole c.read.new.self h) }

pub returns-then-contains-clause-bytes : goal.returns-then-contains-clause-bytes
returns-then-contains-clause-bytes g c = λ h.
    let self = c.args.self.now in
    let s = g.D.PageDisk.state self.disk in
    let sized = g.met.D.PageDisk.sized self.disk h in
    let test : is_among self.hidden.items c.args.number ≡ true = subst (λ (l : List ℕ). is_among l c.args.number ≡ true) c.deref.ensures.value (sym c.contains.ensures.value ∙ c.if-contains.true) in
    read_repaged (hidden_at self.hidden.items) s c.args.number (page (seen s) c.args.number) _ (omega (arith, c.requires, sized)) refl (sym (hides_page self.hidden.items c.args.number (page (seen s) c.args.number) test))

pub returns-else-contains-clause-bytes : goal.returns-else-contains-clause-bytes
returns-else-contains-clause-bytes g c = λ h.
    let self = c.args.self.now in
    let s = g.D.PageDisk.state self.disk in
    let sized = g.met.D.PageDisk.sized self.disk h in
    let test : is_among self.hidden.items c.args.number ≡ false = subst (λ (l : List ℕ). is_among l c.args.number ≡ false) c.deref.ensures.value (sym c.contains.ensures.value ∙ c.if-contains.false) in
    reads_repaged (hidden_at self.hidden.items) s c.read.result c.args.number (page (seen s) c.args.number) c.read.new.buffer (omega (arith, c.requires, sized)) refl
    (subst (λ (l : List ℕ). OnOk c.read.result (c.read.new.buffer ≡ l)) (sym (leaves_page self.hidden.items c.args.number (page (seen s) c.args.number) test)) (c.read.ensures.bytes h))

pub returns-else-contains-clause-time : goal.returns-else-contains-clause-time
returns-else-contains-clause-time g c = λ h. let self = c.args.self.now in elapses_repaged (hidden_at self.hidden.items) (g.D.PageDisk.state c.read.new.self) _ _ _ _ (c.read.ensures.time h)
