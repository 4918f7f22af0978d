use Rattle.std.proofs.Common.{◌≡◌, ◌≢◌, IfErr, None, OnOk, Some, ap, inr, refl, subst, sym}
use Rattle.cs_disk.specs.Disk.{page, seen}
use Rattle.cs_index.specs.State.{id_number}
use Rattle.cs_reader.proofs.Lists.{none_left, some_left}
use Rattle.cs_salvage.specs.contracts.rescues.Found.{the_view}
use Rattle.cs_salvage.specs.declared.rescues.RescueRefusal.TheVariants.{RunLost}
use Rattle.cs_salvage.specs.Founds.{Found}
use Rattle.cs_salvage.proofs.Getting.{caused_at, deleted_absent, deleted_live, meant_at, named_known, named_there, none_absent, none_caused, none_got, none_live, none_refused, none_unknown, none_why, read_at, read_on, why_at}
use Rattle.cs_salvage.proofs.rescues.Found.get.Goals as goal

-- ---- no run names it

pub returns-in_default-clause-absent : goal.returns-in_default-clause-absent
returns-in_default-clause-absent g c = rw (← c.self.view_is) (none_absent (the_view c.self.inside) (id_number c.args.id) c.in_default.ensures.last c.unnamed.result
    (subst (λ (u : Found). OnOk c.unnamed.result (u.damaged ≡ None)) (sym c.self.view_is) c.unnamed.ensures.whole) c.unnamed.ensures.none
    (subst (λ (u : Found). IfErr c.unnamed.result (λ r. (r ≡ RunLost) × (u.damaged ≢ None))) (sym c.self.view_is) c.unnamed.ensures.lost))

pub returns-in_default-clause-run_lost : goal.returns-in_default-clause-run_lost
returns-in_default-clause-run_lost g c = rw (← c.self.view_is) (none_unknown (the_view c.self.inside) (id_number c.args.id) c.in_default.ensures.last c.unnamed.result
    (subst (λ (u : Found). OnOk c.unnamed.result (u.damaged ≡ None)) (sym c.self.view_is) c.unnamed.ensures.whole)
    (subst (λ (u : Found). IfErr c.unnamed.result (λ r. (r ≡ RunLost) × (u.damaged ≢ None))) (sym c.self.view_is) c.unnamed.ensures.lost))

pub returns-in_default-clause-meant : goal.returns-in_default-clause-meant
returns-in_default-clause-meant g c = none_got (c.self.inside.damaged ≢ None) c.unnamed.result c.unnamed.ensures.none _

pub returns-in_default-clause-bytes : goal.returns-in_default-clause-bytes
returns-in_default-clause-bytes g c = λ h. none_got (c.self.inside.damaged ≢ None) c.unnamed.result c.unnamed.ensures.none _

pub returns-in_default-clause-read : goal.returns-in_default-clause-read
returns-in_default-clause-read g c = rw (← c.self.view_is) (λ h cs some. absurd (none_live (the_view c.self.inside) (id_number c.args.id) c.in_default.ensures.last c.unnamed.result some))

pub returns-in_default-clause-why : goal.returns-in_default-clause-why
returns-in_default-clause-why g c = λ h. none_why _ c.unnamed.result c.unnamed.ensures.lost _

pub returns-in_default-clause-refusals : goal.returns-in_default-clause-refusals
returns-in_default-clause-refusals g c = none_refused _ c.unnamed.result c.unnamed.ensures.lost

pub returns-in_default-clause-cause : goal.returns-in_default-clause-cause
returns-in_default-clause-cause g c = λ e. none_caused _ c.unnamed.result c.unnamed.ensures.lost _ e

-- ---- it is deleted

pub returns-then-is_empty-clause-read : goal.returns-then-is_empty-clause-read
returns-then-is_empty-clause-read g c = rw (← c.self.view_is) (λ h cs some. absurd (deleted_live (the_view c.self.inside) (id_number c.args.id) c.in-Some.places.now c.in-Some.ensures.last (none_left c.in-Some.places.now c.if-is_empty.ensures) some))

pub returns-then-is_empty-clause-absent : goal.returns-then-is_empty-clause-absent
returns-then-is_empty-clause-absent g c = rw (← c.self.view_is) (
  (λ _. deleted_absent (the_view c.self.inside) (id_number c.args.id) c.in-Some.places.now c.in-Some.ensures.last (none_left c.in-Some.places.now c.if-is_empty.ensures)),
  (λ _. refl),
)

pub returns-then-is_empty-clause-run_lost : goal.returns-then-is_empty-clause-run_lost
returns-then-is_empty-clause-run_lost g c = rw (← c.self.view_is) (
  (λ told. absurd (cc told)),
  (λ unknown. absurd (named_known (the_view c.self.inside) (id_number c.args.id) c.in-Some.places.now c.in-Some.ensures.last unknown)),
)

-- ---- it has places

pub returns-in-Ok-clause-absent : goal.returns-in-Ok-clause-absent
returns-in-Ok-clause-absent g c = rw (← c.self.view_is) (
  (λ told. absurd (cc told)),
  (λ absent. absurd (named_there (the_view c.self.inside) (id_number c.args.id) c.in-Some.places.now c.in-Some.ensures.last (some_left c.in-Some.places.now c.if-is_empty.ensures) absent)),
)

pub returns-in-Ok-clause-run_lost : goal.returns-in-Ok-clause-run_lost
returns-in-Ok-clause-run_lost g c = rw (← c.self.view_is) (
  (λ told. absurd (cc told)),
  (λ unknown. absurd (named_known (the_view c.self.inside) (id_number c.args.id) c.in-Some.places.now c.in-Some.ensures.last unknown)),
)

pub returns-in-Ok-clause-meant : goal.returns-in-Ok-clause-meant
returns-in-Ok-clause-meant g c = rw (← c.self.view_is) (meant_at (the_view c.self.inside) (id_number c.args.id) c.in-Some.places.now c.in-Some.ensures.last c.in-Ok.bytes.items c.in-Ok.ensures.meant)

pub returns-in-Ok-clause-bytes : goal.returns-in-Ok-clause-bytes
returns-in-Ok-clause-bytes g c = rw (← c.self.view_is) (λ h. read_at (the_view c.self.inside) (id_number c.args.id) c.in-Some.places.now c.in-Some.ensures.last (page (seen (g.D.PageDisk.state c.args.disk.now))) c.in-Ok.bytes.items (c.in-Ok.ensures.bytes h))

pub returns-in-Ok-clause-read : goal.returns-in-Ok-clause-read
returns-in-Ok-clause-read g c = rw (← c.self.view_is) (λ h cs some located there. ap Some (read_on (the_view c.self.inside) (id_number c.args.id) c.in-Some.places.now c.in-Some.ensures.last (page (seen (g.D.PageDisk.state c.args.disk.now))) cs _ (c.in-Ok.ensures.read h cs) located there))

pub returns-in-Err-clause-absent : goal.returns-in-Err-clause-absent
returns-in-Err-clause-absent g c = rw (← c.self.view_is) (
  (λ told. absurd (cc told)),
  (λ absent. absurd (named_there (the_view c.self.inside) (id_number c.args.id) c.in-Some.places.now c.in-Some.ensures.last (some_left c.in-Some.places.now c.if-is_empty.ensures) absent)),
)

pub returns-in-Err-clause-run_lost : goal.returns-in-Err-clause-run_lost
returns-in-Err-clause-run_lost g c = rw (← c.self.view_is) (
  (λ told. absurd (cc told)),
  (λ unknown. absurd (named_known (the_view c.self.inside) (id_number c.args.id) c.in-Some.places.now c.in-Some.ensures.last unknown)),
)

pub returns-in-Err-clause-read : goal.returns-in-Err-clause-read
returns-in-Err-clause-read g c = rw (← c.self.view_is) (λ h cs some located there. (c.in-Err.refusal, refl, read_on (the_view c.self.inside) (id_number c.args.id) c.in-Some.places.now c.in-Some.ensures.last (page (seen (g.D.PageDisk.state c.args.disk.now))) cs _ (c.in-Err.ensures.read h cs) located there))

pub returns-in-Err-clause-why : goal.returns-in-Err-clause-why
returns-in-Err-clause-why g c = rw (← c.self.view_is) (λ h r same. why_at (the_view c.self.inside) (id_number c.args.id) c.in-Some.places.now c.in-Some.ensures.last (page (seen (g.D.PageDisk.state c.args.disk.now))) c.in-Err.refusal (c.in-Err.ensures.why h) r same)

pub returns-in-Err-clause-refusals : goal.returns-in-Err-clause-refusals
returns-in-Err-clause-refusals g c = inr (c.in-Err.refusal, refl, c.in-Err.ensures.refusals)

pub returns-in-Err-clause-cause : goal.returns-in-Err-clause-cause
returns-in-Err-clause-cause g c = λ e. caused_at (g.D.PageDisk.failure_count c.args.disk.now) (g.D.PageDisk.failure_count c.read_places.new.disk) c.read_places.result c.in-Err.refusal _ _ c.read_places.ensures.cause c.in-Err.is refl refl e
