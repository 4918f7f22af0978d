use Rattle.law_room_in_store.proofs.CoreLives.{opened_geometry}
use Rattle.law_room_in_store.proofs.CoreRoom.{format_apart, new_geometry, same_geometry}
use Rattle.law_room_in_store.proofs.lives.each_store_has_a_geometry.Goals as goal

pub returns-clause-new : goal.returns-clause-new
returns-clause-new g c = λ format extents pages sections geometry. new_geometry format extents pages sections geometry

pub returns-clause-opened : goal.returns-clause-opened
returns-clause-opened g c = λ disk v is there.
    opened_geometry (g.D.PageDisk.honest disk) v.opened v.found v.store is there

pub returns-clause-shape : goal.returns-clause-shape
returns-clause-shape g c = λ x y same geometry. same_geometry x y same geometry

pub returns-clause-apart : goal.returns-clause-apart
returns-clause-apart g c = λ x store device is. format_apart x store device is
