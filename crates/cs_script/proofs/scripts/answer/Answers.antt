use Rattle.cs_script.proofs.scripts.answer.Goals as goal

pub returns-in-Put : goal.returns-in-Put
returns-in-Put g c = rw (c.in-Put.is) c.put.ensures

pub returns-in-Get : goal.returns-in-Get
returns-in-Get g c = rw (c.in-Get.is) c.get.ensures

pub returns-in-Sweep : goal.returns-in-Sweep
returns-in-Sweep g c = rw (c.in-Sweep.is) c.sweep.ensures

pub returns-in-Sync : goal.returns-in-Sync
returns-in-Sync g c = rw (c.in-Sync.is) c.sync.ensures

pub returns-in-Delete : goal.returns-in-Delete
returns-in-Delete g c = rw (c.in-Delete.is) c.delete.ensures
