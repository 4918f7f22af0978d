use Rattle.std.proofs.Common.{inr}
use Rattle.cs_disk.proofs.Calls.{counts_call, elapses_call, one_call, pushed_state}
use Rattle.cs_disk.proofs.memory.MemoryDiskPageDisk.write.Goals as goal

pub returns-in_err-push-clause-time : goal.returns-in_err-push-clause-time
returns-in_err-push-clause-time c = λ honest. elapses_call _ _ _ _ c.note.ensures

pub returns-clause-time : goal.returns-clause-time
returns-clause-time c = λ honest. elapses_call _ _ _ _ c.note.ensures

pub returns-in_err-push-clause-count : goal.returns-in_err-push-clause-count
returns-in_err-push-clause-count c = λ honest. counts_call c.from_residual.result _ _ _ c.note.ensures

pub returns-clause-count : goal.returns-clause-count
returns-clause-count c = λ honest. one_call _ _ _ c.note.ensures

pub returns-clause-device_ok : goal.returns-clause-device_ok
returns-clause-device_ok c = λ honest. (c.args.number, pushed_state c.args.self.now.contents.durable.items _ _ c.in_ok-push.ensures.items)

pub returns-clause-device_fault : goal.returns-clause-device_fault
returns-clause-device_fault c = λ honest. inr (c.args.number, pushed_state c.args.self.now.contents.durable.items _ _ c.in_ok-push.ensures.items)
