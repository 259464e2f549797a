use Rattle.engine.proofs.TroublesLemmas.{as_fault_here, dump_told, memory_told}
use Rattle.engine.proofs.engine.Engine.dump.Goals as goal

pub returns-in-Err-clause-begins : goal.returns-in-Err-clause-begins
returns-in-Err-clause-begins g c =
    let old = c.args.self.now in
    let new = c.walk_through.new.self in
    let fault = c.told_fault.result in
    let continues = c.in-Err.ensures.reads.continues in
    let tells = as_fault_here g.D.Disk.history old new continues c.in-Err.fault fault c.troubles_of-before.ensures
    c.troubles_of.ensures c.told_fault.ensures in
    dump_told g.D.Disk.history old new continues c.in-Err.fault fault c.args.namespace.now c.in-Err.ensures tells

pub returns-in-Err-clause-memory : goal.returns-in-Err-clause-memory
returns-in-Err-clause-memory g c = λ k memory.
    let old = c.args.self.now in
    let new = c.walk_through.new.self in
    let fault = c.told_fault.result in
    let continues = c.in-Err.ensures.reads.continues in
    let tells = as_fault_here g.D.Disk.history old new continues c.in-Err.fault fault c.troubles_of-before.ensures
    c.troubles_of.ensures c.told_fault.ensures in
    memory_told g.D.Disk.history old new continues c.in-Err.fault fault k tells cc

pub returns-in-Ok-clause-memory : goal.returns-in-Ok-clause-memory
returns-in-Ok-clause-memory g c = λ k memory. absurd cc
