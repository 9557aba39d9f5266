use Rattle.rota_bound_run.specs.CertificateRead.{AreFreeTables}
use Rattle.rota_bound_run.proofs.proof_file.free_tables.Given as goal

-- there is a table for each of the first weeks
abbrev pub invariant-loop : goal.invariant-loop
invariant-loop l = AreFreeTables l.fn.scenario l.counter l.tables.items
