use Rattle.std.proofs.Common.{refl, ap}
use Rattle.std.proofs.lemmas.Result.{err_from_is_err_and}
use Rattle.rota_pb.specs.RunParts.{fault_of_file}
use Rattle.rota_pb.proofs.week_files.join.Goals as goal

pub returns-in_err-join : goal.returns-in_err-join
returns-in_err-join c =
    let p = err_from_is_err_and c.from_residual.result c.from_residual.ensures.1 in
    rw (p.1, p.2) (c.in_err-join.ensures.late.0 refl, ap fault_of_file c.in_err-join.ensures.fault)
