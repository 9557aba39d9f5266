use Rattle.std.proofs.Common.{[], ◌∷◌}
use Rattle.byte_ports.proofs.open_files.open.Goals as goal

pub returns-in-Ok : goal.returns-in-Ok
returns-in-Ok g c = record {
  asked = c.args.path.now ∷ [];
  ends = search (rw c.in-Ok.is at c.open.ensures.opened);
  log = c.open.ensures.asked.log;
  same = c.open.ensures.asked.same;
}

pub returns-in-Err : goal.returns-in-Err
returns-in-Err g c = record {
  asked = c.args.path.now ∷ [];
  ends = search (rw c.in-Err.is at c.open.ensures.refused);
  log = c.open.ensures.asked.log;
  same = c.open.ensures.asked.same;
}
