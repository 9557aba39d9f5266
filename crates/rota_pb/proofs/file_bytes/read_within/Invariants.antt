use Rattle.std.proofs.Common.{◌≡◌, ◌-◌, ◌≤◌, vec_len}
use Rattle.std.specs.Io.KnownBytes.{prepend_known}
use Rattle.rota_pb.proofs.file_bytes.read_within.Given as goal

abbrev pub invariant-loop-buffer : goal.invariant-loop-buffer
invariant-loop-buffer g l = record {
  bytes : g.S.Source.left l.initial.source ≡ prepend_known l.text.items (g.S.Source.left l.source);
  bound : vec_len l.text ≤ l.limit;
  sound : g.S.Source.has_failed l.source ≡ g.S.Source.has_failed l.initial.source;
  unended : g.S.Source.has_ended l.source ≡ g.S.Source.has_ended l.initial.source;
}

abbrev pub decreases-loop-buffer : goal.decreases-loop-buffer
decreases-loop-buffer g l = l.limit - vec_len l.text
