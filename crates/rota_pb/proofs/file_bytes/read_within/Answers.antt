use Rattle.std.proofs.Common.{◌++◌, take, arith, length-append, length-take, inl, sym, ap, ◌∙◌}
use Rattle.std.specs.Io.KnownBytes.{prepend_known}
use Rattle.text_sink.proofs.LogicWords.{or_false}
use Rattle.byte_ports.specs.Ports.{KnownBytes}
use Rattle.rota_pb.proofs.Feeding.{prepend_known-append}
use Rattle.rota_pb.proofs.file_bytes.read_within.Goals as goal

pub returns-then-is_err-clause-fault : goal.returns-then-is_err-clause-fault
returns-then-is_err-clause-fault g c =
    let piece = take c.in-Ok.count c.read.new.buffer in (
      c.loop-buffer.text.items ++ piece,
      record {
        front =
            c.loop-buffer.invariant.bytes
            ∙ ap (λ (known : KnownBytes). prepend_known c.loop-buffer.text.items known) c.in-Ok.ensures.bytes.0
            ∙ sym (prepend_known-append c.loop-buffer.text.items piece (g.S.Source.left c.read.new.self));
        sound = c.in-Ok.ensures.failure ∙ or_false _ ∙ c.loop-buffer.invariant.sound;
      },
      inl (omega (
        arith,
        length-append c.loop-buffer.text.items piece,
        length-take c.in-Ok.count c.read.new.buffer,
        c.in-Ok.ensures.bound,
      )),
    )
