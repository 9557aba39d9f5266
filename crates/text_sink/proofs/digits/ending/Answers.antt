use Rattle.text_sink.proofs.Endings.{ending_at}
use Rattle.text_sink.proofs.digits.ending.Goals as goal

pub returns : goal.returns
returns c =
    let e = ending_at c.args.pair c.requires in
    rw (e.tens, e.ones, e.blank, e.rest)
