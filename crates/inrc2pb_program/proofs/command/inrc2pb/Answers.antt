use Rattle.clap.specs.Words.{with_subcommand}
use Rattle.inrc2pb_program.specs.CommandLine.{bare_app, decode_app, encode_app, extend_app}
use Rattle.inrc2pb_program.proofs.command.inrc2pb.Goals as goal

pub returns : goal.returns
returns c =
    let with_encode = with_subcommand bare_app encode_app.top in
    let with_decode = with_subcommand with_encode decode_app.top in
    let one = c.in_ok-command-2.ensures bare_app encode_app c.in_ok-command.ensures c.encode.ensures in
    let two = c.in_ok-command-3.ensures with_encode decode_app one c.decode.ensures in
    c.with_subcommand-3.ensures with_decode extend_app two c.extend.ensures
