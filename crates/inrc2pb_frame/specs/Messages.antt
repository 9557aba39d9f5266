-- The messages about why a program ended.
use Rattle.std.specs.Prelude.{List, [], ◌∷◌, ◌++◌, Option, option_map}
pub use Rattle.clap.specs.Words.{Text}
pub use Rattle.inrc2pb_frame.specs.declared.stop.Stop.{Stop}
use Rattle.inrc2pb_frame.specs.declared.stop.StopText.{StopText}

-- a message: the name of the program, and the reason why it ended
pub record Message : Type 0 where
  pub program : Text
  pub stop : Stop

-- the message that this text shows
abbrev pub message_of : StopText → Message
message_of text = record { program = text.program.now; stop = text.stop.now }

-- the printed messages, one after the other, if they are known
abbrev pub Messages : Type 0
Messages = Option (List Message)

-- the messages with one more
abbrev pub with_message : Messages → Message → Messages
with_message messages message = option_map (λ (before : List Message). before ++ message ∷ []) messages
