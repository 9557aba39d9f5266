use Rattle.std.proofs.Common.{sym, arith}
use Rattle.text_sink.proofs.DigitCounts.{length-decimal, length-decimal-one}
use Rattle.text_sink.proofs.digits.count_digits.Goals as goal

pub returns-in-0-to-9 : goal.returns-in-0-to-9
returns-in-0-to-9 c = sym (length-decimal-one c.args.number (omega arith))

pub returns-in-10-to-99 : goal.returns-in-10-to-99
returns-in-10-to-99 c = sym (length-decimal 0 c.args.number (omega arith) (omega arith) (omega arith))

pub returns-in-100-to-999 : goal.returns-in-100-to-999
returns-in-100-to-999 c = sym (length-decimal 1 c.args.number (omega arith) (omega arith) (omega arith))

pub returns-in-1000-to-9999 : goal.returns-in-1000-to-9999
returns-in-1000-to-9999 c = sym (length-decimal 2 c.args.number (omega arith) (omega arith) (omega arith))

pub returns-in-10000-to-99999 : goal.returns-in-10000-to-99999
returns-in-10000-to-99999 c = sym (length-decimal 3 c.args.number (omega arith) (omega arith) (omega arith))

pub returns-in-100000-to-999999 : goal.returns-in-100000-to-999999
returns-in-100000-to-999999 c = sym (length-decimal 4 c.args.number (omega arith) (omega arith) (omega arith))

pub returns-in-1000000-to-9999999 : goal.returns-in-1000000-to-9999999
returns-in-1000000-to-9999999 c = sym (length-decimal 5 c.args.number (omega arith) (omega arith) (omega arith))

pub returns-in-10000000-to-99999999 : goal.returns-in-10000000-to-99999999
returns-in-10000000-to-99999999 c = sym (length-decimal 6 c.args.number (omega arith) (omega arith) (omega arith))

pub returns-in-100000000-to-999999999 : goal.returns-in-100000000-to-999999999
returns-in-100000000-to-999999999 c = sym (length-decimal 7 c.args.number (omega arith) (omega arith) (omega arith))

pub returns-in_default : goal.returns-in_default
returns-in_default c = sym (length-decimal 8 c.args.number (omega arith) (omega arith) (omega arith))
