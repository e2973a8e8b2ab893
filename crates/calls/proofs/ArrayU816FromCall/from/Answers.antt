-- The bytes of a call meet its contract: the bytes are those of the law `written`, each number below the next power of 256.
use borrow.Author.Rules.{rules}
use Rattle.calls.proofs.Written.{written}
use Rattle.calls.proofs.ArrayU816FromCall.from.Goals as goal

pub returns : goal.returns
returns c = rw (c.to_le_bytes.ensures, c.to_le_bytes-2.ensures) (written c.args.call (search rules) (search rules))
