-- `empty` holds no block: each of its arrays is zeros, and what they hold is computed.
use Rattle.threads.proofs.Zeros.{zeros, none-held}
use Rattle.threads.proofs.empty.Goals as goal

pub returns : goal.returns
returns c =
    let (f, (b, (s, l))) = c.default.ensures in
    none-held _ (zeros _ _ f.long f.at) (zeros _ _ b.long b.at) (zeros _ _ s.long s.at) (zeros _ _ l.long l.at)
