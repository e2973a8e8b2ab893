-- What can be said of reads until a buffer is full: how many bytes of it may be looked at, and that a failure leaves it short.
use Rattle.std.specs.Prelude.{List, ◌≡◌, ℕ, ◌≤◌, ◌<◌, length, take, Result, MatchResult}
use Rattle.pipes.specs.declared.Short.{Short}

-- `&xs[..n]` is within bounds, and has n bytes
abbrev pub IsPrefixLen : ℕ → List ℕ → Type 0
IsPrefixLen n xs = (n ≤ length xs) × (n ≡ length (take n xs))

-- so many bytes of the buffer came, and fewer than it has room for where a read failed
abbrev pub Filled : Result ℕ Short → List ℕ → Type 0
Filled r xs = MatchResult r (λ n. IsPrefixLen n xs) (λ e. IsPrefixLen e.count xs × (e.count < length xs))
