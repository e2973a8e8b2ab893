-- Arrays of zeros: a list of which each element is 0, and what pointers that are all 0 hold.
use mathlib.Core.Path.{◌≡◌, sym, ◌∙◌}
use mathlib.Core.List.{List, []}
use Prim.Native.Nat.{ℕ, ◌<◌}
use lib.ListN.{length, get_or, replicate, length-replicate, get_or-replicate}
use lib.Seq.{ext_get_or}
use borrow.Author.Rules.{rules}
use Rattle.words.specs.Words.{◌among◌}
use Rattle.threads.specs.declared.Threads.{Threads}
use Rattle.threads.specs.Threads.{QUEUES, Holds, after, before, list_of, tab, row, threaded, walk, queues_of, count, counts}

pub zeros : (n : ℕ) (l : List ℕ) → length l ≡ n → ((i d : ℕ) → i < n → get_or l i d ≡ 0) → l ≡ replicate n 0
zeros n l s z =
    ext_get_or 0 l (replicate n 0) (s ∙ sym (length-replicate n 0)) (λ i h. z i 0 (rw (← s) h) ∙ sym (get_or-replicate n i 0 0 (rw (← s) h)))

none-computed : Holds (record { fwd = replicate 41 0; back = replicate 41 0; first = replicate QUEUES 0; last = replicate QUEUES 0 }) (replicate QUEUES [])
unfolding queues_of counts count walk threaded row tab after before list_of ◌among◌
none-computed = search rules

pub none-held : (t : Threads) → t.fwd ≡ replicate 41 0 → t.back ≡ replicate 41 0 → t.first ≡ replicate QUEUES 0 → t.last ≡ replicate QUEUES 0
    → Holds t (replicate QUEUES [])
none-held t f b s l = rw (f, b, s, l) none-computed
