-- ==== Inside: words for contracts below the public face. What the executive, its library and the demands claim does not rest on them.
-- What the code stores, cell by cell. The contracts of the functions inside cite it, and no public one does.
use Rattle.std.specs.Prelude.{List, ℕ, set, eqb, if◌then◌else◌}
use Rattle.threads.specs.declared.Threads.{Threads}

-- v stored at the block i, in an array by block; and at the queue q, in an array by queue, where i is 0
unfoldable pub put : List ℕ → ℕ → ℕ → List ℕ
put a i v = if eqb i 0 then a else set a i v

unfoldable pub put_end : ℕ → List ℕ → ℕ → ℕ → List ℕ
put_end i a q v = if eqb i 0 then set a q v else a

-- s made the block behind p in the queue q
unfoldable pub joined : Threads → ℕ → ℕ → ℕ → Threads
joined t q p s =
    record {
      fwd = put t.fwd p s;
      back = put t.back s p;
      first = put_end p t.first q s;
      last = put_end s t.last q p;
    }
