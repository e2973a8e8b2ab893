-- Whether a task has requests pending: looked for behind the first of the request blocks' slots, which is no block.
use mathlib.Core.Bool.{Bool, ◌||◌, ◌&&◌}
use mathlib.Core.Path.{◌≡◌, ap, ◌∙◌}
use mathlib.Core.List.{List, [], ◌∷◌}
use Prim.Native.Nat.{ℕ, ◌-◌}
use native.Mathlib.Omega.{arith}
use lib.ListN.{length, take, drop}
use lib.Seq.{take_all}
use lib.Dec.{eqb}
use Rattle.std.specs.List.{list_any}
use Rattle.tables.specs.declared.Request.{Request}
use Rattle.tables.specs.Blocks.{no_request}
use Rattle.tables.specs.State.{State, with_requests}
use Rattle.meaning.specs.Finish.{pending_of, pending}
use Rattle.blocks.proofs.Some.{some_rest}

module _ (s : State) (k : ℕ) where
  -- the test of the code
  abbrev pub waited : Request → Bool
  waited q = eqb q.owner k && (eqb q.place 1 || eqb q.place 2)

  found : (a : Request) (l : List Request) → length l ≡ 16 → list_any waited l ≡ pending (with_requests s (a ∷ l)) k
  unfolding pending pending_of
  found a l h = some_rest waited no_request a l ∙ rw h

  found-in : (l : List Request) → length l ≡ 17 → list_any waited (take (length l - 1) (drop 1 l)) ≡ pending (with_requests s l) k
  found-in [] h = absurd (omega (arith, h))
  found-in (a ∷ l) h =
      let e : length (a ∷ l) - 1 ≡ length l = omega arith in
      ap (λ (m : List Request). list_any waited m) (ap (λ (n : ℕ). take n l) e ∙ take_all (length l) l (omega arith)) ∙ found a l (omega (arith, h))

  pub pending-found : length s.requests ≡ 17 → list_any waited (take (length s.requests - 1) (drop 1 s.requests)) ≡ pending s k
  pending-found h = found-in s.requests h
