-- What the shape of a state gives: a task block's program and a request block's owner are in range. A free block's are 0.
use mathlib.Core.Logic.{⊎_elim}
use mathlib.Core.List.{List}
use Prim.Native.Nat.{ℕ, ◌≤◌, ◌<◌}
use native.Mathlib.Omega.{arith}
use Rattle.words.proofs.Truth.{tested}
use Rattle.tables.specs.Blocks.{Free, task_blocks, request_blocks}
use Rattle.tables.specs.State.{State, request_at, task_at}
use Rattle.lawful.specs.Shape.{place_of, Shape}

module _ {s : State} {h : List ℕ} {e : ℕ} (g : Shape s h e) where
  -- a task block has a program of the directory's array, and a request block has an owner that is a task block or none
  pub program-low : (k : ℕ) → k ≤ task_blocks → (task_at s k).program < 32
  program-low k l =
      ⊎_elim (λ z. rw (z.1, g.blank.block) (omega arith))
      (λ z.
      let f = (g.tasks k (omega (arith, z.1)) l).fields in
      ⊎_elim (λ y. rw (f.free y.1) (omega arith)) (λ y. omega (arith, f.program y.1, g.directory.modules)) (tested (place_of s h k) Free))
      (tested k 0)

  pub owner-low : (r : ℕ) → r ≤ request_blocks → (request_at s r).owner ≤ task_blocks
  owner-low r l =
      ⊎_elim (λ z. rw (z.1, g.blank.request) (omega arith))
      (λ z.
      let w = g.requests r (omega (arith, z.1)) l in
      ⊎_elim (λ y. rw (w.free y.1) (omega arith)) (λ y. omega (arith, (w.used (omega (arith, y.1))).1)) (tested (request_at s r).place 0))
      (tested r 0)
