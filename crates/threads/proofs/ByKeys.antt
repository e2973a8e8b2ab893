-- `enter` by an array of keys: the closure `|y| keys[usize::from(y)]` may be called where `enter` calls it, since the block that enters and those of its queue
-- are among the 41 cells; and what it answers follows the array. So `enter` asks no more than `Outside` of it, and the queue is by the keys of the array.
use mathlib.Core.List.{List}
use mathlib.Core.Logic.{⊎_elim}
use mathlib.Core.Path.{◌≡◌}
use Prim.Native.Nat.{ℕ, ◌≤◌}
use native.Mathlib.Omega.{arith}
use Rattle.std.specs.Prelude.{get_or, set}
use Rattle.words.specs.Words.{inserted_by}
use Rattle.words.proofs.Truth.{tested}
use Rattle.threads.specs.Threads.{BLOCKS, Outside, Member, Asked, Follows, Holds, queues_of, queue_in}
use Rattle.threads.specs.declared.Threads.{Threads}
use Rattle.threads.proofs.Lists.{count_past}
use Rattle.threads.proofs.Read.{node-fits, determined}

module _ {t : Threads} {q x : ℕ} (o : Outside t q x) (keys : List ℕ) where
  pub asked-fits : (y : ℕ) → Asked t q x y → y ≤ BLOCKS
  asked-fits y a =
      ⊎_elim (λ z. omega (arith, z.1, o.low))
      (λ z. let m : Member t q y = record { sound = o.sound; queue = o.queue; here = omega (arith, a, count_past x y (queue_in (queues_of t) q) z.1) } in
      omega (arith, node-fits m))
      (tested x y)

  abbrev pub Answers : ℕ → ℕ → Type 0
  Answers y key = key ≡ get_or keys y 0

  pub answers-follow : Follows t q x Answers (λ y. get_or keys y 0)
  answers-follow y key a e = e

  abbrev pub Entered : Threads → (ℕ → ℕ) → Type 0
  Entered r order = Holds r (set (queues_of t) q (inserted_by order x (queue_in (queues_of t) q)))

  -- what `enter` promises of this closure is the queue by the array
  pub entered : {r : Threads} → ((order : ℕ → ℕ) → Follows t q x Answers order → Entered r order) → Entered r (λ y. get_or keys y 0)
  entered promise = promise (λ y. get_or keys y 0) answers-follow

  pub entered-only : {r s : Threads} → Entered r (λ y. get_or keys y 0) → Entered s (λ y. get_or keys y 0) → r ≡ s
  entered-only p p' = determined p p'
