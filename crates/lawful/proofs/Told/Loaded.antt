-- The tables of an image that loads have the lengths of their types, whatever its directory is. That they are lawful follows, since they pass the rules
-- (`meaning`'s Loaded).
use mathlib.Core.Path.{◌≡◌, refl, sym, ◌∙◌}
use mathlib.Core.List.{List}
use Prim.Native.Nat.{ℕ, zero, suc, ◌^◌, ◌<◌}
use native.Mathlib.Omega.{arith}
use lib.ListN.{get_or, replicate}
use borrow.Author.Tests.{eq-eqb}
use Rattle.threads.specs.Threads.{threaded, tab, list_of}
use Rattle.image.specs.declared.Directory.{Directory}
use Rattle.answers.specs.Answer.{refusal_of}
use Rattle.image.specs.Load.{directory_of, load_of}
use Rattle.image.proofs.Loads.{load-accepted, check-is-load}
use Rattle.tables.specs.State.{loaded, tabled}
use Rattle.meaning.specs.Step.{tables_of}
use Rattle.lawful.specs.Tables.{Typed}

zeros : (n i : ℕ) → get_or (replicate n 0) i 0 < 2 ^ 64
zeros zero i = omega arith
zeros (suc n) zero = omega arith
zeros (suc n) (suc i) = zeros n i

typed : (b : ℕ) (d : Directory) → Typed (tabled (loaded b d))
unfolding loaded threaded tab list_of
typed b d = record { tasks = refl; requests = refl; pools = refl; queues = refl; low = zeros 4 }

pub loads-typed : (b : ℕ) (image : List ℕ) → refusal_of (load_of image).outcome ≡ 0 → Typed (tables_of b image)
unfolding tables_of
loads-typed b image e = rw (eq-eqb _ _ e, load-accepted image (sym (check-is-load image) ∙ e)) (typed b (directory_of image))
