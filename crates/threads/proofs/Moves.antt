-- What the code's stores at a place make of sound pointers: the lists with a block more at that place, or with the block behind it gone.
use mathlib.Core.Path.{◌≡◌, refl, ap, ◌∙◌}
use mathlib.Core.List.{List, [], ◌∷◌, ◌++◌}
use Prim.Native.Nat.{ℕ}
use lib.ListN.{set}
use Rattle.threads.specs.declared.Threads.{Threads}
use Rattle.threads.specs.Threads.{hd, lst, threaded, Apart, queues_of, Holds, Outside}
use Rattle.threads.specs.Joints.{joined}
use Rattle.threads.proofs.Laws.{restored, more, less}
use Rattle.threads.proofs.Change.{Gap, unlinked, in-law, out-law}
use Rattle.threads.proofs.Read.{sound, gap}
use Rattle.threads.proofs.Places.{Place}

holds : (ls : List (List ℕ)) → Apart ls → (t : Threads) → t ≡ threaded ls → Holds t ls
holds ls a t e = let (s, l) = sound ls a t e in record { sound = s; lists = l }

pub entered : {t : Threads} {q : ℕ} {A B : List ℕ} {p x s : ℕ} → Place t q A B p s → Outside t q x
    → (r : Threads) → r ≡ joined (joined t q p x) q x s → Holds r (set (queues_of t) q (A ++ x ∷ B))
entered {t} {q} {A} {B} {p} {x} {s} w f r k =
    let m = more w.spot f.none f.some f.low in
    let g : Gap (queues_of t) (set (queues_of t) q (A ++ x ∷ B)) q A B x =
    record { without = w.spot; within = m; filled = refl; emptied = restored w.spot (A ++ x ∷ B) } in
    holds _ m.apart r
    (k ∙ rw (w.left, w.right) (ap (λ (u : Threads). joined (joined u q (lst 0 A) x) q x (hd B)) w.sound.canon ∙ in-law g))

pub taken : {t : Threads} {q : ℕ} {A B : List ℕ} {p x s : ℕ} → Place t q A (x ∷ B) p x → Place t q (A ++ (x ∷ [])) B x s
    → (r : Threads) → r ≡ unlinked t q p x s → Holds r (set (queues_of t) q (A ++ B))
taken {t} {q} {A} {B} {p} {x} {s} w v r k =
    holds _ (less w.spot).apart r
    (k ∙ rw (w.left, v.right) (ap (λ (u : Threads). unlinked u q (lst 0 A) x (hd B)) w.sound.canon ∙ out-law (gap w.spot)))
