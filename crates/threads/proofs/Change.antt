-- One block x more at a place of one list: the code's stores make the pointers of the lists with x out of those of the lists without it, and back.
-- All lists stand in one row, `flat`, so that this is one number more between a part P of the row and the rest S, whatever the queue.
use mathlib.Core.Path.{◌≡◌, refl, sym, ap, ◌∙◌}
use mathlib.Core.List.{List, [], ◌∷◌, ◌++◌, map, append_assoc}
use Prim.Native.Nat.{ℕ, zero, suc, ◌≤◌}
use native.Mathlib.Omega.{arith}
use lib.ListN.{set, take, drop}
use lib.Seq.{map-set_same, append_snoc}
use borrow.Author.Tests.{ne_eqb}
use Rattle.threads.specs.declared.Threads.{Threads}
use Rattle.threads.specs.Threads.{hd, lst, after, before, count, row, threaded}
use Rattle.threads.specs.Joints.{put, put_end, joined}
use Rattle.threads.proofs.Lists.{lst-append}
use Rattle.threads.proofs.Rows.{stored, put_some}
use Rattle.threads.proofs.Flat.{flat, count-flat, lst-flat, flat-set, hd-row, fwd-row, back-row}
use Rattle.threads.proofs.Links as links
use Rattle.threads.proofs.Links.{Spliced}
use Rattle.threads.proofs.Laws.{Spot, first_block, last_block, onward, inside, self, sides, nowhere}

-- x at a place of the list q: `bare` are the lists without it, and `full` those with it
pub record Gap (bare full : List (List ℕ)) (q : ℕ) (A B : List ℕ) (x : ℕ) : Type 0 where
  pub without : Spot bare q A B
  pub within : Spot full q A (x ∷ B)
  pub filled : full ≡ set bare q (A ++ x ∷ B)
  pub emptied : bare ≡ set full q (A ++ B)

-- what `remove` stores
unfoldable pub unlinked : Threads → ℕ → ℕ → ℕ → ℕ → Threads
unlinked t q p x s =
    let u = joined t q p s in
    record { fwd = set u.fwd x 0; back = set u.back x 0; first = u.first; last = u.last }

-- ---- The ends of a list: its first where what is behind a place becomes C, and its last where what is before it does.

map-set : {A : Type 0} (f : List ℕ → A) (ls : List (List ℕ)) (q : ℕ) (l : List ℕ) → map f (set ls q l) ≡ set (map f ls) q (f l)
map-set f [] q l = refl
map-set f (m ∷ ls) zero l = refl
map-set {A = A} f (m ∷ ls) (suc q) l = ap (λ (r : List A). f m ∷ r) (map-set f ls q l)

put_end-some : (i : ℕ) (a : List ℕ) (q v : ℕ) → 1 ≤ i → put_end i a q v ≡ a
unfolding put_end
put_end-some i a q v h = rw (ne_eqb i 0 (omega arith))

firsts : {ls : List (List ℕ)} {q : ℕ} {A B : List ℕ} → Spot ls q A B → (C : List ℕ) → put_end (lst 0 A) (map hd ls) q (hd C) ≡ map hd (set ls q (A ++ C))
unfolding put_end
firsts {ls} {q} {A = []} s C = sym (map-set hd ls q C)
firsts {ls} {q} {A = a ∷ A} s C =
    put_end-some (lst a A) (map hd ls) q (hd C) (last_block a A (sides s).0).0
    ∙ sym (map-set_same hd ls q (a ∷ A ++ C) [] (ap hd (sym s.split)))

lasts : {ls : List (List ℕ)} {q : ℕ} {A B : List ℕ} → Spot ls q A B → (C : List ℕ) → put_end (hd B) (map (lst 0) ls) q (lst 0 C) ≡ map (lst 0) (set ls q (C ++ B))
unfolding put_end
lasts {ls} {q} {B = []} s C = sym (map-set (lst 0) ls q (C ++ []) ∙ ap (set (map (lst 0) ls) q) (lst-append 0 C []))
lasts {ls} {q} {A} {B = b ∷ B} s C =
    put_end-some b (map (lst 0) ls) q (lst 0 C) (first_block b B (sides s).1).0
    ∙ sym (map-set_same (lst 0) ls q (C ++ b ∷ B) [] (lst-append 0 C (b ∷ B) ∙ sym (lst-append 0 A (b ∷ B)) ∙ ap (lst 0) (sym s.split)))

-- ---- The links in the row of all lists.

module _ {bare full : List (List ℕ)} {q : ℕ} {A B : List ℕ} {x : ℕ} (g : Gap bare full q A B x) where
  abbrev P : List ℕ
  P = flat (take q bare) ++ A

  abbrev S : List ℕ
  S = B ++ 0 ∷ flat (drop (suc q) bare)

  row-bare : flat bare ≡ P ++ S
  row-bare = ap flat (sym (self g.without)) ∙ flat-set bare q (A ++ B) (inside g.without) ∙ simp append_assoc

  row-full : flat full ≡ P ++ x ∷ S
  row-full = ap flat g.filled ∙ flat-set bare q (A ++ x ∷ B) (inside g.without) ∙ simp append_assoc

  lst-row : lst 0 P ≡ lst 0 A
  lst-row = lst-append 0 (flat (take q bare)) A ∙ ap (λ (p : ℕ). lst p A) (lst-flat (take q bare))

  some : 1 ≤ x
  some = (first_block x B (sides g.within).1).0

  none : count x (P ++ S) ≡ 0
  none = rw (← row-bare) (count-flat x bare some ∙ rw g.emptied (nowhere g.within))

  once : (y : ℕ) → 1 ≤ y → count y (P ++ S) ≤ 1
  once y h = rw (← row-bare, count-flat y bare h) (g.without.apart.once y)

  pub forward : Spliced (after (flat bare)) (after (flat full)) (lst 0 A) x (hd B)
  forward = rw (row-bare, row-full, ← lst-row, ← hd-row B (flat (drop (suc q) bare))) (links.forward P S x none once)

  pub backward : Spliced (before 0 (flat bare)) (before 0 (flat full)) (hd B) x (lst 0 A)
  backward = rw (row-bare, row-full, ← lst-row, ← hd-row B (flat (drop (suc q) bare))) (links.backward P S x none once)

-- ---- The stores. Those that put x in come forward in the one order, and back in the other.

module _ {f g : ℕ → ℕ} {p x s : ℕ} (c : Spliced f g p x s) where
  put_in : put (put (row f) p x) x s ≡ row g
  put_in = stored f g p x x s c.into (λ _. c.out) (λ y _ m n. c.other y n m)

  put-in' : put (put (row f) x s) p x ≡ row g
  put-in' = stored f g x s p x (λ _. c.out) c.into (λ y _ n m. c.other y n m)

  take_out : 1 ≤ x → set (put (row g) p s) x 0 ≡ row f
  take_out h = sym (put_some _ x 0 h) ∙ stored g f p s x 0 c.over (λ _. c.none) (λ y _ m n. sym (c.other y n m))

module _ {bare full : List (List ℕ)} {q : ℕ} {A B : List ℕ} {x : ℕ} (g : Gap bare full q A B x) where
  pub in-law : joined (joined (threaded bare) q (lst 0 A) x) q x (hd B) ≡ threaded full
  unfolding joined threaded
  in-law =
      let first = put_end-some x _ q (hd B) (some g) ∙ firsts g.without (x ∷ B) ∙ ap (map hd) (sym g.filled) in
      let last =
      ap (λ (a : List ℕ). put_end (hd B) a q x) (put_end-some x _ q (lst 0 A) (some g))
      ∙ (rw (lst-append, append_snoc A x B) at (lasts g.without (A ++ (x ∷ [])))) ∙ ap (map (lst 0)) (sym g.filled) in
      let fwd = ap (λ (a : List ℕ). put (put a (lst 0 A) x) x (hd B)) (fwd-row bare) ∙ put_in (forward g) ∙ sym (fwd-row full) in
      let back = ap (λ (a : List ℕ). put (put a x (lst 0 A)) (hd B) x) (back-row bare) ∙ put-in' (backward g) ∙ sym (back-row full) in
      λ i. record { fwd = fwd i; back = back i; first = first i; last = last i }

  pub out-law : unlinked (threaded full) q (lst 0 A) x (hd B) ≡ threaded bare
  unfolding unlinked joined threaded
  out-law =
      let first = firsts g.within B ∙ ap (map hd) (sym g.emptied) in
      let last = lasts (onward g.within) A ∙ ap (map (lst 0)) (sym g.emptied) in
      let fwd = ap (λ (a : List ℕ). set (put a (lst 0 A) (hd B)) x 0) (fwd-row full) ∙ take_out (forward g) (some g) ∙ sym (fwd-row bare) in
      let back = ap (λ (a : List ℕ). set (put a (hd B) (lst 0 A)) x 0) (back-row full) ∙ take_out (backward g) (some g) ∙ sym (back-row bare) in
      λ i. record { fwd = fwd i; back = back i; first = first i; last = last i }
