-- A number and its spelling are one: what is read of a number's spelling is the number; a spelling is plain; and plain digits are the spelling of what is read
-- of them, so that no number has two. By induction on the digits: the last stands behind the number without it.
use mathlib.Core.Bool.{Bool, true, false, true≢false, not, ◌&&◌, ◌||◌}
use mathlib.Core.Path.{◌≡◌, refl, sym, ◌∙◌, ap}
use mathlib.Core.Logic.{⊎_elim}
use mathlib.Core.List.{List, [], ◌∷◌, ◌++◌, append_assoc, append-nil}
use Prim.Native.Nat.{ℕ, zero, suc, ◌+◌, ◌-◌, ◌*◌, ◌/◌, ◌%◌, ◌^◌, ◌≤◌, ◌<◌}
use native.Mathlib.Nat.{eq-or-lt_of_le, pow-suc, one-le-pow, pow-le-pow_right, mod-lt, mod-eq_of_lt, div-add-mod'}
use native.Mathlib.Numerals.{unary_clauses}
use native.Mathlib.Omega.{arith}
use lib.Dec.{eqb, leb, ltb, lit<, lit≤}
use lib.ListN.{length, length-append, get_or}
use borrow.Author.Tests.{leb-true, leb-false, ltb-true, ltb-false, lt-ltb, le-ltb, le-leb, eqb-true, eqb-false, ne_eqb}
use Rattle.words.specs.Words.{all_of}
use Rattle.words.proofs.Truth.{and_left, and_right}
use Rattle.io.specs.Digits.{hex_digit_ascii, last_digits as digits, IsDigitCount}
use Rattle.text.specs.Decimals.{is_digit, all_digits, value_from, value_of, at_most, number_of, spelling_by, spelling, plain}
use Rattle.text.proofs.Digits.{empty}

-- ---- The two cases of a spelling.

one-by : (more n : ℕ) → n < 10 → spelling_by (suc more) n ≡ (48 + n) ∷ []
unfolding spelling_by
one-by more n h = rw (lt-ltb n 10 h)

last-by : (more n : ℕ) → 10 ≤ n → spelling_by (suc more) n ≡ spelling_by more (n / 10) ++ (48 + n % 10) ∷ []
unfolding spelling_by
last-by more n h = rw (le-ltb n 10 h)

-- more room for digits changes nothing
room : (t : Bool) (f g n : ℕ) → ltb n 10 ≡ t → n < f → n < g → spelling_by f n ≡ spelling_by g n
room t zero g n e h k = absurd (omega arith)
room t (suc f) zero n e h k = absurd (omega arith)
room true (suc f) (suc g) n e h k = one-by f n (ltb-true n 10 e) ∙ sym (one-by g n (ltb-true n 10 e))
room false (suc f) (suc g) n e h k =
    let big = ltb-false n 10 e in
    let whole = div-add-mod' n 10 in
    rw (last-by f n big, last-by g n big, room (ltb (n / 10) 10) f g (n / 10) refl (omega (arith, whole)) (omega (arith, whole))) refl

pub one-digit : (n : ℕ) → n < 10 → spelling n ≡ (48 + n) ∷ []
unfolding spelling
one-digit n h = one-by n n h

pub last-digit : (n : ℕ) → 10 ≤ n → spelling n ≡ spelling (n / 10) ++ (48 + n % 10) ∷ []
unfolding spelling
last-digit n h =
    let whole = div-add-mod' n 10 in
    last-by n n h ∙ ap (λ (l : List ℕ). l ++ (48 + n % 10) ∷ []) (room (ltb (n / 10) 10) n (suc (n / 10)) (n / 10) refl (omega (arith, whole)) (omega arith))

-- ---- What `io::decimal` spells: of j + 1 digits, where the first is not 0 unless it is the only one.

glyph-low : (d : ℕ) → d < 10 → hex_digit_ascii d ≡ 48 + d
glyph-low d h = rw (lt-ltb d 10 h)

spelled_by : (more n j : ℕ) → j ≤ more → n < 10 ^ suc j → (0 < j → 10 ^ j ≤ n) → digits 10 (suc j) n ≡ spelling_by (suc more) n
spelled_by more n zero enough low high =
    let small : n < 10 = omega (arith, low) in
    rw (one-by more n small, mod-eq_of_lt {n = n} {m = 10} small, glyph-low n small)
spelled_by zero n (suc i) enough low high = absurd (omega arith)
spelled_by (suc more) n (suc i) enough low high =
    let some = high (omega arith) in
    let ten = one-le-pow i 10 (lit< tt) in
    let tenfold = pow-suc 10 i in
    let whole = div-add-mod' n 10 in
    let rest = mod-lt n {m = 10} (lit< tt) in
    rw (
      last-by (suc more) n (omega (arith, some, ten, tenfold)),
      glyph-low (n % 10) rest,
      spelled_by more (n / 10) i (omega arith) (omega (arith, low, whole, pow-suc 10 (suc i))) (λ _. omega (arith, some, whole, rest, tenfold)),
    )

below_power : (j : ℕ) → j < 10 ^ j
below_power zero = lit< tt
below_power (suc j) = omega (arith, below_power j, pow-suc 10 j)

-- a number has at least as many as it has digits but one
enough : (n j : ℕ) → (0 < j → 10 ^ j ≤ n) → j ≤ n
enough n zero high = omega arith
enough n (suc j) high = omega (arith, high (omega arith), below_power (suc j))

pub spelled : (n k : ℕ) → IsDigitCount 10 1 n k → digits 10 k n ≡ spelling n
unfolding spelling
spelled n zero f = absurd (omega (arith, f.0))
spelled n (suc j) f =
    let high : 0 < j → 10 ^ j ≤ n = λ h. simp unary_clauses at (f.2 (omega (arith, h))) in
    spelled_by n n j (enough n j high) f.1 high

-- at most 20 digits hold a number of 64 bits
few-by : (n k : ℕ) → n < 2 ^ 64 → IsDigitCount 10 1 n k → (t : Bool) → leb k 20 ≡ t → k ≤ 20
few-by n k fits f true e = leb-true k 20 e
few-by n k fits f false e =
    let more = leb-false k 20 e in
    absurd (omega (arith, f.2 (omega arith), pow-le-pow_right {n = 10} (lit< tt) {i = 20} {j = k - 1} (omega arith)))

pub few : (n k : ℕ) → n < 2 ^ 64 → IsDigitCount 10 1 n k → k ≤ 20
few n k fits f = few-by n k fits f (leb k 20) refl

-- at most d + 1 digits spell a number below 10 ^ (d + 1)
within_by : (t : Bool) (d n : ℕ) → ltb n 10 ≡ t → n < 10 ^ suc d → length (spelling n) ≤ suc d
within_by t zero n e low = rw (one-digit n low) (lit≤ tt)
within_by true (suc d) n e low = rw (one-digit n (ltb-true n 10 e)) (omega arith)
within_by false (suc d) n e low =
    let whole = div-add-mod' n 10 in
    let fewer = within_by (ltb (n / 10) 10) d (n / 10) refl (omega (arith, low, whole, pow-suc 10 (suc d))) in
    rw (last-digit n (ltb-false n 10 e), length-append (spelling (n / 10)) ((48 + n % 10) ∷ [])) (omega (arith, fewer))

pub within : (d n : ℕ) → n < 10 ^ suc d → length (spelling n) ≤ suc d
within d n low = within_by (ltb n 10) d n refl low

-- at most 2 digits spell a number below 100, and at most 10 a number of 32 bits
pub short : (n : ℕ) → n < 100 → length (spelling n) ≤ 2
short n low = within 1 n low

pub short-word : (n : ℕ) → n < 2 ^ 32 → length (spelling n) ≤ 10
short-word n low = within 9 n (omega (arith, low))

-- ---- Read back.

value-behind : (v b : ℕ) (l : List ℕ) → value_from v (l ++ b ∷ []) ≡ value_from v l * 10 + (b - 48)
unfolding value_from
value-behind v b [] = refl
value-behind v b (a ∷ l) = value-behind (v * 10 + (a - 48)) b l

back_by : (t : Bool) (f n : ℕ) → ltb n 10 ≡ t → n < f → value_of (spelling_by f n) ≡ n
unfolding value_from
back_by t zero n e h = absurd (omega arith)
back_by true (suc f) n e h = rw (one-by f n (ltb-true n 10 e)) (omega arith)
back_by false (suc f) n e h =
    let whole = div-add-mod' n 10 in
    let before = back_by (ltb (n / 10) 10) f (n / 10) refl (omega (arith, whole, ltb-false n 10 e)) in
    rw (last-by f n (ltb-false n 10 e), value-behind 0 (48 + n % 10) (spelling_by f (n / 10)), before) (omega (arith, whole))

pub read_back : (n : ℕ) → value_of (spelling n) ≡ n
unfolding spelling
read_back n = back_by (ltb n 10) (suc n) n refl (omega arith)

-- ---- A spelling is plain.

digits-behind : (l : List ℕ) (b : ℕ) → all_of is_digit l ≡ true → is_digit b ≡ true → all_of is_digit (l ++ b ∷ []) ≡ true
unfolding all_of
digits-behind [] b all is = rw is refl
digits-behind (a ∷ l) b all is = rw (and_left (is_digit a) (all_of is_digit l) all, digits-behind l b (and_right (is_digit a) (all_of is_digit l) all) is) refl

digit-is : (d : ℕ) → d < 10 → is_digit (48 + d) ≡ true
digit-is d h = rw (le-leb 48 (48 + d) (omega arith), le-leb (48 + d) 57 (omega arith)) refl

digits-by : (t : Bool) (f n : ℕ) → ltb n 10 ≡ t → all_of is_digit (spelling_by f n) ≡ true
unfolding all_of spelling_by
digits-by t zero n e = refl
digits-by true (suc f) n e = rw (e, digit-is n (ltb-true n 10 e)) refl
digits-by false (suc f) n e = rw e (digits-behind (spelling_by f (n / 10)) (48 + n % 10) (digits-by (ltb (n / 10) 10) f (n / 10) refl) (digit-is (n % 10) (mod-lt n {m = 10} (lit< tt))))

-- it begins with a digit that is not 0, where the number is not
record Begins (l : List ℕ) : Type 0 where
  some : 0 < length l
  first : get_or l 0 0 ≡ 48 → ⊥

begins-behind : (l : List ℕ) (b : ℕ) → Begins l → Begins (l ++ b ∷ [])
begins-behind [] b h = absurd (omega (arith, h.some))
begins-behind (a ∷ l) b h = record { some = omega arith; first = h.first }

begins-by : (t : Bool) (f n : ℕ) → ltb n 10 ≡ t → 0 < n → n < f → Begins (spelling_by f n)
begins-by t zero n e some low = absurd (omega arith)
begins-by true (suc f) n e some low = rw (one-by f n (ltb-true n 10 e)) record { some = lit< tt; first = λ z. omega (arith, z) }
begins-by false (suc f) n e some low =
    let big = ltb-false n 10 e in
    let whole = div-add-mod' n 10 in
    let rest = mod-lt n {m = 10} (lit< tt) in
    rw (last-by f n big)
    (begins-behind (spelling_by f (n / 10)) (48 + n % 10) (begins-by (ltb (n / 10) 10) f (n / 10) refl (omega (arith, whole, rest)) (omega (arith, whole))))

or_right : (a b : Bool) → b ≡ true → (a || b) ≡ true
or_right true b e = refl
or_right false b e = e

pub spelling-plain : (n : ℕ) → plain (spelling n) ≡ true
unfolding plain all_digits all_of spelling spelling_by
spelling-plain zero = refl
spelling-plain (suc m) =
    let n = suc m in
    let l = spelling_by (suc n) n in
    let begins = begins-by (ltb n 10) (suc n) n refl (omega arith) (omega arith) in
    rw (
      lt-ltb 0 (length l) begins.some,
      digits-by (ltb n 10) (suc n) n refl,
      or_right (eqb (length l) 1) (not (eqb (get_or l 0 0) 48)) (rw (ne_eqb (get_or l 0 0) 48 begins.first) refl),
    ) refl

-- ---- Plain digits are the spelling of their value.

spelled-behind : (v b : ℕ) → 0 < v → is_digit b ≡ true → spelling (v * 10 + (b - 48)) ≡ spelling v ++ b ∷ []
spelled-behind v b some is =
    let low = leb-true 48 b (and_left (leb 48 b) (leb b 57) is) in
    let high = leb-true b 57 (and_right (leb 48 b) (leb b 57) is) in
    let n = v * 10 + (b - 48) in
    let front : n / 10 ≡ v = omega arith in
    let last : 48 + n % 10 ≡ b = omega arith in
    last-digit n (omega arith) ∙ rw (front, last) refl

spelled-from : (v : ℕ) (l : List ℕ) → 0 < v → all_of is_digit l ≡ true → spelling (value_from v l) ≡ spelling v ++ l
unfolding all_of value_from
spelled-from v [] some all = sym (append-nil (spelling v))
spelled-from v (b ∷ l) some all =
    let here = and_left (is_digit b) (all_of is_digit l) all in
    let rest = and_right (is_digit b) (all_of is_digit l) all in
    spelled-from (v * 10 + (b - 48)) l (omega arith) rest ∙ ap (λ (m : List ℕ). m ++ l) (spelled-behind v b some here) ∙ append_assoc (spelling v) (b ∷ []) l

either : (z o : Bool) → (z || not o) ≡ true → o ≡ true → z ≡ true
either true o h e = refl
either false true h e = h
either false false h e = e

spelled-where : (t : Bool) (b : ℕ) (l : List ℕ) → eqb b 48 ≡ t → all_of is_digit (b ∷ l) ≡ true → (t ≡ true → length l ≡ 0) → spelling (value_of (b ∷ l)) ≡ b ∷ l
unfolding all_of value_from
spelled-where true b l e all alone = rw (eqb-true b 48 e, empty l (alone refl)) (one-digit 0 (lit< tt))
spelled-where false b l e all alone =
    let here = and_left (is_digit b) (all_of is_digit l) all in
    let low = leb-true 48 b (and_left (leb 48 b) (leb b 57) here) in
    let high = leb-true b 57 (and_right (leb 48 b) (leb b 57) here) in
    let other = eqb-false b 48 e in
    let v = 0 * 10 + (b - 48) in
    let some : 48 < b = ⊎_elim (λ (z : 48 ≡ b). absurd (other (sym z))) (λ (h : 48 < b). h) (eq-or-lt_of_le low) in
    let same : 48 + v ≡ b = omega arith in
    spelled-from v l (omega arith) (and_right (is_digit b) (all_of is_digit l) all) ∙ rw (one-digit v (omega arith), same) refl

pub plain-spelled : (l : List ℕ) → plain l ≡ true → spelling (value_of l) ≡ l
unfolding plain all_digits
plain-spelled [] h = absurd (true≢false (sym h))
plain-spelled (b ∷ l) h =
    let digits = ltb 0 (suc (length l)) && all_of is_digit (b ∷ l) in
    let all = and_left digits (eqb (suc (length l)) 1 || not (eqb b 48)) h in
    let first = and_right digits (eqb (suc (length l)) 1 || not (eqb b 48)) h in
    spelled-where (eqb b 48) b l refl (and_right (ltb 0 (suc (length l))) (all_of is_digit (b ∷ l)) all)
    (λ e. omega (arith, eqb-true (suc (length l)) 1 (either (eqb (suc (length l)) 1) (eqb b 48) first e)))

-- ---- So a number is read from its spelling, and has one alone.

pub spelling-read : (n most : ℕ) → number_of (spelling n) most ≡ at_most n most
unfolding number_of plain
spelling-read n most = rw (and_left (all_digits (spelling n)) _ (spelling-plain n), read_back n) refl

pub one-spelling : (l m : List ℕ) → plain l ≡ true → plain m ≡ true → value_of l ≡ value_of m → l ≡ m
one-spelling l m p q same = sym (plain-spelled l p) ∙ ap (λ (n : ℕ). spelling n) same ∙ plain-spelled m q
