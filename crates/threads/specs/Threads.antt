-- What a `Threads` means: a list of blocks for each queue, front first. `threaded` makes the pointers of such lists, `queues_of` reads the
-- lists off pointers, and `Sound` says that the two agree. Document 01: "Task and request blocks carry a forward and a back pointer for the
-- queue they are on."
use Rattle.std.specs.Prelude.{◌≡◌, List, [], ◌∷◌, map, ℕ, zero, suc, ◌+◌, ◌≤◌, ◌<◌, length, get_or, eqb, if◌then◌else◌}
use Rattle.words.specs.Words.{◌among◌}
use Rattle.threads.specs.declared.Threads.{Threads}

-- how many queues and how many blocks. The blocks are 1 to BLOCKS, and 0 is no block
abbrev pub QUEUES : ℕ
QUEUES = 9

-- what stands for the queue of a block that is in none
abbrev pub no_queue : ℕ
no_queue = QUEUES

abbrev pub BLOCKS : ℕ
BLOCKS = 40

-- ---- The pointers of lists.

-- the first of a list, or 0
abbrev pub hd : List ℕ → ℕ
hd [] = 0
hd (a ∷ l) = a

-- the last of a list, or p
abbrev pub lst : ℕ → List ℕ → ℕ
lst p [] = p
lst p (a ∷ l) = lst a l

-- the number that stands after y, or 0
unfoldable pub after : List ℕ → ℕ → ℕ
after [] y = 0
after (a ∷ l) y = if eqb a y then hd l else after l y

-- the number that stands before y, where p stands before the list; or 0
unfoldable pub before : ℕ → List ℕ → ℕ → ℕ
before p [] y = 0
before p (a ∷ l) y = if eqb a y then p else before a l y

-- the list that y is in; none where it is in none
unfoldable pub list_of : ℕ → List (List ℕ) → List ℕ
list_of y [] = []
list_of y (l ∷ ls) = if y among l then l else list_of y ls

-- f 0, .., f (n - 1); and an array with a cell for each block, f y at the block y, and 0 at 0
unfoldable pub tab : ℕ → (ℕ → ℕ) → List ℕ
tab zero f = []
tab (suc n) f = f 0 ∷ tab n (λ i. f (suc i))

unfoldable pub row : (ℕ → ℕ) → List ℕ
row f = 0 ∷ tab BLOCKS (λ y. f (suc y))

-- the pointers of lists: of each block, the one behind it and the one before it in the list that it is in; of each list, its first and its last
unfoldable pub threaded : List (List ℕ) → Threads
threaded ls =
    record { fwd = row (λ y. after (list_of y ls) y); back = row (λ y. before 0 (list_of y ls) y); first = map hd ls; last = map (lst 0) ls }

-- ---- The lists of pointers.

-- the blocks from y on along the pointers forward, to a 0; at most n of them, for pointers that go round
unfoldable pub walk : List ℕ → ℕ → ℕ → List ℕ
walk fwd zero y = []
walk fwd (suc n) y = if eqb y 0 then [] else y ∷ walk fwd n (get_or fwd y 0)

unfoldable pub queues_of : Threads → List (List ℕ)
queues_of t = map (walk t.fwd (suc BLOCKS)) t.first

-- ---- What is asked, and what is promised.

-- how often y stands in a list, and in lists
unfoldable pub count : ℕ → List ℕ → ℕ
count y [] = 0
count y (a ∷ l) = (if eqb a y then 1 else 0) + count y l

unfoldable pub counts : ℕ → List (List ℕ) → ℕ
counts y [] = 0
counts y (l ∷ ls) = count y l + counts y ls

-- a list for each queue, of blocks, no block in them twice
pub record Apart (ls : List (List ℕ)) : Type 0 where
  pub nine : length ls ≡ QUEUES
  pub once : (y : ℕ) → counts y ls ≤ 1
  pub inside : (y : ℕ) → 1 ≤ counts y ls → (1 ≤ y) × (y ≤ BLOCKS)

-- t is the pointers of such lists
pub record Sound (t : Threads) : Type 0 where
  pub apart : Apart (queues_of t)
  pub canon : t ≡ threaded (queues_of t)

-- l without x
unfoldable pub without : ℕ → List ℕ → List ℕ
without x [] = []
without x (a ∷ l) = if eqb a x then l else a ∷ without x l

-- ==== Inside: words for contracts below the public face. What the executive, its library and the demands claim does not rest on them.

-- t is sound, and ls are its lists: what a function promises of its result, which leaves one result alone (proofs/Unique.antt)
pub record Holds (t : Threads) (ls : List (List ℕ)) : Type 0 where
  pub sound : Sound t
  pub lists : queues_of t ≡ ls

-- the list of the queue q
abbrev pub queue_in : List (List ℕ) → ℕ → List ℕ
queue_in ls q = get_or ls q []

-- t is sound, q is a queue, and x is a block of no queue: what a function that puts x into q asks
pub record Outside (t : Threads) (q x : ℕ) : Type 0 where
  pub sound : Sound t
  pub queue : q < QUEUES
  pub some : 1 ≤ x
  pub low : x ≤ BLOCKS
  pub none : counts x (queues_of t) ≡ 0

-- t is sound, q is a queue, and x is in it: what a function that takes x out of q asks
pub record Member (t : Threads) (q x : ℕ) : Type 0 where
  pub sound : Sound t
  pub queue : q < QUEUES
  pub here : 1 ≤ count x (get_or (queues_of t) q [])

-- l with x before b
unfoldable pub insert_before : ℕ → ℕ → List ℕ → List ℕ
insert_before b x [] = []
insert_before b x (a ∷ l) = if eqb a b then x ∷ a ∷ l else a ∷ insert_before b x l

-- y is asked for its key when x enters the queue q: it is x, or stands in q
abbrev pub Asked : Threads → ℕ → ℕ → ℕ → Type 0
Asked t q x y = 1 ≤ count y (x ∷ queue_in (queues_of t) q)

-- what those that are asked answer is what `order` gives
abbrev pub Follows : Threads → ℕ → ℕ → (ℕ → ℕ → Type 0) → (ℕ → ℕ) → Type 0
Follows t q x Answers order = (y key : ℕ) → Asked t q x y → Answers y key → key ≡ order y
