-- The tests of one request block, and what `Carried` says of it: each test is one field, and back.
use mathlib.Core.Bool.{Bool, true, not, ◌&&◌, ◌||◌}
use mathlib.Core.Path.{◌≡◌, ap, ◌∙◌}
use mathlib.Core.Logic.{◌≢◌, ⊎_elim}
use mathlib.Core.List.{[]}
use Prim.Native.Nat.{ℕ, ◌≤◌}
use native.Mathlib.Omega.{arith}
use lib.ListN.{length}
use lib.Dec.{eqb, leb}
use borrow.Author.Tests.{eqb-true, eq-eqb, leb-true, le-leb}
use Rattle.threads.specs.Threads.{Apart, QUEUES}
use Rattle.words.proofs.Truth.{tested, both, and-of, implied, of-implied, not-eq, unlike}
use Rattle.words.specs.Words.{◌implies◌}
use Rattle.tables.specs.declared.Task.{Task}
use Rattle.tables.specs.declared.Request.{Request}
use Rattle.tables.specs.Blocks.{Free, no_task, task_blocks}
use Rattle.tables.specs.State.{State, channel_queue, task_at, request_at}
use Rattle.meaning.specs.Rules.{blank_request}
use Rattle.meaning.proofs.Parts.{request_range, request_stands, request_free, request_clear, request-range, request-in-range}
use Rattle.lawful.specs.Shape.{Carried}
use Rattle.lawful.proofs.Blocks.Shape.{rest-place}
use Rattle.threads.proofs.Tests.{set-of, of-set}
use Rattle.meaning.proofs.Blanks.{request-blank, of-request-blank}
use Rattle.lawful.proofs.Tested.PlaceRules.{channel-others, channel-own, request-placed, only-channel, of-request-placed}

-- "a used request's owner is a used task", of one block
abbrev pub owned_at : State → ℕ → Bool
owned_at s r = not (eqb (request_at s r).place Free) implies not (eqb (task_at s (request_at s r).owner).place Free)

-- what a used request has in range
abbrev used_good : State → ℕ → Bool
used_good s r = leb (request_at s r).device 249 && (eqb (request_at s r).command 13 || eqb (request_at s r).command 14) && leb 1 (request_at s r).bytes

two-codes : (c : ℕ) → (eqb c 13 || eqb c 14) ≡ true → (13 ≤ c) × (c ≤ 14)
two-codes c e = ⊎_elim (λ z. omega (arith, z.1)) (λ z. let w = eqb-true c 14 (rw z.0 at e) in omega (arith, w)) (tested c 13)

of-two-codes : (c : ℕ) → 13 ≤ c → c ≤ 14 → (eqb c 13 || eqb c 14) ≡ true
of-two-codes c a b = ⊎_elim (λ z. rw z.0) (λ z. rw (z.0, eq-eqb c 14 (omega (arith, a, b, z.1)))) (tested c 13)

module _ (s : State) (r : ℕ) (no-task : task_at s 0 ≡ no_task) (u : Apart s.queues) (g : request_range s r ≡ true) (c : request_clear s r ≡ true)
    (p : request_stands s r ≡ true) (f : request_free s r ≡ true) (o : owned_at s r ≡ true) where
  used-owner : 1 ≤ (request_at s r).place → (task_at s (request_at s r).owner).place ≢ Free
  used-owner z =
      unlike _ _ (implied (not (eqb (request_at s r).place Free)) (not (eqb (task_at s (request_at s r).owner).place Free)) o (not-eq (request_at s r).place Free (λ i. omega (arith, i, z))))

  owner-some : 1 ≤ (request_at s r).place → 1 ≤ (request_at s r).owner
  owner-some z =
      ⊎_elim (λ w. absurd (used-owner z (ap (λ (k : ℕ). (task_at s k).place) w.1 ∙ ap (λ (t : Task). t.place) no-task))) (λ w. omega (arith, w.1)) (tested (request_at s r).owner 0)

  pub carried_of : Carried s [] r
  carried_of =
      let q = request_at s r in
      let a = request-range (request_at s r) g in
      let w : 1 ≤ (request_at s r).place → used_good s r ≡ true = λ z. implied (not (eqb (request_at s r).place Free)) (used_good s r) a.used (not-eq (request_at s r).place Free (λ i. omega (arith, i, z))) in
      let l = request-placed s r u p in
      record {
        kind = leb-true q.place 3 a.place;
        free = λ z. request-blank q (implied (eqb q.place Free) (blank_request q) c (eq-eqb _ _ z));
        used = λ z.
            let d = both (leb q.device 249 && (eqb q.command 13 || eqb q.command 14)) (leb 1 q.bytes) (w z) in
            let e = both (leb q.device 249) (eqb q.command 13 || eqb q.command 14) d.0 in
            let k = two-codes q.command e.1 in
            (owner-some z, leb-true q.owner 24 a.owner, leb-true _ _ e.0, k.0, k.1, leb-true _ _ d.1);
        owned = λ z. rw (rest-place s q.owner) (used-owner z);
        others = λ i n. l.0.only i (omega (arith, n)) ∙ channel-others q.place i n;
        queued = l.0.only channel_queue (omega arith) ∙ channel-own q.place;
        runs = l.1;
        free_requests = set-of s.free_requests q.place Free r f;
      }

-- ---- And back.
module _ (s : State) (r : ℕ) (w : Carried s [] r) where
  some : (request_at s r).place ≢ Free → 1 ≤ (request_at s r).place
  some n = omega (arith, n)

  -- a free one has no owner
  pub of-owner-low : (request_at s r).owner ≤ task_blocks
  of-owner-low = ⊎_elim (λ z. omega (arith, ap (λ (q : Request). q.owner) (w.free z.1))) (λ z. (w.used (some z.1)).1) (tested (request_at s r).place 0)

  pub of-request-range : request_range s r ≡ true
  of-request-range =
      let q = request_at s r in
      request-in-range q (record {
        place = le-leb q.place 3 w.kind;
        owner = le-leb q.owner 24 of-owner-low;
        used =
            of-implied (not (eqb q.place Free)) (used_good s r) (λ z.
            let v = w.used (some (unlike _ _ z)) in
            and-of _ _ (and-of _ _ (le-leb q.device 249 v.2) (of-two-codes q.command v.3 v.4)) (le-leb 1 q.bytes v.5));
      })

  pub of-request-clear : request_clear s r ≡ true
  of-request-clear =
      let q = request_at s r in
      of-implied (eqb q.place Free) (blank_request q) (λ z. of-request-blank (w.free (eqb-true q.place 0 z)))

  pub of-carried : length s.queues ≡ QUEUES → request_stands s r ≡ true
  of-carried n = of-request-placed s r n (only-channel s r w.others w.queued) w.runs

  pub of-free_requests : request_free s r ≡ true
  of-free_requests = of-set s.free_requests (request_at s r).place Free r w.free_requests

  pub of-owned : owned_at s r ≡ true
  of-owned =
      of-implied (not (eqb (request_at s r).place Free)) (not (eqb (task_at s (request_at s r).owner).place Free))
      (λ z. not-eq _ _ (λ i. w.owned (some (unlike _ _ z)) (rest-place s (request_at s r).owner ∙ i)))
