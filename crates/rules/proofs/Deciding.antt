-- The first pass decides the rules over blocks: where it passes, each of them holds, and where all rules hold, it passes. Its tests, and those of one
-- block, are cited by their names.
use mathlib.Core.Bool.{Bool, true, not}
use mathlib.Core.Path.{◌≡◌, sym, ap, ◌∙◌}
use mathlib.Core.Logic.{⊎_elim}
use Prim.Native.Nat.{ℕ, ◌≤◌}
use native.Mathlib.Omega.{arith}
use lib.Bits.{bit_and}
use lib.Dec.{eqb, leb}
use borrow.Author.Tests.{leb-true, le-leb}
use Rattle.words.proofs.Truth.{tested, not-not, and-of, both, same_bool}
use Rattle.words.specs.Words.{◌implies◌, one_to, some_of, has, all_true}
use Rattle.tables.specs.Blocks.{Free, InCheck, Ending, task_blocks, request_blocks}
use Rattle.tables.specs.State.{State, task_at, request_at}
use Rattle.meaning.specs.Conditions.{undefined_in}
use Rattle.meaning.specs.Ready.{needs_core}
use Rattle.meaning.specs.Finish.{pending_of, pending}
use Rattle.meaning.specs.Rules as rules
use Rattle.meaning.specs.Rules.{blank_task}
use Rattle.words.proofs.Named.{Given, by_name}
use Rattle.meaning.proofs.Rules.{KeepsEach}
use Rattle.meaning.proofs.Parts.{task_range, request_range, task_stands, request_stands, task_free, request_free, task_clear, request_clear, ranges, in-range, sets, free-sets, clears, all-clear, request-range}
use Rattle.fields.specs.Blocks.{waiter_right, pends, used_by, task_passes, request_passes, first_tests, first_pass}
use Rattle.threads.proofs.Tests.{all-to, to-all}
use Rattle.meaning.proofs.Blanks.{task-blank}
use Rattle.lawful.proofs.Tested.TaskRules.{needed_at}
use Rattle.lawful.proofs.Tested.RequestRules.{owned_at}

-- ---- one block

module _ (s : State) (k : ℕ) where
  abbrev pub waits : Bool
  waits = waiter_right s.directory.defined s.on (task_at s k)

  abbrev checks : Bool
  checks = eqb (task_at s k).place InCheck implies pends k (request_at s (task_at s k).request)

  abbrev ends : Bool
  ends = eqb (task_at s k).place Ending implies some_of (λ r. pends k (request_at s r)) (one_to request_blocks)

  abbrev not-past : Bool
  not-past = leb (task_at s k).since s.clock

  abbrev used : Bool
  used = not (eqb (request_at s k).place Free) implies used_by s.free_tasks (request_at s k).owner

  record TaskPasses : Type 0 where
    range : task_range s k ≡ true
    clear : task_clear s k ≡ true
    needs : needed_at s k ≡ true
    stands : task_stands s k ≡ true
    free : task_free s k ≡ true
    waiter : waits ≡ true
    check : checks ≡ true
    ending : ends ≡ true
    since : not-past ≡ true

  record RequestPasses : Type 0 where
    range : request_range s k ≡ true
    clear : request_clear s k ≡ true
    stands : request_stands s k ≡ true
    free : request_free s k ≡ true
    owner : used ≡ true

  task-parts : task_passes s k ≡ true → TaskPasses
  unfolding task_passes needs_core
  task-parts e =
      let since = both _ _ e in
      let pending = both _ _ since.0 in
      let waiter = both _ _ pending.0 in
      let place = both _ _ waiter.0 in
      let needs = both _ _ place.0 in
      let fields = both _ _ needs.0 in
      let stands = both _ _ place.1 in
      let asked = both _ _ pending.1 in
      record {
        range = fields.0;
        clear = fields.1;
        needs = needs.1;
        stands = stands.0;
        free = stands.1;
        waiter = waiter.1;
        check = asked.0;
        ending = asked.1;
        since = since.1;
      }

  task-whole : TaskPasses → task_passes s k ≡ true
  unfolding task_passes needs_core
  task-whole p =
      let fields = and-of _ _ (and-of _ _ p.range p.clear) p.needs in
      let place = and-of _ _ p.stands p.free in
      let pending = and-of _ _ p.check p.ending in
      and-of _ _ (and-of _ _ (and-of _ _ (and-of _ _ fields place) p.waiter) pending) p.since

  request-parts : request_passes s k ≡ true → RequestPasses
  unfolding request_passes
  request-parts e =
      let owner = both _ _ e in
      let free = both _ _ owner.0 in
      let stands = both _ _ free.0 in
      let fields = both _ _ stands.0 in
      record { range = fields.0; clear = fields.1; stands = stands.1; free = free.1; owner = owner.1 }

  request-whole : RequestPasses → request_passes s k ≡ true
  unfolding request_passes
  request-whole p =
      and-of _ _ (and-of _ _ (and-of _ _ (and-of _ _ p.range p.clear) p.stands) p.free) p.owner

-- ---- the owner of a request: its place says that it is used where the free set does

module _ (s : State) (free : (k : ℕ) → 1 ≤ k → k ≤ task_blocks → task_free s k ≡ true) (zero : blank_task (task_at s 0) ≡ true) where
  used-place : (n : ℕ) → n ≤ task_blocks → used_by s.free_tasks n ≡ not (eqb (task_at s n).place Free)
  used-place n h =
      ⊎_elim (λ e. rw (e.1, task-blank (task_at s 0) zero))
      (λ e. let l : 1 ≤ n = omega (arith, e.1) in
      rw (le-leb n 24 h, le-leb 1 n l) (ap not (same_bool (has s.free_tasks n) (eqb (task_at s n).place Free) (free n l h))))
      (tested n 0)

  used-owner : (r : ℕ) → request_range s r ≡ true → used s r ≡ owned_at s r
  used-owner r e =
      let q = request_at s r in
      ap (λ (b : Bool). not (eqb q.place Free) implies b) (used-place q.owner (leb-true _ _ (request-range q e).owner))

-- ---- the whole pass: the rules that it decides, and that each task block is a right waiter, where it is one

pub record Passed (s : State) : Type 0 where
  pub each : KeepsEach s
  pub waiters : (k : ℕ) → 1 ≤ k → k ≤ task_blocks → waits s k ≡ true

module _ (s : State) where
  -- a set of defined events, as the rules and as the pass have it
  defined-told : (set : ℕ) → not (undefined_in s set) ≡ eqb (bit_and set s.directory.defined) set
  unfolding undefined_in
  defined-told set = not-not (eqb (bit_and set s.directory.defined) set)

  pub passed : first_pass s ≡ true → Passed s
  unfolding first_pass first_tests Given rules.on_defined rules.on_signalled rules.signalled_defined rules.tasks_in_place rules.requests_in_place rules.core_needed rules.owned rules.checks_pending rules.ending_pending rules.never_past pending_of pending
  passed e =
      by_name (first_tests s) e (
      λ directory.
      λ running.
      λ channel.
      λ holes.
      λ on.
      λ on-signalled.
      λ signalled.
      λ free_tasks.
      λ free_tasks-none.
      λ free_requests.
      λ free_requests-none.
      λ task.
      λ request.
      λ pool.
      λ requests.
      λ tasks.
      let t : (k : ℕ) → 1 ≤ k → k ≤ task_blocks → TaskPasses s k = λ k l h. task-parts s k (all-to (task_passes s) task_blocks tasks k l h) in
      let r : (k : ℕ) → 1 ≤ k → k ≤ request_blocks → RequestPasses s k = λ k l h. request-parts s k (all-to (request_passes s) request_blocks requests k l h) in
      record {
        each =
            record {
              directory_passes = directory;
              in_range =
                  in-range s
                  (record {
                    running = running;
                    channel = channel;
                    holes = holes;
                    tasks = to-all (task_range s) task_blocks (λ k l h. (t k l h).range);
                    requests = to-all (request_range s) request_blocks (λ k l h. (r k l h).range);
                  });
              on_defined = defined-told s.on ∙ on;
              on_signalled = on-signalled;
              signalled_defined = defined-told s.signalled ∙ signalled;
              tasks_in_place = to-all (task_stands s) task_blocks (λ k l h. (t k l h).stands);
              requests_in_place = to-all (request_stands s) request_blocks (λ k l h. (r k l h).stands);
              free_sets =
                  free-sets s
                  (record {
                    tasks = to-all (task_free s) task_blocks (λ k l h. (t k l h).free);
                    requests = to-all (request_free s) request_blocks (λ k l h. (r k l h).free);
                    free_tasks = free_tasks;
                    free_tasks-none = free_tasks-none;
                    free_requests = free_requests;
                    free_requests-none = free_requests-none;
                  });
              fields_clear =
                  all-clear s
                  (record {
                    tasks = to-all (task_clear s) task_blocks (λ k l h. (t k l h).clear);
                    requests = to-all (request_clear s) request_blocks (λ k l h. (r k l h).clear);
                    task = task;
                    request = request;
                    pool = pool;
                  });
              core_needed = to-all (needed_at s) task_blocks (λ k l h. (t k l h).needs);
              owned = to-all (owned_at s) request_blocks (λ k l h. sym (used-owner s (λ k l h. (t k l h).free) task k (r k l h).range) ∙ (r k l h).owner);
              checks_pending = to-all (checks s) task_blocks (λ k l h. (t k l h).check);
              ending_pending = to-all (ends s) task_blocks (λ k l h. (t k l h).ending);
              never_past = to-all (not-past s) task_blocks (λ k l h. (t k l h).since);
            };
        waiters = λ k l h. (t k l h).waiter;
      })

  module _ (p : KeepsEach s) (waiters : (k : ℕ) → 1 ≤ k → k ≤ task_blocks → waits s k ≡ true) where
    task-passes : (k : ℕ) → 1 ≤ k → k ≤ task_blocks → TaskPasses s k
    unfolding rules.tasks_in_place rules.core_needed rules.checks_pending rules.ending_pending rules.never_past pending_of pending
    task-passes k l h =
        record {
          range = all-to (task_range s) task_blocks (ranges s p.in_range).tasks k l h;
          clear = all-to (task_clear s) task_blocks (clears s p.fields_clear).tasks k l h;
          needs = all-to (needed_at s) task_blocks p.core_needed k l h;
          stands = all-to (task_stands s) task_blocks p.tasks_in_place k l h;
          free = all-to (task_free s) task_blocks (sets s p.free_sets).tasks k l h;
          waiter = waiters k l h;
          check = all-to (checks s) task_blocks p.checks_pending k l h;
          ending = all-to (ends s) task_blocks p.ending_pending k l h;
          since = all-to (not-past s) task_blocks p.never_past k l h;
        }

    request-passes : (k : ℕ) → 1 ≤ k → k ≤ request_blocks → RequestPasses s k
    unfolding rules.requests_in_place rules.owned
    request-passes k l h =
        let range = all-to (request_range s) request_blocks (ranges s p.in_range).requests k l h in
        let free = all-to (task_free s) task_blocks (sets s p.free_sets).tasks in
        record {
          range = range;
          clear = all-to (request_clear s) request_blocks (clears s p.fields_clear).requests k l h;
          stands = all-to (request_stands s) request_blocks p.requests_in_place k l h;
          free = all-to (request_free s) request_blocks (sets s p.free_sets).requests k l h;
          owner = used-owner s free (clears s p.fields_clear).task k range ∙ all-to (owned_at s) request_blocks p.owned k l h;
        }

    pub passes-first : first_pass s ≡ true
    unfolding first_pass first_tests all_true rules.on_defined rules.on_signalled rules.signalled_defined
    passes-first =
        search (
          and-of,
          ranges s p.in_range,
          sets s p.free_sets,
          clears s p.fields_clear,
          sym (defined-told s.on) ∙ p.on_defined,
          p.on_signalled,
          sym (defined-told s.signalled) ∙ p.signalled_defined,
          to-all (request_passes s) request_blocks (λ k l h. request-whole s k (request-passes k l h)),
          to-all (task_passes s) task_blocks (λ k l h. task-whole s k (task-passes k l h)),
        )
