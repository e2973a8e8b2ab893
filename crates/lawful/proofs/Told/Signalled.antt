-- Document 02, E1, of any calls, one after the other: none of them is an accepted SIGNAL of an event, or one is the last; and so what TEST EVENT answers after them, from a load. By Signalling for one
-- call, and by induction on the calls.
use mathlib.Core.Bool.{true}
use mathlib.Core.Path.{◌≡◌, refl, ap, subst, ◌∙◌}
use mathlib.Core.Logic.{◌⊎◌, inl, inr, ⊎_elim, ◌↔◌}
use mathlib.Core.List.{List, [], ◌∷◌, ◌++◌, nil≢cons, head-eq_of_cons-eq, tail-eq_of_cons-eq}
use Prim.Native.Nat.{ℕ, zero, suc, ◌+◌, ◌≤◌}
use native.Mathlib.Omega.{arith}
use lib.Dec.{eqb}
use borrow.Author.Tests.{eqb-true, eq-eqb, not-true, not-false}
use Rattle.words.specs.Words.{if◌then◌else◌, has, all_true}
use Rattle.words.proofs.Truth.{tested, both}
use Rattle.words.proofs.Members.{has-none}
use Rattle.words.proofs.Subsets.{inside-has}
use Rattle.answers.specs.Answer.{refusal_of, result_of}
use Rattle.image.specs.Load.{load_of}
use Rattle.tables.specs.declared.Tables.{Tables}
use Rattle.tables.specs.State.{read, loaded}
use Rattle.calls.specs.Calls.{TEST-EVENT, call_of}
use Rattle.meaning.specs.Conditions.{undefined_in}
use Rattle.meaning.specs.Rules.{on_signalled, signalled_defined, pointers_sound, state_rules, rules_hold}
use Rattle.meaning.specs.Step.{step_of, tables_of}
use Rattle.meaning.proofs.Rules.{KeepsEach, all-rules}
use Rattle.lawful.specs.Reached.{Reached, after_calls}
use Rattle.lawful.specs.Signals.{Signals, Unsignalled, LastSignalled}
use Rattle.lawful.proofs.Told.Steps.{reached-rules}
use Rattle.lawful.proofs.Told.After.{after-append}
use Rattle.lawful.proofs.Told.Signalling.{tested-event, signal-value, signals-or-not, signals-known, others-known}

-- ---- Calls, one after the other.
module _ (e : ℕ) where
  -- the first of calls, and the others
  first-not : {t : Tables} {b : List ℕ} {calls : List (List ℕ)} → Unsignalled e t (b ∷ calls) → Signals e t b → ⊥
  unfolding after_calls
  first-not {t} {b} {calls} n = n.none [] b calls refl

  others-not : {t : Tables} {b : List ℕ} {calls : List (List ℕ)} → Unsignalled e t (b ∷ calls) → Unsignalled e (step_of t b).tables calls
  unfolding after_calls
  others-not {t} {b} {calls} n = record { none = λ before bytes behind i. n.none (b ∷ before) bytes behind (ap (λ (l : List (List ℕ)). b ∷ l) i) }

  unsignalled-known : (calls : List (List ℕ)) (t : Tables) → Unsignalled e t calls → (has (after_calls t calls).signalled e ≡ has t.signalled e) × (has (after_calls t calls).on e ≡ has t.on e)
  unfolding after_calls
  unsignalled-known [] t n = (refl, refl)
  unsignalled-known (b ∷ calls) t n =
      let a = others-known t b e (first-not n) in
      let h = unsignalled-known calls (step_of t b).tables (others-not n) in
      (h.0 ∙ a.0, h.1 ∙ a.1)

  last-known : {v : ℕ} (calls : List (List ℕ)) (t : Tables) → LastSignalled e v t calls → (has (after_calls t calls).signalled e ≡ true) × (has (after_calls t calls).on e ≡ eqb v 1) × (v ≤ 1)
  unfolding after_calls
  last-known {v} calls t l =
      let u = after_calls t l.before in
      let at = ap (after_calls t) l.among ∙ after-append t l.before (l.bytes ∷ l.behind) in
      let h = unsignalled-known l.behind (step_of u l.bytes).tables l.last in
      let k = signals-known u l.bytes e l.signals in
      let w = signal-value u l.bytes l.signals.code l.signals.accepted in
      (rw at (h.0 ∙ k.0), rw at (h.1 ∙ k.1 ∙ ap (λ (x : ℕ). eqb x 1) l.value), omega (arith, w, l.value))

  -- none of the calls is an accepted SIGNAL of e, or one is the last
  no-calls : {t : Tables} → Unsignalled e t []
  no-calls = record { none = λ before bytes behind i. absurd (empty before bytes behind i) }
    where
      empty : (before : List (List ℕ)) (bytes : List ℕ) (behind : List (List ℕ)) → [] ≡ before ++ bytes ∷ behind → ⊥
      empty [] bytes behind i = nil≢cons i
      empty (x ∷ before) bytes behind i = nil≢cons i

  not-either : {t : Tables} {b : List ℕ} {calls : List (List ℕ)} → (Signals e t b → ⊥) → Unsignalled e (step_of t b).tables calls → Unsignalled e t (b ∷ calls)
  unfolding after_calls
  not-either {t} {b} {calls} n m = record { none = go }
    where
      go : (before : List (List ℕ)) (bytes : List ℕ) (behind : List (List ℕ)) → b ∷ calls ≡ before ++ bytes ∷ behind → Signals e (after_calls t before) bytes → ⊥
      go [] bytes behind i h = n (rw (head-eq_of_cons-eq i) h)
      go (x ∷ before) bytes behind i h = m.none before bytes behind (tail-eq_of_cons-eq i) (rw (head-eq_of_cons-eq i) h)

  history : (calls : List (List ℕ)) (t : Tables) → Unsignalled e t calls ⊎ ((v : ℕ) × LastSignalled e v t calls)
  unfolding after_calls
  history [] t = inl no-calls
  history (b ∷ calls) t =
      ⊎_elim
      (λ n. ⊎_elim
      (λ h. inr ((call_of b).value, record { before = []; bytes = b; behind = calls; among = refl; signals = h; value = refl; last = n }))
      (λ h. inl (not-either h n)) (signals-or-not t b e))
      (λ l. inr (
        l.0,
        record {
          before = b ∷ l.1.before;
          bytes = l.1.bytes;
          behind = l.1.behind;
          among = ap (λ (m : List (List ℕ)). b ∷ m) l.1.among;
          signals = l.1.signals;
          value = l.1.value;
          last = l.1.last;
        },
      ))
      (history calls (step_of t b).tables)

-- ---- From a load: nothing is signalled, and so what TEST EVENT answers is what the calls since have signalled.
module _ (holes : ℕ) (image : List ℕ) (loads : refusal_of (load_of image).outcome ≡ 0) where
  loaded-none : (tables_of holes image).signalled ≡ 0
  unfolding tables_of loaded
  loaded-none = rw (eq-eqb (refusal_of (load_of image).outcome) 0 loads)

  module _ (calls : List (List ℕ)) (bytes : List ℕ) (test : (call_of bytes).code ≡ TEST-EVENT) (accepted : refusal_of (step_of (after_calls (tables_of holes image) calls) bytes).outcome ≡ 0) where
    abbrev answer : ℕ
    answer = result_of (step_of (after_calls (tables_of holes image) calls) bytes).outcome

    answer-never : Unsignalled (call_of bytes).number (tables_of holes image) calls → answer ≡ 3
    answer-never n =
        let e = (call_of bytes).number in
        let k = unsignalled-known e calls (tables_of holes image) n in
        tested-event _ bytes test accepted ∙ rw (k.0, loaded-none, has-none e)

    answer-last : {v : ℕ} → LastSignalled (call_of bytes).number v (tables_of holes image) calls → (v ≤ 1) × (answer ≡ v + 1)
    answer-last {v} l =
        let k = last-known (call_of bytes).number calls (tables_of holes image) l in
        (k.2, tested-event _ bytes test accepted ∙ rw (k.0, k.1) (by_value v k.2))
      where
        by_value : (v : ℕ) → v ≤ 1 → (if eqb v 1 then 2 else 1) ≡ v + 1
        by_value zero h = refl
        by_value (suc zero) h = refl
        by_value (suc (suc v)) h = absurd (omega (arith, h))

    -- 3 where nothing of the event was signalled, v + 1 where its last value was v; and each only there
    answers : ((answer ≡ 3) × Unsignalled (call_of bytes).number (tables_of holes image) calls) ⊎ ((v : ℕ) × (v ≤ 1) × (answer ≡ v + 1) × LastSignalled (call_of bytes).number v (tables_of holes image) calls)
    answers = ⊎_elim (λ n. inl (answer-never n, n)) (λ l. let a = answer-last l.1 in inr (l.0, a.0, a.1, l.1)) (history (call_of bytes).number calls (tables_of holes image))

    pub never-where : (answer ≡ 3) ↔ Unsignalled (call_of bytes).number (tables_of holes image) calls
    never-where = (λ q. ⊎_elim (λ n. n.1) (λ l. absurd (omega (arith, q, l.1, l.2))) answers, answer-never)

    pub value-where : (v : ℕ) → v ≤ 1 → (answer ≡ v + 1) ↔ LastSignalled (call_of bytes).number v (tables_of holes image) calls
    value-where v h = (
      λ q. ⊎_elim (λ n. absurd (omega (arith, q, h, n.0)))
          (λ l. let same : l.0 ≡ v = omega (arith, q, l.2) in subst (λ (x : ℕ). LastSignalled (call_of bytes).number x (tables_of holes image) calls) same l.3) answers,
      λ l. (answer-last l).1,
    )

    pub one_of_three : (answer ≡ 1) ⊎ ((answer ≡ 2) ⊎ (answer ≡ 3))
    one_of_three = ⊎_elim (λ n. inr (inr n.0)) (λ l. ⊎_elim (λ z. inl (omega (arith, z.1, l.2))) (λ z. inr (inl (omega (arith, z.1, l.1, l.2)))) (tested l.0 0)) answers

-- ---- The rules of the three sets, of one event of tables that are reached.
module _ (image : List ℕ) {t : Tables} (r : Reached image t) (e : ℕ) where
  kept : KeepsEach (read t)
  unfolding rules_hold
  kept = (all-rules (both (pointers_sound t.threads) (all_true (state_rules (read t))) (reached-rules image r)).1).each

  pub on-signalled : has t.on e ≡ true → has t.signalled e ≡ true
  unfolding on_signalled
  on-signalled = inside-has t.on t.signalled e (eqb-true _ _ kept.on_signalled)

  pub signalled-defined : has t.signalled e ≡ true → has t.directory.defined e ≡ true
  unfolding signalled_defined undefined_in
  signalled-defined = inside-has t.signalled t.directory.defined e (eqb-true _ _ (not-false _ (not-true _ kept.signalled_defined)))
