-- What an accepted call of a code may take for granted: the rows of the refusals that name its code do not apply. And what a code does: its deed.
use mathlib.Core.Bool.{true, false, true≢false}
use mathlib.Core.Path.{◌≡◌, refl, sym, ◌∙◌}
use mathlib.Core.Logic.{◌≢◌}
use mathlib.Core.List.{List, [], ◌∷◌}
use Prim.Native.Nat.{ℕ, ◌≤◌}
use borrow.Author.Tests.{ne_eqb}
use Rattle.words.specs.Words.{◌among◌}
use Rattle.threads.specs.Threads.{Sound}
use Rattle.tables.specs.declared.Tables.{Tables}
use Rattle.tables.specs.State.{read}
use Rattle.tables.specs.Held.{Shows}
use Rattle.calls.specs.declared.Call.{Call}
use Rattle.calls.specs.Calls.{LINK, SCHEDULE, WAIT, SIGNAL, READ, WRITE, CHECK, TIMER, IO-DONE, OPERATOR-START, needs_task}
use Rattle.meaning.specs.Refusals.{starts, transfers, clock_end}
use Rattle.meaning.specs.declared.Given.{Given}
use Rattle.meaning.specs.Given.{Gives}
use Rattle.meaning.specs.Services.{deeds, deed_of, effect}
use Rattle.meaning.proofs.Deeds.{codes_of, deed-at, unknown}
use Rattle.channel.specs.Transfer.{Transferring}
use Rattle.words.specs.Counting.{bit}
use Rattle.lawful.specs.Resting.{Lawful}
use Rattle.lawful.specs.Accepts.{Condition, Accepts}
use Rattle.lawful.specs.Tables.{LawfulTables}
use Rattle.tasking.specs.Starting.{Starting}
use Rattle.tables.specs.Blocks.{task_blocks, request_blocks}

-- no number of a list, in the form in which the last arm of a `match` has it
unfoldable pub NoneOf : ℕ → List ℕ → Type 0 → Type 0
NoneOf n [] A = A
NoneOf n (a ∷ l) A = NoneOf n l (A × (n ≡ a → ⊥))

none_of : (n : ℕ) (l : List ℕ) {A : Type 0} → NoneOf n l A → A × (n among l ≡ false)
unfolding NoneOf ◌among◌
none_of n [] x = (x, refl)
none_of n (a ∷ l) x =
    let r = none_of n l x in
    (r.0.0, rw (ne_eqb a n (λ z. r.0.1 (sym z))) r.1)

module _ {t : Tables} {c : Call} (p : LawfulTables t × Accepts (read t) c) where
  starting : starts c ≡ true → Starting t c
  starting o = record { lawful = p.0; program = p.1.program o; block = p.1.block o }

  transferring : transfers c ≡ true → needs_task c.code ≡ true → Sound t.threads × Transferring (read t) c
  transferring o n = (p.0.pointers, record { shape = p.0.state.shape; runs = p.1.running n; free_requests = p.1.free_requests o; bytes = (p.1.bytes o).1 })

  -- ---- What each call asks, from its code.
  pub running : (n : ℕ) → needs_task n ≡ true → c.code ≡ n → LawfulTables t × (t.running ≢ 0)
  running n e z = (p.0, p.1.running (rw z e))

  pub to-link : c.code ≡ LINK → Starting t c × (t.running ≢ 0)
  unfolding needs_task ◌among◌
  to-link z = (starting (rw z), p.1.running (rw z))

  pub to-schedule : c.code ≡ SCHEDULE → Starting t c × Condition (read t) c
  unfolding ◌among◌
  to-schedule z = (starting (rw z), p.1.condition (rw z))

  pub to-wait : c.code ≡ WAIT → LawfulTables t × (t.running ≢ 0) × Condition (read t) c
  unfolding needs_task ◌among◌
  to-wait z = (p.0, p.1.running (rw z), p.1.condition (rw z))

  pub to-signal : c.code ≡ SIGNAL → LawfulTables t × (c.number ≤ 63) × (bit t.directory.defined c.number ≡ 1)
  unfolding ◌among◌
  to-signal z = let e = p.1.event (rw z) in (p.0, e.0, e.1)

  pub to_read : c.code ≡ READ → Sound t.threads × Transferring (read t) c
  unfolding needs_task ◌among◌
  to_read z = transferring (rw z) (rw z)

  pub to_write : c.code ≡ WRITE → Sound t.threads × Transferring (read t) c
  unfolding needs_task ◌among◌
  to_write z = transferring (rw z) (rw z)

  pub to-check : c.code ≡ CHECK → Sound t.threads × (t.running ≤ task_blocks) × (c.number ≤ request_blocks)
  to-check z = (p.0.pointers, p.0.state.shape.blank.running, (p.1.held z).1)

  pub to-timer : c.code ≡ TIMER → LawfulTables t × (t.clock ≢ clock_end)
  to-timer z = (p.0, p.1.clock z)

  pub to-io-done : c.code ≡ IO-DONE → Sound t.threads × Lawful (read t) × (t.channel ≢ 0)
  to-io-done z = (p.0.pointers, p.0.state, p.1.channel z)

  pub to_start : c.code ≡ OPERATOR-START → Starting t c
  unfolding ◌among◌
  to_start z = starting (rw z)

  -- ---- What the deed of the code gives is what the call gives; the result of most is 1.
  pub same : (n : ℕ) {r : Given} → c.code ≡ n → Gives r (deed_of deeds n (read t) c) → Gives r (effect (read t) c)
  same n z h = rw (deed-at (read t) c n z) h

  pub done : (n : ℕ) {r : Given} {u : Tables} → c.code ≡ n → Shows u (deed_of deeds n (read t) c).state → (deed_of deeds n (read t) c).result ≡ 1
      → (r.tables ≡ u) × (r.result ≡ 1) → Gives r (effect (read t) c)
  done n z h j o = same n z (record { shows = rw o.0 h; result = o.1 ∙ sym j })

  -- a code that has no deed is none of an accepted call
  pub never : {r : Given} → NoneOf c.code (codes_of deeds) (Unit {0}) → Gives r (effect (read t) c)
  never none = absurd (true≢false (sym p.1.known ∙ unknown c.code (none_of c.code (codes_of deeds) none).1))
