-- One call, whole: each way in which the code answers is what `step_of` says. By the rows of the refusals: 9 does not apply to lawful tables, 10 applies where the
-- bytes are not 16, and the rest are those of the call that came.
use mathlib.Core.Bool.{Bool, true, false, true≢false}
use mathlib.Core.Path.{◌≡◌, sym, ap, ◌∙◌}
use mathlib.Core.Logic.{◌≢◌, ⊎_elim}
use mathlib.Core.List.{List, []}
use Prim.Native.Nat.{ℕ}
use lib.ListN.{length}
use borrow.Author.Tests.{eq-eqb, ne_eqb}
use Rattle.std.specs.Prelude.{Result, Ok, Err}
use Rattle.words.proofs.Truth.{tested}
use Rattle.words.specs.Rows.{first_of}
use Rattle.answers.specs.declared.Refusal.{Refusal}
use Rattle.answers.specs.declared.Refusal.TheVariants.{CallLength}
use Rattle.answers.specs.Answer.{Refused, Accepted, number}
use Rattle.answers.proofs.Cases.{number-some}
use Rattle.tables.specs.declared.Tables.{Tables}
use Rattle.tables.specs.State.{read}
use Rattle.tables.specs.Held.{Held, Shows}
use Rattle.tables.proofs.Held.{shown}
use Rattle.calls.specs.declared.Call.{Call}
use Rattle.calls.specs.Calls.{call_of, arrival}
use Rattle.meaning.specs.declared.Given.{Given}
use Rattle.meaning.specs.Given.{Gives}
use Rattle.meaning.specs.Ready.{dispatched}
use Rattle.meaning.specs.Refusals.{call_rows, refusals}
use Rattle.meaning.specs.Services.{effect}
use Rattle.meaning.specs.Step.{refused, accepted, step_of}
use Rattle.lawful.specs.Tables.{LawfulTables}
use Rattle.lawful.proofs.Tested.Accepted.{accepts}
use Rattle.lawful.proofs.Each.Keeps.{settles}
use Rattle.lawful.proofs.Told.Steps.{tables-rules}
use Rattle.scheduler.proofs.Shaped.{shape-held}

-- ---- What came.
is_call : Result Call Refusal → Bool
is_call (Ok c) = true
is_call (Err r) = false

call-in : Call → Result Call Refusal → Call
call-in d (Ok c) = c
call-in d (Err r) = d

came-whole : (bytes : List ℕ) (c : Call) → arrival bytes ≡ Ok c → (length bytes ≡ 16) × (call_of bytes ≡ c)
unfolding arrival is_call call-in
came-whole bytes c e =
    ⊎_elim
    (λ z. let f : Ok (call_of bytes) ≡ Ok c = rw z.0 at e in (z.1, ap (call-in c) f))
    (λ z. let f : Err CallLength ≡ Ok c = rw z.0 at e in absurd (true≢false (sym (ap is_call f))))
    (tested (length bytes) 16)

cut_short : (bytes : List ℕ) (r : Refusal) → arrival bytes ≡ Err r → length bytes ≢ 16
unfolding arrival is_call
cut_short bytes r e z = let f : Ok (call_of bytes) ≡ Err r = rw (eq-eqb _ _ z) at e in true≢false (ap is_call f)

-- after an accepted call the tables keep their shape, so that the dispatch may be made
pub ready-to-dispatch : {t : Tables} {r : Given} (g : LawfulTables t) (c : Call) → first_of (call_rows (read t) c) ≡ 0 → Gives r (effect (read t) c) → Held r.tables
ready-to-dispatch {t} g c f h =
    shape-held {h = []} {e = 0} h.shows.sound (rw h.shows.reads (settles g.state (accepts (read t) c f g.state)).shape)

module _ {t : Tables} (bytes : List ℕ) (g : LawfulTables t) where
  -- ---- 10.
  pub cut : (r : Refusal) → arrival bytes ≡ Err r → refused t 10 ≡ step_of t bytes
  unfolding step_of refusals first_of
  cut r e = rw (tables-rules t g, ne_eqb _ _ (cut_short bytes r e))

  -- ---- The rows of the call.
  module _ {c : Call} (e : arrival bytes ≡ Ok c) where
    rows : first_of (refusals t bytes) ≡ first_of (call_rows (read t) c)
    unfolding refusals first_of
    rows = let w = came-whole bytes c e in rw (tables-rules t g, eq-eqb _ _ w.0, w.1)

    pub turned-away : (r : Refusal) → number r ≡ first_of (call_rows (read t) c) → record { tables = t; outcome = Refused (number r) } ≡ step_of t bytes
    unfolding step_of refused
    turned-away r f = let h = rows ∙ sym f in rw (h, ne_eqb (number r) 0 (number-some r))

    -- ---- A call that is accepted.
    pub carried-out : {r : Given} {u : Tables} → 0 ≡ first_of (call_rows (read t) c) → Gives r (effect (read t) c)
        → Shows u (dispatched (read r.tables)) → record { tables = u; outcome = Accepted r.result } ≡ step_of t bytes
    unfolding step_of accepted
    carried-out {r} {u} f h d =
        let w = came-whole bytes c e in
        rw (rows ∙ sym f, w.1, shown d, h.shows.reads, h.result)
