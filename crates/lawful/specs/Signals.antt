-- Document 02, E1: "a defined event that hasn't been signalled on or off since the load". The words of its theorem.
use Rattle.std.specs.Prelude.{◌≡◌, List, ◌∷◌, ◌++◌, ℕ}
use Rattle.answers.specs.Answer.{refusal_of}
use Rattle.tables.specs.declared.Tables.{Tables}
use Rattle.calls.specs.Calls.{SIGNAL, call_of}
use Rattle.meaning.specs.Step.{step_of}
use Rattle.lawful.specs.Reached.{after_calls}

-- the call is a SIGNAL of the event e, and it is accepted
pub record Signals (e : ℕ) (t : Tables) (bytes : List ℕ) : Type 0 where
  pub code : (call_of bytes).code ≡ SIGNAL
  pub event : (call_of bytes).number ≡ e
  pub accepted : refusal_of (step_of t bytes).outcome ≡ 0

-- of these calls, made one after the other from t on, none is a SIGNAL of e that is accepted
pub record Unsignalled (e : ℕ) (t : Tables) (calls : List (List ℕ)) : Type 0 where
  pub none : (before : List (List ℕ)) (bytes : List ℕ) (behind : List (List ℕ)) → calls ≡ before ++ bytes ∷ behind → Signals e (after_calls t before) bytes → ⊥

-- one of them is, and the last that is has the value v
pub record LastSignalled (e v : ℕ) (t : Tables) (calls : List (List ℕ)) : Type 0 where
  pub before : List (List ℕ)
  pub bytes : List ℕ
  pub behind : List (List ℕ)
  pub among : calls ≡ before ++ bytes ∷ behind
  pub signals : Signals e (after_calls t before) bytes
  pub value : (call_of bytes).value ≡ v
  pub last : Unsignalled e (step_of (after_calls t before) bytes).tables behind
