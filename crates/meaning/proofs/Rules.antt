-- The table rules by name: a state whose rules all hold keeps each of them, and back. What follows from a rule, or shows it, cites it by its name.
use mathlib.Core.Bool.{true}
use mathlib.Core.Path.{◌≡◌}
use Rattle.words.specs.Words.{all_true}
use Rattle.tables.specs.State.{State}
use Rattle.meaning.specs.Rules as rules
use Rattle.meaning.specs.Rules.{state_rules}
use Rattle.words.proofs.Truth.{and-of}
use Rattle.meaning.proofs.Parts.{sides}

-- the rules over the numbers of the tables, and over each block by itself; each field is the rule of that name
pub record KeepsEach (s : State) : Type 0 where
  pub directory_passes : rules.directory_passes s.directory ≡ true
  pub in_range : rules.in_range s ≡ true
  pub on_defined : rules.on_defined s ≡ true
  pub on_signalled : rules.on_signalled s ≡ true
  pub signalled_defined : rules.signalled_defined s ≡ true
  pub tasks_in_place : rules.tasks_in_place s ≡ true
  pub requests_in_place : rules.requests_in_place s ≡ true
  pub free_sets : rules.free_sets s ≡ true
  pub fields_clear : rules.fields_clear s ≡ true
  pub core_needed : rules.core_needed s ≡ true
  pub owned : rules.owned s ≡ true
  pub checks_pending : rules.checks_pending s ≡ true
  pub ending_pending : rules.ending_pending s ≡ true
  pub never_past : rules.never_past s ≡ true

-- all rules
pub record Keeps (s : State) : Type 0 where
  pub each : KeepsEach s
  pub core_held : rules.core_held s ≡ true
  pub chains_end : rules.chains_end s ≡ true
  pub idle_only_if_none_ready : rules.idle_only_if_none_ready s ≡ true
  pub events_wait : rules.events_wait s ≡ true
  pub core_waits : rules.core_waits s ≡ true
  pub queues_in_order : rules.queues_in_order s ≡ true
  pub of_their_level : rules.of_their_level s ≡ true
  pub events_pass : rules.events_pass s ≡ true
  pub linked : rules.linked s ≡ true
  pub channel_busy : rules.channel_busy s ≡ true

module _ {s : State} where
  pub all-rules : all_true (state_rules s) ≡ true → Keeps s
  unfolding state_rules all_true
  all-rules e = search sides depth 40 fits 4000

  pub rules-all : Keeps s → all_true (state_rules s) ≡ true
  unfolding state_rules all_true
  rules-all k = search and-of
