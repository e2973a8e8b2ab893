-- The walk and the two passes decide the table rules: what they show is what the rules say, rule by rule.
use mathlib.Core.Bool.{true, false, true≢false}
use mathlib.Core.Path.{◌≡◌, sym, ◌∙◌}
use Rattle.words.specs.Words.{all_true}
use Rattle.threads.specs.Threads.{Sound}
use Rattle.tables.specs.declared.Tables.{Tables}
use Rattle.tables.specs.State.{State, read}
use Rattle.meaning.specs.Rules.{pointers_sound, state_rules, rules_hold}
use Rattle.words.proofs.Named.{Given, by_name, All, ◌also◌, no_more}
use Rattle.meaning.proofs.Rules.{KeepsEach, Keeps, all-rules, rules-all}
use Rattle.fields.specs.Blocks.{first_pass}
use Rattle.words.proofs.Truth.{both, and-of, same_truth}
use Rattle.rules.specs.Orderly.{Orderly, link_tests, queue_tests, second_pass}
use Rattle.rules.proofs.Waiters.{waiters, events-wait, events-pass, their-level}
use Rattle.rules.proofs.Deciding.{Passed, passed, passes-first}

module _ (t : Tables) (sound : Sound t.threads) where
  abbrev s : State
  s = read t

  orderly-of : KeepsEach s → Orderly t
  orderly-of p =
      record {
        sound = sound;
        directory = p.directory_passes;
        range = p.in_range;
        tasks = p.tasks_in_place;
        requests = p.requests_in_place;
        clear = p.fields_clear;
      }

  pub orderly : first_pass s ≡ true → Orderly t
  orderly e = orderly-of (passed s e).each

  -- all rules hold: so both passes pass
  all_pass : Keeps s → first_pass s ≡ true
  all_pass k = passes-first s k.each (waiters t (orderly-of k.each) k.events_wait k.events_pass)

  second-tests : Keeps s → All (link_tests s) × All (queue_tests s)
  unfolding link_tests queue_tests
  second-tests k =
      (k.core_held also k.chains_end also k.linked also no_more, k.idle_only_if_none_ready also k.core_waits also k.queues_in_order also k.channel_busy also no_more)

  -- both passes pass: so all rules hold
  pass_all : Passed s → second_pass s ≡ true → Keeps s
  unfolding second_pass link_tests queue_tests Given
  pass_all p e =
      let o = orderly-of p.each in
      let second = both (all_true (link_tests s)) (all_true (queue_tests s)) e in
      by_name (link_tests s) second.0 (
      λ core_held.
      λ chains_end.
      λ linked.
      by_name (queue_tests s) second.1 (
      λ idle_only_if_none_ready.
      λ core_waits.
      λ queues_in_order.
      λ channel_busy.
      search (p.each, events-wait t o p.waiters, their-level t o, events-pass t o p.waiters)))

  kept : rules_hold t ≡ true → Keeps s
  unfolding rules_hold
  kept e = all-rules (both (pointers_sound t.threads) (all_true (state_rules s)) e).1

  pub first-fails : false ≡ first_pass s → false ≡ rules_hold t
  first-fails e = same_truth false (rules_hold t) (λ z. absurd (true≢false (sym z))) (λ h. e ∙ all_pass (kept h))

  second_holds : rules_hold t ≡ true → second_pass s ≡ true
  unfolding second_pass
  second_holds h = let w = second-tests (kept h) in and-of _ _ w.0.all w.1.all

  -- the first pass passes: what is left is the second
  pub second-decides : pointers_sound t.threads ≡ true → first_pass s ≡ true → second_pass s ≡ rules_hold t
  unfolding rules_hold
  second-decides e f = same_truth (second_pass s) (rules_hold t) (λ h. and-of _ _ e (rules-all (pass_all (passed s f) h))) second_holds

pub unsound : (t : Tables) → false ≡ pointers_sound t.threads → false ≡ rules_hold t
unfolding rules_hold
unsound t e = rw (← e)
