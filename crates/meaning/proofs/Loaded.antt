-- The table rules hold of the tables of every image that loads. No block is in use, so each rule but two computes, whatever the directory is:
-- the directory passes because it was loaded, and a free block has no core whatever its module's units are. The rule of the grants is one of the two.
use mathlib.Core.Bool.{true, false, or-true}
use mathlib.Core.Path.{◌≡◌, refl, sym, ◌∙◌}
use mathlib.Core.List.{List}
use Prim.Native.Nat.{ℕ, ◌≤◌}
use borrow.Author.Tests.{eq-eqb, le-leb}
use Rattle.threads.specs.Threads.{walk, queues_of, threaded, row, tab, list_of, after, before, counts, count}
use Rattle.words.specs.Words.{◌among◌, below, one_to, all_of, how_many, same_list, up_by, standing, all_true}
use Rattle.words.specs.Rows.{first_of}
use Rattle.image.specs.declared.Directory.{Directory}
use Rattle.answers.specs.Answer.{refusal_of}
use Rattle.image.specs.Directory.{directory_rows}
use Rattle.image.specs.Load.{directory_of, load_of}
use Rattle.image.proofs.Loads.{good, load-accepted, check-is-load}
use Rattle.pools.specs.Pools.{SmallestHole}
use Rattle.tables.specs.Blocks.{waits_in}
use Rattle.tables.specs.State.{loaded, all_zero, tabled, read}
use Rattle.meaning.specs.Conditions.{undefined_in}
use Rattle.meaning.specs.Ready.{needs_core}
use Rattle.meaning.specs.Rules as rules
use Rattle.meaning.specs.Rules.{state_rules, rules_hold}
use Rattle.meaning.specs.Refusals.{refusals}
use Rattle.meaning.specs.Step.{refused, step_of, tables_of}

-- Nine empty queues are sound, and read back as they are.
empty-sound : (b : ℕ) (d : Directory) → rules.pointers_sound (tabled (loaded b d)).threads ≡ true
unfolding loaded rules.pointers_sound rules.everywhere queues_of threaded walk row tab list_of ◌among◌ after before counts count all_of one_to same_list
empty-sound b d = refl

read-loaded : (b : ℕ) (d : Directory) → read (tabled (loaded b d)) ≡ loaded b d
unfolding loaded queues_of threaded walk row tab list_of ◌among◌ after before
read-loaded b d = refl

-- A free block has no core, whatever its module's units are.
free-clear : (b : ℕ) (d : Directory) → rules.fields_clear (loaded b d) ≡ true
unfolding loaded rules.fields_clear waits_in ◌among◌ all_of one_to
free-clear b d = rw or-true

-- All the others compute.
state-rules : (b : ℕ) (d : Directory) → b ≤ SmallestHole → first_of (directory_rows d) ≡ 0 → all_true (state_rules (loaded b d)) ≡ true
unfolding all_true state_rules loaded rules.directory_passes rules.in_range rules.on_defined rules.on_signalled rules.signalled_defined undefined_in rules.tasks_in_place rules.requests_in_place rules.queue_for rules.free_sets rules.core_held rules.holds_unit rules.chains_end rules.upward rules.idle_only_if_none_ready rules.events_wait rules.core_waits rules.never_past rules.queues_in_order rules.of_their_level rules.core_needed needs_core rules.events_pass rules.linked rules.owned rules.checks_pending rules.ending_pending rules.channel_busy standing ◌among◌ up_by how_many all_of one_to below
state-rules b d l e = rw (eq-eqb (first_of (directory_rows d)) 0 e, le-leb b SmallestHole l, free-clear b d)

pub loaded-lawful : (b : ℕ) (d : Directory) → b ≤ SmallestHole → first_of (directory_rows d) ≡ 0 → rules_hold (tabled (loaded b d)) ≡ true
unfolding rules_hold
loaded-lawful b d l e = rw (empty-sound b d, read-loaded b d, state-rules b d l e)

-- "9 | .. never after an accepted load": the tables of an image that loads follow the rules.
pub load-lawful : (b : ℕ) (image : List ℕ) → b ≤ SmallestHole → refusal_of (load_of image).outcome ≡ 0 → rules_hold (tables_of b image) ≡ true
unfolding tables_of
load-lawful b image l e =
    let none = sym (check-is-load image) ∙ e in
    rw (eq-eqb _ _ e, load-accepted image none) (loaded-lawful b (directory_of image) l (good image none).sound)

-- "with all-zero tables, on which every call answers 9"
zero-unlawful : rules_hold (tabled all_zero) ≡ false
unfolding rules_hold all_true state_rules all_zero rules.directory_passes directory_rows first_of rules.pointers_sound rules.everywhere queues_of threaded walk row tab list_of ◌among◌ after before counts count all_of one_to same_list
zero-unlawful = refl

pub zero-refused : (bytes : List ℕ) → step_of (tabled all_zero) bytes ≡ refused (tabled all_zero) 9
unfolding step_of refusals first_of
zero-refused bytes = rw zero-unlawful
