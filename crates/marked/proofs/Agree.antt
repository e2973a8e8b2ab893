-- The definitions give what document 01 prints: its session in full, from the bytes of the image and of the calls, and every line either side of the
-- line. By computation: the checker runs the definitions.
use mathlib.Core.Bool.{true}
use mathlib.Core.Path.{◌≡◌, refl, sym, ap₂, ◌∙◌}
use mathlib.Core.List.{List, ◌∷◌, ◌++◌, map}
use Prim.Native.Nat.{ℕ}
use lib.Count.{ones_in, count_trailing_zeros}
use Rattle.threads.specs.Threads.{without, walk, queues_of, threaded, row, tab, list_of, after, before, counts, count}
use Rattle.words.specs.Words.{◌among◌, below, one_to, some_of, all_of, how_many, same_list, up_by, inserted_by, each, lowest, standing, all_true}
use Rattle.words.proofs.Lists.{map-append}
use Rattle.words.specs.Bytes.{number}
use Rattle.words.specs.Rows.{first_of}
use Rattle.sealed.specs.Sealed.{weighted, check_of}
use Rattle.image.specs.Block.{fillers_zero}
use Rattle.image.specs.Directory as directories
use Rattle.image.specs.Load as loads
use Rattle.tables.specs.Blocks.{waits_in, since_in}
use Rattle.tables.specs.State.{loaded, all_zero}
use Rattle.calls.specs.Calls as calls
use Rattle.meaning.specs.Conditions as conditions
use Rattle.pools.specs.Pools as pools
use Rattle.meaning.specs.Ready as ready
use Rattle.meaning.specs.Finish as finish
use Rattle.meaning.specs.Channel as channel
use Rattle.meaning.specs.Services as services
use Rattle.meaning.specs.Rules as rules
use Rattle.meaning.specs.Refusals as refusals
use Rattle.meaning.specs.Step as step
use Rattle.marked.specs.Played.{call, lines, directory}
use Rattle.marked.specs.Days.{left, long_task, last_task, waits_for_core, runs_now, long_day, other_day}
use Rattle.marked.specs.Session.{session_image, session_calls, session_output}
use Rattle.marked.specs.Marked.{Line, last_of, plant, ran, check_lines, image_lines, core_lines, event_lines, interval_lines, time_lines, refusal_lines, full_lines, marked, Agrees}

-- all definitions of the meaning unfold where this does
computes : ℕ
unfolding ones_in count_trailing_zeros without walk queues_of threaded row tab list_of after before counts count ◌among◌ below one_to some_of all_of how_many same_list up_by inserted_by each lowest standing all_true number first_of weighted check_of fillers_zero directories.entries_pass directories.directory_rows loads.entry_from loads.directory_of loads.block_rows loads.load_rows loads.refused_load loads.load_of waits_in since_in loaded all_zero calls.call_of calls.known calls.needs_task calls.numbers conditions.undefined_in conditions.enough conditions.due_of conditions.holds conditions.awaits_events conditions.in_time conditions.awaits_time conditions.waiting pools.free_at pools.long_enough pools.lowest_start pools.hole_at pools.hole_of pools.shortest pools.smallest_hole pools.start_of ready.start_for ready.fits ready.needs_core ready.given_run ready.readied ready.awaits_core ready.made_ready ready.seated ready.serving ready.served ready.best_ready ready.runs_first ready.dispatched finish.freed_task finish.freed_request finish.given_back finish.pending_of finish.pending finish.freed_if_done finish.freed_done finish.parent_ready finish.finished finish.ended finish.unlinked finish.aborted channel.channel_level channel.queued channel.channel_filled services.stopped services.created services.freemain services.link services.end services.schedule services.wait services.woken services.signal services.test_event services.dispatch_check services.asked services.read_or_write services.awaits_request services.check services.timely services.timer services.io_done services.program_check services.operator_start services.deeds services.deed_of services.effect rules.directory_passes rules.in_range rules.on_defined rules.on_signalled rules.signalled_defined rules.everywhere rules.pointers_sound rules.queue_for rules.tasks_in_place rules.requests_in_place rules.free_sets rules.fields_clear rules.holds_unit rules.core_held rules.upward rules.chains_end rules.idle_only_if_none_ready rules.events_wait rules.core_waits rules.never_past rules.queues_in_order rules.of_their_level rules.core_needed rules.events_pass rules.linked rules.owned rules.checks_pending rules.ending_pending rules.channel_busy rules.state_rules rules.rules_hold refusals.call_rows refusals.refusals step.refused step.accepted step.step_of step.tables_of step.line_of step.load_line call lines directory
computes = 0

-- "A session in full"; and by "the old program" of E8 the same
pub session : step.load_line session_image ∷ lines (step.tables_of pools.SmallestHole session_image) session_calls ≡ session_output
unfolding computes session_image session_calls session_output
session = refl

pub session-lowest : step.load_line session_image ∷ lines (step.tables_of pools.LowestStart session_image) session_calls ≡ session_output
unfolding computes session_image session_calls session_output
session-lowest = refl

-- E8: the two example days. In the one the long task waits by the lowest start and runs by the smallest hole; in the other it is the other way round
pub long-task : (long_day pools.LowestStart ≡ waits_for_core) × (long_day pools.SmallestHole ≡ runs_now long_task)
unfolding computes left long_day
long-task = (refl, refl)

pub other-way-round : (other_day pools.LowestStart ≡ runs_now last_task) × (other_day pools.SmallestHole ≡ waits_for_core)
unfolding computes left other_day
other-way-round = (refl, refl)

-- ---- "Either side of the line": each of its sentences, and all of them.

check-agrees : Agrees check_lines
unfolding computes last_of plant check_lines
check-agrees = record { same = refl }

image-agrees : Agrees image_lines
unfolding computes session_image last_of plant image_lines
image-agrees = record { same = refl }

core-agrees : Agrees core_lines
unfolding computes last_of plant core_lines
core-agrees = record { same = refl }

event-agrees : Agrees event_lines
unfolding computes last_of plant event_lines
event-agrees = record { same = refl }

interval-agrees : Agrees interval_lines
unfolding computes last_of plant interval_lines
interval-agrees = record { same = refl }

time-agrees : Agrees time_lines
unfolding computes last_of plant time_lines
time-agrees = record { same = refl }

refusal-agrees : Agrees refusal_lines
unfolding computes last_of plant refusal_lines
refusal-agrees = record { same = refl }

full-agrees : Agrees full_lines
unfolding computes last_of plant ran full_lines
full-agrees = record { same = refl }

both : {a b : List Line} → Agrees a → Agrees b → Agrees (a ++ b)
both {a} {b} e f =
    record {
      same = map-append (λ (x : Line). x.given) a b
          ∙ ap₂ (λ (l m : List (List ℕ)). l ++ m) e.same f.same
          ∙ sym (map-append (λ (x : Line). x.said) a b);
    }

-- the marks P1 to P12 all stand in the list
pub all-marked : all_of (λ p. p among map (λ (x : Line). x.mark) marked) (one_to 12) ≡ true
unfolding all_of one_to ◌among◌ check_lines image_lines core_lines event_lines interval_lines time_lines refusal_lines full_lines marked
all-marked = refl

pub either_side : Agrees marked
unfolding marked
either_side =
    both
    (both (both (both (both (both (both check-agrees image-agrees) core-agrees) event-agrees) interval-agrees) time-agrees) refusal-agrees)
    full-agrees
