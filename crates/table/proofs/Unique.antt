-- Any two answers that the contract of a public function allows are equal.
-- Assumes nothing.
use Rattle.std.proofs.Common.{sym, ◌∙◌}
use Rattle.lists.specs.Once.{Once}
use Rattle.table.proofs.dispatch.running.Reads as running
use Rattle.table.proofs.moves.moved.Reads as moved
use Rattle.table.proofs.moves.met.Reads as met
use Rattle.table.proofs.moves.parted.Reads as parted
use Rattle.table.proofs.moves.woken.Reads as woken
use Rattle.table.proofs.place.is_ready.Reads as is-ready
use Rattle.table.proofs.place.is_queued.Reads as is-queued
use Rattle.table.proofs.place.is_held.Reads as is_held_lem
use Rattle.table.proofs.place.is_completed.Reads as is-completed
use Rattle.table.proofs.place.partner_of.Reads as partner-of
use Rattle.table.proofs.place.entry_of.Reads as entry_of
use Rattle.table.proofs.place.kept_of.Reads as kept_of
use Rattle.table.proofs.place.expiry_of.Reads as expiry-of
use Rattle.table.proofs.place.has_time.Reads as has_time_lem
use Rattle.table.proofs.place.ticks_left.Reads as ticks-left
use Rattle.table.proofs.place.higher_of.Reads as higher-of
use Rattle.table.proofs.place.is_between.Reads as is-between
use Rattle.table.proofs.place.in_range.Reads as in_range_lem
use Rattle.table.proofs.place.is_open.Reads as is_open
use Rattle.table.proofs.place.is_too_wide.Reads as is-too-wide
use Rattle.table.proofs.place.accepts_at.Reads as accepts-at
use Rattle.table.proofs.queues.picked.Reads as picked
use Rattle.table.proofs.tasks.blank_task.Reads as blank_task
use Rattle.table.proofs.tasks.fresh_task.Reads as fresh-task
use Rattle.table.proofs.tasks.placed_at.Reads as placed_at_lem
use Rattle.table.proofs.tasks.ranked_at.Reads as ranked-at
use Rattle.table.proofs.tasks.index_of.Reads as index_of
use Rattle.table.proofs.tasks.shown.Reads as shown
use Rattle.table.proofs.tasks.left_of.Reads as left-of
use Rattle.table.proofs.tasks.task_of.Reads as task-of
use Rattle.table.proofs.tasks.with_task.Reads as with-task
use Rattle.table.proofs.tree.highest_of.Reads as highest-of

-- ── dispatch ──

pub running_once : Once running.Learnt
running_once κs x r r' y y' p q = p ∙ sym q

-- ── moves ──

pub moved_once : Once moved.Learnt
moved_once κs x r r' y y' p q = p ∙ sym q

pub met_once : Once met.Learnt
met_once κs x r r' y y' p q = p ∙ sym q

pub parted_once : Once parted.Learnt
parted_once κs x r r' y y' p q = p ∙ sym q

pub woken_once : Once woken.Learnt
woken_once κs x r r' y y' p q = p ∙ sym q

-- ── place ──

pub is_ready_once : Once is-ready.Learnt
is_ready_once κs x r r' y y' p q = p ∙ sym q

pub is_queued_once : Once is-queued.Learnt
is_queued_once κs x r r' y y' p q = p ∙ sym q

pub is_held_once : Once is_held_lem.Learnt
is_held_once κs x r r' y y' p q = p ∙ sym q

pub is_completed_once : Once is-completed.Learnt
is_completed_once κs x r r' y y' p q = p ∙ sym q

pub partner_of_once : Once partner-of.Learnt
partner_of_once κs x r r' y y' p q = p ∙ sym q

pub entry_of_once : Once entry_of.Learnt
entry_of_once κs x r r' y y' p q = p ∙ sym q

pub kept_of_once : Once kept_of.Learnt
kept_of_once κs x r r' y y' p q = p ∙ sym q

pub expiry_of_once : Once expiry-of.Learnt
expiry_of_once κs x r r' y y' p q = p ∙ sym q

pub has_time_once : Once has_time_lem.Learnt
has_time_once κs x r r' y y' p q = p ∙ sym q

pub ticks_left_once : Once ticks-left.Learnt
ticks_left_once κs x r r' y y' p q = p ∙ sym q

pub higher_of_once : Once higher-of.Learnt
higher_of_once κs x r r' y y' p q = p ∙ sym q

pub is_between_once : Once is-between.Learnt
is_between_once κs x r r' y y' p q = p ∙ sym q

pub in_range_once : Once in_range_lem.Learnt
in_range_once κs x r r' y y' p q = p ∙ sym q

pub is_open_once : Once is_open.Learnt
is_open_once κs x r r' y y' p q = p ∙ sym q

pub is_too_wide_once : Once is-too-wide.Learnt
is_too_wide_once κs x r r' y y' p q = p ∙ sym q

pub accepts_at_once : Once accepts-at.Learnt
accepts_at_once κs x r r' y y' p q = p ∙ sym q

-- ── queues ──

pub picked_once : Once picked.Learnt
picked_once κs x r r' y y' p q = p ∙ sym q

-- ── tasks ──

pub blank_task_once : Once blank_task.Learnt
blank_task_once κs x r r' y y' p q = p ∙ sym q

pub fresh_task_once : Once fresh-task.Learnt
fresh_task_once κs x r r' y y' p q = p ∙ sym q

pub placed_at_once : Once placed_at_lem.Learnt
placed_at_once κs x r r' y y' p q = p ∙ sym q

pub ranked_at_once : Once ranked-at.Learnt
ranked_at_once κs x r r' y y' p q = p ∙ sym q

pub index_of_once : Once index_of.Learnt
index_of_once κs x r r' y y' p q = p.0 ∙ sym q.0

pub shown_once : Once shown.Learnt
shown_once κs x r r' y y' p q = p ∙ sym q

pub left_of_once : Once left-of.Learnt
left_of_once κs x r r' y y' p q = p ∙ sym q

pub task_of_once : Once task-of.Learnt
task_of_once κs x r r' y y' p q = p ∙ sym q

pub with_task_once : Once with-task.Learnt
with_task_once κs x r r' y y' p q = p ∙ sym q

-- ── tree ──

pub highest_of_once : Once highest-of.Learnt
highest_of_once κs x r r' y y' p q = p ∙ sym q
