-- Statement 1 of the functions that other programs link, proved.
-- Assumes nothing.
use mathlib.Core.Path.{refl}
use Rattle.card.proofs.card_empty.Met as card_empty
use Rattle.card.proofs.card_sound.Met as card_sound
use Rattle.card.proofs.card_step.Met as card_step
use Rattle.card.proofs.card_count.Met as card_count
use Rattle.card.proofs.card_callable.Met as card_callable
use Rattle.card.proofs.card_running.Met as card_running
use Rattle.card.proofs.card_priority.Met as card_priority
use Rattle.card.proofs.by_rows.second_empty.Met as second_empty
use Rattle.card.proofs.by_rows.second_sound.Met as second_sound
use Rattle.card.proofs.by_rows.second_step.Met as second_step
use Rattle.card.proofs.by_rows.second_count.Met as second_count
use Rattle.card.proofs.by_rows.second_callable.Met as second_callable
use Rattle.card.proofs.by_rows.second_priority.Met as second_priority
use Rattle.card.proofs.by_rows.second_running.Met as second_running
use Rattle.card.proofs.contacts.debounce_fresh.Met as debounce_fresh
use Rattle.card.proofs.contacts.debounce_tick.Met as debounce_tick
use Rattle.workspace.proofs.fresh.Met as fresh
use Rattle.workspace.proofs.request.Met as request
use Rattle.workspace.proofs.release.Met as release
use Rattle.workspace.proofs.owned.fresh.Met as owned_fresh
use Rattle.workspace.proofs.owned.request.Met as owned_request
use Rattle.workspace.proofs.owned.release.Met as owned_release
use Rattle.calls.proofs.durations.ticks.Met as ticks
use Rattle.calls.proofs.durations.word.Met as word
use Rattle.calls.proofs.durations.bytes_of.Met as bytes_of
use Rattle.calls.proofs.modes.ModeFromCallMode.from.Met as mode_of_call
use Rattle.calls.proofs.modes.ModeFromSelectMode.from.Met as mode_of_select
use Rattle.calls.proofs.numbers.U8FromReadError.from.Met as read_error_number
use Rattle.calls.proofs.numbers.U8FromShortRoom.from.Met as short_room_number
use Rattle.statements.specs.Linked.{Linked}

pub linked : Linked
linked = record {
  card_empty = card_empty.met;
  card_sound = card_sound.met;
  card_step = card_step.met;
  card_count = card_count.met;
  card_callable = card_callable.met;
  card_running = card_running.met;
  card_priority = card_priority.met;
  second_empty = second_empty.met;
  second_sound = second_sound.met;
  second_step = second_step.met;
  second_count = second_count.met;
  second_callable = second_callable.met;
  second_priority = second_priority.met;
  second_running = second_running.met;
  debounce_fresh = debounce_fresh.met;
  debounce_tick = debounce_tick.met;
  fresh = fresh.met;
  request = request.met;
  release = release.met;
  owned_fresh = owned_fresh.met;
  owned_request = owned_request.met;
  owned_release = owned_release.met;
  ticks = ticks.met;
  word = word.met;
  bytes_of = bytes_of.met;
  mode_of_call = mode_of_call.met;
  mode_of_select = mode_of_select.met;
  read_error_number = read_error_number.met;
  short_room_number = short_room_number.met;
  card_empty_asks = λ κs x. tt;
  card_sound_asks = λ κs x. tt;
  card_step_asks = λ κs x. tt;
  card_count_asks = λ κs x. tt;
  card_callable_asks = λ κs x. tt;
  card_running_asks = λ κs x. tt;
  card_priority_asks = λ κs x. tt;
  second_empty_asks = λ κs x. tt;
  second_sound_asks = λ κs x. tt;
  second_step_asks = λ κs x. tt;
  second_count_asks = λ κs x. tt;
  second_callable_asks = λ κs x. tt;
  second_priority_asks = λ κs x. tt;
  second_running_asks = λ κs x. tt;
  debounce_fresh_asks = λ κs x. tt;
  debounce_tick_asks = λ κs x. tt;
  lent_asks = λ 𝓛 mem run. record { fresh = λ κs x. refl; request = λ κs x. refl; release = λ κs x. refl };
  owned_fresh_asks = λ κs x. tt;
  owned_request_asks = λ κs x. tt;
  owned_release_asks = λ κs x. tt;
  ticks_asks = λ κs x. tt;
  word_asks = λ κs x. tt;
  bytes_of_asks = λ κs x. tt;
  mode_of_call_asks = λ κs x. tt;
  mode_of_select_asks = λ κs x. tt;
  read_error_number_asks = λ κs x. tt;
  short_room_number_asks = λ κs x. tt;
}
