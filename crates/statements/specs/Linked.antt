-- Statement 1 of the functions that other programs link: those of `card`, for C and Ada, those of `workspace`, and the small ones of `calls`.
-- Assumes nothing.
use Rattle.std.specs.Prelude.{◌≡◌}
use seplogic.Ra.Ura.{Ura}
use base.Logic.{SProp, emp}
use contract.Monad.{Fun}
use types.Logic.{Logic}
use prog.Memory.{Memory}
use prog.Routine.{Routine}
use Rattle.lists.specs.Once.{AsksNothing}
use Rattle.card.proofs.card_empty.Statement as card_empty
use Rattle.card.proofs.card_sound.Statement as card_sound
use Rattle.card.proofs.card_step.Statement as card_step
use Rattle.card.proofs.card_count.Statement as card_count
use Rattle.card.proofs.card_callable.Statement as card_callable
use Rattle.card.proofs.card_running.Statement as card_running
use Rattle.card.proofs.card_priority.Statement as card_priority
use Rattle.card.proofs.by_rows.second_empty.Statement as second_empty
use Rattle.card.proofs.by_rows.second_sound.Statement as second_sound
use Rattle.card.proofs.by_rows.second_step.Statement as second_step
use Rattle.card.proofs.by_rows.second_count.Statement as second_count
use Rattle.card.proofs.by_rows.second_callable.Statement as second_callable
use Rattle.card.proofs.by_rows.second_priority.Statement as second_priority
use Rattle.card.proofs.by_rows.second_running.Statement as second_running
use Rattle.card.proofs.contacts.debounce_fresh.Statement as debounce_fresh
use Rattle.card.proofs.contacts.debounce_tick.Statement as debounce_tick
use Rattle.card.proofs.card_empty.Reads as of-card-empty
use Rattle.card.proofs.card_sound.Reads as of-card-sound
use Rattle.card.proofs.card_step.Reads as of-card-step
use Rattle.card.proofs.card_count.Reads as of-card-count
use Rattle.card.proofs.card_callable.Reads as of-card-callable
use Rattle.card.proofs.card_running.Reads as of-card-running
use Rattle.card.proofs.card_priority.Reads as of-card-priority
use Rattle.card.proofs.by_rows.second_empty.Reads as of-second-empty
use Rattle.card.proofs.by_rows.second_sound.Reads as of-second-sound
use Rattle.card.proofs.by_rows.second_step.Reads as of-second-step
use Rattle.card.proofs.by_rows.second_count.Reads as of-second-count
use Rattle.card.proofs.by_rows.second_callable.Reads as of-second-callable
use Rattle.card.proofs.by_rows.second_priority.Reads as of-second-priority
use Rattle.card.proofs.by_rows.second_running.Reads as of-second-running
use Rattle.card.proofs.contacts.debounce_fresh.Reads as of-debounce-fresh
use Rattle.card.proofs.contacts.debounce_tick.Reads as of-debounce-tick
use Rattle.workspace.specs.contracts.fresh as fresh-contract
use Rattle.workspace.specs.contracts.request as request-contract
use Rattle.workspace.specs.contracts.release as release-contract
use Rattle.workspace.proofs.fresh.Statement as fresh
use Rattle.workspace.proofs.request.Statement as request
use Rattle.workspace.proofs.release.Statement as release
use Rattle.workspace.proofs.owned.fresh.Statement as owned_fresh
use Rattle.workspace.proofs.owned.request.Statement as owned_request
use Rattle.workspace.proofs.owned.release.Statement as owned_release
use Rattle.workspace.proofs.owned.fresh.Reads as of-owned-fresh
use Rattle.workspace.proofs.owned.request.Reads as of-owned-request
use Rattle.workspace.proofs.owned.release.Reads as of-owned-release
use Rattle.calls.proofs.durations.ticks.Statement as ticks
use Rattle.calls.proofs.durations.word.Statement as word
use Rattle.calls.proofs.durations.bytes_of.Statement as bytes_of
use Rattle.calls.proofs.modes.ModeFromCallMode.from.Statement as mode_of_call
use Rattle.calls.proofs.modes.ModeFromSelectMode.from.Statement as mode_of_select
use Rattle.calls.proofs.numbers.U8FromReadError.from.Statement as read_error_number
use Rattle.calls.proofs.numbers.U8FromShortRoom.from.Statement as short_room_number
use Rattle.calls.proofs.durations.ticks.Reads as of-ticks
use Rattle.calls.proofs.durations.word.Reads as of_word
use Rattle.calls.proofs.durations.bytes_of.Reads as of-bytes-of
use Rattle.calls.proofs.modes.ModeFromCallMode.from.Reads as of-mode-of-call
use Rattle.calls.proofs.modes.ModeFromSelectMode.from.Reads as of-mode-of-select
use Rattle.calls.proofs.numbers.U8FromReadError.from.Reads as of-read-error-number
use Rattle.calls.proofs.numbers.U8FromShortRoom.from.Reads as of-short-room-number

-- the contracts over lent tables ask nothing: `requires` is the claim that always holds, in each model of the toolchain's logic (of such contracts
-- the toolchain makes no plainer reading)
pub record LentAsks {M : Type 1} {𝓤 : Ura M} (𝓛 : Logic 𝓤) (mem : Memory → SProp 𝓤) (run : Routine → Fun 𝓤) : Type 2 where
  pub fresh : (κs : _) (x : _) → (fresh-contract.clauses 𝓛 mem run κs x).requires tt ≡ emp 𝓤
  pub request : (κs : _) (x : _) → (request-contract.clauses 𝓛 mem run κs x).requires tt ≡ emp 𝓤
  pub release : (κs : _) (x : _) → (release-contract.clauses 𝓛 mem run κs x).requires tt ≡ emp 𝓤

pub record Linked : Type 2 where
  -- "ends and does nothing undefined on every input": what the gate proves of each function, under its name
  pub card_empty : {M : Type 1} → card_empty.statement M
  pub card_sound : {M : Type 1} → card_sound.statement M
  pub card_step : {M : Type 1} → card_step.statement M
  pub card_count : {M : Type 1} → card_count.statement M
  pub card_callable : {M : Type 1} → card_callable.statement M
  pub card_running : {M : Type 1} → card_running.statement M
  pub card_priority : {M : Type 1} → card_priority.statement M
  pub second_empty : {M : Type 1} → second_empty.statement M
  pub second_sound : {M : Type 1} → second_sound.statement M
  pub second_step : {M : Type 1} → second_step.statement M
  pub second_count : {M : Type 1} → second_count.statement M
  pub second_callable : {M : Type 1} → second_callable.statement M
  pub second_priority : {M : Type 1} → second_priority.statement M
  pub second_running : {M : Type 1} → second_running.statement M
  pub debounce_fresh : {M : Type 1} → debounce_fresh.statement M
  pub debounce_tick : {M : Type 1} → debounce_tick.statement M
  pub fresh : {M : Type 1} → fresh.statement M
  pub request : {M : Type 1} → request.statement M
  pub release : {M : Type 1} → release.statement M
  pub owned_fresh : {M : Type 1} → owned_fresh.statement M
  pub owned_request : {M : Type 1} → owned_request.statement M
  pub owned_release : {M : Type 1} → owned_release.statement M
  pub ticks : {M : Type 1} → ticks.statement M
  pub word : {M : Type 1} → word.statement M
  pub bytes_of : {M : Type 1} → bytes_of.statement M
  pub mode_of_call : {M : Type 1} → mode_of_call.statement M
  pub mode_of_select : {M : Type 1} → mode_of_select.statement M
  pub read_error_number : {M : Type 1} → read_error_number.statement M
  pub short_room_number : {M : Type 1} → short_room_number.statement M
  -- "on every input": no contract asks anything of its caller
  pub card_empty_asks : AsksNothing of-card-empty.Asked
  pub card_sound_asks : AsksNothing of-card-sound.Asked
  pub card_step_asks : AsksNothing of-card-step.Asked
  pub card_count_asks : AsksNothing of-card-count.Asked
  pub card_callable_asks : AsksNothing of-card-callable.Asked
  pub card_running_asks : AsksNothing of-card-running.Asked
  pub card_priority_asks : AsksNothing of-card-priority.Asked
  pub second_empty_asks : AsksNothing of-second-empty.Asked
  pub second_sound_asks : AsksNothing of-second-sound.Asked
  pub second_step_asks : AsksNothing of-second-step.Asked
  pub second_count_asks : AsksNothing of-second-count.Asked
  pub second_callable_asks : AsksNothing of-second-callable.Asked
  pub second_priority_asks : AsksNothing of-second-priority.Asked
  pub second_running_asks : AsksNothing of-second-running.Asked
  pub debounce_fresh_asks : AsksNothing of-debounce-fresh.Asked
  pub debounce_tick_asks : AsksNothing of-debounce-tick.Asked
  pub lent_asks : {M : Type 1} {𝓤 : Ura M} (𝓛 : Logic 𝓤) (mem : Memory → SProp 𝓤) (run : Routine → Fun 𝓤) → LentAsks 𝓛 mem run
  pub owned_fresh_asks : AsksNothing of-owned-fresh.Asked
  pub owned_request_asks : AsksNothing of-owned-request.Asked
  pub owned_release_asks : AsksNothing of-owned-release.Asked
  pub ticks_asks : AsksNothing of-ticks.Asked
  pub word_asks : AsksNothing of_word.Asked
  pub bytes_of_asks : AsksNothing of-bytes-of.Asked
  pub mode_of_call_asks : AsksNothing of-mode-of-call.Asked
  pub mode_of_select_asks : AsksNothing of-mode-of-select.Asked
  pub read_error_number_asks : AsksNothing of-read-error-number.Asked
  pub short_room_number_asks : AsksNothing of-short-room-number.Asked
