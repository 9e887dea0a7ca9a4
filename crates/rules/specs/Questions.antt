-- The questions, asked of the struct: the answer, or that the state is not sound.
-- Assumes nothing.
use Rattle.std.specs.Prelude.{ℕ, Bool, false, not, ◌&&◌, length, Result, Ok, Err}
use Rattle.lists.specs.Lists.{when◌then◌else◌}
use Rattle.rules.specs.State.{State, queue, is_task, place_of, is_completed, running}
use Rattle.rules.specs.Whole.{view, sound_whole}
use Rattle.rules.specs.declared.Supervisor.{Supervisor}
use Rattle.rules.specs.declared.BadState.{BadState}
use Rattle.rules.specs.Tree.{highest_of}

-- ── an answer ──

-- the refusal of a question
abbrev pub bad_state : BadState
bad_state = record {}

-- what is answered where the state is sound
abbrev pub asked_by : {A : Type 0} → Bool → A → Result A BadState
asked_by is_sound a = when is_sound then Ok a else Err bad_state

-- the number of the refusal, 0 if none
abbrev pub refusal_in : {A : Type 0} → Result A BadState → ℕ
refusal_in (Ok a) = 0
refusal_in (Err e) = 2

-- the number that is answered, 0 with a refusal
abbrev pub number_in : Result ℕ BadState → ℕ
number_in (Ok n) = n
number_in (Err e) = 0

-- the yes or no that is answered, no with a refusal
abbrev pub yes_in : Result Bool BadState → Bool
yes_in (Ok b) = b
yes_in (Err e) = false

-- ── of the state v that a struct stands for, where the struct is sound if so said: for either engine ──

-- COUNT: the length of the queue of entry e of task t
abbrev pub count_by : Bool → State → ℕ → ℕ → Result ℕ BadState
count_by is_sound v t e = asked_by is_sound (length (queue v t e))

-- CALLABLE: t was created and has not completed
abbrev pub callable_by : Bool → State → ℕ → Result Bool BadState
callable_by is_sound v t = asked_by is_sound (is_task v t && not (is_completed (place_of v t)))

-- who runs: the head of the highest ready queue that is not empty, 0 where nobody is ready
abbrev pub running_by : Bool → State → Result ℕ BadState
running_by is_sound v = asked_by is_sound (running v)

-- the priority of task t, worked out afresh down the tree: the highest created one among itself and everyone below it, 0 for a number not created
abbrev pub priority_by : Bool → State → ℕ → Result ℕ BadState
priority_by is_sound v t = asked_by is_sound (highest_of v 30 t)

-- ── of the first engine ──

unfoldable pub count_whole : Supervisor → ℕ → ℕ → Result ℕ BadState
count_whole s t e = count_by (sound_whole s) (view s) t e

unfoldable pub callable_whole : Supervisor → ℕ → Result Bool BadState
callable_whole s t = callable_by (sound_whole s) (view s) t

unfoldable pub running_whole : Supervisor → Result ℕ BadState
running_whole s = running_by (sound_whole s) (view s)

unfoldable pub priority_whole : Supervisor → ℕ → Result ℕ BadState
priority_whole s t = priority_by (sound_whole s) (view s) t
