-- The settings: fields laid out like call records, and the fresh card that they make.
-- Assumes nothing.
use Rattle.std.specs.Prelude.{ℕ, zero, suc, ◌+◌, ◌*◌, Bool, true, ◌&&◌, List, [], ◌∷◌, map, length, replicate, ◌==◌}
use Rattle.lists.specs.Lists.{when◌then◌else◌}
use Rattle.calls.specs.Record.{byte}
use Rattle.debounce.specs.declared.Card.{Card}
use Rattle.debounce.specs.declared.Made.{Made}
use Rattle.debounce.specs.Rule.{Setting}
use Rattle.debounce.specs.Card.{good_setting, opened, no_contact, no_tasks, start_all}

-- two bytes as a number, the high byte first
abbrev pub two : ℕ → ℕ → ℕ
two a b = a * 256 + b

-- the setting of the field at index i, which is that of contact i + 1: six bytes each
abbrev pub setting_at : List ℕ → ℕ → Setting
setting_at b i = record { n = byte b (i * 6 + 3); p = two (byte b (i * 6 + 4)) (byte b (i * 6 + 5)) }

-- the field at index i: tag i + 1, length 3, n and p in range
abbrev pub good_field : List ℕ → ℕ → Bool
good_field b i =
    (byte b (i * 6) == i + 1) && byte b (i * 6 + 1) == 0 && byte b (i * 6 + 2) == 3
    && good_setting (setting_at b i).n (setting_at b i).p

-- so many fields from index i on
abbrev pub good_from : ℕ → ℕ → List ℕ → Bool
good_from zero i b = true
good_from (suc k) i b = good_field b i && good_from k (i + 1) b

-- tags 1 to 8 in ascending order, each once, and nothing else
unfoldable pub good_settings : List ℕ → Bool
good_settings b = length b == 48 && good_from 8 0 b

-- the settings of so many fields from index i on
abbrev pub settings_from : ℕ → ℕ → List ℕ → List Setting
settings_from zero i b = []
settings_from (suc k) i b = setting_at b i ∷ settings_from k (i + 1) b

-- the settings of all contacts
unfoldable pub settings_in : List ℕ → List Setting
settings_in b = settings_from 8 0 b

-- a fresh card: every contact is open, and its task delays p ticks
abbrev pub fresh_card : List Setting → Card
fresh_card xs = record { supervisor = start_all no_tasks (map opened xs); contacts = map opened xs }

-- no card: one without tasks
abbrev pub no_card : Card
no_card = record { supervisor = no_tasks; contacts = replicate 8 no_contact }

-- what the bytes of settings make; 17 BAD_SETTING and no card for anything but good settings
abbrev pub fresh_of : List ℕ → Made
fresh_of b = when good_settings b then record { refusal = 0; card = fresh_card (settings_in b) } else record { refusal = 17; card = no_card }
