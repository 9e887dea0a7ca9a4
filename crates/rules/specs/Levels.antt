-- Priority in a rendezvous (request (i)), in the request's words: what holds of the acceptor's current priority and of the ready queues in
-- every step in which a rendezvous begins or ends, and that no other step changes a current priority.
-- Assumes nothing.
use Rattle.std.specs.Prelude.{ℕ, ◌≤◌, ◌<◌, ◌≡◌, ◌⊎◌, true, false, List, [], ◌∷◌, ◌++◌, eqb}
use Rattle.lists.specs.Lists.{when◌then◌else◌, remove}
use Rattle.rules.specs.State.{State, place_of, current_of, is_held, level, running, higher}
use Rattle.rules.specs.Sound.{sound}
use Rattle.rules.specs.SoundFacts.{Created}
use Rattle.rules.specs.Step.{Outcome, refused, took, take_call}
use Rattle.rules.specs.declared.Meeting.{Meeting}
use Rattle.rules.specs.declared.Place.TheVariants.{Held}
use Rattle.calls.specs.declared.Call as C

-- a rendezvous begins in the step from s to s': its caller c was not held, and is held now
pub record Begins (s s' : State) (c : ℕ) (m : Meeting) : Type 0 where
  pub free : is_held (place_of s c) ≡ false
  pub held : place_of s' c ≡ Held m

-- a rendezvous ends in the step: its caller c was held, and is not held any more
pub record Ends (s s' : State) (c : ℕ) (m : Meeting) : Type 0 where
  pub held : place_of s c ≡ Held m
  pub free : is_held (place_of s' c) ≡ false

-- the step in which the rendezvous m of caller c begins
pub record WhenBegun (s s' : State) (c : ℕ) (m : Meeting) : Type 0 where
  -- "the acceptor's current priority becomes the higher of its own current one and the caller's"
  pub becomes_higher : current_of s' m.holder ≡ higher (current_of s m.holder) (current_of s c)
  -- what it was before is kept for END
  pub kept : m.kept ≡ current_of s m.holder
  -- "a resumed acceptor joins the tail of the new level"; the caller leaves its own, and nobody else leaves or joins one
  pub resumed_at_tail : (running s ≡ m.holder → ⊥) → level s' (current_of s' m.holder) ≡ remove c (level s (current_of s' m.holder)) ++ (m.holder ∷ [])
  pub resumed_elsewhere : (running s ≡ m.holder → ⊥) → (p : ℕ) → (p ≡ current_of s' m.holder → ⊥) → level s' p ≡ remove c (level s p)
  -- "one already running keeps its place" where the caller's is not higher: every level is as it was
  pub keeps_place : running s ≡ m.holder → current_of s c ≤ current_of s m.holder → (p : ℕ) → level s' p ≡ level s p
  -- "or stands alone on the raised level"; it leaves its old one, and nobody else leaves or joins one
  pub raised_alone : running s ≡ m.holder → current_of s m.holder < current_of s c → level s' (current_of s c) ≡ m.holder ∷ []
  pub raised_elsewhere : running s ≡ m.holder → current_of s m.holder < current_of s c → (p : ℕ) → (p ≡ current_of s c → ⊥) → level s' p ≡ remove m.holder (level s p)

-- the served caller, where level p is its own
abbrev pub served_at : State → ℕ → ℕ → List ℕ
served_at s c p = when eqb (current_of s c) p then c ∷ [] else []

-- the step in which it ends; in every level the served caller, if it is its own, stands at the tail
pub record WhenEnded (s s' : State) (c : ℕ) (m : Meeting) : Type 0 where
  -- "END puts back what it was before"
  pub put_back : current_of s' m.holder ≡ m.kept
  -- "lowered by END, it goes to the head of the old one"; it leaves the raised one
  pub falls_to_head : m.kept < current_of s m.holder → level s' m.kept ≡ (m.holder ∷ level s m.kept) ++ served_at s c m.kept
  pub falls_elsewhere : m.kept < current_of s m.holder → (p : ℕ) → (p ≡ m.kept → ⊥) → level s' p ≡ remove m.holder (level s p) ++ served_at s c p
  -- not lowered, it keeps its place
  pub keeps_place : current_of s m.holder ≡ m.kept → (p : ℕ) → level s' p ≡ level s p ++ served_at s c p

-- a step: whatever rendezvous begins or ends in it
pub record Levels (s s' : State) : Type 0 where
  pub begun : (c : ℕ) (m : Meeting) → Begins s s' c m → WhenBegun s s' c m
  pub ended : (c : ℕ) (m : Meeting) → Ends s s' c m → WhenEnded s s' c m
  -- a current priority stays as it is, but for the acceptor's in a rendezvous that begins or ends
  pub only_then : (u : ℕ) → Created s u → (current_of s' u ≡ current_of s u) ⊎ ((c : ℕ) × (m : Meeting) × (m.holder ≡ u) × (Begins s s' c m ⊎ Ends s s' c m))

-- a refused call changes nothing
abbrev pub LevelsOf : State → Outcome → Type 0
LevelsOf s (refused r) = Unit {0}
LevelsOf s (took s' a l) = Levels s s'

-- of every call in every sound state
abbrev pub RendezvousLevels : Type 0
RendezvousLevels = (s : State) (c : C.Call) → s.clock < 4294967296 → sound s ≡ true → LevelsOf s (take_call s c)
