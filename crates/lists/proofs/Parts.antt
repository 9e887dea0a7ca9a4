-- Parts of what is to be shown of a function. A need asks for something at each place c; a part of it asks for less, and is proved by itself.
-- Assumes nothing.
use mathlib.Core.Path.{◌≡◌}
use mathlib.Core.Logic.{◌⊎◌}

-- the need N as it stands: the parts below read off it what it asks for
abbrev pub need : (N : Type 0) → N → N
need N n = n

-- the need where a condition holds
abbrev pub When : {P : Type 0} {G : P → Type 0} → (((c : P) → G c) → (c : P) → G c) → (P → Type 0) → Type 0
When {P} {G} n A = (c : P) → A c → G c

-- what is known where control came by the branch that is taken, and by the one that is left
abbrev pub Taken : {A B : Type 0} → A ⊎ B → Type 0
Taken {A} w = A

abbrev pub Left : {A B : Type 0} → A ⊎ B → Type 0
Left {B = B} w = B

-- of a need that two records are equal, one field
abbrev pub Field : {P A B : Type 0} {x y : P → A} → (((c : P) → x c ≡ y c) → (c : P) → x c ≡ y c) → (A → B) → Type 0
Field {P} {x = x} {y = y} n f = (c : P) → f (x c) ≡ f (y c)

-- of a need for an answer and for a lent room, the one and the other
abbrev pub Answer : {P : Type 0} {G H : P → Type 0} → (((c : P) → G c × H c) → (c : P) → G c × H c) → Type 0
Answer {P} {G} n = (c : P) → G c

abbrev pub Room : {P : Type 0} {G H : P → Type 0} → (((c : P) → G c × H c) → (c : P) → G c × H c) → Type 0
Room {P} {H = H} n = (c : P) → H c
