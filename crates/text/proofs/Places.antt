-- A fact at the place of a goal: a part of what the goal asks for, told by itself.
-- Assumes nothing.

abbrev pub At : {P : Type 0} {G : P → Type 0} → (((c : P) → G c) → (c : P) → G c) → (P → Type 0) → Type 0
At {P} n A = (c : P) → A c
