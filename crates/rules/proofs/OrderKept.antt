-- Over steps and runs those who go on waiting keep their order in every line, and who joins a line of callers or of those held stands behind them.
-- Assumes nothing.
use Prim.Native.Nat.{ℕ, suc, ◌+◌, ◌<◌}
use mathlib.Core.Path.{◌≡◌, refl, sym, ◌∙◌, ap}
use mathlib.Core.Logic.{◌⊎◌, inl, inr}
use mathlib.Core.Bool.{true, false, ◌&&◌}
use mathlib.Core.List.{List, [], ◌∷◌, ◌++◌}
use native.Mathlib.Omega.{arith}
use lib.ListN.{length}
use lib.Dec.{eqb, ltb, leb}
use borrow.Author.Tests.{eq-eqb, leb-true, leb-false}
use Rattle.lists.specs.Lists.{remove, ahead, first}
use Rattle.lists.proofs.Tests.{no, and_first}
use Rattle.lists.proofs.ListLaws.{clash, by_bool, by_eq}
use Rattle.lists.proofs.AheadLaws.{ahead_remove, ahead_insert, Leads, leads_rejoin}
use Rattle.rules.specs.State.{State, nth, place_of, created, is_queued, is_held, partner_of, entry_of, left, ticks_left, retime, fresh, move, add, queue}
use Rattle.rules.specs.Step.{number, WAITS}
use Rattle.rules.specs.Runs.{Ask, Given, Entry, is_waiting, begins, reasons, ended}
use Rattle.rules.specs.declared.Task.{Task}
use Rattle.rules.specs.declared.Timer.{Timer}
use Rattle.rules.specs.declared.Timer.TheVariants.{Off, Due}
use Rattle.rules.specs.declared.Meeting.{Meeting}
use Rattle.rules.specs.declared.Place.{Place}
use Rattle.rules.specs.declared.Place.TheVariants.{Blank, Ready, Delayed, Queued, Held, Accepting, Completed}
use Rattle.rules.proofs.Invariant.{Sound}
use Rattle.rules.proofs.Members.{there}
use Rattle.rules.proofs.AddLaws.{nth_old, nth_new, nth_further}
use Rattle.rules.proofs.MoveLaws.{place_same, place_other, length_move, rank_place}
use Rattle.rules.proofs.StateRuns.{entry, log_of, reach}
use Rattle.rules.proofs.Fate.{untouched, awake, began, began_held, taken, ran_out, accepted, served, given_up}
use Rattle.rules.proofs.OverRuns.{StepFate, not_taken, was_taken, step_fate, step_sound, reach_sound, number_pos}
use Rattle.rules.proofs.TimedWait.{held_run}
use Rattle.rules.proofs.Moves.{Unmoved, Enters, elsewhere, not-queued, heads, Moves, still, newly, clocked, ranks, goes, step_moved}

-- ── along the moves of a step ──

queued_not_held : (p : Place) → is_queued p ≡ true → is_held p ≡ false
queued_not_held (Queued q) e = refl
queued_not_held Blank e = clash e refl
queued_not_held Ready e = clash e refl
queued_not_held Delayed e = clash e refl
queued_not_held (Held m) e = clash e refl
queued_not_held (Accepting o) e = clash e refl
queued_not_held Completed e = clash e refl

-- a new task is in no rendezvous
held_old : (s : State) (p n u : ℕ) → is_held (place_of (add s p n) u) ≡ true → is_held (place_of s u) ≡ true
held_old s p n u h =
    let x : Task = fresh p n in
    by_bool (leb u (created s))
    (λ e. sym (ap (λ (y : Task). is_held y.place) (nth_old s.tasks x u (leb-true u (created s) e))) ∙ h)
    (λ e. let k = leb-false u (created s) e in
    by_eq u (suc (created s))
    (λ z. clash h (ap (λ (y : Task). is_held y.place) (ap (nth (s.tasks ++ (x ∷ []))) z ∙ nth_new s.tasks x)))
    (λ m. clash h (ap (λ (y : Task). is_held y.place) (nth_further s.tasks x u (omega (arith, k, m))))))

module _ (s : State) (U : ℕ → Type 0) where
  pub callers_lead : (s' : State) → Moves s U s' → (a u : ℕ) → U a → Leads a u s.callers → Leads a u s'.callers
  callers_lead s' still a u k h = h
  callers_lead s' (newly s1 m p n) a u k h = callers_lead s1 m a u k h
  callers_lead s' (clocked s1 m n) a u k h = callers_lead s1 m a u k h
  callers_lead s' (ranks s1 m t n lo hi) a u k h = callers_lead s1 m a u k h
  callers_lead s' (goes s1 m t p w f e) a u k h = leads_rejoin (is_queued p) t a u s1.callers (f a k) (callers_lead s1 m a u k h)

  pub held_lead : (s' : State) → Moves s U s' → (a u : ℕ) → U a → Leads a u s.held → Leads a u s'.held
  held_lead s' still a u k h = h
  held_lead s' (newly s1 m p n) a u k h = held_lead s1 m a u k h
  held_lead s' (clocked s1 m n) a u k h = held_lead s1 m a u k h
  held_lead s' (ranks s1 m t n lo hi) a u k h = held_lead s1 m a u k h
  held_lead s' (goes s1 m t p w f e) a u k h = leads_rejoin (is_held p) t a u s1.held (f a k) (held_lead s1 m a u k h)

  retimed : (now : ℕ) (ts : List Task) (w : Timer) (t a b : ℕ) (l : List ℕ) → (a ≡ t → ⊥) → (b ≡ t → ⊥) → ahead a b (retime now ts w t l) ≡ ahead a b l
  retimed now ts Off t a b l n m = ahead_remove t a b l n m
  retimed now ts (Due d) t a b l n m = ahead_insert (λ x. ltb (left now d) (ticks_left now (nth ts x).timer)) t a b (remove t l) n m ∙ ahead_remove t a b l n m

  pub delays_same : (s' : State) → Moves s U s' → (a b : ℕ) → U a → U b → ahead a b s'.delays ≡ ahead a b s.delays
  delays_same s' still a b k j = refl
  delays_same s' (newly s1 m p n) a b k j = delays_same s1 m a b k j
  delays_same s' (clocked s1 m n) a b k j = delays_same s1 m a b k j
  delays_same s' (ranks s1 m t n lo hi) a b k j = delays_same s1 m a b k j
  delays_same s' (goes s1 m t p w f e) a b k j = retimed s1.clock s1.tasks w t a b s1.delays (f a k) (f b j) ∙ delays_same s1 m a b k j

  -- who comes from a queue into a rendezvous heads that queue
  pub taken_heads : (s' : State) → Moves s U s' → (u : ℕ) → is_queued (place_of s u) ≡ true → is_held (place_of s' u) ≡ true
      → first (queue s (partner_of (place_of s u)) (entry_of (place_of s u))) ≡ u
  taken_heads s' still u q h = clash h (queued_not_held (place_of s u) q)
  taken_heads s' (newly s1 m p n) u q h = taken_heads s1 m u q (held_old s1 p n u h)
  taken_heads s' (clocked s1 m n) u q h = taken_heads s1 m u q h
  taken_heads s' (ranks s1 m t n lo hi) u q h = taken_heads s1 m u q (sym (ap is_held (rank_place s1 t n lo hi u)) ∙ h)
  taken_heads s' (goes s1 m t p w f e) u q h =
      by_eq u t
      (λ z. let i = there (move s1 t p w).tasks t (λ b. clash (rw (z, b) at h) refl) in
      let k : is_held p ≡ true = rw (z, place_same s1 t p w i.0 (omega (arith, i.1, length_move s1 t p w))) at h in
      enters z e k)
      (λ n. taken_heads s1 m u q (rw (place_other s1 t p w u n) at h))
    where
      enters : u ≡ t → Enters s t p → is_held p ≡ true → first (queue s (partner_of (place_of s u)) (entry_of (place_of s u))) ≡ u
      enters z (elsewhere k) h = clash h k
      enters z (not-queued k) h = clash q (rw z k)
      enters z (heads k) h = rw z k

-- ── who goes on waiting over a run ──

-- t waits in one place, and is not listed, over each step of a run
abbrev pub Rests : ℕ → State → List Ask → Type 0
Rests t s [] = Unit {0}
Rests t s (a ∷ rest) = Unmoved s (entry s a).out.state (entry s a).out.ended t × Rests t (entry s a).out.state rest

pub held_some : (p : Place) → is_held p ≡ true → (m : Meeting) × (p ≡ Held m)
held_some (Held m) e = (m, refl)
held_some Blank e = clash e refl
held_some Ready e = clash e refl
held_some Delayed e = clash e refl
held_some (Queued q) e = clash e refl
held_some (Accepting o) e = clash e refl
held_some Completed e = clash e refl

no_items : (l : List ℕ) → length l ≡ 0 → l ≡ []
no_items [] e = refl
no_items (x ∷ xs) e = absurd (omega (arith, e))

-- who is not in a rendezvous at the end of a run in which its wait did not end was in none before
pub not-held : (mid : List Ask) (s : State) (t : ℕ) → Sound s → ended t (log_of s mid) ≡ 0 → is_held (place_of (reach s mid) t) ≡ false → is_held (place_of s t) ≡ false
not-held mid s t h z e = by_bool (is_held (place_of s t)) (λ b. let m = held_some (place_of s t) b in go m.0 (held_run mid s t m.0 h m.1)) (λ b. b)
  where
    go : (m : Meeting) → (place_of (reach s mid) t ≡ Held m) ⊎ (0 < ended t (log_of s mid)) → is_held (place_of s t) ≡ false
    go m (inl q) = clash (rw q) e
    go m (inr q) = absurd (omega (arith, q, z))

-- a wait that a step does not end, and that it brings into no rendezvous, goes on
unmoved : (s : State) (a : Ask) (t : ℕ) → Sound s → is_waiting (place_of s t) ≡ true → reasons t (entry s a).out.ended ≡ []
    → (is_held (place_of s t) ≡ false → is_held (place_of (entry s a).out.state t) ≡ false) → Unmoved s (entry s a).out.state (entry s a).out.ended t
unmoved s a t h w q f = record { waits = w; place = go (entry s a).out refl (step_fate s a t h); quiet = q }
  where
    go : (r : Given) → (entry s a).out ≡ r → StepFate s a.call t r → place_of (entry s a).out.state t ≡ place_of s t
    go r z (not_taken g n e) = rw (z, e)
    go r z (was_taken s' b l c e (untouched p k m)) = rw (z, e) p.place
    go r z (was_taken s' b l c e (awake p k m o)) = clash w p
    go r z (was_taken s' b l c e (began p v k m o n)) = clash w p
    go r z (was_taken s' b l c e (began_held p v k m o)) = clash w p
    go r z (was_taken s' b l c e (taken _ v i p k m o)) = clash (rw (z, e, k)) (f (rw p))
    go r z (was_taken s' b l c e (ran_out v d i k m o)) = no (let y = rw (z, e) at q in cc)
    go r z (was_taken s' b l c e (accepted _ v p k m o)) = no (let y = rw (z, e) at q in cc)
    go r z (was_taken s' b l c e (served v m p k n o i j)) = no (let y = rw (z, e, i, eq-eqb t t refl) at q in cc)
    go r z (was_taken s' b l c e (given_up v m p k n o i)) = no (let y = rw (z, e) at q in cc)

-- a wait that has not ended, and that has come into no rendezvous, stands where it stood
pub rests : (mid : List Ask) (s : State) (t : ℕ) → Sound s → is_waiting (place_of s t) ≡ true → ended t (log_of s mid) ≡ 0
    → (is_held (place_of s t) ≡ false → is_held (place_of (reach s mid) t) ≡ false) → Rests t s mid × (place_of (reach s mid) t ≡ place_of s t)
rests [] s t h w z f = (tt, refl)
rests (a ∷ rest) s t h w z f =
    let s1 = (entry s a).out.state in
    let k = step_sound s a h in
    let j : ended t (log_of s1 rest) ≡ 0 = omega (arith, z) in
    let u = unmoved s a t h w (no_items (reasons t (entry s a).out.ended) (omega (arith, z))) (λ b. not-held rest s1 t k j (f b)) in
    let i = rests rest s1 t k (rw u.place w) j (λ b. f (rw u.place at b)) in
    ((u, i.0), i.1 ∙ u.place)

-- ── the lines over a run ──

pub callers_run : (mid : List Ask) (s : State) (a u : ℕ) → Sound s → Rests a s mid → Leads a u s.callers → Leads a u (reach s mid).callers
callers_run [] s a u h r l = l
callers_run (x ∷ rest) s a u h r l = callers_run rest (entry s x).out.state a u (step_sound s x h) r.1 (callers_lead s _ (entry s x).out.state (step_moved s x h) a u r.0 l)

pub held_line_run : (mid : List Ask) (s : State) (a u : ℕ) → Sound s → Rests a s mid → Leads a u s.held → Leads a u (reach s mid).held
held_line_run [] s a u h r l = l
held_line_run (x ∷ rest) s a u h r l = held_line_run rest (entry s x).out.state a u (step_sound s x h) r.1 (held_lead s _ (entry s x).out.state (step_moved s x h) a u r.0 l)

pub delays_run : (mid : List Ask) (s : State) (a b : ℕ) → Sound s → Rests a s mid → Rests b s mid → ahead a b (reach s mid).delays ≡ ahead a b s.delays
delays_run [] s a b h r q = refl
delays_run (x ∷ rest) s a b h r q =
    delays_run rest (entry s x).out.state a b (step_sound s x h) r.1 q.1 ∙ delays_same s _ (entry s x).out.state (step_moved s x h) a b r.0 q.0

-- ── a wait that begins ──

pub ended_append : (t : ℕ) (l m : List Entry) → ended t (l ++ m) ≡ ended t l + ended t m
ended_append t [] m = omega arith
ended_append t (x ∷ xs) m = omega (arith, ended_append t xs m)

-- whose wait begins in a step waits after it, and did not before
pub begins_waits : (s : State) (a : Ask) (t : ℕ) → Sound s → begins t (entry s a) ≡ true
    → (is_waiting (place_of s t) ≡ false) × (is_waiting (place_of (entry s a).out.state t) ≡ true)
begins_waits s a t h bg = go (entry s a).out refl (step_fate s a t h)
  where
    go : (r : Given) → (entry s a).out ≡ r → StepFate s a.call t r → (is_waiting (place_of s t) ≡ false) × (is_waiting (place_of (entry s a).out.state t) ≡ true)
    go r z (not_taken f k e) = clash (and_first (eqb (number f) 0) (eqb 0 WAITS) (and_first (eqb (number f) 0 && eqb 0 WAITS) (eqb 0 t) (rw (z, e) at bg))) (number_pos f)
    go r z (was_taken s' k l tk e (untouched q m v)) = clash (rw (z, e) at bg) v
    go r z (was_taken s' k l tk e (awake q m f v)) = clash (rw (z, e) at bg) v
    go r z (was_taken s' k l tk e (began q m f v o g)) = (q, rw (z, e, f) m)
    go r z (was_taken s' k l tk e (began_held q mt f o m)) = (q, rw (z, e, f))
    go r z (was_taken s' k l tk e (taken ti wt mt q m n v)) = clash (rw (z, e) at bg) v
    go r z (was_taken s' k l tk e (ran_out u q j m n v)) = clash (rw (z, e) at bg) v
    go r z (was_taken s' k l tk e (accepted ti o q m n v)) = clash (rw (z, e) at bg) v
    go r z (was_taken s' k l tk e (served ti mt q m n o v f)) = clash (rw (z, e) at bg) f
    go r z (was_taken s' k l tk e (given_up ti wt q m n o v)) = clash (rw (z, e) at bg) v

-- a wait that began in the step a and goes on over the runs mid and more, and that is in no rendezvous at their end, or was in one from the start
pub waits_on_lem : (s : State) (a : Ask) (mid more : List Ask) (t : ℕ) → Sound s → begins t (entry s a) ≡ true
    → let s1 = (entry s a).out.state in let s2 = reach s1 mid in
    ended t (log_of s1 mid ++ log_of s2 more) ≡ 0 → is_held (place_of (reach s2 more) t) ≡ false → Rests t s2 more × (place_of (reach s2 more) t ≡ place_of s2 t) × (is_waiting (place_of s2 t) ≡ true)
waits_on_lem s a mid more t h bg en nh =
    let s1 = (entry s a).out.state in
    let s2 = reach s1 mid in
    let h1 = step_sound s a h in
    let h2 = reach_sound mid s1 h1 in
    let w1 = (begins_waits s a t h bg).1 in
    let e1 : ended t (log_of s1 mid) ≡ 0 = omega (arith, en, ended_append t (log_of s1 mid) (log_of s2 more)) in
    let e2 : ended t (log_of s2 more) ≡ 0 = omega (arith, en, ended_append t (log_of s1 mid) (log_of s2 more)) in
    let r1 = rests mid s1 t h1 w1 e1 (λ _. not-held more s2 t h2 e2 nh) in
    let w2 : is_waiting (place_of s2 t) ≡ true = rw r1.1 w1 in
    let r2 = rests more s2 t h2 w2 e2 (λ _. nh) in
    (r2.0, r2.1, w2)

-- ── three steps of a run ──

-- it holds of any three steps of a run of the rules from a sound state
abbrev pub OfAsks : (Entry → List Entry → Entry → List Entry → Entry → Type 0) → Type 0
OfAsks P =
    (s : State) (a : Ask) (mid : List Ask) (b : Ask) (mid' : List Ask) (c : Ask) → Sound s
    → let s1 = (entry s a).out.state in let s2 = reach s1 mid in let s3 = (entry s2 b).out.state in P (entry s a) (log_of s1 mid) (entry s2 b) (log_of s3 mid') (entry (reach s3 mid') c)
