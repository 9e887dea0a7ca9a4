-- CREATE.
-- Assumes nothing.
use Rattle.std.proofs.Common.{◌≡◌, ℕ, suc, ◌+◌, ◌-◌, ◌<◌, ◌≤◌, Bool, true, false, List, [], ◌∷◌, ◌++◌, length, set, replicate, sym, ap, ◌∙◌, arith, length-append, le-leb}
use lib.Seq.{set-append_seam, append_snoc}
use borrow.Author.Tests.{lt-leb}
use Rattle.lists.specs.Line.{line, pad}
use Rattle.rules.specs.State.{State, blank, set_nth, created, add, fresh}
use Rattle.rules.specs.Step.{refused, took, item, DONE, take_call}
use Rattle.rules.specs.declared.Refusal.TheVariants.{BadField, Full}
use Rattle.rules.specs.Sound.{in_range}
use Rattle.rules.specs.Whole.{view_core, pack_core}
use Rattle.rules.specs.declared.Task.{Task}
use Rattle.rules.specs.declared.Core.{Core}
use Rattle.calls.specs.declared.Call.TheVariants.{Create}
use Rattle.table.specs.Moved.{with_task}
use Rattle.steps.specs.Taken.{Stands}
use Rattle.steps.proofs.MoveLaws.{created_is}

module _ (v : State) (p n : ℕ) where
  pub create_bad : (b : Bool) → b ≡ in_range p n → b ≡ false → take_call v (Create p n) ≡ refused BadField
  create_bad b e z = let q : in_range p n ≡ false = sym e ∙ z in rw q

  pub create_full : (b : Bool) → b ≡ in_range p n → b ≡ true → 31 ≤ created v → take_call v (Create p n) ≡ refused Full
  create_full b e z k = let q : in_range p n ≡ true = sym e ∙ z in rw (q, le-leb 31 (created v) k)

  pub create_new : (b : Bool) (t : ℕ) → b ≡ in_range p n → b ≡ true → created v < 31 → t ≡ suc (created v) → take_call v (Create p n) ≡ took (add v p n) (item t DONE 0 0) []
  create_new b t e z k f = let q : in_range p n ≡ true = sym e ∙ z in rw (q, lt-leb 31 (created v) k, f)

pub add_packed : (s k : Core) (p n t : ℕ) (r : List ℕ) {x : Task} → Stands s → s.created < 31 → t ≡ s.created + 1 → x ≡ fresh p n → r ≡ pad (line s.ready ++ (t ∷ []))
    → k ≡ with_task s t x
    → ◌≡◌ {A = Core} (record { clock = k.clock; created = t; tasks = k.tasks; ready = r; held = k.held; delays = k.delays }) (pack_core (add (view_core s) p n))
add_packed s k p n t r h few et ex er ek =
    let v = (view_core s).tasks in
    let x : Task = fresh p n in
    let c : s.created ≡ length v = created_is s h in
    let u : t ≡ suc (length v) = omega arith in
    let y : 31 - length v ≡ suc (30 - length v) = omega arith in
    let z : length (v ++ (x ∷ [])) ≡ suc (length v) = length-append v (x ∷ []) ∙ omega arith in
    let w : 31 - suc (length v) ≡ 30 - length v = omega arith in
    let e : s.tasks ≡ v ++ replicate (31 - length v) blank = ap (λ (r : Core). r.tasks) h.packs in
    let q : set (v ++ replicate (31 - length v) blank) (length v) x ≡ v ++ x ∷ replicate (30 - length v) blank = rw y (set-append_seam v blank (replicate (30 - length v) blank) x) in
    let f : set_nth s.tasks t x ≡ (v ++ (x ∷ [])) ++ replicate (31 - length (v ++ (x ∷ []))) blank =
    ap (λ (l : List Task). set_nth l t x) e ∙ ap (λ (j : ℕ). set_nth (v ++ replicate (31 - length v) blank) j x) u ∙ q
    ∙ sym (append_snoc v x (replicate (30 - length v) blank)) ∙ ap (λ (j : ℕ). (v ++ (x ∷ [])) ++ replicate j blank) (sym (ap (λ (j : ℕ). 31 - j) z ∙ w)) in
    ap (λ (z : Core). record { clock = z.clock; created = t; tasks = z.tasks; ready = r; held = z.held; delays = z.delays }) (ek ∙ ap (with_task s t) ex) ∙ λ i. record {
      clock = s.clock;
      created = (u ∙ sym z) i;
      tasks = f i;
      ready = (er ∙ ap (λ (j : ℕ). pad (line s.ready ++ (j ∷ []))) u) i;
      held = (h.packs i).held;
      delays = (h.packs i).delays;
    }
