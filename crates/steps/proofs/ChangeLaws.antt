-- Who is gone, and who comes: what is read off what a call gave is what the rules say of the callers.
-- Assumes nothing.
use Rattle.std.proofs.Common.{◌≡◌, ℕ, suc, ◌+◌, ◌-◌, ◌*◌, ◌<◌, ◌≤◌, Bool, true, false, eqb, ltb, List, [], ◌∷◌, ◌++◌, map, length, drop, set, sym, refl, ap, ◌∙◌, append-nil, arith, get_or-drop, drop-drop, ltb-false, ltb-true}
use Rattle.calls.specs.Record.{byte}
use Rattle.calls.specs.declared.Call as C
use Rattle.lists.specs.Line.{line, pad}
use Rattle.lists.specs.Lists.{when◌then◌else◌, bit, filter, count}
use Rattle.lists.specs.Marks.{no_marks, mark_of, marked, with_mark}
use Rattle.lists.proofs.LineLaws.{line_picked}
use Rattle.lists.proofs.ListLaws.{by_bool}
use Rattle.lists.proofs.MarkLaws.{filter_same, out, unmarked}
use Rattle.rules.specs.State.{State, is_queued}
use Rattle.rules.specs.Step.{took, room_after}
use Rattle.rules.specs.Whole.{pack_core}
use Rattle.rules.specs.Callers.{accepted_in, gone_by, comes_by, Told}
use Rattle.rules.specs.declared.Item.{Item}
use Rattle.rules.specs.declared.Task.{Task}
use Rattle.rules.proofs.Invariant.{Sound}
use Rattle.rules.proofs.Members.{nth_beyond}
use Rattle.steps.specs.Taken.{taken_as}
use Rattle.steps.specs.Change.{task_at, partner_at, bytes_in, one, comes_of, line_by}
use Rattle.steps.specs.declared.answers.Taken.{Taken}

-- ── the loop ──

pub marked_append : (a b m : List ℕ) → marked one (a ++ b) m ≡ marked one b (marked one a m)
marked_append [] b m = refl
marked_append (t ∷ a) b m = marked_append a b (set m t 1)

pub bytes_on : (k : ℕ) (room m next : List ℕ) (n i t : ℕ) → i < n → t ≡ byte room (i * 4 + k) → next ≡ set m t 1
    → marked one (bytes_in k (n - i) (drop (i * 4) room)) m ≡ marked one (bytes_in k (n - (i + 1)) (drop ((i + 1) * 4) room)) next
bytes_on k room m next n i t h et en =
    let q : n - i ≡ suc (n - (i + 1)) = omega arith in
    let b : byte (drop (i * 4) room) k ≡ t = get_or-drop (i * 4) room k 0 ∙ sym et in
    let y : i * 4 + 4 ≡ (i + 1) * 4 = omega arith in
    let d : drop 4 (drop (i * 4) room) ≡ drop ((i + 1) * 4) room = drop-drop 4 (i * 4) room ∙ ap (λ (z : ℕ). drop z room) y in
    ap (λ (z : ℕ). marked one (bytes_in k z (drop (i * 4) room)) m) q
    ∙ (λ j. marked one (bytes_in k (n - (i + 1)) (d j)) (set m (b j) 1))
    ∙ ap (marked one (bytes_in k (n - (i + 1)) (drop ((i + 1) * 4) room))) (sym en)

pub bytes_end : (k : ℕ) (room m : List ℕ) (n i : ℕ) → n ≤ i → marked one (bytes_in k (n - i) (drop (i * 4) room)) m ≡ m
bytes_end k room m n i h = let q : n - i ≡ 0 = omega arith in ap (λ (z : ℕ). marked one (bytes_in k z (drop (i * 4) room)) m) q

pub line_joins : (m : List ℕ) (b : Bool) (t : ℕ) (l kept : List ℕ) {r : List ℕ} → length l ≡ 31 → kept ≡ pad (with_mark m 0 (line l)) → r ≡ pad (line kept ++ (t ∷ [])) → b ≡ true → r ≡ line_by m b t l
line_joins m b t l kept h ek er y = er ∙ ap (λ (k : List ℕ). pad (k ++ (t ∷ []))) (ap line ek ∙ line_picked (λ x. eqb (mark_of m x) 0) l h) ∙ sym (rw y)

-- ── the room ──

-- the tasks, and the partners, of the items that were written
pub tasks_written : (room : List ℕ) (l : List Item) → bytes_in task_at (length l) (room_after room l) ≡ map (λ (i : Item). i.task) l
tasks_written room [] = refl
tasks_written room (i ∷ l) = ap (λ (k : List ℕ). i.task ∷ k) (tasks_written (drop 4 room) l)

pub partners_written : (room : List ℕ) (l : List Item) → bytes_in partner_at (length l) (room_after room l) ≡ map (λ (i : Item). i.partner) l
partners_written room [] = refl
partners_written room (i ∷ l) = ap (λ (k : List ℕ). i.partner ∷ k) (partners_written (drop 4 room) l)

-- ── the line ──

-- a task in the line of callers has a mark
pub small : (v : State) → Sound v → (x : ℕ) → 0 < count x v.callers → x < 32
small v h x j =
    by_bool (ltb x 32) (λ b. ltb-true x 32 b)
    (λ b. absurd (omega (arith, j, h.callers x, ap (λ (y : Task). bit (is_queued y.place)) (nth_beyond v.tasks x (omega (arith, h.few, ltb-false x 32 b))))))

-- those without a mark are those who are not gone
pub gone_out : (v : State) (g : List ℕ) → Sound v → with_mark (marked one g no_marks) 0 v.callers ≡ filter (out g) v.callers
gone_out v g h = filter_same _ _ v.callers (λ x j. unmarked g x (λ _. small v h x j))

by_joins : (b : Bool) (k : List ℕ) (t : ℕ) → (when b then pad (k ++ (t ∷ [])) else pad k) ≡ pad (k ++ (when b then t ∷ [] else []))
by_joins true k t = refl
by_joins false k t = ap pad (sym (append-nil k))

-- what a call gave that was taken, as the rules say it of the callers: v is the state, s its core, l its line of callers
pub line_is : (v st : State) (a : Item) (x : List Item) (c : C.Call) (k : Taken) (callers room after m r : List ℕ) (b : Bool) → Sound v → line callers ≡ v.callers → Told c v.callers (took st a x)
    → k ≡ taken_as (pack_core st) a (length x) → after ≡ room_after room x → m ≡ marked one (accepted_in k.result k.partner ++ bytes_in task_at k.ended after) no_marks → b ≡ comes_of c k.refusal k.result k.ended
    → r ≡ line_by m b k.task callers → r ≡ pad st.callers
line_is v st a x c k callers room after m r b h e told ek ea em eb er =
    let m1 : m ≡ marked one (gone_by a x) no_marks =
    em ∙ (λ i. marked one (accepted_in (ek i).result (ek i).partner ++ bytes_in task_at (ek i).ended (ea i)) no_marks)
    ∙ ap (λ (q : List ℕ). marked one (accepted_in a.result a.partner ++ q) no_marks) (tasks_written room x) in
    let b1 : b ≡ comes_by c a.result (length x) = eb ∙ ap (λ (z : Taken). comes_of c z.refusal z.result z.ended) ek in
    let w : with_mark (marked one (gone_by a x) no_marks) 0 (line callers) ≡ filter (out (gone_by a x)) v.callers = ap (with_mark (marked one (gone_by a x) no_marks) 0) e ∙ gone_out v (gone_by a x) h in
    er ∙ (λ i. line_by (m1 i) (b1 i) (ek i).task callers) ∙ by_joins (comes_by c a.result (length x)) (with_mark (marked one (gone_by a x) no_marks) 0 (line callers)) a.task
    ∙ ap (λ (q : List ℕ). pad (q ++ (when comes_by c a.result (length x) then a.task ∷ [] else []))) w ∙ ap pad (sym told)
