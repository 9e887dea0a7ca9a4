use Rattle.std.proofs.Common.{◌≡◌, ℕ, List, [], ◌∷◌, ◌++◌, ap, ◌∙◌, append_assoc, rules}
use mir.Syntax.{w32}
use mir.Val.{to_z, of_z}
use Rattle.calls.specs.declared.Call as C
use Rattle.calls.specs.declared.CallMode.{CallMode}
use Rattle.text.specs.Text.{spaced}
use Rattle.script.specs.CallText.{call_mode_text, text_of}
use Rattle.script.specs.Rows.{Grown}
use Rattle.script.specs.declared.row.Row.{Row}
use Rattle.script.proofs.Growing.{none_grown, same_grown, then_grown}
use Rattle.script.proofs.print.with_entry_call.Goals as goal

-- CALL and its numbers, and how it waits behind them
called : {row k r : Row} (t e : ℕ) (m : CallMode) → Grown row ((67 ∷ 65 ∷ 76 ∷ 76 ∷ []) ++ (spaced t ++ spaced e)) k → Grown k (call_mode_text m) r
    → Grown row (text_of (C.TheVariants.Call t e m)) r
unfolding text_of
called t e m p q =
    let word : List ℕ = 67 ∷ 65 ∷ 76 ∷ 76 ∷ [] in
    same_grown (append_assoc word (spaced t ++ spaced e) (call_mode_text m) ∙ ap (λ (l : List ℕ). word ++ l) (append_assoc (spaced t) (spaced e) (call_mode_text m))) (then_grown p q)

pub returns-in-Simple : goal.returns-in-Simple
unfolding call_mode_text
returns-in-Simple c = called c.args.target c.args.entry c.args.mode c.with_pair-k.ensures (rw c.in-Simple.is (none_grown c.with_pair-k.result (search rules)))

pub returns-in-Timed : goal.returns-in-Timed
unfolding call_mode_text
returns-in-Timed c =
    let d = c.in-Timed.d in
    let e : to_z w32 (of_z w32 d) ≡ d = search rules in
    called c.args.target c.args.entry c.args.mode c.with_pair-k.ensures (rw c.in-Timed.is (rw e at c.with_time.ensures))

pub returns-in-Conditional : goal.returns-in-Conditional
unfolding call_mode_text
returns-in-Conditional c = called c.args.target c.args.entry c.args.mode c.with_pair-k.ensures (rw c.in-Conditional.is c.with_text.ensures)
