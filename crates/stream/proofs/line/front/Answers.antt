use Rattle.std.proofs.Common.{◌≡◌, ◌+◌, ◌-◌, ◌&&◌, ◌||◌, eqb, ltb, length, take, drop, unwrap_or, Option, ℕ, ap, ◌∙◌}
use Rattle.lists.proofs.Parts.{need, Field}
use Rattle.text.proofs.Places.{At}
use Rattle.stream.specs.Lines.{index_of, kind_of, stop_in, front_of}
use Rattle.stream.specs.Windows.{start_in, end_in, unread_in}
use Rattle.stream.specs.declared.window.Window.{Window}
use Rattle.stream.proofs.Firsts.{index_of_position}
use Rattle.stream.proofs.Growing.{unread_length}
use Rattle.stream.proofs.line.front.Goals as goal

-- the window is cut to the buffer
end-here : At (need goal.returns-clause-value) (λ c. c.within-w.result.end ≡ end_in c.args.l.flow.window c.args.buf.now)
end-here c = ap (λ (w : Window). w.end) c.within-w.ensures.value

at_here : At (need goal.returns-clause-value) (λ c. c.within-w.result.at ≡ start_in c.args.l.flow.window c.args.buf.now)
at_here c = ap (λ (w : Window). w.at) c.within-w.ensures.value

last-here : At (need goal.returns-clause-value) (λ c. c.within-w.result.last ≡ c.args.l.flow.window.last)
last-here c = ap (λ (w : Window). w.last) c.within-w.ensures.value

-- what stands unread lies between
unread-here : At (need goal.returns-clause-value) (λ c. take (c.within-w.result.end - c.within-w.result.at) (drop c.within-w.result.at c.args.buf.now) ≡ unread_in c.args.l.flow.window c.args.buf.now)
unread-here c =
    let a = at_here c in
    let e = end-here c in
    λ i. take (e i - a i) (drop (a i) c.args.buf.now)

-- the line end is looked for in it
stop-here : At (need goal.returns-clause-value) (λ c. c.within-w.result.at + c.unwrap_or.result ≡ stop_in c.args.l.flow.window c.args.buf.now)
stop-here c =
    let t = take (c.within-w.result.end - c.within-w.result.at) (drop c.within-w.result.at c.args.buf.now) in
    let found = ap (λ (p : Option ℕ). unwrap_or p (length t)) c.place_of.ensures ∙ index_of_position 10 t ∙ ap (index_of 10) (unread-here c) in
    let n = c.unwrap_or.ensures ∙ found in
    λ i. at_here c i + n i

-- what stands at the front ends there
to-here : Field (need goal.returns-clause-value) (λ p. p.to)
unfolding front_of
to-here c = stop-here c

-- what it is
kind-here : Field (need goal.returns-clause-value) (λ p. p.kind)
unfolding front_of
kind-here c =
    let a = at_here c in
    let e = end-here c in
    let s = stop-here c in
    let l = c.args.l in
    let n = ap length (unread-here c) ∙ unread_length l.flow.window c.args.buf.now in
    let z = last-here c in
    c.kind_of.ensures ∙ (λ i. kind_of (ltb (s i) (e i) || (z i && ltb (a i) (e i))) l.skips (z i) (eqb (n i) (length c.args.buf.now)))

pub returns-clause-value : goal.returns-clause-value
unfolding front_of
returns-clause-value c = λ i. record { from = at_here c i; to = to-here c i; kind = kind-here c i }
