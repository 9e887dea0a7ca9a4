use Rattle.std.proofs.Common.{◌+◌, ◌-◌, sym, refl, ap, ◌∙◌, arith}
use Rattle.debounce.specs.declared.turns.Turned.{Turned}
use Rattle.lists.proofs.Tests.{between}
use Rattle.debounce.specs.Card.{serve}
use Rattle.debounce.proofs.CodeLaws.{serve_next, serve_stop, serve_done, served_start}
use Rattle.debounce.proofs.turns.served.Goals as goal

pub loop-turn-init : goal.loop-turn-init
loop-turn-init c = refl

pub turn-k-requires : goal.turn-k-requires
turn-k-requires c = between _ 8 (sym c.is_contact.ensures ∙ c.if-not-is_contact.false)

pub loop-turn-preserved : goal.loop-turn-preserved
loop-turn-preserved c =
    let l = c.loop-turn in
    let bits = c.args.bits in
    l.invariant ∙ serve_next l.now l.t bits l._turn (omega arith) (sym c.is_contact.ensures ∙ c.if-not-is_contact.false)
    ∙ ap (λ (k : Turned). serve (8 - (l._turn + 1)) k.card k.next bits) (sym c.turn-k.ensures)

pub returns-then-not-is_contact : goal.returns-then-not-is_contact
returns-then-not-is_contact c =
    let l = c.loop-turn in
    let a = c.args in
    served_start a.card a.next a.bits (sym (l.invariant ∙ serve_stop l.now l.t a.bits l._turn (omega arith) (sym c.is_contact.ensures ∙ c.if-not-is_contact.true)))

pub returns : goal.returns
returns c =
    let l = c.loop-turn in
    let a = c.args in
    served_start a.card a.next a.bits (sym (l.invariant ∙ serve_done l.now l.t a.bits l._turn (omega arith)))
