use native.Mathlib.Omega.{arith}
use Prim.Native.Nat.{◌≤◌}
use mathlib.Core.Path.{◌≡◌, sym, ◌∙◌}
use lib.ListN.{length, replicate, take, drop}
use Rattle.calls.specs.Record.{byte}
use Rattle.codec.specs.Layout.{ready_at, callers_at, held_at, delays_at, state_size, decode, lost}
use Rattle.codec.proofs.UsedLaws.{bare_short, is_bare}
use Rattle.codec.proofs.bare_state.Goals as goal

pub returns-then-b-ge-STATE_SIZE : goal.returns-then-b-ge-STATE_SIZE
unfolding decode lost
returns-then-b-ge-STATE_SIZE c =
    let b = c.args.b.now in
    let long : state_size ≤ length b = omega arith in
    let ready : c.line_from-ready.result ≡ take 31 (drop ready_at b) = c.line_from-ready.ensures in
    let callers : c.line_from-callers.result ≡ take 31 (drop callers_at b) = c.line_from-callers.ensures in
    let held : c.line_from-held.result ≡ take 31 (drop held_at b) = c.line_from-held.ensures in
    let delays : c.line_from-delays.result ≡ take 31 (drop delays_at b) = c.line_from-delays.ensures in
    is_bare b long
    (λ i. record {
      core = record {
        clock = c.word-clock.ensures i;
        created = byte b 4;
        tasks = replicate 31 (c.blank_task-tasks.ensures i);
        ready = ready i;
        held = held i;
        delays = delays i;
      };
      callers = callers i;
    })

pub returns : goal.returns
returns c = c.lost_state.ensures ∙ sym (bare_short c.args.b.now c.if-b-ge-STATE_SIZE.false)
