use mathlib.Core.Path.{◌≡◌, refl, sym, ◌∙◌}
use mathlib.Core.Bool.{true, false}
use borrow.Author.Tests.{eqb-false}
use Rattle.std.specs.Prelude.{length}
use Rattle.calls.specs.Reading.{read_of}
use Rattle.calls.specs.Parts.{bad_frame}
use Rattle.calls.proofs.Frame.{frame_is, read_as, found}
use Rattle.calls.proofs.Exactly.{answers}
use Rattle.calls.proofs.reader.read_record.Goals as goal

pub returns-then-is_empty : goal.returns-then-is_empty
unfolding read_of
returns-then-is_empty c =
    let a = answers c.args.s.now _ (rw (sym c.is_empty.ensures ∙ c.if-is_empty.true)) in
    record { value = a.0; result_value = a.1 }

pub returns-then-bad_frame : goal.returns-then-bad_frame
returns-then-bad_frame c =
    let some = eqb-false (length c.args.s.now) 0 (sym c.is_empty.ensures ∙ c.if-is_empty.false) in
    let a = answers c.args.s.now _ (found _ true _ some (sym c.bad_frame.ensures ∙ c.if-bad_frame.true) refl) in
    record { value = a.0; result_value = a.1 }

-- behind the second test the frame is right
pub bad_body-requires : goal.bad_body-requires
bad_body-requires c = (frame_is c.args.s.now (sym c.bad_frame.ensures ∙ c.if-bad_frame.false)).fits

pub returns-then-bad_body : goal.returns-then-bad_body
returns-then-bad_body c =
    let some = eqb-false (length c.args.s.now) 0 (sym c.is_empty.ensures ∙ c.if-is_empty.false) in
    let right : bad_frame c.args.s.now ≡ false = sym c.bad_frame.ensures ∙ c.if-bad_frame.false in
    let a = answers c.args.s.now _ (found _ false true some right (sym c.bad_body.ensures ∙ c.if-bad_body.true)) in
    record { value = a.0; result_value = a.1 }

pub call_in-requires : goal.call_in-requires
call_in-requires c =
    let f = frame_is c.args.s.now (sym c.bad_frame.ensures ∙ c.if-bad_frame.false) in
    record { tag_value = f.known; tag_in_bounds = f.fits }

pub returns : goal.returns
returns c =
    let some = eqb-false (length c.args.s.now) 0 (sym c.is_empty.ensures ∙ c.if-is_empty.false) in
    let right : bad_frame c.args.s.now ≡ false = sym c.bad_frame.ensures ∙ c.if-bad_frame.false in
    let a = answers c.args.s.now _ (read_as c.args.s.now _ _ c.before.call_in.ensures c.length_of.ensures ∙ found _ false false some right (sym c.bad_body.ensures ∙ c.if-bad_body.false)) in
    record { value = a.0; result_value = a.1 }
