use Rattle.std.proofs.Common.{◌≡◌, ◌∙◌, arith}
use Rattle.lists.proofs.Parts.{need}
use Rattle.text.specs.Text.{Put}
use Rattle.text.proofs.Places.{At}
use Rattle.text.proofs.Puts.{same_text}
use Rattle.script.specs.CallText.{text_of}
use Rattle.script.proofs.Growing.{alone, fits_whole}
use Rattle.script.proofs.Shape.{text_short}
use Rattle.script.proofs.print.put_call.Goals as goal

-- the bytes that are put are the call's text
text : At (need goal.returns) (λ c. c.text.result.now ≡ text_of c.args.c)
text c =
    let row = c.with_call-row in
    c.text.ensures ∙ fits_whole row.result (alone c.empty.ensures row.ensures.grown) (omega (arith, text_short c.args.c row.ensures.fits))

-- they are put from the place on
put : At (need goal.returns) (λ c. Put c.args.out.now c.args.at c.text.result.now c.put_bytes.new.out c.put_bytes.result)
put c = c.put_bytes.ensures

pub returns : goal.returns
returns c = same_text (text c) (put c)
