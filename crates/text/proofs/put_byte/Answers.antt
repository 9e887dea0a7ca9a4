use Rattle.text.proofs.Puts.{put_one, put_no_room}
use Rattle.text.proofs.put_byte.Goals as goal

pub returns-then-at-out : goal.returns-then-at-out
returns-then-at-out c = put_one c.args.out.now c.args.at c.args.b c.if-at-out.true

pub returns : goal.returns
returns c = put_no_room c.args.out.now c.args.at c.args.b c.if-at-out.false
