use Rattle.script.proofs.Growing.{put_grown}
use borrow.Author.Rules.{rules}
use Rattle.script.proofs.row.Row.with_byte.Goals as goal

pub returns : goal.returns
returns c = put_grown c.args.self (search rules) c.put_byte-place.ensures
