use Rattle.text.proofs.Puts.{put_none}
use Rattle.script.proofs.print.put_record.Goals as goal

pub returns-in-Nothing : goal.returns-in-Nothing
returns-in-Nothing c = rw c.in-Nothing.is (put_none c.min.ensures)

pub returns-in-Unread : goal.returns-in-Unread
returns-in-Unread c = rw c.in-Unread.is (put_none c.min-in-Unread.ensures)
