use Rattle.std.proofs.Common.{arith}
use Rattle.text.proofs.Puts.{put_whole, put_kept}
use Rattle.report.specs.Lines.{header}
use Rattle.report.proofs.LineLaws.{header_long}
use Rattle.logs.proofs.started.Goals as goal

pub returns-clause-uncut : goal.returns-clause-uncut
returns-clause-uncut c =
    let a = c.args in
    put_whole a.out.now a.l.flow.waits header _ c.put_header.ensures.written (omega (arith, header_long, c.requires))

pub returns-clause-free : goal.returns-clause-free
returns-clause-free c = let p = c.put_header.ensures in omega (arith, header_long, put_kept p, p.placed, c.requires)
