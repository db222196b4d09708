-- The room holds the front of the file that is read.
use Rattle.std.proofs.Common.{ap}
use Rattle.au_system.proofs.ReadLemmas.{front_read}
use Rattle.au_system.proofs.adapters.read_front.Goals as goal

pub returns-clause-bytes : goal.returns-clause-bytes
returns-clause-bytes g c =
    front_read 1048577 c.take.result.limit (g.F.Read.remaining c.args.file)
    (g.F.Read.remaining c.take.result.inner) _ c.read_to_end.new.buf.items c.truncate.new.self.items
    c.take.ensures.limit (ap g.F.Read.remaining c.take.ensures.inner) c.requires
    c.in_ok-read_to_end.ensures.bytes c.truncate.ensures.items
