use Rattle.std.proofs.Common.{Some, ap, ◌∙◌}
use Rattle.au_syntax.specs.contracts.parsed.ParsedPhase.TheImpl.{ghosts as parsed}
use Rattle.au_syntax.specs.Plain.{plain_header}
use Rattle.au_syntax.specs.Views.{header}
use Rattle.au_classes.specs.Indices.{with_key}
use Rattle.au_classes.proofs.IndexLemmas.{first_next}
use Rattle.au_classes.specs.Views.{called_by}
use Rattle.au_classes.proofs.methods.signatures_by_name.Goals as goal

pub loop-index-preserved : goal.loop-index-preserved
loop-index-preserved c =
    first_next (plain_header parsed.name_bytes) (header parsed) called_by c.loop-index.table c.put.new.self
    c.deref-one-items.result.now c.loop-index.index c.one-item.result c.loop-index-test.true c.one-item.is
    c.loop-index.invariant
    (c.in_ok-put.ensures.pairs ∙ ap (λ n. with_key c.loop-index.table (Some n) c.loop-index.index)
    c.as_bytes.ensures.bytes)
