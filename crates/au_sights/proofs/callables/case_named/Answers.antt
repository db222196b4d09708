use Rattle.au_syntax.specs.contracts.parsed.ParsedPhase.TheImpl.{ghosts as parsed}
use Rattle.au_syntax.specs.Plain.{plain_variant}
use Rattle.au_syntax.specs.Views.{variant}
use Rattle.au_typing.specs.Called.{is_case}
use Rattle.au_sights.proofs.FollowedLemmas.{found_nowhere}
use Rattle.au_sights.proofs.callables.case_named.Goals as goal

pub returns : goal.returns
returns c =
    found_nowhere (plain_variant parsed.name_bytes) (variant parsed) (is_case c.args.name.now)
    c.args.cases.now.items c.deref-one-items.result.now c.loop-one.one-index
    c.deref-one-items.ensures.value c.loop-one-test.false c.loop-one.invariant
