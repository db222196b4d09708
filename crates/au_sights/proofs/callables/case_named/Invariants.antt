use Rattle.au_syntax.specs.contracts.parsed.ParsedPhase.TheImpl.{ghosts as parsed}
use Rattle.au_syntax.specs.Plain.{plain_variant}
use Rattle.au_syntax.specs.Views.{variant}
use Rattle.au_typing.specs.Called.{is_case}
use Rattle.au_sights.proofs.FollowedLemmas.{NoneYet}
use Rattle.au_sights.proofs.callables.case_named.Given as goal

-- none so far has the name
abbrev pub invariant-loop-one : goal.invariant-loop-one
invariant-loop-one l = NoneYet (plain_variant parsed.name_bytes) (variant parsed) (is_case l.name) l.one-items
    l.one-index
