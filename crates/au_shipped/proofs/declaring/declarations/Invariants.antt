use Rattle.std.proofs.Common.{◌≡◌, map, take}
use Rattle.au_syntax.specs.contracts.parsed.ParsedPhase.TheImpl.{ghosts as parsed}
use Rattle.au_syntax.specs.Views.{declaration}
use Rattle.au_shipped.specs.Rows.{declared}
use Rattle.au_shipped.proofs.declaring.declarations.Given as goal

abbrev pub invariant-loop-one : goal.invariant-loop-one
invariant-loop-one l = map (declaration parsed) l.all.items ≡ map (declared l.at) (take l.one-index l.listed)
