use Rattle.std.proofs.Common.{◌≡◌, ◌≤◌, [], take, length}
use Rattle.au_syntax.specs.contracts.parsed.ParsedPhase.TheImpl.{ghosts as parsed}
use Rattle.au_syntax.specs.Plain.{plain_declaration}
use Rattle.au_syntax.specs.Views.{declaration}
use Rattle.au_types.specs.Tables.{with_all}
use Rattle.au_imports.proofs.OfferLemmas.{names_back}
use Rattle.au_imports.proofs.offers.last_table.Given as goal

-- what is left to put comes to the same
abbrev pub invariant-loop-left : goal.invariant-loop-left
invariant-loop-left l = record {
  within : l.left ≤ length l.declarations.items;
  same : with_all l.table (names_back (plain_declaration parsed.name_bytes)
      (declaration parsed) l.space (take l.left l.declarations.items))
      ≡ with_all [] (names_back (plain_declaration parsed.name_bytes)
      (declaration parsed) l.space l.declarations.items);
}

abbrev pub decreases-loop-left : goal.decreases-loop-left
decreases-loop-left l = l.left
