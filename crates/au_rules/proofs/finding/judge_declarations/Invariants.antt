use Rattle.std.proofs.Common.{◌≡◌, ◌++◌, map, take}
use Rattle.std.specs.List.{fold}
use Rattle.au_syntax.specs.contracts.parsed.ParsedPhase.TheImpl.{ghosts as parsed}
use Rattle.au_syntax.specs.Plain.{plain_declaration}
use Rattle.au_syntax.specs.Views.{declaration}
use Rattle.au_rules.specs.Marks.{marks}
use Rattle.au_rules.specs.Outside.{is_outside_of}
use Rattle.au_rules.specs.Scopes.{after_all, doubles_in}
use Rattle.au_rules.proofs.finding.judge_declarations.Given as goal

-- the doubles of the declarations that are visited, and the tables behind them
abbrev pub invariant-loop-decl : goal.invariant-loop-decl
invariant-loop-decl l =
    (l.list.items ≡ l.fn.list.items ++ doubles_in (is_outside_of l.here) l.fn.scopes
    (map (marks l.part) (map (plain_declaration parsed.name_bytes)
    (map (declaration parsed) (take l.decl-index l.decl-items)))))
    × (l.scopes ≡ fold after_all l.fn.scopes (map (marks l.part)
    (map (plain_declaration parsed.name_bytes)
    (map (declaration parsed) (take l.decl-index l.decl-items)))))
