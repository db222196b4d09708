use Rattle.std.proofs.Common.{◌≡◌, drop}
use Rattle.au_names.specs.Walks.{written_all}
use Rattle.au_closing.specs.Entries.{function_among}
use Rattle.au_closing.proofs.finding.function_among.Given as goal

-- what is left decides
abbrev pub invariant-loop-decl : goal.invariant-loop-decl
invariant-loop-decl l =
    function_among l.name (written_all (drop l.decl-index l.decls)) ≡ function_among l.name (written_all l.decls)
