use Rattle.std.proofs.Common.{◌≡◌, ◌++◌, map, drop}
use Rattle.au_names.specs.Methods.{methods_of}
use Rattle.au_names.specs.Walks.{written_all}
use Rattle.au_names.proofs.methods.push_tables.Given as goal

-- what is there, and what is left, come to the same
abbrev pub invariant-loop-decl : goal.invariant-loop-decl
invariant-loop-decl l =
    l.all.items ++ map methods_of (written_all (drop l.decl-index l.decl-items))
    ≡ l.fn.all.items ++ map methods_of (written_all l.decl-items)
