use Rattle.std.proofs.Common.{◌≡◌, take, map}
use Rattle.au_syntax.specs.Plain.{plain_declaration}
use Rattle.au_syntax.specs.Views.{declaration}
use Rattle.au_types.specs.DeclaredNames.{numbered, table_of}
use Rattle.au_types.proofs.name_tables.table_of_space.Given as goal

-- the table is that of the declarations that are visited
abbrev pub invariant-loop-place : goal.invariant-loop-place
invariant-loop-place g l = l.table ≡ table_of l.space
    (numbered l.first (map (plain_declaration g.P.Phase.name_bytes)
    (map (declaration g.P.Phase) (take l.place l.one-items))))
