-- Names of modules, by their parts.
use Rattle.std.specs.Prelude.{ℕ, List, ◌∷◌}
use Rattle.au_syntax.specs.declared.names.Ident.{Ident}
use Rattle.au_syntax.specs.declared.parsed.Parsed.{Parsed}

-- a dot, and the bytes of a part
abbrev pub dotted : Ident Parsed (List ℕ) (Unit {0}) (Unit {0}) → List ℕ
dotted one = 46 ∷ one.name
