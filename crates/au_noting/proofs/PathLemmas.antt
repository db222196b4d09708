-- Names with a path behind them.
use Rattle.std.proofs.Common.{◌≡◌, ◌==◌, ℕ, List, [], ◌∷◌, length, false, refl}
use Rattle.au_syntax.specs.declared.names.Ident.{Ident}
use Rattle.au_syntax.specs.declared.parsed.Parsed.{Parsed}
use Rattle.au_types.specs.Types.{Meaning}
use Rattle.au_typing.specs.Scopes.{Scope}
use Rattle.au_typing.specs.Notes.{Mode}
use Rattle.au_typing.specs.Search.{part_note, path_note}
use Rattle.au_noting.specs.Said.{fields_said}

-- where there is a path, the note is that of a part
pub path_of_some : (scope : Scope) (mode : Mode) (path : List (Ident Parsed (List ℕ) (Unit {0}) (Unit {0})))
    (t : Meaning) → (length path == 0) ≡ false →
    path_note scope mode (fields_said path) t ≡ part_note scope mode t (fields_said path)
path_of_some scope mode [] t some = absurd cc
path_of_some scope mode (field ∷ path) t some = refl
