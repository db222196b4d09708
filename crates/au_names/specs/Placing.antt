-- The modules of a program by their names.
use Rattle.std.specs.Prelude.{ℕ, ◌+◌, List, [], ◌∷◌}
use Rattle.au_syntax.specs.Plain.{Bytes}
use Rattle.au_modules.specs.Programs.{ModuleParts}

-- the names of modules, each with its place, counted on from the first one's
abbrev pub places_from : ℕ → List ModuleParts → List (Bytes × ℕ)
places_from place [] = []
places_from place (m ∷ modules) = (m.name, place) ∷ places_from (place + 1) modules
