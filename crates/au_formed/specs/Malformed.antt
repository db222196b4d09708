-- What is written in a declaration and isn't well formed: the first in the order of the text.
use Rattle.std.specs.Prelude.{Bool, true, false, not, List, Option, Some}
use Rattle.au_base.specs.declared.places.Pos.{Pos}
use Rattle.au_syntax.specs.Plain.{Bytes}
use Rattle.au_syntax.specs.Types.{WrittenType}
use Rattle.au_types.specs.Types.{Meaning}
use Rattle.au_judged_types.specs.Reasons.{Outcome, means, fails}
use Rattle.au_imports.specs.Choices.{first_of, where_so}
use Rattle.au_matching.specs.Forming.{wants_region}
use Rattle.au_types.specs.Senses.{Sense, a_class as class_sense}
use Rattle.au_formed.specs.Writings.{Writing, a_type, a_class, a_universe, place_of}

-- whether nothing is meant
abbrev pub is_failure : {A : Type 0} → Outcome A → Bool
is_failure (means x) = false
is_failure (fails why) = true

-- whether a name with this sense means a class
abbrev pub is_class : Option Sense → Bool
is_class (Some (class_sense at)) = true
is_class other = false

-- by what a written type is judged to mean, and by what a name means among types and classes
module _ (judge : WrittenType → Outcome Meaning) (sense : Bytes → Option Sense) where
  -- whether something that is written isn't well formed: a type that is judged to fail, a name that means no
  -- class, and the universe of regions
  abbrev pub is_ill : Writing → Bool
  is_ill (a_type t) = is_failure (judge t)
  is_ill (a_class name) = not (is_class (sense name.name))
  is_ill (a_universe at universe) = wants_region universe

  -- the place of what isn't well formed
  abbrev pub ill_place : Writing → Option Pos
  ill_place w = where_so (is_ill w) (place_of w)

  -- the place of the first that isn't
  abbrev pub malformed : List Writing → Option Pos
  malformed written = first_of ill_place written
