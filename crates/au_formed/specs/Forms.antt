-- What a declaration is refused for, beside names that are declared again and types that are infinite: what
-- isn't well formed first, then a union without a case, then a field above its universe.
use Rattle.std.specs.Prelude.{List, [], Option}
use Rattle.std.specs.Option.{option_map, option_or}
use Rattle.au_syntax.specs.Plain.{Bytes, PlainDeclaration}
use Rattle.au_syntax.specs.Types.{WrittenType}
use Rattle.au_types.specs.declared.headings.Head.{Head}
use Rattle.au_types.specs.declared.parameters.Parameter.{Parameter}
use Rattle.au_types.specs.declared.types.DeclAt.{DeclAt}
use Rattle.au_types.specs.Types.{Meaning}
use Rattle.au_judged_types.specs.Judging.{judged}
use Rattle.au_judged_types.specs.Reasons.{Outcome}
use Rattle.au_promises.specs.Mentions.{type_parameters}
use Rattle.au_matching.specs.declared.universes.TypeUniverse.{TypeUniverse}
use Rattle.au_matching.specs.Universes.{universe_of}
use Rattle.au_types.specs.Senses.{Sense, sense_of}
use Rattle.au_formed.specs.declared.faults.FormFault.{FormFault}
use Rattle.au_formed.specs.declared.faults.FormFault.TheVariants.{Malformed, EmptyUnion, UniverseBelow}
use Rattle.au_formed.specs.Fields.{empty_union, field_above}
use Rattle.au_formed.specs.Malformed.{malformed}
use Rattle.au_formed.specs.Writings.{writings}

-- a declaration, by what a written type is judged to mean, what a name means among types and classes, and the
-- universe of a type
abbrev pub fault_by : (WrittenType → Outcome Meaning) → (Bytes → Option Sense) → (Meaning → TypeUniverse)
    → PlainDeclaration → Option FormFault
fault_by judge sense universe d =
    option_or (option_map Malformed (malformed judge sense (writings d)))
    (option_or (option_map EmptyUnion (empty_union d))
    (option_map UniverseBelow (field_above judge universe d)))

-- among the names of types and classes that are visible and the rows of the declared types
module _ (visible : List (Bytes × DeclAt)) (heads : List (DeclAt × Head)) where
  -- a declaration in the scope of these type parameters
  abbrev pub fault_in : List Parameter → PlainDeclaration → Option FormFault
  fault_in params d =
      fault_by (judged [] params visible heads) (sense_of [] params visible heads)
      (universe_of heads params) d

  -- a declaration in the scope of its own
  abbrev pub form_fault : PlainDeclaration → Option FormFault
  form_fault d = fault_in (type_parameters d) d
