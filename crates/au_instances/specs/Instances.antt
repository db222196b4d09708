-- The instances of classes: which row gives the instance of a class at a type.
use Rattle.std.specs.Prelude.{◌≡◌, ◌&&◌, List, Bool, Some, IsTrue, Contains}
use Rattle.std.specs.List.{list_any}
use Rattle.std.specs.Str.{bytes_eq}
use Rattle.au_syntax.specs.Plain.{Bytes}
use Rattle.au_types.specs.declared.headings.Head.{Head}
use Rattle.au_types.specs.declared.parameters.Parameter.{Parameter}
use Rattle.au_types.specs.declared.types.DeclAt.{DeclAt}
use Rattle.au_types.specs.Rows.{same_place}
use Rattle.au_types.specs.Types.{Meaning, parameter, of_type}
use Rattle.au_matching.specs.Bindings.{Bindings, value_of}
use Rattle.au_judged_types.specs.Bounds.{constrains}
use Rattle.au_instances.specs.Becoming.{Becomes}
use Rattle.au_instances.specs.Rows.{Row}

-- the constraints that are known in scope: names of type parameters, each with a class
abbrev pub Known : Type 0
Known = List (Bytes × DeclAt)

-- whether a class is known to constrain a type parameter
abbrev pub is_known : Known → Bytes → DeclAt → Bool
is_known known name class = list_any (λ one. bytes_eq name one.0 && same_place class one.1) known

mutual
  -- A row gives the instance of a class at a type: it is of the class, its head becomes the type under some
  -- substitution that fits, and each constraint of its parameters holds of the parameter's value.
  pub data Instance (rows : List Row) (heads : List (DeclAt × Head)) (scope : List Parameter) (known : Known)
      : DeclAt → Meaning → Row → Type 0 where
    by_row : (class : DeclAt) (t : Meaning) (row : Row) (s : Bindings)
        → Contains rows row
        → row.class ≡ class
        → Becomes heads scope row t s
        → ((name : Bytes) (wanted : DeclAt) (value : Meaning)
        → IsTrue (constrains row.generics name wanted)
        → value_of name s ≡ Some (of_type value)
        → Holds rows heads scope known wanted value)
        → Instance rows heads scope known class t row

  -- A constraint holds of a type: the type is a type parameter in scope that is known to have it, or some row
  -- gives the instance.
  pub data Holds (rows : List Row) (heads : List (DeclAt × Head)) (scope : List Parameter) (known : Known)
      : DeclAt → Meaning → Type 0 where
    assumed : (class : DeclAt) (name : Bytes)
        → IsTrue (is_known known name class)
        → Holds rows heads scope known class (parameter name)
    given : (class : DeclAt) (t : Meaning) (row : Row)
        → Instance rows heads scope known class t row
        → Holds rows heads scope known class t
