-- What names lead to in the body of a module, under what is given for the type parameters of a function.
use Rattle.std.specs.Prelude.{ℕ, List, [], Option, None, Some, find, position, slice_get, unwrap_or}
use Rattle.std.specs.Option.{option_map}
use Rattle.au_base.specs.declared.kinds.IntKind.{IntKind}
use Rattle.au_shipped.specs.declared.prims.ShippedCall.{ShippedCall}
use Rattle.au_shipped.specs.declared.prims.ShippedCall.TheVariants as calls
use Rattle.au_shipped.specs.Calls.{prim_of}
use Rattle.au_syntax.specs.declared.modules.Part.TheVariants.{Body}
use Rattle.au_syntax.specs.Modules.{Constrained, Header, record_type, union_type, function, class}
use Rattle.au_syntax.specs.Modules.{function_body}
use Rattle.au_syntax.specs.Plain.{Bytes, PlainDeclaration}
use Rattle.au_types.specs.declared.spaces.Space.TheVariants.{Callables}
use Rattle.au_types.specs.Tables as tables
use Rattle.au_types.specs.declared.types.DeclAt.{DeclAt}
use Rattle.au_types.specs.Types.{parameter}
use Rattle.au_matching.specs.Substituted.{substituted}
use Rattle.au_type_texts.specs.Types.{ClosedType, truth, integer}
use Rattle.au_modules.specs.Programs.{ModuleParts}
use Rattle.au_names.specs.declared.targets.Target.{Target}
use Rattle.au_names.specs.HeadsOf.{heads_of}
use Rattle.au_names.specs.Standing.{Standing, standing_at}
use Rattle.au_judged_types.specs.Meanings.{written_params}
use Rattle.au_instances.specs.ClosedInstances.{closed_row}
use Rattle.au_instances.specs.Rows.{Row}
use Rattle.au_typing.specs.Rows.{rows_of}
use Rattle.au_typing.specs.Called.{is_case, is_method}
use Rattle.au_typing.specs.Written.{seen_at}
use Rattle.au_typing.specs.Notes.{Note}
use Rattle.au_closed_trees.specs.ClosedNotes.{Callee, constructor, instance, shipped}
use Rattle.au_type_texts.specs.Given.{Given, closed_under, given_by}
use Rattle.au_closed_trees.specs.TypeNames.{type_names}
use Rattle.au_closing.specs.Instances.{Instance, method_at}

-- ---- what is called

-- what a declaration has under a name that is called: a function with its name and the names of its type
-- parameters that aren't regions, a method with its name and that of its class's parameter, or what makes a
-- value of a type, with the place of the case
pub data Called : Type 0 where
  a_function : Bytes → List Bytes → Called
  a_method : Bytes → Bytes → Called
  a_maker : ℕ → Called

-- a method of a class with this parameter
abbrev pub method_called : Bytes → Header Bytes → Called
method_called param h = a_method h.name.name param

-- a function with these type parameters
abbrev pub function_called : List (Constrained Bytes) → Header Bytes → Called
function_called generics h = a_function h.name.name (type_names (written_params generics))

-- what a declaration has under a name
abbrev pub called_of : Bytes → PlainDeclaration → Option Called
called_of name (function at generics h) = Some (function_called generics h)
called_of name (function_body at generics h body stop) = Some (function_called generics h)
called_of name (class at its_name p methods) =
    option_map (method_called p.name.name) (find (is_method name) methods)
called_of name (record_type at its_name params universe fields) = Some (a_maker 0)
called_of name (union_type at its_name params universe cases) =
    option_map a_maker (position (is_case name) cases)
called_of name other = None

-- the same of a declaration that is found, if it is
abbrev pub called_standing : Bytes → Option Standing → Option Called
called_standing name None = None
called_standing name (Some d) = called_of name d.says

-- ---- shipped calls

-- the kind of integers that a closed type is
abbrev pub kind_of : ClosedType → Option IntKind
kind_of (integer kind) = Some kind
kind_of t = None

-- a shipped call at the truth values, where it has one of its own
abbrev pub at_truth : ShippedCall → ShippedCall
at_truth calls.PrintText = calls.PrintBool
at_truth calls.PrintLnText = calls.PrintLnBool
at_truth call = call

-- a shipped method at a closed type
abbrev pub at_type : ClosedType → ShippedCall → ShippedCall
at_type truth call = at_truth call
at_type t call = call

-- the name of the module at a place of a program
abbrev pub module_name : List ModuleParts → ℕ → Bytes
module_name program place = unwrap_or (option_map (λ (m : ModuleParts). m.name) (slice_get program place)) []

-- a shipped call, if there is one, and else an instance
abbrev pub shipped_or : Option ShippedCall → Instance → Callee (Option Instance)
shipped_or None one = instance (Some one)
shipped_or (Some call) one = shipped call

-- a function of a declaration by its name: what is shipped, or its instance
abbrev pub function_leads : List ModuleParts → Target → Bytes → Given → Callee (Option Instance)
function_leads program target name given =
    shipped_or (prim_of (module_name program target.at.«module») name None)
    (record { of = target; given = given })

-- a method of a class by its name at a closed type, by the row of the class's instance
abbrev pub method_by_row : List ModuleParts → Bytes → ClosedType → Row → Callee (Option Instance)
method_by_row program name t row =
    shipped_or
    (option_map (at_type t) (prim_of (module_name program row.instance.«module») name (kind_of t)))
    (method_at name t row)

-- the constructor of the type of a call's expression under what is given, for the case at a place, and for
-- that of a place that may be none
abbrev pub maker_leads : Given → Note → ℕ → Callee (Option Instance)
maker_leads given note place = constructor (closed_under given note.of) place

abbrev pub case_leads : Given → Note → Option ℕ → Callee (Option Instance)
case_leads given note None = instance None
case_leads given note (Some place) = maker_leads given note place

module _ (program : List ModuleParts) (rows : List Row) where
  -- a method of a class by its name at a closed type, by the row of the class's instance, if there is one
  abbrev pub method_leads : Bytes → ClosedType → Option Row → Callee (Option Instance)
  method_leads name t None = instance None
  method_leads name t (Some row) = method_by_row program name t row

  -- the same of a class
  abbrev pub class_leads : DeclAt → Bytes → ClosedType → Callee (Option Instance)
  class_leads at name t = method_leads name t (closed_row rows (heads_of program) t at)

  -- what is called under what is given, by the note of the call's expression
  abbrev pub called_leads : Given → Note → Target → Option Called → Callee (Option Instance)
  called_leads given note target None = instance None
  called_leads given note target (Some (a_function name names)) =
      function_leads program target name (given_by given (unwrap_or note.call []) names)
  called_leads given note target (Some (a_method name param)) =
      class_leads target.at name (closed_under given (substituted (unwrap_or note.call []) (parameter param)))
  called_leads given note target (Some (a_maker place)) = maker_leads given note place

  -- what a name means that is called, if it means something
  abbrev pub target_leads : Given → Note → Option Target → Callee (Option Instance)
  target_leads given note None = instance None
  target_leads given note (Some target) =
      called_leads given note target (called_standing target.name (standing_at program target.at))

-- ---- arms

-- the name under which what a name means is declared: it stays as it is where it means nothing
abbrev pub declared_name : Bytes → Option Target → Bytes
declared_name name None = name
declared_name name (Some target) = target.name

-- The name of an arm means a case as the name of a call does: the name, as its union declares it, of the case
-- that an arm is for in the body of the module at a place.
abbrev pub case_name : List ModuleParts → ℕ → Bytes → Bytes
case_name program place name = declared_name name (tables.find name (seen_at Callables program place Body))

-- ---- calls

-- What a call of a name leads to in the body of the module at a place, under what is given for the type
-- parameters there, by the note of the call's expression. In a derived program it leads to something.
abbrev pub call_leads : List ModuleParts → ℕ → Given → Note → Bytes → Callee (Option Instance)
call_leads program place given note name =
    target_leads program (rows_of program) given note
    (tables.find name (seen_at Callables program place Body))
