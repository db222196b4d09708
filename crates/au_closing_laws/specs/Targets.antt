-- What typing gives of the calls of a program with notes, by which every call of a reached instance leads
-- somewhere: of each call in a body; of what is called there; of the rows of instances of classes; and of the
-- entry.
use Rattle.std.specs.Prelude.{◌≡◌, List, [], ◌∷◌, false, None, Some, Contains, IsTrue, unwrap_or}
use Rattle.au_shipped.specs.declared.prims.ShippedCall.{ShippedCall}
use Rattle.au_shipped.specs.Calls.{prim_of}
use Rattle.au_syntax.specs.declared.declarations.Universe.{Universe}
use Rattle.au_syntax.specs.declared.modules.Part.TheVariants.{Body}
use Rattle.au_syntax.specs.Plain.{Bytes}
use Rattle.au_types.specs.declared.spaces.Space.TheVariants.{Callables}
use Rattle.au_types.specs.Tables as tables
use Rattle.au_types.specs.declared.parameters.Parameter.{Parameter}
use Rattle.au_types.specs.declared.types.DeclAt.{DeclAt}
use Rattle.au_types.specs.Types.{Meaning, parameter}
use Rattle.au_types.specs.Universes.{universe_in}
use Rattle.au_matching.specs.Substituted.{substituted}
use Rattle.au_matching.specs.Forming.{StandsOver, takes}
use Rattle.au_matching.specs.Universes.{universe_of}
use Rattle.au_type_texts.specs.Types.{ClosedType}
use Rattle.au_modules.specs.Programs.{ModuleParts}
use Rattle.au_names.specs.declared.targets.Target.{Target}
use Rattle.au_names.specs.HeadsOf.{heads_of}
use Rattle.au_names.specs.Standing.{standing_at}
use Rattle.au_judged_types.specs.declared.reading.Meant.{Meant}
use Rattle.au_judged_types.specs.declared.reading.Meant.TheVariants as meant
use Rattle.au_judged_types.specs.Bounds.{Bounded, constrains, parameters}
use Rattle.au_judged_types.specs.Meanings.{generics_meant}
use Rattle.au_instances.specs.ClosedInstances.{ClosedInstance}
use Rattle.au_instances.specs.Instances.{Holds}
use Rattle.au_instances.specs.Pairs.{constraints_of}
use Rattle.au_instances.specs.Rows.{Row}
use Rattle.au_instances.specs.Tables.{IsTable}
use Rattle.au_classes.specs.Rows.{rows_of}
use Rattle.au_typing.specs.Written.{seen_at, types_at}
use Rattle.au_typing.specs.Notes.{Note}
use Rattle.au_typing.specs.Trees.{NotedParts, NotedStatements}
use Rattle.au_closed_trees.specs.Calls.{calls_in_block}
use Rattle.au_closed_trees.specs.TypeNames.{is_region, type_names}
use Rattle.au_closing.specs.Bodies.{BodyOf, body_of}
use Rattle.au_closing.specs.Instances.{Instance}
use Rattle.au_closing.specs.Leading.{Called, a_function, a_method, a_maker, called_standing, kind_of}
use Rattle.au_closing.specs.Leading.{module_name}

-- ---- calls

-- a call: the note of its expression, and the name that is called
abbrev pub Call : Type 0
Call = Note × Bytes

-- the calls of a block, in the order of the text
abbrev pub calls_listed : NotedStatements → List Call
calls_listed block = calls_in_block (λ note c name. (note, name) ∷ []) block

-- ---- the type parameters of bodies

-- type parameters with their constraints, and none where one of these means nothing
abbrev pub bounds_in : Meant → List Bounded
bounds_in (meant.Are all) = all
bounds_in (meant.Fails misfit) = []

-- a type parameter of these has this universe, and it isn't a region
pub record IsTypeOf (params : List Parameter) (name : Bytes) (universe : Universe) : Type 0 where
  pub declared : universe_in params name ≡ Some universe
  pub is_type : is_region universe ≡ false

module _ (program : List ModuleParts) where
  -- the type parameters that are in scope in a body, with their constraints
  abbrev pub bounds_of : BodyOf → List Bounded
  bounds_of body =
      bounds_in (generics_meant (types_at program body.place Body) (heads_of program) body.generics)

  abbrev pub scope_of : BodyOf → List Parameter
  scope_of body = parameters (bounds_of body)

  -- a class holds of a type in a body
  abbrev pub HoldsIn : BodyOf → DeclAt → Meaning → Type 0
  HoldsIn body class t =
      Holds (rows_of program) (heads_of program) (scope_of body) (constraints_of (bounds_of body)) class t

  -- A type in a body is one for a type parameter of others: it stands over what is in scope, the parameter
  -- takes its universe, and each class that constrains the parameter holds of it.
  pub record IsFor (body : BodyOf) (others : List Bounded) (name : Bytes) (universe : Universe)
      (t : Meaning) : Type 0 where
    pub stands : StandsOver (heads_of program) (scope_of body) t
    pub taken : IsTrue (takes universe (universe_of (heads_of program) (scope_of body) t))
    pub holds : (class : DeclAt) → IsTrue (constrains others name class) → HoldsIn body class t

module _ (program : List ModuleParts) (noted : List NotedParts) where
  -- ---- what is called

  -- A function that is called in a body is shipped; or else its body is there, its type parameters are those
  -- of its declaration, and what the call puts for each of them that isn't a region is one for it.
  pub data FunctionIsTyped (body : BodyOf) (note : Note) (target : Target) (name : Bytes)
      (names : List Bytes) : Type 0 where
    function_is_shipped : (call : ShippedCall)
        → prim_of (module_name program target.at.«module») name None ≡ Some call
        → FunctionIsTyped body note target name names
    function_has_body : (callee : BodyOf)
        → body_of program noted target ≡ Some callee
        → type_names (scope_of program callee) ≡ names
        → ((p : Bytes) (universe : Universe) → IsTypeOf (scope_of program callee) p universe
        → IsFor program body (bounds_of program callee) p universe
        (substituted (unwrap_or note.call []) (parameter p)))
        → FunctionIsTyped body note target name names

  -- A method of a name that a row gives at a closed type is shipped; or else its body is there, and its type
  -- parameters are those of the row.
  pub data MethodIsThere (name : Bytes) (row : Row) (t : ClosedType) : Type 0 where
    method_is_shipped : (call : ShippedCall)
        → prim_of (module_name program row.instance.«module») name (kind_of t) ≡ Some call
        → MethodIsThere name row t
    method_has_body : (body : BodyOf)
        → body_of program noted (record { at = row.instance; name = name }) ≡ Some body
        → bounds_of program body ≡ row.generics
        → MethodIsThere name row t

  -- A method of a class that is called in a body: the class holds of what the call puts for the class's
  -- parameter, and each row that gives the class at a closed type has the method there.
  pub record MethodIsTyped (body : BodyOf) (note : Note) (class : DeclAt) (name param : Bytes) : Type 0 where
    pub stands : StandsOver (heads_of program) (scope_of program body)
        (substituted (unwrap_or note.call []) (parameter param))
    pub holds : HoldsIn program body class (substituted (unwrap_or note.call []) (parameter param))
    pub there : (row : Row) (t : ClosedType)
        → ClosedInstance (rows_of program) (heads_of program) class t row
        → MethodIsThere name row t

  -- what typing gives of a call in a body, by what is called; of what makes a value of a type it is nothing
  abbrev pub CallIsTyped : BodyOf → Note → Target → Called → Type 0
  CallIsTyped body note target (a_function name names) = FunctionIsTyped body note target name names
  CallIsTyped body note target (a_method name param) = MethodIsTyped body note target.at name param
  CallIsTyped body note target (a_maker place) = Unit {0}

  -- the name of a call in a body means something, and what is called there is typed
  pub record NameIsTyped (body : BodyOf) (call : Call) : Type 0 where
    pub target : Target
    pub means : tables.find call.1 (seen_at Callables program body.place Body) ≡ Some target
    pub called : Called
    pub has : called_standing target.name (standing_at program target.at) ≡ Some called
    pub typed : CallIsTyped body call.0 target called

  -- ---- the program

  -- a program is typed so far: its rows are a table, and each call in a body is typed
  pub record IsTyped : Type 0 where
    pub table : IsTable (rows_of program)
    pub calls : (target : Target) (body : BodyOf)
        → body_of program noted target ≡ Some body
        → (call : Call)
        → Contains (calls_listed body.block) call
        → NameIsTyped body call

  -- an instance may be the entry: its body is there, and all its type parameters are regions
  pub record IsEntry (entry : Instance) : Type 0 where
    pub body : BodyOf
    pub there : body_of program noted entry.of ≡ Some body
    pub plain : type_names (scope_of program body) ≡ []
