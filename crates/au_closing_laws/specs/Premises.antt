-- What is known of an accepted program besides its rules, and is taken here as it is.
use Rattle.std.specs.Prelude.{◌≡◌, List, None, Some, Contains, IsTrue, slice_get}
use Rattle.au_base.specs.declared.places.Pos.{Pos}
use Rattle.au_shipped.specs.declared.prims.ShippedCall.{ShippedCall}
use Rattle.au_shipped.specs.Calls.{prim_of}
use Rattle.au_syntax.specs.declared.declarations.Universe.{Universe}
use Rattle.au_syntax.specs.Forms.{formed_declaration}
use Rattle.au_syntax.specs.Modules.{Constrained, Header, InUniverse, class, function}
use Rattle.au_syntax.specs.Names.{Placed}
use Rattle.au_syntax.specs.Plain.{Bytes}
use Rattle.au_types.specs.declared.types.DeclAt.{DeclAt}
use Rattle.au_matching.specs.Forming.{StandsOver}
use Rattle.au_type_texts.specs.Types.{ClosedType}
use Rattle.au_instances.specs.ClosedInstances.{ClosedInstance}
use Rattle.au_instances.specs.Rows.{Row}
use Rattle.au_classes.specs.Rows.{rows_of}
use Rattle.au_judged_types.specs.Bounds.{parameters}
use Rattle.au_modules.specs.Programs.{ModuleParts}
use Rattle.au_names.specs.declared.targets.Target.{Target}
use Rattle.au_names.specs.HeadsOf.{heads_of}
use Rattle.au_names.specs.Standing.{Standing, standing_at}
use Rattle.au_typing.specs.Trees.{NotedParts}
use Rattle.au_closing.specs.Bodies.{BodyOf, body_of}
use Rattle.au_closing.specs.Leading.{module_name}
use Rattle.au_closing_laws.specs.Targets.{Call, IsTypeOf, MethodIsThere, calls_listed, scope_of}
use Rattle.au_closing_laws.specs.Calls.{IsGoodIn, put_for}

module _ (program : List ModuleParts) where
  -- Each declaration is one that its part may have: functions without bodies stand in interfaces, and those
  -- with them in bodies. So it is of what was parsed.
  abbrev pub AreOfParts : Type 0
  AreOfParts =
      (at : DeclAt) (d : Standing) → standing_at program at ≡ Some d
      → IsTrue (formed_declaration d.part d.says)

  -- A function of a module that has no body is shipped. So it is of the interfaces that are shipped, and each
  -- other module has a body.
  abbrev pub FunctionsAreShipped : Type 0
  FunctionsAreShipped =
      (at : DeclAt) (d : Standing) (m : ModuleParts) → standing_at program at ≡ Some d
      → slice_get program at.«module» ≡ Some m → m.body ≡ None
      → (place : Pos) (generics : List (Constrained Bytes)) (h : Header Bytes)
      → d.says ≡ function place generics h
      → (call : ShippedCall) × (prim_of (module_name program at.«module») h.name.name None ≡ Some call)

  -- What each call in a body puts for a type parameter of what is called stands over the body's.
  abbrev pub PutTypesStand : List NotedParts → Type 0
  PutTypesStand noted =
      (target : Target) (body : BodyOf) → body_of program noted target ≡ Some body
      → (call : Call) → Contains (calls_listed body.block) call
      → (one : IsGoodIn program body call)
      → (p : Bytes) (universe : Universe) → IsTypeOf (parameters one.good.called.generics) p universe
      → StandsOver (heads_of program) (scope_of program body) (put_for call.0 p)

  -- Each row that gives a class at a closed type has each method of the class there.
  abbrev pub MethodsAreThere : List NotedParts → Type 0
  MethodsAreThere noted =
      (at : DeclAt) (d : Standing) → standing_at program at ≡ Some d
      → (place : Pos) (name : Placed Bytes) (p : InUniverse Bytes) (methods : List (Header Bytes))
      → d.says ≡ class place name p methods
      → (h : Header Bytes) → Contains methods h
      → (row : Row) (t : ClosedType) → ClosedInstance (rows_of program) (heads_of program) at t row
      → MethodIsThere program noted h.name.name row t

-- what is taken of a program with notes
pub record Premises (program : List ModuleParts) (noted : List NotedParts) : Type 0 where
  pub parts : AreOfParts program
  pub functions : FunctionsAreShipped program
  pub methods : MethodsAreThere program noted
  pub standing : PutTypesStand program noted
