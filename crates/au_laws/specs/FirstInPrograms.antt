-- The first fault of a body, of a declaration and of a program, in terms of good notes alone.
use Rattle.std.specs.Prelude.{◌≡◌, ◌⊎◌, ℕ, ◌+◌, true, false, List, [], ◌∷◌, Option, None, Some, Ok}
use Rattle.au_base.specs.declared.places.Pos.{Pos}
use Rattle.au_syntax.specs.declared.modules.Part.{Part}
use Rattle.au_syntax.specs.declared.modules.Part.TheVariants.{Interface, Body}
use Rattle.au_syntax.specs.Modules.{Constrained, Header, constant_body, function_body, instance_body}
use Rattle.au_syntax.specs.Names.{Placed}
use Rattle.au_syntax.specs.Plain.{Bytes, PlainDeclaration, PlainExpression, PlainMethod, PlainStatements}
use Rattle.au_syntax.specs.Types.{Labelled, WrittenType}
use Rattle.au_types.specs.Types.{Meaning}
use Rattle.au_judged_types.specs.Reasons.{Reason, means, fails}
use Rattle.au_modules.specs.Programs.{Entry, ModuleParts}
use Rattle.au_typing.specs.Scopes.{Outside, Scope}
use Rattle.au_typing.specs.Faults.{Fault, why, reason_why, shape, assignable_wanted, falls_out}
use Rattle.au_typing.specs.Lookups.{written_means}
use Rattle.au_typing.specs.Bodies.{GoodBody, body_scope, generics_in, outer_scope}
use Rattle.au_typing.specs.Derivations.{GoodDeclaration}
use Rattle.au_typing.specs.DerivationFaults.{StatementFault, fault_at, refused}
use Rattle.au_typing.specs.InScope.{fixed_variable, with_variable}
use Rattle.au_typing.specs.Parts.{is_literal}
use Rattle.au_typing.specs.Returns.{block_returns}
use Rattle.au_typing.specs.Trees.{NotedDeclaration, NotedStatements, erase_block, erase_declaration}
use Rattle.au_laws.specs.Clauses.{Clause, TellsFirst}
use Rattle.au_laws.specs.FirstFaults.{FirstFault}
use Rattle.au_laws.specs.FirstInStatements.{BlockNoted, FaultIn}
use Rattle.au_laws.specs.StatementClauses.{formed}

-- ---- bodies and constants

-- the types of parameters in order, each of which is in scope behind it
abbrev pub of_parameters : List (Labelled Bytes) → Scope → (Scope → List Clause) → List Clause
of_parameters [] sc rest = rest sc
of_parameters (p ∷ more) sc rest =
    formed (written_means sc p.of)
    (λ of. of_parameters more (with_variable (fixed_variable p.name.name of) sc) rest)

-- the types of the parameters, and then that of the result
abbrev pub of_header : Outside → List (Constrained Bytes) → Header Bytes → List Clause
of_header outside generics header =
    of_parameters header.parameters (outer_scope outside (generics_in outside generics))
    (λ sc. formed (written_means sc header.result) (λ of. []))

-- What stops the noting of a function or method: a type in its header, which is told at the place of the
-- declaration; what stops that of its block; or that some path reaches its end.
pub data BodyFault (outside : Outside) : Pos → List (Constrained Bytes) → Header Bytes → PlainStatements →
    Pos → StatementFault → Type 0 where
  in_its_header : (at : Pos) (generics : List (Constrained Bytes)) (header : Header Bytes)
      (body : PlainStatements) (stop : Pos) (f : Fault) → TellsFirst (of_header outside generics header) f
      → BodyFault outside at generics header body stop (fault_at at f)
  in_its_block : (at : Pos) (generics : List (Constrained Bytes)) (header : Header Bytes)
      (body : PlainStatements) (stop : Pos) (sc : Scope) (f : StatementFault)
      → body_scope outside generics header ≡ Ok sc → FaultIn body sc f
      → BodyFault outside at generics header body stop f
  at_its_end : (at : Pos) (generics : List (Constrained Bytes)) (header : Header Bytes)
      (body : PlainStatements) (stop : Pos) (sc : Scope) (b : NotedStatements)
      → body_scope outside generics header ≡ Ok sc → BlockNoted body sc b → block_returns body ≡ false
      → BodyFault outside at generics header body stop (refused stop falls_out)

-- What stops the noting of a constant: its type, that its value is no literal, or what stops that of its
-- value.
pub data ConstantFault (outside : Outside) : WrittenType → PlainExpression → Fault → Type 0 where
  its_type : (t : WrittenType) (e : PlainExpression) (reason : Reason)
      → written_means (outer_scope outside []) t ≡ fails reason
      → ConstantFault outside t e (why (reason_why reason))
  no_literal : (t : WrittenType) (e : PlainExpression) (of : Meaning)
      → written_means (outer_scope outside []) t ≡ means of → is_literal e ≡ false
      → ConstantFault outside t e (why (shape assignable_wanted))
  its_value : (t : WrittenType) (e : PlainExpression) (of : Meaning) (f : Fault)
      → written_means (outer_scope outside []) t ≡ means of → is_literal e ≡ true
      → FirstFault (outer_scope outside []) e (Some of) f → ConstantFault outside t e f

-- ---- declarations and modules

-- What stops the noting of a list in order: what stops that of the first one that has no good notes.
abbrev pub FirstAmong : {A : Type 0} → (A → Type 0) → (A → StatementFault → Type 0) → List A →
    StatementFault → Type 0
FirstAmong IsNoted Fails [] f = ⊥
FirstAmong IsNoted Fails (x ∷ rest) f = Fails x f ⊎ (IsNoted x × FirstAmong IsNoted Fails rest f)

-- A method has good notes; and what stops that.
abbrev pub MethodNoted : Outside → List (Constrained Bytes) → PlainMethod → Type 0
MethodNoted outside generics m =
    (b : NotedStatements) × GoodBody outside generics m.header b × (erase_block b ≡ m.body)

abbrev pub MethodFault : Outside → List (Constrained Bytes) → PlainMethod → StatementFault → Type 0
MethodFault outside generics m f = BodyFault outside m.header.name.at generics m.header m.body m.stop f

-- What stops the noting of a declaration. Only constants, functions and instances of bodies have notes.
pub data DeclarationFault (outside : Outside) : PlainDeclaration → StatementFault → Type 0 where
  of_a_constant : (at : Pos) (name : Placed Bytes) (t : WrittenType) (e : PlainExpression) (f : Fault)
      → ConstantFault outside t e f → DeclarationFault outside (constant_body at name t e) (fault_at at f)
  of_a_function : (at : Pos) (generics : List (Constrained Bytes)) (header : Header Bytes)
      (body : PlainStatements) (stop : Pos) (f : StatementFault)
      → BodyFault outside at generics header body stop f
      → DeclarationFault outside (function_body at generics header body stop) f
  of_an_instance : (at : Pos) (generics : List (Constrained Bytes)) (class : Placed Bytes) (t : WrittenType)
      (methods : List PlainMethod) (f : StatementFault)
      → FirstAmong (MethodNoted outside generics) (MethodFault outside generics) methods f
      → DeclarationFault outside (instance_body at generics class t methods) f

-- A declaration has good notes; and so does each of several.
abbrev pub DeclarationNoted : Outside → PlainDeclaration → Type 0
DeclarationNoted outside d = (a : NotedDeclaration) × GoodDeclaration outside a × (erase_declaration a ≡ d)

abbrev pub EachNoted : Outside → List PlainDeclaration → Type 0
EachNoted outside [] = Unit {0}
EachNoted outside (d ∷ rest) = DeclarationNoted outside d × EachNoted outside rest

-- A part of a module has good notes, if the module has it; and what stops that.
abbrev pub PartNoted : Outside → Option Entry → Type 0
PartNoted outside None = Unit {0}
PartNoted outside (Some e) = EachNoted outside e.tree.declarations

abbrev pub PartFault : Outside → Option Entry → StatementFault → Type 0
PartFault outside None f = ⊥
PartFault outside (Some e) f =
    FirstAmong (DeclarationNoted outside) (DeclarationFault outside) e.tree.declarations f

-- What stops the noting of the modules of a program, the first of which stands at this place: what stops that
-- of the interface of the first one that has no good notes, or else of its body.
abbrev pub ModulesFault : (ℕ → Part → Outside) → ℕ → List ModuleParts → StatementFault → Type 0
ModulesFault outside place [] f = ⊥
ModulesFault outside place (m ∷ rest) f =
    PartFault (outside place Interface) m.interface f
    ⊎ (PartNoted (outside place Interface) m.interface
    × (PartFault (outside place Body) m.body f
    ⊎ (PartNoted (outside place Body) m.body × ModulesFault outside (place + 1) rest f)))

-- What stops the noting of a program.
abbrev pub ProgramFault : (ℕ → Part → Outside) → List ModuleParts → StatementFault → Type 0
ProgramFault outside program f = ModulesFault outside 0 program f
