-- The sample programs that show the meaning, as closed programs.
use Rattle.std.specs.Prelude.{◌≡◌, ℕ, ◌==◌, ◌&&◌, Bool, true, false, List, [], ◌∷◌, map, Option, option_map}
use Rattle.std.specs.Prelude.{unwrap_or, slice_get, codes, if◌then◌else◌}
use Rattle.std.specs.List.{filter_map, position_or_len}
use Rattle.std.specs.Option.{option_or}
use Rattle.au_type_texts.specs.Same.{same}
use Rattle.au_type_texts.specs.Types as closed_type
use Rattle.au_type_texts.specs.Types.{ClosedType}
use Rattle.au_low.specs.declared.code.Code.{Code}
use Rattle.au_low.specs.declared.code.Function as low
use Rattle.au_low.specs.declared.code.LowType.{LowType}
use Rattle.au_low.specs.declared.instructions.Instr.{Instr}
use Rattle.au_low.specs.Runs.{low_run}
use Rattle.au_matching.specs.Bindings.{value_of}
use Rattle.au_meaning.specs.Meanings.{mean}
use Rattle.au_meaning.specs.Samples.{Note, Sample, Instance, functions, given, type_under, exit_code}
use Rattle.au_meaning.specs.Samples.{root_capability, pair, key}
use Rattle.au_meaning.specs.Views.{Act, Callee, View, Function, invokes, makes, ships}
use Rattle.au_syntax.specs.Plain.{Bytes}
use Rattle.au_types.specs.declared.types.DeclAt.{DeclAt}
use Rattle.au_types.specs.Rows.{same_place}
use Rattle.au_types.specs.Types as type
use Rattle.au_lowered.specs.Agreeing.{Agrees, InStep}
use Rattle.au_lowered.specs.Programs.{lowered}

-- ---- instances by their numbers

abbrev pub act_by : {I J : Type 0} → (I → J) → Act I → Act J
act_by number (invokes one) = invokes (number one)
act_by number (makes of tag home) = makes of tag home
act_by number (ships call born) = ships call born

abbrev pub callee_by : {I J : Type 0} → (I → J) → Callee I → Callee J
callee_by number one = record { parameters = one.parameters; act = act_by number one.act }

abbrev pub view_by : {I J T C : Type 0} → (I → J) → View I T C → View J T C
view_by number see = record {
  type_of = see.type_of;
  is_free = see.is_free;
  callee = λ note c name. option_map (callee_by number) (see.callee note c name);
  constant = see.constant;
  tag = see.tag;
  fields = see.fields;
  is_linear = see.is_linear;
}

abbrev pub function_by : {I J T C : Type 0} → (I → J) → Function I T C → Function J T C
function_by number f =
    record { view = view_by number f.view; parameters = f.parameters; first = f.first; body = f.body }

-- ---- instances of samples

-- what the type parameter of a sample stands for
abbrev pub type_given : Instance → ClosedType
type_given one = unwrap_or (type_under [] (value_of (codes "T") one.given)) closed_type.unit

abbrev pub same_instance : Instance → Instance → Bool
same_instance a b = (a.function == b.function) && same (type_given a) (type_given b)

-- the closed program of these instances of samples
abbrev pub closed_over : List Instance → List Sample → List (Function ℕ Note (Unit {0}))
closed_over instances samples =
    filter_map (λ one. option_map (function_by (λ other. position_or_len (same_instance other) instances))
    (functions samples one)) instances

-- an instance of a function without type parameters, and of one that is given a type
abbrev pub alone : ℕ → Instance
alone n = record { function = n; given = [] }

abbrev pub at : ℕ → type.Meaning → Instance
at n t = record { function = n; given = (codes "T", type.of_type t) ∷ [] }

-- ---- what is told of types

abbrev pub row : List ℕ → List ℕ → Bool → LowType
row text home linear = record { text = text; «module» = home; linear = linear }

-- `Box` and `Buffer`
abbrev pub box : DeclAt
box = record { «module» = 2; decl = 0 }

abbrev pub buffer : DeclAt
buffer = record { «module» = 3; decl = 0 }

abbrev pub row_at : DeclAt → LowType
row_at at =
    if same_place at exit_code then row (codes "Austral.Pervasive:ExitCode") (codes "Austral.Pervasive") false
    else if same_place at root_capability
    then row (codes "Austral.Pervasive:RootCapability") (codes "Austral.Pervasive") true
    else if same_place at pair then row (codes "Main:Pair") (codes "Main") false
    else if same_place at key then row (codes "Main:Key") (codes "Main") true
    else if same_place at box then row (codes "Standard.Box:Box[Nat8]") (codes "Standard.Box") true
    else if same_place at buffer
    then row (codes "Standard.Buffer:Buffer[Nat8]") (codes "Standard.Buffer") true
    else row (codes "Main:Maybe[Nat8]") (codes "Main") false

abbrev pub told_of : ClosedType → LowType
told_of (closed_type.named at args) = row_at at
told_of other = row [] [] false

-- ---- code

-- the code of a sample
abbrev pub code_of : List Instance → List Sample → Code
code_of instances samples = lowered told_of (closed_over instances samples)

-- code that is written by hand, of an entry that doesn't take the root
abbrev pub by_hand : List (List ℕ) → List DeclAt → List low.Function → Code
by_hand texts types functions =
    record { texts = texts; types = map row_at types; functions = functions; root = false }

-- a function with so many slots, and with so many parameters
abbrev pub plain : ℕ → List Instr → low.Function
plain slots instrs = record { params = 0; slots = slots; code = instrs }

abbrev pub taking : ℕ → ℕ → List Instr → low.Function
taking params slots instrs = record { params = params; slots = slots; code = instrs }

-- A sample has this code, and the code does what the sample means.
pub record Lowers (instances : List Instance) (samples : List Sample) (code : Code) : Type 0 where
  pub is : code_of instances samples ≡ code
  pub agrees : Agrees (closed_over instances samples) (given samples 299) (low_run true code [] 299)

-- Besides, it does so step by step. Where no rule applies, a tick was made that has no step.
pub record LowersInStep (instances : List Instance) (samples : List Sample) (code : Code) : Type 0 where
  pub lowers : Lowers instances samples code
  pub steps : InStep (given samples 299) (low_run true code [] 299)

-- The same of a closed program.
pub record LowersOver (functions : List (Function ℕ Note (Unit {0}))) (code : Code) : Type 0 where
  pub is : lowered told_of functions ≡ code
  pub agrees : Agrees functions (mean (slice_get functions) 0 [] 299) (low_run true code [] 299)
  pub steps : InStep (mean (slice_get functions) 0 [] 299) (low_run true code [] 299)

-- a function in which some names are calls of their own
abbrev pub with_calls : {T C : Type 0} → (Bytes → Option (Callee ℕ)) → Function ℕ T C → Function ℕ T C
with_calls named f = record {
  view = record f.view { callee = λ note c name. option_or (named name) (f.view.callee note c name) };
  parameters = f.parameters;
  first = f.first;
  body = f.body;
}
