-- The code of a closed program: its functions, in which texts and types get their numbers.
use Rattle.std.specs.Prelude.{ℕ, ◌+◌, nat_lt, Bool, List, [], ◌∷◌, ◌++◌, length, map, Some}
use Rattle.std.specs.List.{position_or_len}
use Rattle.std.specs.Str.{bytes_eq}
use Rattle.au_type_texts.specs.Same.{same}
use Rattle.au_type_texts.specs.Types.{ClosedType}
use Rattle.au_low.specs.declared.code.Code.{Code}
use Rattle.au_low.specs.declared.code.Function as low
use Rattle.au_low.specs.declared.code.LowType.{LowType}
use Rattle.au_low.specs.declared.instructions.Instr.{Instr}
use Rattle.au_low.specs.declared.instructions.Instr.TheVariants.{PushText, Make, Shipped}
use Rattle.au_meaning.specs.Names.{with_parameters}
use Rattle.au_meaning.specs.Views.{Field, Function}
use Rattle.au_graphs.specs.Reached.{adds}
use Rattle.au_syntax.specs.Plain.{Bytes}
use Rattle.au_lowered.specs.Drafts.{Draft, plain, pushes_text, makes_case, ships_birth}
use Rattle.au_lowered.specs.Slots.{room_of_block}
use Rattle.au_lowered.specs.Statements.{block}

-- ---- functions

-- the instructions of a function, whose parameters have the first slots
abbrev pub body_of : {T C : Type 0} → Function ℕ T C → List Draft
body_of f = block f.view 0 (length f.parameters) (with_parameters 0 f.parameters []) f.body 0

-- how many slots it has: the greatest number in use at one place
abbrev pub slots_of : {T C : Type 0} → Function ℕ T C → ℕ
slots_of f = room_of_block f.view (length f.parameters) f.body

-- the instructions of all functions, in order
abbrev pub bodies : {T C : Type 0} → List (Function ℕ T C) → List Draft
bodies [] = []
bodies (f ∷ rest) = body_of f ++ bodies rest

-- ---- texts and types

-- the texts that instructions name, in their order
abbrev pub texts_named : List Draft → List Bytes
texts_named [] = []
texts_named (pushes_text text ∷ rest) = text ∷ texts_named rest
texts_named (plain instr ∷ rest) = texts_named rest
texts_named (makes_case of tag order home ∷ rest) = texts_named rest
texts_named (ships_birth call of order ∷ rest) = texts_named rest

-- the types that instructions name, in their order
abbrev pub types_named : List Draft → List ClosedType
types_named [] = []
types_named (pushes_text text ∷ rest) = types_named rest
types_named (plain instr ∷ rest) = types_named rest
types_named (makes_case of tag order home ∷ rest) = of ∷ types_named rest
types_named (ships_birth call of order ∷ rest) = of ∷ types_named rest

-- the types of the parameters of the entry, which is the first function: the root's, where it takes the root
abbrev pub entry_types : {T C : Type 0} → List (Function ℕ T C) → List ClosedType
entry_types [] = []
entry_types (f ∷ rest) = map (λ (p : Field). p.of) f.parameters

-- whether the entry takes the root
abbrev pub takes_root : {T C : Type 0} → List (Function ℕ T C) → Bool
takes_root functions = nat_lt 0 (length (entry_types functions))

-- The texts of a program, and its types: each once, in the order of their first use. The root's type comes
-- first, where the entry takes the root.
abbrev pub texts_in : {T C : Type 0} → List (Function ℕ T C) → List Bytes
texts_in functions = adds bytes_eq [] (texts_named (bodies functions))

abbrev pub types_in : {T C : Type 0} → List (Function ℕ T C) → List ClosedType
types_in functions = adds same [] (entry_types functions ++ types_named (bodies functions))

-- the number of a text, and of a type
abbrev pub text_number : List Bytes → Bytes → ℕ
text_number texts text = position_or_len (λ one. bytes_eq one text) texts

abbrev pub type_number : List ClosedType → ClosedType → ℕ
type_number types of = position_or_len (λ one. same one of) types

-- an instruction that names texts and types by their numbers
abbrev pub numbered : List Bytes → List ClosedType → Draft → Instr
numbered texts types (plain instr) = instr
numbered texts types (pushes_text text) = PushText (text_number texts text)
numbered texts types (makes_case of tag order home) = Make (type_number types of) tag order home
numbered texts types (ships_birth call of order) = Shipped call (Some (type_number types of)) order

-- ---- programs

-- a function as code
abbrev pub function_code : {T C : Type 0} → List Bytes → List ClosedType → Function ℕ T C → low.Function
function_code texts types f = record {
  params = length f.parameters;
  slots = slots_of f;
  code = map (numbered texts types) (body_of f);
}

-- The code that a closed program is lowered to, by what is told of each of its types: the function of a
-- number is the instance of that number, and the entry is 0.
abbrev pub lowered : {T C : Type 0} → (ClosedType → LowType) → List (Function ℕ T C) → Code
lowered told functions =
    let texts = texts_in functions in
    let types = types_in functions in
    record {
      texts = texts;
      types = map told types;
      functions = map (function_code texts types) functions;
      root = takes_root functions;
    }

-- ---- the limit

-- the most instructions of all functions of a code
abbrev pub most_instructions : ℕ
most_instructions = 1048576

-- how many a program has
abbrev pub instructions_of : {T C : Type 0} → List (Function ℕ T C) → ℕ
instructions_of functions = length (bodies functions)

-- whether they are more
abbrev pub passes_limit : {T C : Type 0} → List (Function ℕ T C) → Bool
passes_limit functions = nat_lt most_instructions (instructions_of functions)
