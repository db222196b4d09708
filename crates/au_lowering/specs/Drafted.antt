-- Functions whose code is written first with texts and types that stand for themselves, and the code of a
-- program of them.
use Rattle.std.specs.Prelude.{ℕ, Bool, List, [], ◌∷◌, ◌++◌, length, map, nat_lt}
use Rattle.std.specs.Str.{bytes_eq}
use Rattle.au_type_texts.specs.Same.{same}
use Rattle.au_type_texts.specs.Types.{ClosedType}
use Rattle.au_low.specs.declared.code.Code.{Code}
use Rattle.au_low.specs.declared.code.Function as low
use Rattle.au_low.specs.declared.code.LowType.{LowType}
use Rattle.au_lowered.specs.Drafts.{Draft}
use Rattle.au_lowered.specs.Programs.{body_of, most_instructions, numbered, slots_of, texts_named}
use Rattle.au_lowered.specs.Programs.{types_named}
use Rattle.au_lowering.specs.Keyed.{keyed}
use Rattle.au_meaning.specs.Views.{Function}
use Rattle.au_graphs.specs.Reached.{adds}
use Rattle.au_syntax.specs.Plain.{Bytes}

-- a function: how many parameters and slots it has, and its instructions
pub record Drafted : Type 0 where
  pub params : ℕ
  pub slots : ℕ
  pub drafts : List Draft

-- what a function is written to first
abbrev pub drafted : {T C : Type 0} → Function ℕ T C → Drafted
drafted f = record { params = length f.parameters; slots = slots_of f; drafts = body_of f }

-- the instructions of all functions, in order
abbrev pub all_drafts : List Drafted → List Draft
all_drafts [] = []
all_drafts (f ∷ rest) = f.drafts ++ all_drafts rest

-- whether they are more than a program may have
abbrev pub is_long : List Drafted → Bool
is_long all = nat_lt most_instructions (length (all_drafts all))

-- a function as code
abbrev pub function_of : List Bytes → List ClosedType → Drafted → low.Function
function_of texts types f = record {
  params = f.params;
  slots = f.slots;
  code = map (numbered texts types) f.drafts;
}

-- the same, by the keys of types
abbrev pub function_by : List Bytes → List (List ℕ) → Drafted → low.Function
function_by texts keys f = record {
  params = f.params;
  slots = f.slots;
  code = map (keyed texts keys) f.drafts;
}

-- the code of functions, by what is told of types, where the entry has parameters of these types
abbrev pub coded : (ClosedType → LowType) → List ClosedType → List Drafted → Code
coded told roots all =
    let texts = adds bytes_eq [] (texts_named (all_drafts all)) in
    let types = adds same [] (roots ++ types_named (all_drafts all)) in
    record {
      texts = texts;
      types = map told types;
      functions = map (function_of texts types) all;
      root = nat_lt 0 (length roots);
    }
