-- Instructions that name types by the places of their keys.
use Rattle.std.specs.Prelude.{ℕ, List, Some}
use Rattle.std.specs.List.{position_or_len}
use Rattle.std.specs.Str.{bytes_eq}
use Rattle.au_type_texts.specs.Keys.{key_of}
use Rattle.au_type_texts.specs.Types.{ClosedType}
use Rattle.au_low.specs.declared.instructions.Instr.{Instr}
use Rattle.au_low.specs.declared.instructions.Instr.TheVariants.{PushText, Make, Shipped}
use Rattle.au_lowered.specs.Drafts.{Draft, plain, pushes_text, makes_case, ships_birth}
use Rattle.au_lowered.specs.Programs.{text_number}
use Rattle.au_syntax.specs.Plain.{Bytes}

-- the number of a type among types with these keys
abbrev pub key_number : List (List ℕ) → ClosedType → ℕ
key_number keys of = position_or_len (λ key. bytes_eq key (key_of of)) keys

-- an instruction that names texts and types by their numbers
abbrev pub keyed : List Bytes → List (List ℕ) → Draft → Instr
keyed texts keys (plain instr) = instr
keyed texts keys (pushes_text text) = PushText (text_number texts text)
keyed texts keys (makes_case of tag order home) = Make (key_number keys of) tag order home
keyed texts keys (ships_birth call of order) = Shipped call (Some (key_number keys of)) order
