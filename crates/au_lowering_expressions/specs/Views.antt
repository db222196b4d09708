-- What the code's drafts, variables and operations say.
use Rattle.std.specs.Prelude.{ℕ, List, map, reverse}
use Rattle.std.specs.Option.{option_map}
use Rattle.au_type_texts.specs.Views.{closed_meaning}
use Rattle.au_lowered.specs.Drafts as drafts
use Rattle.au_lowered.specs.Drafts.{plain, pushes_text, makes_case, ships_birth}
use Rattle.au_meaning.specs.Expressions as meant
use Rattle.au_meaning.specs.Expressions.{computes, compares, is_and, is_or}
use Rattle.au_meaning.specs.Names.{Scope, Variable}
use Rattle.au_lowering_expressions.specs.declared.drafts.Draft.{Draft}
use Rattle.au_lowering_expressions.specs.declared.drafts.Draft.TheVariants as draft
use Rattle.au_lowering_expressions.specs.declared.locals.Local.{Local}
use Rattle.au_lowering_expressions.specs.declared.operations.Operation.{Operation}
use Rattle.au_lowering_expressions.specs.declared.operations.Operation.TheVariants as operation
use Rattle.au_lowering_expressions.specs.declared.parts.Part as found
use Rattle.au_lowering_expressions.specs.Parts.{Part}

-- an instruction as it is written first
abbrev pub draft_said : Draft → drafts.Draft
draft_said (draft.Plain instr) = plain instr
draft_said (draft.Text text) = pushes_text text
draft_said (draft.Make of tag order home) = makes_case (closed_meaning of) tag order home
draft_said (draft.Birth call of order) = ships_birth call (closed_meaning of) order

-- several
abbrev pub drafts_said : List Draft → List drafts.Draft
drafts_said all = map draft_said all

-- a variable
abbrev pub local_said : Local → Variable
local_said one = record { name = one.name; number = one.slot; of = option_map closed_meaning one.of }

-- the variables in scope, of which the code has the innermost last
abbrev pub scope_said : List Local → Scope
scope_said all = reverse (map local_said all)

-- a part of a variable
abbrev pub part_said : found.Part → Part
part_said one = (one.slot, one.path)

-- what an operator does
abbrev pub operation_said : Operation → meant.Operation
operation_said (operation.Computes op) = computes op
operation_said (operation.Compares order) = compares order
operation_said operation.And = is_and
operation_said operation.Or = is_or
