-- What the parts of the code's statements say.
use Rattle.std.specs.Prelude.{ℕ, List, map}
use Rattle.au_syntax.specs.contracts.parsed.ParsedPhase.TheImpl.{ghosts as parsed}
use Rattle.au_syntax.specs.declared.names.Bind.{Bind}
use Rattle.au_syntax.specs.declared.parsed.Parsed.{Parsed}
use Rattle.au_syntax.specs.declared.statements.Arm.{Arm}
use Rattle.au_syntax.specs.Plain.{Bytes}
use Rattle.au_syntax.specs.Types.{Bound}
use Rattle.au_syntax.specs.Views.{arm_all, bound}
use Rattle.au_typing.specs.Parts.{ArmHead, heads_of}
use Rattle.au_typing.specs.Scopes.{Case, Typed}
use Rattle.au_sights.specs.declared.called.Case as code
use Rattle.au_sights.specs.Sights.{case_said}
use Rattle.au_types.specs.declared.types.Ty.{Ty}
use Rattle.au_types.specs.Types.{Meaning}
use Rattle.au_types.specs.Views.{meaning}

-- a field that is bound
abbrev pub bind_said : Bind Parsed (List ℕ) (Unit {0}) (Unit {0}) → Bound Bytes
bind_said bind = bound parsed bind

-- fields that are bound
abbrev pub binds_said : List (Bind Parsed (List ℕ) (Unit {0}) (Unit {0})) → List (Bound Bytes)
binds_said binds = map (bound parsed) binds

-- the names of fields that are bound
abbrev pub fields_bound : List (Bound Bytes) → List Bytes
fields_bound binds = map (λ (b : Bound Bytes). b.name.name.name) binds

-- the names of fields
abbrev pub fields_named : List Typed → List Bytes
fields_named fields = map (λ (field : Typed). field.name) fields

-- what stands before the block of an arm
abbrev pub head_said : Arm Parsed (List ℕ) (Unit {0}) (Unit {0}) → ArmHead
head_said arm = record { name = arm.case.name; binds = binds_said arm.binds.items }

-- what stands before the blocks of arms
abbrev pub heads_said : List (Arm Parsed (List ℕ) (Unit {0}) (Unit {0})) → List ArmHead
heads_said arms = heads_of (arm_all parsed arms)

-- cases of a union
abbrev pub cases_said : List code.Case → List Case
cases_said cases = map case_said cases

-- the region and the type of a reference
abbrev pub reference_said : Bytes × Ty → Bytes × Meaning
reference_said y = (y.0, meaning y.1)
