-- What the code's senses say of a name, and what is meant in a scope of the code.
use Rattle.std.specs.Prelude.{Option}
use Rattle.au_syntax.specs.Plain.{Bytes}
use Rattle.au_syntax.specs.declared.types.TypeText.{TypeText}
use Rattle.au_syntax.specs.Types.{WrittenType}
use Rattle.au_syntax.specs.Views.{written}
use Rattle.au_types.specs.declared.types.Region.{Region}
use Rattle.au_types.specs.declared.types.Region.TheVariants as regions
use Rattle.au_types.specs.Types.{Meaning, unit, truth, integer, parameter}
use Rattle.au_types.specs.declared.scopes.Scope.{Scope}
use Rattle.au_types.specs.declared.senses.Sense as code
use Rattle.au_types.specs.declared.senses.Sense.TheVariants as case
use Rattle.au_types.specs.Senses.{Sense, a_type, a_span, a_region, declared, a_class}
use Rattle.au_types.specs.Senses as senses
use Rattle.au_types.specs.Meant as mean

-- what a sense of the code says of the name that has it
abbrev pub said : Bytes → code.Sense → Sense
said name case.Unit = a_type unit
said name case.Bool = a_type truth
said name (case.Int kind) = a_type (integer kind)
said name case.Param = a_type (parameter name)
said name case.Span = a_span
said name case.Static = a_region regions.Static
said name case.Region = a_region (regions.Named name)
said name (case.Declared at expected) = declared at expected.now
said name (case.Class at) = a_class at

-- what a name means in a scope
abbrev pub sense_in : Scope → Bytes → Option Sense
sense_in scope name = senses.sense_of scope.regions.now scope.params.now scope.names.now scope.heads.now name

-- the region that a written type means in a scope
abbrev pub region_in : Scope → WrittenType → Option Region
region_in scope t = mean.region_meant scope.regions.now scope.params.now scope.names.now scope.heads.now t

-- what a written type means in a scope
abbrev pub meant_in : Scope → WrittenType → Option Meaning
meant_in scope t = mean.meant scope.regions.now scope.params.now scope.names.now scope.heads.now t

-- a written type of the code as an argument in a scope
abbrev pub given_in : Scope → TypeText → mean.Given
given_in scope t = record { as_type = meant_in scope (written t); as_region = region_in scope (written t) }
