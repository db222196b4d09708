-- What lowering answers where a program has too many instructions.
use Rattle.std.specs.Prelude.{◌≡◌, Bool, true, false, Result, Ok, Err}
use Rattle.au_base.specs.declared.limits.Limit.{Limit}
use Rattle.au_base.specs.declared.limits.LimitKind.TheVariants as kind
use Rattle.au_low.specs.declared.code.Code.{Code}
use Rattle.au_lowered.specs.Programs.{most_instructions}
use Rattle.au_lowering.specs.declared.faults.LowerFault.{LowerFault}
use Rattle.au_lowering.specs.declared.faults.LowerFault.TheVariants as faults

-- the limit that is told
abbrev pub too_long : Limit
too_long = record { kind = kind.Code; count = 1048577; most = most_instructions }

-- it is told exactly where the program is too long, unless memory runs out
abbrev pub TellsLimit : Result Code LowerFault → Bool → Type 0
TellsLimit (Ok code) long = long ≡ false
TellsLimit (Err (faults.Limit limit)) long = (long ≡ true) × (limit ≡ too_long)
TellsLimit (Err faults.Memory) long = Unit {0}
