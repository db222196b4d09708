use Rattle.std.proofs.Common.{◌≡◌, false, drop}
use Rattle.std.specs.Option.{option_map_or}
use Rattle.austral_cases.specs.Patterns.{is_told}
use Rattle.austral_cases.proofs.comparing.is_told.Given as goal

-- What is left of the pattern tells the bytes that are left, as the whole pattern tells all bytes.
abbrev pub invariant-loop-byte : goal.invariant-loop-byte
invariant-loop-byte l =
    is_told false l.fn.pattern l.bytes
    ≡ option_map_or (λ place. is_told place.0 place.1.now (drop l.byte-index l.bytes)) l.place false
