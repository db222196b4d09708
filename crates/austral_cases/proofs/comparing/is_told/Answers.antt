-- The byte at the index is the first of those that are left.
use Rattle.std.proofs.Common.{ℕ, ◌+◌, ◌<◌, ◌∙◌, ap, arith, Bool, false, List, length, drop, Option, Bor}
use Rattle.std.proofs.lemmas.List.{at_drop_more}
use Rattle.std.specs.Option.{option_map_or}
use Rattle.austral_cases.specs.Patterns.{is_told}
use Rattle.austral_cases.proofs.comparing.is_told.Goals as goal

pub loop-byte-preserved : goal.loop-byte-preserved
loop-byte-preserved c =
    let at = c.loop-byte.byte-index in
    let bytes = c.args.bytes.now in
    let within : at < length bytes = omega (arith, c.loop-byte-test.true) in
    c.loop-byte.invariant
    ∙ ap (λ (place : Option (Bool × Bor (List ℕ))). option_map_or (λ p. is_told p.0 p.1.now (drop at bytes))
    place false) c.in-Some.is
    ∙ at_drop_more (is_told c.in-Some.inside c.in-Some.left.now) bytes at 0 within
    ∙ c.place_behind-place.ensures (drop (at + 1) bytes)
