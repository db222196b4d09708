use Rattle.std.proofs.Common.{◌≡◌, ◌≤◌, true, length, sym, ap, ◌∙◌, arith}
use Rattle.std.specs.Prelude.{slice_get}
use Rattle.std.specs.Str.{bytes_eq}
use Rattle.au_modules.specs.Programs.{ModuleParts}
use Rattle.au_modules.specs.Seen.{name_of}
use Rattle.au_modules.specs.Slots as slots
use Rattle.au_closing.proofs.PlaceLemmas.{first_named, found_nowhere}
use Rattle.au_closing.proofs.finding.place_of.Goals as goal

pub returns-then-eq : goal.returns-then-eq
returns-then-eq c =
    let same : bytes_eq c.args.name.now c.name.result.now ≡ true = grind arith in
    sym
    (first_named (slots.modules c.args.program.now) c.args.name.now c.loop-place.place c.name.result.now
    (ap (λ ms. name_of (slice_get (slots.modules ms) c.loop-place.place)) (sym c.modules-modules.ensures.kept)
    ∙ c.name.ensures)
    c.loop-place.invariant same)

pub returns : goal.returns
returns c =
    let kept = ap (λ ms. length (slots.modules ms)) c.modules-modules.ensures.kept in
    let ends : length (slots.modules c.args.program.now) ≤ c.loop-place.place = omega (arith, kept) in
    sym
    (found_nowhere (λ (m : ModuleParts). bytes_eq c.args.name.now m.name) (slots.modules c.args.program.now)
    c.loop-place.place c.loop-place.invariant ends)
