use Rattle.std.proofs.Common.{arith, ◌≡◌, pos, ◌-ℤ◌, to_z, of_z, to_z-of_z, FitsSigned, ap, subst, ◌∙◌}
use mir.Syntax.{w128}
use Rattle.au_noting.specs.Giving.{Gives}
use Rattle.au_noting.specs.Modes.{wanted}
use Rattle.au_sights.specs.Views.{note}
use Rattle.au_typing.specs.Search.{literal_note}
use Rattle.au_noting.proofs.RangeLemmas.{minus_fits, out_of_all, zero_minus}
use Rattle.au_noting.proofs.nodes.negative_note.Goals as goal

pub returns-then-value-eqminus170141183460469231731687303715884105728 :
    goal.returns-then-value-eqminus170141183460469231731687303715884105728
returns-then-value-eqminus170141183460469231731687303715884105728 c = grind (arith, out_of_all)

pub returns : goal.returns
returns c =
    let v = c.args.value in
    let fits : FitsSigned w128 v = c.ranges.value in
    let inner : to_z w128 (of_z w128 v) ≡ v = to_z-of_z fits in
    let negated : FitsSigned w128 (pos 0 -ℤ v) =
    minus_fits v fits c.if-value-eqminus170141183460469231731687303715884105728.false in
    subst (λ z. Gives note c.literal_note-2.result (literal_note (wanted c.args.mode) z))
    (ap (λ x. to_z w128 (of_z w128 (pos 0 -ℤ x))) inner ∙ to_z-of_z negated ∙ zero_minus v)
    c.literal_note-2.ensures
