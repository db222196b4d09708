use Rattle.std.proofs.Common.{◌∷◌, ◌++◌, ap, ◌∙◌}
use Rattle.au_modules.specs.Slots as slots
use Rattle.au_caps.specs.Making.{BodyMakes}
use Rattle.au_caps_lists.specs.Views.{body_said}
use Rattle.au_caps.specs.Views.{HasLabel}
use Rattle.au_caps.proofs.RowLemmas.{listed_by}
use Rattle.au_caps.proofs.rows.row_of.Goals as goal

pub returns : goal.returns
returns c = λ noted labels.
    let program = slots.modules c.args.program.now in
    let b = body_said c.args.body.now in
    record {
      name = c.in_ok-function.ensures ∙ ap (λ owner. owner ++ 58 ∷ b.header.name.name)
          c.owner_of-owner.ensures;
      makes =
          listed_by (HasLabel program c.args.reaching.now c.args.made.now c.args.number)
          (BodyMakes program noted b) c.in_ok-makes.makes labels c.in_ok-makes.ensures;
      holds = c.in_ok-holds.ensures;
      hands = c.in_ok-hands.ensures;
    }
