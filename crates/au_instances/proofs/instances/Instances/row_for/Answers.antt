use Rattle.std.proofs.Common.{ap, refl, sym, ◌∙◌}
use Rattle.std.specs.Option.{option_map}
use Rattle.au_types.specs.Views.{meaning}
use Rattle.au_instances.specs.Rows.{Row, row_said}
use Rattle.au_instances.proofs.RowLemmas.{row_for_gave, row_for_there}
use Rattle.au_instances.proofs.instances.Instances.row_for.Goals as goal

pub returns-in-Some-clause-found : goal.returns-in-Some-clause-found
returns-in-Some-clause-found c =
    let row = row_said c.in-Some.row.now in (
      row,
      row_for_gave c.args.heads.now c.args.scope.now c.args.self.now c.args.class (meaning c.args.of.now)
          row c.is_table.ensures (sym c.in-Some.ensures),
      refl,
    )

pub returns-in-Some-clause-only : goal.returns-in-Some-clause-only
returns-in-Some-clause-only c = λ row is. ap (option_map (λ (r : Row). r.instance))
    (c.in-Some.ensures ∙ row_for_there c.args.heads.now c.args.scope.now c.args.self.now c.args.class
    (meaning c.args.of.now) row c.is_table.ensures is)

pub returns-in-None-clause-only : goal.returns-in-None-clause-only
returns-in-None-clause-only c = λ row is. ap (option_map (λ (r : Row). r.instance))
    (c.in-None.ensures ∙ row_for_there c.args.heads.now c.args.scope.now c.args.self.now c.args.class
    (meaning c.args.of.now) row c.is_table.ensures is)
