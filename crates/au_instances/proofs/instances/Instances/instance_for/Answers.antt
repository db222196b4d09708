use Rattle.std.proofs.Common.{ap, refl, sym, ◌∙◌}
use Rattle.std.specs.Option.{option_map}
use Rattle.au_type_texts.specs.Views.{closed_meaning}
use Rattle.au_instances.specs.Rows.{Row, row_said}
use Rattle.au_instances.proofs.ClosedLemmas.{closed_row_gave, closed_row_there}
use Rattle.au_instances.proofs.instances.Instances.instance_for.Goals as goal

pub returns-in-Some-clause-found : goal.returns-in-Some-clause-found
returns-in-Some-clause-found c =
    let row = row_said c.in-Some.row.now in (
      row,
      closed_row_gave c.args.self.now c.args.heads.now c.is_table.ensures c.args.class
          (closed_meaning c.args.of.now) row (sym c.in-Some.ensures),
      refl,
    )

pub returns-in-Some-clause-only : goal.returns-in-Some-clause-only
returns-in-Some-clause-only c = λ row is. ap (option_map (λ (r : Row). r.instance))
    (c.in-Some.ensures ∙ closed_row_there c.args.self.now c.args.heads.now c.is_table.ensures c.args.class
    (closed_meaning c.args.of.now) row is)

pub returns-in-None-clause-only : goal.returns-in-None-clause-only
returns-in-None-clause-only c = λ row is. ap (option_map (λ (r : Row). r.instance))
    (c.in-None.ensures ∙ closed_row_there c.args.self.now c.args.heads.now c.is_table.ensures c.args.class
    (closed_meaning c.args.of.now) row is)
