use Rattle.std.proofs.Common.{subst, sym}
use Rattle.au_modules.specs.Slots as slots
use Rattle.au_caps_lists.specs.Bodies.{all_bodied}
use Rattle.au_caps.specs.Reports.{AreRowsOf}
use Rattle.au_caps.proofs.programs.report_of.Goals as goal

pub returns : goal.returns
returns c = λ noted same.
    let program = slots.modules c.args.program.now in
    subst (λ rows. AreRowsOf program noted (all_bodied noted) rows) (sym c.from_vec.ensures)
    (subst (λ bs. AreRowsOf program noted bs c.in_ok-rows.rows.items) same
    (c.in_ok-rows.ensures noted (c.in_ok-made.ensures noted same)))
