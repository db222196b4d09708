use Rattle.std.proofs.Common.{slice_get, ap, sym, ◌∙◌}
use Rattle.au_cells.specs.Cells.{lows}
use Rattle.au_stores.specs.declared.answers.Answered.{Answered}
use Rattle.au_stores.specs.Stores.{world_of}
use Rattle.au_stores.specs.Answers.{answer_of}
use Rattle.au_stores.proofs.CallLemmas.{copied_rule}
use Rattle.au_stores.proofs.worlds.World.nth.Goals as goal

pub returns-clause-stays : goal.returns-clause-stays
returns-clause-stays c none =
    let w = world_of c.args.self.now in
    absurd (copied_rule (slice_get (lows c.in-Some-elements.cells.now) c.in-Some.index) w
    (sym (ap (λ (one : Answered). answer_of one w) none) ∙ c.in_ok-answered.ensures w))
