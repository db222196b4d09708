use Rattle.std.proofs.Common.{ℕ, Option, ap, ◌∙◌}
use Rattle.au_effects.specs.Values as values
use Rattle.au_effects.specs.Worlds as effect
use Rattle.au_effects.specs.Answers as answer
use Rattle.au_effects.specs.Calls as call
use Rattle.au_low.specs.Machines.{Low}
use Rattle.au_cells.specs.Cells.{low}
use Rattle.au_stores.specs.Stores.{world_of}
use Rattle.au_stores.proofs.CallLemmas.{use_is}
use Rattle.au_stores.proofs.worlds.World.hear.Goals as goal

pub returns-clause-does : goal.returns-clause-does
returns-clause-does c =
    let w = world_of c.args.self.now in
    let given = values.optional (call.byte_value c.args.byte) in
    ap (λ (value : Low). answer.gives value (world_of c.tell_use.new.self))
    (c.in_ok-given.ensures ∙ ap values.optional c.byte_held.ensures)
    ∙ ap (answer.gives given) c.in_ok-tell_use.ensures.world
    ∙ ap (λ (found : Option (ℕ × ℕ)). call.given found
    (λ one. answer.gives given (effect.tells (effect.used one.0) w))) c.in-Some.ensures
    ∙ use_is call.terminal_in w (λ borrow id. answer.gives given (effect.tells (effect.used borrow) w))
    (low c.args.reference.now)
