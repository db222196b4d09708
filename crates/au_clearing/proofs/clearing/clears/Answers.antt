use Rattle.std.proofs.Common.{ap, sym, ◌∙◌}
use Rattle.au_lives.specs.Lives.{is_free}
use Rattle.au_clearing.specs.Dealings.{clears, by_type}
use Rattle.au_clearing.proofs.ClearLemmas.{life_clears}
use Rattle.au_clearing.proofs.clearing.clears.Goals as goal

pub returns : goal.returns
returns c s is h = life_clears s c.args.sort c.args.life is (sym c.is_cleared.ensures ∙ h)
