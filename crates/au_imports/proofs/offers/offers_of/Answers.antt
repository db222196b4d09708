use Rattle.au_imports.proofs.offers.offers_of.Goals as goal

pub returns : goal.returns
returns c = record { exports = c.in_ok-exports.ensures; lasts = c.in_ok-lasts.ensures }
