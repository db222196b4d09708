use Rattle.au_effects.proofs.PartLemmas.{listed_fields, fields_listed}
use Rattle.au_effects.proofs.laws.lists_are_fields.Goals as goal

pub returns : goal.returns
returns c = (λ values. listed_fields values, λ fields. fields_listed fields)
