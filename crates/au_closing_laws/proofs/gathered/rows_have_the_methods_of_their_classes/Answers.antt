use Rattle.au_closing_laws.proofs.MethodLemmas.{methods_hold}
use Rattle.au_closing_laws.proofs.gathered.rows_have_the_methods_of_their_classes.Goals as goal

pub returns : goal.returns
returns c = methods_hold
