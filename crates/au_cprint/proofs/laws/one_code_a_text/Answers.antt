use Rattle.au_cprint.proofs.UniqueLemmas.{text_tells}
use Rattle.au_cprint.proofs.laws.one_code_a_text.Goals as goal

pub returns : goal.returns
returns c = text_tells
