use Rattle.au_words.proofs.LanguageLemmas.{names_are_tokens}
use Rattle.au_words.proofs.laws.names_of_the_language.Goals as goal

pub returns : goal.returns
returns c = names_are_tokens
