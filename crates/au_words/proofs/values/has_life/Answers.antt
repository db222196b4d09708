-- What is read is the first value found, by its row.
use Rattle.std.proofs.Common.{◌∙◌, codes}
use Rattle.clap.specs.Words.{found_of}
use Rattle.clap.proofs.WalkLemmas.{one_text-rows}
use Rattle.au_words.proofs.ValueLemmas.{life_read}
use Rattle.au_words.proofs.values.has_life.Goals as goal

pub returns : goal.returns
returns c =
    let rows = one_text-rows (found_of c.args.found.now) (codes "life") in
    rw c.unwrap_or.ensures (life_read _ _ c.get_one.result (λ e. c.get_one.ensures.none (rows ∙ e))
    (λ text e. c.get_one.ensures.value text (rows ∙ e)))
