-- An `i128` holds each number of a kind, and reads its decimal.
use Rattle.au_ints.specs.Ranges.{bits_of, sign_of}
use Rattle.au_ints.proofs.DecimalLemmas.{means_number, read_back}
use Rattle.au_ints.proofs.Turns.{kind_shape, within_fits}
use Rattle.au_ints.proofs.laws.decimals_read_back.Goals as goal

pub returns : goal.returns
returns c = λ kind z inside.
    let fits = within_fits (bits_of kind) (sign_of kind) z (kind_shape kind) inside in
    (means_number z fits, λ read. read_back z read fits)
