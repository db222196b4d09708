use Rattle.au_told.proofs.laws.no_two_codes_have_one_text.Goals as goal

pub returns : goal.returns
returns c =
    λ one other. c.one_code_a_text.ensures c.args.one.now c.args.other.now (c.code_is_told.ensures one)
    (c.code_is_told-2.ensures other)
