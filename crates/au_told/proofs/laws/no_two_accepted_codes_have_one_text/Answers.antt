use Rattle.au_told.proofs.laws.no_two_accepted_codes_have_one_text.Goals as goal

pub returns : goal.returns
returns c =
    λ one other. c.no_two_codes_have_one_text.ensures
    (c.code_has_plain_names.ensures.accepted c.args.one.now one)
    (c.code_has_plain_names.ensures.accepted c.args.other.now other)
