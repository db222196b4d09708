use Rattle.std.proofs.Common.{sym, ◌∙◌}
use Rattle.au_lowered.specs.Programs.{text_number}
use Rattle.au_lowering.proofs.TableLemmas.{found_key, missing_key, ok_is}
use Rattle.au_lowering.proofs.tables.TextTable.number.Goals as goal

pub returns-in-None : goal.returns-in-None
returns-in-None c =
    ok_is c.narrow.result c.len.result (text_number c.args.self.now c.args.text.now)
    (c.len.ensures.len
    ∙ missing_key c.as_bytes.result.now c.self.inside.keys.keys
    (sym c.get_index_of.ensures.index ∙ c.in-None.is)
    ∙ (λ i. text_number (c.self.view_is i) (c.as_bytes.ensures i)))
    c.narrow.ensures

pub returns-in-Some : goal.returns-in-Some
returns-in-Some c =
    ok_is c.narrow-in-Some.result c.in-Some.at (text_number c.args.self.now c.args.text.now)
    (found_key c.as_bytes.result.now c.self.inside.keys.keys c.in-Some.at
    (sym c.get_index_of.ensures.index ∙ c.in-Some.is)
    ∙ (λ i. text_number (c.self.view_is i) (c.as_bytes.ensures i)))
    c.narrow-in-Some.ensures
