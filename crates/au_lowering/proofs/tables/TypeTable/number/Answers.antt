use Rattle.std.proofs.Common.{sym, ◌∙◌}
use Rattle.std.specs.List.{position_or_len}
use Rattle.std.specs.Str.{bytes_eq}
use Rattle.au_type_texts.specs.Views.{closed_meaning}
use Rattle.au_lowering.specs.Keyed.{key_number}
use Rattle.au_lowering.proofs.TableLemmas.{found_key, missing_key, ok_is}
use Rattle.au_lowering.proofs.tables.TypeTable.number.Goals as goal

pub returns-in-None : goal.returns-in-None
returns-in-None c =
    ok_is c.narrow.result c.len.result (key_number c.args.self.now (closed_meaning c.args.of.now))
    (c.len.ensures.len
    ∙ missing_key c.as_slice.result.now c.self.inside.keys.keys
    (sym c.get_index_of.ensures.index ∙ c.in-None.is)
    ∙ (λ i. position_or_len (λ one. bytes_eq one ((c.as_slice.ensures.value ∙ c.in_ok-key.ensures) i))
    (c.self.view_is i)))
    c.narrow.ensures

pub returns : goal.returns
returns c =
    ok_is c.narrow-in-Some.result c.in-Some.at (key_number c.args.self.now (closed_meaning c.args.of.now))
    (found_key c.as_slice.result.now c.self.inside.keys.keys c.in-Some.at
    (sym c.get_index_of.ensures.index ∙ c.in-Some.is)
    ∙ (λ i. position_or_len (λ one. bytes_eq one ((c.as_slice.ensures.value ∙ c.in_ok-key.ensures) i))
    (c.self.view_is i)))
    c.narrow-in-Some.ensures
