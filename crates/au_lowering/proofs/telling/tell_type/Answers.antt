use Rattle.std.proofs.Common.{sym, ap, ◌∙◌}
use Rattle.std.specs.Option.{option_copied}
use Rattle.au_lowering.proofs.RowLemmas.{told_found}
use Rattle.au_lowering.proofs.telling.tell_type.Goals as goal

pub returns-in-Some : goal.returns-in-Some
returns-in-Some c =
    told_found c.args.rows.now.entries.entries c.as_slice.result.now c.args.key.now.items
    c.copy_low.result c.in-Some.low.now c.as_slice.ensures.value
    (sym (ap option_copied c.in-Some.is) ∙ c.get.ensures.value) c.copy_low.ensures
