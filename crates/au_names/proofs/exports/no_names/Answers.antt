use Rattle.std.proofs.Common.{◌≡◌, [], ◌∙◌}
use Rattle.au_types.specs.declared.name_tables.NameTables.{NameTables}
use Rattle.au_names.proofs.ExportLemmas.{none_named}
use Rattle.au_names.proofs.exports.no_names.Goals as goal

pub returns : goal.returns
returns c = λ first.
    let made : NameTables =
    record { values = c.new-values.result; callables = c.new-callables.result; types = c.new-types.result } in
    let none : NameTables = record { values = []; callables = []; types = [] } in
    let same : made ≡ none =
    λ i. record {
      values = c.new-values.ensures i;
      callables = c.new-callables.ensures i;
      types = c.new-types.ensures i;
    } in
    same ∙ none_named first
