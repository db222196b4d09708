use Rattle.std.proofs.Common.{sym, ap, ◌∙◌}
use Rattle.indexmap.proofs.CallerLemmas.{insert_entry-new}
use Rattle.std.specs.Option.{option_or}
use Rattle.au_base.proofs.OptionLemmas.{none_of}
use Rattle.au_imports.specs.Choices.{where_so}
use Rattle.au_types.specs.Rows.{same_place}
use Rattle.au_formed.proofs.DeclarerLemmas.{index_push}
use Rattle.au_formed.specs.Graphs.{index_at}
use Rattle.au_caps_types.proofs.declarers.Declarers.put.Goals as goal

pub returns : goal.returns
returns c = λ a.
    let entries = c.self.inside.indices.entries in
    ap (λ es. index_at es a)
    (c.in_ok-insert.ensures.entries
    ∙ insert_entry-new same_place c.self.inside.indices c.args.at c.args.index
    (none_of (index_at entries c.args.at) (sym c.contains_key.ensures ∙ c.if-contains_key.false)))
    ∙ index_push entries c.args.at c.args.index a
    ∙ ap (λ es. option_or (index_at es a) (where_so (same_place a c.args.at) c.args.index)) c.self.view_is
