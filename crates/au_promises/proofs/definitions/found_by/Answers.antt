use Rattle.std.proofs.Common.{sym, ap, ◌∙◌}
use Rattle.std.specs.Option.{option_copied}
use Rattle.au_types.specs.Tables as tables
use Rattle.au_promises.specs.Defining.{is_defined, table_of}
use Rattle.au_promises.specs.Written.{declarations_of}
use Rattle.au_promises.proofs.DefinitionLemmas.{first_of, first_there, first_missing}
use Rattle.au_promises.proofs.definitions.found_by.Goals as goal

pub returns-in-None : goal.returns-in-None
returns-in-None c =
    let all = declarations_of c.args.decls.now.items in
    let name = c.args.name.now in
    first_missing (is_defined c.args.sort name) all (tables.find name (table_of c.args.sort c.args.names.now))
    (first_of c.args.sort all c.args.names.now c.requires name)
    (sym (ap (λ n. tables.find n c.table.result.now) c.as_bytes.ensures.bytes
    ∙ ap (tables.find name) c.table.ensures) ∙ sym c.get.ensures ∙ ap option_copied c.in-None.is)

pub returns-in-Some : goal.returns-in-Some
returns-in-Some c =
    let all = declarations_of c.args.decls.now.items in
    let name = c.args.name.now in
    c.declared_at.ensures
    ∙ first_there (is_defined c.args.sort name) all (tables.find name (table_of c.args.sort c.args.names.now))
    c.in-Some.index.now
    (first_of c.args.sort all c.args.names.now c.requires name)
    (sym (c.in-Some.ensures ∙ ap (λ n. tables.find n c.table.result.now) c.as_bytes.ensures.bytes
    ∙ ap (tables.find name) c.table.ensures))
