use Rattle.std.proofs.Common.{◌<◌, length, ap, ◌∙◌, subst, arith}
use Rattle.au_modules.specs.declared.modules.Modules.{Modules}
use Rattle.au_modules.specs.Slots as slots
use Rattle.au_names.specs.Known.{IsResolved}
use Rattle.au_names.proofs.NameLemmas.{names_within, part_known}
use Rattle.au_names.proofs.programs.NamedModules.names.Goals as goal

pub index-requires : goal.index-requires
index-requires c =
    let known : Modules → Type 0 = λ m.
    IsResolved (slots.modules m) c.self.inside.names.items c.self.inside.heads c.self.inside.definitions in
    let within : c.args.place < length c.self.inside.names.items =
    names_within (slots.modules c.args.self.now) c.self.inside.names.items c.args.place
    (subst known c.self.view_is c.self.invariant).names c.requires in
    omega (arith, within, c.self.inside.names.ok.0)

pub returns-clause-values : goal.returns-clause-values
returns-clause-values c = λ m here.
    let known : Modules → Type 0 = λ n.
    IsResolved (slots.modules n) c.self.inside.names.items c.self.inside.heads c.self.inside.definitions in
    ap (λ names. names.values)
    (c.in_part.ensures
    ∙ part_known (slots.modules c.args.self.now) c.self.inside.names.items c.args.place c.args.part m
    c.index.result.now (subst known c.self.view_is c.self.invariant).names here c.index.ensures)

pub returns-clause-callables : goal.returns-clause-callables
returns-clause-callables c = λ m here.
    let known : Modules → Type 0 = λ n.
    IsResolved (slots.modules n) c.self.inside.names.items c.self.inside.heads c.self.inside.definitions in
    ap (λ names. names.callables)
    (c.in_part.ensures
    ∙ part_known (slots.modules c.args.self.now) c.self.inside.names.items c.args.place c.args.part m
    c.index.result.now (subst known c.self.view_is c.self.invariant).names here c.index.ensures)

pub returns-clause-types : goal.returns-clause-types
returns-clause-types c = λ m here.
    let known : Modules → Type 0 = λ n.
    IsResolved (slots.modules n) c.self.inside.names.items c.self.inside.heads c.self.inside.definitions in
    ap (λ names. names.types)
    (c.in_part.ensures
    ∙ part_known (slots.modules c.args.self.now) c.self.inside.names.items c.args.place c.args.part m
    c.index.result.now (subst known c.self.view_is c.self.invariant).names here c.index.ensures)
