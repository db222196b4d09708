use Rattle.std.proofs.Common.{◌<◌, ◌≤◌, length, ap, ◌∙◌, arith}
use Rattle.au_types.specs.Tables as tables
use Rattle.au_names.proofs.MethodLemmas.{index_past, index_there}
use Rattle.au_names.proofs.methods.Methods.index.Goals as goal

pub returns-then-place-len : goal.returns-then-place-len
returns-then-place-len c = λ program are.
    let made = c.args.self.now.by_place.items in
    let within : c.args.class.«module» < length made = omega (arith, c.len.ensures, c.if-place-len.true) in
    c.index_among.ensures
    ∙ ap (tables.find c.args.name.now)
    (index_there program made c.args.class c.index.result.now are within c.index.ensures)

pub returns-else-place-len : goal.returns-else-place-len
returns-else-place-len c = λ program are.
    let made = c.args.self.now.by_place.items in
    let past : length made ≤ c.args.class.«module» = omega (arith, c.len.ensures, c.if-place-len.false) in
    index_past program made c.args.class c.args.name.now are past
