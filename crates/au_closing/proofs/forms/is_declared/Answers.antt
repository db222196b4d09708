use Rattle.std.proofs.Common.{◌≡◌, ◌<◌, length, sym, ap, ◌∙◌, arith}
use Rattle.std.proofs.lemmas.Bool.Decides.{nat_tests}
use Rattle.au_types.specs.Views.{meaning}
use Rattle.au_types.proofs.TypeLemmas.{named_means}
use Rattle.au_closing.proofs.TypeLemmas.{with_arguments, without_arguments}
use Rattle.au_closing.proofs.forms.is_declared.Goals as goal

pub returns-then-is_empty : goal.returns-then-is_empty
returns-then-is_empty c =
    let none : length c.in-Named.args.items ≡ 0 = grind (arith, nat_tests) in
    c.has_text.ensures
    ∙ sym
    (without_arguments c.args.heads.now c.args.text.now (meaning c.args.of.now) c.in-Named.at
    c.in-Named.args.items (ap meaning c.in-Named.is ∙ named_means c.in-Named.at c.in-Named.args) none)

pub returns-else-is_empty : goal.returns-else-is_empty
returns-else-is_empty c =
    let some : 0 < length c.in-Named.args.items = grind (arith, nat_tests) in
    c.if-is_empty.false
    ∙ sym
    (with_arguments c.args.heads.now c.args.text.now (meaning c.args.of.now) c.in-Named.at
    c.in-Named.args.items (ap meaning c.in-Named.is ∙ named_means c.in-Named.at c.in-Named.args) some)
