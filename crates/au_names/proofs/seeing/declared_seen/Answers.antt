use Rattle.std.proofs.Common.{◌≡◌, [], ap, ◌∙◌, subst}
use Rattle.std.specs.Prelude.{IfOk}
use Rattle.au_types.specs.Tables.{with_all}
use Rattle.au_names.specs.Meanings.{declared_by, meanings}
use Rattle.au_names.specs.Sources.{modules_of}
use Rattle.au_names.proofs.SeenLemmas.{declared_put}
use Rattle.au_names.proofs.seeing.declared_seen.Goals as goal

pub returns : goal.returns
returns c = λ m here.
    subst (λ z. IfOk c.declarations.result (λ places. places ≡ z))
    (ap (λ t. with_all [] (declared_by t)) (c.in_ok-table.ensures m here)
    ∙ declared_put (meanings c.args.space (modules_of c.args.source.now) c.args.place m c.args.part))
    c.declarations.ensures
