use Rattle.std.proofs.Common.{◌≡◌, [], ◌∷◌, ap, ◌∙◌}
use Rattle.std.specs.Option.{option_map}
use Rattle.std.proofs.lemmas.Result.{IfOk-weaker}
use Rattle.au_types.specs.Views.{meaning}
use Rattle.au_matching.specs.Substituted.{substituted}
use Rattle.au_types.specs.Meant.{meant}
use Rattle.au_classes.specs.InstanceViews.{methods_of}
use Rattle.au_classes.specs.Methods as spec
use Rattle.au_classes.specs.Signatures.{given, head_for, wanted}
use Rattle.au_classes.specs.Views.{class_said, headers_of}
use Rattle.au_classes.proofs.signatures.are_methods.Goals as goal

pub returns : goal.returns
returns c =
    let heads = c.args.heads.now in
    let class = class_said c.args.class.now in
    let own = given heads c.args.names.now c.args.params.now in
    let list = headers_of c.args.class.now.methods.now.items in
    let methods = methods_of c.args.methods.now.items in
    IfOk-weaker c.are_defined.result
    (λ are. are ≡ spec.are_methods
    (λ t. option_map (substituted c.in_ok-s.s) (meant [] c.in_ok-parameter.parameter class.visible heads t))
    own list methods)
    (λ are. are ≡ spec.are_methods (wanted heads class (meaning c.args.head.now)) own list methods)
    (λ are is.
    is
    ∙ ap (λ ps. spec.are_methods (λ t. option_map (substituted c.in_ok-s.s)
    (meant [] ps class.visible heads t)) own list methods) c.in_ok-parameter.ensures
    ∙ ap (λ s. spec.are_methods (λ t. option_map (substituted s)
    (meant [] (class.parameter ∷ []) class.visible heads t)) own list methods) c.in_ok-s.ensures)
    c.are_defined.ensures
