use Rattle.std.proofs.Common.{◌≡◌, subst, IfOk}
use Rattle.au_names.specs.Walks.{written}
use Rattle.au_formed.specs.Forms.{fault_in}
use Rattle.au_formed.proofs.forms.form_fault.Goals as goal

pub returns : goal.returns
returns c =
    let visible = c.args.visible.now in
    subst (λ params. IfOk c.fault_in.result
    (λ found. found ≡ fault_in visible.names.now visible.heads.now params (written c.args.decl.now)))
    c.in_ok-params.ensures c.fault_in.ensures
