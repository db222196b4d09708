use Rattle.std.proofs.Common.{◌≡◌, List, subst}
use Rattle.std.specs.Prelude.{IfOk}
use Rattle.au_modules.specs.Slots as slots
use Rattle.au_names.specs.HeadsOf.{heads_of}
use Rattle.au_names.specs.Walks.{written}
use Rattle.au_syntax.specs.Plain.{Bytes}
use Rattle.au_types.specs.declared.headings.Head.{Head}
use Rattle.au_types.specs.declared.types.DeclAt.{DeclAt}
use Rattle.au_caps_types.specs.Naming.{names_by}
use Rattle.au_caps_types.proofs.namings.names_found.Goals as goal

pub returns : goal.returns
returns c =
    let program = slots.modules c.args.program.now in
    let d = written c.args.found.now.decl.now in
    subst
    (λ (visible : List (Bytes × DeclAt)). IfOk c.names_by.result (λ made. made ≡ names_by visible (heads_of program) d))
    c.types_at-names.ensures
    (subst
    (λ (heads : List (DeclAt × Head)). IfOk c.names_by.result
    (λ made. made ≡ names_by c.types_at-names.result.now heads d)) c.heads_ref-heads.ensures c.names_by.ensures)
