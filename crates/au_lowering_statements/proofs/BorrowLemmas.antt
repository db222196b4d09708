-- The type of the reference that a borrow gives.
use Rattle.std.proofs.Common.{◌≡◌, Some, sym, ap, ◌∙◌}
use Rattle.std.specs.Global.{Global}
use Rattle.std.specs.declared.boxed.Box.{Box}
use Rattle.au_type_texts.specs.declared.types.Closed as closed_type
use Rattle.au_type_texts.specs.Types.{reads, writes}
use Rattle.au_type_texts.specs.Views.{closed_meaning}
use Rattle.au_type_texts.proofs.ClosedLemmas.{reads_means, writes_means}
use Rattle.au_meaning.specs.Names.{borrowed}
use Rattle.au_lowering_statements.specs.Views.{reached}
use Rattle.au_syntax.specs.declared.types.Access.{Access}
use Rattle.au_syntax.specs.declared.types.Access.TheVariants as access
use Rattle.au_syntax.specs.declared.expressions.BorrowMode.{BorrowMode}
use Rattle.au_syntax.specs.declared.expressions.BorrowMode.TheVariants as borrow

pub read_borrowed : (mode : BorrowMode) (to : Box closed_type.Closed Global) (copy of : closed_type.Closed)
    → mode ≡ borrow.Read → to.value ≡ copy → closed_meaning copy ≡ closed_meaning of
    → Some (closed_meaning (closed_type.Read to)) ≡ borrowed mode (Some (closed_meaning of))
read_borrowed mode to copy of is held same =
    ap (λ t. Some t) (reads_means to)
    ∙ ap (λ t. Some (reads t)) (ap closed_meaning held ∙ same)
    ∙ sym (ap (λ m. borrowed m (Some (closed_meaning of))) is)

pub write_borrowed : (mode : BorrowMode) (to : Box closed_type.Closed Global) (copy of : closed_type.Closed)
    → mode ≡ borrow.Write → to.value ≡ copy → closed_meaning copy ≡ closed_meaning of
    → Some (closed_meaning (closed_type.Write to)) ≡ borrowed mode (Some (closed_meaning of))
write_borrowed mode to copy of is held same =
    ap (λ t. Some t) (writes_means to)
    ∙ ap (λ t. Some (writes t)) (ap closed_meaning held ∙ same)
    ∙ sym (ap (λ m. borrowed m (Some (closed_meaning of))) is)

-- the type of a reference of an access
pub read_referred : (kind : Access) (to : Box closed_type.Closed Global) (of : closed_type.Closed)
    → kind ≡ access.Read → to.value ≡ of
    → closed_meaning (closed_type.Read to) ≡ reached (Some kind) (closed_meaning of)
read_referred kind to of is held =
    reads_means to ∙ ap (λ one. reads (closed_meaning one)) held
    ∙ sym (ap (λ k. reached (Some k) (closed_meaning of)) is)

pub write_referred : (kind : Access) (to : Box closed_type.Closed Global) (of : closed_type.Closed)
    → kind ≡ access.Write → to.value ≡ of
    → closed_meaning (closed_type.Write to) ≡ reached (Some kind) (closed_meaning of)
write_referred kind to of is held =
    writes_means to ∙ ap (λ one. writes (closed_meaning one)) held
    ∙ sym (ap (λ k. reached (Some k) (closed_meaning of)) is)
