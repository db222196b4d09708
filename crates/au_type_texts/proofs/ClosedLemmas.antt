-- What the code's closed types mean, variant by variant. The views are opaque; these equations stand for
-- them, and `closed_steps` names them all.
use Rattle.std.proofs.Common.{◌≡◌, ℕ, ◌+◌, ◌<◌, List, [], ◌∷◌, ◌++◌, length, take, Vec, ap, ◌∙◌, refl, get_or}
use Rattle.std.specs.Global.{Global}
use mathlib.Core.Former.{Count}
use Rattle.std.proofs.lemmas.List.{take_more}
use Rattle.std.specs.declared.boxed.Box.{Box}
use Rattle.au_base.specs.declared.kinds.IntKind.{IntKind}
use Rattle.au_types.specs.declared.types.DeclAt.{DeclAt}
use Rattle.au_type_texts.specs.declared.types.Closed.{Closed, Unit, Bool, Int, Text, Named, Read, Write}
use Rattle.au_type_texts.specs.declared.types.Closed.{Row_of-Closed, end_of-Closed, more_of-Closed}
use Rattle.au_type_texts.specs.declared.types.Closed.{items-the_row-Closed, items_hidden-the_row-Closed-0}
use Rattle.au_type_texts.specs.declared.types.Closed.TheBlock.{hidden-the_row-Closed-0}
use Rattle.au_type_texts.specs.Types.{ClosedType, ClosedTypes, unit, truth, integer, text, named, reads}
use Rattle.au_type_texts.specs.Types.{writes, no_types, types}
use Rattle.au_type_texts.specs.Views.{closed_meaning, row_meanings, closed_meanings}

pub row_meanings_is : (n : Count) (row : Row_of-Closed n) →
    row_meanings row ≡ closed_meanings (items-the_row-Closed n row)
unfolding row_meanings
row_meanings_is n end_of-Closed = refl
row_meanings_is n (more_of-Closed one rest) = ap (types (closed_meaning one)) (row_meanings_is _ rest)

pub unit_means : closed_meaning Unit ≡ unit
unfolding closed_meaning
unit_means = refl

pub truth_means : closed_meaning Bool ≡ truth
unfolding closed_meaning
truth_means = refl

pub integer_means : (kind : IntKind) → closed_meaning (Int kind) ≡ integer kind
unfolding closed_meaning
integer_means kind = refl

pub text_means : closed_meaning Text ≡ text
unfolding closed_meaning
text_means = refl

pub named_means : (of : DeclAt) (args : Vec Closed Global) → closed_meaning (Named of args)
    ≡ named of (closed_meanings args.items)
unfolding closed_meaning
named_means of args = ap (named of)
    (row_meanings_is _ (hidden-the_row-Closed-0 args) ∙ ap closed_meanings (items_hidden-the_row-Closed-0 args))

pub reads_means : (to : Box Closed Global) → closed_meaning (Read to) ≡ reads (closed_meaning to.value)
unfolding closed_meaning
reads_means to = refl

pub writes_means : (to : Box Closed Global) → closed_meaning (Write to) ≡ writes (closed_meaning to.value)
unfolding closed_meaning
writes_means to = refl

-- closed types with one behind them
pub snoc_types : ClosedTypes → ClosedType → ClosedTypes
snoc_types no_types one = types one no_types
snoc_types (types first rest) one = types first (snoc_types rest one)

pub meanings_push : (xs : List Closed) (x : Closed) → closed_meanings (xs ++ x ∷ [])
    ≡ snoc_types (closed_meanings xs) (closed_meaning x)
unfolding snoc_types
meanings_push [] x = refl
meanings_push (y ∷ ys) x = ap (types (closed_meaning y)) (meanings_push ys x)

pub meanings_more : (xs : List Closed) (i : ℕ) (d : Closed) → i < length xs →
    closed_meanings (take (i + 1) xs) ≡ snoc_types (closed_meanings (take i xs))
    (closed_meaning (get_or xs i d))
meanings_more xs i d h = ap closed_meanings (take_more xs i d h) ∙ meanings_push (take i xs) (get_or xs i d)

pub ruleset closed_steps = (
  unit_means,
  truth_means,
  integer_means,
  text_means,
  named_means,
  reads_means,
  writes_means,
  meanings_push,
  meanings_more,
)
