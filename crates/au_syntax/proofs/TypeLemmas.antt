-- What the trees of the code say, variant by variant. The views are opaque; these equations stand for
-- them, and `tree_steps` names them all.
use Rattle.std.proofs.Common.{◌≡◌, ℕ, ◌+◌, ◌<◌, List, [], ◌∷◌, ◌++◌, length, take, Vec, ap, ◌∙◌, refl, get_or}
use Rattle.std.specs.Global.{Global}
use mathlib.Core.Former.{Count}
use Rattle.std.proofs.lemmas.List.{take_more}
use Rattle.au_base.specs.declared.places.Pos.{Pos}
use Rattle.std.specs.declared.boxed.Box.{Box}
use Rattle.au_syntax.specs.declared.types.TypeName.{TypeName}
use Rattle.au_syntax.specs.declared.types.Access.{Access}
use Rattle.au_syntax.specs.declared.types.TypeText.{TypeText, Named, Reference, Row_of-TypeText}
use Rattle.au_syntax.specs.declared.types.TypeText.{end_of-TypeText, more_of-TypeText, items-the_row-TypeText}
use Rattle.au_syntax.specs.declared.types.TypeText.{items_hidden-the_row-TypeText-0}
use Rattle.au_syntax.specs.declared.types.TypeText.TheBlock.{hidden-the_row-TypeText-0}
use Rattle.au_syntax.specs.Types.{WrittenType, WrittenTypes, named, reference, no_types, types}
use Rattle.au_syntax.specs.Views.{written, row_written, written_all, type_name}

pub row_written_is : (n : Count) (row : Row_of-TypeText n) →
    row_written row ≡ written_all (items-the_row-TypeText n row)
unfolding row_written
row_written_is n end_of-TypeText = refl
row_written_is n (more_of-TypeText t rest) = ap (types (written t)) (row_written_is _ rest)

pub named_written : (name : TypeName) (args : Vec TypeText Global) → written (Named name args)
    ≡ named (type_name name) (written_all args.items)
unfolding written
named_written name args = ap (named (type_name name))
    (row_written_is _ (hidden-the_row-TypeText-0 args) ∙ ap written_all (items_hidden-the_row-TypeText-0 args))

pub reference_written : (at : Pos) (access : Access) (target : Box TypeText Global) (region : TypeName) →
    written (Reference at access target region) ≡ reference at access (written target.value) (type_name region)
unfolding written
reference_written at access target region = refl

-- types behind others
pub snoc_types : WrittenTypes → WrittenType → WrittenTypes
snoc_types no_types t = types t no_types
snoc_types (types one rest) t = types one (snoc_types rest t)

pub written_push : (xs : List TypeText) (x : TypeText) → written_all (xs ++ x ∷ [])
    ≡ snoc_types (written_all xs) (written x)
unfolding snoc_types
written_push [] x = refl
written_push (y ∷ ys) x = ap (types (written y)) (written_push ys x)

pub written_more : (xs : List TypeText) (i : ℕ) (d : TypeText) → i < length xs → written_all (take (i + 1) xs)
    ≡ snoc_types (written_all (take i xs)) (written (get_or xs i d))
written_more xs i d h = ap written_all (take_more xs i d h) ∙ written_push (take i xs) (get_or xs i d)

pub ruleset type_steps = (named_written, reference_written, written_push, written_more)
