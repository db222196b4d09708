-- The types that are named in written types, case by case. The definitions are opaque; these equations stand
-- for them, and `named_steps` names them.
use Rattle.std.proofs.Common.{◌≡◌, ℕ, ◌+◌, ◌<◌, Bool, List, [], ◌∷◌, ◌++◌, Option, length, take, get_or, refl}
use Rattle.std.proofs.Common.{sym, ap, ◌∙◌, append_assoc}
use Rattle.std.proofs.lemmas.List.{append-nil, take_more}
use Rattle.au_base.specs.declared.places.Pos.{Pos}
use Rattle.au_syntax.specs.declared.types.Access.{Access}
use Rattle.au_syntax.specs.declared.types.TypeText.{TypeText}
use Rattle.au_syntax.specs.Names.{Placed}
use Rattle.au_syntax.specs.Plain.{Bytes}
use Rattle.au_syntax.specs.Types.{WrittenType, WrittenTypes, named, reference, no_types}
use Rattle.au_syntax.specs.Views.{written, written_all}
use Rattle.au_types.specs.declared.types.DeclAt.{DeclAt}
use Rattle.au_types.specs.Senses.{Sense}
use Rattle.au_formed.specs.Naming.{all_named, declared_type, named_by, types_named}

module _ (sense : Bytes → Option Sense) (holder : DeclAt → Bool) where
  pub named_names : (name : Placed Bytes) (args : WrittenTypes)
      → types_named sense holder (named name args)
      ≡ named_by holder (declared_type (sense name.name)) (all_named sense holder args)
  unfolding types_named
  named_names name args = refl

  pub reference_names : (at : Pos) (access : Access) (target : WrittenType) (region : Placed Bytes)
      → types_named sense holder (reference at access target region) ≡ types_named sense holder target
  unfolding types_named
  reference_names at access target region = refl

  pub none_named : all_named sense holder no_types ≡ []
  unfolding all_named
  none_named = refl

  -- those in one more type
  push_named : (ts : List TypeText) (t : TypeText)
      → all_named sense holder (written_all (ts ++ t ∷ []))
      ≡ all_named sense holder (written_all ts) ++ types_named sense holder (written t)
  unfolding all_named
  push_named [] t = append-nil (types_named sense holder (written t))
  push_named (one ∷ rest) t =
      ap (λ r. types_named sense holder (written one) ++ r) (push_named rest t)
      ∙ sym (append_assoc (types_named sense holder (written one)) (all_named sense holder (written_all rest))
      (types_named sense holder (written t)))

  pub more_named : (ts : List TypeText) (i : ℕ) (t : TypeText) → i < length ts → t ≡ get_or ts i t
      → all_named sense holder (written_all (take (i + 1) ts))
      ≡ all_named sense holder (written_all (take i ts)) ++ types_named sense holder (written t)
  more_named ts i t within is =
      ap (λ r. all_named sense holder (written_all r)) (take_more ts i t within)
      ∙ push_named (take i ts) (get_or ts i t)
      ∙ ap (λ x. all_named sense holder (written_all (take i ts)) ++ types_named sense holder (written x))
      (sym is)

pub ruleset named_steps = (named_names, reference_names, none_named)
