-- The names in written types, case by case. The definitions are opaque; these equations stand for them,
-- and `mention_steps` names them.
use Rattle.std.proofs.Common.{◌≡◌, ℕ, ◌+◌, ◌<◌, List, [], ◌∷◌, ◌++◌, length, take, get_or, refl, sym, ap, ◌∙◌}
use Rattle.std.proofs.Common.{append_assoc}
use Rattle.std.proofs.lemmas.Grind.{common_steps}
use Rattle.std.proofs.lemmas.List.{append-nil, take_more}
use Rattle.au_base.specs.declared.places.Pos.{Pos}
use Rattle.au_syntax.specs.declared.types.Access.{Access}
use Rattle.au_syntax.specs.declared.types.TypeText.{TypeText}
use Rattle.au_syntax.specs.Names.{Placed}
use Rattle.au_syntax.specs.Plain.{Bytes}
use Rattle.au_syntax.specs.Types.{WrittenType, WrittenTypes, named, reference, no_types}
use Rattle.au_syntax.specs.Views.{written, written_all}
use Rattle.au_syntax.proofs.TypeLemmas.{type_steps}
use Rattle.au_promises.specs.Mentions.{writes, type_mentions, argument_mentions}

pub named_mentions : (name : Placed Bytes) (args : WrittenTypes)
    → type_mentions (named name args) ≡ writes name ++ argument_mentions args
unfolding type_mentions
named_mentions name args = refl

pub reference_mentions : (at : Pos) (access : Access) (target : WrittenType) (region : Placed Bytes)
    → type_mentions (reference at access target region) ≡ type_mentions target ++ writes region
unfolding type_mentions
reference_mentions at access target region = refl

pub no_mentions : argument_mentions no_types ≡ []
unfolding argument_mentions
no_mentions = refl

-- those in one more type
pub push_mentions : (ts : List TypeText) (t : TypeText) → argument_mentions (written_all (ts ++ t ∷ []))
    ≡ argument_mentions (written_all ts) ++ type_mentions (written t)
unfolding argument_mentions
push_mentions [] t = append-nil (type_mentions (written t))
push_mentions (one ∷ rest) t =
    ap (λ r. type_mentions (written one) ++ r) (push_mentions rest t)
    ∙ sym (append_assoc (type_mentions (written one)) (argument_mentions (written_all rest))
    (type_mentions (written t)))

pub more_mentions : (ts : List TypeText) (i : ℕ) (t : TypeText) → i < length ts → t ≡ get_or ts i t
    → argument_mentions (written_all (take (i + 1) ts)) ≡ argument_mentions (written_all (take i ts))
    ++ type_mentions (written t)
more_mentions ts i t within is =
    ap (λ r. argument_mentions (written_all r)) (take_more ts i t within)
    ∙ push_mentions (take i ts) (get_or ts i t)
    ∙ ap (λ x. argument_mentions (written_all (take i ts)) ++ type_mentions (written x)) (sym is)

pub ruleset mention_steps = (named_mentions, reference_mentions, no_mentions, more_mentions)

-- those, with what written types say
pub ruleset pushing_steps = (type_steps, mention_steps, common_steps)
