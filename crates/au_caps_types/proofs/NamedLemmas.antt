-- The types that are named in a written type where none holds its arguments apart.
use Rattle.std.proofs.Common.{◌≡◌, List, ◌++◌, Option, None, Some, refl, ◌∙◌}
use Rattle.std.specs.Prelude.{option_to_list}
use Rattle.au_syntax.specs.Names.{Placed}
use Rattle.au_syntax.specs.Plain.{Bytes}
use Rattle.au_syntax.specs.Types.{WrittenTypes, named}
use Rattle.au_types.specs.declared.types.DeclAt.{DeclAt}
use Rattle.au_types.specs.Senses.{Sense}
use Rattle.au_formed.specs.Naming.{all_named, declared_type, named_by, types_named}
use Rattle.au_formed.proofs.NamedLemmas as formed
use Rattle.au_formed.proofs.NamedLemmas.{none_named, reference_names}
use Rattle.au_caps_types.specs.Naming.{no_holder}

with_inside : (o : Option DeclAt) (inside : List DeclAt) → named_by no_holder o inside ≡ option_to_list o ++ inside
with_inside None inside = refl
with_inside (Some at) inside = refl

pub named_names : (sense : Bytes → Option Sense) (name : Placed Bytes) (args : WrittenTypes)
    → types_named sense no_holder (named name args)
    ≡ option_to_list (declared_type (sense name.name)) ++ all_named sense no_holder args
named_names sense name args =
    formed.named_names sense no_holder name args
    ∙ with_inside (declared_type (sense name.name)) (all_named sense no_holder args)

pub ruleset named_steps = (named_names, reference_names, none_named)
