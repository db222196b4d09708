-- The type parameters of a declaration with what is meant by their constraints.
use Rattle.std.proofs.Common.{◌≡◌, List, [], map, ap, ◌∙◌}
use Rattle.au_syntax.specs.Modules.{Constrained}
use Rattle.au_syntax.specs.Plain.{Bytes}
use Rattle.au_types.specs.declared.headings.Head.{Head}
use Rattle.au_types.specs.declared.parameters.Parameter.{Parameter}
use Rattle.au_types.specs.declared.types.DeclAt.{DeclAt}
use Rattle.au_types.specs.Senses.{sense_of}
use Rattle.au_judged_types.specs.Bounds.{bounded}
use Rattle.au_judged_types.specs.Meanings.{class_in, class_meant, constraints, parameter, written_params}
use Rattle.au_judged_types.proofs.BoundLemmas.{of_each}
use Rattle.au_typing.specs.Scopes.{Outside}
use Rattle.au_typing.specs.Bodies.{generics_in}

pub generics_made : (outside : Outside) (written : List (Constrained Bytes)) (params : List Parameter)
    (all : List (List DeclAt)) (heads : List (DeclAt × Head))
    → params ≡ written_params written → heads ≡ outside.heads →
    all ≡ map (constraints (λ name. class_in (sense_of [] params outside.visible heads name))) written
    → bounded params all ≡ generics_in outside written
generics_made outside written params all heads params_are heads_are all_are =
    ap (bounded params) all_are
    ∙ (λ i. bounded (params_are i)
    (map (constraints (λ name. class_in (sense_of [] (params_are i) outside.visible (heads_are i) name)))
    written))
    ∙ of_each (λ (p : Constrained Bytes). parameter p.parameter)
    (constraints (class_meant (written_params written) outside.visible outside.heads)) written
