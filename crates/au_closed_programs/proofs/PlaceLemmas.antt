-- A body stands in a module of its program.
use Rattle.std.proofs.Common.{◌≡◌, ℕ, ◌<◌, List, length, refl, sym, ap, subst}
use Rattle.std.specs.Prelude.{Option, None, Some, find, slice_get}
use Rattle.std.specs.Option.{option_and_then, option_map}
use Rattle.std.proofs.lemmas.Option.{same_Some, slice_get_within}
use Rattle.au_syntax.specs.Modules.{Constrained, constant, opaque_type, record_type, union_type, function}
use Rattle.au_syntax.specs.Modules.{class, instance, constant_body, function_body, instance_body}
use Rattle.au_syntax.specs.Plain.{Bytes}
use Rattle.au_types.specs.declared.types.DeclAt.{DeclAt}
use Rattle.au_modules.specs.Programs.{ModuleParts}
use Rattle.au_names.specs.declared.targets.Target.{Target}
use Rattle.au_names.specs.Standing.{Standing, standing_at, standing_in}
use Rattle.au_names.proofs.DefinitionLemmas.{module_place}
use Rattle.au_typing.specs.Trees.{NotedDeclaration, NotedMethod, NotedParts}
use Rattle.au_closing.specs.Bodies.{BodyOf, body_in, body_of, body_standing, defining, is_method, method_body}

-- a declaration that is found stands in a module of the program
pub standing_within : (program : List ModuleParts) (at : DeclAt) (d : Standing)
    → standing_at program at ≡ Some d → d.place < length program
standing_within program at d found = by (slice_get program at.«module») refl found
  where
    by : (o : Option ModuleParts) → slice_get program at.«module» ≡ o
        → standing_in at.«module» at.decl o ≡ Some d → d.place < length program
    by None here e = absurd cc
    by (Some m) here e =
        subst (λ p. p < length program) (sym (module_place at.«module» m at.decl d e))
        (slice_get_within program at.«module» m here)

method_placed : (place : ℕ) (generics : List (Constrained Bytes)) (o : Option NotedMethod) (b : BodyOf)
    → option_map (method_body place generics) o ≡ Some b → b.place ≡ place
method_placed place generics None b e = absurd cc
method_placed place generics (Some m) b e =
    ap (λ (x : BodyOf). x.place) (sym (same_Some (method_body place generics m) b e))

-- the body of a declaration stands at its place
body_placed : (place : ℕ) (name : Bytes) (decl : NotedDeclaration) (b : BodyOf)
    → body_in place name decl ≡ Some b → b.place ≡ place
body_placed place name (function_body at generics h block stop) b e =
    ap (λ (x : BodyOf). x.place)
    (sym (same_Some (record { place = place; generics = generics; header = h; block = block }) b e))
body_placed place name (instance_body at generics its_name t methods) b e =
    method_placed place generics (find (is_method name) methods) b e
body_placed place name (constant at its_name t) b e = absurd cc
body_placed place name (opaque_type at its_name params universe) b e = absurd cc
body_placed place name (record_type at its_name params universe fields) b e = absurd cc
body_placed place name (union_type at its_name params universe cases) b e = absurd cc
body_placed place name (function at generics h) b e = absurd cc
body_placed place name (class at its_name p methods) b e = absurd cc
body_placed place name (instance at generics its_name t) b e = absurd cc
body_placed place name (constant_body at its_name t value) b e = absurd cc

-- the body of a function or method stands in a module of the program
pub body_within : (program : List ModuleParts) (noted : List NotedParts) (target : Target) (b : BodyOf)
    → body_of program noted target ≡ Some b → b.place < length program
body_within program noted target b found = by (standing_at program target.at) refl found
  where
    in_declared : (d : Standing) (o : Option NotedDeclaration)
        → option_and_then (body_in d.place target.name) o ≡ Some b → b.place ≡ d.place
    in_declared d None e = absurd cc
    in_declared d (Some decl) e = body_placed d.place target.name decl b e

    by : (o : Option Standing) → standing_at program target.at ≡ o
        → body_standing program noted target.name o ≡ Some b → b.place < length program
    by None here e = absurd cc
    by (Some d) here e =
        subst (λ p. p < length program) (sym (in_declared d (defining program noted d) e))
        (standing_within program target.at d here)
