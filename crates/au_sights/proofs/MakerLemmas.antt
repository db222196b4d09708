-- Type parameters as arguments and without constraints, and cases under the arguments of a type.
use Rattle.std.proofs.Common.{◌≡◌, ℕ, ◌+◌, ◌<◌, List, [], ◌∷◌, ◌++◌, length, map, take, Some, refl, sym, ap, ◌∙◌}
use Rattle.std.specs.Prelude.{slice_get}
use Rattle.std.proofs.lemmas.List.{map_more, take_more}
use Rattle.std.proofs.lemmas.Option.{get_or_from_slice_get, slice_get_within}
use Rattle.au_syntax.specs.declared.declarations.Universe.TheVariants.{Free}
use Rattle.au_syntax.specs.Modules.{Variant}
use Rattle.au_syntax.specs.Plain.{Bytes}
use Rattle.au_types.specs.declared.parameters.Parameter.{Parameter}
use Rattle.au_types.specs.declared.types.Arg.{Arg}
use Rattle.au_types.specs.declared.types.DeclAt.{DeclAt}
use Rattle.au_types.specs.Types.{Argument, Arguments, no_arguments, arguments}
use Rattle.au_types.specs.Views.{argument, argument_all}
use Rattle.au_modules.specs.Programs.{ModuleParts}
use Rattle.au_names.specs.Standing.{Standing}
use Rattle.au_judged_types.specs.Bounds.{bounded}
use Rattle.au_typing.specs.Called.{as_argument, as_arguments, unconstrained}
use Rattle.au_typing.specs.Insides.{case_under, cases_under, number_of, with_arguments}
use Rattle.au_typing.specs.Written.{followed}
use Rattle.au_sights.specs.Steps.{cases_by}

-- arguments with one behind them
behind : Arguments → Argument → Arguments
behind no_arguments one = arguments one no_arguments
behind (arguments first rest) one = arguments first (behind rest one)

arguments_behind : (xs : List Arg) (x : Arg) → argument_all (xs ++ x ∷ []) ≡ behind (argument_all xs) (argument x)
unfolding behind
arguments_behind [] x = refl
arguments_behind (y ∷ xs) x = ap (arguments (argument y)) (arguments_behind xs x)

parameters_behind : (ps : List Parameter) (p : Parameter) → as_arguments (ps ++ p ∷ [])
    ≡ behind (as_arguments ps) (as_argument p)
unfolding behind
parameters_behind [] p = refl
parameters_behind (q ∷ ps) p = ap (arguments (as_argument q)) (parameters_behind ps p)

taken : (ps : List Parameter) (i : ℕ) (p : Parameter) → slice_get ps i ≡ Some p → take (i + 1) ps ≡ take i ps ++ p ∷ []
taken ps i p is = take_more ps i p (slice_get_within ps i p is)
    ∙ ap (λ q. take i ps ++ q ∷ []) (get_or_from_slice_get ps i p p is)

-- one more type parameter is an argument
pub arguments_next : (ps : List Parameter) (i : ℕ) (p : Parameter) (done after : List Arg) (one : Arg) →
    slice_get ps i ≡ Some p → argument one ≡ as_argument p → after ≡ done ++ one ∷ []
    → argument_all done ≡ as_arguments (take i ps) → argument_all after ≡ as_arguments (take (i + 1) ps)
arguments_next ps i p done after one is made pushed so_far =
    ap argument_all pushed
    ∙ arguments_behind done one
    ∙ ap (λ args. behind args (argument one)) so_far
    ∙ ap (behind (as_arguments (take i ps))) made
    ∙ sym (parameters_behind (take i ps) p)
    ∙ ap as_arguments (sym (taken ps i p is))

any_parameter : Parameter
any_parameter = record { name = []; universe = Free }

-- one more list of no class
pub no_classes_next : (ps : List Parameter) (i : ℕ) (done after : List (List DeclAt)) (none : List DeclAt) →
    i < length ps → none ≡ [] → after ≡ done ++ none ∷ []
    → done ≡ map (λ p. []) (take i ps) → after ≡ map (λ p. []) (take (i + 1) ps)
no_classes_next ps i done after none less empty pushed so_far =
    pushed ∙ ap (λ xs. xs ++ none ∷ []) so_far ∙ ap (λ x. map (λ p. []) (take i ps) ++ x ∷ []) empty
    ∙ sym (map_more (λ p. []) ps i any_parameter less)

-- type parameters beside no classes
pub none_constrained : (ps : List Parameter) (classes : List (List DeclAt)) → classes ≡ map (λ p. []) ps →
    bounded ps classes ≡ map unconstrained ps
none_constrained ps classes is = ap (bounded ps) is ∙ by ps
  where
    by : (qs : List Parameter) → bounded qs (map (λ p. []) qs) ≡ map unconstrained qs
    by [] = refl
    by (q ∷ qs) = ap (λ rest. unconstrained q ∷ rest) (by qs)

-- cases under the arguments of a type are those under the substitution that these make
pub cases_same : (program : List ModuleParts) (d : Standing) (params : List Parameter) (args : Arguments)
    (vs : List (Variant Bytes))
    → cases_by program d params (with_arguments params args)
    (record { «module» = d.place; decl = number_of program d }) vs ≡ cases_under program d params args vs
cases_same program d params args [] = refl
cases_same program d params args (v ∷ vs) = ap (followed (case_under program d params args v))
    (cases_same program d params args vs)
