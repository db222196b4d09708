-- What the code's reasons say, and what is judged in a scope of the code.
use Rattle.std.specs.Prelude.{List, Option, map}
use Rattle.au_syntax.specs.declared.declarations.Universe.{Universe}
use Rattle.au_syntax.specs.Plain.{Bytes}
use Rattle.au_syntax.specs.declared.types.TypeText.{TypeText}
use Rattle.au_syntax.specs.Types.{WrittenType}
use Rattle.au_syntax.specs.Views.{written}
use Rattle.au_types.specs.declared.parameters.Parameter.{Parameter}
use Rattle.au_types.specs.declared.types.DeclAt.{DeclAt}
use Rattle.au_types.specs.declared.types.Region.{Region}
use Rattle.au_types.specs.Types.{Meaning, Argument, Arguments}
use Rattle.au_types.specs.Views.{meaning}
use Rattle.au_matching.specs.Forming.{ArgumentStandsOver, StandsOver}
use Rattle.au_types.specs.declared.scopes.Scope.{Scope}
use Rattle.au_types.specs.Senses.{Sense}
use Rattle.au_types.specs.WrittenViews.{sense_in}
use Rattle.au_judged_types.specs.declared.reasons.Judged.{Judged}
use Rattle.au_judged_types.specs.declared.reasons.Judged.TheVariants.{Means, Fails}
use Rattle.au_judged_types.specs.declared.reasons.Reason as code
use Rattle.au_judged_types.specs.declared.reasons.Reason.TheVariants as case
use Rattle.au_judged_types.specs.Reasons.{Reason, unknown, number_wanted, region_wanted, not_free}
use Rattle.au_judged_types.specs.Reasons.{linear_wanted, Outcome, means, fails}
use Rattle.au_judged_types.specs.Judging as judging
use Rattle.au_judged_types.specs.Standing.{StandFor}

-- a reason
abbrev pub reason : code.Reason → Reason
reason (case.Unknown name) = unknown name
reason (case.Arguments number) = number_wanted number
reason case.RegionWanted = region_wanted
reason (case.NotFree of) = not_free (meaning of)
reason case.LinearWanted = linear_wanted

-- what came of judging, where this is what the code's value means
abbrev pub outcome : {A B : Type 0} → (A → B) → Judged A → Outcome B
outcome view (Means x) = means (view x)
outcome view (Fails why) = fails (reason why)

-- a region of the code is what it means
abbrev pub region : Judged Region → Outcome Region
region judged = outcome (λ r. r) judged

-- what a name is judged to mean in a scope where a region is wanted
abbrev pub region_named_in : Scope → Bytes → Outcome Region
region_named_in scope name = judging.region_named name (sense_in scope name)

-- what a written type is judged to mean in a scope where a region is wanted
abbrev pub region_in : Scope → WrittenType → Outcome Region
region_in scope t =
    judging.region_judged scope.regions.now scope.params.now scope.names.now scope.heads.now t

-- what a written type is judged to mean in a scope
abbrev pub judged_in : Scope → WrittenType → Outcome Meaning
judged_in scope t =
    judging.judged scope.regions.now scope.params.now scope.names.now scope.heads.now t

-- a written type of the code as an argument in a scope
abbrev pub given_in : Scope → TypeText → judging.Given
given_in scope t = record { as_type = judged_in scope (written t); as_region = region_in scope (written t) }

-- ---- the parts of judging in a scope

-- a name that has this sense, with these arguments
abbrev pub applied_in : Scope → Bytes → Option Sense → List TypeText → Outcome Meaning
applied_in scope name sense args =
    judging.applied scope.heads.now scope.params.now name sense (map (given_in scope) args)

-- a declared type with these arguments
abbrev pub declared_in : Scope → DeclAt → List Parameter → List TypeText → Outcome Meaning
declared_in scope at expected args =
    judging.declared_judged scope.heads.now scope.params.now at expected (map (given_in scope) args)

-- a declared type with arguments that mean something
abbrev pub fitted_in : Scope → DeclAt → List Parameter → Arguments → Outcome Meaning
fitted_in scope at expected args =
    judging.fitted scope.heads.now scope.params.now at expected (means args)

-- as many arguments as there are type parameters
abbrev pub arguments_in : Scope → List Parameter → List TypeText → Outcome Arguments
arguments_in scope expected args = judging.arguments_judged expected (map (given_in scope) args)

-- why the first of the arguments that don't fit in universe doesn't
abbrev pub first_unfit_in : Scope → List Parameter → Arguments → Option Reason
first_unfit_in scope expected args = judging.first_unfit scope.heads.now scope.params.now expected args

-- why an argument doesn't fit in universe
abbrev pub unfit_in : Scope → Universe → Argument → Option Reason
unfit_in scope wanted one = judging.unfit scope.heads.now scope.params.now wanted one

-- a type stands over what is declared and the type parameters there
abbrev pub StandsIn : Scope → Meaning → Type 0
StandsIn scope t = StandsOver scope.heads.now scope.params.now t

-- an argument stands over them
abbrev pub ArgumentStandsIn : Scope → Argument → Type 0
ArgumentStandsIn scope one = ArgumentStandsOver scope.heads.now scope.params.now one

-- arguments are those of type parameters but for their universes
abbrev pub StandForIn : Scope → List Parameter → Arguments → Type 0
StandForIn scope expected args = StandFor scope.heads.now scope.params.now expected args
