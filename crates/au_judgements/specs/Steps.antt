-- Steps of the judgements of single statements, each with a name of its own.
use Rattle.std.specs.Prelude.{◌==◌, ◌&&◌, List, [], ◌∷◌, map, Bool, false, is_some, Option, Some, None, Ok}
use Rattle.std.specs.Prelude.{Err}
use Rattle.std.specs.List.{count_by, find, list_all}
use Rattle.au_syntax.specs.declared.expressions.BorrowMode.{BorrowMode}
use Rattle.au_syntax.specs.declared.types.Access.{Access}
use Rattle.au_syntax.specs.Names.{Placed}
use Rattle.au_syntax.specs.Plain.{Bytes}
use Rattle.au_syntax.specs.Types.{Bound, WrittenType}
use Rattle.au_types.specs.declared.types.Region.TheVariants as regions
use Rattle.au_types.specs.Same.{same}
use Rattle.au_types.specs.Types.{Meaning}
use Rattle.au_judged_types.specs.Judging.{refers}
use Rattle.au_typing.specs.InScope.{with_typed}
use Rattle.au_typing.specs.Parts.{ArmHead, borrow_type, case_meant}
use Rattle.au_typing.specs.DerivationSearch.{free_place, is_of_borrow, judge_binds, judge_bound}
use Rattle.au_typing.specs.DerivationSearch.{judge_reference, place_type, written_through}
use Rattle.au_imports.specs.Clashing.{same_target}
use Rattle.au_names.specs.Importing.{given_name}
use Rattle.au_names.specs.declared.targets.Target.{Target}
use Rattle.au_typing.specs.Scopes.{Case, Scope, Typed, Variable}
use Rattle.au_typing.specs.Faults.{Noting, ◌>>=◌, arms_wanted, assignable_wanted, check, different, known_or}
use Rattle.au_typing.specs.Faults.{reference_wanted, shape, why, write_reference_wanted}
use Rattle.au_typing.specs.Lookups.{record_part, written_type}

-- the type of a place of a variable that may be assigned to
abbrev pub assigned_place : Scope → Variable → List (Placed Bytes) → Noting Meaning
assigned_place sc one path =
    check one.assignable (shape assignable_wanted) (place_type sc one.of path) >>= λ of. free_place sc of

-- the type of a part behind a variable of a type that may be assigned to
abbrev pub put_place : Scope → Meaning → List (Placed Bytes) → Noting Meaning
put_place sc t path =
    known_or (shape write_reference_wanted) (written_through t)
    >>= λ to. record_part sc to path
    >>= λ of. free_place sc of

-- a written type that is that of a field
abbrev pub bound_type : Scope → Meaning → WrittenType → Noting Meaning
bound_type sc field t = written_type sc t >>= λ of. check (same field of) (different field of) (Ok of)

-- a field that is bound, without its type
abbrev pub judge_one : Scope → List Typed → Bound Bytes → Noting (Unit {0})
judge_one sc fields b = judge_bound sc fields b >>= λ of. Ok tt

-- an arm for this case, if it is for one
abbrev pub judge_found : Scope → Option Case → ArmHead → Noting (Unit {0})
judge_found sc found head = known_or (shape arms_wanted) found >>= λ one. judge_binds sc one.fields head.binds

-- the first case of a target
abbrev pub case_of_target : List Case → Target → Option Case
case_of_target cases target = find (λ one. same_target target one.target) cases

-- what the names of arms mean
abbrev pub all_meant : Scope → List ArmHead → List (Option Target)
all_meant sc heads = map (λ (head : ArmHead). sc.outside.target head.name) heads

-- what a name means is this case
abbrev pub is_meant : Case → Option Target → Bool
is_meant one meant = is_some (case_meant (one ∷ []) meant)

-- a case is what exactly one name means
abbrev pub has_one_arm : List (Option Target) → Case → Bool
has_one_arm meant one = count_by (is_meant one) meant == 1

-- each case is what exactly one name means
abbrev pub each_has_one_arm : List (Option Target) → List Case → Bool
each_has_one_arm meant cases = list_all (has_one_arm meant) cases

-- each name means one of the cases
abbrev pub each_is_for_one : List Case → List (Option Target) → Bool
each_is_for_one cases meant = list_all (λ one. is_some (case_meant cases one)) meant

-- each case is what exactly one name means, and each name means one of them
abbrev pub names_fit : List Case → List (Option Target) → Bool
names_fit cases meant = each_has_one_arm meant cases && each_is_for_one cases meant

-- the region and the type of a reference to a written type
abbrev pub reference_into : Scope → Access → WrittenType → Bytes → Noting (Bytes × Meaning)
reference_into sc access target region =
    written_type sc target >>= λ to. Ok (region, refers access to (regions.Named region))

-- why a written type isn't a reference
abbrev pub no_reference : Scope → WrittenType → Noting (Bytes × Meaning)
no_reference sc t = written_type sc t >>= λ of. Err (why (shape reference_wanted))

-- a scope with the variable that a field is bound to, with the type that is written with it
abbrev pub with_one : Bound Bytes → Scope → Scope
with_one b sc = with_typed (given_name b.name) false (written_type sc b.of) sc

-- the type that a written type means, if it is well formed
abbrev pub formed : Noting Meaning → Option Meaning
formed (Ok t) = Some t
formed (Err fault) = None

-- the region and the type of a borrow statement with a written type, of what is borrowed
abbrev pub judge_into : Scope → WrittenType → BorrowMode → Meaning → Noting (Bytes × Meaning)
judge_into sc t mode lends = judge_reference sc t >>= λ y. is_of_borrow mode lends y

-- a type that is that of the borrow into a region of what is borrowed
abbrev pub judge_same : BorrowMode → Bytes → Meaning → Meaning → Noting (Unit {0})
judge_same mode region lends of =
    check (same (borrow_type mode region lends) of) (different (borrow_type mode region lends) of) (Ok tt)
