-- One step of each walk over fields, arms and cases.
use Rattle.std.proofs.Common.{◌≡◌, ◌==◌, ◌&&◌, ◌<◌, get_or, count_by, ℕ, ◌+◌, ◌-◌, drop, length, Bool, List}
use Rattle.std.proofs.Common.{[], ◌∷◌, Option, Some, Ok, Err, is_some, cond, arith, refl, ap, sym, ◌∙◌}
use Rattle.std.proofs.lemmas.List.{at_drop_more}
use Rattle.std.proofs.lemmas.List.Folds.{fold-map, list_all-map}
use Rattle.std.specs.List.{list_all}
use Rattle.std.specs.Str.{bytes_eq}
use Rattle.au_syntax.specs.declared.names.Bind.{Bind}
use Rattle.au_syntax.specs.declared.parsed.Parsed.{Parsed}
use Rattle.au_syntax.specs.Plain.{Bytes}
use Rattle.au_typing.specs.InScope.{with_bound, with_typed, with_variable}
use Rattle.au_typing.specs.DerivationSearch.{judge_all_bound, judge_arm, judge_binds, judge_bound}
use Rattle.au_typing.specs.Parts.{ArmHead, arms_fit, case_meant, case_of_arm, is_for}
use Rattle.au_typing.specs.Scopes as scopes
use Rattle.au_noting.specs.Scopes.{without}
use Rattle.au_types.specs.Types.{Meaning}
use Rattle.au_typing.specs.Faults.{Noting, ◌>>=◌}
use Rattle.au_sights.specs.declared.called.Case as code
use Rattle.au_sights.specs.declared.called.Typed as code_typed
use Rattle.au_sights.specs.Sights.{case_said}
use Rattle.au_names.specs.declared.targets.Target.{Target}
use Rattle.au_typing.specs.Scopes.{Scope}
use Rattle.au_judgements.specs.Said.{bind_said, binds_said, cases_said, fields_named}
use Rattle.au_judgements.specs.Steps.{all_meant, each_has_one_arm, each_is_for_one, formed, has_one_arm, is_meant}
use Rattle.au_judgements.specs.Steps.{judge_found, judge_one, names_fit, with_one}
use Rattle.au_noting.specs.Said.{all_typed}

-- of the fields from one on, each is bound once where it is and each behind it
pub once_step : (labels : List Bytes) (fields : List code_typed.Typed) (i : ℕ) (one : code_typed.Typed) →
    i < length fields → one ≡ get_or fields i one →
    list_all (λ name. count_by (bytes_eq name) labels == 1) (fields_named (all_typed (drop i fields)))
    ≡ ((count_by (bytes_eq one.name) labels == 1) && list_all (λ name. count_by (bytes_eq name) labels == 1)
    (fields_named (all_typed (drop (i + 1) fields))))
once_step labels fields i one within is =
    at_drop_more (λ rest. list_all (λ name. count_by (bytes_eq name) labels == 1)
    (fields_named (all_typed rest))) fields i one within
    ∙ ap (λ (x : code_typed.Typed). (count_by (bytes_eq x.name) labels == 1) && list_all
    (λ name. count_by (bytes_eq name) labels == 1) (fields_named (all_typed (drop (i + 1) fields))))
    (sym is)

-- of the cases from one on, each has one arm where it has and each behind it
pub arm_step : (meant : List (Option Target)) (cases : List code.Case) (i : ℕ) (one : code.Case) →
    i < length cases → one ≡ get_or cases i one →
    each_has_one_arm meant (cases_said (drop i cases))
    ≡ (has_one_arm meant (case_said one) && each_has_one_arm meant (cases_said (drop (i + 1) cases)))
arm_step meant cases i one within is =
    at_drop_more (λ rest. each_has_one_arm meant (cases_said rest)) cases i one within
    ∙ ap (λ (x : code.Case). has_one_arm meant (case_said x) && each_has_one_arm meant
    (cases_said (drop (i + 1) cases))) (sym is)

-- as many arms are for a case as names mean it
counted_meant : (sc : Scope) (one : scopes.Case) (heads : List ArmHead) →
    count_by (is_meant one) (all_meant sc heads) ≡ count_by (is_for sc one) heads
counted_meant sc one heads =
    fold-map (λ (n : ℕ) (meant : Option Target). n + cond (is_meant one meant) 1 0)
    (λ (head : ArmHead). sc.outside.target head.name) 0 heads

-- each case has one arm where it is what one name means
cases_meant : (sc : Scope) (heads : List ArmHead) (cases : List scopes.Case) →
    each_has_one_arm (all_meant sc heads) cases ≡ list_all (λ one. count_by (is_for sc one) heads == 1) cases
cases_meant sc heads [] = refl
cases_meant sc heads (one ∷ cases) =
    ap (λ n. (n == 1) && each_has_one_arm (all_meant sc heads) cases) (counted_meant sc one heads)
    ∙ ap (λ b. (count_by (is_for sc one) heads == 1) && b) (cases_meant sc heads cases)

-- arms are those for the cases where their names mean these
pub fit_by_meanings : (sc : Scope) (cases : List scopes.Case) (heads : List ArmHead) →
    names_fit cases (all_meant sc heads) ≡ arms_fit sc cases heads
fit_by_meanings sc cases heads =
    ap (λ b. b && each_is_for_one cases (all_meant sc heads)) (cases_meant sc heads cases)
    ∙ ap (λ b. list_all (λ one. count_by (is_for sc one) heads == 1) cases && b)
    (list_all-map (λ one. is_some (case_meant cases one)) (λ (head : ArmHead). sc.outside.target head.name) heads)

-- a field that is bound, as it is read
abbrev TheBind : Type 0
TheBind = Bind Parsed (List ℕ) (Unit {0}) (Unit {0})

-- what follows a step follows it without what it gave
given_up : {A B : Type 0} (made : Noting A) (rest : Noting B) → (made >>= λ x. rest)
    ≡ ((made >>= λ x. Ok (tt {0})) >>= λ none. rest)
given_up (Ok x) rest = refl
given_up (Err fault) rest = refl

-- of the fields that are bound from one on, it is judged before those behind it
pub bound_step : (sc : Scope) (fields : List scopes.Typed) (binds : List TheBind) (i : ℕ) (one : TheBind) →
    i < length binds → one ≡ get_or binds i one →
    judge_all_bound sc fields (binds_said (drop i binds))
    ≡ (judge_one sc fields (bind_said one) >>=
    λ none. judge_all_bound sc fields (binds_said (drop (i + 1) binds)))
bound_step sc fields binds i one within is =
    at_drop_more (λ rest. judge_all_bound sc fields (binds_said rest)) binds i one within
    ∙ ap (λ (x : TheBind). judge_bound sc fields (bind_said x) >>=
    λ of. judge_all_bound sc fields (binds_said (drop (i + 1) binds))) (sym is)
    ∙ given_up (judge_bound sc fields (bind_said one)) (judge_all_bound sc fields (binds_said (drop (i + 1) binds)))

-- of the fields that are bound from one on, it is declared before those behind it
pub declared_step : (sc : Scope) (binds : List TheBind) (i : ℕ) (one : TheBind) → i < length binds →
    one ≡ get_or binds i one →
    with_bound (binds_said (drop i binds)) sc ≡ with_bound (binds_said (drop (i + 1) binds))
    (with_one (bind_said one) sc)
declared_step sc binds i one within is =
    at_drop_more (λ rest. with_bound (binds_said rest) sc) binds i one within
    ∙ ap (λ (x : TheBind). with_bound (binds_said (drop (i + 1) binds)) (with_one (bind_said x) sc)) (sym is)

-- an arm for a case that is found
pub found_arm : (sc : Scope) (cases : List scopes.Case) (head : ArmHead) (one : scopes.Case) →
    Some one ≡ case_of_arm sc cases head →
    judge_binds sc one.fields head.binds ≡ judge_arm sc cases head
found_arm sc cases head one is = ap (λ found. judge_found sc found head) is

-- all but one of a list
but_one : {A : Type 0} (xs : List A) → drop (length xs - (length xs - 1)) xs ≡ drop 1 xs
but_one [] = refl
but_one (x ∷ xs) =
    let one : length (x ∷ xs) - (length (x ∷ xs) - 1) ≡ 1 = omega arith in
    ap (λ n. drop n (x ∷ xs)) one

-- a scope that is left with all but one of its variables
pub left_but_one : (sc : Scope) (depth left : ℕ) → depth ≡ length sc.variables → left ≡ depth - 1 →
    without (length sc.variables - left) sc ≡ without 1 sc
left_but_one sc depth left all less =
    ap (λ n. without (length sc.variables - n) sc) (less ∙ ap (λ n. n - 1) all)
    ∙ ap (λ (left_over : List scopes.Variable). record sc { variables = left_over }) (but_one sc.variables)

-- a variable with a type that is well formed
pub formed_typed : (name : Bytes) (assignable : Bool) (made : Noting Meaning) (of : Meaning) (sc : Scope) →
    Some of ≡ formed made →
    with_variable (record { name = name; of = of; assignable = assignable }) sc ≡ with_typed name assignable made sc
formed_typed name assignable (Ok t) of sc is =
    let same : of ≡ t = cc in
    ap (λ (u : Meaning). with_variable (record { name = name; of = u; assignable = assignable }) sc) same
formed_typed name assignable (Err fault) of sc is = absurd cc
