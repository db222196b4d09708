-- Parts of statements from what their own parts give.
use Rattle.std.proofs.Common.{◌≡◌, Err, None, Ok, List, Result, ap, subst, sym, ◌∙◌}
use Rattle.au_typing.specs.Parts.{ArmHead}
use Rattle.au_typing.specs.DerivationSearch.{judge_binds, judge_heads, judge_union, note_case, note_taken}
use Rattle.au_noting.specs.declared.faults.Fault as told
use Rattle.au_noting.specs.declared.faults.Fault.TheVariants as fault
use Rattle.au_noting.specs.Giving.{Gives, Stops, cause_said}
use Rattle.au_typing.specs.Scopes.{Case, Scope, Typed}
use Rattle.au_syntax.specs.Plain.{Bytes, PlainExpression}
use Rattle.au_syntax.specs.Types.{Bound}
use Rattle.au_types.specs.Types.{Meaning}
use Rattle.au_typing.specs.Faults.{Fault, Noting, ◌>>=◌, known_or, limit, record_wanted, shape, why}
use Rattle.au_typing.specs.Notes.{NotedExpression, type_of}
use Rattle.au_typing.specs.Search.{note}

-- what stops a part stops what it is a part of
pub stops_on : {A B : Type 0} (e : told.Fault) (one : Noting B) (whole : Noting A) → Stops e one →
    ((f : Fault) → one ≡ Err f → whole ≡ Err f) → Stops e whole
stops_on (fault.Why w) one whole h on = on (why (cause_said w)) h
stops_on (fault.Limit passed) one whole h on = on (limit passed) h
stops_on fault.Memory one whole h on = tt

-- what a call answers that stops where a part of it does
pub stopped_by : {X A B : Type 0} (view : X → A) (result : Result X told.Fault) (e : told.Fault)
    (one : Noting B) (whole : Noting A) →
    (y : told.Fault) × (result ≡ Err y) × (y ≡ e) → Stops e one →
    ((f : Fault) → one ≡ Err f → whole ≡ Err f) → Gives view result whole
stopped_by {X = X} view result e one whole is stops on =
    subst (λ (r : Result X told.Fault). Gives view r whole) (sym is.1)
    (subst (λ (y : told.Fault). Stops y whole) (sym is.2) (stops_on e one whole stops on))

module _ (sc : Scope) (e : PlainExpression) (a : NotedExpression) (noted : note sc e None ≡ Ok a)
    (t : Meaning) (is : t ≡ type_of a) where
  -- the arms of a `case` with these cases
  abbrev pub heads_behind : List ArmHead → List Case → Noting NotedExpression
  heads_behind heads cases = judge_heads sc cases heads >>= λ judged. Ok a

  case_at_heads : (heads : List ArmHead) (cases : List Case) → judge_union sc t ≡ Ok cases →
      note_case sc e heads ≡ heads_behind heads cases
  case_at_heads heads cases union =
      ap (λ (n : Noting NotedExpression). n >>= λ b. judge_union sc (type_of b) >>=
      λ all. judge_heads sc all heads >>= λ judged. Ok b) noted
      ∙ ap (λ (n : Noting (List Case)). n >>= heads_behind heads) (ap (judge_union sc) (sym is) ∙ union)

  -- the arms stop the noting of a `case`
  pub case_heads_stop : (heads : List ArmHead) (cases : List Case) (f : Fault) → judge_union sc t ≡ Ok cases →
      judge_heads sc cases heads ≡ Err f → note_case sc e heads ≡ Err f
  case_heads_stop heads cases f union h =
      case_at_heads heads cases union ∙ ap (λ (n : Noting (Unit {0})). n >>= λ judged. Ok a) h

  -- the arms are those for the cases
  pub case_heads_hold : (heads : List ArmHead) (cases : List Case) → judge_union sc t ≡ Ok cases →
      judge_heads sc cases heads ≡ Ok tt → note_case sc e heads ≡ Ok a
  case_heads_hold heads cases union h =
      case_at_heads heads cases union ∙ ap (λ (n : Noting (Unit {0})). n >>= λ judged. Ok a) h

  -- what binds the fields of a record stops the noting
  pub taken_binds_stop : (binds : List (Bound Bytes)) (fields : List Typed) (f : Fault) →
      known_or (shape record_wanted) (sc.outside.fields t) ≡ Ok fields →
      judge_binds sc fields binds ≡ Err f → note_taken sc binds e ≡ Err f
  taken_binds_stop binds fields f known h =
      ap (λ (n : Noting NotedExpression). n >>=
      λ b. known_or (shape record_wanted) (sc.outside.fields (type_of b)) >>=
      λ all. judge_binds sc all binds >>= λ bound. Ok b) noted
      ∙ ap (λ (n : Noting (List Typed)). n >>= λ all. judge_binds sc all binds >>= λ bound. Ok a)
      (ap (λ (of : Meaning). known_or (shape record_wanted) (sc.outside.fields of)) (sym is) ∙ known)
      ∙ ap (λ (n : Noting (Unit {0})). n >>= λ bound. Ok a) h
