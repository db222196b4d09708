-- The tests of a conditional, whose jumps lead to its end.
use Rattle.std.proofs.Common.{◌≡◌, ℕ, ◌+◌, ◌<◌, Bool, true, false, ◌||◌, List, [], ◌∷◌, ◌++◌, drop, get_or}
use Rattle.std.proofs.Common.{length, is_some, Option, Some, None, unwrap_or, refl, sym, ap, ◌∙◌, arith}
use Rattle.std.proofs.lemmas.List.{append-nil, append_assoc, length-append}
use Rattle.au_typing.specs.Returns.{block_returns}
use Rattle.au_low.specs.declared.instructions.Instr.TheVariants.{Jump, JumpNot}
use Rattle.au_lowered.specs.Drafts.{Draft, plain, Written, ◌>>◌, nothing, unless, count_unless, when, either}
use Rattle.au_lowered.specs.Expressions.{whole}
use Rattle.au_lowered.specs.Statements.{block, tests_of}
use Rattle.au_lowering_expressions.specs.Wrote.{wrote}
use Rattle.au_lowering_expressions.proofs.WroteLemmas.{wrote_nothing, wrote_row}
use Rattle.au_lowering_statements.specs.Ends.{AllBelow, Holed, first_to, tests_upto, with_jumps}
use Rattle.au_lowering_statements.proofs.JumpLemmas.{jumps_length, jumps_under, unless_length}
use Rattle.au_meaning.specs.Names.{Scope}
use Rattle.au_meaning.specs.Views.{View}
use Rattle.au_syntax.specs.Plain.{Bytes}
use Rattle.au_syntax.specs.Statements.{Branches, no_branches, branches}

pub unless_to : (r : Bool) (m k p q : ℕ) → m ≡ k → unless r (Jump m) p ≡ unless r (Jump k) q
unless_to true m k p q is = refl
unless_to false m k p q is = ap (λ n. plain (Jump n) ∷ []) is

module _ (r : Bool) (a b : Written) (x : List Draft) where
  -- a branch with its jump, and what follows it
  first_is : (m : ℕ) →
      wrote b (wrote (first_to r m a) x)
      ≡ x ++ (plain (JumpNot (length x + 1 + length (a (length x + 1)) + count_unless r))
      ∷ (a (length x + 1) ++ (unless r (Jump m) (length x)
      ++ b (length x + 1 + length (a (length x + 1)) + count_unless r))))
  unfolding wrote
  first_is m =
      let chosen = a (length x + 1) in
      let l = length x + 1 + length chosen + count_unless r in
      let test = plain (JumpNot l) in
      let jump = unless r (Jump m) (length x) in
      let front = test ∷ (chosen ++ jump) in
      let jump_long : length jump ≡ count_unless r = unless_length r m (length x) in
      let long : length (x ++ front) ≡ l =
      omega (arith, length-append x front, length-append chosen jump, jump_long) in
      ap (λ n. (x ++ front) ++ b n) long
      ∙ append_assoc x front (b l)
      ∙ ap (λ y. x ++ (test ∷ y)) (append_assoc chosen jump (b l))

  whole_long : (m : ℕ) → length (wrote b (wrote (first_to r m a) x)) ≡ length (wrote (either r a b) x)
  unfolding wrote
  whole_long m =
      let chosen = a (length x + 1) in
      let l = length x + 1 + length chosen + count_unless r in
      let test = plain (JumpNot l) in
      let jump = unless r (Jump m) (length x) in
      let other = unless r (Jump (l + length (b l))) l in
      omega (
        arith,
        ap length (first_is m),
        length-append x (test ∷ (chosen ++ (jump ++ b l))),
        length-append chosen (jump ++ b l),
        length-append jump (b l),
        unless_length r m (length x),
        unless_length r (l + length (b l)) l,
        length-append x (test ∷ (chosen ++ (other ++ b l))),
        length-append chosen (other ++ b l),
        length-append other (b l),
      )

  whole_end : (m : ℕ) → m ≡ length (wrote (either r a b) x)
      → wrote b (wrote (first_to r m a) x) ≡ wrote (either r a b) x
  unfolding wrote
  whole_end m is =
      let chosen = a (length x + 1) in
      let l = length x + 1 + length chosen + count_unless r in
      let test = plain (JumpNot l) in
      let other = unless r (Jump (l + length (b l))) l in
      let end : m ≡ l + length (b l) =
      omega (
        arith,
        is,
        length-append x (test ∷ (chosen ++ (other ++ b l))),
        length-append chosen (other ++ b l),
        length-append other (b l),
        unless_length r (l + length (b l))
            l,
      ) in
      first_is m
      ∙ ap (λ j. x ++ (test ∷ (chosen ++ (j ++ b l)))) (unless_to r m (l + length (b l)) (length x) l end)

-- Code whose jumps lead to a place is as long as the code, and is the code where the place is its end.
pub record Ends (upto : ℕ → Written) (last whole : Written) : Type 0 where
  pub long : (m : ℕ) (x : List Draft) → length (wrote last (wrote (upto m) x)) ≡ length (wrote whole x)
  pub end : (m : ℕ) (x : List Draft) → m ≡ length (wrote whole x)
      → wrote last (wrote (upto m) x) ≡ wrote whole x

-- a test and a branch with a jump before what follows
step_some : (test a : Written) (r : Bool) (upto : ℕ → Written) (last rest : Written)
    → Ends upto last rest
    → Ends (λ m. test >> first_to r m a >> upto m) last (test >> either r a rest)
step_some test a r upto last rest ends = record {
  long = λ m x.
      let after = wrote (first_to r m a) (wrote test x) in
      ap length (split m x) ∙ ends.long m after ∙ whole_long r a rest (wrote test x) m
      ∙ sym (ap length (wrote_row test (either r a rest) x));
  end = λ m x is.
      let after = wrote (first_to r m a) (wrote test x) in
      let same : m ≡ length (wrote (either r a rest) (wrote test x)) =
      is ∙ ap length (wrote_row test (either r a rest) x) in
      split m x
      ∙ ends.end m after (same ∙ sym (whole_long r a rest (wrote test x) m))
      ∙ whole_end r a rest (wrote test x) m same
      ∙ sym (wrote_row test (either r a rest) x);
}
  where
    split : (m : ℕ) (x : List Draft)
        → wrote last (wrote (test >> first_to r m a >> upto m) x)
        ≡ wrote last (wrote (upto m) (wrote (first_to r m a) (wrote test x)))
    split m x =
        ap (wrote last)
        (wrote_row test (first_to r m a >> upto m) x ∙ wrote_row (first_to r m a) (upto m) (wrote test x))

-- a test and a branch that nothing follows
step_none : (test a : Written) → Ends (λ m. test >> when a >> nothing) nothing (test >> when a)
step_none test a = record {
  long = λ m x. ap length (same x);
  end = λ m x is. same x;
}
  where
    same : (x : List Draft) → wrote nothing (wrote (test >> when a >> nothing) x) ≡ wrote (test >> when a) x
    same x =
        wrote_nothing (wrote (test >> when a >> nothing) x)
        ∙ wrote_row test (when a >> nothing) x
        ∙ wrote_row (when a) nothing (wrote test x)
        ∙ wrote_nothing (wrote (when a) (wrote test x))
        ∙ sym (wrote_row test (when a) x)

-- no test
step_last : (last : Written) → Ends (λ m. nothing) last last
step_last last = record {
  long = λ m x. ap (λ y. length (wrote last y)) (wrote_nothing x);
  end = λ m x is. ap (wrote last) (wrote_nothing x);
}

module _ {T C : Type 0} (see : View ℕ T C) (around slot : ℕ) (scope : Scope) where
  pub tests_end : (tests : Branches Bytes T C) (other : Option Written)
      → Ends (λ m. tests_upto see around slot scope m (is_some other) tests) (unwrap_or other nothing)
      (unwrap_or (tests_of see around slot scope tests other) nothing)
  tests_end no_branches other = step_last (unwrap_or other nothing)
  tests_end (branches e body no_branches) None =
      step_none (whole see around scope e) (block see around slot scope body)
  tests_end (branches e body no_branches) (Some last) =
      step_some (whole see around scope e) (block see around slot scope body) (block_returns body)
      (λ m. nothing) last last (step_last last)
  tests_end (branches e body (branches f next rest)) None =
      step_some (whole see around scope e) (block see around slot scope body) (block_returns body)
      (λ m. tests_upto see around slot scope m false (branches f next rest)) nothing _
      (tests_end (branches f next rest) None)
  tests_end (branches e body (branches f next rest)) (Some last) =
      step_some (whole see around scope e) (block see around slot scope body) (block_returns body)
      (λ m. tests_upto see around slot scope m true (branches f next rest)) last _
      (tests_end (branches f next rest) (Some last))

-- Code with holes is written, and then what follows it, and then the holes are filled with the end.
pub ended_written : (upto : ℕ → Written) (last whole : Written) (all : List ℕ) (d d1 d2 d3 : List Draft)
    → Ends upto last whole → Holed upto [] d all d1 → d2 ≡ wrote last d1
    → d3 ≡ with_jumps (length d2) all d2 → d3 ≡ wrote whole d
ended_written upto last whole all d d1 d2 d3 ends holed more filled =
    let m = length d2 in
    let all_filled : with_jumps m all d2 ≡ wrote last (wrote (upto m) d) =
    ap (with_jumps m all) more ∙ jumps_under m last all d1 (holed.below tt)
    ∙ ap (wrote last) (holed.filled tt m) in
    let end : m ≡ length (wrote whole d) =
    sym (jumps_length m all d2) ∙ ap length all_filled ∙ ends.long m d in
    filled ∙ all_filled ∙ ends.end m d end
