-- Scopes stay known behind statements, and the test of typing for `~`.
use Rattle.std.proofs.Common.{◌≡◌, Bool, true, false, ◌||◌, cond, true≢false, List, [], ◌∷◌, find, Some}
use Rattle.std.proofs.Common.{Ok, Err, refl, subst}
use Rattle.std.specs.Str.{bytes_eq}
use Rattle.std.proofs.lemmas.Bool.{and_from}
use Rattle.std.proofs.lemmas.Option.{same_Some}
use Rattle.au_syntax.specs.Plain.{Bytes}
use Rattle.au_syntax.specs.Statements.{skip, declare, destructure, assign, assign_through, conditional}
use Rattle.au_syntax.specs.Statements.{conditional_else, case_of, while_loop, for_loop, borrow_in}
use Rattle.au_syntax.specs.Statements.{borrow_typed, discard, return_of}
use Rattle.au_syntax.specs.Types.{Bound}
use Rattle.au_types.specs.declared.types.Region.{Region}
use Rattle.au_types.specs.declared.types.Region.TheVariants.{Static, Named, Anonymous}
use Rattle.au_types.specs.Types.{Meaning, Argument, Arguments, unit, truth, integer, text, parameter, named}
use Rattle.au_types.specs.Types.{reads, writes, of_type, in_region, no_arguments, arguments}
use Rattle.au_names.specs.Importing.{given_name}
use Rattle.au_running_types.specs.Running.{are_lasting, argument_lasting, is_lasting, is_lasting_region}
use Rattle.au_typing.specs.Faults.{Noting}
use Rattle.au_typing.specs.InScope.{after, fixed_variable, is_var, with_bound, with_reference, with_typed, with_variable}
use Rattle.au_typing.specs.Lookups.{parameters_in, written_type}
use Rattle.au_typing.specs.Parts.{are_borrowed_within, argument_borrowed_within, is_anonymous, is_borrowed_within}
use Rattle.au_typing.specs.Scopes.{Scope, Variable}
use Rattle.au_typing.specs.Trees.{NotedStatement}
use Rattle.au_known_types.specs.Known.{IsKnownIn, ScopeIsKnown}
use Rattle.au_known_types.proofs.KnownLemmas.{opened_known}
use Rattle.au_known_types.proofs.NotedLemmas.{written_known}

-- ---- scopes

pub variable_added : (v : Variable) (sc : Scope) → ScopeIsKnown sc → IsKnownIn sc v.of → is_lasting v.of ≡ true
    → ScopeIsKnown (with_variable v sc)
variable_added v sc scope known lasts =
    record {
      outside = scope.outside;
      variables = λ name one e. by (bytes_eq v.name name) name one e;
      lasting = λ name one e. so (bytes_eq v.name name) name one e;
      result = scope.result;
    }
  where
    by : (b : Bool) (name : Bytes) (one : Variable) →
        cond b (Some v) (find (λ (x : Variable). bytes_eq x.name name) sc.variables) ≡ Some one → IsKnownIn sc one.of
    by true name one e = subst (λ (x : Variable). IsKnownIn sc x.of) (same_Some v one e) known
    by false name one e = scope.variables name one e

    so : (b : Bool) (name : Bytes) (one : Variable) →
        cond b (Some v) (find (λ (x : Variable). bytes_eq x.name name) sc.variables) ≡ Some one
        → is_lasting one.of ≡ true
    so true name one e = subst (λ (x : Variable). is_lasting x.of ≡ true) (same_Some v one e) lasts
    so false name one e = scope.lasting name one e

typed_added : (name : Bytes) (assignable : Bool) (o : Noting Meaning) (sc : Scope) → ScopeIsKnown sc
    → ((of : Meaning) → o ≡ Ok of → IsKnownIn sc of × (is_lasting of ≡ true))
    → ScopeIsKnown (with_typed name assignable o sc)
typed_added name assignable (Ok t) sc scope whole =
    let its = whole t refl in
    variable_added (record { name = name; of = t; assignable = assignable }) sc scope its.0 its.1
typed_added name assignable (Err fault) sc scope whole = scope

pub bound_added : (binds : List (Bound Bytes)) (sc : Scope) → ScopeIsKnown sc → ScopeIsKnown (with_bound binds sc)
bound_added [] sc scope = scope
bound_added (b ∷ rest) sc scope =
    bound_added rest (with_typed (given_name b.name) false (written_type sc b.of) sc)
    (typed_added (given_name b.name) false (written_type sc b.of) sc scope (written_known sc b.of))

-- in the block of a borrow statement, whose reference has this type
pub reference_added : (name region : Bytes) (of : Meaning) (sc : Scope) → ScopeIsKnown sc
    → IsKnownIn (record sc { regions = region ∷ sc.regions }) of → is_lasting of ≡ true
    → ScopeIsKnown (with_reference name region of sc)
reference_added name region of sc scope known lasts =
    variable_added (fixed_variable name of) (record sc { regions = region ∷ sc.regions })
    (record {
      outside = scope.outside;
      variables = λ n v e. opened_known sc.outside.heads (parameters_in sc) sc.regions region v.of
          (scope.variables n v e);
      lasting = scope.lasting;
      result = (
        opened_known sc.outside.heads (parameters_in sc) sc.regions region sc.result scope.result.0,
        scope.result.1,
      );
    }) known lasts

pub after_known : (s : NotedStatement) (sc : Scope) → ScopeIsKnown sc → ScopeIsKnown (after s sc)
after_known (declare at binding name t e) sc scope =
    typed_added name.name (is_var binding) (written_type sc t) sc scope (written_known sc t)
after_known (destructure at binds e) sc scope = bound_added binds sc scope
after_known (skip at) sc scope = scope
after_known (assign at x fields e) sc scope = scope
after_known (assign_through at x fields e) sc scope = scope
after_known (conditional at tests) sc scope = scope
after_known (conditional_else at tests b) sc scope = scope
after_known (case_of at e all) sc scope = scope
after_known (while_loop at e b) sc scope = scope
after_known (for_loop at n a z b) sc scope = scope
after_known (borrow_in at access x r region b stop) sc scope = scope
after_known (borrow_typed at r t mode x b stop) sc scope = scope
after_known (discard at e) sc scope = scope
after_known (return_of at e) sc scope = scope

-- ---- the test for `~`

neither : (a b : Bool) → a || b ≡ false → (a ≡ false) × (b ≡ false)
neither true b e = absurd (true≢false e)
neither false b e = (refl, e)

region_lasts : (region : Region) → is_anonymous region ≡ false → is_lasting_region region ≡ true
region_lasts Static e = refl
region_lasts (Named name) e = refl
region_lasts Anonymous e = absurd (true≢false e)

mutual
  pub lasts : (t : Meaning) → is_borrowed_within t ≡ false → is_lasting t ≡ true
  lasts unit e = refl
  lasts truth e = refl
  lasts (integer kind) e = refl
  lasts text e = refl
  lasts (parameter name) e = refl
  lasts (named at args) e = all_last args e
  lasts (reads t region) e =
      let both = neither (is_anonymous region) (is_borrowed_within t) e in
      and_from (is_lasting t) (is_lasting_region region) (lasts t both.1) (region_lasts region both.0)
  lasts (writes t region) e =
      let both = neither (is_anonymous region) (is_borrowed_within t) e in
      and_from (is_lasting t) (is_lasting_region region) (lasts t both.1) (region_lasts region both.0)

  one_lasts : (one : Argument) → argument_borrowed_within one ≡ false → argument_lasting one ≡ true
  one_lasts (of_type t) e = lasts t e
  one_lasts (in_region region) e = region_lasts region e

  all_last : (args : Arguments) → are_borrowed_within args ≡ false → are_lasting args ≡ true
  all_last no_arguments e = refl
  all_last (arguments one rest) e =
      let both = neither (argument_borrowed_within one) (are_borrowed_within rest) e in
      and_from (argument_lasting one) (are_lasting rest) (one_lasts one both.0) (all_last rest both.1)
