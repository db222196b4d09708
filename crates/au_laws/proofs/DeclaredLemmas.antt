-- The variables that a scope has beyond another, and what they ask.
use Rattle.std.proofs.Common.{◌≡◌, true, false, ℕ, ◌-◌, List, [], ◌∷◌, ◌++◌, append_assoc, length}
use Rattle.std.proofs.Common.{length-append, reverse, take, refl, sym, ap, subst, ◌∙◌, arith, Ok}
use Rattle.std.proofs.lemmas.List.{reverse-append}
use Rattle.au_judged_types.specs.Judging.{refers}
use Rattle.au_lives.specs.declared.lives.Sort.{Sort}
use Rattle.au_lives.specs.declared.lives.Sort.TheVariants as asks
use Rattle.au_names.specs.Importing.{given_name}
use Rattle.au_typing.specs.Scopes.{Scope, Typed, Variable}
use Rattle.au_syntax.specs.declared.types.Access.{Access}
use Rattle.au_syntax.specs.declared.types.Access.TheVariants as access
use Rattle.au_syntax.specs.Plain.{Bytes}
use Rattle.au_syntax.specs.Statements.{skip, declare, destructure, assign, assign_through, conditional}
use Rattle.au_syntax.specs.Statements.{conditional_else, case_of, while_loop, for_loop, borrow_in}
use Rattle.au_syntax.specs.Statements.{borrow_typed, discard, return_of}
use Rattle.au_syntax.specs.Types.{Bound}
use Rattle.au_types.specs.declared.types.Region.{Region}
use Rattle.au_types.specs.Types as mean
use Rattle.au_types.specs.Types.{Meaning}
use Rattle.au_typing.specs.Faults.{Noting}
use Rattle.au_typing.specs.Lookups.{outcome_noted, written_means, written_type}
use Rattle.au_typing.specs.Rules.{is_integer}
use Rattle.au_matching.specs.Universes.{universe_of}
use Rattle.au_typing.specs.InScope.{after, fixed_variable, is_var, with_bound, with_reference, with_typed}
use Rattle.au_typing.specs.InScope.{with_variable}
use Rattle.au_typing.specs.Statements.{AreBound, GoodStatement}
use Rattle.au_typing.specs.Trees.{NotedStatement, erase_statement}
use Rattle.au_laws.specs.Derived.{asked_in, sorts_beyond, sorts_of_types, types_in}
use Rattle.au_judged_types.specs.Reasons.{Outcome, means, fails}
use Rattle.au_program_lives.specs.Sorts.{judged_sort, written_sort, reference_sort, bound_sorts, sorts_after}
use Rattle.au_typing.proofs.Steps.{ok_same}
use Rattle.au_syntax.specs.Types.{WrittenType}

-- a scope with these variables
abbrev pub beside : List Variable → Scope → Scope
beside vs sc = record sc { variables = vs }

-- A scope has some variables beyond these, the first one that was declared first, and they ask this.
pub record Declares (sc : Scope) (vs : List Variable) (inner : Scope) (ss : List Sort) : Type 0 where
  pub new : List Variable
  pub is : inner ≡ beside (new ++ vs) sc
  pub asks : ss ≡ sorts_of_types sc (reverse new)

take_new : (new vs : List Variable) (n : ℕ) → n ≡ length new → take n (new ++ vs) ≡ new
take_new [] vs n e = ap (λ k. take k vs) e
take_new (v ∷ new) vs n e =
    ap (λ k. take k (v ∷ (new ++ vs))) e ∙ ap (λ l. v ∷ l) (take_new new vs (length new) refl)

pub beyond : (sc inner : Scope) (ss : List Sort) → Declares sc sc.variables inner ss → sorts_beyond inner sc ≡ ss
beyond sc inner ss d =
    let vs = sc.variables in
    let many = length-append d.new vs in
    let count : length (d.new ++ vs) - length vs ≡ length d.new = omega (arith, many) in
    ap (λ (one : Scope). sorts_beyond one sc) d.is
    ∙ ap (λ l. sorts_of_types sc (reverse l)) (take_new d.new vs (length (d.new ++ vs) - length vs) count)
    ∙ sym d.asks

-- ---- written types

outcome_asks : (sc : Scope) (o : Outcome Meaning) (of : Meaning) → outcome_noted o ≡ Ok of →
    judged_sort (types_in sc) o ≡ asked_in sc of
outcome_asks sc (means t) of h = ap (asked_in sc) (ok_same t of h)
outcome_asks sc (fails why) of h = absurd (cc)

-- a type that is well formed asks what it means
pub written_asks : (sc : Scope) (t : WrittenType) (of : Meaning) → written_type sc t ≡ Ok of →
    written_sort (types_in sc) t ≡ asked_in sc of
written_asks sc t of h = outcome_asks sc (written_means sc t) of h

-- ---- what is declared

-- nothing is declared
pub nothing : (sc : Scope) → Declares sc sc.variables sc []
nothing sc = record { new = []; is = refl; asks = refl }

-- one variable is declared
pub one_more : (sc : Scope) (one : Variable) (s : Sort) → s ≡ asked_in sc one.of →
    Declares sc sc.variables (with_variable one sc) (s ∷ [])
one_more sc one s e = record { new = one ∷ []; is = refl; asks = ap (λ l. l ∷ []) e }

-- the variables alone count of a scope that is beyond another
beyond_variables : (sc a b : Scope) → a.variables ≡ b.variables → sorts_beyond a sc ≡ sorts_beyond b sc
beyond_variables sc a b e =
    ap (λ (vs : List Variable). sorts_of_types sc (reverse (take (length vs - length sc.variables) vs))) e

-- the reference of a borrow statement is declared
pub reference_beyond : (sc : Scope) (name region : Bytes) (of : Meaning) (s : Sort) → s ≡ asked_in sc of →
    sorts_beyond (with_reference name region of sc) sc ≡ s ∷ []
reference_beyond sc name region of s e =
    beyond_variables sc (with_reference name region of sc) (with_variable (fixed_variable name of) sc) refl
    ∙ beyond sc (with_variable (fixed_variable name of) sc) (s ∷ []) (one_more sc (fixed_variable name of) s e)

-- one before others
pub before : (sc : Scope) (vs : List Variable) (one : Variable) (inner : Scope) (ss : List Sort) →
    Declares sc (one ∷ vs) inner ss →
    Declares sc vs inner (asked_in sc one.of ∷ ss)
before sc vs one inner ss d = record {
  new = d.new ++ (one ∷ []);
  is = d.is ∙ ap (λ l. beside l sc) (sym (append_assoc d.new (one ∷ []) vs));
  asks = ap (λ l. asked_in sc one.of ∷ l) d.asks ∙ ap (sorts_of_types sc) (sym (reverse-append d.new (one ∷ [])));
}

pub bound_declares : (sc : Scope) (fields : List Typed) (binds : List (Bound Bytes)) →
    AreBound sc fields binds → (vs : List Variable) →
    Declares sc vs (with_bound binds (beside vs sc)) (bound_sorts binds (types_in sc))
bound_declares sc fields [] good vs = record { new = []; is = refl; asks = refl }
bound_declares sc fields (b ∷ rest) good vs =
    let one : Variable = record { name = given_name b.name; of = good.0.of; assignable = false } in
    let others : List Sort = bound_sorts rest (types_in sc) in
    subst (λ (n : Noting Meaning). Declares sc vs
    (with_bound rest (with_typed (given_name b.name) false n (beside vs sc)))
    (written_sort (types_in sc) b.of ∷ others))
    (sym good.0.formed)
    (subst (λ (s : Sort). Declares sc vs (with_bound rest (beside (one ∷ vs) sc)) (s ∷ others))
    (sym (written_asks sc b.of good.0.of good.0.formed))
    (before sc vs one (with_bound rest (beside (one ∷ vs) sc)) others
    (bound_declares sc fields rest good.1 (one ∷ vs))))

pub after_declares : (s : NotedStatement) (sc : Scope) → GoodStatement s sc →
    Declares sc sc.variables (after s sc) (sorts_after (erase_statement s) (types_in sc))
after_declares (skip at) sc good = nothing sc
after_declares (declare at binding name t e) sc good =
    let one : Variable = record { name = name.name; of = good.of; assignable = is_var binding } in
    subst (λ (n : Noting Meaning). Declares sc sc.variables (with_typed name.name (is_var binding) n sc)
    (written_sort (types_in sc) t ∷ []))
    (sym good.formed) (one_more sc one (written_sort (types_in sc) t) (written_asks sc t good.of good.formed))
after_declares (destructure at binds e) sc good = bound_declares sc good.fields binds good.bound sc.variables
after_declares (assign at x path e) sc good = nothing sc
after_declares (assign_through at r path e) sc good = nothing sc
after_declares (conditional at tests) sc good = nothing sc
after_declares (conditional_else at tests block) sc good = nothing sc
after_declares (case_of at e all) sc good = nothing sc
after_declares (while_loop at e block) sc good = nothing sc
after_declares (for_loop at name first last block) sc good = nothing sc
after_declares (borrow_in at kind x r region block stop) sc good = nothing sc
after_declares (borrow_typed at r t mode x block stop) sc good = nothing sc
after_declares (discard at e) sc good = nothing sc
after_declares (return_of at e) sc good = nothing sc

-- an integer is Free
pub integer_asks : (sc : Scope) (t : Meaning) → is_integer t ≡ true → asks.Free ≡ asked_in sc t
unfolding universe_of
integer_asks sc (mean.integer kind) e = refl
integer_asks sc mean.unit e = absurd (cc)
integer_asks sc mean.truth e = absurd (cc)
integer_asks sc mean.text e = absurd (cc)
integer_asks sc (mean.parameter name) e = absurd (cc)
integer_asks sc (mean.named at args) e = absurd (cc)
integer_asks sc (mean.reads t region) e = absurd (cc)
integer_asks sc (mean.writes t region) e = absurd (cc)

-- a reference that reads is Free, and one that writes isn't
pub reference_asks : (sc : Scope) (kind : Access) (t : Meaning) (region : Region) → reference_sort kind
    ≡ asked_in sc (refers kind t region)
unfolding universe_of
reference_asks sc access.Read t region = refl
reference_asks sc access.Write t region = refl
