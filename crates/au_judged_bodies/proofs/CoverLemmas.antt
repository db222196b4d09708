-- What names may hold in a scope whose body is covered, and what is written there.
use Rattle.std.proofs.Common.{◌≡◌, inl, inr, Bool, true, false, cond, List, [], ◌∷◌, ◌++◌, find}
use Rattle.std.proofs.Common.{Option, None, Some, Ok, Err, refl, sym, ap, ◌∙◌, subst}
use Rattle.std.proofs.lemmas.Option.{none-some, same_Some}
use Rattle.std.specs.Str.{bytes_eq}
use Rattle.au_syntax.specs.declared.expressions.BorrowMode.{BorrowMode}
use Rattle.au_syntax.specs.Plain.{Bytes}
use Rattle.au_syntax.specs.Statements.{declare, destructure}
use Rattle.au_syntax.specs.Types.{Bound, Labelled, WrittenType}
use Rattle.au_types.specs.Types.{Meaning}
use Rattle.au_types.proofs.SameLemmas.{same_is}
use Rattle.au_judged_types.specs.Bounds.{Bounded}
use Rattle.au_names.specs.Importing.{given_name}
use Rattle.au_names.proofs.AmongLemmas.{Among, among-append_left, among-append_right}
use Rattle.au_typing.specs.Bodies.{outer_scope, with_parameters, with_result}
use Rattle.au_typing.specs.Faults.{◌>>=◌, Noting}
use Rattle.au_typing.specs.InScope.{after, fixed_variable, is_var, with_bound, with_reference, with_typed}
use Rattle.au_typing.specs.InScope.{with_variable}
use Rattle.au_typing.specs.Lookups.{variable_of, written_type}
use Rattle.au_typing.specs.Parts.{borrow_type, lent}
use Rattle.au_typing.specs.Scopes.{Outside, Scope, Variable}
use Rattle.au_typing.specs.Statements.{GoodBorrow, IsLent}
use Rattle.au_typing.specs.Trees.{NotedStatement}
use Rattle.au_judged_bodies.specs.WrittenTypes.{types_bound, types_written}

module _ (may_hold : Meaning → Type 0) (outside : Outside) (generics : List Bounded)
    (references : (mode : BorrowMode) (region : Bytes) (t of : Meaning) → lent mode t ≡ Some of → may_hold t
    → may_hold (borrow_type mode region of)) where
  -- what names may hold that are in scope, and those for which these types are written
  pub record Fits (sc : Scope) (written : List WrittenType) : Type 0 where
    pub outside_is : sc.outside ≡ outside
    pub generics_are : sc.generics ≡ generics
    pub variables : (name : Bytes) (v : Variable) → variable_of sc name ≡ Some v → may_hold v.of
    pub each : (w : WrittenType) → Among w written → (cur : Scope) → cur.outside ≡ outside → cur.generics ≡ generics
        → (t : Meaning) → written_type cur w ≡ Ok t → may_hold t

  pub some_of : (sc : Scope) (ws vs : List WrittenType) → ((w : WrittenType) → Among w vs → Among w ws) → Fits sc ws
      → Fits sc vs
  some_of sc ws vs are fits = record {
    outside_is = fits.outside_is;
    generics_are = fits.generics_are;
    variables = fits.variables;
    each = λ w there. fits.each w (are w there);
  }

  pub left_of : (sc : Scope) (vs ws : List WrittenType) → Fits sc (vs ++ ws) → Fits sc vs
  left_of sc vs ws fits = some_of sc (vs ++ ws) vs (among-append_left vs ws) fits

  pub right_of : (sc : Scope) (vs ws : List WrittenType) → Fits sc (vs ++ ws) → Fits sc ws
  right_of sc vs ws fits = some_of sc (vs ++ ws) ws (among-append_right vs ws) fits

  -- a type that is written here
  pub one_of : (sc : Scope) (ws : List WrittenType) → Fits sc ws → (w : WrittenType) → Among w ws → (t : Meaning)
      → written_type sc w ≡ Ok t → may_hold t
  one_of sc ws fits w there t is = fits.each w there sc fits.outside_is fits.generics_are t is

  -- ---- more in scope

  pub with_one : (sc : Scope) (ws : List WrittenType) (v : Variable) → may_hold v.of → Fits sc ws
      → Fits (with_variable v sc) ws
  with_one sc ws v held fits = record {
    outside_is = fits.outside_is;
    generics_are = fits.generics_are;
    variables = λ name one e. by (bytes_eq v.name name) name one e;
    each = fits.each;
  }
    where
      by : (b : Bool) (name : Bytes) (one : Variable)
          → cond b (Some v) (find (λ (x : Variable). bytes_eq x.name name) sc.variables) ≡ Some one → may_hold one.of
      by true name one e = subst (λ (x : Variable). may_hold x.of) (same_Some v one e) held
      by false name one e = fits.variables name one e

  -- in a borrow statement
  pub with_lent : (sc : Scope) (ws : List WrittenType) (r region : Bytes) (of : Meaning) → may_hold of → Fits sc ws
      → Fits (with_reference r region of sc) ws
  with_lent sc ws r region of held fits =
      with_one (record sc { regions = region ∷ sc.regions }) ws (fixed_variable r of) held
      (record {
        outside_is = fits.outside_is;
        generics_are = fits.generics_are;
        variables = fits.variables;
        each = fits.each;
      })

  pub with_written : (sc : Scope) (ws : List WrittenType) (name : Bytes) (assignable : Bool) (w : WrittenType)
      → Among w ws → Fits sc ws → Fits (with_typed name assignable (written_type sc w) sc) ws
  with_written sc ws name assignable w there fits = by (written_type sc w) refl
    where
      by : (o : Noting Meaning) → written_type sc w ≡ o → Fits (with_typed name assignable o sc) ws
      by (Ok t) is =
          with_one sc ws (record { name = name; of = t; assignable = assignable }) (one_of sc ws fits w there t is) fits
      by (Err fault) is = fits

  pub with_each : (binds : List (Bound Bytes)) (sc : Scope) (ws : List WrittenType)
      → ((w : WrittenType) → Among w (types_bound binds) → Among w ws) → Fits sc ws → Fits (with_bound binds sc) ws
  with_each [] sc ws are fits = fits
  with_each (b ∷ rest) sc ws are fits =
      with_each rest (with_typed (given_name b.name) false (written_type sc b.of) sc) ws (λ w there. are w (inr there))
      (with_written sc ws (given_name b.name) false b.of (are b.of (inl refl)) fits)

  -- behind a statement
  pub behind : (s : NotedStatement) (sc : Scope) (ws : List WrittenType) → Fits sc (types_written s ++ ws)
      → Fits (after s sc) ws
  behind (declare at binding x t e) sc ws fits =
      right_of (with_typed x.name (is_var binding) (written_type sc t) sc) (t ∷ []) ws
      (with_written sc (t ∷ ws) x.name (is_var binding) t (inl refl) fits)
  behind (destructure at binds e) sc ws fits =
      right_of (with_bound binds sc) (types_bound binds) ws
      (with_each binds sc (types_bound binds ++ ws) (among-append_left (types_bound binds) ws) fits)
  behind other sc ws fits = right_of sc (types_written other) ws fits

  -- ---- references

  pub lent_holds : (sc : Scope) (ws : List WrittenType) → Fits sc ws → (mode : BorrowMode) (x region : Bytes)
      (of : Meaning) → IsLent sc mode x of → may_hold (borrow_type mode region of)
  lent_holds sc ws fits mode x region of its =
      references mode region its.variable.of of its.lends (fits.variables x its.variable its.known)

  pub borrow_holds : (sc : Scope) (ws : List WrittenType) → Fits sc ws → (t : WrittenType) (mode : BorrowMode)
      (x region : Bytes) (of : Meaning) → GoodBorrow sc t mode x region of → may_hold of
  borrow_holds sc ws fits t mode x region of its =
      subst may_hold (same_is (borrow_type mode region its.lends) of its.is_same)
      (lent_holds sc ws fits mode x region its.lends its.is_lent)

  -- ---- the scope of a body

  abbrev kept : Noting Scope → Option Scope
  kept (Ok sc) = Some sc
  kept (Err fault) = None

  -- a scope that gives written types what that outside of the body gives
  abbrev WritesAlike : Scope → Type 0
  WritesAlike sc = (t : WrittenType) → written_type sc t ≡ written_type (outer_scope outside generics) t

  parameters_fit : (ps : List (Labelled Bytes)) (sc more : Scope) (ws : List WrittenType) → WritesAlike sc
      → ((p : Labelled Bytes) → Among p ps → (t : Meaning)
      → written_type (outer_scope outside generics) p.of ≡ Ok t → may_hold t)
      → Fits sc ws → with_parameters ps sc ≡ Ok more → Fits more ws
  parameters_fit [] sc more ws alike given fits e =
      subst (λ (one : Scope). Fits one ws) (same_Some sc more (ap kept e)) fits
  parameters_fit (p ∷ rest) sc more ws alike given fits e =
      by (written_type sc p.of) refl e
      (λ of is later. parameters_fit rest (with_variable (fixed_variable p.name.name of) sc) more ws alike
      (λ q there. given q (inr there))
      (with_one sc ws (fixed_variable p.name.name of) (given p (inl refl) of (sym (alike p.of) ∙ is)) fits) later)
    where
      by : (o : Noting Meaning) → written_type sc p.of ≡ o
          → (o >>= λ of. with_parameters rest (with_variable (fixed_variable p.name.name of) sc)) ≡ Ok more
          → ((of : Meaning) → written_type sc p.of ≡ Ok of
          → with_parameters rest (with_variable (fixed_variable p.name.name of) sc) ≡ Ok more → Fits more ws)
          → Fits more ws
      by (Err fault) is e later = absurd (none-some more (ap kept e))
      by (Ok of) is e later = later of is e

  result_fits : (sc more : Scope) (ws : List WrittenType) → Fits sc ws → (o : Noting Meaning)
      → (o >>= λ of. Ok (record sc { result = of })) ≡ Ok more → Fits more ws
  result_fits sc more ws fits (Err fault) e = absurd (none-some more (ap kept e))
  result_fits sc more ws fits (Ok of) e =
      subst (λ (one : Scope). Fits one ws) (same_Some (record sc { result = of }) more (ap kept e))
      (record {
        outside_is = fits.outside_is;
        generics_are = fits.generics_are;
        variables = fits.variables;
        each = fits.each;
      })

  -- the scope of a body fits where what is written in it does
  pub begun_fits : (ps : List (Labelled Bytes)) (result : WrittenType) (more : Scope) (ws : List WrittenType)
      → ((p : Labelled Bytes) → Among p ps → (t : Meaning)
      → written_type (outer_scope outside generics) p.of ≡ Ok t → may_hold t)
      → ((w : WrittenType) → Among w ws → (cur : Scope) → cur.outside ≡ outside → cur.generics ≡ generics
      → (t : Meaning) → written_type cur w ≡ Ok t → may_hold t)
      → (with_parameters ps (outer_scope outside generics) >>= λ sc. with_result result sc) ≡ Ok more → Fits more ws
  begun_fits ps result more ws given each e =
      by (with_parameters ps (outer_scope outside generics)) refl e
    where
      outer_fits : Fits (outer_scope outside generics) ws
      outer_fits = record {
        outside_is = refl;
        generics_are = refl;
        variables = λ name v e. absurd (none-some v e);
        each = each;
      }

      by : (o : Noting Scope) → with_parameters ps (outer_scope outside generics) ≡ o
          → (o >>= λ sc. with_result result sc) ≡ Ok more → Fits more ws
      by (Err fault) is e = absurd (none-some more (ap kept e))
      by (Ok sc) is e =
          result_fits sc more ws
          (parameters_fit ps (outer_scope outside generics) sc ws (λ t. refl) given outer_fits is)
          (written_type sc result) e
