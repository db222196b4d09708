-- What the rules of typing say of the form of a body.
use Rattle.std.proofs.Common.{◌≡◌, ℕ, zero, suc, ◌+◌, Bool, true, false, List, [], ◌∷◌, Option, Some, None}
use Rattle.std.proofs.Common.{Ok, Err, refl, sym, ap, ◌∙◌, subst, arith, slice_get, cond}
use Rattle.std.specs.List.{find}
use Rattle.std.specs.Option.{option_map, option_and_then}
use Rattle.au_syntax.specs.declared.modules.Part.{Part}
use Rattle.au_syntax.specs.declared.modules.Part.TheVariants.{Body}
use Rattle.au_syntax.specs.Modules.{Constrained, Header, constant, opaque_type, record_type, union_type, function}
use Rattle.au_syntax.specs.Modules.{class, instance, constant_body, function_body, instance_body}
use Rattle.au_syntax.specs.Plain.{Bytes}
use Rattle.au_syntax.specs.Statements.{skip, declare, destructure, assign, assign_through, conditional}
use Rattle.au_syntax.specs.Statements.{conditional_else, case_of, while_loop, for_loop, borrow_in}
use Rattle.au_syntax.specs.Statements.{borrow_typed, discard, return_of, no_statements, statements}
use Rattle.au_syntax.specs.Statements.{no_branches, branches, no_arms, arms}
use Rattle.au_modules.specs.Programs.{ModuleParts}
use Rattle.au_names.specs.declared.targets.Target.{Target}
use Rattle.au_names.specs.Standing.{Standing, standing_at}
use Rattle.au_typing.specs.Scopes.{Case, Outside, Scope}
use Rattle.au_typing.specs.Notes.{type_of}
use Rattle.au_typing.specs.Bodies.{GoodBody, GoodMethods, body_scope, generics_in, outer_scope, with_parameters}
use Rattle.au_typing.specs.Bodies.{with_result}
use Rattle.au_typing.specs.Faults.{Noting, ◌>>=◌}
use Rattle.au_typing.specs.Lookups.{written_type}
use Rattle.au_typing.specs.Outsides.{outside_of}
use Rattle.au_types.specs.Types.{Meaning}
use Rattle.au_syntax.specs.Types.{Labelled}
use Rattle.au_typing.specs.Derivations.{Derives, GoodDeclaration, GoodDeclarations, GoodModules, GoodPart}
use Rattle.au_typing.specs.InScope.{after, fixed_variable, with_bound, with_variable}
use Rattle.au_typing.specs.Parts.{heads_of}
use Rattle.au_typing.specs.Statements.{GoodStatement, GoodBlock, GoodBranches, GoodArmBlocks, GoodArms}
use Rattle.au_typing.specs.Trees.{NotedStatement, NotedStatements, NotedBranches, NotedArms, NotedDeclaration}
use Rattle.au_typing.specs.Trees.{NotedEntry, NotedMethod, NotedParts}
use Rattle.au_lowered.specs.Laws.{Tidy, BlockTidy, TestsTidy, ArmsTidy}
use Rattle.au_lowered.specs.Trees.{BindsOnce, BlockBindsOnce, TestsBindOnce, ArmsBindOnce}
use Rattle.au_closing.specs.Bodies.{BodyOf, body_at, body_in, body_of, body_of_parts, body_standing}
use Rattle.au_closing.specs.Bodies.{declared_in, defining_index, is_method, method_body, noted_at}
use Rattle.au_running.specs.Formed.{IsFormed}
use Rattle.au_running.proofs.GoodOnceLemmas.{binds_once}

-- ---- what follows a return

mutual
  good_tidy : (s : NotedStatement) (sc : Scope) → GoodStatement s sc → Tidy s
  good_tidy (skip at) sc g = tt
  good_tidy (declare at b n t e) sc g = tt
  good_tidy (destructure at binds e) sc g = tt
  good_tidy (assign at n fields e) sc g = tt
  good_tidy (assign_through at n fields e) sc g = tt
  good_tidy (conditional at tests) sc g = tests_tidy tests sc g
  good_tidy (conditional_else at tests b) sc g = (tests_tidy tests sc g.0, block_tidy b sc g.1)
  good_tidy (case_of at e all) sc g = arms_tidy all sc g.1
  good_tidy (while_loop at e b) sc g = block_tidy b sc g.1
  good_tidy (for_loop at n a z b) sc g = block_tidy b (with_variable (fixed_variable n.name
      (type_of a)) sc) g.1
  good_tidy (borrow_in at access x r region b stop) sc g = block_tidy b _ g.2
  good_tidy (borrow_typed at r t mode x b stop) sc g = block_tidy b _ g.3
  good_tidy (discard at e) sc g = tt
  good_tidy (return_of at e) sc g = tt

  block_tidy : (b : NotedStatements) (sc : Scope) → GoodBlock b sc → BlockTidy b
  block_tidy no_statements sc g = tt
  block_tidy (statements s rest) sc g = (good_tidy s sc g.0, g.1, block_tidy rest (after s sc) g.2)

  tests_tidy : (tests : NotedBranches) (sc : Scope) → GoodBranches tests sc → TestsTidy tests
  tests_tidy no_branches sc g = tt
  tests_tidy (branches e b rest) sc g = (block_tidy b sc g.1, tests_tidy rest sc g.2)

  arms_tidy : (all : NotedArms) (sc : Scope) → GoodArmBlocks all sc → ArmsTidy all
  arms_tidy no_arms sc g = tt
  arms_tidy (arms at n binds b rest) sc g = (block_tidy b (with_bound binds sc) g.0, arms_tidy rest sc g.1)

-- ---- fields that are bound

mutual
  good_binds : (s : NotedStatement) (sc : Scope) → GoodStatement s sc → BindsOnce s
  good_binds (skip at) sc g = tt
  good_binds (declare at b n t e) sc g = tt
  good_binds (destructure at binds e) sc g = binds_once g.fields binds g.each
  good_binds (assign at n fields e) sc g = tt
  good_binds (assign_through at n fields e) sc g = tt
  good_binds (conditional at tests) sc g = tests_bind tests sc g
  good_binds (conditional_else at tests b) sc g = (tests_bind tests sc g.0, block_binds b sc g.1)
  good_binds (case_of at e all) sc g = arms_bind all sc g.0.cases g.0.good g.1
  good_binds (while_loop at e b) sc g = block_binds b sc g.1
  good_binds (for_loop at n a z b) sc g = block_binds b (with_variable (fixed_variable n.name
      (type_of a)) sc) g.1
  good_binds (borrow_in at access x r region b stop) sc g = block_binds b _ g.2
  good_binds (borrow_typed at r t mode x b stop) sc g = block_binds b _ g.3
  good_binds (discard at e) sc g = tt
  good_binds (return_of at e) sc g = tt

  block_binds : (b : NotedStatements) (sc : Scope) → GoodBlock b sc → BlockBindsOnce b
  block_binds no_statements sc g = tt
  block_binds (statements s rest) sc g = (good_binds s sc g.0, block_binds rest (after s sc) g.2)

  tests_bind : (tests : NotedBranches) (sc : Scope) → GoodBranches tests sc → TestsBindOnce tests
  tests_bind no_branches sc g = tt
  tests_bind (branches e b rest) sc g = (block_binds b sc g.1, tests_bind rest sc g.2)

  arms_bind : (all : NotedArms) (sc : Scope) (cases : List Case) → GoodArms sc cases (heads_of all)
      → GoodArmBlocks all sc → ArmsBindOnce all
  arms_bind no_arms sc cases heads g = tt
  arms_bind (arms at n binds b rest) sc cases heads g = (
    binds_once heads.0.one.fields binds heads.0.each,
    block_binds b (with_bound binds sc) g.0,
    arms_bind rest sc cases heads.1 g.1,
  )

-- ---- bodies

-- a body is good, by what the body of its module sees
abbrev pub IsTyped : (ℕ → Part → Outside) → BodyOf → Type 0
IsTyped outside body = GoodBody (outside body.place Body) body.generics body.header body.block

body_formed : (outside : ℕ → Part → Outside) (body : BodyOf) → IsTyped outside body → IsFormed body.block
body_formed outside body g = record {
  returns = g.returned;
  tidy = block_tidy body.block g.scope g.good;
  whole = block_binds body.block g.scope g.good;
}

-- a method that is found is good
method_found : (outside : Outside) (generics : List (Constrained Bytes)) (name : Bytes)
    (methods : List NotedMethod)
    → GoodMethods outside generics methods → (m : NotedMethod) → find (is_method name) methods ≡ Some m
    → GoodBody outside generics m.header m.body
method_found outside generics name [] g m e = absurd cc
method_found outside generics name (one ∷ rest) g m e =
    by_test (is_method name one) e (method_found outside generics name rest g.1 m)
  where
    by_test : (b : Bool) → cond b (Some one) (find (is_method name) rest) ≡ Some m
        → (find (is_method name) rest ≡ Some m → GoodBody outside generics m.header m.body)
        → GoodBody outside generics m.header m.body
    by_test true is more =
        let same : one ≡ m = cc in
        subst (λ (x : NotedMethod). GoodBody outside generics x.header x.body) same g.0
    by_test false is more = more is

-- so is the method of an instance
method_typed : (outside : ℕ → Part → Outside) (place : ℕ) (generics : List (Constrained Bytes)) (name : Bytes)
    (methods : List NotedMethod) → GoodMethods (outside place Body) generics methods → (o : Option NotedMethod)
    → find (is_method name) methods ≡ o → (body : BodyOf)
    → option_map (method_body place generics) o ≡ Some body → IsTyped outside body
method_typed outside place generics name methods g None found body e = absurd cc
method_typed outside place generics name methods g (Some m) found body e =
    let same : method_body place generics m ≡ body = cc in
    subst (IsTyped outside) same (method_found (outside place Body) generics name methods g m found)

-- the body that a good declaration has under a name is good
declared_typed : (outside : ℕ → Part → Outside) (place : ℕ) (name : Bytes) (d : NotedDeclaration)
    → GoodDeclaration (outside place Body) d → (body : BodyOf) → body_in place name d ≡ Some body
    → IsTyped outside body
declared_typed outside place name (function_body at generics h block stop) g body e =
    let same : record { place = place; generics = generics; header = h; block = block } ≡ body = cc in
    subst (IsTyped outside) same g
declared_typed outside place name (instance_body at generics named t methods) g body e =
    method_typed outside place generics name methods g (find (is_method name) methods) refl body e
declared_typed outside place name (constant_body at n t value) g body e = absurd cc
declared_typed outside place name (constant at n t) g body e = absurd cc
declared_typed outside place name (opaque_type at n ps u) g body e = absurd cc
declared_typed outside place name (record_type at n ps u fields) g body e = absurd cc
declared_typed outside place name (union_type at n ps u cases) g body e = absurd cc
declared_typed outside place name (function at gs h) g body e = absurd cc
declared_typed outside place name (class at n p hs) g body e = absurd cc
declared_typed outside place name (instance at gs n t) g body e = absurd cc

-- ---- where declarations stand

-- a declaration among good ones is good
pub good_there : (outside : Outside) (all : List NotedDeclaration) → GoodDeclarations outside all
    → (index : ℕ)
    (d : NotedDeclaration) → slice_get all index ≡ Some d → GoodDeclaration outside d
good_there outside [] g index d e = absurd (grind arith)
good_there outside (first ∷ rest) g zero d e =
    let same : first ≡ d = cc in subst (GoodDeclaration outside) same g.0
good_there outside (first ∷ rest) g (suc index) d e = good_there outside rest g.1 index d e

-- the declarations of the body of a module, by what it sees
part_good : (outside : Outside) (part : Option NotedEntry) → GoodPart outside part
    → GoodDeclarations outside (declared_in part)
part_good outside None g = tt
part_good outside (Some entry) g = g

-- the declarations of the body of the module at a place are good, by what that sees
pub module_good : (outside : ℕ → Part → Outside) (place : ℕ) (noted : List NotedParts)
    → GoodModules outside place noted
    → (at : ℕ) → GoodDeclarations (outside (place + at) Body) (body_of_parts (slice_get noted at))
module_good outside place [] g at = tt
module_good outside place (m ∷ rest) g zero =
    let same : place ≡ place + 0 = omega arith in
    subst (λ n. GoodDeclarations (outside n Body) (declared_in m.body)) same
    (part_good (outside place Body) m.body g.1)
module_good outside place (m ∷ rest) g (suc at) =
    let same : place + 1 + at ≡ place + suc at = omega arith in
    subst (λ n. GoodDeclarations (outside n Body) (body_of_parts (slice_get rest at))) same
    (module_good outside (place + 1) rest g.2 at)

module _ (outside : ℕ → Part → Outside) (program : List ModuleParts) (noted : List NotedParts)
    (derived : Derives outside program noted) where
  -- what is found of an index in the body of the module at a place is good
  indexed_typed : (place : ℕ) (name : Bytes) (index : Option ℕ) (body : BodyOf)
      → option_and_then (body_in place name) (noted_at noted place index) ≡ Some body → IsTyped outside body
  indexed_typed place name None body e = absurd cc
  indexed_typed place name (Some index) body e =
      by_place (slice_get (body_at noted place) index) refl e
    where
      by_place : (o : Option NotedDeclaration) → slice_get (body_at noted place) index ≡ o
          → option_and_then (body_in place name) o ≡ Some body → IsTyped outside body
      by_place None there is = absurd cc
      by_place (Some d) there is =
          let same : 0 + place ≡ place = omega arith in
          let good = subst (λ n. GoodDeclarations (outside n Body) (body_at noted place)) same
          (module_good outside 0 noted derived.good place) in
          declared_typed outside place name d
          (good_there (outside place Body) (body_at noted place) good index d there) body is

  -- the body of a declaration that is found is good
  standing_typed : (name : Bytes) (o : Option Standing) (body : BodyOf)
      → body_standing program noted name o ≡ Some body → IsTyped outside body
  standing_typed name None body e = absurd cc
  standing_typed name (Some d) body e =
      indexed_typed d.place name (defining_index program d d.part) body e

  -- so is each body of the program
  pub bodies_typed : (target : Target) (body : BodyOf) → body_of program noted target ≡ Some body
      → IsTyped outside body
  bodies_typed target body e = standing_typed target.name (standing_at program target.at) body e

  -- and it is formed
  pub bodies_formed : (target : Target) (body : BodyOf) → body_of program noted target ≡ Some body
      → IsFormed body.block
  bodies_formed target body e = body_formed outside body (bodies_typed target body e)

-- ---- what is seen outside of a body

params_outside : (params : List (Labelled Bytes)) (sc inner : Scope) → with_parameters params sc ≡ Ok inner
    → inner.outside ≡ sc.outside
params_outside [] sc inner e = let same : sc ≡ inner = cc in sym (ap (λ (x : Scope). x.outside) same)
params_outside (p ∷ rest) sc inner e =
    by (written_type sc p.of)
    (λ of. params_outside rest (with_variable (fixed_variable p.name.name of) sc) inner) e
  where
    by : (o : Noting Meaning)
        → ((of : Meaning) → with_parameters rest (with_variable (fixed_variable p.name.name of) sc) ≡ Ok inner
        → inner.outside ≡ sc.outside)
        → (o >>= λ of. with_parameters rest (with_variable (fixed_variable p.name.name of) sc)) ≡ Ok inner
        → inner.outside ≡ sc.outside
    by (Ok of) later e = later of e
    by (Err fault) later e = absurd cc

result_outside : (sc inner : Scope) (o : Noting Meaning) → (o >>= λ of. Ok (record sc { result = of })) ≡ Ok inner
    → inner.outside ≡ sc.outside
result_outside sc inner (Ok of) e =
    let same : record sc { result = of } ≡ inner = cc in sym (ap (λ (x : Scope). x.outside) same)
result_outside sc inner (Err fault) e = absurd cc

scope_outside : (outside : Outside) (generics : List (Constrained Bytes)) (header : Header Bytes) (scope : Scope)
    → body_scope outside generics header ≡ Ok scope → scope.outside ≡ outside
scope_outside outside generics header scope e =
    by (with_parameters header.parameters (outer_scope outside (generics_in outside generics))) refl e
  where
    by : (o : Noting Scope)
        → with_parameters header.parameters (outer_scope outside (generics_in outside generics)) ≡ o
        → (o >>= λ sc. with_result header.result sc) ≡ Ok scope → scope.outside ≡ outside
    by (Ok sc) is e =
        result_outside sc scope (written_type sc header.result) e
        ∙ params_outside header.parameters (outer_scope outside (generics_in outside generics)) sc is
    by (Err fault) is e = absurd cc

-- the block of a body of a derived program is good in a scope in which that is outside which its module sees
pub body_typed : (program : List ModuleParts) (noted : List NotedParts) → Derives (outside_of program) program noted
    → (target : Target) (body : BodyOf) → body_of program noted target ≡ Some body
    → (sc : Scope) × (sc.outside ≡ outside_of program body.place Body) × GoodBlock body.block sc
body_typed program noted derived target body e =
    let good = bodies_typed (outside_of program) program noted derived target body e in (
      good.scope,
      scope_outside (outside_of program body.place Body) body.generics body.header good.scope good.formed,
      good.good,
    )
