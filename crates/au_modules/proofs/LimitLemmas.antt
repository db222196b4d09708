-- Which limit declarations pass, variant by variant and along a list.
use Rattle.std.proofs.Common.{◌≡◌, ℕ, ◌+◌, ◌≤◌, ◌<◌, List, [], ◌∷◌, ◌++◌, length, map, drop, get_or, Option}
use Rattle.std.proofs.Common.{Some, None, Vec, refl, ap, sym, ◌∙◌, arith, drop-cons, add-one, zero-add, ◌⊎◌}
use Rattle.std.proofs.Common.{inl, inr, suc}
use Rattle.std.specs.Global.{Global}
use Rattle.std.specs.List.{flat_map}
use Rattle.std.specs.Option.{option_or}
use Rattle.std.specs.declared.boxed.Box.{Box}
use Rattle.std.proofs.lemmas.Bool.{lt-ltb, le-ltb, cases_lt}
use Rattle.std.proofs.lemmas.List.{length-map}
use Rattle.std.proofs.lemmas.List.Folds.{find-append}
use Rattle.au_base.specs.declared.places.Pos.{Pos}
use Rattle.au_base.specs.declared.limits.Limit.{Limit}
use Rattle.au_base.specs.declared.limits.LimitKind.{LimitKind}
use Rattle.au_base.specs.declared.limits.LimitKind.TheVariants.{Parameters, Fields, Cases, TypeParameters}
use Rattle.au_syntax.specs.declared.phases.Phase.{Ghosts}
use Rattle.au_syntax.specs.declared.names.Ident.{Ident}
use Rattle.au_syntax.specs.declared.names.Field.{Field}
use Rattle.au_syntax.specs.declared.types.TypeText.{TypeText}
use Rattle.au_syntax.specs.declared.expressions.Expr.{Expr}
use Rattle.au_syntax.specs.declared.statements.Block.{Block}
use Rattle.au_syntax.specs.declared.declarations.Universe.{Universe}
use Rattle.au_syntax.specs.declared.declarations.TypeParameter.{TypeParameter}
use Rattle.au_syntax.specs.declared.declarations.Generic.{Generic}
use Rattle.au_syntax.specs.declared.declarations.Signature.{Signature}
use Rattle.au_syntax.specs.declared.declarations.UnionCase.{UnionCase}
use Rattle.au_syntax.specs.declared.declarations.Method.{Method}
use Rattle.au_syntax.specs.declared.declarations.Decl.{Decl}
use Rattle.au_syntax.specs.declared.declarations.Decl.TheVariants as code
use Rattle.au_syntax.specs.Plain.{plain_declaration, plain_header, plain_variant, plain_method}
use Rattle.au_syntax.specs.Plain.{plain_in_universe, plain_constrained, plain_labelled}
use Rattle.au_syntax.specs.Views.{declaration, header, variant, method_body, in_universe, constrained}
use Rattle.au_syntax.specs.Views.{labelled}
use Rattle.au_syntax.proofs.DeclarationLemmas as said
use Rattle.au_modules.specs.Limits.{numbered, counted, counted_type_parameters, counted_fields}
use Rattle.au_modules.specs.Limits.{counted_parameters, counted_method, counted_cases, passes, first_passed}
use Rattle.au_modules.specs.Limits.{limit_of, over, most_cases, most_fields, most_parameters}
use Rattle.au_modules.specs.Limits.{most_type_parameters}

-- ---- one list

abbrev above : LimitKind → ℕ → ℕ → Limit
above kind most number = record { kind = kind; count = number; most = most }

-- what passes is told with the first count above the most
pub over_yes : (kind : LimitKind) (most number : ℕ) → most < number
    → over kind most number ≡ Some (above kind most (most + 1))
over_yes kind most number h = rw (lt-ltb most number h)

pub over_no : (kind : LimitKind) (most number : ℕ) → number ≤ most → over kind most number ≡ None
over_no kind most number h = rw (le-ltb most number h)

-- one more thing, from what is known of those behind it
numbered_next : {A : Type 0} (kind : LimitKind) (most before : ℕ) (x : A) (xs : List A) → before ≤ most
    → (before + 1 ≤ most → first_passed (numbered kind most (before + 1) xs)
    ≡ over kind most (before + 1 + length xs))
    → (before < most) ⊎ (most ≤ before) → first_passed (numbered kind most before (x ∷ xs))
    ≡ over kind most (before + length (x ∷ xs))
numbered_next kind most before x xs h rest (inl less) =
    let same : before + 1 + length xs ≡ before + length (x ∷ xs) = omega arith in
    rw (le-ltb most (before + 1) (omega arith)) (rest (omega arith) ∙ ap (over kind most) same)
numbered_next kind most before x xs h rest (inr more) =
    let same : before ≡ most = omega arith in
    rw (lt-ltb most (before + 1) (omega arith)) (ap (λ n. Some (above kind most (n + 1))) same
    ∙ sym (over_yes kind most (before + length (x ∷ xs)) (omega arith)))

-- of numbered things the first above the most passes, if there are so many
numbered_passed : {A : Type 0} (kind : LimitKind) (most before : ℕ) (xs : List A) → before ≤ most
    → first_passed (numbered kind most before xs) ≡ over kind most (before + length xs)
numbered_passed kind most before [] h = sym (over_no kind most (before + 0) (omega arith))
numbered_passed kind most before (x ∷ xs) h =
    numbered_next kind most before x xs h (λ k. numbered_passed kind most (before + 1) xs k)
    (cases_lt before most)

-- all of a list from its first on
pub listed_passed : {A : Type 0} (kind : LimitKind) (most : ℕ) (xs : List A)
    → first_passed (numbered kind most 0 xs) ≡ over kind most (length xs)
listed_passed kind most xs = numbered_passed kind most 0 xs (omega arith)
    ∙ ap (over kind most) (zero-add (length xs))

-- the same, where each thing is one of the code, seen twice
pub seen_passed : {A B C : Type 0} (kind : LimitKind) (most : ℕ) (f : B → C) (g : A → B) (xs : List A)
    → first_passed (numbered kind most 0 (map f (map g xs))) ≡ over kind most (length xs)
seen_passed kind most f g xs =
    listed_passed kind most (map f (map g xs))
    ∙ ap (over kind most) (length-map (map g xs) f ∙ length-map xs g)

-- what stands behind type parameters
pub behind_type_parameters : {A B C : Type 0} (f : B → C) (g : A → B) (xs : List A) (ys : List Limit)
    → first_passed (counted_type_parameters (map f (map g xs)) ++ ys)
    ≡ option_or (over TypeParameters most_type_parameters (length xs)) (first_passed ys)
behind_type_parameters f g xs ys =
    find-append passes (counted_type_parameters (map f (map g xs))) ys
    ∙ ap (λ o. option_or o (first_passed ys)) (seen_passed TypeParameters most_type_parameters f g xs)

pub or_some : {A : Type 0} (o p : Option A) (x : A) → o ≡ Some x → option_or o p ≡ Some x
or_some o p x h = ap (λ one. option_or one p) h

pub or_none : {A : Type 0} (o p : Option A) → o ≡ None → option_or o p ≡ p
or_none o p h = ap (λ one. option_or one p) h

-- ---- one step along a list

-- what is counted in the items of a list from one of them on, each seen twice: that item's first
pub counted_step : {A B C : Type 0} (count : C → List Limit) (f : B → C) (g : A → B) (xs : List A) (i : ℕ)
    (d : A) → i < length xs
    → first_passed (flat_map count (map f (map g (drop i xs))))
    ≡ option_or (first_passed (count (f (g (get_or xs i d)))))
    (first_passed (flat_map count (map f (map g (drop (i + 1) xs)))))
counted_step count f g xs i d h =
    rw (add-one, drop-cons xs i d) (find-append passes (count (f (g (get_or xs i d))))
    (flat_map count (map f (map g (drop (suc i) xs)))))

module _ {X N T C : Type 0} (g : Ghosts X N T C) where
  pub signature_counts : (s : Signature X N T C)
      → first_passed (counted_parameters (plain_header g.name_bytes (header g s)))
      ≡ over Parameters most_parameters (length s.parameters.items)
  signature_counts s = seen_passed Parameters most_parameters (plain_labelled g.name_bytes)
      (labelled g) s.parameters.items

  pub method_counts : (m : Method X N T C)
      → first_passed (counted_method (plain_method g.name_bytes (method_body g m)))
      ≡ over Parameters most_parameters (length m.signature.parameters.items)
  method_counts m = seen_passed Parameters most_parameters (plain_labelled g.name_bytes)
      (labelled g) m.signature.parameters.items

  -- a case, and then those behind it
  pub cases_step : (xs : List (UnionCase X N T C)) (i : ℕ) (d : UnionCase X N T C) → i < length xs
      → first_passed (counted_cases i (map (plain_variant g.name_bytes) (map (variant g) (drop i xs))))
      ≡ option_or (option_or (first_passed (record { kind = Cases; count = i + 1; most = most_cases } ∷ []))
      (over Fields most_fields (length (get_or xs i d).fields.items)))
      (first_passed (counted_cases (i + 1)
      (map (plain_variant g.name_bytes) (map (variant g) (drop (i + 1) xs)))))
  cases_step xs i d h =
      let one : UnionCase X N T C = get_or xs i d in
      let rest : List Limit = counted_cases (i + 1)
      (map (plain_variant g.name_bytes) (map (variant g) (drop (i + 1) xs))) in
      let fields : List Limit = counted_fields ((plain_variant g.name_bytes (variant g one)).fields) in
      let own : first_passed fields ≡ over Fields most_fields (length one.fields.items) =
      seen_passed Fields most_fields (plain_labelled g.name_bytes) (labelled g) one.fields.items in
      let first : Limit = record { kind = Cases; count = i + 1; most = most_cases } in
      let all : first_passed ((first ∷ fields) ++ rest)
      ≡ option_or (first_passed (first ∷ fields)) (first_passed rest) =
      find-append passes (first ∷ fields) rest in
      let front : first_passed (first ∷ fields)
      ≡ option_or (first_passed (first ∷ [])) (first_passed fields) =
      find-append passes (first ∷ []) fields in
      let seen : drop i xs ≡ one ∷ drop (i + 1) xs = rw add-one (drop-cons xs i d h) in
      ap (λ r. first_passed (counted_cases i (map (plain_variant g.name_bytes) (map (variant g) r)))) seen
      ∙ all ∙ (λ k. option_or ((front ∙ ap (option_or (first_passed (first ∷ []))) own) k)
      (first_passed rest))

  -- ---- each variant of the code

  abbrev limit : Decl X N T C → Option Limit
  limit d = limit_of (plain_declaration g.name_bytes (declaration g d))

  pub constant_limit : (at : Pos) (n : Ident X N T C) (t : TypeText) → limit (code.Constant at n t) ≡ None
  unfolding limit_of
  constant_limit at n t = ap (λ d. limit_of (plain_declaration g.name_bytes d)) (said.constant_says g at n t)

  pub opaque_limit : (at : Pos) (n : Ident X N T C) (ps : Vec (TypeParameter X N T C) Global) (u : Universe)
      → limit (code.Opaque at n ps u) ≡ over TypeParameters most_type_parameters (length ps.items)
  unfolding limit_of
  opaque_limit at n ps u = ap (λ d. limit_of (plain_declaration g.name_bytes d))
      (said.opaque_says g at n ps u) ∙ seen_passed TypeParameters most_type_parameters
      (plain_in_universe g.name_bytes) (in_universe g) ps.items

  pub record_limit : (at : Pos) (n : Ident X N T C) (ps : Vec (TypeParameter X N T C) Global) (u : Universe)
      (fs : Vec (Field X N T C) Global)
      → limit (code.Record at n ps u fs) ≡ option_or
      (over TypeParameters most_type_parameters (length ps.items))
      (over Fields most_fields (length fs.items))
  unfolding limit_of
  record_limit at n ps u fs = ap (λ d. limit_of (plain_declaration g.name_bytes d))
      (said.record_says g at n ps u fs)
      ∙ behind_type_parameters (plain_in_universe g.name_bytes) (in_universe g) ps.items
      (counted_fields (map (plain_labelled g.name_bytes) (map (labelled g) fs.items)))
      ∙ ap (option_or (over TypeParameters most_type_parameters (length ps.items)))
      (seen_passed Fields most_fields (plain_labelled g.name_bytes) (labelled g) fs.items)

  pub union_limit : (at : Pos) (n : Ident X N T C) (ps : Vec (TypeParameter X N T C) Global) (u : Universe)
      (cs : Vec (UnionCase X N T C) Global)
      → limit (code.Union at n ps u cs) ≡ option_or
      (over TypeParameters most_type_parameters (length ps.items))
      (first_passed (counted_cases 0 (map (plain_variant g.name_bytes) (map (variant g) cs.items))))
  unfolding limit_of
  union_limit at n ps u cs = ap (λ d. limit_of (plain_declaration g.name_bytes d))
      (said.union_says g at n ps u cs)
      ∙ behind_type_parameters (plain_in_universe g.name_bytes) (in_universe g) ps.items
      (counted_cases 0 (map (plain_variant g.name_bytes) (map (variant g) cs.items)))

  pub function_limit : (at : Pos) (gs : Vec (Generic X N T C) Global) (s : Signature X N T C)
      → limit (code.Function at gs s) ≡ option_or (over TypeParameters most_type_parameters (length gs.items))
      (over Parameters most_parameters (length s.parameters.items))
  unfolding limit_of
  function_limit at gs s = ap (λ d. limit_of (plain_declaration g.name_bytes d))
      (said.function_says g at gs s)
      ∙ behind_type_parameters (plain_constrained g.name_bytes) (constrained g) gs.items
      (counted_parameters (plain_header g.name_bytes (header g s)))
      ∙ ap (option_or (over TypeParameters most_type_parameters (length gs.items))) (signature_counts s)

  pub class_limit : (at : Pos) (n : Ident X N T C) (p : TypeParameter X N T C)
      (ms : Vec (Signature X N T C) Global)
      → limit (code.Class at n p ms) ≡ first_passed
      (flat_map counted_parameters (map (plain_header g.name_bytes) (map (header g) ms.items)))
  unfolding limit_of
  class_limit at n p ms = ap (λ d. limit_of (plain_declaration g.name_bytes d)) (said.class_says g at n p ms)

  pub instance_limit : (at : Pos) (gs : Vec (Generic X N T C) Global) (n : Ident X N T C) (t : TypeText)
      → limit (code.Instance at gs n t) ≡ over TypeParameters most_type_parameters (length gs.items)
  unfolding limit_of
  instance_limit at gs n t = ap (λ d. limit_of (plain_declaration g.name_bytes d))
      (said.instance_says g at gs n t) ∙ seen_passed TypeParameters most_type_parameters
      (plain_constrained g.name_bytes) (constrained g) gs.items

  pub constant_body_limit : (at : Pos) (n : Ident X N T C) (t : TypeText) (e : Box (Expr X N T C) Global)
      → limit (code.ConstantBody at n t e) ≡ None
  unfolding limit_of
  constant_body_limit at n t e = ap (λ d. limit_of (plain_declaration g.name_bytes d))
      (said.constant_body_says g at n t e)

  pub function_body_limit : (at : Pos) (gs : Vec (Generic X N T C) Global) (s : Signature X N T C)
      (b : Block X N T C) (stop : Pos)
      → limit (code.FunctionBody at gs s b stop)
      ≡ option_or (over TypeParameters most_type_parameters (length gs.items))
      (over Parameters most_parameters (length s.parameters.items))
  unfolding limit_of
  function_body_limit at gs s b stop =
      ap (λ d. limit_of (plain_declaration g.name_bytes d)) (said.function_body_says g at gs s b stop)
      ∙ behind_type_parameters (plain_constrained g.name_bytes) (constrained g) gs.items
      (counted_parameters (plain_header g.name_bytes (header g s)))
      ∙ ap (option_or (over TypeParameters most_type_parameters (length gs.items))) (signature_counts s)

  pub instance_body_limit : (at : Pos) (gs : Vec (Generic X N T C) Global) (n : Ident X N T C) (t : TypeText)
      (ms : Vec (Method X N T C) Global)
      → limit (code.InstanceBody at gs n t ms)
      ≡ option_or (over TypeParameters most_type_parameters (length gs.items))
      (first_passed (flat_map counted_method
      (map (plain_method g.name_bytes) (map (method_body g) ms.items))))
  unfolding limit_of
  instance_body_limit at gs n t ms = ap (λ d. limit_of (plain_declaration g.name_bytes d))
      (said.instance_body_says g at gs n t ms)
      ∙ behind_type_parameters (plain_constrained g.name_bytes) (constrained g) gs.items
      (flat_map counted_method (map (plain_method g.name_bytes) (map (method_body g) ms.items)))

  -- a declaration's limit is that of what is counted in it
  pub declaration_counts : (d : Decl X N T C)
      → first_passed (counted (plain_declaration g.name_bytes (declaration g d))) ≡ limit d
  unfolding limit_of
  declaration_counts d = refl
