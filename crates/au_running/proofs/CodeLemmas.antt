-- The code of a tree that suits is the same by a guarded view.
use Rattle.std.proofs.Common.{◌≡◌, ℕ, ◌+◌, Bool, true, false, List, [], ◌∷◌, ◌++◌, length, map, Option, Some}
use Rattle.std.proofs.Common.{None, refl, ap, ◌∙◌}
use Rattle.std.specs.Prelude.{◌||◌, max, unwrap_or, if◌then◌else◌, nat_lt}
use Rattle.std.specs.Str.{bytes_eq}
use Rattle.au_type_texts.specs.Same.{same}
use Rattle.au_type_texts.specs.Types.{ClosedType}
use Rattle.au_typing.specs.Returns.{block_returns}
use Rattle.au_low.specs.declared.code.LowType.{LowType}
use Rattle.au_low.specs.declared.instructions.Instr.TheVariants as instr
use Rattle.au_lowered.specs.Drafts.{Written, ◌>>◌, nothing, does, given, either, branch, looped}
use Rattle.au_lowered.specs.Expressions.{by_position, by_labels, calls, literal, mention, operand, joins}
use Rattle.au_lowered.specs.Expressions.{code, code_of_all, code_of_named, opens, closing, whole, part_of}
use Rattle.au_lowered.specs.Expressions.{part_behind}
use Rattle.au_lowered.specs.Programs.{body_of, bodies, texts_named, types_named, entry_types, takes_root}
use Rattle.au_lowered.specs.Programs.{texts_in, types_in, numbered, function_code, lowered}
use Rattle.au_lowered.specs.Slots.{with_fields, fields_of_case, kept, after}
use Rattle.au_meaning.specs.Names.{mode_of, with_reference}
use Rattle.au_lowered.specs.Slots.{room, room_of_block, room_of_tests, room_of_arms}
use Rattle.au_lowered.specs.Statements.{arm_then, cases, is_last, lends, turns, statement, block, tests_of, arms_of}
use Rattle.au_meaning.specs.Expressions.{Operation, computes, compares, is_and, is_or, operation_of, note_of}
use Rattle.au_meaning.specs.Expressions.{names_of, labels}
use Rattle.au_meaning.specs.Names.{Scope, Variable, variable_of, with_name, with_parameters}
use Rattle.au_meaning.specs.Statements.{tag_told}
use Rattle.au_meaning.specs.Views.{Function, View}
use Rattle.au_graphs.specs.Reached.{adds}
use Rattle.au_syntax.specs.Expressions.{Expression, Expressions, Arguments, number, negative, text, truth}
use Rattle.au_syntax.specs.Expressions.{nil, path, arrow, call, named_call, parenthesized, dereference}
use Rattle.au_syntax.specs.Expressions.{borrow, borrow_part, binary, negation, typed, choice, no_expressions}
use Rattle.au_syntax.specs.Expressions.{expressions, no_arguments, arguments}
use Rattle.au_syntax.specs.Plain.{Bytes}
use Rattle.au_syntax.specs.Statements.{Statement, Statements, Branches, Arms, skip, declare, destructure}
use Rattle.au_syntax.specs.Statements.{assign, assign_through, conditional, conditional_else, case_of}
use Rattle.au_syntax.specs.Statements.{while_loop, for_loop, borrow_in, borrow_typed, discard, return_of}
use Rattle.au_syntax.specs.Statements.{no_statements, statements, no_branches, branches, no_arms, arms}
use Rattle.au_running.specs.Suits.{has_literal, is_followed, passes, passing, guarded, guarded_function}
use Rattle.au_running.specs.Suits.{guarded_functions, CanMention, CanCall, Suits, SuitsAll, SuitsNamed}
use Rattle.au_running.specs.Suits.{SuitsIn, SuitsBlock, SuitsTests, SuitsArms, EachSuits}

-- what passes is all that there is
pub passing_same : {A : Type 0} (test : A → Bool) (o : Option A) → passes test o ≡ true → passing test o ≡ o
passing_same test None ok = refl
passing_same test (Some a) ok = ap (λ b. if b then Some a else None) ok

module _ {T C : Type 0} (see : View ℕ T C) where
  -- ---- expressions

  mention_same : (note : T) (x : Option Variable) (name : Bytes) → CanMention see note name
      → mention (guarded see) note x name ≡ mention see note x name
  mention_same note None name ok = ap (λ o. given o literal) (passing_same has_literal
      (see.constant note name) ok)
  mention_same note (Some x) name ok = refl

  call_same : (note : T) (c : C) (name : Bytes) (order : List Bytes → List ℕ) → CanCall see note c name
      → calls ((guarded see).callee note c name) order ≡ calls (see.callee note c name) order
  call_same note c name order ok =
      ap (λ o. calls o order) (passing_same is_followed (see.callee note c name) ok)

  joins_same : (op : Operation) (all first : T) (a b : Written)
      → joins (guarded see) op all first a b ≡ joins see op all first a b
  joins_same is_and all first a b = refl
  joins_same is_or all first a b = refl
  joins_same (computes op) all first a b = refl
  joins_same (compares op) all first a b = refl

  mutual
    code_same : (scope : Scope) (e : Expression Bytes T C) → Suits see e
        → code (guarded see) scope e ≡ code see scope e
    code_same scope (number n l) ok = refl
    code_same scope (negative n l) ok = refl
    code_same scope (text n t) ok = refl
    code_same scope (truth n b) ok = refl
    code_same scope (nil n) ok = refl
    code_same scope (path n x []) ok = mention_same n.note (variable_of scope x.name) x.name ok
    code_same scope (path n x (field ∷ fields)) ok = refl
    code_same scope (arrow n r fields) ok = refl
    code_same scope (call n f args c) ok =
        λ i. all_same scope args ok.1 i >> call_same n.note c f.name by_position ok.0 i
    code_same scope (named_call n f args c) ok =
        λ i. named_same scope args ok.1 i >> call_same n.note c f.name (by_labels (labels args)) ok.0 i
    code_same scope (parenthesized n e) ok = code_same scope e ok
    code_same scope (dereference n e) ok = λ i. operand scope e (code_same scope e ok i) >> does instr.Deref
    code_same scope (borrow n mode x) ok = refl
    code_same scope (borrow_part n r fields) ok = refl
    code_same scope (binary n op a b) ok =
        joins_same (operation_of op) n.note (note_of a) (code (guarded see) scope a) (code
        (guarded see) scope b)
        ∙ (λ i. joins see (operation_of op) n.note (note_of a) (code_same scope a ok.0 i)
        (code_same scope b ok.1 i))
    code_same scope (negation n e) ok = λ i. code_same scope e ok i >> does instr.Not
    code_same scope (typed n e t) ok = code_same scope e ok
    code_same scope (choice n c a b) ok =
        λ i. code_same scope c ok.0 i >> either false (code_same scope a ok.1 i) (code_same scope b ok.2 i)

    all_same : (scope : Scope) (es : Expressions Bytes T C) → SuitsAll see es
        → code_of_all (guarded see) scope es ≡ code_of_all see scope es
    all_same scope no_expressions ok = refl
    all_same scope (expressions e rest) ok = λ i. code_same scope e ok.0 i >> all_same scope rest ok.1 i

    named_same : (scope : Scope) (es : Arguments Bytes T C) → SuitsNamed see es
        → code_of_named (guarded see) scope es ≡ code_of_named see scope es
    named_same scope no_arguments ok = refl
    named_same scope
        (arguments label e rest) ok = λ i. code_same scope e ok.0 i >> named_same scope rest ok.1 i

  whole_same : (around : ℕ) (scope : Scope) (e : Expression Bytes T C) → Suits see e
      → whole (guarded see) around scope e ≡ whole see around scope e
  whole_same around scope e ok = λ i. code_same scope e ok i >> closing (opens e) around

  -- ---- statements

  kept_same : (s : Statement Bytes T C) → kept (guarded see) s ≡ kept see s
  kept_same (declare at binding name t e) = refl
  kept_same (destructure at binds e) = refl
  kept_same other = refl

  after_same : (slot : ℕ) (s : Statement Bytes T C) (scope : Scope)
      → after (guarded see) slot s scope ≡ after see slot s scope
  after_same slot (declare at binding name t e) scope = refl
  after_same slot (destructure at binds e) scope = refl
  after_same slot other scope = refl

  mutual
    statement_same : (around slot : ℕ) (scope : Scope) (s : Statement Bytes T C) → SuitsIn see s
        → statement (guarded see) around slot scope s ≡ statement see around slot scope s
    statement_same around slot scope (skip at) ok = refl
    statement_same around slot scope (declare at binding name t e) ok =
        λ i. whole_same around scope e ok i >> does (instr.Store slot)
    statement_same around slot scope (destructure at binds e) ok =
        λ i. whole_same around scope e ok i >> does (instr.Take slot)
    statement_same around slot scope (assign at x fields e) ok =
        λ i. whole_same around scope e ok i
        >> part_of see (variable_of scope x.name) (names_of fields) (λ t numbers. does (instr.Set t numbers))
    statement_same around slot scope (assign_through at r fields e) ok =
        λ i. whole_same around scope e ok i
        >> part_behind see (variable_of scope r.name) (names_of fields) (λ t numbers. does
        (instr.Put t numbers))
    statement_same around slot scope (conditional at tests) ok =
        λ i. unwrap_or (tests_same around slot scope tests ok None None refl i) nothing
    statement_same around slot scope (conditional_else at tests other) ok =
        λ i. unwrap_or (tests_same around slot scope tests ok.0
        (Some (block (guarded see) around slot scope other)) (Some (block see around slot scope other))
        (λ j. Some (block_same around slot scope other ok.1 j)) i) nothing
    statement_same around slot scope (case_of at e all) ok =
        λ i. whole_same around scope e ok.0 i
        >> cases slot (λ place. arms_same around slot scope (note_of e) all ok.1 place i)
    statement_same around slot scope (while_loop at e body) ok =
        λ i. looped (block_returns body) (whole_same around scope e ok.0 i)
        (block_same around slot scope body ok.1 i)
    statement_same around slot scope (for_loop at name first last body) ok =
        λ i. whole_same around scope first ok.0 i >> does (instr.Store slot)
        >> whole_same around scope last ok.1 i >> does (instr.Store (slot + 1))
        >> turns (block_returns body) slot
        (block_same around (slot + 3) (with_name name.name (slot + 2) (see.type_of
        (note_of first)) scope) body ok.2 i)
    statement_same around slot scope (borrow_in at access x r region body stop) ok =
        let variable = variable_of scope x.name in
        λ i. lends (block_returns body) around slot (mode_of access) variable
        (block_same (around + 1) (slot + 1) (with_reference
        (mode_of access) variable slot r.name scope) body ok i)
    statement_same around slot scope (borrow_typed at r t mode x body stop) ok =
        let variable = variable_of scope x.name in
        λ i. lends (block_returns body) around slot mode variable
        (block_same (around + 1) (slot + 1) (with_reference mode variable slot r.name scope) body ok i)
    statement_same around slot scope (discard at e) ok =
        λ i. whole_same around scope e ok i >> does instr.Discard
    statement_same around slot scope (return_of at e) ok = λ i. code_same scope e ok i >> does instr.Return

    block_same : (around slot : ℕ) (scope : Scope) (b : Statements Bytes T C) → SuitsBlock see b
        → block (guarded see) around slot scope b ≡ block see around slot scope b
    block_same around slot scope no_statements ok = refl
    block_same around slot scope (statements s rest) ok =
        (λ i. statement_same around slot scope s ok.0 i
        >> block (guarded see) around (slot + kept_same s i) (after_same slot s scope i) rest)
        ∙ (λ i. statement see around slot scope s
        >> block_same around (slot + kept see s) (after see slot s scope) rest ok.1 i)

    tests_same : (around slot : ℕ) (scope : Scope) (tests : Branches Bytes T C) → SuitsTests see tests
        → (a b : Option Written) → a ≡ b
        → tests_of (guarded see) around slot scope tests a ≡ tests_of see around slot scope tests b
    tests_same around slot scope no_branches ok a b other = other
    tests_same around slot scope (branches e body rest) ok a b other =
        λ i. Some (whole_same around scope e ok.0 i
        >> branch (block_returns body) (block_same around slot scope body ok.1 i)
        (tests_same around slot scope rest ok.2 a b other i))

    arms_same : (around slot : ℕ) (scope : Scope) (note : T) (all : Arms Bytes T C) → SuitsArms see all
        → (place : ℕ) → arms_of (guarded see) around slot scope note all place
        ≡ arms_of see around slot scope note all place
    arms_same around slot scope note no_arms ok place = refl
    arms_same around slot scope note (arms at name binds body rest) ok place =
        let fields = fields_of_case see note name.name in
        λ i. arm_then (block_returns body || is_last rest) (tag_told see note name.name)
        (block_same around (slot + length fields) (with_fields fields slot binds scope) body ok.0 i)
        (λ p. arms_same around slot scope note rest ok.1 p i) place

  -- ---- slots

  mutual
    room_same : (slot : ℕ) (s : Statement Bytes T C) → room (guarded see) slot s ≡ room see slot s
    room_same slot (skip at) = refl
    room_same slot (declare at binding name t e) = refl
    room_same slot (destructure at binds e) = refl
    room_same slot (assign at x fields e) = refl
    room_same slot (assign_through at r fields e) = refl
    room_same slot (conditional at tests) = room_tests slot tests
    room_same slot (conditional_else at tests other) = λ i. max (room_tests slot tests i)
        (room_block slot other i)
    room_same slot (case_of at e all) = room_arms slot (note_of e) all
    room_same slot (while_loop at e body) = room_block slot body
    room_same slot (for_loop at name first last body) = room_block (slot + 3) body
    room_same slot (borrow_in at access x r region body stop) = room_block (slot + 1) body
    room_same slot (borrow_typed at r t mode x body stop) = room_block (slot + 1) body
    room_same slot (discard at e) = refl
    room_same slot (return_of at e) = refl

    room_block : (slot : ℕ) (b : Statements Bytes T C) → room_of_block (guarded see) slot b
        ≡ room_of_block see slot b
    room_block slot no_statements = refl
    room_block slot (statements s rest) =
        (λ i. max (room_same slot s i) (room_of_block (guarded see) (slot + kept_same s i) rest))
        ∙ (λ i. max (room see slot s) (room_block (slot + kept see s) rest i))

    room_tests : (slot : ℕ) (tests : Branches Bytes T C)
        → room_of_tests (guarded see) slot tests ≡ room_of_tests see slot tests
    room_tests slot no_branches = refl
    room_tests slot (branches e body rest) = λ i. max (room_block slot body i) (room_tests slot rest i)

    room_arms : (slot : ℕ) (note : T) (all : Arms Bytes T C)
        → room_of_arms (guarded see) slot note all ≡ room_of_arms see slot note all
    room_arms slot note no_arms = refl
    room_arms slot note (arms at name binds body rest) =
        λ i. max (room_block (slot + length (fields_of_case see note name.name)) body i)
        (room_arms slot note rest i)

-- ---- programs

module _ {T C : Type 0} where
  body_same : (f : Function ℕ T C) → SuitsBlock f.view f.body → body_of (guarded_function f) ≡ body_of f
  body_same f ok =
      λ i. block_same f.view 0 (length f.parameters) (with_parameters 0 f.parameters []) f.body ok i 0

  bodies_same : (functions : List (Function ℕ T C)) → EachSuits functions
      → bodies (guarded_functions functions) ≡ bodies functions
  bodies_same [] ok = refl
  bodies_same (f ∷ rest) ok = λ i. body_same f ok.0 i ++ bodies_same rest ok.1 i

  entry_same : (functions : List (Function ℕ T C)) → entry_types (guarded_functions functions)
      ≡ entry_types functions
  entry_same [] = refl
  entry_same (f ∷ rest) = refl

  -- the texts and the types are the same
  pub texts_same : (functions : List (Function ℕ T C)) → EachSuits functions
      → texts_in (guarded_functions functions) ≡ texts_in functions
  texts_same functions ok = λ i. adds bytes_eq [] (texts_named (bodies_same functions ok i))

  pub types_same : (functions : List (Function ℕ T C)) → EachSuits functions
      → types_in (guarded_functions functions) ≡ types_in functions
  types_same functions ok = λ i. adds same [] (entry_same functions i ++ types_named
      (bodies_same functions ok i))

  functions_same : (texts : List Bytes) (types : List ClosedType) (functions : List (Function ℕ T C))
      → EachSuits functions
      → map (function_code texts types) (guarded_functions functions)
      ≡ map (function_code texts types) functions
  functions_same texts types [] ok = refl
  functions_same texts types (f ∷ rest) ok =
      λ i. record {
        params = length f.parameters;
        slots = room_block f.view (length f.parameters) f.body i;
        code = map (numbered texts types) (body_same f ok.0 i);
      } ∷ functions_same texts types rest ok.1 i

  -- the code is the same
  pub lowered_same : (told : ClosedType → LowType) (functions : List (Function ℕ T C)) → EachSuits functions
      → lowered told (guarded_functions functions) ≡ lowered told functions
  lowered_same told functions ok =
      (λ i. record {
        texts = texts_same functions ok i;
        types = map told (types_same functions ok i);
        functions = map (function_code (texts_same functions ok i) (types_same functions ok i))
            (guarded_functions functions);
        root = nat_lt 0 (length (entry_same functions i));
      })
      ∙ (λ i. record {
        texts = texts_in functions;
        types = map told (types_in functions);
        functions = functions_same (texts_in functions) (types_in functions) functions ok i;
        root = takes_root functions;
      })
