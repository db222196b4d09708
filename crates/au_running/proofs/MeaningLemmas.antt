-- The meaning of a tree that suits is the same by a guarded view.
use Rattle.std.proofs.Common.{◌≡◌, ℕ, Bool, true, zero, suc, ◌+◌, ◌==◌, List, [], ◌∷◌, length, Option, Some}
use Rattle.std.proofs.Common.{None, refl, ap, subst, ◌∙◌, arith}
use Rattle.std.specs.Prelude.{slice_get}
use Rattle.std.specs.Option.{option_map}
use Rattle.std.proofs.lemmas.Option.{slice_get-map}
use Rattle.au_closed_trees.specs.Changes.{Change}
use Rattle.au_type_texts.specs.Types.{ClosedType}
use Rattle.au_closed_trees.specs.Renoted.{expression_renoted, expressions_renoted, arguments_renoted}
use Rattle.au_closed_trees.specs.Renoted.{statement_renoted, block_renoted, branches_renoted, arms_renoted}
use Rattle.au_meaning.specs.Acts.{begins, closing, ends_frame, new_names}
use Rattle.au_meaning.specs.Expressions.{acts, calls, note_of}
use Rattle.au_meaning.specs.Meanings.{begun, call_at, enters, first_world, mean, parameters_of, returned}
use Rattle.au_meaning.specs.Meanings.{scope_of, seen}
use Rattle.au_meaning.specs.Names.{Scope, names_in_block}
use Rattle.au_meaning.specs.Statements.{run_block}
use Rattle.au_meaning.specs.Ticks.{Action, does, needing, pure, where_true, ◌>>=◌, ◌>>◌}
use Rattle.au_meaning.specs.Views.{Act, Callee, Field, Function, View, invokes, makes, ships}
use Rattle.au_meaning.specs.Worlds.{Value}
use Rattle.au_closed_meanings.specs.Agreement.{AgreeOnTypes, AgreeOnMention, AgreeOnCall, Counts, FieldsCount}
use Rattle.au_closed_meanings.specs.Agreement.{FoundCount, ScopeCounts, EachIn, EachInAll, EachNamed, EachOf}
use Rattle.au_closed_meanings.specs.Agreement.{EachOfBlock, EachOfTests, EachOfArms}
use Rattle.au_closed_meanings.proofs.SameStatements.{one_meaning}
use Rattle.au_syntax.specs.Expressions.{Expression, Expressions, Arguments, number, negative, text, truth}
use Rattle.au_syntax.specs.Expressions.{nil, path, arrow, call, named_call, parenthesized, dereference}
use Rattle.au_syntax.specs.Expressions.{borrow, borrow_part, binary, negation, typed, choice, no_expressions}
use Rattle.au_syntax.specs.Expressions.{expressions, no_arguments, arguments}
use Rattle.au_syntax.specs.Plain.{Bytes}
use Rattle.au_syntax.specs.Statements.{Statement, Statements, Branches, Arms, skip, declare, destructure}
use Rattle.au_syntax.specs.Statements.{assign, assign_through, conditional, conditional_else, case_of}
use Rattle.au_syntax.specs.Statements.{while_loop, for_loop, borrow_in, borrow_typed, discard, return_of}
use Rattle.au_syntax.specs.Statements.{no_statements, statements, no_branches, branches, no_arms, arms}
use Rattle.au_running.specs.Suits.{has_literal, is_followed, guarded, guarded_function, guarded_functions}
use Rattle.au_running.specs.Suits.{CanMention, CanCall, Suits, SuitsAll, SuitsNamed, SuitsIn, SuitsBlock}
use Rattle.au_running.specs.Suits.{SuitsTests, SuitsArms, EachSuits}
use Rattle.au_running.proofs.CodeLemmas.{passing_same}

-- notes that stay
abbrev staying : (T C : Type 0) → Change Bytes T C T C
staying T C = record { note = λ n. n; mention = λ n name. n; callee = λ n c name. c; arm = λ name. name }

-- ---- a tree with its own notes is itself

module _ {T C : Type 0} where
  mutual
    itself : (e : Expression Bytes T C) → expression_renoted (staying T C) e ≡ e
    itself (number n l) = refl
    itself (negative n l) = refl
    itself (text n t) = refl
    itself (truth n b) = refl
    itself (nil n) = refl
    itself (path n x fields) = refl
    itself (arrow n r fields) = refl
    itself (call n f args c) = λ i. call n f (all_itself args i) c
    itself (named_call n f args c) = λ i. named_call n f (named_itself args i) c
    itself (parenthesized n e) = λ i. parenthesized n (itself e i)
    itself (dereference n e) = λ i. dereference n (itself e i)
    itself (borrow n mode x) = refl
    itself (borrow_part n r fields) = refl
    itself (binary n op a b) = λ i. binary n op (itself a i) (itself b i)
    itself (negation n e) = λ i. negation n (itself e i)
    itself (typed n e t) = λ i. typed n (itself e i) t
    itself (choice n c a b) = λ i. choice n (itself c i) (itself a i) (itself b i)

    all_itself : (es : Expressions Bytes T C) → expressions_renoted (staying T C) es ≡ es
    all_itself no_expressions = refl
    all_itself (expressions e rest) = λ i. expressions (itself e i) (all_itself rest i)

    named_itself : (es : Arguments Bytes T C) → arguments_renoted (staying T C) es ≡ es
    named_itself no_arguments = refl
    named_itself (arguments label e rest) = λ i. arguments label (itself e i) (named_itself rest i)

  mutual
    statement_itself : (s : Statement Bytes T C) → statement_renoted (staying T C) s ≡ s
    statement_itself (skip at) = refl
    statement_itself (declare at b n t e) = λ i. declare at b n t (itself e i)
    statement_itself (destructure at binds e) = λ i. destructure at binds (itself e i)
    statement_itself (assign at n fields e) = λ i. assign at n fields (itself e i)
    statement_itself (assign_through at n fields e) = λ i. assign_through at n fields (itself e i)
    statement_itself (conditional at tests) = λ i. conditional at (tests_itself tests i)
    statement_itself (conditional_else at tests b) = λ i. conditional_else at (tests_itself tests i)
        (block_itself b i)
    statement_itself (case_of at e all) = λ i. case_of at (itself e i) (arms_itself all i)
    statement_itself (while_loop at e b) = λ i. while_loop at (itself e i) (block_itself b i)
    statement_itself (for_loop at n a z b) = λ i. for_loop at n (itself a i) (itself z i) (block_itself b i)
    statement_itself (borrow_in at access x r region b stop) =
        λ i. borrow_in at access x r region (block_itself b i) stop
    statement_itself (borrow_typed at r t mode x b stop) = λ i. borrow_typed at r t mode x
        (block_itself b i) stop
    statement_itself (discard at e) = λ i. discard at (itself e i)
    statement_itself (return_of at e) = λ i. return_of at (itself e i)

    block_itself : (b : Statements Bytes T C) → block_renoted (staying T C) b ≡ b
    block_itself no_statements = refl
    block_itself (statements s rest) = λ i. statements (statement_itself s i) (block_itself rest i)

    tests_itself : (tests : Branches Bytes T C) → branches_renoted (staying T C) tests ≡ tests
    tests_itself no_branches = refl
    tests_itself (branches e b rest) = λ i. branches (itself e i) (block_itself b i) (tests_itself rest i)

    arms_itself : (all : Arms Bytes T C) → arms_renoted (staying T C) all ≡ all
    arms_itself no_arms = refl
    arms_itself (arms at n binds b rest) = λ i. arms at n binds (block_itself b i) (arms_itself rest i)

-- ---- all types count

abbrev every : ClosedType → Bool
every of = true

all_count : (fields : List Field) → FieldsCount every fields
all_count [] = tt
all_count (one ∷ rest) = (refl, all_count rest)

found_counts : (o : Option (List Field)) → FoundCount every o
found_counts None = tt
found_counts (Some all) = all_count all

type_counts : (o : Option ClosedType) → Counts every o
type_counts None = tt
type_counts (Some of) = refl

scope_counts : (scope : Scope) → ScopeCounts every scope
scope_counts [] = tt
scope_counts (x ∷ rest) = (type_counts x.of, scope_counts rest)

-- ---- what suits, two views agree on

module _ {T C : Type 0} (see : View ℕ T C) (mentioned : T → Bytes → Type 0) (called : T → C → Bytes → Type 0)
    (mention : (n : T) (name : Bytes) → CanMention see n name → mentioned n name)
    (claim : (n : T) (c : C) (name : Bytes) → CanCall see n c name → called n c name)
    (noted : T → Type 0) (fine : (n : T) → noted n) where
  mutual
    each : (e : Expression Bytes T C) → Suits see e → EachIn mentioned called e
    each (number n l) ok = tt
    each (negative n l) ok = tt
    each (text n t) ok = tt
    each (truth n b) ok = tt
    each (nil n) ok = tt
    each (path n x fields) ok = mention n.note x.name ok
    each (arrow n r fields) ok = tt
    each (call n f args c) ok = (claim n.note c f.name ok.0, each_all args ok.1)
    each (named_call n f args c) ok = (claim n.note c f.name ok.0, each_named args ok.1)
    each (parenthesized n e) ok = each e ok
    each (dereference n e) ok = each e ok
    each (borrow n mode x) ok = tt
    each (borrow_part n r fields) ok = tt
    each (binary n op a b) ok = (each a ok.0, each b ok.1)
    each (negation n e) ok = each e ok
    each (typed n e t) ok = each e ok
    each (choice n c a b) ok = (each c ok.0, each a ok.1, each b ok.2)

    each_all : (es : Expressions Bytes T C) → SuitsAll see es → EachInAll mentioned called es
    each_all no_expressions ok = tt
    each_all (expressions e rest) ok = (each e ok.0, each_all rest ok.1)

    each_named : (es : Arguments Bytes T C) → SuitsNamed see es → EachNamed mentioned called es
    each_named no_arguments ok = tt
    each_named (arguments label e rest) ok = (each e ok.0, each_named rest ok.1)

  mutual
    each_of : (s : Statement Bytes T C) → SuitsIn see s → EachOf noted mentioned called s
    each_of (skip at) ok = tt
    each_of (declare at b n t e) ok = (fine (note_of e), each e ok)
    each_of (destructure at binds e) ok = (fine (note_of e), each e ok)
    each_of (assign at n fields e) ok = each e ok
    each_of (assign_through at n fields e) ok = each e ok
    each_of (conditional at tests) ok = each_test tests ok
    each_of (conditional_else at tests b) ok = (each_test tests ok.0, each_block b ok.1)
    each_of (case_of at e all) ok = (fine (note_of e), each e ok.0, each_arm all ok.1)
    each_of (while_loop at e b) ok = (each e ok.0, each_block b ok.1)
    each_of (for_loop at n a z b) ok = (fine (note_of a), each a ok.0, each z ok.1, each_block b ok.2)
    each_of (borrow_in at access x r region b stop) ok = each_block b ok
    each_of (borrow_typed at r t mode x b stop) ok = each_block b ok
    each_of (discard at e) ok = each e ok
    each_of (return_of at e) ok = each e ok

    each_block : (b : Statements Bytes T C) → SuitsBlock see b → EachOfBlock noted mentioned called b
    each_block no_statements ok = tt
    each_block (statements s rest) ok = (each_of s ok.0, each_block rest ok.1)

    each_test : (tests : Branches Bytes T C) → SuitsTests see tests → EachOfTests noted mentioned called tests
    each_test no_branches ok = tt
    each_test (branches e b rest) ok = (each e ok.0, each_block b ok.1, each_test rest ok.2)

    each_arm : (all : Arms Bytes T C) → SuitsArms see all → EachOfArms noted mentioned called all
    each_arm no_arms ok = tt
    each_arm (arms at n binds b rest) ok = (each_block b ok.0, each_arm rest ok.1)

-- ---- blocks

module _ {T C : Type 0} (see : View ℕ T C) where
  mentions_agree : (n : T) (name : Bytes) → CanMention see n name
      → AgreeOnMention every (staying T C) (guarded see) see n name
  mentions_agree n name ok None = ap (λ o. needing o pure) (passing_same has_literal (see.constant n name) ok)
  mentions_agree n name ok (Some x) = refl

  module _ (invoke other : ℕ → List Value → Action Value) (same : invoke ≡ other) where
    act_same : (act : Act ℕ) (args : List Value) → acts (guarded see) invoke act args
        ≡ acts see other act args
    act_same (invokes one) args = λ i. same i one args
    act_same (makes of tag home) args = refl
    act_same (ships prim born) args = refl

    call_by : (o : Option (Callee ℕ)) (order : List Bytes → Option (List Value))
        → calls (guarded see) invoke o order ≡ calls see other o order
    call_by None order = refl
    call_by (Some one) order = λ i. needing (order one.parameters) (λ args. act_same one.act args i)

    calls_agree : (n : T) (c : C) (name : Bytes) → CanCall see n c name
        → AgreeOnCall every (staying T C) (guarded see) see invoke other n c name
    calls_agree n c name ok order =
        ap (λ o. calls (guarded see) invoke o order) (passing_same is_followed (see.callee n c name) ok)
        ∙ call_by (see.callee n c name) order

    types_agree : AgreeOnTypes every (staying T C) (guarded see) see
    types_agree = record {
      notes = λ n. refl;
      mentions = λ n name. refl;
      fields = λ of k tag. refl;
      inside = λ of k tag. found_counts (see.fields of tag);
      tags = λ of k name. refl;
      references = record { reads = λ of. refl; writes = λ of. refl };
    }

    block_means : (depth next : ℕ) (scope : Scope) (b : Statements Bytes T C) → SuitsBlock see b
        → run_block (guarded see) invoke depth next scope b ≡ run_block see other depth next scope b
    block_means depth next scope b ok =
        one_meaning every (staying T C) (guarded see) see invoke other depth next scope b types_agree
        (scope_counts scope)
        (each_block see (AgreeOnMention every (staying T C) (guarded see) see)
        (AgreeOnCall every (staying T C) (guarded see) see invoke other) mentions_agree calls_agree
        (λ n. Counts every (see.type_of n)) (λ n. type_counts (see.type_of n)) b ok)
        ∙ ap (run_block see other depth next scope) (block_itself b)

-- ---- programs

module _ {T C : Type 0} where
  suits_there : (functions : List (Function ℕ T C)) → EachSuits functions → (i : ℕ) (f : Function ℕ T C)
      → slice_get functions i ≡ Some f → SuitsBlock f.view f.body
  suits_there [] ok i f e = absurd (grind arith)
  suits_there (first ∷ rest) ok zero f e =
      let is : first ≡ f = cc in subst (λ (x : Function ℕ T C). SuitsBlock x.view x.body) is ok.0
  suits_there (first ∷ rest) ok (suc i) f e = suits_there rest ok.1 i f e

  enters_same : (invoke other : ℕ → List Value → Action Value) → invoke ≡ other → (depth : ℕ)
      (o : Option (Function ℕ T C)) → ((f : Function ℕ T C) → o ≡ Some f → SuitsBlock f.view f.body)
      → enters invoke depth (option_map guarded_function o) ≡ enters other depth o
  enters_same invoke other same depth None ok = refl
  enters_same invoke other same depth (Some f) ok =
      λ i args. where_true (length args == length f.parameters) (do
        does (begins (new_names f.first args (names_in_block f.body)))
        value ← closing (block_means f.view invoke other same depth (f.first + length args) (scope_of f)
            f.body (ok f refl) i >>= returned)
        does ends_frame
        pure value)

  module _ (functions : List (Function ℕ T C)) (ok : EachSuits functions) where
    abbrev all : ℕ → Option (Function ℕ T C)
    all i = slice_get functions i

    abbrev guards : ℕ → Option (Function ℕ T C)
    guards i = slice_get (guarded_functions functions) i

    calls_same : (depth : ℕ) → call_at guards depth ≡ call_at all depth
    unfolding call_at
    calls_same zero = refl
    calls_same (suc depth) =
        λ i one.
        (ap (enters (call_at guards depth) depth) (slice_get-map guarded_function functions one)
        ∙ enters_same (call_at guards depth) (call_at all depth) (calls_same depth) depth
        (slice_get functions one)
        (suits_there functions ok one)) i

    parameters_same : (o : Option (Function ℕ T C))
        → parameters_of (option_map guarded_function o) ≡ parameters_of o
    parameters_same None = refl
    parameters_same (Some f) = refl

    -- the meaning is the same
    pub means_same : (input : List ℕ) (ticks : ℕ) → mean guards 0 input ticks ≡ mean all 0 input ticks
    means_same input ticks =
        λ i. seen ticks (begun
        ((ap parameters_of (slice_get-map guarded_function functions 0)
        ∙ parameters_same (slice_get functions 0)) i)
        (calls_same (suc ticks) i 0) (first_world input) ticks)
