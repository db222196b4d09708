-- Statements and blocks, along the equations of their parts, of the numbers of names and of what is in scope.
use Rattle.std.proofs.Common.{◌≡◌, ℕ, suc, ◌+◌, ◌==◌, Bool, List, length, Option, Some, None, refl, ap, ◌∙◌}
use Rattle.au_closed_trees.specs.Changes.{Change}
use Rattle.au_closed_trees.specs.Renoted.{expression_renoted, statement_renoted, block_renoted}
use Rattle.au_closed_trees.specs.Renoted.{branches_renoted, arms_renoted}
use Rattle.au_type_texts.specs.Types.{ClosedType}
use Rattle.au_effects.specs.Parts.{along}
use Rattle.au_effects.specs.Values as values
use Rattle.au_meaning.specs.Acts.{holds, sets, puts, apart, tells_apart}
use Rattle.au_meaning.specs.Expressions.{note_of, names_of, chosen, whole}
use Rattle.au_meaning.specs.Names.{Scope, Variable, variable_of, with_name, with_bound, names_in}
use Rattle.au_meaning.specs.Names.{names_in_block, names_in_tests, names_in_arms, mode_of, with_reference}
use Rattle.au_meaning.specs.Names.{told_type, fields_through}
use Rattle.au_meaning.specs.Statements.{Flow, falls, returns, and_then, within, while_turns, ranges, either}
use Rattle.au_meaning.specs.Statements.{is_tag, lending, binds_borrow, binds_fields, fields_noted}
use Rattle.au_meaning.specs.Statements.{fields_told, means_case}
use Rattle.au_meaning.specs.Statements.{after, assigns, assigns_behind, takes_apart, run, run_all, run_tests}
use Rattle.au_meaning.specs.Statements.{run_arms}
use Rattle.au_meaning.specs.Ticks.{Action, pure, tick, needing, where_true, ◌>>=◌, ◌>>◌}
use Rattle.au_meaning.specs.Views.{View}
use Rattle.au_meaning.specs.Worlds.{Value}
use Rattle.au_closed_meanings.specs.Agreement.{EachIn, EachOf, EachOfBlock, EachOfTests, EachOfArms}
use Rattle.au_closed_meanings.specs.Agreement.{AgreeOnTypes, AgreeOnMention, AgreeOnCall, Counts, OneMeaning}
use Rattle.au_closed_meanings.specs.Agreement.{ScopeCounts}
use Rattle.au_closed_meanings.proofs.CountLemmas.{VariableCounts, bound_counts, fields_by, found_by}
use Rattle.au_closed_meanings.proofs.CountLemmas.{told_by, told_found}
use Rattle.au_closed_meanings.proofs.CountLemmas.{paths_same, tags_by, variable_counts, reference_counts}
use Rattle.au_closed_meanings.proofs.SameExpressions.{type_same, reaches_seen, eval_same, whole_same}
use Rattle.au_syntax.specs.Expressions.{Expression}
use Rattle.au_syntax.specs.Plain.{Bytes}
use Rattle.au_syntax.specs.Statements.{Statement, Statements, Branches, Arms, skip, declare, destructure}
use Rattle.au_syntax.specs.Statements.{assign, assign_through, conditional, conditional_else, case_of}
use Rattle.au_syntax.specs.Statements.{while_loop, for_loop, borrow_in, borrow_typed, discard, return_of}
use Rattle.au_syntax.specs.Statements.{no_statements, statements, no_branches, branches, no_arms, arms}
use Rattle.au_syntax.specs.Types.{Bound}

-- ---- how many names are declared

module _ {T C U D : Type 0} (change : Change Bytes T C U D) where
  mutual
    pub names_same : (s : Statement Bytes T C) → names_in s ≡ names_in (statement_renoted change s)
    names_same (skip at) = refl
    names_same (declare at binding name t e) = refl
    names_same (destructure at binds e) = refl
    names_same (assign at x fields e) = refl
    names_same (assign_through at r fields e) = refl
    names_same (conditional at tests) = names_same_tests tests
    names_same (conditional_else at tests block) = λ i. names_same_tests tests i + names_same_block block i
    names_same (case_of at e all) = names_same_arms all
    names_same (while_loop at e block) = names_same_block block
    names_same (for_loop at name first last block) = λ i. 1 + names_same_block block i
    names_same (borrow_in at access x r region block stop) = λ i. 1 + names_same_block block i
    names_same (borrow_typed at r t mode x block stop) = λ i. 1 + names_same_block block i
    names_same (discard at e) = refl
    names_same (return_of at e) = refl

    pub names_same_block : (block : Statements Bytes T C) → names_in_block block
        ≡ names_in_block (block_renoted change block)
    names_same_block no_statements = refl
    names_same_block (statements s rest) = λ i. names_same s i + names_same_block rest i

    pub names_same_tests : (tests : Branches Bytes T C) → names_in_tests tests
        ≡ names_in_tests (branches_renoted change tests)
    names_same_tests no_branches = refl
    names_same_tests (branches e block rest) = λ i. names_same_block block i + names_same_tests rest i

    pub names_same_arms : (all : Arms Bytes T C) → names_in_arms all ≡ names_in_arms (arms_renoted change all)
    names_same_arms no_arms = refl
    names_same_arms (arms at name binds block rest) =
        λ i. (length binds + names_same_block block i) + names_same_arms rest i

module _ {I J T C U D : Type 0} (known : ClosedType → Bool) (change : Change Bytes T C U D) (one : View I T C)
    (two : View J U D) (agree : AgreeOnTypes known change one two) where
  -- ---- what depends on types

  -- the type of an expression counts
  abbrev NoteCounts : T → Type 0
  NoteCounts n = Counts known (one.type_of n)

  fields_same : (e : Expression Bytes T C) → NoteCounts (note_of e)
      → fields_noted one (note_of e) ≡ fields_noted two (note_of (expression_renoted change e))
  fields_same e c =
      fields_by known change one two agree (one.type_of (note_of e)) c
      ∙ ap (λ o. along o (λ of. two.fields of 0)) (type_same known change one two agree e)

  told_same : (e : Expression Bytes T C) → NoteCounts (note_of e) → (tag : ℕ)
      → fields_told one (note_of e) tag ≡ fields_told two (note_of (expression_renoted change e)) tag
  told_same e c tag =
      told_by known change one two agree (one.type_of (note_of e)) c tag
      ∙ ap (λ o. along o (λ of. fields_through of (two.fields (told_type of) tag)))
      (type_same known change one two agree e)

  means_same : (e : Expression Bytes T C) → NoteCounts (note_of e) → (name : Bytes) (tag : ℕ)
      → means_case one (note_of e) name tag
      ≡ means_case two (note_of (expression_renoted change e)) (change.arm name) tag
  means_same e c name tag =
      ap (is_tag tag)
      (tags_by known change one two agree (one.type_of (note_of e)) c name
      ∙ ap (λ o. along o (λ of. two.tag (told_type of) (change.arm name)))
      (type_same known change one two agree e))

  assigns_same : (x : Option Variable) → VariableCounts known x → (names : List Bytes) (value : Value)
      → assigns one x names value ≡ assigns two x names value
  assigns_same None c names value = refl
  assigns_same (Some x) c names value =
      λ i. needing (paths_same known change one two agree names x.of c i)
      (λ path. sets x.number path value >> pure falls)

  assigns_seen : (scope scope2 : Scope) → ScopeCounts known scope → scope ≡ scope2 → (name : Bytes)
      → (names : List Bytes) (value : Value)
      → assigns one (variable_of scope name) names value ≡ assigns two (variable_of scope2 name) names value
  assigns_seen scope scope2 h s name names value =
      assigns_same (variable_of scope name) (variable_counts known scope h name) names value
      ∙ ap (λ z. assigns two (variable_of z name) names value) s

  behind_seen : (scope scope2 : Scope) → ScopeCounts known scope → scope ≡ scope2 → (name : Bytes)
      → (names : List Bytes) (value : Value)
      → assigns_behind one (variable_of scope name) names value
      ≡ assigns_behind two (variable_of scope2 name) names value
  behind_seen scope scope2 h s name names value = λ i. do
    it ← reaches_seen known change one two agree scope scope2 h s name names i
    puts it value
    pure falls

  takes_same : {number number2 : ℕ} (e : Expression Bytes T C) → NoteCounts (note_of e) → number ≡ number2
      → (binds : List (Bound Bytes)) (value : Value)
      → takes_apart one number binds (note_of e) value
      ≡ takes_apart two number2 binds (note_of (expression_renoted change e)) value
  takes_same e c p binds value =
      λ i. do
        parts ← apart value
        where_true (parts.0 == 0) (binds_fields (p i) binds (fields_same e c i) parts.1)
        pure falls

  -- ---- statements

  module _ (invoke : I → List Value → Action Value) (other : J → List Value → Action Value) (depth : ℕ) where
    value_same : {scope scope2 : Scope} (e : Expression Bytes T C)
        → EachIn (AgreeOnMention known change one two)
        (AgreeOnCall known change one two invoke other) e → ScopeCounts known scope → scope ≡ scope2
        → whole one invoke scope e ≡ whole two other scope2 (expression_renoted change e)
    value_same e ok h s = whole_same known change one two agree invoke other e ok h s

    after_same : {number number2 : ℕ} {scope scope2 : Scope} (s : Statement Bytes T C)
        → EachOf NoteCounts (AgreeOnMention known change one two)
        (AgreeOnCall known change one two invoke other) s → number ≡ number2
        → scope ≡ scope2 → after one number s scope ≡ after two number2 (statement_renoted change s) scope2
    after_same (declare at binding name t e) ok p s =
        λ i. with_name name.name (p i) (type_same known change one two agree e i) (s i)
    after_same (destructure at binds e) ok p s = λ i. with_bound (fields_same e ok.0 i) (p i) binds (s i)
    after_same other ok p s = s

    after_counts : (number : ℕ) (scope : Scope) (s : Statement Bytes T C)
        → EachOf NoteCounts (AgreeOnMention known change one two)
        (AgreeOnCall known change one two invoke other) s → ScopeCounts known scope
        → ScopeCounts known (after one number s scope)
    after_counts number scope (declare at binding name t e) ok h = (ok.0, h)
    after_counts number scope (destructure at binds e) ok h =
        bound_counts known (fields_noted one (note_of e))
        (found_by known change one two agree (one.type_of (note_of e)) ok.0) number binds scope h
    after_counts number scope other ok h = h

    mutual
      run_same : {number number2 : ℕ} {scope scope2 : Scope} (s : Statement Bytes T C)
          → EachOf NoteCounts (AgreeOnMention known change one two)
          (AgreeOnCall known change one two invoke other) s → number ≡ number2
          → ScopeCounts known scope → scope ≡ scope2
          → run one invoke depth number scope s
          ≡ run two other depth number2 scope2 (statement_renoted change s)
      run_same (skip at) ok p h s = refl
      run_same (declare at binding name t e) ok p h s =
          λ i. do
            value ← value_same e ok.1 h s i
            tick (holds (p i) value >> pure falls)
      run_same (destructure at binds e) ok p h s =
          λ i. do
            value ← value_same e ok.1 h s i
            tick (takes_same e ok.0 p binds value i)
      run_same (assign at x fields e) ok p h s =
          λ i. do
            value ← value_same e ok h s i
            tick (assigns_seen _ _ h s x.name (names_of fields) value i)
      run_same (assign_through at r fields e) ok p h s =
          λ i. do
            value ← value_same e ok h s i
            tick (behind_seen _ _ h s r.name (names_of fields) value i)
      run_same (conditional at tests) ok p h s = tests_same tests ok p h s refl
      run_same (conditional_else at tests block) ok p h s =
          tests_same tests ok.0 p h s (λ i.
          let after = p i + names_same_tests change tests i in
          within after (names_same_block change block i)
          (all_same block ok.1 (λ j. p j + names_same_tests change tests j) h s i))
      run_same (case_of at e all) ok p h s =
          λ i. do
            value ← value_same e ok.1 h s i
            tick (tells_apart value >>= (λ parts. arms_same e ok.0 all ok.2 p h s parts i))
      run_same (while_loop at e block) ok p h s =
          λ i. while_turns (suc depth) (value_same e ok.0 h s i)
          (within (p i) (names_same_block change block i) (all_same block ok.1 p h s i))
      run_same (for_loop at name first last block) ok p h s =
          λ i. do
            a ← value_same first ok.1 h s i
            b ← value_same last ok.2 h s i
            tick (ranges (suc depth) (λ kind z. within (p i) (1 + names_same_block change block i)
                (holds (p i) (values.number kind z) >> all_same block ok.3 (λ j. p j + 1) (ok.0, h)
                (λ j. with_name name.name (p j) (type_same known change one two agree first j) (s j)) i)) a b)
      run_same {scope = scope} (borrow_in at access x r region block stop) ok p h s =
          let counts = reference_counts known change one two agree (mode_of access) (variable_of scope x.name)
          (variable_counts known scope h x.name) in
          λ i. lending (binds_borrow (p i) (mode_of access) (variable_of (s i) x.name))
          (within (p i) (1 + names_same_block change block i)
          (all_same block ok (λ j. p j + 1) (counts, h)
          (λ j. with_reference (mode_of access) (variable_of (s j) x.name) (p j) r.name (s j)) i))
      run_same {scope = scope} (borrow_typed at r t mode x block stop) ok p h s =
          let counts = reference_counts known change one two agree mode (variable_of scope x.name)
          (variable_counts known scope h x.name) in
          λ i. lending (binds_borrow (p i) mode (variable_of (s i) x.name))
          (within (p i) (1 + names_same_block change block i)
          (all_same block ok (λ j. p j + 1) (counts, h)
          (λ j. with_reference mode (variable_of (s j) x.name) (p j) r.name (s j)) i))
      run_same (discard at e) ok p h s =
          λ i. do
            value ← value_same e ok h s i
            tick (pure falls)
      run_same (return_of at e) ok p h s =
          λ i. do
            value ← eval_same known change one two agree invoke other e ok h s i
            tick (pure (returns value))

      pub all_same : {number number2 : ℕ} {scope scope2 : Scope} (block : Statements Bytes T C)
          → EachOfBlock NoteCounts (AgreeOnMention known change one two)
          (AgreeOnCall known change one two invoke other) block
          → number ≡ number2 → ScopeCounts known scope → scope ≡ scope2
          → run_all one invoke depth number scope block
          ≡ run_all two other depth number2 scope2 (block_renoted change block)
      all_same no_statements ok p h s = refl
      all_same (statements one_of rest) ok p h s =
          λ i. run_same one_of ok.0 p h s i >>= and_then
          (all_same rest ok.1 (λ j. p j + names_same change one_of j) (after_counts _ _ one_of ok.0 h)
          (after_same one_of ok.0 p s) i)

      tests_same : {number number2 : ℕ} {scope scope2 : Scope} {last last2 : Action Flow}
          (tests : Branches Bytes T C)
          → EachOfTests NoteCounts (AgreeOnMention known change one two)
          (AgreeOnCall known change one two invoke other) tests
          → number ≡ number2 → ScopeCounts known scope → scope ≡ scope2 → last ≡ last2
          → run_tests one invoke depth number scope tests last
          ≡ run_tests two other depth number2 scope2 (branches_renoted change tests) last2
      tests_same no_branches ok p h s q = q
      tests_same (branches e block rest) ok p h s q =
          λ i. do
            value ← value_same e ok.0 h s i
            tick (chosen (within (p i) (names_same_block change block i) (all_same block ok.1 p h s i))
                (tests_same rest ok.2 (λ j. p j + names_same_block change block j) h s q i) value)

      arms_same : {number number2 : ℕ} {scope scope2 : Scope} (e : Expression Bytes T C)
          → NoteCounts (note_of e)
          → (all : Arms Bytes T C)
          → EachOfArms NoteCounts (AgreeOnMention known change one two)
          (AgreeOnCall known change one two invoke other) all
          → number ≡ number2 → ScopeCounts known scope → scope ≡ scope2 → (parts : ℕ × List Value)
          → run_arms one invoke depth number scope (note_of e) all parts
          ≡ run_arms two other depth number2 scope2 (note_of (expression_renoted change e))
          (arms_renoted change all) parts
      arms_same e c no_arms ok p h s parts = refl
      arms_same e c (arms at name binds block rest) ok p h s parts =
          λ i. either (means_same e c name.name parts.0 i)
          (within (p i) (length binds + names_same_block change block i)
          (binds_fields (p i) binds (told_same e c parts.0 i) parts.1
          >> all_same block ok.0 (λ j. p j + length binds)
          (bound_counts known (fields_told one (note_of e) parts.0)
          (told_found known change one two agree (one.type_of (note_of e)) c parts.0) _ binds _ h)
          (λ j. with_bound (told_same e c parts.0 j) (p j) binds (s j)) i))
          (arms_same e c rest ok.1 (λ j. p j + (length binds + names_same_block change block j)) h s parts i)

-- a block has one meaning
pub one_meaning : {I J T C U D : Type 0} (known : ClosedType → Bool) (change : Change Bytes T C U D)
    (one : View I T C) (two : View J U D) → OneMeaning known change one two
one_meaning known change one two invoke other depth number scope block agree h ok =
    λ i. within number (names_same_block change block i)
    (all_same known change one two agree invoke other depth {number = number} {number2 = number}
    {scope = scope}
    {scope2 = scope} block ok refl h refl i)
