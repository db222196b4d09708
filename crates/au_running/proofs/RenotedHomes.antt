-- The slots of what a tree with other notes declares.
use Rattle.std.proofs.Common.{◌≡◌, ℕ, ◌+◌, List, ◌∷◌, ◌++◌, length, refl, sym, ap, ap₂, ◌∙◌}
use Rattle.au_closed_trees.specs.Changes.{Change}
use Rattle.au_closed_trees.specs.Renoted.{expression_renoted, statement_renoted, block_renoted, branches_renoted}
use Rattle.au_closed_trees.specs.Renoted.{arms_renoted}
use Rattle.au_meaning.specs.Expressions.{note_of}
use Rattle.au_meaning.specs.Views.{Field}
use Rattle.au_syntax.specs.Expressions.{Expression, number, negative, text, truth, nil, path as named_path, arrow, call}
use Rattle.au_syntax.specs.Expressions.{named_call}
use Rattle.au_syntax.specs.Expressions.{parenthesized, dereference, borrow, borrow_part, binary, negation, typed, choice}
use Rattle.au_syntax.specs.Plain.{Bytes}
use Rattle.au_syntax.specs.Statements.{Statement, Statements, Branches, Arms, skip, declare, destructure}
use Rattle.au_syntax.specs.Statements.{assign, assign_through, conditional, conditional_else, case_of}
use Rattle.au_syntax.specs.Statements.{while_loop, for_loop, borrow_in, borrow_typed, discard, return_of}
use Rattle.au_syntax.specs.Statements.{no_statements, statements, no_branches, branches, no_arms, arms}
use Rattle.au_lowered.specs.HomeLists.{bind_homes, homes, homes_of_block, homes_of_tests, homes_of_arms, kept_by}
use Rattle.au_lowered.specs.HomeLists.{NamesAgreeInBlock}
use Rattle.au_lowered.proofs.HomeLemmas.{homes_are_same}

module _ {T C U D : Type 0} (change : Change Bytes T C U D) (records : U → List Field) (cases : U → Bytes → List Field)
    (same_records : (note : T) (name : Bytes) → records (change.mention note name) ≡ records (change.note note))
    (same_cases : (note : T) (name arm : Bytes) → cases (change.mention note name) arm ≡ cases (change.note note) arm) where
  -- the fields that a tree has by its notes before
  abbrev pub records_before : T → List Field
  records_before note = records (change.note note)

  abbrev pub cases_before : T → Bytes → List Field
  cases_before note arm = cases (change.note note) (change.arm arm)

  record_kept : (e : Expression Bytes T C) → records (note_of (expression_renoted change e)) ≡ records_before (note_of e)
  record_kept (number n l) = refl
  record_kept (negative n l) = refl
  record_kept (text n t) = refl
  record_kept (truth n b) = refl
  record_kept (nil n) = refl
  record_kept (named_path n x fields) = same_records n.note x.name
  record_kept (arrow n x fields) = refl
  record_kept (call n f es c) = refl
  record_kept (named_call n f es c) = refl
  record_kept (parenthesized n e) = refl
  record_kept (dereference n e) = refl
  record_kept (borrow n m x) = refl
  record_kept (borrow_part n x fields) = refl
  record_kept (binary n op a b) = refl
  record_kept (negation n e) = refl
  record_kept (typed n e t) = refl
  record_kept (choice n c a b) = refl

  case_kept : (e : Expression Bytes T C) (arm : Bytes)
      → cases (note_of (expression_renoted change e)) arm ≡ cases (change.note (note_of e)) arm
  case_kept (number n l) arm = refl
  case_kept (negative n l) arm = refl
  case_kept (text n t) arm = refl
  case_kept (truth n b) arm = refl
  case_kept (nil n) arm = refl
  case_kept (named_path n x fields) arm = same_cases n.note x.name arm
  case_kept (arrow n x fields) arm = refl
  case_kept (call n f es c) arm = refl
  case_kept (named_call n f es c) arm = refl
  case_kept (parenthesized n e) arm = refl
  case_kept (dereference n e) arm = refl
  case_kept (borrow n m x) arm = refl
  case_kept (borrow_part n x fields) arm = refl
  case_kept (binary n op a b) arm = refl
  case_kept (negation n e) arm = refl
  case_kept (typed n e t) arm = refl
  case_kept (choice n c a b) arm = refl

  many_kept : (s : Statement Bytes T C)
      → kept_by records cases (statement_renoted change s) ≡ kept_by records_before cases_before s
  many_kept (skip at) = refl
  many_kept (declare at binding name t e) = refl
  many_kept (destructure at binds e) = ap (λ fields. length fields) (record_kept e)
  many_kept (assign at x path e) = refl
  many_kept (assign_through at r path e) = refl
  many_kept (conditional at tests) = refl
  many_kept (conditional_else at tests block) = refl
  many_kept (case_of at e all) = refl
  many_kept (while_loop at e block) = refl
  many_kept (for_loop at name first last block) = refl
  many_kept (borrow_in at access x r region block stop) = refl
  many_kept (borrow_typed at r t mode x block stop) = refl
  many_kept (discard at e) = refl
  many_kept (return_of at e) = refl

  mutual
    homes_kept : (slot : ℕ) (s : Statement Bytes T C)
        → homes records cases slot (statement_renoted change s) ≡ homes records_before cases_before slot s
    homes_kept slot (skip at) = refl
    homes_kept slot (declare at binding name t e) = refl
    homes_kept slot (destructure at binds e) = ap (λ fields. bind_homes fields slot binds) (record_kept e)
    homes_kept slot (assign at x path e) = refl
    homes_kept slot (assign_through at r path e) = refl
    homes_kept slot (conditional at tests) = tests_kept slot tests
    homes_kept slot (conditional_else at tests block) =
        ap₂ (λ xs ys. xs ++ ys) (tests_kept slot tests) (block_kept slot block)
    homes_kept slot (case_of at e all) =
        arms_kept slot (note_of (expression_renoted change e)) (note_of e) (case_kept e) all
    homes_kept slot (while_loop at e block) = block_kept slot block
    homes_kept slot (for_loop at name first last block) = ap (λ xs. (slot + 2) ∷ xs) (block_kept (slot + 3) block)
    homes_kept slot (borrow_in at access x r region block stop) = ap (λ xs. slot ∷ xs) (block_kept (slot + 1) block)
    homes_kept slot (borrow_typed at r t mode x block stop) = ap (λ xs. slot ∷ xs) (block_kept (slot + 1) block)
    homes_kept slot (discard at e) = refl
    homes_kept slot (return_of at e) = refl

    pub block_kept : (slot : ℕ) (b : Statements Bytes T C)
        → homes_of_block records cases slot (block_renoted change b) ≡ homes_of_block records_before cases_before slot b
    block_kept slot no_statements = refl
    block_kept slot (statements s rest) =
        ap₂ (λ xs ys. xs ++ ys) (homes_kept slot s)
        (ap (λ k. homes_of_block records cases (slot + k) (block_renoted change rest)) (many_kept s)
        ∙ block_kept (slot + kept_by records_before cases_before s) rest)

    tests_kept : (slot : ℕ) (tests : Branches Bytes T C)
        → homes_of_tests records cases slot (branches_renoted change tests)
        ≡ homes_of_tests records_before cases_before slot tests
    tests_kept slot no_branches = refl
    tests_kept slot (branches e block rest) = ap₂ (λ xs ys. xs ++ ys) (block_kept slot block) (tests_kept slot rest)

    arms_kept : (slot : ℕ) (after : U) (note : T) → ((arm : Bytes) → cases after arm ≡ cases (change.note note) arm)
        → (all : Arms Bytes T C)
        → homes_of_arms records cases slot after (arms_renoted change all)
        ≡ homes_of_arms records_before cases_before slot note all
    arms_kept slot after note same no_arms = refl
    arms_kept slot after note same (arms at name binds block rest) =
        let fields = same (change.arm name.name) in
        ap₂ (λ xs ys. xs ++ ys) (ap (λ all. bind_homes all slot binds) fields)
        (ap₂ (λ xs ys. xs ++ ys)
        (ap (λ all. homes_of_block records cases (slot + length all) (block_renoted change block)) fields
        ∙ block_kept (slot + length (cases_before note name.name)) block) (arms_kept slot after note same rest))

-- two trees that are made of one have the same slots
module _ {T C U D : Type 0} (one other : Change Bytes T C U D) (records : U → List Field) (cases : U → Bytes → List Field)
    (one_records : (note : T) (name : Bytes) → records (one.mention note name) ≡ records (one.note note))
    (one_cases : (note : T) (name arm : Bytes) → cases (one.mention note name) arm ≡ cases (one.note note) arm)
    (other_records : (note : T) (name : Bytes) → records (other.mention note name) ≡ records (other.note note))
    (other_cases : (note : T) (name arm : Bytes) → cases (other.mention note name) arm ≡ cases (other.note note) arm)
  where
    pub made_of_one : (slot : ℕ) (b : Statements Bytes T C)
        → NamesAgreeInBlock (λ note. records (one.note note)) (λ note. records (other.note note)) (λ note arm. cases
        (one.note note) (one.arm arm)) (λ note arm. cases (other.note note) (other.arm arm)) b
        → homes_of_block records cases slot (block_renoted one b) ≡ homes_of_block records cases slot (block_renoted
        other b)
    made_of_one slot b agree =
        block_kept one records cases one_records one_cases slot b
        ∙ homes_are_same (λ note. records (one.note note)) (λ note. records (other.note note)) (λ note arm. cases
        (one.note note) (one.arm arm)) (λ note arm. cases (other.note note) (other.arm arm)) slot b agree
        ∙ sym (block_kept other records cases other_records other_cases slot b)
