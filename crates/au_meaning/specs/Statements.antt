-- The meaning of statements and blocks: one clause for each form. Each is given the number of the first name
-- that it declares, and what is in scope.
use Rattle.std.specs.Prelude.{ℕ, zero, suc, ◌+◌, ◌==◌, Bool, true, false, List, length, Option, Some, None, ℤ}
use Rattle.std.specs.Prelude.{pos, ◌+ℤ◌, int_lt, if◌then◌else◌}
use Rattle.au_base.specs.declared.kinds.IntKind.{IntKind}
use Rattle.au_effects.specs.Numbers.{number_in, same_kind}
use Rattle.au_effects.specs.Parts.{along}
use Rattle.au_effects.specs.Values as values
use Rattle.au_syntax.specs.declared.expressions.BorrowMode.{BorrowMode}
use Rattle.au_syntax.specs.Expressions.{Expression}
use Rattle.au_syntax.specs.Plain.{Bytes}
use Rattle.au_syntax.specs.Statements.{Statement, Statements, Branches, Arms, skip, declare, destructure}
use Rattle.au_syntax.specs.Statements.{assign, assign_through, conditional, conditional_else, case_of}
use Rattle.au_syntax.specs.Statements.{while_loop, for_loop, borrow_in, borrow_typed, discard, return_of}
use Rattle.au_syntax.specs.Statements.{no_statements, statements, no_branches, branches, no_arms, arms}
use Rattle.au_syntax.specs.Types.{Bound}
use Rattle.au_meaning.specs.Acts.{holds, with_values, sets, emptied, puts, lends, counts_open, closed_to}
use Rattle.au_meaning.specs.Acts.{apart, tells_apart, bound_counted}
use Rattle.au_meaning.specs.Expressions.{names_of, note_of, chosen, reaches, eval, whole}
use Rattle.au_meaning.specs.Names.{Scope, Variable, variable_of, with_name, with_bound, path_numbers}
use Rattle.au_meaning.specs.Names.{told_type, fields_through}
use Rattle.au_meaning.specs.Names.{names_in, names_in_block, names_in_tests, mode_of, with_reference}
use Rattle.au_meaning.specs.Ticks.{Action, pure, stuck, over, tick, needing, where_true, does, ◌>>=◌, ◌>>◌}
use Rattle.au_meaning.specs.Views.{Field, View}
use Rattle.au_meaning.specs.Worlds.{Value}

-- ---- how a statement ends

-- the next one follows, or the function returns a value
pub data Flow : Type 0 where
  falls : Flow
  returns : Value → Flow

-- what follows, where no value is returned
abbrev pub and_then : Action Flow → Flow → Action Flow
and_then next falls = next
and_then next (returns value) = pure (returns value)

-- At the end of a block its names, so many from one on, are emptied. Where it returns a value, they go with
-- those of the frame.
abbrev pub empties : ℕ → ℕ → Action Flow
empties name count = does (emptied name count) >> pure falls

abbrev pub within : ℕ → ℕ → Action Flow → Action Flow
within name count block = block >>= and_then (empties name count)

-- ---- loops

-- the turns of `while`, of which at most so many are made
unfoldable pub while_turns : ℕ → Action Value → Action Flow → Action Flow
while_turns zero test body = over
while_turns (suc turns) test body = do
  value ← test
  tick (chosen (body >>= and_then (while_turns turns test body)) (pure falls) value)

-- the turns of `for` from a number on up to the last one, of which at most so many are made
unfoldable pub for_turns : ℕ → (ℤ → Action Flow) → ℤ → ℤ → Action Flow
for_turns zero body z last = over
for_turns (suc turns) body z last =
    body z >>= and_then (tick (if int_lt z last then for_turns turns body (z +ℤ pos 1) last else pure falls))

-- two numbers of one kind
abbrev pub both_numbers : Option (IntKind × ℤ) → Option (IntKind × ℤ) → (IntKind → ℤ → ℤ → Action Flow)
    → Action Flow
both_numbers None b go = stuck
both_numbers (Some a) None go = stuck
both_numbers (Some a) (Some b) go = where_true (same_kind a.0 b.0) (go a.0 a.1 b.1)

-- the turns of `for` between two bounds, if there are any
abbrev pub ranges : ℕ → (IntKind → ℤ → Action Flow) → Value → Value → Action Flow
ranges turns body a b =
    both_numbers (number_in a) (number_in b) (λ kind first last.
    if int_lt last first then pure falls else for_turns turns (body kind) first last)

-- ---- borrows

-- A borrow statement: its borrow is opened with one tick, and closed with another behind the block. Where
-- this returns a value, it is closed with those of the frame.
abbrev pub lending : Action (Unit {0}) → Action Flow → Action Flow
lending opening block = do
  count ← counts_open
  tick opening
  block >>= and_then (tick (does (closed_to count) >> pure falls))

-- a name holds the reference of a borrow of a variable
abbrev pub binds_borrow : ℕ → BorrowMode → Option Variable → Action (Unit {0})
binds_borrow name mode None = stuck
binds_borrow name mode (Some x) = lends mode x.number >>= holds name

-- ---- cases

-- a number is this one, if there is one
abbrev pub is_tag : ℕ → Option ℕ → Bool
is_tag tag None = false
is_tag tag (Some other) = other == tag

-- one flow or another, by a fact
abbrev pub either : Bool → Action Flow → Action Flow → Action Flow
either true one other = one
either false one other = other

-- the fields of a value that are bound are held by names from one on: it has as many as its type
abbrev pub binds_fields : ℕ → List (Bound Bytes) → Option (List Field) → List Value → Action (Unit {0})
binds_fields name binds fields held =
    needing (along fields (λ known. bound_counted known held binds)) (λ bound. does (with_values name bound))

-- ---- statements

module _ {I T C : Type 0} (see : View I T C) where
  -- the fields of the record that an expression is, by its note
  abbrev pub fields_noted : T → Option (List Field)
  fields_noted note = along (see.type_of note) (λ of. see.fields of 0)

  -- of a union, or one behind a reference, by the note of the expression that is told apart: the number of
  -- the case that a name means, and the fields of the case of a number, as they are bound
  abbrev pub tag_told : T → Bytes → Option ℕ
  tag_told note name = along (see.type_of note) (λ of. see.tag (told_type of) name)

  abbrev pub fields_told : T → ℕ → Option (List Field)
  fields_told note tag =
      along (see.type_of note) (λ of. fields_through of (see.fields (told_type of) tag))

  -- whether a name means the case of a number
  abbrev pub means_case : T → Bytes → ℕ → Bool
  means_case note name tag = is_tag tag (tag_told note name)

  -- what is in scope after a statement
  abbrev pub after : ℕ → Statement Bytes T C → Scope → Scope
  after number (declare at binding name t e) scope =
      with_name name.name number (see.type_of (note_of e)) scope
  after number (destructure at binds e) scope = with_bound (fields_noted (note_of e)) number binds scope
  after number other scope = scope

  -- a scope with the counter of a loop, which is of the type of the first bound
  abbrev pub with_counter : ℕ → Bytes → Expression Bytes T C → Scope → Scope
  with_counter number name first scope = with_name name number (see.type_of (note_of first)) scope

  -- the end of a path from a variable becomes a value
  abbrev pub assigns : Option Variable → List Bytes → Value → Action Flow
  assigns None names value = stuck
  assigns (Some x) names value =
      needing (path_numbers (λ of. see.fields of 0) x.of names) (λ path.
      sets x.number path value >> pure falls)

  -- the end of a path behind the reference in a variable becomes a value
  abbrev pub assigns_behind : Option Variable → List Bytes → Value → Action Flow
  assigns_behind variable names value = do
    one ← reaches see variable names
    puts one value
    pure falls

  -- a record is taken apart, and names from one on hold its fields
  abbrev pub takes_apart : ℕ → List (Bound Bytes) → T → Value → Action Flow
  takes_apart number binds note value = do
    parts ← apart value
    where_true (parts.0 == 0) (binds_fields number binds (fields_noted note) parts.1)
    pure falls

  -- the names that are declared in a block, from one on, are emptied at its end
  abbrev pub emptying : ℕ → Statements Bytes T C → Action Flow → Action Flow
  emptying number block body = within number (names_in_block block) body

module _ {I T C : Type 0} (see : View I T C) (invoke : I → List Value → Action Value) (depth : ℕ) where
  abbrev mutual
    pub run : ℕ → Scope → Statement Bytes T C → Action Flow
    run number scope (skip at) = pure falls
    run number scope (declare at binding name t e) = do
      value ← whole see invoke scope e
      tick (holds number value >> pure falls)
    run number scope (destructure at binds e) = do
      value ← whole see invoke scope e
      tick (takes_apart see number binds (note_of e) value)
    run number scope (assign at x path e) = do
      value ← whole see invoke scope e
      tick (assigns see (variable_of scope x.name) (names_of path) value)
    run number scope (assign_through at r path e) = do
      value ← whole see invoke scope e
      tick (assigns_behind see (variable_of scope r.name) (names_of path) value)
    run number scope (conditional at tests) = run_tests number scope tests (pure falls)
    run number scope (conditional_else at tests block) =
        run_tests number scope tests
        (let other = number + names_in_tests tests in emptying see other block (run_all other scope block))
    run number scope (case_of at e all) = do
      value ← whole see invoke scope e
      tick (tells_apart value >>= run_arms number scope (note_of e) all)
    run number scope (while_loop at e block) =
        while_turns (suc depth) (whole see invoke scope e)
        (emptying see number block (run_all number scope block))
    run number scope (for_loop at name first last block) = do
      a ← whole see invoke scope first
      b ← whole see invoke scope last
      tick (ranges (suc depth) (λ kind z. within number (1 + names_in_block block) (
          holds number (values.number kind z)
          >> run_all (number + 1) (with_counter see number name.name first scope) block)) a b)
    run number scope (borrow_in at access x r region block stop) =
        let variable = variable_of scope x.name in
        lending (binds_borrow number (mode_of access) variable)
        (within number (1 + names_in_block block)
        (run_all (number + 1) (with_reference (mode_of access) variable number r.name scope) block))
    run number scope (borrow_typed at r t mode x block stop) =
        let variable = variable_of scope x.name in
        lending (binds_borrow number mode variable)
        (within number (1 + names_in_block block)
        (run_all (number + 1) (with_reference mode variable number r.name scope) block))
    run number scope (discard at e) = do
      value ← whole see invoke scope e
      tick (pure falls)
    run number scope (return_of at e) = do
      value ← eval see invoke scope e
      tick (pure (returns value))

    -- statements one after another
    pub run_all : ℕ → Scope → Statements Bytes T C → Action Flow
    run_all number scope no_statements = pure falls
    run_all number scope (statements s rest) =
        run number scope s >>= and_then (run_all (number + names_in s) (after see number s scope) rest)

    -- the branches of a conditional, and what follows where no test is true
    pub run_tests : ℕ → Scope → Branches Bytes T C → Action Flow → Action Flow
    run_tests number scope no_branches other = other
    run_tests number scope (branches e block rest) other = do
      value ← whole see invoke scope e
      tick (chosen (emptying see number block (run_all number scope block))
          (run_tests (number + names_in_block block) scope rest other) value)

    -- the arm for the case of a number, with the fields of a value that has this note
    pub run_arms : ℕ → Scope → T → Arms Bytes T C → ℕ × List Value → Action Flow
    run_arms number scope note no_arms parts = stuck
    run_arms number scope note (arms at name binds block rest) parts =
        let own = length binds + names_in_block block in
        either (means_case see note name.name parts.0) (within number own (
        binds_fields number binds (fields_told see note parts.0) parts.1
        >> run_all (number + length binds)
        (with_bound (fields_told see note parts.0) number binds scope) block))
        (run_arms (number + own) scope note rest parts)

  -- a body, whose names begin with a number
  abbrev pub run_block : ℕ → Scope → Statements Bytes T C → Action Flow
  run_block number scope block = emptying see number block (run_all number scope block)
