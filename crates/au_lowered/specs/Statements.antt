-- The code of statements and blocks: one equation for each form. Each is given how many borrow statements
-- stand round it, how many slots are in use before it, and what is in scope.
use Rattle.std.specs.Prelude.{ℕ, zero, suc, ◌+◌, max, Bool, true, false, ◌||◌, List, [], ◌∷◌, ◌++◌, length}
use Rattle.std.specs.Prelude.{Option, Some, None, if◌then◌else◌, unwrap_or}
use Rattle.au_typing.specs.Returns.{block_returns}
use Rattle.au_low.specs.declared.instructions.Instr.TheVariants as instr
use Rattle.au_low.specs.declared.instructions.Mode.{Mode}
use Rattle.au_low.specs.declared.instructions.Mode.TheVariants as mode
use Rattle.au_meaning.specs.Expressions.{note_of, names_of}
use Rattle.au_meaning.specs.Names.{Scope, Variable, variable_of, with_name, mode_of, with_reference}
use Rattle.au_meaning.specs.Statements.{is_tag, tag_told}
use Rattle.au_meaning.specs.Views.{View}
use Rattle.au_syntax.specs.declared.expressions.BorrowMode.{BorrowMode}
use Rattle.au_syntax.specs.declared.expressions.BorrowMode.TheVariants as borrowing
use Rattle.au_syntax.specs.Plain.{Bytes}
use Rattle.au_syntax.specs.Statements.{Statement, Statements, Branches, Arms, skip, declare, destructure}
use Rattle.au_syntax.specs.Statements.{assign, assign_through, conditional, conditional_else, case_of}
use Rattle.au_syntax.specs.Statements.{while_loop, for_loop, borrow_in, borrow_typed, discard, return_of}
use Rattle.au_syntax.specs.Statements.{no_statements, statements, no_branches, branches, no_arms, arms}
use Rattle.au_lowered.specs.Drafts.{Draft, plain, Written, ◌>>◌, nothing, does, given, unless, count_unless}
use Rattle.au_lowered.specs.Drafts.{branch, looped}
use Rattle.au_lowered.specs.Expressions.{code, whole, part_of, part_behind}
use Rattle.au_lowered.specs.Slots.{with_fields, fields_of_case, kept, after}

-- ---- pieces

-- The turns of `for`, whose counter and last number are in slots from one on, and whose variable is in the
-- slot behind them: `FORTEST(s, s+1, end) t: LOOK(s) STORE(s+2) block FORSTEP(s, s+1, t) end:`, without the
-- step where the block returns on every path.
abbrev pub turns : Bool → ℕ → Written → Written
turns returns slot block place =
    let t = place + 1 in
    let turn = (does (instr.Look slot []) >> does (instr.Store (slot + 2)) >> block
    >> unless returns (instr.ForStep slot (slot + 1) t)) t in
    plain (instr.ForTest slot (slot + 1) (t + length turn)) ∷ turn

-- how a borrow statement borrows
abbrev pub mode_in : BorrowMode → Mode
mode_in borrowing.Read = mode.Read
mode_in borrowing.Write = mode.Write
mode_in borrowing.Reborrow = mode.Again

-- a borrow statement, whose reference is in a slot: `BIND(x, r, M) block CLOSE(k)`, without the close where
-- the block returns on every path
abbrev pub lends : Bool → ℕ → ℕ → BorrowMode → Option Variable → Written → Written
lends returns around slot mode variable block =
    given variable (λ x. does (instr.Bind x.number slot (mode_in mode)))
    >> block >> unless returns (instr.Close around)

-- ---- arms

-- arms as they are written: where the arm of each case begins, in the order of the text, and the instructions
pub record ArmsWritten : Type 0 where
  pub starts : List (Option ℕ × ℕ)
  pub code : List Draft

-- whether an arm is the last one in the text
abbrev pub is_last : {N T C : Type 0} → Arms N T C → Bool
is_last no_arms = true
is_last (arms at name binds block rest) = false

-- an arm of a case, and then others: no jump stands behind it where it needs none
abbrev pub arm_then : Bool → Option ℕ → Written → (ℕ → ArmsWritten) → ℕ → ArmsWritten
arm_then unneeded tag block others place =
    let own = block place in
    let next = place + length own + count_unless unneeded in
    let rest = others next in
    record {
      starts = (tag, place) ∷ rest.starts;
      code = own ++ (unless unneeded (instr.Jump (next + length rest.code)) next ++ rest.code);
    }

-- where the arm of a case begins
abbrev pub start_of : ℕ → List (Option ℕ × ℕ) → ℕ
start_of tag [] = 0
start_of tag (one ∷ rest) = if is_tag tag one.0 then one.1 else start_of tag rest

-- how many cases there are: each has its arm
abbrev pub count_of_cases : List (Option ℕ × ℕ) → ℕ
count_of_cases [] = 0
count_of_cases (one ∷ rest) = max (above one.0) (count_of_cases rest)
  where
    above : Option ℕ → ℕ
    above None = 0
    above (Some tag) = tag + 1

-- the labels of so many cases, in declared order
abbrev pub labels_of : ℕ → List (Option ℕ × ℕ) → List ℕ
labels_of zero starts = []
labels_of (suc tag) starts = labels_of tag starts ++ start_of tag starts ∷ []

-- `CASE(s, l0, l1, ..)` and the arms in the order of the text
abbrev pub cases : ℕ → (ℕ → ArmsWritten) → Written
cases slot all place =
    let written = all (place + 1) in
    plain (instr.Case slot (labels_of (count_of_cases written.starts) written.starts)) ∷ written.code

-- ---- statements

module _ {T C : Type 0} (see : View ℕ T C) where
  abbrev mutual
    pub statement : ℕ → ℕ → Scope → Statement Bytes T C → Written
    statement around slot scope (skip at) = nothing
    statement around slot scope (declare at binding name t e) =
        whole see around scope e >> does (instr.Store slot)
    statement around slot scope (destructure at binds e) =
        whole see around scope e >> does (instr.Take slot)
    statement around slot scope (assign at x path e) =
        whole see around scope e
        >> part_of see (variable_of scope x.name) (names_of path) (λ s numbers.
        does (instr.Set s numbers))
    statement around slot scope (assign_through at r path e) =
        whole see around scope e
        >> part_behind see (variable_of scope r.name) (names_of path) (λ s numbers.
        does (instr.Put s numbers))
    statement around slot scope (conditional at tests) =
        unwrap_or (tests_of around slot scope tests None) nothing
    statement around slot scope (conditional_else at tests other) =
        unwrap_or (tests_of around slot scope tests (Some (block around slot scope other))) nothing
    statement around slot scope (case_of at e all) =
        whole see around scope e >> cases slot (arms_of around slot scope (note_of e) all)
    statement around slot scope (while_loop at e body) =
        looped (block_returns body) (whole see around scope e) (block around slot scope body)
    statement around slot scope (for_loop at name first last body) =
        whole see around scope first >> does (instr.Store slot)
        >> whole see around scope last >> does (instr.Store (slot + 1))
        >> turns (block_returns body) slot
        (block around (slot + 3) (with_name name.name (slot + 2) (see.type_of (note_of first)) scope) body)
    statement around slot scope (borrow_in at access x r region body stop) =
        let variable = variable_of scope x.name in
        lends (block_returns body) around slot (mode_of access) variable
        (block (around + 1) (slot + 1) (with_reference (mode_of access) variable slot r.name scope) body)
    statement around slot scope (borrow_typed at r t mode x body stop) =
        let variable = variable_of scope x.name in
        lends (block_returns body) around slot mode variable
        (block (around + 1) (slot + 1) (with_reference mode variable slot r.name scope) body)
    statement around slot scope (discard at e) =
        whole see around scope e >> does instr.Discard
    statement around slot scope (return_of at e) = code see scope e >> does instr.Return

    -- statements one after another
    pub block : ℕ → ℕ → Scope → Statements Bytes T C → Written
    block around slot scope no_statements = nothing
    block around slot scope (statements s rest) =
        statement around slot scope s
        >> block around (slot + kept see s) (after see slot s scope) rest

    -- the tests of a conditional, and what follows where none is true, if anything does
    pub tests_of : ℕ → ℕ → Scope → Branches Bytes T C → Option Written → Option Written
    tests_of around slot scope no_branches other = other
    tests_of around slot scope (branches e body rest) other =
        Some (whole see around scope e
        >> branch (block_returns body) (block around slot scope body)
        (tests_of around slot scope rest other))

    -- the arms of a case, of a value that has this note
    pub arms_of : ℕ → ℕ → Scope → T → Arms Bytes T C → ℕ → ArmsWritten
    arms_of around slot scope note no_arms place = record { starts = []; code = [] }
    arms_of around slot scope note (arms at name binds body rest) place =
        let fields = fields_of_case see note name.name in
        arm_then (block_returns body || is_last rest) (tag_told see note name.name)
        (block around (slot + length fields) (with_fields fields slot binds scope) body)
        (arms_of around slot scope note rest) place
