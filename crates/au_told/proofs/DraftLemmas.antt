-- What is written of a tree names modules only where it makes values, and there the one in whose text it
-- stands.
use Rattle.std.proofs.Common.{◌≡◌, ℕ, ◌+◌, Bool, true, false, ◌||◌, List, [], ◌∷◌, ◌++◌, length}
use Rattle.std.proofs.Common.{Option, None, Some, refl, neg_ℤ, ℤ}
use Rattle.std.specs.Prelude.{unwrap_or}
use Rattle.std.specs.List.{AllByRecursion}
use Rattle.au_typing.specs.Returns.{block_returns}
use Rattle.au_type_texts.specs.Types.{ClosedType}
use Rattle.au_effects.specs.Values as values
use Rattle.au_shipped.specs.declared.prims.ShippedCall.{ShippedCall}
use Rattle.au_shipped.specs.declared.prims.ShippedCall.TheVariants as prim
use Rattle.au_low.specs.declared.instructions.Instr.{Instr}
use Rattle.au_low.specs.declared.instructions.Instr.TheVariants as instr
use Rattle.au_syntax.specs.declared.expressions.BorrowMode.{BorrowMode}
use Rattle.au_syntax.specs.declared.expressions.BorrowMode.TheVariants as borrowing
use Rattle.au_syntax.specs.Expressions.{Expression, Expressions, Arguments, number, negative, text, truth}
use Rattle.au_syntax.specs.Expressions.{nil, path, arrow, call, named_call, parenthesized, dereference}
use Rattle.au_syntax.specs.Expressions.{borrow, borrow_part, binary, negation, typed, choice, no_expressions}
use Rattle.au_syntax.specs.Expressions.{expressions, no_arguments, arguments}
use Rattle.au_syntax.specs.Plain.{Bytes}
use Rattle.au_syntax.specs.Statements.{Statement, Statements, Branches, Arms, skip, declare, destructure}
use Rattle.au_syntax.specs.Statements.{assign, assign_through, conditional, conditional_else, case_of}
use Rattle.au_syntax.specs.Statements.{while_loop, for_loop, borrow_in, borrow_typed, discard, return_of}
use Rattle.au_syntax.specs.Statements.{no_statements, statements, no_branches, branches, no_arms, arms}
use Rattle.au_meaning.specs.Expressions.{Operation, computes, compares, is_and, is_or, operation_of, kind_in}
use Rattle.au_meaning.specs.Expressions.{compared_kind, note_of, names_of, labels, alone}
use Rattle.au_meaning.specs.Names.{Scope, Variable, variable_of, with_name, mode_of, with_reference}
use Rattle.au_meaning.specs.Names.{target_behind}
use Rattle.au_meaning.specs.Statements.{tag_told}
use Rattle.au_meaning.specs.Views.{View, Callee, Act, invokes, makes, ships}
use Rattle.au_meaning.specs.Worlds.{Value}
use Rattle.au_lowered.specs.Drafts.{Draft, plain, pushes_text, makes_case, ships_birth, Written, ◌>>◌}
use Rattle.au_lowered.specs.Drafts.{nothing}
use Rattle.au_lowered.specs.Drafts.{does, given, unless, count_unless, when, either, branch, looped}
use Rattle.au_lowered.specs.Expressions.{acts, borrows, by_labels, by_position, calls, closing, code}
use Rattle.au_lowered.specs.Expressions.{code_of_all}
use Rattle.au_lowered.specs.Expressions.{code_of_named, integer, joins, literal, looked_at, mention}
use Rattle.au_lowered.specs.Expressions.{numbers_along}
use Rattle.au_lowered.specs.Expressions.{opens, operand, part_behind, part_of, ships_call, taken}
use Rattle.au_lowered.specs.Expressions.{unless_declared}
use Rattle.au_lowered.specs.Expressions.{whole}
use Rattle.au_lowered.specs.Slots.{after, fields_of_case, kept, with_fields}
use Rattle.au_lowered.specs.Statements.{ArmsWritten, arm_then, arms_of, block, cases, is_last, lends, mode_in}
use Rattle.au_lowered.specs.Statements.{statement, tests_of, turns}
use Rattle.au_told.specs.Names.{IsPlain, IsPlainInstruction}
use Rattle.au_told.proofs.PlainLemmas.{all_both}

-- ---- what is plain

abbrev pub IsPlainDraft : Draft → Type 0
IsPlainDraft (plain one) = IsPlainInstruction one
IsPlainDraft (pushes_text bytes) = Unit {0}
IsPlainDraft (makes_case of tag order home) = IsPlain home
IsPlainDraft (ships_birth one of order) = Unit {0}

abbrev pub ArePlain : List Draft → Type 0
ArePlain drafts = AllByRecursion IsPlainDraft drafts

abbrev pub WritesPlain : Written → Type 0
WritesPlain write = (place : ℕ) → ArePlain (write place)

abbrev pub IsPlainAct : Act ℕ → Type 0
IsPlainAct (invokes function) = Unit {0}
IsPlainAct (makes born tag home) = IsPlain home
IsPlainAct (ships one born) = Unit {0}

-- ---- pieces

both_plain : (a b : Written) → WritesPlain a → WritesPlain b → WritesPlain (a >> b)
both_plain a b h k place = all_both IsPlainDraft (a place) (b (place + length (a place))) (h place)
    (k (place + length (a place)))

does_plain : (one : Instr) → IsPlainInstruction one → WritesPlain (does one)
does_plain one h place = (h, tt)

given_plain : {A : Type 0} (o : Option A) (write : A → Written)
    → ((a : A) → o ≡ Some a → WritesPlain (write a)) → WritesPlain (given o write)
given_plain None write h = λ place. tt
given_plain (Some a) write h = h a refl

unless_plain : (returns : Bool) (one : Instr) → IsPlainInstruction one → WritesPlain (unless returns one)
unless_plain true one h place = tt
unless_plain false one h place = (h, tt)

when_plain : (a : Written) → WritesPlain a → WritesPlain (when a)
when_plain a h place = (tt, h (place + 1))

either_plain : (returns : Bool) (a b : Written) → WritesPlain a → WritesPlain b → WritesPlain
    (either returns a b)
either_plain returns a b h k place =
    let chosen = a (place + 1) in
    let l = place + 1 + length chosen + count_unless returns in
    let jump = unless returns (instr.Jump (l + length (b l))) l in (
      tt,
      all_both IsPlainDraft chosen (jump ++ b l) (h (place + 1))
          (all_both IsPlainDraft jump (b l) (unless_plain returns (instr.Jump (l + length (b l))) tt l)
          (k l)),
    )

-- what may not be there
abbrev MayWritePlain : Option Written → Type 0
MayWritePlain None = Unit {0}
MayWritePlain (Some write) = WritesPlain write

branch_plain : (returns : Bool) (a : Written) (o : Option Written) → WritesPlain a → MayWritePlain o
    → WritesPlain (branch returns a o)
branch_plain returns a None h k = when_plain a h
branch_plain returns a (Some b) h k = either_plain returns a b h k

unwrapped_plain : (o : Option Written) → MayWritePlain o → WritesPlain (unwrap_or o nothing)
unwrapped_plain None h = λ place. tt
unwrapped_plain (Some write) h = h

looped_plain : (returns : Bool) (test body : Written) → WritesPlain test → WritesPlain body
    → WritesPlain (looped returns test body)
looped_plain returns test body h k t =
    both_plain test (when (body >> unless returns (instr.Jump t))) h
    (when_plain (body >> unless returns (instr.Jump t))
    (both_plain body (unless returns (instr.Jump t)) k (unless_plain returns (instr.Jump t) tt))) t

turns_plain : (returns : Bool) (slot : ℕ) (body : Written) → WritesPlain body
    → WritesPlain (turns returns slot body)
turns_plain returns slot body h place = (
  tt,
  both_plain (does (instr.Look slot []))
      (does (instr.Store (slot + 2)) >> body >> unless returns (instr.ForStep slot (slot + 1) (place + 1)))
      (does_plain (instr.Look slot []) tt)
      (both_plain (does (instr.Store (slot + 2)))
      (body >> unless returns (instr.ForStep slot (slot + 1) (place + 1)))
      (does_plain (instr.Store (slot + 2)) tt)
      (both_plain body (unless returns (instr.ForStep slot (slot + 1) (place + 1))) h
      (unless_plain returns (instr.ForStep slot (slot + 1) (place + 1)) tt))) (place + 1),
)

lends_plain : (returns : Bool) (around slot : ℕ) (how : BorrowMode) (variable : Option Variable)
    (body : Written)
    → WritesPlain body → WritesPlain (lends returns around slot how variable body)
lends_plain returns around slot how variable body h =
    both_plain (given variable (λ x. does (instr.Bind x.number slot (mode_in how))))
    (body >> unless returns (instr.Close around))
    (given_plain variable (λ x. does (instr.Bind x.number slot (mode_in how)))
    (λ x e. does_plain (instr.Bind x.number slot (mode_in how)) tt))
    (both_plain body (unless returns (instr.Close around)) h (unless_plain returns (instr.Close around) tt))

-- arms
abbrev ArmsPlain : (ℕ → ArmsWritten) → Type 0
ArmsPlain all = (place : ℕ) → ArePlain (all place).code

arm_plain : (unneeded : Bool) (tag : Option ℕ) (body : Written) (others : ℕ → ArmsWritten) → WritesPlain body
    → ArmsPlain others → ArmsPlain (arm_then unneeded tag body others)
arm_plain unneeded tag body others h k place =
    let own = body place in
    let next = place + length own + count_unless unneeded in
    let rest = others next in
    let jump = unless unneeded (instr.Jump (next + length rest.code)) next in
    all_both IsPlainDraft own (jump ++ rest.code) (h place)
    (all_both IsPlainDraft jump rest.code
    (unless_plain unneeded (instr.Jump (next + length rest.code)) tt next) (k next))

cases_plain : (slot : ℕ) (all : ℕ → ArmsWritten) → ArmsPlain all → WritesPlain (cases slot all)
cases_plain slot all h place = (tt, h (place + 1))

-- ---- calls and leaves

ships_plain : (one : ShippedCall) (born : Option ClosedType) (order : List ℕ)
    → WritesPlain (ships_call one born order)
ships_plain (prim.Wrap op kind) born order place = (tt, tt)
ships_plain (prim.Convert kind) born order place = (tt, tt)
ships_plain other None order place = (tt, tt)
ships_plain other (Some of) order place = (tt, tt)

acts_plain : (act : Act ℕ) (order : List ℕ) → IsPlainAct act → WritesPlain (acts act order)
acts_plain (invokes function) order h = λ place. (tt, tt)
acts_plain (makes born tag home) order h = λ place. (h, tt)
acts_plain (ships one born) order h = ships_plain one born (unless_declared order)

calls_plain : (callee : Option (Callee ℕ)) (order : List Bytes → List ℕ)
    → ((one : Callee ℕ) → callee ≡ Some one → IsPlainAct one.act) → WritesPlain (calls callee order)
calls_plain callee order h =
    given_plain callee (λ one. acts one.act (order one.parameters)) (λ one e.
    acts_plain one.act (order one.parameters) (h one e))

literal_plain : (value : Value) → WritesPlain (literal value)
literal_plain values.unit place = (tt, tt)
literal_plain (values.truth b) place = (tt, tt)
literal_plain (values.number kind z) place = (tt, tt)
literal_plain (values.text t) place = (tt, tt)
literal_plain other place = tt

taken_plain : (free : Bool) (x : Variable) → WritesPlain (taken free x)
taken_plain true x place = (tt, tt)
taken_plain false x place = (tt, tt)

looked_plain : (o : Option Variable) (other : Written) → WritesPlain other → WritesPlain (looked_at o other)
looked_plain None other h = h
looked_plain (Some x) other h = taken_plain true x

borrows_plain : (how : BorrowMode) (x : Variable) → WritesPlain (borrows how x)
borrows_plain borrowing.Read x place = (tt, tt)
borrows_plain borrowing.Write x place = (tt, tt)
borrows_plain borrowing.Reborrow x place = (tt, tt)

closing_plain : (borrowed : Bool) (around : ℕ) → WritesPlain (closing borrowed around)
closing_plain true around place = (tt, tt)
closing_plain false around place = tt

-- ---- trees, in a view that names modules so

module _ {T C : Type 0} (see : View ℕ T C)
    (good : (note : T) (c : C) (name : Bytes) (one : Callee ℕ) → see.callee note c name ≡ Some one
    → IsPlainAct one.act) where
  integer_plain : (note : T) (z : ℤ) → WritesPlain (integer see note z)
  integer_plain note z =
      given_plain (kind_in (see.type_of note)) (λ kind. does (instr.Push kind z)) (λ kind e place. (tt, tt))

  mention_plain : (note : T) (o : Option Variable) (name : Bytes) → WritesPlain (mention see note o name)
  mention_plain note None name = given_plain (see.constant note name) literal (λ value e. literal_plain value)
  mention_plain note (Some x) name = taken_plain (see.is_free note) x

  part_plain : (variable : Option Variable) (names : List Bytes) (write : ℕ → List ℕ → Written)
      → ((slot : ℕ) (numbers : List ℕ) → WritesPlain (write slot numbers))
      → WritesPlain (part_of see variable names write)
  part_plain variable names write h =
      given_plain variable (λ x. given (numbers_along see x.of names) (write x.number)) (λ x e.
      given_plain (numbers_along see x.of names) (write x.number) (λ numbers f. h x.number numbers))

  behind_plain : (variable : Option Variable) (names : List Bytes) (write : ℕ → List ℕ → Written)
      → ((slot : ℕ) (numbers : List ℕ) → WritesPlain (write slot numbers))
      → WritesPlain (part_behind see variable names write)
  behind_plain variable names write h =
      given_plain variable (λ r. given (numbers_along see (target_behind r.of) names) (write r.number))
      (λ r e.
      given_plain (numbers_along see (target_behind r.of) names) (write r.number) (λ numbers f.
      h r.number numbers))

  joins_plain : (op : Operation) (all first : T) (a b : Written) → WritesPlain a → WritesPlain b
      → WritesPlain (joins see op all first a b)
  joins_plain is_and all first a b h k =
      both_plain a (either false b (does (instr.PushBool false))) h
      (either_plain false b (does (instr.PushBool false)) k (does_plain (instr.PushBool false) tt))
  joins_plain is_or all first a b h k =
      both_plain a (either false (does (instr.PushBool true)) b) h
      (either_plain false (does (instr.PushBool true)) b (does_plain (instr.PushBool true) tt) k)
  joins_plain (computes op) all first a b h k =
      let last = given (kind_in (see.type_of all)) (λ kind. does (instr.Arith op kind)) in
      both_plain a (b >> last) h
      (both_plain b last k
      (given_plain (kind_in (see.type_of all)) (λ kind. does (instr.Arith op kind))
      (λ kind e place. (tt, tt))))
  joins_plain (compares op) all first a b h k =
      let last = given (compared_kind (see.type_of first)) (λ kind. does (instr.Compare op kind)) in
      both_plain a (b >> last) h
      (both_plain b last k
      (given_plain (compared_kind (see.type_of first)) (λ kind. does (instr.Compare op kind)) (λ kind e place.
      (tt, tt))))

  mutual
    code_plain : (scope : Scope) (e : Expression Bytes T C) → WritesPlain (code see scope e)
    code_plain scope (number n l) = integer_plain n.note l.value
    code_plain scope (negative n l) = integer_plain n.note (neg_ℤ l.value)
    code_plain scope (text n t) = λ place. (tt, tt)
    code_plain scope (truth n b) = λ place. (tt, tt)
    code_plain scope (nil n) = λ place. (tt, tt)
    code_plain scope (path n x []) = mention_plain n.note (variable_of scope x.name) x.name
    code_plain scope (path n x (field ∷ fields)) =
        part_plain (variable_of scope x.name) (names_of (field ∷ fields)) (λ slot numbers.
        does (instr.Look slot numbers)) (λ slot numbers place. (tt, tt))
    code_plain scope (arrow n r fields) =
        behind_plain (variable_of scope r.name) (names_of fields)
        (λ slot numbers. does (instr.Read slot numbers))
        (λ slot numbers place. (tt, tt))
    code_plain scope (call n f args c) =
        both_plain (code_of_all see scope args) (calls (see.callee n.note c f.name) by_position)
        (all_code_plain scope args)
        (calls_plain (see.callee n.note c f.name) by_position (good n.note c f.name))
    code_plain scope (named_call n f args c) =
        both_plain (code_of_named see scope args)
        (calls (see.callee n.note c f.name) (by_labels (labels args)))
        (named_code_plain scope args)
        (calls_plain (see.callee n.note c f.name) (by_labels (labels args)) (good n.note c f.name))
    code_plain scope (parenthesized n e) = code_plain scope e
    code_plain scope (dereference n e) =
        both_plain (operand scope e (code see scope e)) (does instr.Deref)
        (looked_plain (alone scope e) (code see scope e) (code_plain scope e)) (does_plain instr.Deref tt)
    code_plain scope (borrow n how x) =
        given_plain (variable_of scope x.name) (borrows how) (λ one e. borrows_plain how one)
    code_plain scope (borrow_part n r fields) =
        behind_plain (variable_of scope r.name) (names_of fields)
        (λ slot numbers. does (instr.Part slot numbers))
        (λ slot numbers place. (tt, tt))
    code_plain scope (binary n op a b) =
        joins_plain (operation_of op) n.note (note_of a) (code see scope a) (code see scope b)
        (code_plain scope a) (code_plain scope b)
    code_plain scope (negation n e) =
        both_plain (code see scope e) (does instr.Not) (code_plain scope e) (does_plain instr.Not tt)
    code_plain scope (typed n e t) = code_plain scope e
    code_plain scope (choice n c a b) =
        both_plain (code see scope c) (either false (code see scope a) (code see scope b))
        (code_plain scope c)
        (either_plain false (code see scope a) (code see scope b) (code_plain scope a) (code_plain scope b))

    all_code_plain : (scope : Scope) (args : Expressions Bytes T C) → WritesPlain (code_of_all see scope args)
    all_code_plain scope no_expressions = λ place. tt
    all_code_plain scope (expressions e rest) =
        both_plain (code see scope e) (code_of_all see scope rest) (code_plain scope e)
        (all_code_plain scope rest)

    named_code_plain : (scope : Scope) (args : Arguments Bytes T C) → WritesPlain
        (code_of_named see scope args)
    named_code_plain scope no_arguments = λ place. tt
    named_code_plain scope (arguments label e rest) =
        both_plain (code see scope e) (code_of_named see scope rest) (code_plain scope e)
        (named_code_plain scope rest)

  whole_plain : (around : ℕ) (scope : Scope) (e : Expression Bytes T C) → WritesPlain
      (whole see around scope e)
  whole_plain around scope e =
      both_plain (code see scope e) (closing (opens e) around) (code_plain scope e)
      (closing_plain (opens e) around)

  -- a whole expression and an instruction
  then_plain : (around : ℕ) (scope : Scope) (e : Expression Bytes T C) (rest : Written) → WritesPlain rest
      → WritesPlain (whole see around scope e >> rest)
  then_plain around scope e rest h = both_plain (whole see around scope e) rest (whole_plain around scope e) h

  mutual
    statement_plain : (around slot : ℕ) (scope : Scope) (s : Statement Bytes T C)
        → WritesPlain (statement see around slot scope s)
    statement_plain around slot scope (skip at) = λ place. tt
    statement_plain around slot scope (declare at binding name t e) =
        then_plain around scope e (does (instr.Store slot)) (does_plain (instr.Store slot) tt)
    statement_plain around slot scope (destructure at binds e) =
        then_plain around scope e (does (instr.Take slot)) (does_plain (instr.Take slot) tt)
    statement_plain around slot scope (assign at x fields e) =
        then_plain around scope e
        (part_of see (variable_of scope x.name) (names_of fields) (λ s numbers. does (instr.Set s numbers)))
        (part_plain (variable_of scope x.name) (names_of fields) (λ s numbers. does (instr.Set s numbers))
        (λ s numbers place. (tt, tt)))
    statement_plain around slot scope (assign_through at r fields e) =
        then_plain around scope e
        (part_behind see (variable_of scope r.name) (names_of fields)
        (λ s numbers. does (instr.Put s numbers)))
        (behind_plain (variable_of scope r.name) (names_of fields) (λ s numbers. does (instr.Put s numbers))
        (λ s numbers place. (tt, tt)))
    statement_plain around slot scope (conditional at tests) =
        unwrapped_plain (tests_of see around slot scope tests None)
        (tests_plain around slot scope tests None tt)
    statement_plain around slot scope (conditional_else at tests other) =
        let last = Some (block see around slot scope other) in
        unwrapped_plain (tests_of see around slot scope tests last)
        (tests_plain around slot scope tests last (block_plain around slot scope other))
    statement_plain around slot scope (case_of at e all) =
        then_plain around scope e (cases slot (arms_of see around slot scope (note_of e) all))
        (cases_plain slot (arms_of see around slot scope (note_of e) all)
        (arms_plain around slot scope (note_of e) all))
    statement_plain around slot scope (while_loop at e body) =
        looped_plain (block_returns body) (whole see around scope e) (block see around slot scope body)
        (whole_plain around scope e) (block_plain around slot scope body)
    statement_plain around slot scope (for_loop at name first last body) =
        let inner = with_name name.name (slot + 2) (see.type_of (note_of first)) scope in
        let turn = turns (block_returns body) slot (block see around (slot + 3) inner body) in
        then_plain around scope first
        (does (instr.Store slot) >> whole see around scope last >> does (instr.Store (slot + 1)) >> turn)
        (both_plain (does (instr.Store slot))
        (whole see around scope last >> does (instr.Store (slot + 1)) >> turn)
        (does_plain (instr.Store slot) tt)
        (then_plain around scope last (does (instr.Store (slot + 1)) >> turn)
        (both_plain (does (instr.Store (slot + 1))) turn (does_plain (instr.Store (slot + 1)) tt)
        (turns_plain (block_returns body) slot (block see around (slot + 3) inner body)
        (block_plain around (slot + 3) inner body)))))
    statement_plain around slot scope (borrow_in at access x r region body stop) =
        let variable = variable_of scope x.name in
        let inner = with_reference (mode_of access) variable slot r.name scope in
        lends_plain (block_returns body) around slot (mode_of access) variable
        (block see (around + 1) (slot + 1) inner body) (block_plain (around + 1) (slot + 1) inner body)
    statement_plain around slot scope (borrow_typed at r t how x body stop) =
        let variable = variable_of scope x.name in
        let inner = with_reference how variable slot r.name scope in
        lends_plain (block_returns body) around slot how variable
        (block see (around + 1) (slot + 1) inner body) (block_plain (around + 1) (slot + 1) inner body)
    statement_plain around slot scope (discard at e) =
        then_plain around scope e (does instr.Discard) (does_plain instr.Discard tt)
    statement_plain around slot scope (return_of at e) =
        both_plain (code see scope e) (does instr.Return) (code_plain scope e) (does_plain instr.Return tt)

    pub block_plain : (around slot : ℕ) (scope : Scope) (all : Statements Bytes T C)
        → WritesPlain (block see around slot scope all)
    block_plain around slot scope no_statements = λ place. tt
    block_plain around slot scope (statements s rest) =
        both_plain (statement see around slot scope s)
        (block see around (slot + kept see s) (after see slot s scope) rest)
        (statement_plain around slot scope s)
        (block_plain around (slot + kept see s) (after see slot s scope) rest)

    tests_plain : (around slot : ℕ) (scope : Scope) (tests : Branches Bytes T C) (other : Option Written)
        → MayWritePlain other → MayWritePlain (tests_of see around slot scope tests other)
    tests_plain around slot scope no_branches other h = h
    tests_plain around slot scope (branches e body rest) other h =
        let more = tests_of see around slot scope rest other in
        then_plain around scope e (branch (block_returns body) (block see around slot scope body) more)
        (branch_plain (block_returns body) (block see around slot scope body) more
        (block_plain around slot scope body) (tests_plain around slot scope rest other h))

    arms_plain : (around slot : ℕ) (scope : Scope) (note : T) (all : Arms Bytes T C)
        → ArmsPlain (arms_of see around slot scope note all)
    arms_plain around slot scope note no_arms = λ place. tt
    arms_plain around slot scope note (arms at name binds body rest) =
        let fields = fields_of_case see note name.name in
        let inner = with_fields fields slot binds scope in
        arm_plain (block_returns body || is_last rest) (tag_told see note name.name)
        (block see around (slot + length fields) inner body) (arms_of see around slot scope note rest)
        (block_plain around (slot + length fields) inner body) (arms_plain around slot scope note rest)
