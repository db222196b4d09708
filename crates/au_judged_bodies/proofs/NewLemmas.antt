-- What is declared in a body is in no block that is open there, so it isn't in scope.
use Rattle.std.proofs.Common.{◌≡◌, ℕ, ◌+◌, Bool, List, [], ◌∷◌, ◌++◌, length, map, Option, Some, None, refl}
use Rattle.std.proofs.Common.{sym, ap}
use Rattle.std.proofs.Common.{subst, ◌∙◌, append_assoc, append-nil, if◌then◌else◌, true, false}
use Rattle.std.specs.Str.{bytes_eq}
use Rattle.au_base.specs.declared.places.Pos.{Pos}
use Rattle.au_base.proofs.TextLemmas.{bytes_same}
use Rattle.au_type_texts.specs.Types.{ClosedType}
use Rattle.au_meaning.specs.Expressions.{note_of}
use Rattle.au_meaning.specs.Meanings.{scope_of}
use Rattle.au_meaning.specs.Names.{Scope, Variable, bound_name, borrowed, mode_of, names_in, names_in_block}
use Rattle.au_meaning.specs.Names.{names_in_tests}
use Rattle.au_meaning.specs.Names.{type_in, variable_of, with_bound, with_name, with_parameters}
use Rattle.au_meaning.specs.Names.{with_reference}
use Rattle.au_meaning.specs.Statements.{after, fields_noted, fields_told, with_counter}
use Rattle.au_meaning.specs.Views.{Field, Function, View}
use Rattle.au_imports.specs.NameFaults.{given}
use Rattle.au_syntax.specs.Expressions.{Expression}
use Rattle.au_syntax.specs.Names.{Placed}
use Rattle.au_syntax.specs.Plain.{Bytes, plain_arms, plain_bound, plain_branches, plain_renaming}
use Rattle.au_syntax.specs.Plain.{plain_statement, plain_statements}
use Rattle.au_syntax.specs.Statements.{Statement, Statements, Branches, Arms, skip, declare, destructure}
use Rattle.au_syntax.specs.Statements.{assign, assign_through, conditional, conditional_else, case_of}
use Rattle.au_syntax.specs.Statements.{while_loop, for_loop, borrow_in, borrow_typed, discard, return_of}
use Rattle.au_syntax.specs.Statements.{no_statements, statements, no_branches, branches, no_arms, arms}
use Rattle.au_syntax.specs.Types.{Bound, Labelled}
use Rattle.au_rules.specs.declared.marks.Kind.{Kind}
use Rattle.au_rules.specs.declared.marks.Kind.TheVariants.{Types, Values}
use Rattle.au_rules.specs.declared.marks.Mark.{Mark}
use Rattle.au_rules.specs.declared.marks.Mark.TheVariants.{Opens, Declares}
use Rattle.au_rules.specs.declared.marks.Role.TheVariants.{Local}
use Rattle.au_rules.specs.Marks.{arm_marks, block_marks, bound_mark, branch_marks, enclosed, labelled_mark}
use Rattle.au_rules.specs.Marks.{region_marks, statement_marks}
use Rattle.au_rules.specs.Once.{AreNew, IsInBlock}
use Rattle.au_judged_bodies.specs.Parts as part
use Rattle.au_judged_bodies.proofs.NamesAheadStandLemmas.{of_field}
use Rattle.au_judged_bodies.specs.New.{IsNewIn, NamesAreNew}
use Rattle.au_judged_bodies.proofs.MarkLemmas.{Stays, neutral, neutral_all, neutral_stays, neutral_tests}
use Rattle.au_judged_bodies.proofs.MarkLemmas.{inner_new, left_new, neutral_binds, neutral_enclosed, neutral_join}
use Rattle.au_judged_bodies.proofs.MarkLemmas.{neutral_region, right_new, stays_on}
use Rattle.au_judged_bodies.proofs.MarkLemmas.{stays_open}

-- ---- what is in scope is in a block that is open

-- a name is declared, and its block is open still
pub record IsOpen (before : List Mark) (x : Bytes) : Type 0 where
  pub first : List Mark
  pub between : List Mark
  pub at : Pos
  pub splits : before ≡ first ++ Declares Local Values x at ∷ between
  pub stays : Stays between 0

abbrev Known : List Mark → Scope → Type 0
Known before scope = (x : Bytes) (v : Variable) → variable_of scope x ≡ Some v → IsOpen before x

open_later : (before ms : List Mark) (x : Bytes) → ((n : ℕ) → Stays ms n) → IsOpen before x
    → IsOpen (before ++ ms) x
open_later before ms x neutral here = record {
  first = here.first;
  between = here.between ++ ms;
  at = here.at;
  splits = ap (λ (xs : List Mark). xs ++ ms) here.splits
      ∙ append_assoc here.first (Declares Local Values x here.at ∷ here.between) ms;
  stays = stays_on here.between ms 0 here.stays neutral;
}

later : (before ms : List Mark) (scope : Scope) → ((n : ℕ) → Stays ms n) → Known before scope
    → Known (before ++ ms) scope
later before ms scope neutral known x v there = open_later before ms x neutral (known x v there)

-- one name more
named_too : (before : List Mark) (scope : Scope) (n : Bytes) (at : Pos) (number : ℕ) (of : Option ClosedType)
    → Known before scope → Known (before ++ Declares Local Values n at ∷ []) (with_name n number of scope)
named_too before scope n at number of known x v there = by (bytes_eq n x) refl there
  where
    by : (b : Bool) → bytes_eq n x ≡ b
        → (if b then Some (record { name = n; number = number; of = of }) else variable_of scope x) ≡ Some v
        → IsOpen (before ++ Declares Local Values n at ∷ []) x
    by true same there =
        subst (λ (y : Bytes). IsOpen (before ++ Declares Local Values n at ∷ []) y) (bytes_same n x same)
        (record { first = before; between = []; at = at; splits = refl; stays = tt })
    by false same there = open_later before (Declares Local Values n at ∷ []) x (λ m. tt) (known x v there)

-- a name that isn't declared again is new
fresh : (foreign : Kind → Bytes → Bool) (before : List Mark) (scope : Scope) (x : Bytes) (at : Pos)
    → Known before scope
    → AreNew foreign before (Declares Local Values x at ∷ []) → variable_of scope x ≡ None
fresh foreign before scope x at known new = by (variable_of scope x) refl
  where
    by : (o : Option Variable) → variable_of scope x ≡ o → variable_of scope x ≡ None
    by None is = is
    by (Some v) is =
        let one = known x v is in
        let there : IsInBlock before Values x =
        (one.first, one.between, one.at, one.splits, stays_open one.between one.stays)
        in
        let here = new [] [] Local Values x at refl in
        absurd (here.2 (subst (λ (ms : List Mark). IsInBlock ms Values x) (sym (append-nil before)) there))

-- the name of the variable to which a field is bound
same_given : (name : Placed Bytes) (alias : Option (Placed Bytes))
    → (given (plain_renaming (λ (b : Bytes). b) (record { name = name; alias = alias }))).name
    ≡ bound_name (record { name = name; alias = alias })
same_given name None = refl
same_given name (Some other) = refl

-- ---- a body

module _ (foreign : Kind → Bytes → Bool) {I T C : Type 0} (see : View I T C) where
  abbrev E : Scope → Expression Bytes T C → Type 0
  E scope e = Unit {0}

  abbrev N : ℕ → Scope → Bytes → Statements Bytes T C → Type 0
  N number scope x block = IsNewIn number scope x block

  abbrev marks_of : List (Bound Bytes) → List Mark
  marks_of binds = map bound_mark (map (plain_bound (λ (b : Bytes). b)) binds)

  bound : (fields : Option (List Field)) (number : ℕ) (scope : Scope) (binds : List (Bound Bytes))
      (block : Statements Bytes T C) (before : List Mark) → AreNew foreign before (marks_of binds)
      → Known before scope
      → part.EachBound see E N fields number scope binds block
      × Known (before ++ marks_of binds) (with_bound fields number binds scope)
  bound fields number scope [] block before new known =
      (tt, subst (λ (ms : List Mark). Known ms scope) (sym (append-nil before)) known)
  bound fields number scope (b ∷ rest) block before new known =
      let mark = bound_mark (plain_bound (λ (b : Bytes). b) b) in
      let at = (given (plain_renaming (λ (b : Bytes). b) b.name)).at in
      let more = with_bound fields number (b ∷ []) scope in
      let name = same_given b.name.name b.name.alias in
      let is : mark ≡ Declares Local Values (bound_name b.name) at = ap (λ
      (n : Bytes). Declares Local Values n at) name in
      let one = subst (λ (m : Mark). AreNew foreign before (m ∷ [])) is
      (left_new foreign before (mark ∷ []) (marks_of rest) new) in
      let known1 : Known (before ++ mark ∷ []) more =
      subst (λ (m : Mark). Known (before ++ m ∷ []) more) (sym is)
      (named_too before scope (bound_name b.name) at number (of_field fields b) known) in
      let others = bound fields (number + 1) more rest block (before ++ mark ∷ [])
      (right_new foreign before (mark ∷ []) (marks_of rest) new) known1 in (
        (fresh foreign before scope (bound_name b.name) at known one, others.0),
        subst (λ (ms : List Mark). Known ms (with_bound fields (number + 1) rest more))
            (append_assoc before (mark ∷ []) (marks_of rest)) others.1,
      )

  -- what is in scope stays so behind a statement
  goes : (s : Statement Bytes T C) (scope : Scope) (before : List Mark) → Known before scope
      → Known (before ++ statement_marks (plain_statement (λ (b : Bytes). b) s)) scope
  goes s scope before known =
      later before (statement_marks (plain_statement (λ (b : Bytes). b) s)) scope
      (neutral_stays (statement_marks (plain_statement (λ (b : Bytes). b) s))
      (neutral (plain_statement (λ (b : Bytes). b) s))) known

  -- what a statement declares for the rest of its block
  declares : (number : ℕ) (scope : Scope) (s : Statement Bytes T C) (rest : Statements Bytes T C)
      (before : List Mark)
      → AreNew foreign before (statement_marks (plain_statement (λ (b : Bytes). b) s)) → Known before scope
      → part.Declares see E N number scope s rest
      × Known (before ++ statement_marks (plain_statement (λ (b : Bytes). b) s)) (after see number s scope)
  unfolding statement_marks
  declares number scope (declare at binding x t e) rest before new known = (
    fresh foreign before scope x.name x.at known new,
    named_too before scope x.name x.at number (see.type_of (note_of e)) known,
  )
  declares number scope (destructure at binds e) rest before new known =
      bound (fields_noted see (note_of e)) number scope binds rest before new known
  declares number scope (skip at) rest before new known =
      (tt, later before [] scope (λ n. tt) known)
  declares number scope (assign at x fields e) rest before new known =
      (tt, later before [] scope (λ n. tt) known)
  declares number scope (assign_through at x fields e) rest before new known =
      (tt, later before [] scope (λ n. tt) known)
  declares number scope (conditional at tests) rest before new known =
      (tt, goes (conditional at tests) scope before known)
  declares number scope (conditional_else at tests block) rest before new known =
      (tt, goes (conditional_else at tests block) scope before known)
  declares number scope (case_of at e all) rest before new known = (
    tt,
    goes
        (case_of at e all) scope before known,
  )
  declares number scope (while_loop at e block) rest before new known =
      (tt, goes (while_loop at e block) scope before known)
  declares number scope (for_loop at x a z block) rest before new known =
      (tt, goes (for_loop at x a z block) scope before known)
  declares number scope (borrow_in at access x r region block stop) rest before new known =
      (tt, goes (borrow_in at access x r region block stop) scope before known)
  declares number scope (borrow_typed at r t m x block stop) rest before new known =
      (tt, goes (borrow_typed at r t m x block stop) scope before known)
  declares number scope (discard at e) rest before new known = (tt, later before [] scope (λ n. tt) known)
  declares number scope (return_of at e) rest before new known = (tt, later before [] scope (λ n. tt) known)

  abbrev marks_in : Statements Bytes T C → List Mark
  marks_in b = block_marks (plain_statements (λ (b : Bytes). b) b)

  mutual
    unfolding statement_marks

    go : (number : ℕ) (scope : Scope) (s : Statement Bytes T C) (before : List Mark)
        → AreNew foreign before (statement_marks (plain_statement (λ (b : Bytes). b) s)) → Known before scope
        → part.Each see E N number scope s
    go number scope (skip at) before new known = tt
    go number scope (declare at binding x t e) before new known = tt
    go number scope (destructure at binds e) before new known = tt
    go number scope (assign at x fields e) before new known = tt
    go number scope (assign_through at x fields e) before new known = tt
    go number scope (conditional at tests) before new known = go_tests number scope tests before new known
    go number scope (conditional_else at tests block) before new known =
        let ms = branch_marks (plain_branches (λ (b : Bytes). b) tests) in
        let behind = before ++ ms in (
          go_tests number scope tests before (left_new foreign before ms (enclosed
              (marks_in block)) new) known,
          go_all (number + names_in_tests tests) scope block (behind ++ Opens ∷ [])
              (inner_new foreign behind (marks_in block) (right_new foreign before ms (enclosed
              (marks_in block)) new))
              (later behind (Opens ∷ []) scope (λ n. tt)
              (later before ms scope
              (neutral_stays ms (neutral_tests (plain_branches (λ (b : Bytes). b) tests))) known)),
        )
    go number scope (case_of at e all) before new known = (
      tt,
      go_arms number scope
          (note_of e) all before new known,
    )
    go number scope (while_loop at e block) before new known = (
      tt,
      go_all number scope block (before ++ Opens ∷ []) (inner_new foreign before (marks_in block) new)
          (later before (Opens ∷ []) scope (λ n. tt) known),
    )
    go number scope (for_loop at x first last block) before new known =
        let mark = Declares Local Values x.name x.at in
        let inside = inner_new foreign before (mark ∷ marks_in block) new in
        let open1 = later before (Opens ∷ []) scope (λ n. tt) known in (
          tt,
          tt,
          fresh foreign (before ++ Opens ∷ []) scope x.name x.at open1
              (left_new foreign (before ++ Opens ∷ []) (mark ∷ []) (marks_in block) inside),
          go_all (number + 1) (with_counter see number x.name first scope) block
              ((before ++ Opens ∷ []) ++ mark ∷ [])
              (right_new foreign (before ++ Opens ∷ []) (mark ∷ []) (marks_in block) inside)
              (named_too (before ++ Opens ∷ []) scope x.name x.at number (see.type_of (note_of first)) open1),
        )
    go number scope (borrow_in at access x r region block stop) before new known =
        let mark = Declares Local Values r.name r.at in
        let place = Declares Local Types region.name region.at in
        let m = mode_of access in
        let of = borrowed m (type_in (variable_of scope x.name)) in
        let base = before ++ Opens ∷ [] in
        let inside = inner_new foreign before (mark ∷ (place ∷ marks_in block)) new in
        let open1 = later before (Opens ∷ []) scope (λ n. tt) known in
        let rest = right_new foreign base (mark ∷ []) (place ∷ marks_in block) inside in (
          fresh foreign base scope r.name r.at open1
              (left_new foreign base (mark ∷ []) (place ∷ marks_in block) inside),
          go_all (number + 1) (with_reference m (variable_of scope x.name) number r.name scope) block
              ((base ++ mark ∷ []) ++ place ∷ [])
              (right_new foreign (base ++ mark ∷ []) (place ∷ []) (marks_in block) rest)
              (later (base ++ mark ∷ []) (place ∷ []) (with_name r.name number of scope) (λ n. tt)
              (named_too base scope r.name r.at number of open1)),
        )
    go number scope (borrow_typed at r t m x block stop) before new known =
        let mark = Declares Local Values r.name r.at in
        let ms = region_marks t in
        let of = borrowed m (type_in (variable_of scope x.name)) in
        let base = before ++ Opens ∷ [] in
        let inside = inner_new foreign before ((mark ∷ ms) ++ marks_in block) new in
        let open1 = later before (Opens ∷ []) scope (λ n. tt) known in
        let rest = right_new foreign base (mark ∷ []) (ms ++ marks_in block) inside in (
          fresh foreign base scope r.name r.at open1
              (left_new foreign base (mark ∷ []) (ms ++ marks_in block) inside),
          go_all (number + 1) (with_reference m (variable_of scope x.name) number r.name scope) block
              ((base ++ mark ∷ []) ++ ms)
              (right_new foreign (base ++ mark ∷ []) ms (marks_in block) rest)
              (later (base ++ mark ∷ []) ms (with_name r.name number of scope) (neutral_stays ms
              (neutral_region t))
              (named_too base scope r.name r.at number of open1)),
        )
    go number scope (discard at e) before new known = tt
    go number scope (return_of at e) before new known = tt

    pub go_all : (number : ℕ) (scope : Scope) (b : Statements Bytes T C) (before : List Mark)
        → AreNew foreign before (block_marks (plain_statements (λ (b : Bytes). b) b)) → Known before scope
        → part.EachIn see E N number scope b
    go_all number scope no_statements before new known = tt
    go_all number scope (statements s rest) before new known =
        let ms = statement_marks (plain_statement (λ (b : Bytes). b) s) in
        let own = left_new foreign before ms (marks_in rest) new in
        let both = declares number scope s rest before own known in (
          go number scope s before own known,
          both.0,
          go_all (number + names_in s) (after see number s scope) rest (before ++ ms)
              (right_new foreign before ms (marks_in rest) new) both.1,
        )

    go_tests : (number : ℕ) (scope : Scope) (tests : Branches Bytes T C) (before : List Mark)
        → AreNew foreign before (branch_marks (plain_branches (λ (b : Bytes). b) tests)) → Known before scope
        → part.EachTest see E N number scope tests
    go_tests number scope no_branches before new known = tt
    go_tests number scope (branches e block rest) before new known =
        let ms = enclosed (marks_in block) in
        let others = branch_marks (plain_branches (λ (b : Bytes). b) rest) in (
          tt,
          go_all number scope block (before ++ Opens ∷ [])
              (inner_new foreign before (marks_in block) (left_new foreign before ms others new))
              (later before (Opens ∷ []) scope (λ n. tt) known),
          go_tests (number + names_in_block block) scope rest (before ++ ms)
              (right_new foreign before ms others new)
              (later before ms scope (neutral_stays ms
              (neutral_enclosed (marks_in block) (neutral_all (plain_statements (λ
              (b : Bytes). b) block)))) known),
        )

    go_arms : (number : ℕ) (scope : Scope) (note : T) (all : Arms Bytes T C) (before : List Mark)
        → AreNew foreign before (arm_marks (plain_arms (λ (b : Bytes). b) all)) → Known before scope
        → part.EachArm see E N number scope note all
    go_arms number scope note no_arms before new known = tt
    go_arms number scope note (arms at name binds block rest) before new known =
        let own = marks_of binds in
        let ms = own ++ marks_in block in
        let others = arm_marks (plain_arms (λ (b : Bytes). b) rest) in
        let base = before ++ Opens ∷ [] in
        let inside = inner_new foreign before ms (left_new foreign before (enclosed ms) others new) in
        let open1 = later before (Opens ∷ []) scope (λ n. tt) known in
        let neutral_ms = neutral_enclosed ms (neutral_join own (marks_in block)
        (neutral_binds (map (plain_bound (λ (b : Bytes). b)) binds))
        (neutral_all (plain_statements (λ (b : Bytes). b) block))) in (
          λ tag.
              let here = bound (fields_told see note tag) number scope binds block base
              (left_new foreign base own (marks_in block) inside) open1 in (
                here.0,
                go_all (number + length binds) (with_bound
                    (fields_told see note tag) number binds scope) block (base ++ own)
                    (right_new foreign base own (marks_in block) inside) here.1,
              ),
          go_arms (number + (length binds + names_in_block block)) scope note rest (before ++ enclosed ms)
              (right_new foreign before (enclosed ms) others new)
              (later before (enclosed ms) scope (neutral_stays (enclosed ms) neutral_ms) known),
        )

  parameters_new : (number : ℕ) (scope : Scope) (fields : List Field) (parameters : List (Labelled Bytes))
      (block : Statements Bytes T C) (before : List Mark)
      → map (λ (p : Labelled Bytes). p.name.name) parameters ≡ map (λ (p : Field). p.name) fields
      → AreNew foreign before (map (labelled_mark Values) parameters) → Known before scope
      → part.EachParameter see E N number scope fields block
      × Known (before ++ map (labelled_mark Values) parameters) (with_parameters number fields scope)
  parameters_new number scope [] [] block before same new known =
      (tt, subst (λ (ms : List Mark). Known ms scope) (sym (append-nil before)) known)
  parameters_new number scope [] (p ∷ parameters) block before same new known = absurd cc
  parameters_new number scope (f ∷ fields) [] block before same new known = absurd cc
  parameters_new number scope (f ∷ fields) (p ∷ parameters) block before same new known =
      let name : p.name.name ≡ f.name = cc in
      let names : map (λ (p : Labelled Bytes). p.name.name) parameters ≡ map (λ
      (p : Field). p.name) fields = cc in
      let mark = labelled_mark Values p in
      let others = map (labelled_mark Values) parameters in
      let more = with_name f.name number (Some f.of) scope in
      let is : mark ≡ Declares Local Values f.name p.name.at = ap (λ
      (n : Bytes). Declares Local Values n p.name.at) name in
      let one = subst (λ (m : Mark). AreNew foreign before (m ∷ [])) is (left_new foreign before
      (mark ∷ []) others new) in
      let known1 : Known (before ++ mark ∷ []) more =
      subst (λ (m : Mark). Known (before ++ m ∷ []) more) (sym is)
      (named_too before scope f.name p.name.at number (Some f.of) known) in
      let rest = parameters_new (number + 1) more fields parameters block (before ++ mark ∷ []) names
      (right_new foreign before (mark ∷ []) others new) known1 in (
        (fresh foreign before scope f.name p.name.at known one, rest.0),
        subst (λ (ms : List Mark). Known ms (with_parameters (number + 1) fields more))
            (append_assoc before (mark ∷ []) others) rest.1,
      )

pub names_new : {I T C : Type 0} (f : Function I T C) → NamesAreNew f
names_new f foreign before parameters same new =
    let given = map (labelled_mark Values) parameters in
    let body = block_marks (plain_statements (λ (b : Bytes). b) f.body) in
    let first = parameters_new foreign f.view f.first [] f.parameters parameters f.body before same
    (left_new foreign before given body new) (λ x v there. absurd cc) in (
      first.0,
      go_all foreign f.view (f.first + length f.parameters) (scope_of f) f.body (before ++ given)
          (right_new foreign before given body new) first.1,
    )
