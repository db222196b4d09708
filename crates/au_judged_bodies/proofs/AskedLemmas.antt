-- The statements of a good body are as they are asked besides the rules of typing, by induction on them.
use Rattle.std.proofs.Common.{◌≡◌, ◌⊎◌, inl, inr, ℕ, suc, ◌+◌, Bool, true, false, List, [], ◌∷◌, ◌++◌, length, map}
use Rattle.std.proofs.Common.{Some, Ok, Err, refl, sym, ap, subst, ◌∙◌, arith, if◌then◌else◌}
use Rattle.std.proofs.lemmas.List.{length-map}
use Rattle.au_judged_types.specs.Bounds.{Bounded}
use Rattle.au_judged_types.specs.Reasons.{Outcome, means, fails}
use Rattle.au_lives.specs.declared.lives.Sort.{Sort}
use Rattle.au_lives.specs.declared.lives.Sort.TheVariants as sort
use Rattle.au_lives.specs.Refusals as refusals
use Rattle.au_meaning.specs.Expressions.{note_of}
use Rattle.au_meaning.specs.Meanings.{scope_of}
use Rattle.au_meaning.specs.Names as meaning
use Rattle.au_meaning.specs.Names.{names_in, names_in_block, names_in_tests}
use Rattle.au_meaning.specs.Statements as meant
use Rattle.au_meaning.specs.Statements.{fields_told, with_counter}
use Rattle.au_meaning.specs.Views.{Field, Function, View}
use Rattle.au_names.specs.Importing.{given_name}
use Rattle.au_names.proofs.AmongLemmas.{Among, among-append_left, contains}
use Rattle.au_program_lives.specs.Scopes.{TypeScope, opened_by, opened_in}
use Rattle.au_program_lives.specs.Sorts.{held_sort, judged_sort, region_written, written_sort}
use Rattle.au_program_lives.specs.Variables.{bound_over, parameters_over, variables_after, variables_in}
use Rattle.au_program_lives.specs.Variables.{variable_over, variables_in_arms, variables_in_branches, variables_inside}
use Rattle.au_rules.specs.declared.marks.Kind.{Kind}
use Rattle.au_rules.specs.declared.marks.Kind.TheVariants.{Types, Values}
use Rattle.au_rules.specs.declared.marks.Mark.{Mark}
use Rattle.au_rules.specs.declared.marks.Mark.TheVariants.{Opens, Declares}
use Rattle.au_rules.specs.declared.marks.Role.TheVariants.{Local}
use Rattle.au_rules.specs.Marks.{arm_marks, block_marks, bound_mark, branch_marks, enclosed, labelled_mark}
use Rattle.au_rules.specs.Marks.{region_marks, statement_marks}
use Rattle.au_rules.specs.Once.{AreNew}
use Rattle.au_syntax.specs.declared.expressions.BorrowMode.{BorrowMode}
use Rattle.au_syntax.specs.Plain.{Bytes, PlainStatements, plain_arms, plain_bound, plain_branches, plain_statement}
use Rattle.au_syntax.specs.Statements.{skip, declare, destructure, assign, assign_through, conditional}
use Rattle.au_syntax.specs.Statements.{conditional_else, case_of, while_loop, for_loop, borrow_in, borrow_typed}
use Rattle.au_syntax.specs.Statements.{discard, return_of, no_statements, statements, no_branches, branches}
use Rattle.au_syntax.specs.Statements.{no_arms, arms}
use Rattle.au_syntax.specs.Types.{Bound, Labelled, WrittenType, named, reference}
use Rattle.au_types.specs.declared.types.Region.{Region}
use Rattle.au_types.specs.Types.{Meaning, writes}
use Rattle.au_typing.specs.Bodies.{generics_in, outer_scope, with_parameters, with_result}
use Rattle.au_typing.specs.Faults.{◌>>=◌, Noting}
use Rattle.au_typing.specs.InScope.{after, fixed_variable, is_var, with_bound, with_reference, with_typed}
use Rattle.au_typing.specs.InScope.{with_variable}
use Rattle.au_typing.specs.Lookups.{is_free_in, outcome_noted, written_means, written_type}
use Rattle.au_typing.specs.Notes.{Note, NotedExpression, type_of}
use Rattle.au_typing.specs.Parts.{borrow_type, lent, mode_for}
use Rattle.au_typing.specs.Scopes.{Scope}
use Rattle.au_typing.specs.Statements.{IsReference}
use Rattle.au_typing.specs.Trees.{NotedArms, NotedBranches, NotedStatement, NotedStatements}
use Rattle.au_judged_bodies.specs.Besides.{AreFineIn, Besides, BesidesAll, BesidesArms, BesidesTests, IsFineIn}
use Rattle.au_judged_bodies.specs.Besides.{IsNewRegion}
use Rattle.au_judged_bodies.specs.Texts.{arguments_by, arguments_by_arms, arguments_by_block, arguments_by_branches}
use Rattle.au_judged_bodies.specs.Texts.{arguments_in}
use Rattle.au_judged_bodies.specs.WrittenTypes.{types_bound, types_in_arms, types_in_block, types_in_branches}
use Rattle.au_judged_bodies.specs.WrittenTypes.{types_written}
use Rattle.au_judged_bodies.proofs.CoverLemmas.{Fits, begun_fits, behind, borrow_holds, left_of, lent_holds, one_of}
use Rattle.au_judged_bodies.proofs.CoverLemmas.{right_of, with_each, with_lent, with_one}
use Rattle.au_judged_bodies.specs.Kept as kept
use Rattle.au_judged_bodies.specs.Lived.{loose_by, may_drop}
use Rattle.au_judged_bodies.specs.Parts.{Each, EachArm, EachIn, EachTest}
use Rattle.au_judged_bodies.proofs.MarkLemmas.{inner_new, left_new, neutral, neutral_all, neutral_binds}
use Rattle.au_judged_bodies.proofs.MarkLemmas.{neutral_enclosed}
use Rattle.au_judged_bodies.proofs.MarkLemmas.{neutral_join, neutral_stays, neutral_tests, right_new, Stays}
use Rattle.au_judged_bodies.proofs.NumberLemmas.{AreSorted, many, many_bound, many_inside, many_tests, moved}
use Rattle.au_judged_bodies.proofs.NumberLemmas.{plain, plus_zero, sorted}
use Rattle.au_judged_bodies.specs.Said.{types_of}
use Rattle.au_judged_bodies.specs.LivedBodiesBodies.{sorts_in}
use Rattle.au_judged_bodies.proofs.LivedBodiesBodyLemmas.{bodies_ahead}
use Rattle.au_judged_bodies.specs.Asked.{BodiesAreAsked, MayDropGiven, ParametersMayDrop}
use Rattle.au_program_lives.specs.Scopes as judge
use Rattle.au_typing.specs.Scopes.{Outside}
use Rattle.au_syntax.specs.Modules.{Constrained, Header}
use Rattle.au_typing.specs.Bodies.{body_scope}
use Rattle.au_judged_bodies.proofs.KeptLemmas.{MayHandEach, hand_left, hand_right, keeps}
use Rattle.au_judged_bodies.proofs.RegionLemmas.{AreOpen, first_open, later, new_region, region_too}

-- ---- what may be dropped

-- a type that isn't Free asks for a life that may be dropped only where it is one of references that write
held_drops : (t : Meaning) → may_drop (held_sort t) ≡ true
    → (of : Meaning) × (region : Region) × (t ≡ writes of region)
held_drops (writes t region) drops = (t, region, refl)
held_drops other drops = absurd cc

-- a written type asks for such a life only where it may be dropped
written_drops : (sc : Scope) (t : WrittenType) (of : Meaning) → written_type sc t ≡ Ok of
    → may_drop (written_sort (types_of sc) t) ≡ true
    → (is_free_in sc of ≡ true) ⊎ ((to : Meaning) × (region : Region) × (of ≡ writes to region))
written_drops sc t of formed drops = by (written_means sc t) formed drops
  where
    free : (b : Bool) → is_free_in sc of ≡ b
        → may_drop (if b then sort.Free else held_sort of) ≡ true
        → (is_free_in sc of ≡ true) ⊎ ((to : Meaning) × (region : Region) × (of ≡ writes to region))
    free true is drops = inl is
    free false is drops = inr (held_drops of drops)

    by : (o : Outcome Meaning) → outcome_noted o ≡ Ok of → may_drop (judged_sort (types_of sc) o) ≡ true
        → (is_free_in sc of ≡ true) ⊎ ((to : Meaning) × (region : Region) × (of ≡ writes to region))
    by (means u) same drops =
        let one : u ≡ of = cc in
        free (is_free_in sc of) refl (subst (λ (m : Meaning). may_drop (judged_sort (types_of sc) (means m)) ≡ true) one
        drops)
    by (fails why) same drops = absurd cc

-- ---- scopes in which types are judged alike

typed_types : (name : Bytes) (assignable : Bool) (n : Noting Meaning) (sc : Scope)
    → types_of (with_typed name assignable n sc) ≡ types_of sc
typed_types name assignable (Ok t) sc = refl
typed_types name assignable (Err fault) sc = refl

bound_types : (binds : List (Bound Bytes)) (sc : Scope) → types_of (with_bound binds sc) ≡ types_of sc
bound_types [] sc = refl
bound_types (b ∷ rest) sc =
    bound_types rest (with_typed (given_name b.name) false (written_type sc b.of) sc)
    ∙ typed_types (given_name b.name) false (written_type sc b.of) sc

after_types : (s : NotedStatement) (sc : Scope) → types_of (after s sc) ≡ types_of sc
after_types (declare at binding x t e) sc = typed_types x.name (is_var binding) (written_type sc t) sc
after_types (destructure at binds e) sc = bound_types binds sc
after_types other sc = refl

-- ---- lists of variables

parts_sorted : (sorts : ℕ → Sort) (number : ℕ) (vs ws : List refusals.Variable)
    → AreSorted sorts number (vs ++ ws)
    → AreSorted sorts number vs × AreSorted sorts (number + length vs) ws
parts_sorted sorts number [] ws a = (tt, moved sorts number (number + 0) ws (plus_zero number) a)
parts_sorted sorts number (v ∷ vs) ws a =
    let rest = parts_sorted sorts (number + 1) vs ws a.1 in
    let same : (number + 1) + length vs ≡ number + suc (length vs) = omega arith in
    ((a.0, rest.0), moved sorts ((number + 1) + length vs) (number + suc (length vs)) ws same rest.1)

-- ---- statements

module _ (foreign : Kind → Bytes → Bool) {I : Type 0} (see : View I Note (Unit {0})) (sorts : ℕ → Sort)
    (may_hold may_hand : Meaning → Type 0) (outside : Outside) (generics : List Bounded)
    (references : (mode : BorrowMode) (region : Bytes) (t of : Meaning) → lent mode t ≡ Some of → may_hold t
    → may_hold (borrow_type mode region of)) where
  -- what is known of what names may hold in a scope, and of what is written there
  abbrev Held : Scope → List WrittenType → Type 0
  Held sc ws = Fits may_hold outside generics references sc ws

  abbrev K : meaning.Scope → NotedExpression → Type 0
  K scope e = kept.Keeps see scope e

  abbrev U : ℕ → meaning.Scope → Bytes → NotedStatements → Type 0
  U number scope x block = Unit {0}

  abbrev marks_in : NotedStatements → List Mark
  marks_in b = block_marks (plain b)

  abbrev marks_of : List (Bound Bytes) → List Mark
  marks_of binds = map bound_mark (map (plain_bound (λ (b : Bytes). b)) binds)

  -- a name of a written type
  drops : (number : ℕ) (sc : Scope) (ws : List WrittenType) → Held sc ws → (t : WrittenType) → Among t ws
      → sorts number ≡ written_sort (types_of sc) t
      → (of : Meaning) → written_type sc t ≡ Ok of → IsFineIn see (loose_by sorts) may_hold sc number of
  drops number sc ws held t there asked of formed = (
    λ may. written_drops sc t of formed (sym (ap may_drop asked) ∙ may),
    one_of may_hold outside generics references sc ws held t there of formed,
  )

  each_drops : (number : ℕ) (sc : Scope) (ws : List WrittenType) → Held sc ws → (block : PlainStatements)
      (binds : List (Bound Bytes)) → ((w : WrittenType) → Among w (types_bound binds) → Among w ws)
      → AreSorted sorts number (bound_over block (map (plain_bound (λ (b : Bytes). b)) binds) (types_of sc))
      → AreFineIn see (loose_by sorts) may_hold sc number binds
  each_drops number sc ws held block [] are asked = tt
  each_drops number sc ws held block (b ∷ rest) are asked =
      let next : number + 1 ≡ suc number = omega arith in (
        drops number sc ws held b.of (are b.of (inl refl)) asked.0,
        subst (λ (n : ℕ). AreFineIn see (loose_by sorts) may_hold sc n rest) next
            (each_drops (number + 1) sc ws held block rest (λ w there. are w (inr there)) asked.1),
      )

  -- what is inside of a statement comes behind what it declares, of which there is none where something is inside
  inside_at : (number : ℕ) (s : NotedStatement) (rest : PlainStatements) (sc : TypeScope)
      → AreSorted sorts (number + length (variables_after (plain_statement (λ (b : Bytes). b) s) rest sc))
      (variables_inside (plain_statement (λ (b : Bytes). b) s) sc)
      → AreSorted sorts number (variables_inside (plain_statement (λ (b : Bytes). b) s) sc)
  inside_at number (declare at binding x t e) rest sc a = tt
  inside_at number (destructure at binds e) rest sc a = tt
  inside_at number other rest sc a =
      moved sorts (number + 0) number (variables_inside (plain_statement (λ (b : Bytes). b) other) sc)
      (sym (plus_zero number)) a

  -- what is asked of a block where types are judged alike
  abbrev Alike : ℕ → PlainStatements → Scope → TypeScope → List Mark → Type 0
  Alike number block sc ts before = AreSorted sorts number (variables_in block (types_of sc)) × AreOpen before
      (types_of sc)

  alike : (number : ℕ) (block : PlainStatements) (sc : Scope) (ts : TypeScope) (before : List Mark) → types_of sc ≡ ts
      → AreSorted sorts number (variables_in block ts) → AreOpen before ts → Alike number block sc ts before
  alike number block sc ts before same asked open1 = (
    subst (λ (t : TypeScope). AreSorted sorts number (variables_in block t)) (sym same) asked,
    subst (λ (t : TypeScope). AreOpen before t) (sym same) open1,
  )

  -- What is known in the block of a borrow statement with a written type, whose region is new.
  record Opened (number : ℕ) (block : NotedStatements) (sc : Scope) (region : Bytes) : Type 0 where
    pub new : IsNewRegion sc region
    pub before : List Mark
    pub marks : AreNew foreign before (marks_in block)
    pub open1 : AreOpen before (opened_in region (types_of sc))
    pub asked : AreSorted sorts (number + 1) (variables_in (plain block) (opened_in region (types_of sc)))

  opens : (number : ℕ) (t : WrittenType) (region : Bytes) (of : Meaning) (block : NotedStatements) (sc : Scope)
      (before : List Mark) → IsReference sc t region of
      → AreNew foreign before (region_marks t ++ marks_in block) → AreOpen before (types_of sc)
      → AreSorted sorts (number + 1) (variables_in (plain block) (opened_by (region_written t) (types_of sc)))
      → Opened number block sc region
  opens number (named name args) region of block sc before is new open1 asked = absurd is
  opens number (reference at access target name) region of block sc before is new open1 asked =
      let place = Declares Local Types name.name name.at in
      subst (λ (y : Bytes). Opened number block sc y) is.2
      (record {
        new = new_region foreign before (types_of sc) name.name name.at open1
            (left_new foreign before (place ∷ []) (marks_in block) new);
        before = before ++ place ∷ [];
        marks = right_new foreign before (place ∷ []) (marks_in block) new;
        open1 = region_too before (types_of sc) name.name name.at open1;
        asked = asked;
      })

  mutual
    unfolding statement_marks

    go : (number : ℕ) (scope : meaning.Scope) (s : NotedStatement) (rest : PlainStatements) (sc : Scope)
        (before : List Mark) → Held sc (types_written s)
        → AreNew foreign before (statement_marks (plain_statement (λ (b : Bytes). b) s))
        → AreOpen before (types_of sc)
        → AreSorted sorts number (variables_after (plain_statement (λ (b : Bytes). b) s) rest (types_of sc))
        → AreSorted sorts number (variables_inside (plain_statement (λ (b : Bytes). b) s) (types_of sc))
        → Each see K U number scope s → MayHandEach may_hand (arguments_by s) → Besides see (loose_by sorts) may_hold
        may_hand number sc scope s
    go number scope (skip at) rest sc before held new open1 own asked each hands = tt
    go number scope (declare at binding x t e) rest sc before held new open1 own asked each hands =
        (keeps see may_hand scope e each hands, drops number sc (t ∷ []) held t (inl refl) own.0)
    go number scope (destructure at binds e) rest sc before held new open1 own asked each hands = (
      keeps see may_hand scope e each hands,
      each_drops number sc (types_bound binds) held rest binds
          (λ w there. there) own,
    )
    go number scope (assign at x fields e) rest sc before held new open1 own asked each hands = keeps see may_hand
        scope e each hands
    go number scope (assign_through at x fields e) rest sc before held new open1 own asked each hands = keeps see
        may_hand scope e each hands
    go number scope (conditional at tests) rest sc before held new open1 own asked each hands =
        go_tests number scope tests sc before held new open1 asked each hands
    go number scope (conditional_else at tests block) rest sc before held new open1 own asked each hands =
        let ms = branch_marks (plain_branches (λ (b : Bytes). b) tests) in
        let ahead = before ++ ms in
        let vs = variables_in_branches (plain_branches (λ (b : Bytes). b) tests) (types_of sc) in
        let both = parts_sorted sorts number vs (variables_in (plain block) (types_of sc)) asked in (
          go_tests number scope tests sc before
              (left_of may_hold outside generics references sc (types_in_branches tests) (types_in_block block) held)
              (left_new foreign before ms (enclosed (marks_in block)) new) open1 both.0 each.0
              (hand_left may_hand (arguments_by_branches tests) (arguments_by_block block) hands),
          go_all (number + names_in_tests tests) scope block sc (ahead ++ Opens ∷ [])
              (right_of may_hold outside generics references sc (types_in_branches tests) (types_in_block block) held)
              (inner_new foreign ahead (marks_in block) (right_new foreign before ms (enclosed (marks_in block)) new))
              (later ahead (Opens ∷ []) (types_of sc) (λ n. tt)
              (later before ms (types_of sc)
              (neutral_stays ms (neutral_tests (plain_branches (λ (b : Bytes). b) tests))) open1))
              (moved sorts (number + length vs) (number + names_in_tests tests) (variables_in (plain block)
              (types_of sc))
              (ap (λ (n : ℕ). number + n) (many_tests tests (types_of sc))) both.1)
              each.1 (hand_right may_hand (arguments_by_branches tests) (arguments_by_block block) hands),
        )
    go number scope (case_of at e all) rest sc before held new open1 own asked each hands = (
      keeps see may_hand scope e each.0 (hand_left may_hand (arguments_in e) (arguments_by_arms all) hands),
      go_arms number scope (note_of e) all sc before held new open1 asked each.1
          (hand_right may_hand (arguments_in e) (arguments_by_arms all) hands),
    )
    go number scope (while_loop at e block) rest sc before held new open1 own asked each hands = (
      keeps see may_hand scope e each.0 (hand_left may_hand (arguments_in e) (arguments_by_block block) hands),
      go_all number scope block sc (before ++ Opens ∷ []) held (inner_new foreign before (marks_in block) new)
          (later before (Opens ∷ []) (types_of sc) (λ n. tt) open1) asked each.1
          (hand_right may_hand (arguments_in e) (arguments_by_block block) hands),
    )
    go number scope (for_loop at x first last block) rest sc before held new open1 own asked each hands =
        let mark = Declares Local Values x.name x.at in
        let base = before ++ Opens ∷ [] in
        let inside = inner_new foreign before (mark ∷ marks_in block) new in
        let ends = hand_left may_hand (arguments_in first ++ arguments_in last) (arguments_by_block block) hands in (
          keeps see may_hand scope first each.0 (hand_left may_hand (arguments_in first) (arguments_in last) ends),
          keeps see may_hand scope last each.1 (hand_right may_hand (arguments_in first) (arguments_in last) ends),
          λ may. go_all (number + 1) (with_counter see number x.name first scope) block
              (with_variable (fixed_variable x.name (type_of first)) sc) (base ++ mark ∷ [])
              (with_one may_hold outside generics references sc (types_in_block block)
              (fixed_variable x.name (type_of first)) may held)
              (right_new foreign base (mark ∷ []) (marks_in block) inside)
              (later base (mark ∷ []) (types_of sc) (λ n. tt) (later before (Opens ∷ []) (types_of sc) (λ n. tt) open1))
              asked.1 each.3
              (hand_right may_hand (arguments_in first ++ arguments_in last) (arguments_by_block block) hands),
        )
    go number scope (borrow_in at a x r region block stop) rest sc before held new open1 own asked each hands =
        let mark = Declares Local Values r.name r.at in
        let place = Declares Local Types region.name region.at in
        let base = before ++ Opens ∷ [] in
        let inside = inner_new foreign before (mark ∷ (place ∷ marks_in block)) new in
        let others = right_new foreign base (mark ∷ []) (place ∷ marks_in block) inside in
        let open2 = later base (mark ∷ []) (types_of sc) (λ n. tt)
        (later before (Opens ∷ []) (types_of sc) (λ n. tt) open1) in (
          new_region foreign (base ++ mark ∷ []) (types_of sc) region.name region.at open2
              (left_new foreign (base ++ mark ∷ []) (place ∷ []) (marks_in block) others),
          λ of lends. (
            lent_holds may_hold outside generics references sc (types_in_block block) held (mode_for a) x.name
                region.name of lends,
            go_all (number + 1)
                (meaning.with_reference (meaning.mode_of a) (meaning.variable_of scope x.name) number r.name scope)
                block
                (with_reference r.name region.name (borrow_type (mode_for a) region.name of) sc)
                ((base ++ mark ∷ []) ++ place ∷ [])
                (with_lent may_hold outside generics references sc (types_in_block block) r.name region.name
                (borrow_type (mode_for a) region.name of)
                (lent_holds may_hold outside generics references sc (types_in_block block) held (mode_for a) x.name
                region.name of lends)
                held)
                (right_new foreign (base ++ mark ∷ []) (place ∷ []) (marks_in block) others)
                (region_too (base ++ mark ∷ []) (types_of sc) region.name region.at open2) asked.1 each.1 hands,
          ),
        )
    go number scope (borrow_typed at r t m x block stop) rest sc before held new open1 own asked each hands =
        let mark = Declares Local Values r.name r.at in
        let base = before ++ Opens ∷ [] in
        let ms = region_marks t in
        let inside = inner_new foreign before ((mark ∷ ms) ++ marks_in block) new in
        let others = right_new foreign base (mark ∷ []) (ms ++ marks_in block) inside in
        let open2 = later base (mark ∷ []) (types_of sc) (λ n. tt)
        (later before (Opens ∷ []) (types_of sc) (λ n. tt) open1) in
        λ region of good.
        let inner = opens number t region of block sc (base ++ mark ∷ []) good.written others open2 asked.1 in
        let behind_it = right_of may_hold outside generics references sc (t ∷ []) (types_in_block block) held in
        let may = borrow_holds may_hold outside generics references sc (types_in_block block) behind_it t m x.name
        region of good in (
          inner.new,
          may,
          go_all (number + 1) (meaning.with_reference m (meaning.variable_of scope x.name) number r.name scope) block
              (with_reference r.name region of sc) inner.before
              (with_lent may_hold outside generics references sc (types_in_block block) r.name region of may behind_it)
              inner.marks inner.open1 inner.asked each.1 hands,
        )
    go number scope (discard at e) rest sc before held new open1 own asked each hands = keeps see may_hand scope e
        each hands
    go number scope (return_of at e) rest sc before held new open1 own asked each hands = keeps see may_hand scope e
        each hands

    pub go_all : (number : ℕ) (scope : meaning.Scope) (b : NotedStatements) (sc : Scope) (before : List Mark)
        → Held sc (types_in_block b)
        → AreNew foreign before (marks_in b) → AreOpen before (types_of sc)
        → AreSorted sorts number (variables_in (plain b) (types_of sc)) → EachIn see K U number scope b
        → MayHandEach may_hand (arguments_by_block b)
        → BesidesAll see (loose_by sorts) may_hold may_hand number sc scope b
    go_all number scope no_statements sc before held new open1 asked each hands = tt
    go_all number scope (statements s rest) sc before held new open1 asked each hands =
        let ms = statement_marks (plain_statement (λ (b : Bytes). b) s) in
        let own = variables_after (plain_statement (λ (b : Bytes). b) s) (plain rest) (types_of sc) in
        let inside = variables_inside (plain_statement (λ (b : Bytes). b) s) (types_of sc) in
        let others = variables_in (plain rest) (types_of sc) in
        let first = parts_sorted sorts number own (inside ++ others) asked in
        let second = parts_sorted sorts (number + length own) inside others first.1 in
        let same : (number + length own) + length inside ≡ number + names_in s =
        let one = many_inside s (plain rest) (types_of sc) in omega (arith, one) in
        let beyond = alike (number + names_in s) (plain rest) (after s sc) (types_of sc) (before ++ ms)
        (after_types s sc)
        (moved sorts ((number + length own) + length inside) (number + names_in s) others same second.1)
        (later before ms (types_of sc) (neutral_stays ms (neutral (plain_statement (λ (b : Bytes). b) s))) open1) in (
          go number scope s (plain rest) sc before
              (left_of may_hold outside generics references sc (types_written s) (types_in_block rest) held)
              (left_new foreign before ms (marks_in rest) new) open1 first.0
              (inside_at number s (plain rest) (types_of sc) second.0) each.0
              (hand_left may_hand (arguments_by s) (arguments_by_block rest) hands),
          go_all (number + names_in s) (meant.after see number s scope) rest (after s sc) (before ++ ms)
              (behind may_hold outside generics references s sc (types_in_block rest) held)
              (right_new foreign before ms (marks_in rest) new) beyond.1 beyond.0 each.2
              (hand_right may_hand (arguments_by s) (arguments_by_block rest) hands),
        )

    go_tests : (number : ℕ) (scope : meaning.Scope) (tests : NotedBranches) (sc : Scope) (before : List Mark)
        → Held sc (types_in_branches tests)
        → AreNew foreign before (branch_marks (plain_branches (λ (b : Bytes). b) tests)) → AreOpen before (types_of sc)
        → AreSorted sorts number (variables_in_branches (plain_branches (λ (b : Bytes). b) tests) (types_of sc))
        → EachTest see K U number scope tests → MayHandEach may_hand (arguments_by_branches tests)
        → BesidesTests see (loose_by sorts) may_hold may_hand number sc scope tests
    go_tests number scope no_branches sc before held new open1 asked each hands = tt
    go_tests number scope (branches e block rest) sc before held new open1 asked each hands =
        let ms = enclosed (marks_in block) in
        let others = branch_marks (plain_branches (λ (b : Bytes). b) rest) in
        let vs = variables_in (plain block) (types_of sc) in
        let ws = variables_in_branches (plain_branches (λ (b : Bytes). b) rest) (types_of sc) in
        let both = parts_sorted sorts number vs ws asked in
        let mine = hand_left may_hand (arguments_in e ++ arguments_by_block block) (arguments_by_branches rest) hands
        in (
          keeps see may_hand scope e each.0 (hand_left may_hand (arguments_in e) (arguments_by_block block) mine),
          go_all number scope block sc (before ++ Opens ∷ [])
              (left_of may_hold outside generics references sc (types_in_block block) (types_in_branches rest) held)
              (inner_new foreign before (marks_in block) (left_new foreign before ms others new))
              (later before (Opens ∷ []) (types_of sc) (λ n. tt) open1) both.0 each.1
              (hand_right may_hand (arguments_in e) (arguments_by_block block) mine),
          go_tests (number + names_in_block block) scope rest sc (before ++ ms)
              (right_of may_hold outside generics references sc (types_in_block block) (types_in_branches rest) held)
              (right_new foreign before ms others new)
              (later before ms (types_of sc)
              (neutral_stays ms (neutral_enclosed (marks_in block) (neutral_all (plain block)))) open1)
              (moved sorts (number + length vs) (number + names_in_block block) ws
              (ap (λ (n : ℕ). number + n) (many block (types_of sc))) both.1)
              each.2 (hand_right may_hand (arguments_in e ++ arguments_by_block block) (arguments_by_branches rest)
              hands),
        )

    go_arms : (number : ℕ) (scope : meaning.Scope) (note : Note) (all : NotedArms) (sc : Scope) (before : List Mark)
        → Held sc (types_in_arms all)
        → AreNew foreign before (arm_marks (plain_arms (λ (b : Bytes). b) all)) → AreOpen before (types_of sc)
        → AreSorted sorts number (variables_in_arms (plain_arms (λ (b : Bytes). b) all) (types_of sc))
        → EachArm see K U number scope note all → MayHandEach may_hand (arguments_by_arms all)
        → BesidesArms see (loose_by sorts) may_hold may_hand number sc scope note all
    go_arms number scope note no_arms sc before held new open1 asked each hands = tt
    go_arms number scope note (arms at name binds block rest) sc before held new open1 asked each hands =
        let here_held = left_of may_hold outside generics references sc (types_bound binds ++ types_in_block block)
        (types_in_arms rest) held in
        let mine = marks_of binds in
        let ms = mine ++ marks_in block in
        let base = before ++ Opens ∷ [] in
        let left = arm_marks (plain_arms (λ (b : Bytes). b) rest) in
        let inside = inner_new foreign before ms (left_new foreign before (enclosed ms) left new) in
        let neutral_mine = neutral_binds (map (plain_bound (λ (b : Bytes). b)) binds) in
        let neutral_ms = neutral_enclosed ms (neutral_join mine (marks_in block) neutral_mine
        (neutral_all (plain block))) in
        let own = bound_over (plain block) (map (plain_bound (λ (b : Bytes). b)) binds) (types_of sc) in
        let vs = variables_in (plain block) (types_of sc) in
        let ws = variables_in_arms (plain_arms (λ (b : Bytes). b) rest) (types_of sc) in
        let first = parts_sorted sorts number own (vs ++ ws) asked in
        let second = parts_sorted sorts (number + length own) vs ws first.1 in
        let here : number + length own ≡ number + length binds =
        ap (λ (n : ℕ). number + n) (many_bound (plain block) binds (types_of sc)) in
        let there : (number + length own) + length vs ≡ number + (length binds + names_in_block block) =
        let inner = many block (types_of sc) in
        let bounds = many_bound (plain block) binds (types_of sc) in omega (arith, inner, bounds) in
        let within = alike (number + length binds) (plain block) (with_bound binds sc) (types_of sc) (base ++ mine)
        (bound_types binds sc)
        (moved sorts (number + length own) (number + length binds) vs here second.0)
        (later base mine (types_of sc) (neutral_stays mine neutral_mine)
        (later before (Opens ∷ []) (types_of sc) (λ n. tt) open1)) in (
          each_drops number sc (types_bound binds ++ types_in_block block) here_held (plain block) binds
              (among-append_left (types_bound binds) (types_in_block block)) first.0,
          λ tag.
              go_all (number + length binds) (meaning.with_bound (fields_told see note tag) number binds scope) block
              (with_bound binds sc) (base ++ mine)
              (right_of may_hold outside generics references (with_bound binds sc) (types_bound binds)
              (types_in_block block)
              (with_each may_hold outside generics references binds sc (types_bound binds ++ types_in_block block)
              (among-append_left (types_bound binds) (types_in_block block)) here_held))
              (right_new foreign base mine (marks_in block) inside) within.1
              within.0 (each.0 tag).1 (hand_left may_hand (arguments_by_block block) (arguments_by_arms rest) hands),
          go_arms (number + (length binds + names_in_block block)) scope note rest sc (before ++ enclosed ms)
              (right_of may_hold outside generics references sc (types_bound binds ++ types_in_block block)
              (types_in_arms rest) held)
              (right_new foreign before (enclosed ms) left new)
              (later before (enclosed ms) (types_of sc) (neutral_stays (enclosed ms) neutral_ms) open1)
              (moved sorts ((number + length own) + length vs) (number + (length binds + names_in_block block)) ws there
              second.1)
              each.1 (hand_right may_hand (arguments_by_block block) (arguments_by_arms rest) hands),
        )

-- ---- the scope of a body

parameters_types : (parameters : List (Labelled Bytes)) (sc more : Scope) → with_parameters parameters sc ≡ Ok more
    → types_of more ≡ types_of sc
parameters_types [] sc more formed =
    let is : sc ≡ more = cc in ap types_of (sym is)
parameters_types (p ∷ rest) sc more formed =
    by (written_type sc p.of) formed (λ t. parameters_types rest (with_variable (fixed_variable p.name.name t) sc) more)
  where
    by : (n : Noting Meaning)
        → (n >>= (λ of. with_parameters rest (with_variable (fixed_variable p.name.name of) sc))) ≡ Ok more
        → ((t : Meaning) → with_parameters rest (with_variable (fixed_variable p.name.name t) sc) ≡ Ok more
        → types_of more ≡ types_of sc)
        → types_of more ≡ types_of sc
    by (Ok t) formed others = others t formed
    by (Err fault) formed others = absurd cc

result_types : (mid more : Scope) (n : Noting Meaning) → (n >>= (λ of. Ok (record mid { result = of }))) ≡ Ok more
    → types_of more ≡ types_of mid
result_types mid more (Ok of) formed =
    let is : record mid { result = of } ≡ more = cc in ap types_of (sym is)
result_types mid more (Err fault) formed = absurd cc

body_types : (n : Noting Scope) (t : WrittenType) (outer more : Scope)
    → ((mid : Scope) → n ≡ Ok mid → types_of mid ≡ types_of outer) → (n >>= (λ sc. with_result t sc)) ≡ Ok more
    → types_of more ≡ types_of outer
body_types (Ok mid) t outer more before formed =
    result_types mid more (written_type mid t) formed ∙ before mid refl
body_types (Err fault) t outer more before formed = absurd cc

params_neutral : (parameters : List (Labelled Bytes)) (n : ℕ) → Stays (map (labelled_mark Values) parameters) n
params_neutral [] n = tt
params_neutral (p ∷ rest) n = params_neutral rest n

pub bodies_asked : {I : Type 0} (f : Function I Note (Unit {0})) (may_hold may_hand : Meaning → Type 0)
    → BodiesAreAsked f may_hold may_hand
bodies_asked f may_hold may_hand outside generics header is declared covers =
    let outer = outer_scope outside (generics_in outside generics) in
    let sorts = λ (k : ℕ). sorts_in f outside generics header k in
    let vs = parameters_over (plain f.body) header.parameters (types_of outer) in
    let ws = variables_in (plain f.body) (types_of outer) in
    let both = parts_sorted sorts f.first vs ws (sorted f.first (vs ++ ws)) in
    let count : length vs ≡ length f.parameters =
    length-map header.parameters
    (λ (p : Labelled Bytes). variable_over (plain f.body) p.name (written_sort (types_of outer) p.of))
    ∙ (sym (length-map header.parameters (λ (p : Labelled Bytes). p.name.name))
    ∙ (ap (λ (ns : List Bytes). length ns) is.parameters ∙ length-map f.parameters (λ (p : Field). p.name))) in
    let given = map (labelled_mark Values) header.parameters in
    let body = block_marks (plain f.body) in
    let number = f.first + length f.parameters in
    let held = begun_fits may_hold outside (generics_in outside generics) covers.references header.parameters
    header.result
    is.body.scope (types_in_block f.body)
    (λ p there. covers.given p (contains header.parameters p there))
    (λ w there. covers.written w (contains (types_in_block f.body) w there)) is.body.formed in
    let begins = alike is.foreign f.view sorts may_hold may_hand outside (generics_in outside generics)
    covers.references number (plain f.body) is.body.scope (types_of outer) (is.before ++ given)
    (body_types (with_parameters header.parameters outer) header.result outer is.body.scope
    (λ mid formed. parameters_types header.parameters outer mid formed) is.body.formed)
    (moved sorts (f.first + length vs) number ws (ap (λ (n : ℕ). f.first + n) count) both.1)
    (later is.before given (types_of outer) (params_neutral header.parameters)
    (first_open is.before outside generics declared)) in
    go_all is.foreign f.view sorts may_hold may_hand outside (generics_in outside generics) covers.references number
    (scope_of f)
    f.body is.body.scope (is.before ++ given) held
    (right_new is.foreign is.before given body is.new) begins.1 begins.0
    (bodies_ahead f outside generics header is).2
    (λ e there. covers.handed e (contains (arguments_by_block f.body) e there))

-- ---- parameters

given_drop : (sorts : ℕ → Sort) (number : ℕ) (sc : Scope) (body : PlainStatements) (ps : List (Labelled Bytes))
    → AreSorted sorts number (parameters_over body ps (types_of sc))
    → MayDropGiven (loose_by sorts) sc number ps
given_drop sorts number sc body [] asked = tt
given_drop sorts number sc body (p ∷ rest) asked = (
  λ may of formed. written_drops sc p.of of formed (sym (ap may_drop asked.0) ∙ may),
  given_drop sorts (number + 1) sc body rest asked.1,
)

pub parameters_drop : {I : Type 0} (f : Function I Note (Unit {0})) → ParametersMayDrop f
parameters_drop f outside generics header =
    let outer = outer_scope outside (generics_in outside generics) in
    let sorts = λ (k : ℕ). sorts_in f outside generics header k in
    let vs = parameters_over (plain f.body) header.parameters (types_of outer) in
    let ws = variables_in (plain f.body) (types_of outer) in
    given_drop sorts f.first outer (plain f.body) header.parameters
    (parts_sorted sorts f.first vs ws (sorted f.first (vs ++ ws))).0

-- ---- the scope of a body judges types as the one outside of it

pub scope_types : (outside : Outside) (generics : List (Constrained Bytes)) (header : Header Bytes) (scope : Scope)
    → body_scope outside generics header ≡ Ok scope
    → types_of scope ≡ types_of (outer_scope outside (generics_in outside generics))
scope_types outside generics header scope formed =
    body_types (with_parameters header.parameters (outer_scope outside (generics_in outside generics))) header.result
    (outer_scope outside (generics_in outside generics)) scope
    (λ mid formed. parameters_types header.parameters (outer_scope outside (generics_in outside generics)) mid formed)
    formed

-- and its result is what is written
pub scope_result : (outside : Outside) (generics : List (Constrained Bytes)) (header : Header Bytes) (scope : Scope)
    → body_scope outside generics header ≡ Ok scope → (of : Meaning)
    → written_type (outer_scope outside (generics_in outside generics)) header.result ≡ Ok of
    → scope.result ≡ of
scope_result outside generics header scope formed of says =
    by (with_parameters header.parameters outer) refl formed
  where
    outer : Scope
    outer = outer_scope outside (generics_in outside generics)

    alike : (sc : Scope) → types_of sc ≡ types_of outer
        → written_type sc header.result ≡ written_type outer header.result
    alike sc same = ap (λ (ts : TypeScope). outcome_noted (judge.meant ts header.result)) same

    last : (mid : Scope) (n : Noting Meaning) → n ≡ Ok of
        → (n >>= (λ t. Ok (record mid { result = t }))) ≡ Ok scope → scope.result ≡ of
    last mid (Ok t) is e =
        let one : t ≡ of = cc in
        let two : record mid { result = t } ≡ scope = cc in sym (ap (λ (sc : Scope). sc.result) two) ∙ one
    last mid (Err fault) is e = absurd cc

    by : (n : Noting Scope) → with_parameters header.parameters outer ≡ n
        → (n >>= (λ sc. with_result header.result sc)) ≡ Ok scope → scope.result ≡ of
    by (Ok mid) is e =
        last mid (written_type mid header.result)
        (alike mid (parameters_types header.parameters outer mid is) ∙ says) e
    by (Err fault) is e = absurd cc
