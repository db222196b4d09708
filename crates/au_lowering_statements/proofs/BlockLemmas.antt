-- Steps of loops over the items of blocks, conditionals and cases, and what is kept of a scope.
use Rattle.std.proofs.Common.{◌≡◌, ℕ, ◌+◌, ◌-◌, ◌<◌, ◌≤◌, min, Bool, true, false, ◌||◌, nat_lt, List, [], ◌∷◌}
use Rattle.std.proofs.Common.{◌++◌, drop, take, get_or, length, map, Option, Some, None, refl, sym, ap, subst}
use Rattle.std.proofs.Common.{◌∙◌, arith}
use Rattle.std.proofs.lemmas.List.{at_drop_all, at_drop_more, length-take, take-take, take_all, take_at}
use Rattle.au_closed_trees.specs.contracts.phase.ClosedTreesPhase.TheImpl.{ghosts as closed}
use Rattle.au_closed_trees.specs.ClosedNotes.{ClosedNote}
use Rattle.au_closed_meanings.specs.Surroundings.{Surroundings, view_in, known as round_known}
use Rattle.au_typing.specs.Returns.{block_returns}
use Rattle.au_low.specs.declared.instructions.Instr.TheVariants.{Jump}
use Rattle.au_lowered.specs.Drafts.{Draft, Written, ◌>>◌, nothing, unless}
use Rattle.au_effects.specs.Parts.{along}
use Rattle.au_lowered.specs.Slots as slots
use Rattle.au_lowered.specs.Slots.{after, kept}
use Rattle.au_lowered.specs.Statements as spec
use Rattle.au_lowered.specs.Statements.{is_last}
use Rattle.au_lowering_expressions.specs.declared.locals.Local.{Local}
use Rattle.au_lowering_expressions.specs.Wrote.{wrote}
use Rattle.au_lowering_expressions.proofs.WroteLemmas.{wrote_nothing, wrote_row}
use Rattle.au_lowering_statements.specs.Ends.{AllBelow, Holed, arm_block, arms_upto, branch_upto, has_tests}
use Rattle.au_lowering_statements.specs.Ends.{tests_upto, with_jumps}
use Rattle.au_lowering_statements.specs.Views.{Begins}
use Rattle.au_lowering_statements.proofs.ArmLemmas.{arms_row}
use Rattle.au_lowering_statements.proofs.CodeLemmas.{ClosedArm, ClosedBind, ClosedBranch, ClosedStmt}
use Rattle.au_lowering_statements.proofs.CodeLemmas.{said_block, said_statement, said_whole}
use Rattle.au_lowering_statements.proofs.JumpLemmas.{holed_row}
use Rattle.au_meaning.specs.Names.{Scope, bound_name, field_of}
use Rattle.au_meaning.specs.Statements.{tag_told}
use Rattle.au_meaning.specs.Views.{Field}
use Rattle.au_syntax.specs.Plain.{Bytes}
use Rattle.au_syntax.specs.Types.{Bound}
use Rattle.au_syntax.specs.Views.{arm_all, block, bound, branch_all, expression, placed, statement, statement_all}

-- ---- scopes

pub begins_same : (all : List Local) → Begins all all
begins_same all = take_all (length all) all (omega arith)

pub begins_push : (all : List Local) (x : Local) → Begins all (all ++ x ∷ [])
begins_push all x = take_at all (x ∷ []) (length all) refl

pub begins_more : (one two three : List Local) → Begins one two → Begins two three → Begins one three
begins_more one two three first second =
    let inside : length one ≤ length two =
    omega (arith, ap length first, length-take (length one) two) in
    sym (take-take (length one) (length two) three inside)
    ∙ ap (take (length one)) second ∙ first

-- ---- fields

-- fields that may be known, in the words of two crates
pub known_same : (o : Option (List Field)) → slots.known o ≡ round_known o
known_same None = refl
known_same (Some all) = refl

-- the field of a name, where the fields may be known
pub field_known : (o : Option (List Field)) (name : Bytes) → field_of name (round_known o) ≡ along o
    (field_of name)
field_known None name = refl
field_known (Some all) name = refl

-- where there are no fields, none is bound
pub no_fields : (slot : ℕ) (binds : List (Bound Bytes)) (scope : Scope)
    → slots.with_fields [] slot binds scope ≡ scope
no_fields slot [] scope = refl
no_fields slot (b ∷ rest) scope = no_fields slot rest scope

-- the first of the fields that are left is bound
pub fields_step : (fields : List Field) (slot : ℕ) (xs : List ClosedBind) (i : ℕ) (x : ClosedBind)
    (scope inner whole : Scope) → i < length xs → x ≡ get_or xs i x
    → inner ≡ slots.with_field slot (bound_name (bound closed x).name)
    (field_of (bound closed x).name.name.name fields) scope
    → slots.with_fields fields slot (map (bound closed) (drop i xs)) scope ≡ whole
    → slots.with_fields fields slot (map (bound closed) (drop (i + 1) xs)) inner ≡ whole
fields_step fields slot xs i x scope inner whole inside is enters so_far =
    ap (slots.with_fields fields slot (map (bound closed) (drop (i + 1) xs))) enters
    ∙ ap (λ (y : ClosedBind). slots.with_fields fields slot (map (bound closed) (y ∷ drop (i + 1) xs))
    scope) is
    ∙ sym (at_drop_more (λ all. slots.with_fields fields slot (map (bound closed) all) scope) xs i x inside)
    ∙ so_far

-- ---- blocks

module _ (round : Surroundings) (around : ℕ) where
  pub block_step : (xs : List ClosedStmt) (i : ℕ) (x : ClosedStmt) (slot next : ℕ) (scope inner : Scope)
      (d more whole : List Draft)
      → i < length xs → x ≡ get_or xs i x
      → more ≡ wrote (said_statement round around slot scope x) d
      → inner ≡ after (view_in round) slot (statement closed x) scope
      → next ≡ slot + kept (view_in round) (statement closed x)
      → wrote (spec.block (view_in round) around slot scope (statement_all closed (drop i xs))) d ≡ whole
      → wrote (spec.block (view_in round) around next inner (statement_all closed (drop (i + 1) xs))) more ≡
      whole
  block_step xs i x slot next scope inner d more whole inside is written enters keeps so_far =
      let rest = statement_all closed (drop (i + 1) xs) in
      let s = statement closed x in
      ap (λ n. wrote (spec.block (view_in round) around n inner rest) more) keeps
      ∙ ap (λ n. wrote (spec.block (view_in round) around (slot + kept (view_in round) s) n rest) more) enters
      ∙ ap
      (wrote (spec.block (view_in round) around (slot + kept (view_in round) s)
      (after (view_in round) slot s scope) rest))
      written
      ∙ sym (wrote_row (said_statement round around slot scope x)
      (spec.block (view_in round) around (slot + kept (view_in round) s)
      (after (view_in round) slot s scope) rest) d)
      ∙ ap (λ (y : ClosedStmt). wrote (spec.block (view_in round) around slot scope
      (Rattle.au_syntax.specs.Statements.statements (statement closed y) rest)) d) is
      ∙ sym (at_drop_more (λ all. wrote (spec.block (view_in round) around slot scope
      (statement_all closed all)) d) xs i x inside)
      ∙ so_far

  pub block_end : (xs : List ClosedStmt) (i : ℕ) (slot : ℕ) (scope : Scope) (d whole : List Draft)
      → length xs ≤ i
      → wrote (spec.block (view_in round) around slot scope (statement_all closed (drop i xs))) d ≡ whole
      → d ≡ whole
  block_end xs i slot scope d whole ends so_far =
      sym (wrote_nothing d)
      ∙ sym (at_drop_all (λ all. wrote (spec.block (view_in round) around slot scope
      (statement_all closed all)) d) xs i ends)
      ∙ so_far

-- ---- code with holes

-- the same code, written in another way
pub holed_same : (v w : ℕ → Written) (j0 j1 : List ℕ) (d0 d1 : List Draft)
    → ((m : ℕ) (d : List Draft) → wrote (v m) d ≡ wrote (w m) d)
    → Holed v j0 d0 j1 d1 → Holed w j0 d0 j1 d1
holed_same v w j0 j1 d0 d1 same h = record {
  longer = h.longer;
  below = h.below;
  apart = h.apart;
  filled = λ b m. h.filled b m ∙ same m (with_jumps m j0 d0);
}

module _ (round : Surroundings) (around slot : ℕ) (scope : Scope) where
  -- what a test with its branch is
  abbrev pub one_test : Bool → ClosedBranch → ℕ → Written
  one_test followed x m =
      said_whole round around slot scope x.test.value
      >> branch_upto followed (block_returns (block closed x.block)) m
      (said_block round around slot scope x.block)

  abbrev pub tests_left : Bool → List ClosedBranch → ℕ → Written
  tests_left more xs m = tests_upto (view_in round) around slot scope m more (branch_all closed xs)

  pub tests_step : (more followed : Bool) (xs : List ClosedBranch) (i : ℕ) (x : ClosedBranch)
      (j0 j1 j2 : List ℕ) (d0 d1 d2 : List Draft)
      → i < length xs → x ≡ get_or xs i x
      → followed ≡ (more || has_tests (branch_all closed (drop (i + 1) xs)))
      → Holed (one_test followed x) j0 d0 j1 d1
      → Holed (tests_left more (drop (i + 1) xs)) j1 d1 j2 d2
      → Holed (tests_left more (drop i xs)) j0 d0 j2 d2
  tests_step more followed xs i x j0 j1 j2 d0 d1 d2 inside is flag first rest =
      holed_same (λ m. one_test followed x m >> tests_left more (drop (i + 1) xs) m)
      (tests_left more (drop i xs))
      j0 j2 d0 d2
      (λ m d.
      let w = said_whole round around slot scope x.test.value in
      let b = branch_upto followed (block_returns (block closed x.block)) m
      (said_block round around slot scope x.block) in
      let u = tests_left more (drop (i + 1) xs) m in
      wrote_row (w >> b) u d ∙ ap (wrote u) (wrote_row w b d) ∙ sym (wrote_row b u (wrote w d))
      ∙ sym (wrote_row w (b >> u) d)
      ∙ ap (λ f. wrote (w >> branch_upto f (block_returns (block closed x.block)) m
      (said_block round around slot scope x.block) >> u) d) flag
      ∙ ap (λ (y : ClosedBranch). wrote (tests_upto (view_in round) around slot scope m more
      (Rattle.au_syntax.specs.Statements.branches (expression closed y.test.value) (block closed y.block)
      (branch_all closed (drop (i + 1) xs)))) d) is
      ∙ sym (at_drop_more (λ all. wrote (tests_left more all m) d) xs i x inside))
      (holed_row (one_test followed x) (tests_left more (drop (i + 1) xs)) j0 j1 j2 d0 d1 d2 first rest)

  -- what an arm is, and those that are left
  abbrev pub one_arm : ClosedNote → Bool → ClosedArm → ℕ → Written
  one_arm note last x m =
      arm_block (view_in round) around slot scope note (placed closed x.case).name
      (map (bound closed) x.binds.items) (block closed x.block)
      >> unless (block_returns (block closed x.block) || last) (Jump m)

  abbrev pub arms_left : ClosedNote → List ClosedArm → ℕ → Written
  arms_left note xs m = λ p. (arms_upto (view_in round) around slot scope m note (arm_all closed xs) p).code

  pub arms_step : (note : ClosedNote) (last : Bool) (xs : List ClosedArm) (i : ℕ) (x : ClosedArm)
      (j0 j1 j2 : List ℕ) (d0 d1 d2 : List Draft)
      → i < length xs → x ≡ get_or xs i x
      → last ≡ is_last (arm_all closed (drop (i + 1) xs))
      → Holed (one_arm note last x) j0 d0 j1 d1
      → Holed (arms_left note (drop (i + 1) xs)) j1 d1 j2 d2
      → Holed (arms_left note (drop i xs)) j0 d0 j2 d2
  arms_step note last xs i x j0 j1 j2 d0 d1 d2 inside is flag first rest =
      holed_same (λ m. one_arm note last x m >> arms_left note (drop (i + 1) xs) m)
      (arms_left note (drop i xs))
      j0 j2 d0 d2
      (λ m d.
      let left = arms_left note (drop (i + 1) xs) m in
      wrote_row (one_arm note last x m) left d
      ∙ ap (λ l. wrote left (wrote (one_arm note l x m) d)) flag
      ∙ sym (arms_row m
      (block_returns (block closed x.block) || is_last (arm_all closed (drop (i + 1) xs)))
      (tag_told (view_in round) note (placed closed x.case).name)
      (arm_block (view_in round) around slot scope note (placed closed x.case).name
      (map (bound closed) x.binds.items) (block closed x.block))
      (arms_upto (view_in round) around slot scope m note (arm_all closed (drop (i + 1) xs))) d)
      ∙ ap (λ (y : ClosedArm). wrote (arms_left note (y ∷ drop (i + 1) xs) m) d) is
      ∙ sym (at_drop_more (λ all. wrote (arms_left note all m) d) xs i x inside))
      (holed_row (one_arm note last x) (arms_left note (drop (i + 1) xs)) j0 j1 j2 d0 d1 d2 first rest)
