-- The rows of statements with blocks: cases, loops and borrows.
use Rattle.std.proofs.Common.{◌≡◌, ℕ, suc, ◌<◌, max, true, List, [], ◌∷◌, ◌++◌, length, map, not, ◌&&◌}
use Rattle.std.proofs.Common.{Option, refl, sym, ap, ◌∙◌, arith}
use Rattle.std.specs.List.{flat_map, list_all}
use Rattle.std.proofs.lemmas.Bool.{and_parts, and_from}
use Rattle.au_base.specs.declared.limits.Limit.{Limit}
use Rattle.au_base.specs.declared.places.Pos.{Pos}
use Rattle.au_base.specs.declared.tokens.Keyword.TheVariants.{KwCase, KwOf, KwWhen, KwDo, KwEnd, KwWhile}
use Rattle.au_base.specs.declared.tokens.Keyword.TheVariants.{KwFor, KwFrom, KwTo, KwBorrow, KwAs, KwIn}
use Rattle.au_base.specs.declared.tokens.Sign.TheVariants.{Assign, LeftParenthesis, RightParenthesis}
use Rattle.au_base.specs.declared.tokens.Sign.TheVariants.{Semicolon, Colon, Exclamation}
use Rattle.au_base.specs.declared.tokens.Token.{Token}
use Rattle.au_base.specs.declared.tokens.What.{What}
use Rattle.au_base.specs.declared.tokens.What.TheVariants.{Word, Sign}
use Rattle.au_syntax.specs.declared.types.Access.{Access}
use Rattle.au_syntax.specs.declared.types.Access.TheVariants as access
use Rattle.au_syntax.specs.Depths.{expression_depth, block_depth, arms_depth}
use Rattle.au_syntax.specs.Forms.{formed_expression, formed_block, formed_arms}
use Rattle.au_syntax.specs.Names.{Placed}
use Rattle.au_syntax.specs.Plain.{Bytes, PlainExpression, PlainStatements, PlainArms}
use Rattle.au_syntax.specs.Sizes.{expression_types, bound_types, block_types, arms_types}
use Rattle.au_syntax.specs.Statements.{no_arms, arms}
use Rattle.au_syntax.specs.Types.{Bound}
use Rattle.au_syntax.specs.Words.{Words, word, mark, begun, listed_in, name_words, bound_words}
use Rattle.au_syntax.specs.Words.{expression_words, type_words, block_words, arm_words, mode_sign, end_at}
use Rattle.au_read_expressions.specs.Bounds.{Bounds, TreePasses}
use Rattle.au_read_expressions.specs.Reading.{Read, front, is_front, name_at, behind_tokens, pair, bracketed}
use Rattle.au_read_expressions.specs.Spelling.{Begins, fixed}
use Rattle.au_read_expressions.proofs.Begins.{front_of}
use Rattle.au_read_expressions.proofs.Forms.{Form, Reads, Builds, anything, behind_form, behind_reads}
use Rattle.au_read_expressions.proofs.Forms.{closed_form, closed_reads, pair_form, pair_reads, pair_after}
use Rattle.au_read_expressions.proofs.Forms.{pair_behind, built_sound, built_found}
use Rattle.au_read_expressions.proofs.Limits.{TreeFits, one_fits, one_passes, two_fit, two_pass, beside_fit}
use Rattle.au_read_expressions.proofs.Limits.{beside_passes, types_fit_before, types_pass_before}
use Rattle.au_read_expressions.proofs.ListForms.{repeated_form, repeated_reads, bracketed_form}
use Rattle.au_read_expressions.proofs.ListForms.{bracketed_reads, AllFit, OnePasses}
use Rattle.au_read_expressions.proofs.Single.{name_form, name_reads}
use Rattle.au_read_expressions.specs.TypeReading.{ends_type}
use Rattle.au_read_statements.specs.StatementReading.{ends_block, bound_at, borrow_whats, ArmParts, arm_of}
use Rattle.au_read_statements.specs.StatementReading.{arms_of, arm_with, arms_with, case_of_parts, case_with}
use Rattle.au_read_statements.specs.StatementReading.{while_of, while_with, for_of, for_with, borrowed_block}
use Rattle.au_read_statements.specs.StatementReading.{borrow_in_of, borrow_in_with, borrow_typed_of}
use Rattle.au_read_statements.specs.StatementReading.{borrow_typed_with}
use Rattle.au_read_statements.proofs.FirstWords.{front_is}
use Rattle.au_read_statements.proofs.Nesting.{nest_5, nest_7, nest_9, nest_10}
use Rattle.au_read_statements.proofs.PartForms.{not_first, not_second, bound_form, bound_some, bound_reads}
use Rattle.au_read_statements.proofs.PartForms.{end_form, end_place_reads, mode_reads}
use Rattle.au_read_statements.proofs.StatementForm.{statement_form, block_form, Inside, Row, row_of}
use Rattle.au_read_statements.proofs.StatementForm.{type_fits_before, type_passes_before, bounds_fit}
use Rattle.au_read_statements.proofs.StatementForm.{bounds_pass, all_good, on_first, on_second, three_fit}
use Rattle.au_read_statements.proofs.StatementForm.{three_pass}

-- ---- arms, as a tree holds them and as a list

pub arms_in : PlainArms → List ArmParts
arms_in no_arms = []
arms_in (arms at name binds block rest) = record { at = at; name = name; binds = binds; block = block } ∷ arms_in rest

pub arms_back : (xs : PlainArms) → arms_of (arms_in xs) ≡ xs
unfolding arms_in
arms_back no_arms = refl
arms_back (arms at name binds block rest) = ap (arms at name binds block) (arms_back rest)

module _ (b : Bounds) (n : ℕ) where
  abbrev pub arm_form : Form ArmParts
  arm_form = record {
    words = λ a. begun a.at (word KwWhen ++ name_words a.name ++ listed_in LeftParenthesis RightParenthesis
        (map bound_words a.binds) ++ word KwDo ++ block_words a.block);
    good = λ a. formed_block a.block;
    Fits = λ a. TreeFits b n (block_depth a.block) (bound_types a.binds ++ block_types a.block);
    Passes = λ a l. TreePasses b n (block_depth a.block) (bound_types a.binds ++ block_types a.block) l;
  }

  arms_line : (xs : List ArmParts) → arm_words (arms_of xs) ≡ flat_map arm_form.words xs
  arms_line [] = refl
  arms_line (a ∷ xs) = ap (λ ws. arm_form.words a ++ ws) (arms_line xs)

  arms_good : (xs : List ArmParts) → formed_arms (arms_of xs) ≡ list_all arm_form.good xs
  arms_good [] = refl
  arms_good (a ∷ xs) = ap (λ g. formed_block a.block && g) (arms_good xs)

  arms_fit : (xs : List ArmParts) → AllFit arm_form xs → TreeFits b n (arms_depth (arms_of xs))
      (arms_types (arms_of xs))
  arms_fit [] h = (omega arith, tt)
  arms_fit (a ∷ xs) h =
      beside_fit b n (block_depth a.block) (arms_depth (arms_of xs))
      (bound_types a.binds ++ block_types a.block) (arms_types (arms_of xs)) h.0 (arms_fit xs h.1)

  arms_pass : (xs : List ArmParts) (l : Limit) → OnePasses arm_form xs l →
      TreePasses b n (arms_depth (arms_of xs)) (arms_types (arms_of xs)) l
  arms_pass [] l p = absurd p
  arms_pass (a ∷ xs) l p =
      beside_passes b n (block_depth a.block) (arms_depth (arms_of xs))
      (bound_types a.binds ++ block_types a.block) (arms_types (arms_of xs)) l
      (on_second (arms_pass xs l) p)

module _ (b : Bounds) (n : ℕ) (inner calls : List Token → Read PlainExpression)
    (blocks : List Token → Read PlainStatements) (inside : Inside b n inner calls blocks) where
  -- ---- `case EXPRESSION of .. end case;`

  abbrev arm_parts_form : Form (Placed Bytes × (List (Bound Bytes) × PlainStatements))
  arm_parts_form =
      behind_form (pair_form name_form
      (pair_form (bracketed_form (bound_form b) LeftParenthesis RightParenthesis)
      (behind_form (block_form b n) (Word KwDo ∷ [])))) (Word KwWhen ∷ [])

  abbrev arm_parts : List Token → Read (Placed Bytes × (List (Bound Bytes) × PlainStatements))
  arm_parts = behind_tokens (Word KwWhen ∷ [])
      (pair name_at (pair (bracketed LeftParenthesis RightParenthesis (bound_at b))
      (behind_tokens (Word KwDo ∷ []) blocks)))

  arm_parts_reads : Reads arm_parts_form ends_block arm_parts
  arm_parts_reads =
      let list = bracketed_reads (bound_form b) ends_type (bound_at b) (bound_reads b inside.types)
      (bound_some b) LeftParenthesis RightParenthesis refl refl in
      let parts = pair_behind _ _ _ _ _ list _ inside.nested (Word KwDo) [] refl in
      behind_reads _ _ _ (pair_after _ _ _ _ _ name_reads _ parts (λ what. refl)) (Word KwWhen ∷ [])

  arm_builds : Builds arm_parts_form (arm_form b n) ends_block arm_parts arm_parts_reads arm_of
  arm_builds = record {
    words = λ at x. ap (begun at) (nest_5 (word KwWhen) (name_words x.0)
        (listed_in LeftParenthesis RightParenthesis (map bound_words x.1.0)) (word KwDo) (block_words x.1.1));
    some = λ x. omega arith;
    good_to = λ at x g. (and_parts (list_all (λ (y : Bound Bytes). true) x.1.0) (formed_block x.1.1) g).1;
    good_from = λ at x g. and_from (list_all (λ (y : Bound Bytes). true) x.1.0) (formed_block x.1.1) (all_good x.1.0) g;
    fits = λ at x h. types_fit_before b n (block_depth x.1.1) (bound_types x.1.0) (block_types x.1.1)
        (bounds_fit b x.1.0 h.1.0) h.1.1;
    passes = λ at x l p. types_pass_before b n (block_depth x.1.1) (bound_types x.1.0) (block_types x.1.1) l
        (on_first (bounds_pass b x.1.0 l) (not_first p));
  }

  pub arm_reads : Reads (arm_form b n) ends_block (arm_with b inner calls blocks)
  unfolding arm_with
  arm_reads = record {
    sound = built_sound arm_parts_form (arm_form b n) ends_block arm_parts arm_parts_reads arm_of arm_builds;
    found = λ a. built_found arm_parts_form (arm_form b n) ends_block arm_parts arm_parts_reads arm_of
        arm_builds a.at (a.name, (a.binds, a.block));
  }

  arm_some : (a : ArmParts) → (arm_form b n).good a ≡ true → 0 < length ((arm_form b n).words a)
  arm_some a g = omega arith

  arm_starts : (a : ArmParts) (ts rest : List Token) → Begins ((arm_form b n).words a) ts rest →
      (arm_form b n).good a ≡ true → is_front (Word KwWhen) (front ts) ≡ true
  arm_starts a ts rest h g = ap (is_front (Word KwWhen)) (front_of ((arm_form b n).words a) ts rest (omega arith) h)

  arm_follows : (what : Option What) → is_front (Word KwWhen) what ≡ true → ends_block what ≡ true
  arm_follows what e = ap ends_block (front_is (Word KwWhen) what e)

  pub arms_reads : Reads (repeated_form (arm_form b n))
      (λ what. not (is_front (Word KwWhen) what) && ends_block what) (arms_with b inner calls blocks)
  unfolding arms_with
  arms_reads = repeated_reads (arm_form b n) ends_block (is_front (Word KwWhen))
      (arm_with b inner calls blocks) arm_reads arm_starts arm_some arm_follows

  pub case_row : Row b n case_of_parts (case_with b inner calls blocks)
  unfolding case_with
  case_row =
      let stopped = closed_reads _ _ _ arms_reads (Word KwEnd) (Word KwCase ∷ Sign Semicolon ∷ []) refl in
      let parts = pair_behind _ _ _ _ _ inside.expressions _ stopped (Word KwOf) [] refl in
      row_of b n _ _ (behind_reads _ _ _ parts (Word KwCase ∷ [])) case_of_parts
      (record {
        words = λ at x.
            ap (λ ws. begun at (word KwCase ++ expression_words x.0 ++ word KwOf ++ ws ++ word KwEnd
            ++ word KwCase ++ mark Semicolon)) (arms_line b n x.1)
            ∙ ap (begun at) (nest_7 (word KwCase) (expression_words x.0) (word KwOf)
            (flat_map (arm_form b n).words x.1) (word KwEnd) (word KwCase) (mark Semicolon));
        some = λ x. omega arith;
        good_to = λ at x g. ap (λ y. formed_expression x.0 && y) (arms_good b n x.1) ∙ g;
        good_from = λ at x g. sym (ap (λ y. formed_expression x.0 && y) (arms_good b n x.1)) ∙ g;
        fits = λ at x h. two_fit b n (expression_depth x.0) (arms_depth (arms_of x.1)) (expression_types x.0)
            (arms_types (arms_of x.1)) h.0 (arms_fit b n x.1 h.1);
        passes = λ at x l p. two_pass b n (expression_depth x.0) (arms_depth (arms_of x.1))
            (expression_types x.0) (arms_types (arms_of x.1)) l (on_second (arms_pass b n x.1 l) p);
      })

  -- ---- `while EXPRESSION do BLOCK end while;`

  pub while_row : Row b n while_of (while_with b inner calls blocks)
  unfolding while_with
  while_row =
      let stopped = closed_reads _ _ _ inside.nested (Word KwEnd) (Word KwWhile ∷ Sign Semicolon ∷ []) refl in
      let parts = pair_behind _ _ _ _ _ inside.expressions _ stopped (Word KwDo) [] refl in
      row_of b n _ _ (behind_reads _ _ _ parts (Word KwWhile ∷ [])) while_of
      (record {
        words = λ at x. ap (begun at) (nest_7 (word KwWhile) (expression_words x.0) (word KwDo)
            (block_words x.1) (word KwEnd) (word KwWhile) (mark Semicolon));
        some = λ x. omega arith;
        good_to = λ at x g. g;
        good_from = λ at x g. g;
        fits = λ at x h. two_fit b n (expression_depth x.0) (block_depth x.1) (expression_types x.0)
            (block_types x.1) h.0 h.1;
        passes = λ at x l p. two_pass b n (expression_depth x.0) (block_depth x.1) (expression_types x.0)
            (block_types x.1) l p;
      })

  -- ---- `for NAME from EXPRESSION to EXPRESSION do BLOCK end for;`

  pub for_row : Row b n for_of (for_with b inner calls blocks)
  unfolding for_with
  for_row =
      let stopped = closed_reads _ _ _ inside.nested (Word KwEnd) (Word KwFor ∷ Sign Semicolon ∷ []) refl in
      let last = pair_behind _ _ _ _ _ inside.expressions _ stopped (Word KwDo) [] refl in
      let both = pair_behind _ _ _ _ _ inside.expressions _ last (Word KwTo) [] refl in
      let parts = pair_behind _ _ _ _ _ name_reads _ both (Word KwFrom) [] refl in
      row_of b n _ _ (behind_reads _ _ _ parts (Word KwFor ∷ [])) for_of
      (record {
        words = λ at x.
            ap (begun at) (nest_9 (word KwFor ++ name_words x.0 ++ word KwFrom) (expression_words x.1.0)
            (word KwTo) (expression_words x.1.1.0) (word KwDo) (block_words x.1.1.1) (word KwEnd)
            (word KwFor) (mark Semicolon));
        some = λ x. omega arith;
        good_to = λ at x g.
            let p = and_parts (formed_expression x.1.0) (formed_expression x.1.1.0 && formed_block x.1.1.1) g in
            let q = and_parts (formed_expression x.1.1.0) (formed_block x.1.1.1) p.1 in
            and_from (formed_expression x.1.0 && formed_expression x.1.1.0) (formed_block x.1.1.1)
            (and_from (formed_expression x.1.0) (formed_expression x.1.1.0) p.0 q.0) q.1;
        good_from = λ at x g.
            let p = and_parts (formed_expression x.1.0 && formed_expression x.1.1.0) (formed_block x.1.1.1) g in
            let q = and_parts (formed_expression x.1.0) (formed_expression x.1.1.0) p.0 in
            and_from (formed_expression x.1.0) (formed_expression x.1.1.0 && formed_block x.1.1.1) q.0
            (and_from (formed_expression x.1.1.0) (formed_block x.1.1.1) q.1 p.1);
        fits = λ at x h.
            let d : ℕ = max (expression_depth x.1.0) (max (expression_depth x.1.1.0) (block_depth x.1.1.1)) in
            one_fits b n d (expression_types x.1.0 ++ expression_types x.1.1.0 ++ block_types x.1.1.1)
            (three_fit b n (expression_depth x.1.0) (expression_depth x.1.1.0) (block_depth x.1.1.1)
            (expression_types x.1.0) (expression_types x.1.1.0) (block_types x.1.1.1) h.1.0 h.1.1.0
            h.1.1.1);
        passes = λ at x l p.
            let d : ℕ = max (expression_depth x.1.0) (max (expression_depth x.1.1.0) (block_depth x.1.1.1)) in
            one_passes b n d (expression_types x.1.0 ++ expression_types x.1.1.0 ++ block_types x.1.1.1) l
            (three_pass b n (expression_depth x.1.0) (expression_depth x.1.1.0) (block_depth x.1.1.1)
            (expression_types x.1.0) (expression_types x.1.1.0) (block_types x.1.1.1) l (not_first p));
      })

  -- ---- `borrow NAME as NAME in NAME do BLOCK end borrow;`, or with `borrow!`

  abbrev borrowed_form : Form (PlainStatements × Pos)
  borrowed_form = behind_form (pair_form (block_form b n)
      (closed_form end_form (Word KwBorrow ∷ Sign Semicolon ∷ []))) (Word KwDo ∷ [])

  before_end : (y : Pos) (ts rest : List Token) →
      Begins (end_at y ++ fixed (Word KwBorrow ∷ Sign Semicolon ∷ [])) ts rest → true ≡ true →
      anything (front rest) ≡ true → ends_block (front ts) ≡ true
  before_end y ts rest h good ended =
      ap ends_block (front_of (end_at y ++ fixed (Word KwBorrow ∷ Sign Semicolon ∷ [])) ts rest (omega arith) h)

  borrowed_reads : Reads borrowed_form anything (borrowed_block b inner calls blocks)
  unfolding borrowed_block
  borrowed_reads =
      let stopped = closed_reads _ _ _ end_place_reads (Word KwBorrow) (Sign Semicolon ∷ []) refl in
      behind_reads _ _ _ (pair_reads _ _ _ _ _ inside.nested _ stopped before_end) (Word KwDo ∷ [])

  borrow_in_line : (access : Access) (at : Pos)
      (x : Placed Bytes × (Placed Bytes × (Placed Bytes × (PlainStatements × Pos))))
      → (statement_form b (suc n)).words (borrow_in_of access at x)
      ≡ begun at (fixed (borrow_whats access)
      ++ (name_words x.0 ++ (word KwAs
      ++ (name_words x.1.0 ++ (word KwIn ++ (name_words x.1.1.0 ++ borrowed_form.words x.1.1.1))))))
  borrow_in_line access.Read at x =
      ap (begun at) (nest_5 (word KwBorrow ++ name_words x.0 ++ word KwAs ++ name_words x.1.0 ++ word KwIn
      ++ name_words x.1.1.0 ++ word KwDo) (block_words x.1.1.1.0) (end_at x.1.1.1.1) (word KwBorrow)
      (mark Semicolon))
  borrow_in_line access.Write at x =
      ap (begun at) (nest_5 (word KwBorrow ++ mark Exclamation ++ name_words x.0 ++ word KwAs
      ++ name_words x.1.0 ++ word KwIn ++ name_words x.1.1.0 ++ word KwDo) (block_words x.1.1.1.0)
      (end_at x.1.1.1.1) (word KwBorrow) (mark Semicolon))

  borrow_in_some : (access : Access) (ws : Words) → 0 < length (fixed (borrow_whats access) ++ ws)
  borrow_in_some access.Read ws = omega arith
  borrow_in_some access.Write ws = omega arith

  pub borrow_in_row : (access : Access) → Row b n (borrow_in_of access) (borrow_in_with b inner calls blocks access)
  unfolding borrow_in_with
  borrow_in_row access =
      let last = pair_after _ _ _ _ _ name_reads _ borrowed_reads (λ what. refl) in
      let second = pair_behind _ _ _ _ _ name_reads _ last (Word KwIn) [] refl in
      let parts = pair_behind _ _ _ _ _ name_reads _ second (Word KwAs) [] refl in
      row_of b n _ _ (behind_reads _ _ _ parts (borrow_whats access)) (borrow_in_of access)
      (record {
        words = borrow_in_line access;
        some = λ x. borrow_in_some access _;
        good_to = λ at x g. (and_parts (formed_block x.1.1.1.0) true g).0;
        good_from = λ at x g. and_from (formed_block x.1.1.1.0) true g refl;
        fits = λ at x h. one_fits b n (block_depth x.1.1.1.0) (block_types x.1.1.1.0) h.1.1.1.0;
        passes = λ at x l p. one_passes b n (block_depth x.1.1.1.0) (block_types x.1.1.1.0) l
            (not_second (not_first (not_first (not_first p))));
      })

  -- ---- `borrow NAME: TYPE := &NAME do BLOCK end borrow;`

  pub borrow_typed_row : Row b n borrow_typed_of (borrow_typed_with b inner calls blocks)
  unfolding borrow_typed_with
  borrow_typed_row =
      let last = pair_after _ _ _ _ _ name_reads _ borrowed_reads (λ what. refl) in
      let moded = pair_after _ _ _ _ _ mode_reads _ last (λ what. refl) in
      let typed = pair_behind _ _ _ _ _ inside.types _ moded (Sign Assign) [] refl in
      let parts = pair_behind _ _ _ _ _ name_reads _ typed (Sign Colon) [] refl in
      row_of b n _ _ (behind_reads _ _ _ parts (Word KwBorrow ∷ [])) borrow_typed_of
      (record {
        words = λ at x.
            ap (begun at) (nest_10 (word KwBorrow ++ name_words x.0 ++ mark Colon) (type_words x.1.0)
            (mark Assign) (mark (mode_sign x.1.1.0)) (name_words x.1.1.1.0) (word KwDo)
            (block_words x.1.1.1.1.0) (end_at x.1.1.1.1.1) (word KwBorrow) (mark Semicolon));
        some = λ x. omega arith;
        good_to = λ at x g. (and_parts (formed_block x.1.1.1.1.0) true g).0;
        good_from = λ at x g. and_from (formed_block x.1.1.1.1.0) true g refl;
        fits = λ at x h.
            let d : ℕ = block_depth x.1.1.1.1.0 in
            one_fits b n d (x.1.0 ∷ block_types x.1.1.1.1.0)
            (type_fits_before b n d x.1.0 (block_types x.1.1.1.1.0) h.1.0 h.1.1.1.1.0);
        passes = λ at x l p.
            let d : ℕ = block_depth x.1.1.1.1.0 in
            one_passes b n d (x.1.0 ∷ block_types x.1.1.1.1.0) l
            (type_passes_before b n d x.1.0 (block_types x.1.1.1.1.0) l
            (on_second (λ q. not_second (not_first (not_first q))) (not_first p)));
      })
