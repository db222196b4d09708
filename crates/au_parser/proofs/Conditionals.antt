-- What is told of the reader of conditionals: whether a branch follows is told by two tokens, `else if`.
use Rattle.std.proofs.Common.{◌≡◌, ℕ, zero, suc, ◌<◌, ◌≤◌, Bool, true, false, not, ◌&&◌, List, [], ◌∷◌, ◌++◌}
use Rattle.std.proofs.Common.{length, map, drop, Option, Some, None, Ok, Err, refl, sym, ap, ◌∙◌, subst}
use Rattle.std.proofs.Common.{arith, inl, inr, cond, append_assoc, append-nil, length-append}
use Rattle.std.specs.List.{list_all}
use Rattle.std.proofs.lemmas.Bool.{and_parts, and_from}
use Rattle.au_base.specs.declared.places.Pos.{Pos}
use Rattle.au_base.specs.declared.tokens.Keyword.TheVariants.{KwIf, KwThen, KwElse, KwEnd}
use Rattle.au_base.specs.declared.tokens.Sign.TheVariants.{Semicolon}
use Rattle.au_base.specs.declared.tokens.Token.{Token}
use Rattle.au_base.specs.declared.tokens.What.TheVariants.{Word, Sign}
use Rattle.au_syntax.specs.Forms.{begins_with_if, some_branches, formed_expression, formed_block}
use Rattle.au_syntax.specs.Forms.{formed_branches, formed_statement}
use Rattle.au_syntax.specs.Plain.{PlainExpression, PlainStatement, PlainStatements}
use Rattle.au_syntax.specs.Statements.{no_statements, statements, conditional, conditional_else, no_branches}
use Rattle.au_syntax.specs.Statements.{branches}
use Rattle.au_syntax.specs.Words.{word}
use Rattle.au_parser.specs.Measures.{Measures, plains, node, inside, rooted, joined_by}
use Rattle.au_parser.specs.Measures.{statement_measures, block_measures, branch_measures}
use Rattle.au_parser.specs.Passing.{Keep, KeepOver}
use Rattle.au_read_expressions.specs.Bounds.{Bounds}
use Rattle.au_read_expressions.specs.declared.faults.Fault.TheVariants.{Syntax, Passed}
use Rattle.au_read_expressions.specs.Reading.{Read, ◌>>=◌, same_what, begins_with, read_of, pair, joined_at}
use Rattle.au_read_expressions.specs.Reading.{joined_with, built_at, before_all, optional_of, optional}
use Rattle.au_read_expressions.specs.Spelling.{fixed}
use Rattle.au_read_expressions.proofs.Steps.{same_is, same_self}
use Rattle.au_read_statements.specs.StatementReading.{else_if, branch_with, after_branch, branches_within}
use Rattle.au_read_statements.specs.StatementReading.{branches_with, branches_of, conditional_by}
use Rattle.au_read_statements.specs.StatementReading.{conditional_of, conditional_with}
use Rattle.au_parser.proofs.Told.{Passing, AreMeasured, signs, Kind, Is, Example, Tells, Past, Alike}
use Rattle.au_parser.proofs.Told.{Agrees, Honest, Carries, Extends, are_join, keep_join, keep_plains}
use Rattle.au_parser.proofs.Told.{built_tells, bind_tells, past_more, tells_past, bind_past, past_alike}
use Rattle.au_parser.proofs.Told.{bind_alike, agree_same, agrees_empty, agrees_is, agrees_longer}
use Rattle.au_parser.proofs.Told.{bind_agrees, built_alike, built_agrees, built_extends, tells_good}
use Rattle.au_parser.proofs.Told.{tells_cut}
use Rattle.au_parser.proofs.Ways.{honest_past, no_tells, behind_kind, pair_kind, closed_kind}
use Rattle.au_parser.proofs.Ways.{behind_honest, closed_honest, built_honest}
use Rattle.au_parser.proofs.Turns.{turned, turned_honest}
use Rattle.au_parser.proofs.Lists.{separated_kind, shorter}
use Rattle.au_parser.proofs.Rows.{pair_behind}
use Rattle.au_parser.proofs.Levels.{passing, node_turns}
use Rattle.au_parser.proofs.ExpressionKinds.{inner_kind}

abbrev pub statement_kind : Kind PlainStatement
statement_kind = record { words = statement_measures; good = formed_statement }

abbrev pub block_kind : Kind PlainStatements
block_kind = record { words = block_measures; good = formed_block }

-- a block inside a statement
abbrev pub inner_block : Kind PlainStatements
inner_block = turned inside block_kind

-- `if`, a test, `then` and a block
abbrev pub branch_kind : Kind (PlainExpression × PlainStatements)
branch_kind = behind_kind (pair_kind inner_kind (behind_kind inner_block (Word KwThen ∷ []))) (Word KwIf ∷ [])

-- branches with `else` between
abbrev pub branches_kind : Kind (List (PlainExpression × PlainStatements))
branches_kind = separated_kind branch_kind (fixed (Word KwElse ∷ []))

-- a block that doesn't begin with `if`
abbrev plain_kind : Kind PlainStatements
plain_kind = record {
  words = λ block. inside (block_measures block);
  good = λ block. not (begins_with_if block) && formed_block block;
}

-- the block behind the last `else`, which doesn't begin with `if`
abbrev last_words : Option PlainStatements → Measures
last_words None = []
last_words (Some block) = signs (Word KwElse ∷ []) ++ inside (block_measures block)

abbrev last_good : Option PlainStatements → Bool
last_good None = true
last_good (Some block) = not (begins_with_if block) && formed_block block

abbrev last_kind : Kind (Option PlainStatements)
last_kind = record { words = last_words; good = last_good }

abbrev pub Tests : Type 0
Tests = List (PlainExpression × PlainStatements) × Option PlainStatements

abbrev pub tests_kind : Kind Tests
tests_kind = pair_kind branches_kind last_kind

branch_some : (x : PlainExpression × PlainStatements) → branch_kind.good x ≡ true → 0 < length (branch_kind.words x)
branch_some x g = omega arith

-- ---- a block that begins with `if`

if_first : (block : PlainStatements) (us : List Token) → AreMeasured (inside (block_measures block)) us →
    formed_block block ≡ true → begins_with_if block ≡ true → begins_with (Word KwIf) us ≡ true
if_first no_statements us h good e = absurd cc
if_first (statements (conditional at no_branches) rest) us h good e = absurd (let wrong = good in cc)
if_first (statements (conditional_else at no_branches last) rest) us h good e = absurd (let wrong = good in cc)
if_first (statements (conditional at (branches c y more)) rest) [] h good e = absurd h
if_first (statements (conditional_else at (branches c y more) last) rest) [] h good e = absurd h
if_first (statements (conditional at (branches c y more)) rest) (t ∷ us) h good e =
    ap (λ w. same_what w (Word KwIf)) h.0.0 ∙ same_self (Word KwIf)
if_first (statements (conditional_else at (branches c y more) last) rest) (t ∷ us) h good e =
    ap (λ w. same_what w (Word KwIf)) h.0.0 ∙ same_self (Word KwIf)
if_first (statements s rest) us h good e = absurd cc

plain_by : (block : PlainStatements) (us : List Token) → AreMeasured (inside (block_measures block)) us →
    formed_block block ≡ true →
    begins_with (Word KwIf) us ≡ false → (v : Bool) → begins_with_if block ≡ v → not v ≡ true
plain_by block us h good none true e = let there = if_first block us h good e in
    let wrong : ◌≡◌ {A = Bool} true false = sym there ∙ none in absurd (let it = wrong in cc)
plain_by block us h good none false e = refl

is_plain : (block : PlainStatements) (us : List Token) → begins_with (Word KwIf) us ≡ false → Is inner_block block us →
    Is plain_kind block us
is_plain block us none h = record {
  words = h.words;
  good = and_from (not (begins_with_if block)) (formed_block block)
      (plain_by block us h.words h.good none (begins_with_if block) refl) h.good;
}

none_before : (us behind : List Token) → begins_with (Word KwIf) (us ++ behind) ≡ false → begins_with
    (Word KwIf) us ≡ false
none_before [] behind h = refl
none_before (t ∷ us) behind h = h

none_through : (us : List Token) (t : Token) (behind other : List Token) →
    begins_with (Word KwIf) (us ++ t ∷ behind) ≡ false → begins_with (Word KwIf) (us ++ t ∷ other) ≡ false
none_through [] t behind other h = h
none_through (u ∷ us) t behind other h = h

module _ (P : Passing) where
  begun_plain : (front back ts : List Token) (left : ℕ) → ts ≡ front ++ back → length back ≡ left →
      begins_with (Word KwIf) ts ≡ false → (rest : List Token) (block : PlainStatements) →
      Is inner_block block (front ++ rest) → KeepOver P.of front (inside (block_measures block)) →
      Tells P plain_kind ts (Err (Syntax left))
  begun_plain [] back ts left same size none rest block is keeps = record {
    front = [];
    back = back;
    same = same;
    size = size;
    rest = [];
    tree = no_statements;
    is = record { words = tt; good = refl };
    keeps = tt;
  }
  begun_plain (t ∷ front) back ts left same size none rest block is keeps = record {
    front = t ∷ front;
    back = back;
    same = same;
    size = size;
    rest = rest;
    tree = block;
    is = is_plain block (t ∷ front ++ rest) (ap (begins_with (Word KwIf)) (sym same) ∙ none) is;
    keeps = keeps;
  }

  pub plain_tells : (ts : List Token) → begins_with (Word KwIf) ts ≡ false → (r : Read PlainStatements) → Tells
      P inner_block ts r → Tells P plain_kind ts r
  plain_tells ts none (Ok x) h = record {
    front = h.front;
    same = h.same;
    is = is_plain x.0 h.front (none_before h.front x.1 (ap (begins_with (Word KwIf)) (sym h.same) ∙ none)) h.is;
    keeps = h.keeps;
  }
  plain_tells ts none (Err (Syntax left)) h =
      begun_plain h.front h.back ts left h.same h.size none h.rest h.tree h.is h.keeps
  plain_tells ts none (Err (Passed l left)) h = record {
    front = h.front;
    last = h.last;
    back = h.back;
    same = h.same;
    what = h.what;
    told = h.told;
    rest = h.rest;
    tree = h.tree;
    is = is_plain h.tree (h.front ++ h.last ∷ h.rest)
        (none_through h.front h.last h.back h.rest (ap (begins_with (Word KwIf)) (sym h.same) ∙ none)) h.is;
    passes = h.passes;
  }

-- ---- trees of branches and a last block

is_one : (x : PlainExpression × PlainStatements) (us : List Token) → Is branch_kind x us → Is branches_kind (x ∷ []) us
is_one x us h = record {
  words = subst (λ ws. AreMeasured ws us) (sym (append-nil (branch_kind.words x))) h.words;
  good = and_from (branch_kind.good x) true h.good refl;
}

is_alone : (x : PlainExpression × PlainStatements) (us : List Token) → Is branch_kind x us → Is tests_kind
    (x ∷ [], None) us
is_alone x us h = let one = is_one x us h in record {
  words = subst (λ ws. AreMeasured ws us) (sym (append-nil (branches_kind.words (x ∷ [])))) one.words;
  good = and_from (branches_kind.good (x ∷ [])) true one.good refl;
}

-- a branch before others
abbrev more : PlainExpression × PlainStatements → Tests → Tests
more x y = (x ∷ y.0, y.1)

abbrev before_else : PlainExpression × PlainStatements → Measures
before_else x = branch_kind.words x ++ signs (Word KwElse ∷ [])

more_words : (x : PlainExpression × PlainStatements) (y : Tests) → tests_kind.good y ≡ true →
    tests_kind.words (more x y) ≡ before_else x ++ tests_kind.words y
more_words x ([], l) g = absurd (let wrong = g in cc)
more_words x (y ∷ ys, l) g =
    append_assoc (branch_kind.words x) (signs (Word KwElse ∷ []) ++ branches_kind.words (y ∷ ys)) (last_words l)
    ∙ sym (append_assoc (branch_kind.words x) (signs (Word KwElse ∷ []))
    (branches_kind.words (y ∷ ys) ++ last_words l))

more_good : (x : PlainExpression × PlainStatements) (y : Tests) → branch_kind.good x ≡ true →
    tests_kind.good y ≡ true → tests_kind.good (more x y) ≡ true
more_good x ([], l) h g = absurd (let wrong = g in cc)
more_good x (y ∷ ys, l) h g =
    let p = and_parts (branches_kind.good (y ∷ ys)) (last_good l) g in
    and_from (branches_kind.good (x ∷ y ∷ ys)) (last_good l)
    (and_from (branch_kind.good x) (branches_kind.good (y ∷ ys)) h p.0) p.1

more_carries : (x : PlainExpression × PlainStatements) → branch_kind.good x ≡ true →
    Carries tests_kind tests_kind (before_else x) (more x)
more_carries x h = record { words = more_words x; good = λ y g. more_good x y h g }

else_are : (x : PlainExpression × PlainStatements) (us : List Token) (t : Token) → AreMeasured (branch_kind.words x) us →
    t.what ≡ Word KwElse → AreMeasured (before_else x) (us ++ t ∷ [])
else_are x us t are e = are_join (branch_kind.words x) (signs (Word KwElse ∷ [])) us (t ∷ []) are ((e, tt), tt)

last_line : (x : PlainExpression × PlainStatements) (l : Option PlainStatements) →
    tests_kind.words (x ∷ [], l) ≡ branch_kind.words x ++ last_words l
last_line x l = ap (λ ws. ws ++ last_words l) (append-nil (branch_kind.words x))

last_carries : (x : PlainExpression × PlainStatements) → branch_kind.good x ≡ true →
    Carries last_kind tests_kind (branch_kind.words x) (λ l. (x ∷ [], l))
last_carries x h = record {
  words = λ l g. last_line x l;
  good = λ l g. and_from (branches_kind.good (x ∷ [])) (last_good l)
      (and_from (branch_kind.good x) true h refl) g;
}

else_carries : Carries plain_kind last_kind (signs (Word KwElse ∷ [])) (λ block. Some block)
else_carries = record { words = λ block g. refl; good = λ block g. g }

-- ---- the reader, step by step

module _ (b : Bounds) (inner calls : List Token → Read PlainExpression) (blocks : List Token → Read PlainStatements)
    (P : Passing) (expressions : Honest P inner_kind inner) (nested : Honest P inner_block blocks) where
  abbrev branch_at : List Token → Read (PlainExpression × PlainStatements)
  branch_at = branch_with b inner calls blocks

  abbrev last_at : List Token → Read (Option PlainStatements)
  last_at = optional (Word KwElse) blocks

  abbrev tests_within : ℕ → List Token → Read Tests
  tests_within k ts = branches_within b inner calls blocks k ts >>= joined_at last_at

  -- what stands behind a branch
  abbrev after : (List Token → Read Tests) → PlainExpression × PlainStatements → List Token → Read Tests
  after others x ts =
      cond (else_if ts) (others (drop 1 ts) >>= built_at (more x)) (last_at ts >>= joined_with (x ∷ []))

  abbrev after_at : (List Token → Read Tests) → (PlainExpression × PlainStatements) × List Token → Read Tests
  after_at others x = after others x.0 x.1

  last_later : (x : PlainExpression × PlainStatements) (xs : List (PlainExpression × PlainStatements))
      (r : Read (Option PlainStatements)) → (r >>= joined_with (x ∷ xs)) ≡
      ((r >>= joined_with xs) >>= built_at (more x))
  last_later x xs (Ok y) = refl
  last_later x xs (Err f) = refl

  branches_later : (x : PlainExpression × PlainStatements) (r : Read (List (PlainExpression × PlainStatements)))
      → ((r >>= before_all x) >>= joined_at last_at) ≡ ((r >>= joined_at last_at) >>= built_at (more x))
  branches_later x (Ok y) = last_later x y.0 (last_at y.1)
  branches_later x (Err f) = refl

  step_by : (k : ℕ) (x : PlainExpression × PlainStatements) (ts : List Token) (v : Bool)
      → (cond v (branches_within b inner calls blocks k (drop 1 ts) >>= before_all x) (read_of (x ∷ []) ts)
      >>= joined_at last_at)
      ≡ cond v (tests_within k (drop 1 ts) >>= built_at (more x)) (last_at ts >>= joined_with (x ∷ []))
  step_by k x ts true = branches_later x (branches_within b inner calls blocks k (drop 1 ts))
  step_by k x ts false = refl

  step_of : (k : ℕ) (r : Read (PlainExpression × PlainStatements))
      → ((r >>= after_branch b inner calls blocks (branches_within b inner calls blocks k)) >>= joined_at last_at)
      ≡ (r >>= after_at (tests_within k))
  step_of k (Ok x) = step_by k x.0 x.1 (else_if x.1)
  step_of k (Err f) = refl

  step : (k : ℕ) (ts : List Token) → tests_within (suc k) ts ≡ (branch_at ts >>= after_at (tests_within k))
  step k ts = step_of k (branch_at ts)

  -- ---- what is told

  branch_honest : Honest P branch_kind branch_at
  unfolding branch_with
  branch_honest = behind_honest P _ (Word KwIf ∷ []) _
      (pair_behind P inner_kind inner_block inner expressions blocks nested (Word KwThen ∷ []))

  tests_example : Example tests_kind
  tests_example = record {
    tree = (branch_honest.example.tree ∷ [], None);
    tokens = branch_honest.example.tokens;
    is = is_alone branch_honest.example.tree branch_honest.example.tokens branch_honest.example.is;
  }

  last_tells : (x : PlainExpression × PlainStatements) (ts us : List Token) (t : Token) (rest : List Token) →
      ts ≡ us ++ t ∷ rest →
      Is branch_kind x us → Keep P.of (branch_kind.words x) → t.what ≡ Word KwElse →
      begins_with (Word KwIf) rest ≡ false
      → Tells P tests_kind ts ((blocks rest >>= optional_of) >>= joined_with (x ∷ []))
  last_tells x ts us t rest same is keep e none =
      built_tells P last_kind tests_kind us ts (t ∷ rest) same (branch_kind.words x) is.words keep (λ l. (x ∷ [], l))
      (last_carries x is.good) (blocks rest >>= optional_of)
      (built_tells P plain_kind last_kind (t ∷ []) (t ∷ rest) rest refl (signs (Word KwElse ∷ [])) ((e, tt), tt)
      (keep_plains P (fixed (Word KwElse ∷ []))) (λ block. Some block) else_carries (blocks rest)
      (plain_tells P rest none (blocks rest) (nested.tells rest)))

  alone_tells : (x : PlainExpression × PlainStatements) (ts us rest : List Token) → ts ≡ us ++ rest → Is
      branch_kind x us → Keep P.of (branch_kind.words x) →
      Tells P tests_kind ts (read_of (x ∷ [], None) rest)
  alone_tells x ts us rest same is keep = record {
    front = us;
    same = same;
    is = is_alone x us is;
    keeps = keep_join P.of (branch_kind.words x ++ []) [] (keep_join P.of (branch_kind.words x) [] keep tt) tt;
  }

  else_tells : (others : List Token → Read Tests) (x : PlainExpression × PlainStatements) (ts us : List Token)
      (t : Token)
      (rest : List Token) → ((vs : List Token) → Tells P tests_kind vs (others vs)) → ts ≡ us ++ t ∷ rest → Is
      branch_kind x us → Keep P.of (branch_kind.words x)
      → (v z : Bool) → same_what t.what (Word KwElse) ≡ v → begins_with (Word KwIf) rest ≡ z
      → Tells P tests_kind ts (cond (v && z) (others rest >>= built_at (more x))
      (cond v (blocks rest >>= optional_of) (read_of None (t ∷ rest)) >>= joined_with (x ∷ [])))
  else_tells others x ts us t rest all same is keep true true e d =
      let el = same_is t.what (Word KwElse) e in
      built_tells P tests_kind tests_kind (us ++ t ∷ []) ts rest (same ∙ sym (append_assoc us (t ∷ []) rest))
      (before_else x) (else_are x us t is.words el)
      (keep_join P.of (branch_kind.words x) (signs (Word KwElse ∷ [])) keep
      (keep_plains P (fixed (Word KwElse ∷ [])))) (more x) (more_carries x is.good) (others rest) (all rest)
  else_tells others x ts us t rest all same is keep true false e d =
      last_tells x ts us t rest same is keep (same_is t.what (Word KwElse) e) d
  else_tells others x ts us t rest all same is keep false z e d = alone_tells x ts us (t ∷ rest) same is keep

  after_tells : (others : List Token → Read Tests) → ((vs : List Token) → Tells P tests_kind vs (others vs))
      → (x : PlainExpression × PlainStatements) (ts us rest : List Token) → ts ≡ us ++ rest → Is branch_kind x us
      → Keep P.of (branch_kind.words x) → Tells P tests_kind ts (after others x rest)
  after_tells others all x ts us [] same is keep = alone_tells x ts us [] same is keep
  after_tells others all x ts us (t ∷ rest) same is keep =
      else_tells others x ts us t rest all same is keep (same_what t.what (Word KwElse))
      (begins_with (Word KwIf) rest) refl refl

  within_tells : (k : ℕ) (ts : List Token) → Tells P tests_kind ts (tests_within k ts)
  within_tells zero ts = no_tells P tests_kind tests_example ts
  within_tells (suc k) ts =
      subst (Tells P tests_kind ts) (sym (step k ts)) (
      bind_tells P branch_kind tests_kind ts (after_at (tests_within k))
      (λ x us rest same is keep. after_tells (tests_within k) (within_tells k) x ts us rest same is keep)
      (λ x us is. record {
        rest = [];
        tree = (x ∷ [], None);
        is = subst (Is tests_kind (x ∷ [], None)) (sym (append-nil us)) (is_alone x us is);
        words = ([], inl (append-nil (branch_kind.words x ++ [])));
      })
      (branch_at ts) (branch_honest.tells ts))

  within_past : (k : ℕ) (ts : List Token) → Past (length ts) (tests_within k ts)
  within_past k ts = tells_past P tests_kind ts (tests_within k ts) (within_tells k ts)

  -- behind `else` no more is left than stands there
  else_past : (k : ℕ) (x : PlainExpression × PlainStatements) (rest : List Token) (z : Bool) → Past (length rest)
      (cond z (tests_within k rest >>= built_at (more x)) ((blocks rest >>= optional_of) >>= joined_with (x ∷ [])))
  else_past k x rest true = bind_past (length rest) (built_at (more x)) (λ y. omega arith)
      (tests_within k rest) (within_past k rest)
  else_past k x rest false =
      bind_past (length rest) (joined_with (x ∷ [])) (λ y. omega arith) (blocks rest >>= optional_of)
      (bind_past (length rest) optional_of (λ y. omega arith) (blocks rest) (honest_past P inner_block blocks nested rest))

  after_past_by : (k : ℕ) (x : PlainExpression × PlainStatements) (t : Token) (rest : List Token) (v z : Bool)
      → Past (suc (length rest)) (cond (v && z) (tests_within k rest >>= built_at (more x))
      (cond v (blocks rest >>= optional_of) (read_of None (t ∷ rest)) >>= joined_with (x ∷ [])))
  after_past_by k x t rest true z =
      past_more (length rest) (suc (length rest))
      (cond z (tests_within k rest >>= built_at (more x)) ((blocks rest >>= optional_of) >>= joined_with (x ∷ [])))
      (omega arith) (else_past k x rest z)
  after_past_by k x t rest false z = omega arith

  after_past_of : (k : ℕ) (x : PlainExpression × PlainStatements) (rest : List Token) → Past (length rest)
      (after (tests_within k) x rest)
  after_past_of k x [] = omega arith
  after_past_of k x (t ∷ rest) = after_past_by k x t rest (same_what t.what (Word KwElse))
      (begins_with (Word KwIf) rest)

  after_past : (k : ℕ) (x : (PlainExpression × PlainStatements) × List Token) → Past (length x.1)
      (after_at (tests_within k) x)
  after_past k x = after_past_of k x.0 x.1

  -- the token is `else`, and what stands behind it is alike
  else_alike : (k j : ℕ) (x : PlainExpression × PlainStatements) (p c d : List Token)
      → Alike c d (tests_within k (p ++ c)) (tests_within j (p ++ d)) → (z : Bool)
      → Alike c d (cond z (tests_within k (p ++ c) >>= built_at (more x))
      ((blocks (p ++ c) >>= optional_of) >>= joined_with (x ∷ [])))
      (cond z (tests_within j (p ++ d) >>= built_at (more x))
      ((blocks (p ++ d) >>= optional_of) >>= joined_with (x ∷ [])))
  else_alike k j x p c d on true = built_alike c d (more x) (tests_within k (p ++ c)) (tests_within j (p ++ d)) on
  else_alike k j x p c d on false =
      built_alike c d (λ l. (x ∷ [], l)) (blocks (p ++ c) >>= optional_of) (blocks (p ++ d) >>= optional_of)
      (built_alike c d (λ y. Some y) (blocks (p ++ c)) (blocks (p ++ d)) (nested.alike p c d))

  -- the last token that is known is `else`
  edge_by : (k j : ℕ) (x : PlainExpression × PlainStatements) (t : Token) (c d : List Token) (y z : Bool) (v : Bool)
      → Alike c d (cond (v && y) (tests_within k c >>= built_at (more x))
      (cond v (blocks c >>= optional_of) (read_of None (t ∷ c)) >>= joined_with (x ∷ [])))
      (cond (v && z) (tests_within j d >>= built_at (more x))
      (cond v (blocks d >>= optional_of) (read_of None (t ∷ d)) >>= joined_with (x ∷ [])))
  edge_by k j x t c d y z true =
      past_alike c d
      (cond z (tests_within j d >>= built_at (more x)) ((blocks d >>= optional_of) >>= joined_with (x ∷ [])))
      (cond y (tests_within k c >>= built_at (more x)) ((blocks c >>= optional_of) >>= joined_with (x ∷ [])))
      (else_past k x c y)
  edge_by k j x t c d y z false = inr (record { between = t ∷ []; same = refl; there = refl })

  further_by : (k j : ℕ) (x : PlainExpression × PlainStatements) (t : Token) (p c d : List Token)
      → Alike c d (tests_within k (p ++ c)) (tests_within j (p ++ d)) → (v z : Bool)
      → Alike c d (cond (v && z) (tests_within k (p ++ c) >>= built_at (more x))
      (cond v (blocks (p ++ c) >>= optional_of) (read_of None (t ∷ p ++ c)) >>= joined_with (x ∷ [])))
      (cond (v && z) (tests_within j (p ++ d) >>= built_at (more x))
      (cond v (blocks (p ++ d) >>= optional_of) (read_of None (t ∷ p ++ d)) >>= joined_with (x ∷ [])))
  further_by k j x t p c d on true z = else_alike k j x p c d on z
  further_by k j x t p c d on false z = inr (record { between = t ∷ p; same = refl; there = refl })

  after_alike : (k j : ℕ) (x : PlainExpression × PlainStatements) (p c d : List Token)
      → ((q : List Token) → length (q ++ c) ≤ k → length (q ++ d) ≤ j → Alike c d (tests_within k (q ++ c))
      (tests_within j (q ++ d)))
      → length (p ++ c) ≤ suc k → length (p ++ d) ≤ suc j
      → Alike c d (after (tests_within k) x (p ++ c)) (after (tests_within j) x (p ++ d))
  after_alike k j x [] c d on h i = past_alike c d (after (tests_within j) x d) (after (tests_within k) x c)
      (after_past_of k x c)
  after_alike k j x (t ∷ []) c d on h i =
      edge_by k j x t c d (begins_with (Word KwIf) c) (begins_with (Word KwIf) d) (same_what t.what (Word KwElse))
  after_alike k j x (t ∷ u ∷ p) c d on h i =
      further_by k j x t (u ∷ p) c d (on (u ∷ p) (omega (arith, h)) (omega (arith, i)))
      (same_what t.what (Word KwElse)) (same_what u.what (Word KwIf))

  within_alike : (k j : ℕ) (p c d : List Token) → length (p ++ c) ≤ k → length (p ++ d) ≤ j →
      Alike c d (tests_within k (p ++ c)) (tests_within j (p ++ d))
  within_alike k j [] c d h i = past_alike c d (tests_within j d) (tests_within k c) (within_past k c)
  within_alike zero j (t ∷ p) c d h i = absurd (let wrong : ⊥ = omega (arith, h) in wrong)
  within_alike (suc k) zero (t ∷ p) c d h i = absurd (let wrong : ⊥ = omega (arith, i) in wrong)
  within_alike (suc k) (suc j) (t ∷ p) c d h i =
      subst (λ r. Alike c d r (tests_within (suc j) (t ∷ p ++ d))) (sym (step k (t ∷ p ++ c)))
      (subst (λ r. Alike c d (branch_at (t ∷ p ++ c) >>= after_at (tests_within k)) r) (sym (step j (t ∷ p ++ d)))
      (bind_alike c d (branch_at (t ∷ p ++ d)) (after_at (tests_within k)) (after_at (tests_within j)) (after_past k)
      (branch_at (t ∷ p ++ c))
      (λ x q e.
      let s = shorter P branch_kind branch_at branch_honest branch_some x (t ∷ p ++ c) (q ++ c) e in
      let qc = length-append q c in let pc = length-append p c in
      let qd = length-append q d in let pd = length-append p d in
      after_alike k j x q c d (λ r. within_alike k j r c d) (omega (arith, h, s)) (omega (arith, i, s, qc, pc, qd, pd)))
      (branch_honest.alike (t ∷ p) c d)))

  -- ---- what is known of limits

  more_extends : (x : PlainExpression × PlainStatements) (y : Tests) → Extends (branch_kind.words x)
      (tests_kind.words (more x y))
  more_extends x y = (
    _,
    inl (append_assoc (branch_kind.words x)
        (Rattle.std.specs.List.flat_map (λ one. signs (Word KwElse ∷ []) ++ one) (map branch_kind.words y.0))
        (last_words y.1)),
  )

  last_extends : (x : PlainExpression × PlainStatements) (l : Option PlainStatements) → Extends (branch_kind.words x)
      (tests_kind.words (x ∷ [], l))
  last_extends x l = (last_words l, inl (last_line x l))

  after_extends_by : (others : List Token → Read Tests) (x : PlainExpression × PlainStatements) (ts : List Token)
      (z : Tests × List Token) (v : Bool) →
      cond v (others (drop 1 ts) >>= built_at (more x)) (last_at ts >>= joined_with (x ∷ [])) ≡ Ok z →
      Extends (branch_kind.words x) (tests_kind.words z.0)
  after_extends_by others x ts z true e =
      built_extends tests_kind tests_kind (branch_kind.words x) (more x) (more_extends x) (others (drop 1 ts)) z e
  after_extends_by others x ts z false e =
      built_extends last_kind tests_kind (branch_kind.words x) (λ l. (x ∷ [], l)) (last_extends x) (last_at ts) z e

  after_extends : (others : List Token → Read Tests) (x : (PlainExpression × PlainStatements) × List Token)
      (z : Tests × List Token) → after_at others x ≡ Ok z → Extends (branch_kind.words x.0) (tests_kind.words z.0)
  after_extends others x z e = after_extends_by others x.0 x.1 z (else_if x.1) e

  -- behind `else`
  else_extends : (k : ℕ) (x : PlainExpression × PlainStatements) (rest : List Token) (z : Tests × List Token) (v : Bool) →
      cond v (tests_within k rest >>= built_at (more x)) ((blocks rest >>= optional_of) >>= joined_with (x ∷ [])) ≡ Ok z →
      Extends (before_else x) (tests_kind.words z.0)
  else_extends k x rest z true e =
      more_of (tests_within k rest) (tells_good P tests_kind rest (tests_within k rest) (within_tells k rest)) e
    where
      more_of : (r : Read Tests) → ((y : Tests × List Token) → r ≡ Ok y → tests_kind.good y.0 ≡ true) →
          (r >>= built_at (more x)) ≡ Ok z → Extends (before_else x) (tests_kind.words z.0)
      more_of (Ok y) good e =
          let same : more x y.0 ≡ z.0 = cc in
          subst (λ t. Extends (before_else x) (tests_kind.words t)) same
          (tests_kind.words y.0, inl (more_words x y.0 (good y refl)))
      more_of (Err f) good e = absurd (let wrong = e in cc)
  else_extends k x rest z false e =
      block_of (blocks rest) e
    where
      block_of : (r : Read PlainStatements) → ((r >>= optional_of) >>= joined_with (x ∷ [])) ≡ Ok z →
          Extends (before_else x) (tests_kind.words z.0)
      block_of (Ok y) e =
          let same : ◌≡◌ {A = Tests} (x ∷ [], Some y.0) z.0 = cc in
          subst (λ t. Extends (before_else x) (tests_kind.words t)) same (
            inside (block_measures y.0),
            inl (last_line x (Some y.0)
                ∙ sym (append_assoc (branch_kind.words x) (signs (Word KwElse ∷ [])) (inside (block_measures y.0)))),
          )
      block_of (Err f) e = absurd (let wrong = e in cc)

  edge_agrees : (k j : ℕ) (x : PlainExpression × PlainStatements) (all us : List Token) (t : Token) (c d : List Token)
      (y z : Bool) → all ≡ us ++ t ∷ [] → Is branch_kind x us → (v : Bool) → same_what t.what (Word KwElse) ≡ v
      → Agrees tests_kind all c (cond (v && y) (tests_within k c >>= built_at (more x))
      (cond v (blocks c >>= optional_of) (read_of None (t ∷ c)) >>= joined_with (x ∷ [])))
      (cond (v && z) (tests_within j d >>= built_at (more x))
      (cond v (blocks d >>= optional_of) (read_of None (t ∷ d)) >>= joined_with (x ∷ [])))
  edge_agrees k j x all us t c d y z same is true e =
      agrees_longer tests_kind all c (before_else x) (before_else x)
      (agree_same all [] (before_else x) (subst (AreMeasured (before_else x)) (sym same ∙ sym (append-nil all))
      (else_are x us t is.words (same_is t.what (Word KwElse) e))))
      (cond y (tests_within k c >>= built_at (more x)) ((blocks c >>= optional_of) >>= joined_with (x ∷ [])))
      (cond z (tests_within j d >>= built_at (more x)) ((blocks d >>= optional_of) >>= joined_with (x ∷ [])))
      (λ w h. else_extends k x c w y h) (λ w h. else_extends j x d w z h)
  edge_agrees k j x all us t c d y z same is false e =
      agrees_is tests_kind all c (x ∷ [], None) us (t ∷ c) (t ∷ d)
      (ap (λ r. r ++ c) same ∙ append_assoc us (t ∷ []) c) (is_alone x us is).words

  block_agrees : (p c d : List Token) → Agrees plain_kind p c (blocks (p ++ c)) (blocks (p ++ d))
  block_agrees p c d = nested.agree p c d

  further_agrees : (k j : ℕ) (x : PlainExpression × PlainStatements) (all us : List Token) (t u : Token)
      (p c d : List Token) → all ≡ us ++ t ∷ u ∷ p → Is branch_kind x us
      → Agrees tests_kind (u ∷ p) c (tests_within k (u ∷ p ++ c)) (tests_within j (u ∷ p ++ d)) → (v z : Bool)
      → same_what t.what (Word KwElse) ≡ v → same_what u.what (Word KwIf) ≡ z
      → Agrees tests_kind all c (cond (v && z) (tests_within k (u ∷ p ++ c) >>= built_at (more x))
      (cond v (blocks (u ∷ p ++ c) >>= optional_of) (read_of None (t ∷ u ∷ p ++ c)) >>= joined_with (x ∷ [])))
      (cond (v && z) (tests_within j (u ∷ p ++ d) >>= built_at (more x))
      (cond v (blocks (u ∷ p ++ d) >>= optional_of) (read_of None (t ∷ u ∷ p ++ d)) >>= joined_with (x ∷ [])))
  further_agrees k j x all us t u p c d same is on true true e f =
      built_agrees tests_kind tests_kind (us ++ t ∷ []) (u ∷ p) all c (same ∙ sym (append_assoc us (t ∷ []) (u ∷ p)))
      (before_else x) (else_are x us t is.words (same_is t.what (Word KwElse) e)) (more x) (more_carries x is.good)
      (tests_within k (u ∷ p ++ c)) (tests_within j (u ∷ p ++ d))
      (tells_good P tests_kind (u ∷ p ++ c) (tests_within k (u ∷ p ++ c)) (within_tells k (u ∷ p ++ c)))
      (tells_good P tests_kind (u ∷ p ++ d) (tests_within j (u ∷ p ++ d)) (within_tells j (u ∷ p ++ d))) on
  further_agrees k j x all us t u p c d same is on true false e f =
      let el = same_is t.what (Word KwElse) e in
      let good_c = plain_tells P (u ∷ p ++ c) f (blocks (u ∷ p ++ c)) (nested.tells (u ∷ p ++ c)) in
      let good_d = plain_tells P (u ∷ p ++ d) f (blocks (u ∷ p ++ d)) (nested.tells (u ∷ p ++ d)) in
      built_agrees last_kind tests_kind us (t ∷ u ∷ p) all c same (branch_kind.words x) is.words (λ l. (x ∷ [], l))
      (last_carries x is.good) (blocks (u ∷ p ++ c) >>= optional_of) (blocks (u ∷ p ++ d) >>= optional_of)
      (tells_good P last_kind (t ∷ u ∷ p ++ c) (blocks (u ∷ p ++ c) >>= optional_of)
      (built_tells P plain_kind last_kind (t ∷ []) (t ∷ u ∷ p ++ c) (u ∷ p ++ c) refl (signs (Word KwElse ∷ []))
      ((el, tt), tt) (keep_plains P (fixed (Word KwElse ∷ []))) (λ block. Some block) else_carries
      (blocks (u ∷ p ++ c)) good_c))
      (tells_good P last_kind (t ∷ u ∷ p ++ d) (blocks (u ∷ p ++ d) >>= optional_of)
      (built_tells P plain_kind last_kind (t ∷ []) (t ∷ u ∷ p ++ d) (u ∷ p ++ d) refl (signs (Word KwElse ∷ []))
      ((el, tt), tt) (keep_plains P (fixed (Word KwElse ∷ []))) (λ block. Some block) else_carries
      (blocks (u ∷ p ++ d)) good_d))
      (built_agrees plain_kind last_kind (t ∷ []) (u ∷ p) (t ∷ u ∷ p) c refl (signs (Word KwElse ∷ [])) ((el, tt), tt)
      (λ block. Some block) else_carries (blocks (u ∷ p ++ c)) (blocks (u ∷ p ++ d))
      (tells_good P plain_kind (u ∷ p ++ c) (blocks (u ∷ p ++ c)) good_c)
      (tells_good P plain_kind (u ∷ p ++ d) (blocks (u ∷ p ++ d)) good_d)
      (block_agrees (u ∷ p) c d))
  further_agrees k j x all us t u p c d same is on false z e f =
      agrees_is tests_kind all c (x ∷ [], None) us (t ∷ u ∷ p ++ c) (t ∷ u ∷ p ++ d)
      (ap (λ r. r ++ c) same ∙ append_assoc us (t ∷ u ∷ p) c) (is_alone x us is).words

  after_agree : (k j : ℕ) (x : PlainExpression × PlainStatements) (all us p c d : List Token) → all ≡ us ++ p →
      Is branch_kind x us
      → ((q : List Token) → length (q ++ c) ≤ k → length (q ++ d) ≤ j → Agrees tests_kind q c (tests_within k (q ++ c))
      (tests_within j (q ++ d)))
      → length (p ++ c) ≤ suc k → length (p ++ d) ≤ suc j
      → Agrees tests_kind all c (after (tests_within k) x (p ++ c)) (after (tests_within j) x (p ++ d))
  after_agree k j x all us [] c d same is on h i =
      agrees_longer tests_kind all c (branch_kind.words x) (branch_kind.words x)
      (agree_same all [] (branch_kind.words x) (subst (AreMeasured (branch_kind.words x))
      (sym (append-nil us) ∙ sym same ∙ sym (append-nil all)) is.words))
      (after (tests_within k) x c) (after (tests_within j) x d)
      (after_extends (tests_within k) (x, c)) (after_extends (tests_within j) (x, d))
  after_agree k j x all us (t ∷ []) c d same is on h i =
      edge_agrees k j x all us t c d (begins_with (Word KwIf) c) (begins_with (Word KwIf) d) same is
      (same_what t.what (Word KwElse)) refl
  after_agree k j x all us (t ∷ u ∷ p) c d same is on h i =
      further_agrees k j x all us t u p c d same is (on (u ∷ p) (omega (arith, h)) (omega (arith, i)))
      (same_what t.what (Word KwElse)) (same_what u.what (Word KwIf)) refl refl

  within_agree : (k j : ℕ) (p c d : List Token) → length (p ++ c) ≤ k → length (p ++ d) ≤ j →
      Agrees tests_kind p c (tests_within k (p ++ c)) (tests_within j (p ++ d))
  within_agree k j [] c d h i = agrees_empty tests_kind c (tests_within k c) (tests_within j d)
  within_agree zero j (t ∷ p) c d h i = absurd (let wrong : ⊥ = omega (arith, h) in wrong)
  within_agree (suc k) zero (t ∷ p) c d h i = absurd (let wrong : ⊥ = omega (arith, i) in wrong)
  within_agree (suc k) (suc j) (t ∷ p) c d h i =
      subst (λ r. Agrees tests_kind (t ∷ p) c r (tests_within (suc j) (t ∷ p ++ d))) (sym (step k (t ∷ p ++ c)))
      (subst (λ r. Agrees tests_kind (t ∷ p) c (branch_at (t ∷ p ++ c) >>= after_at (tests_within k)) r)
      (sym (step j (t ∷ p ++ d)))
      (bind_agrees branch_kind tests_kind (t ∷ p) c d (after_at (tests_within k)) (after_at (tests_within j))
      (after_extends (tests_within k)) (after_extends (tests_within j)) (branch_at (t ∷ p ++ c)) (branch_at (t ∷ p ++ d))
      (branch_honest.alike (t ∷ p) c d) (branch_honest.agree (t ∷ p) c d)
      (λ x q e.
      let s = shorter P branch_kind branch_at branch_honest branch_some x (t ∷ p ++ c) (q ++ c) e in
      let qc = length-append q c in let pc = length-append p c in
      let qd = length-append q d in let pd = length-append p d in
      let w = tells_cut P branch_kind (t ∷ p) c (branch_at (t ∷ p ++ c)) (branch_honest.tells (t ∷ p ++ c)) x q e in
      after_agree k j x (t ∷ p) w.0 q c d w.1 w.2 (λ r. within_agree k j r c d) (omega (arith, h, s))
      (omega (arith, i, s, qc, pc, qd, pd)))))

  pub tests_honest : Honest P tests_kind (pair (branches_with b inner calls blocks) (optional (Word KwElse) blocks))
  unfolding branches_with
  tests_honest = record {
    example = tests_example;
    tells = λ ts. within_tells (length ts) ts;
    alike = λ p c d. within_alike (length (p ++ c)) (length (p ++ d)) p c d (omega arith) (omega arith);
    agree = λ p c d. within_agree (length (p ++ c)) (length (p ++ d)) p c d (omega arith) (omega arith);
  }

-- ---- the row

tests_line : (xs : List (PlainExpression × PlainStatements)) → branch_measures (branches_of xs)
    ≡ map branch_kind.words xs
tests_line [] = refl
tests_line (x ∷ xs) = ap (λ all. branch_kind.words x ∷ all) (tests_line xs)

all_formed : (xs : List (PlainExpression × PlainStatements)) → formed_branches (branches_of xs) ≡ list_all
    branch_kind.good xs
all_formed [] = refl
all_formed (x ∷ xs) = ap (λ g. formed_expression x.0 && formed_block x.1 && g) (all_formed xs)

tests_good : (xs : List (PlainExpression × PlainStatements)) →
    (some_branches (branches_of xs) && formed_branches (branches_of xs)) ≡ branches_kind.good xs
tests_good [] = refl
tests_good (x ∷ xs) = all_formed (x ∷ xs)

abbrev stopped : Measures
stopped = signs (Word KwEnd ∷ Word KwIf ∷ Sign Semicolon ∷ [])

conditional_line : (at : Pos) (xs : List (PlainExpression × PlainStatements)) (last : Option PlainStatements)
    → statement_measures (conditional_by at xs last) ≡ node at (tests_kind.words (xs, last) ++ stopped)
conditional_line at xs None =
    ap (λ ws. node at (joined_by (plains (word KwElse)) ws ++ stopped)) (tests_line xs)
    ∙ ap (λ ws. node at (ws ++ stopped)) (sym (append-nil (branches_kind.words xs)))
conditional_line at xs (Some block) =
    ap (λ ws. node at ((joined_by (plains (word KwElse)) ws ++ last_words (Some block)) ++ stopped)) (tests_line xs)

conditional_good : (at : Pos) (xs : List (PlainExpression × PlainStatements))
    (last : Option PlainStatements) → tests_kind.good (xs, last) ≡ true →
    formed_statement (conditional_by at xs last) ≡ true
conditional_good at xs None g = tests_good xs ∙ (and_parts (branches_kind.good xs) true g).0
conditional_good at xs (Some block) g =
    let p = and_parts (branches_kind.good xs) (not (begins_with_if block) && formed_block block) g in
    let q = and_parts (not (begins_with_if block)) (formed_block block) p.1 in
    let all : Bool = some_branches (branches_of xs) && formed_branches (branches_of xs) in
    and_from (all && not (begins_with_if block)) (formed_block block)
    (and_from all (not (begins_with_if block)) (tests_good xs ∙ p.0) q.0) q.1

module _ (b : Bounds) (n : ℕ) (inner calls : List Token → Read PlainExpression)
    (blocks : List Token → Read PlainStatements)
    (expressions : Honest (passing b (suc n)) inner_kind inner) (nested : Honest (passing b (suc n)) inner_block blocks)
  where
    abbrev closed_tests : Kind Tests
    closed_tests = closed_kind tests_kind (Word KwEnd ∷ Word KwIf ∷ Sign Semicolon ∷ [])

    pub conditional_row : Honest (passing b (suc n)) statement_kind (conditional_with b inner calls blocks)
    unfolding conditional_with
    conditional_row =
        let P : Passing = passing b (suc n) in
        built_honest P (turned rooted closed_tests) statement_kind _
        (turned_honest P P rooted (node_turns b n) closed_tests _
        (closed_honest P tests_kind (Word KwEnd ∷ Word KwIf ∷ Sign Semicolon ∷ []) _
        (tests_honest b inner calls blocks P expressions nested))) conditional_of
        (record {
          words = λ at x. conditional_line at x.0 x.1;
          good = λ at x g. conditional_good at x.0 x.1 g;
        })
