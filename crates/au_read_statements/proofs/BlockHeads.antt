-- Statements with blocks are read by their heads: what stands before a block is read as one part, and the
-- block behind it.
use Rattle.std.proofs.Common.{◌≡◌, List, [], ◌∷◌, Result, Ok, Err, refl, sym, ap, ◌∙◌}
use Rattle.au_base.specs.declared.places.Pos.{Pos}
use Rattle.au_base.specs.declared.tokens.Keyword.{Keyword}
use Rattle.au_base.specs.declared.tokens.Keyword.TheVariants.{KwIf, KwThen, KwCase, KwOf, KwWhen, KwDo}
use Rattle.au_base.specs.declared.tokens.Keyword.TheVariants.{KwWhile, KwFor, KwFrom, KwTo, KwBorrow, KwAs}
use Rattle.au_base.specs.declared.tokens.Keyword.TheVariants.{KwIn, KwEnd}
use Rattle.au_base.specs.declared.tokens.Sign.TheVariants.{Assign, LeftParenthesis, RightParenthesis}
use Rattle.au_base.specs.declared.tokens.Sign.TheVariants.{Semicolon, Colon}
use Rattle.au_base.specs.declared.tokens.Token.{Token}
use Rattle.au_base.specs.declared.tokens.What.{What}
use Rattle.au_base.specs.declared.tokens.What.TheVariants.{Word, Sign}
use Rattle.au_syntax.specs.declared.expressions.BorrowMode.{BorrowMode}
use Rattle.au_syntax.specs.declared.types.Access.{Access}
use Rattle.au_syntax.specs.Names.{Placed}
use Rattle.au_syntax.specs.Plain.{Bytes, PlainExpression, PlainStatements}
use Rattle.au_syntax.specs.Types.{WrittenType, Bound}
use Rattle.au_read_expressions.specs.Bounds.{Bounds}
use Rattle.au_read_expressions.specs.declared.faults.Fault.{Fault}
use Rattle.au_read_expressions.specs.Reading.{Read, ◌>>=◌, name_at, place_of, tokens_at, behind_tokens}
use Rattle.au_read_expressions.specs.Reading.{closed_at, closed}
use Rattle.au_read_expressions.specs.Reading.{read_of, joined_with, joined_at, pair, built_at, built, shaped}
use Rattle.au_read_expressions.specs.Reading.{bracketed}
use Rattle.au_read_expressions.specs.TypeReading.{type_at}
use Rattle.au_read_statements.specs.BlockHeads.{regrouped, between, for_start, for_head, borrow_start}
use Rattle.au_read_statements.specs.BlockHeads.{borrow_head, binds_end, arm_head, typed_start, typed_head}
use Rattle.au_read_statements.specs.BlockHeads.{for_of_parts, borrow_in_of_parts, borrow_typed_of_parts}
use Rattle.au_read_statements.specs.StatementReading.{ArmParts, bound_at, mode_at, borrow_whats, arm_of}
use Rattle.au_read_statements.specs.StatementReading.{case_of_parts, while_of, for_of, borrow_in_of}
use Rattle.au_read_statements.specs.StatementReading.{borrow_typed_of, arms_with, branch_with, arm_with}
use Rattle.au_read_statements.specs.StatementReading.{case_with, while_with, for_with, borrowed_block}
use Rattle.au_read_statements.specs.StatementReading.{borrow_in_with, borrow_typed_with}

-- ---- steps

same_steps : {A B : Type 0} (r : Result A Fault) (f g : A → Result B Fault)
    → ((x : A) → f x ≡ g x) → (r >>= f) ≡ (r >>= g)
same_steps (Ok x) f g h = h x
same_steps (Err d) f g h = refl

steps_over : {A B C : Type 0} (r : Result A Fault) (f : A → Result B Fault) (g : B → Result C Fault)
    → ((r >>= f) >>= g) ≡ (r >>= (λ x. f x >>= g))
steps_over (Ok x) f g = refl
steps_over (Err d) f g = refl

-- ---- parts

module _ {A B : Type 0} (p : List Token → Read A) (q : List Token → Read B) where
  -- tokens before a part and another are before the first
  behind_first : (ws : List What) (ts : List Token) → behind_tokens ws (pair p q) ts ≡ pair (behind_tokens ws p) q ts
  behind_first ws ts = sym (steps_over (tokens_at ws ts) p (joined_at q))

  -- tokens between two parts close the first
  between_at : (vs : List What) (x : A × List Token)
      → joined_at (behind_tokens vs q) x ≡ (closed_at vs x >>= joined_at q)
  between_at vs x =
      steps_over (tokens_at vs x.1) q (joined_with x.0)
      ∙ sym (steps_over (tokens_at vs x.1) (read_of x.0) (joined_at q))

  closed_first : (vs : List What) (ts : List Token) → pair p (behind_tokens vs q) ts ≡ pair (closed vs p) q ts
  closed_first vs ts =
      same_steps (p ts) (joined_at (behind_tokens vs q)) (λ x. closed_at vs x >>= joined_at q) (between_at vs)
      ∙ sym (steps_over (p ts) (closed_at vs) (joined_at q))

  -- a part between two tokens, and another
  between_first : (v w : What) (ts : List Token)
      → behind_tokens (v ∷ []) (pair p (behind_tokens (w ∷ []) q)) ts ≡ pair (between v w p) q ts
  between_first v w ts =
      let start = tokens_at (v ∷ []) ts in
      same_steps start (pair p (behind_tokens (w ∷ []) q)) (pair (closed (w ∷ []) p) q) (closed_first (w ∷ []))
      ∙ sym (steps_over start (closed (w ∷ []) p) (joined_at q))

  -- a second part by another reader of it
  pair_with : (o : List Token → Read B) (ts : List Token)
      → ((us : List Token) → q us ≡ o us) → pair p q ts ≡ pair p o ts
  pair_with o ts h =
      same_steps (p ts) (joined_at q) (joined_at o) (λ x. ap (λ r. r >>= joined_with x.0) (h x.1))

module _ {A B C : Type 0} (p : List Token → Read A) (q : List Token → Read B) (r : List Token → Read C) where
  third_at : (x : A) (y : B × List Token)
      → ((r y.1 >>= joined_with y.0) >>= joined_with x)
      ≡ ((r y.1 >>= joined_with (x, y.0)) >>= built_at regrouped)
  third_at x y =
      steps_over (r y.1) (joined_with y.0) (joined_with x)
      ∙ sym (steps_over (r y.1) (joined_with (x, y.0)) (built_at regrouped))

  second_at : (x : A × List Token)
      → joined_at (pair q r) x ≡ ((joined_at q x >>= joined_at r) >>= built_at regrouped)
  second_at x =
      let others = λ (y : B × List Token). joined_at r ((x.0, y.0), y.1) in
      steps_over (q x.1) (joined_at r) (joined_with x.0)
      ∙ same_steps (q x.1) (λ y. joined_at r y >>= joined_with x.0) (λ y. others y >>= built_at regrouped)
      (third_at x.0)
      ∙ sym (steps_over (q x.1) others (built_at regrouped))
      ∙ sym (ap (λ s. s >>= built_at regrouped) (steps_over (q x.1) (joined_with x.0) (joined_at r)))

  -- three parts, the first two as one
  grouped : (ts : List Token) → pair p (pair q r) ts ≡ shaped regrouped (pair (pair p q) r) ts
  grouped ts =
      let both = λ (x : A × List Token). joined_at q x >>= joined_at r in
      same_steps (p ts) (joined_at (pair q r)) (λ x. both x >>= built_at regrouped) second_at
      ∙ sym (steps_over (p ts) both (built_at regrouped))
      ∙ sym (ap (λ s. s >>= built_at regrouped) (steps_over (p ts) (joined_at q) (joined_at r)))

-- three parts of which the first stands behind tokens
module _ {A B C : Type 0} (p : List Token → Read A) (q : List Token → Read B) (r : List Token → Read C) where
  grouped_behind : (o : List Token → Read (B × C)) (ws : List What) (ts : List Token)
      → ((us : List Token) → o us ≡ pair q r us)
      → behind_tokens ws (pair p o) ts ≡ shaped regrouped (pair (pair (behind_tokens ws p) q) r) ts
  grouped_behind o ws ts h =
      behind_first p o ws ts
      ∙ pair_with (behind_tokens ws p) o (pair q r) ts h
      ∙ grouped (behind_tokens ws p) q r ts

-- what is built of the same
grouped_on : {A B C : Type 0} (r o : Read ((A × B) × C))
    → r ≡ o → (r >>= built_at regrouped) ≡ (o >>= built_at regrouped)
grouped_on r o h = ap (λ s. s >>= built_at regrouped) h

built_on : {A C : Type 0} (ts : List Token) (build : Pos → A → C) (r o : Read A)
    → r ≡ o → (r >>= built_at (build (place_of ts))) ≡ (o >>= built_at (build (place_of ts)))
built_on ts build r o h = ap (λ s. s >>= built_at (build (place_of ts))) h

-- what is built of what is built
built_twice : {A B C : Type 0} (r : Read A) (f : A → B) (g : B → C)
    → ((r >>= built_at f) >>= built_at g) ≡ (r >>= built_at (λ x. g (f x)))
built_twice (Ok x) f g = refl
built_twice (Err d) f g = refl

-- ---- the statements

-- a part, and the end of its statement
abbrev pub ended_by : {A : Type 0} → Keyword → (List Token → Read A) → List Token → Read A
ended_by word = closed (Word KwEnd ∷ Word word ∷ Sign Semicolon ∷ [])

module _ (b : Bounds) (inner calls : List Token → Read PlainExpression)
    (blocks : List Token → Read PlainStatements) (ts : List Token) where
  pub branch_said : branch_with b inner calls blocks ts
      ≡ pair (between (Word KwIf) (Word KwThen) inner) blocks ts
  unfolding branch_with
  branch_said = between_first inner blocks (Word KwIf) (Word KwThen) ts

  pub while_said : while_with b inner calls blocks ts
      ≡ built while_of (pair (between (Word KwWhile) (Word KwDo) inner) (ended_by KwWhile blocks)) ts
  unfolding while_with
  while_said =
      built_on ts while_of _ _ (between_first inner (ended_by KwWhile blocks) (Word KwWhile) (Word KwDo) ts)

  pub case_said : case_with b inner calls blocks ts
      ≡ built case_of_parts
      (pair (between (Word KwCase) (Word KwOf) inner) (ended_by KwCase (arms_with b inner calls blocks))) ts
  unfolding case_with
  case_said =
      let cases : List Token → Read (List ArmParts) = ended_by KwCase (arms_with b inner calls blocks) in
      built_on ts case_of_parts _ _ (between_first inner cases (Word KwCase) (Word KwOf) ts)

  pub for_said : for_with b inner calls blocks ts
      ≡ built for_of_parts (pair (for_head inner) (ended_by KwFor blocks)) ts
  unfolding for_with
  for_said =
      let body : List Token → Read PlainStatements = ended_by KwFor blocks in
      let first : List Token → Read PlainExpression = between (Word KwFrom) (Word KwTo) inner in
      let last : List Token → Read PlainExpression = closed (Word KwDo ∷ []) inner in
      let tail = pair inner (behind_tokens (Word KwDo ∷ []) body) in
      let parts = pair (for_head inner) body in
      let range = behind_tokens (Word KwFrom ∷ []) (pair inner (behind_tokens (Word KwTo ∷ []) tail)) in
      built_on ts for_of _ _ (
      grouped_behind name_at first (pair last body) range (Word KwFor ∷ []) ts
      (λ us. between_first inner tail (Word KwFrom) (Word KwTo) us
      ∙ pair_with first tail (pair last body) us (closed_first inner body (Word KwDo ∷ [])))
      ∙ grouped_on _ _ (grouped (for_start inner) last body ts))
      ∙ built_twice (shaped regrouped parts ts) regrouped (for_of (place_of ts))
      ∙ built_twice (parts ts) regrouped (λ x. for_of (place_of ts) (regrouped x))

  pub arm_said : arm_with b inner calls blocks ts
      ≡ built arm_of (shaped regrouped (pair (arm_head b) blocks)) ts
  unfolding arm_with
  arm_said =
      let binds : List Token → Read (List (Bound Bytes)) =
      bracketed LeftParenthesis RightParenthesis (bound_at b) in
      let tail = pair binds (behind_tokens (Word KwDo ∷ []) blocks) in
      built_on ts arm_of _ _ (
      grouped_behind name_at (binds_end b) blocks tail (Word KwWhen ∷ []) ts
      (closed_first binds blocks (Word KwDo ∷ [])))

  pub borrow_in_said : (access : Access) → borrow_in_with b inner calls blocks access ts
      ≡ built (borrow_in_of_parts access) (pair (borrow_head access) (borrowed_block b inner calls blocks)) ts
  unfolding borrow_in_with
  borrow_in_said access =
      let body : List Token → Read (PlainStatements × Pos) = borrowed_block b inner calls blocks in
      let parts = pair (borrow_head access) body in
      let second : List Token → Read (Placed Bytes) = between (Word KwAs) (Word KwIn) name_at in
      let tail = behind_tokens (Word KwAs ∷ []) (pair name_at (behind_tokens (Word KwIn ∷ []) (pair name_at body))) in
      built_on ts (borrow_in_of access) _ _ (
      grouped_behind name_at second (pair name_at body) tail (borrow_whats access) ts
      (between_first name_at (pair name_at body) (Word KwAs) (Word KwIn))
      ∙ grouped_on _ _ (grouped (borrow_start access) name_at body ts))
      ∙ built_twice (shaped regrouped parts ts) regrouped (borrow_in_of access (place_of ts))
      ∙ built_twice (parts ts) regrouped (λ x. borrow_in_of access (place_of ts) (regrouped x))

  pub borrow_typed_said : borrow_typed_with b inner calls blocks ts
      ≡ built borrow_typed_of_parts (pair (typed_head b) (borrowed_block b inner calls blocks)) ts
  unfolding borrow_typed_with
  borrow_typed_said =
      let body : List Token → Read (PlainStatements × Pos) = borrowed_block b inner calls blocks in
      let parts = pair (typed_head b) body in
      let of : List Token → Read WrittenType = between (Sign Colon) (Sign Assign) (type_at b) in
      let tail = pair mode_at (pair name_at body) in
      let second = behind_tokens (Sign Colon ∷ []) (pair (type_at b) (behind_tokens (Sign Assign ∷ []) tail)) in
      let start : List Token → Read ((Placed Bytes × WrittenType) × BorrowMode) =
      pair (typed_start b) mode_at in
      built_on ts borrow_typed_of _ _ (
      grouped_behind name_at of tail second
      (Word KwBorrow ∷ []) ts
      (between_first (type_at b) tail (Sign Colon) (Sign Assign))
      ∙ grouped_on _ _ (
      grouped (typed_start b) mode_at (pair name_at body) ts
      ∙ grouped_on _ _ (grouped start name_at body ts)))
      ∙ built_twice (shaped regrouped (shaped regrouped parts) ts) regrouped (borrow_typed_of (place_of ts))
      ∙ built_twice (shaped regrouped parts ts) regrouped (λ x. borrow_typed_of (place_of ts) (regrouped x))
      ∙ built_twice (parts ts) regrouped (λ x. borrow_typed_of (place_of ts) (regrouped (regrouped x)))
