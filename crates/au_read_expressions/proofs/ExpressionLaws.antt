-- The laws of expressions where one level more is left than for the parts.
use Rattle.std.proofs.Common.{◌≡◌, ℕ, suc, ◌+◌, ◌<◌, ◌≤◌, Bool, true, false, ◌&&◌, max, cond, List, [], ◌∷◌}
use Rattle.std.proofs.Common.{◌++◌, length, drop, Option, Some, None, Ok, Err, refl, sym, ap, ◌∙◌, subst}
use Rattle.std.proofs.Common.{arith, inl, inr, ◌⊎◌, append_assoc}
use Rattle.std.specs.Prelude.{nat_le}
use Rattle.std.proofs.lemmas.Bool.{and_parts, and_from, leb-true, leb-false, cases_Bool, cond-true}
use Rattle.std.proofs.lemmas.Bool.{cond-false}
use Rattle.au_base.specs.declared.limits.Limit.{Limit}
use Rattle.au_base.specs.declared.places.Pos.{Pos}
use Rattle.au_base.specs.declared.tokens.Keyword.TheVariants.{KwIf, KwThen, KwElse, KwNot}
use Rattle.au_base.specs.declared.tokens.Sign.TheVariants.{Colon}
use Rattle.au_base.specs.declared.tokens.Token.{Token}
use Rattle.au_base.specs.declared.tokens.What.{What}
use Rattle.au_base.specs.declared.tokens.What.TheVariants.{Word, Sign}
use Rattle.au_base.proofs.BoolLemmas.{cond_cases}
use Rattle.au_syntax.specs.declared.expressions.BinaryOperator.{BinaryOperator}
use Rattle.au_syntax.specs.Depths.{expression_depth}
use Rattle.au_syntax.specs.Sizes.{expression_types}
use Rattle.au_syntax.specs.Types.{WrittenType}
use Rattle.au_syntax.specs.Expressions.{Node, binary, negation, typed, choice}
use Rattle.au_syntax.specs.Forms.{is_atom, formed_expression}
use Rattle.au_syntax.specs.Plain.{PlainExpression}
use Rattle.au_syntax.specs.Words.{Words, begun, mark, word, type_words, expression_words, operator_words}
use Rattle.au_read_expressions.specs.declared.faults.Fault.TheVariants.{Passed}
use Rattle.au_read_expressions.specs.Bounds.{Bounds, TreePasses, nesting_limit}
use Rattle.au_read_expressions.specs.Reading.{Read, ◌>>=◌, front, place_of, is_front, begins_with, read_of}
use Rattle.au_read_expressions.specs.Reading.{behind_tokens, pair}
use Rattle.au_read_expressions.specs.Spelling.{Begins, fixed}
use Rattle.au_read_expressions.proofs.Steps.{not_read, bind_ok, begins_is}
use Rattle.au_read_expressions.proofs.Begins.{begins_split, begins_join, begun_split, begun_join, front_of}
use Rattle.au_read_expressions.proofs.Forms.{Form, Sound, Finds, Reads, behind_form, behind_reads, pair_form}
use Rattle.au_read_expressions.proofs.Forms.{pair_behind, finds_on, sound_of}
use Rattle.au_read_expressions.proofs.Limits.{TreeFits, first_passes, one_fits, one_passes, two_fit, two_pass}
use Rattle.au_read_expressions.proofs.Limits.{type_fits_behind, type_passes_behind, beside_fit, beside_passes}
use Rattle.au_read_expressions.specs.TypeReading.{type_at, ends_type}
use Rattle.au_read_expressions.specs.ExpressionReading.{site, negation_of, choice_of, choice_with}
use Rattle.au_read_expressions.specs.ExpressionReading.{begins_atom, operator_of, atom_with, binary_of}
use Rattle.au_read_expressions.specs.ExpressionReading.{typed_of, continued_by, continued, expression_by}
use Rattle.au_read_expressions.specs.ExpressionReading.{expression_with, ends_atom, ends_expression}
use Rattle.au_read_expressions.proofs.TypeForm.{type_form}
use Rattle.au_read_expressions.proofs.ExpressionForm.{expression_form, atom_form, before_some}
use Rattle.au_read_expressions.proofs.ExpressionForm.{expression_some, atom_begins, binary_good, good_binary}
use Rattle.au_read_expressions.proofs.ExpressionForm.{ends_both, ends_operator, ends_colon, ends_bracket}
use Rattle.au_read_expressions.proofs.ExpressionForm.{operator_what, operator_fixed, operator_there}
use Rattle.au_read_expressions.proofs.ExpressionForm.{operator_ends, operator_back}
use Rattle.au_read_expressions.proofs.RowLaws.{Row, row}
use Rattle.au_read_expressions.proofs.AtomLaws.{atom_with_reads}

-- ---- a choice

choice_words : (at : Pos) (c a z : PlainExpression)
    → begun at (word KwIf ++ expression_words c ++ word KwThen ++ expression_words a ++ word KwElse
    ++ expression_words z)
    ≡ begun at (word KwIf ++ (expression_words c
    ++ (word KwThen ++ (expression_words a ++ (word KwElse ++ expression_words z)))))
choice_words at c a z =
    let cs : Words = expression_words c in
    let az : Words = expression_words a in
    let zs : Words = expression_words z in
    ap (λ ws. begun at (word KwIf ++ ws)) (
    append_assoc (cs ++ word KwThen ++ az) (word KwElse) zs ∙ append_assoc (cs ++ word KwThen) az
    (word KwElse ++ zs) ∙ append_assoc cs (word KwThen) (az ++ (word KwElse ++ zs)))

choice_good : (x y z : Bool) → (x && y && z) ≡ (x && (y && z))
choice_good true y z = refl
choice_good false y z = refl

-- the types of three parts
three_types : (c a z : PlainExpression) → expression_types c ++ expression_types a ++ expression_types z
    ≡ expression_types c ++ (expression_types a ++ expression_types z)
three_types c a z = append_assoc (expression_types c) (expression_types a) (expression_types z)

module _ (b : Bounds) (n : ℕ) (r q : List Token → Read PlainExpression)
    (inner : Reads (expression_form b n) ends_expression r) (atoms : Reads (atom_form b n) ends_atom q) where
  negation_row : Row (expression_form b (suc n)) ends_atom negation_of (behind_tokens (Word KwNot ∷ []) q)
  negation_row = row (behind_form (atom_form b n) (Word KwNot ∷ [])) (expression_form b (suc n)) ends_atom
      (behind_tokens (Word KwNot ∷ []) q)
      (behind_reads (atom_form b n) ends_atom q atoms (Word KwNot ∷ [])) negation_of (record {
        words = λ at e. refl;
        some = λ e. omega arith;
        good_to = λ at e g. g;
        good_from = λ at e g. g;
        fits = λ at e f. one_fits b n (expression_depth e) (expression_types e) f;
        passes = λ at e l p. one_passes b n (expression_depth e) (expression_types e) l p;
      })

  abbrev last_form : Form PlainExpression
  last_form = behind_form (expression_form b n) (Word KwElse ∷ [])

  abbrev ways_form : Form (PlainExpression × PlainExpression)
  ways_form = pair_form (expression_form b n) last_form

  abbrev ways_at : List Token → Read (PlainExpression × PlainExpression)
  ways_at = pair r (behind_tokens (Word KwElse ∷ []) r)

  ways_reads : Reads ways_form ends_expression ways_at
  ways_reads = pair_behind (expression_form b n) (expression_form b n) ends_expression ends_expression r inner
      r inner (Word KwElse) [] refl

  abbrev choice_form : Form (PlainExpression × (PlainExpression × PlainExpression))
  choice_form = behind_form (pair_form (expression_form b n) (behind_form ways_form (Word KwThen ∷ [])))
      (Word KwIf ∷ [])

  abbrev choice_parts : List Token → Read (PlainExpression × (PlainExpression × PlainExpression))
  choice_parts = behind_tokens (Word KwIf ∷ []) (pair r (behind_tokens (Word KwThen ∷ []) ways_at))

  choice_reads : Reads choice_form ends_expression choice_parts
  choice_reads = behind_reads (pair_form (expression_form b n) (behind_form ways_form (Word KwThen ∷ [])))
      ends_expression (pair r (behind_tokens (Word KwThen ∷ []) ways_at))
      (pair_behind (expression_form b n) ways_form ends_expression ends_expression r inner ways_at ways_reads
      (Word KwThen) [] refl) (Word KwIf ∷ [])

  abbrev ways_depth : PlainExpression → PlainExpression → ℕ
  ways_depth a z = max (expression_depth a) (expression_depth z)

  choice_fits : (at : Pos) (c a z : PlainExpression) → (expression_form b n).Fits c →
      (expression_form b n).Fits a → (expression_form b n).Fits z
      → (expression_form b (suc n)).Fits (choice (site at) c a z)
  choice_fits at c a z f g h =
      subst (TreeFits b (suc n) (1 + max (expression_depth c) (ways_depth a z))) (sym (three_types c a z)) (
      two_fit b n (expression_depth c) (ways_depth a z) (expression_types c)
      (expression_types a ++ expression_types z) f (
      beside_fit b n (expression_depth a) (expression_depth z) (expression_types a) (expression_types z) g h))

  choice_passes : (at : Pos) (c a z : PlainExpression) (l : Limit)
      → (expression_form b n).Passes c l
      ⊎ ((expression_form b n).Passes a l ⊎ (expression_form b n).Passes z l) →
      (expression_form b (suc n)).Passes (choice (site at) c a z) l
  choice_passes at c a z l p =
      subst (λ ts. TreePasses b (suc n) (1 + max (expression_depth c) (ways_depth a z)) ts l)
      (sym (three_types c a z)) (
      two_pass b n (expression_depth c) (ways_depth a z) (expression_types c)
      (expression_types a ++ expression_types z) l (
      elim p [
        | inl x ↦ inl x
        | inr x ↦ inr (beside_passes b n (expression_depth a) (expression_depth z) (expression_types a)
            (expression_types z) l x)
      ]))

  choice_row : Row (expression_form b (suc n)) ends_expression choice_of choice_parts
  choice_row = row choice_form (expression_form b (suc n)) ends_expression choice_parts choice_reads choice_of (record {
    words = λ at x. choice_words at x.0 x.1.0 x.1.1;
    some = λ x. omega arith;
    good_to = λ at x g. choice_good (formed_expression x.0) (formed_expression x.1.0) (formed_expression x.1.1) ∙ g;
    good_from = λ at x g. sym (choice_good (formed_expression x.0) (formed_expression x.1.0)
        (formed_expression x.1.1)) ∙ g;
    fits = λ at x f. choice_fits at x.0 x.1.0 x.1.1 f.0 f.1.0 f.1.1;
    passes = λ at x l p. choice_passes at x.0 x.1.0 x.1.1 l p;
  })

-- ---- tokens behind an atom

front_take : (what : What) (ts : List Token) → front ts ≡ Some what → Begins (fixed (what ∷ [])) ts (drop 1 ts)
front_take what [] is = absurd cc
front_take what (t ∷ ts) is = ((let same : t.what ≡ what = cc in same, tt), refl)

colon_take : (ts : List Token) → begins_with (Sign Colon) ts ≡ true → Begins (mark Colon) ts (drop 1 ts)
colon_take ts is = let m = begins_is (Sign Colon) ts is in subst (λ x. Begins (mark Colon) x (drop 1 ts))
    (sym m.2) ((m.1, tt), refl)

behind_one : (what : What) (ts rest : List Token) → Begins (fixed (what ∷ [])) ts rest →
    (front ts ≡ Some what) × (drop 1 ts ≡ rest)
behind_one what [] rest h = absurd h
behind_one what (t ∷ ts) rest h = (ap (λ x. Some x) h.0.0, h.1)

module _ (b : Bounds) (types : Reads (type_form b) ends_type (type_at b)) (n : ℕ)
    (r q : List Token → Read PlainExpression) (inner : Reads (expression_form b n) ends_expression r)
    (atoms : Reads (atom_form b n) ends_atom q) where
  -- the first atom of an expression
  level : Reads (atom_form b (suc n)) ends_atom (atom_with r q)
  level = atom_with_reads b n r q inner atoms

  -- ---- what is read

  binary_sound : (op : BinaryOperator) (a z : PlainExpression) (ts mid rest : List Token) →
      Sound (atom_form b (suc n)) a ts mid → expression_depth a ≤ n → operator_of (front mid) ≡ Some op
      → Sound (atom_form b n) z (drop 1 mid) rest →
      Sound (expression_form b (suc n)) (binary (site (place_of ts)) op a z) ts rest
  binary_sound op a z ts mid rest s small is t =
      let sign : Begins (operator_words op) mid (drop 1 mid) = subst (λ ws. Begins ws mid (drop 1 mid))
      (sym (operator_fixed op)) (front_take (operator_what op) mid (operator_back (front mid) op is)) in
      record {
        spelled = begun_join (expression_words a ++ operator_words op ++ expression_words z) ts rest (
            begins_join (expression_words a ++ operator_words op) (expression_words z) ts (drop 1 mid) rest (
            begins_join (expression_words a) (operator_words op) ts mid (drop 1 mid) s.spelled sign) t.spelled);
        good = good_binary a z s.good t.good;
        fits = two_fit b n (expression_depth a) (expression_depth z) (expression_types a) (expression_types z)
            (small, s.fits.1) t.fits;
      }

  typed_sound : (a : PlainExpression) (t : WrittenType) (ts mid rest : List Token) →
      Sound (atom_form b (suc n)) a ts mid → expression_depth a ≤ n → begins_with (Sign Colon) mid ≡ true
      → Sound (type_form b) t (drop 1 mid) rest →
      Sound (expression_form b (suc n)) (typed (site (place_of ts)) a t) ts rest
  typed_sound a t ts mid rest s small is u =
      record {
        spelled = begun_join (expression_words a ++ mark Colon ++ type_words t) ts rest (
            begins_join (expression_words a ++ mark Colon) (type_words t) ts (drop 1 mid) rest (
            begins_join (expression_words a) (mark Colon) ts mid (drop 1 mid) s.spelled (colon_take mid is)) u.spelled);
        good = s.good;
        fits = type_fits_behind b (suc n) (1 + expression_depth a) (expression_types a) t
            (one_fits b n (expression_depth a) (expression_types a) (small, s.fits.1)) u.fits;
      }

  continued_take : (o : Option BinaryOperator) (colon : Bool) (a : PlainExpression) (ts mid rest : List Token)
      (y : PlainExpression) → operator_of (front mid) ≡ o → begins_with (Sign Colon) mid ≡ colon
      → Sound (atom_form b (suc n)) a ts mid → continued_by r q b n o colon (place_of ts) (a, mid)
      ≡ Ok (y, rest) → Sound (expression_form b (suc n)) y ts rest
  continued_take (Some op) colon a ts mid rest y is colon_is s e =
      elim (cond_cases (nat_le (expression_depth a) n)
      (q (drop 1 mid) >>= binary_of r q b n (place_of ts) op a)
      (Err (Passed (nesting_limit b) (length mid))) (read_of y rest) e) [
        | inl w ↦
            let c = bind_ok (q (drop 1 mid)) (binary_of r q b n (place_of ts) op a) (y, rest) w.1 in
            sound_of (expression_form b (suc n)) (binary (site (place_of ts)) op a c.0.0) y ts c.0.1 rest
            (binary_sound op a c.0.0 ts mid c.0.1 s (leb-true (expression_depth a) n w.0) is
            (atoms.sound (drop 1 mid) c.0.1 c.0.0 c.1)) c.2
        | inr w ↦ absurd (not_read _ (y, rest) w.1)
      ]
  continued_take None true a ts mid rest y is colon_is s e =
      elim (cond_cases (nat_le (expression_depth a) n)
      (type_at b (drop 1 mid) >>= typed_of r q b n (place_of ts) a)
      (Err (Passed (nesting_limit b) (length mid))) (read_of y rest) e) [
        | inl w ↦
            let c = bind_ok (type_at b (drop 1 mid)) (typed_of r q b n (place_of ts) a) (y, rest) w.1 in
            sound_of (expression_form b (suc n)) (typed (site (place_of ts)) a c.0.0) y ts c.0.1 rest
            (typed_sound a c.0.0 ts mid c.0.1 s (leb-true (expression_depth a) n w.0) colon_is
            (types.sound (drop 1 mid) c.0.1 c.0.0 c.1)) c.2
        | inr w ↦ absurd (not_read _ (y, rest) w.1)
      ]
  continued_take None false a ts mid rest y is colon_is s e =
      sound_of (expression_form b (suc n)) a y ts mid rest
      (record {
        spelled = s.spelled;
        good = (and_parts (is_atom a) (formed_expression a) s.good).1;
        fits =
            s.fits;
      }) e

  expression_take : (first : Option What) (ts rest : List Token) (e : PlainExpression) →
      expression_by r q b n first ts ≡ Ok (e, rest) → Sound (expression_form b (suc n)) e ts rest
  unfolding choice_with
  expression_take (Some (Word KwNot)) ts rest e is = (negation_row b n r q inner atoms).sound ts rest e is
  expression_take (Some (Word KwIf)) ts rest e is = (choice_row b n r q inner atoms).sound ts rest e is
  expression_take first ts rest e is =
      let k = bind_ok (atom_with r q ts) (continued r q b n (place_of ts)) (e, rest) is in
      continued_take (operator_of (front k.0.1)) (begins_with (Sign Colon) k.0.1) k.0.0 ts k.0.1 rest e refl
      refl (level.sound ts k.0.1 k.0.0 k.1) k.2

  -- ---- what is spelled

  atom_by_first : (first : Option What) (ts : List Token) → begins_atom first ≡ true →
      expression_by r q b n first ts ≡ (atom_with r q ts >>= continued r q b n (place_of ts))
  atom_by_first (Some (Word KwNot)) ts h = absurd cc
  atom_by_first (Some (Word KwIf)) ts h = absurd cc
  atom_by_first first ts h = refl

  -- an atom alone
  alone : (e : PlainExpression) (at : Pos) (rest : List Token) → ends_expression (front rest) ≡ true →
      continued r q b n at (e, rest) ≡ read_of e rest
  alone e at rest ends =
      ap (λ o. continued_by r q b n o (begins_with (Sign Colon) rest) at (e, rest)) (ends_operator (front rest) ends)
      ∙ ap (λ colon. continued_by r q b n None colon at (e, rest)) (ends_colon (front rest) ends)

  alone_found : (e : PlainExpression) (ts rest : List Token) → Begins (expression_words e) ts rest →
      is_atom e ≡ true → formed_expression e ≡ true → ends_expression (front rest) ≡ true
      → Finds (expression_form b (suc n)) e rest (expression_by r q b n (front ts) ts)
  alone_found e ts rest h atom good ends =
      subst (Finds (expression_form b (suc n)) e rest)
      (sym (atom_by_first (front ts) ts (atom_begins e ts rest h atom))) (
      finds_on (atom_form b (suc n)) (expression_form b (suc n)) e rest (atom_with r q ts)
      (continued r q b n (place_of ts)) e rest
      (level.found e ts rest h (and_from (is_atom e) (formed_expression e) atom good) (ends_both (front rest) ends))
      (λ l p. p)
      (inl (alone e (place_of ts) rest ends)))

  -- an atom that goes on with an operator
  binary_goes_on : (at : Pos) (op : BinaryOperator) (a z : PlainExpression) (ts mid next rest : List Token) →
      place_of ts ≡ at → operator_of (front mid) ≡ Some op → drop 1 mid ≡ next
      → Begins (expression_words z) next rest → (is_atom z && formed_expression z) ≡ true →
      ends_atom (front rest) ≡ true
      → Finds (expression_form b (suc n)) (binary (site at) op a z) rest (continued r q b n (place_of ts) (a, mid))
  binary_goes_on at op a z ts mid next rest here is there h good ends =
      let read : Read PlainExpression = q (drop 1 mid) >>= binary_of r q b n (place_of ts) op a in
      let fault : Read PlainExpression = Err (Passed (nesting_limit b) (length mid)) in
      let way : continued r q b n (place_of ts) (a, mid) ≡ cond (nat_le (expression_depth a) n) read fault =
      ap (λ o. continued_by r q b n o (begins_with (Sign Colon) mid) (place_of ts) (a, mid)) is in
      elim (cases_Bool (nat_le (expression_depth a) n)) [
        | inl short ↦
            subst (Finds (expression_form b (suc n)) (binary (site at) op a z) rest)
            (sym (way ∙ cond-true (nat_le (expression_depth a) n) read fault short)) (
            finds_on (atom_form b n) (expression_form b (suc n)) z rest (q (drop 1 mid))
            (binary_of r q b n (place_of ts) op a) (binary (site at) op a z) rest
            (subst (λ x. Finds (atom_form b n) z rest (q x)) (sym there) (atoms.found z next rest h good ends))
            (λ l p. two_pass b n (expression_depth a) (expression_depth z) (expression_types a)
            (expression_types z) l (inr p))
            (inl (ap (λ p. read_of (binary (site p) op a z) rest) here)))
        | inr long ↦
            let deep : n < expression_depth a = leb-false (expression_depth a) n long in
            inr (
              nesting_limit b,
              length mid,
              way ∙ cond-false (nat_le (expression_depth a) n) read fault
                  long,
              inl (omega (arith, deep), refl),
            )
      ]

  -- a limit that the first atom passes
  first_passes_all : (a z : PlainExpression) (l : Limit) → (atom_form b (suc n)).Passes a l
      → TreePasses b (suc n) (1 + max (expression_depth a) (expression_depth z))
      (expression_types a ++ expression_types z) l
  first_passes_all a z l p =
      elim p [
        | inl x ↦ inl (omega (arith, x.0), x.1)
        | inr x ↦ inr
            (first_passes b (expression_types a) (expression_types z) l x)
      ]

  binary_found : (node : Node (Unit {0})) (op : BinaryOperator) (a z : PlainExpression) (ts rest : List Token)
      → Begins (expression_words (binary node op a z)) ts rest → formed_expression (binary node op a z) ≡ true
      → ends_expression (front rest) ≡ true → Finds (expression_form b (suc n)) (binary node op a z) rest
      (expression_by r q b n (front ts) ts)
  binary_found node op a z ts rest h good ends =
      let ws : Words = expression_words a ++ operator_words op ++ expression_words z in
      let some : 0 < length ws = before_some (expression_words a ++ operator_words op) (expression_words z)
      (before_some (expression_words a) (operator_words op) (expression_some a)) in
      let whole = begun_split node.at ws ts rest some h in
      let outer = begins_split (expression_words a ++ operator_words op) (expression_words z) ts rest whole.1 in
      let inside = begins_split (expression_words a) (operator_words op) ts outer.0 outer.1 in
      let sign = behind_one (operator_what op) inside.0 outer.0
      (subst (λ x. Begins x inside.0 outer.0) (operator_fixed op) inside.2) in
      let g = binary_good a z good in
      subst (Finds (expression_form b (suc n)) (binary node op a z) rest)
      (sym (atom_by_first (front ts) ts
      (atom_begins a ts inside.0 inside.1 (and_parts (is_atom a) (formed_expression a) g.0).0))) (
      finds_on (atom_form b (suc n)) (expression_form b (suc n)) a inside.0 (atom_with r q ts)
      (continued r q b n (place_of ts)) (binary node op a z) rest
      (level.found a ts inside.0 inside.1 g.0 (ap ends_atom sign.0 ∙ operator_ends op))
      (first_passes_all a z)
      (binary_goes_on node.at op a z ts inside.0 outer.0 rest whole.0
      (ap operator_of sign.0 ∙ operator_there op) sign.1 outer.2 g.1 (ends_both (front rest) ends)))

  -- an atom that goes on with a type
  typed_goes_on : (at : Pos) (a : PlainExpression) (t : WrittenType) (ts mid next rest : List Token) →
      place_of ts ≡ at → front mid ≡ Some (Sign Colon) → drop 1 mid ≡ next
      → Begins (type_words t) next rest → ends_type (front rest) ≡ true →
      Finds (expression_form b (suc n)) (typed (site at) a t) rest
      (continued r q b n (place_of ts) (a, mid))
  typed_goes_on at a t ts mid next rest here is there h ends =
      let read : Read PlainExpression = type_at b (drop 1 mid) >>= typed_of r q b n (place_of ts) a in
      let fault : Read PlainExpression = Err (Passed (nesting_limit b) (length mid)) in
      let way : continued r q b n (place_of ts) (a, mid) ≡ cond (nat_le (expression_depth a) n) read fault =
      ap (λ w. continued_by r q b n (operator_of w) (is_front (Sign Colon) w) (place_of ts) (a, mid)) is in
      elim (cases_Bool (nat_le (expression_depth a) n)) [
        | inl short ↦
            subst (Finds (expression_form b (suc n)) (typed (site at) a t) rest)
            (sym (way ∙ cond-true (nat_le (expression_depth a) n) read fault short)) (
            finds_on (type_form b) (expression_form b (suc n)) t rest (type_at b (drop 1 mid))
            (typed_of r q b n (place_of ts) a) (typed (site at) a t) rest
            (subst (λ x. Finds (type_form b) t rest (type_at b x)) (sym there) (types.found t next rest h refl ends))
            (λ l p. type_passes_behind b (suc n) (1 + expression_depth a) (expression_types a) t l (inr p))
            (inl (ap (λ p. read_of (typed (site p) a t) rest) here)))
        | inr long ↦
            let deep : n < expression_depth a = leb-false (expression_depth a) n long in
            inr (
              nesting_limit b,
              length mid,
              way ∙ cond-false (nat_le (expression_depth a) n) read fault
                  long,
              inl (omega (arith, deep), refl),
            )
      ]

  typed_passes : (a : PlainExpression) (t : WrittenType) (l : Limit) → (atom_form b (suc n)).Passes a l →
      TreePasses b (suc n) (1 + expression_depth a) (expression_types a ++ t ∷ []) l
  typed_passes a t l p =
      elim p [ inl x ↦ inl (omega (arith, x.0), x.1) | inr x ↦ inr (first_passes b (expression_types a) (t ∷ []) l x) ]

  typed_found : (node : Node (Unit {0})) (a : PlainExpression) (t : WrittenType) (ts rest : List Token) →
      Begins (expression_words (typed node a t)) ts rest → formed_expression (typed node a t) ≡ true
      → ends_expression (front rest) ≡ true → Finds (expression_form b (suc n)) (typed node a t) rest
      (expression_by r q b n (front ts) ts)
  typed_found node a t ts rest h good ends =
      let ws : Words = expression_words a ++ mark Colon ++ type_words t in
      let some : 0 < length ws = before_some (expression_words a ++ mark Colon) (type_words t)
      (before_some (expression_words a) (mark Colon) (expression_some a)) in
      let whole = begun_split node.at ws ts rest some h in
      let outer = begins_split (expression_words a ++ mark Colon) (type_words t) ts rest whole.1 in
      let inside = begins_split (expression_words a) (mark Colon) ts outer.0 outer.1 in
      let sign = behind_one (Sign Colon) inside.0 outer.0 inside.2 in
      subst (Finds (expression_form b (suc n)) (typed node a t) rest)
      (sym (atom_by_first (front ts) ts
      (atom_begins a ts inside.0 inside.1 (and_parts (is_atom a) (formed_expression a) good).0))) (
      finds_on (atom_form b (suc n)) (expression_form b (suc n)) a inside.0 (atom_with r q ts)
      (continued r q b n (place_of ts)) (typed node a t) rest
      (level.found a ts inside.0 inside.1 good (ap ends_atom sign.0))
      (typed_passes a t)
      (typed_goes_on node.at a t ts inside.0 outer.0 rest whole.0 sign.0 sign.1 outer.2
      (ends_bracket (front rest) ends)))

  expression_chosen : (e : PlainExpression) (ts rest : List Token) → Begins (expression_words e) ts rest →
      formed_expression e ≡ true → ends_expression (front rest) ≡ true
      → Finds (expression_form b (suc n)) e rest (expression_by r q b n (front ts) ts)
  unfolding choice_with
  expression_chosen (binary node op a z) ts rest h good ends = binary_found node op a z ts rest h good ends
  expression_chosen (typed node a t) ts rest h good ends = typed_found node a t ts rest h good ends
  expression_chosen (negation node e) ts rest h good ends =
      subst (Finds (expression_form b (suc n)) (negation node e) rest)
      (sym (ap (λ w. expression_by r q b n w ts)
      (front_of (expression_words (negation node e)) ts rest (omega arith) h)))
      ((negation_row b n r q inner atoms).found node.at e ts rest h good (ends_both (front rest) ends))
  expression_chosen (choice node c a z) ts rest h good ends =
      subst (Finds (expression_form b (suc n)) (choice node c a z) rest)
      (sym (ap (λ w. expression_by r q b n w ts)
      (front_of (expression_words (choice node c a z)) ts rest (expression_some (choice node c a z)) h)))
      ((choice_row b n r q inner atoms).found node.at (c, (a, z)) ts rest h good ends)
  expression_chosen e ts rest h good ends = alone_found e ts rest h refl good ends

  -- the laws of expressions where one level more is left
  pub expression_with_reads : Reads (expression_form b (suc n)) ends_expression (expression_with r q b n)
  unfolding expression_with
  expression_with_reads = record {
    sound = λ ts rest e is. expression_take (front ts) ts rest e is;
    found = λ e ts rest h good ends. expression_chosen e ts rest h good ends;
  }
