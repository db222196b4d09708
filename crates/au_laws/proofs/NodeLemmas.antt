-- What single steps of the search over noted operands tell, and which operand fails of two.
use Rattle.std.proofs.Common.{◌≡◌, ◌⊎◌, inl, inr, Bool, true, false, List, [], ◌∷◌, refl, sym, ap, subst, ◌∙◌}
use Rattle.std.proofs.Common.{Some, None, Ok, Err, neg_ℤ, if◌then◌else◌}
use Rattle.au_syntax.specs.declared.expressions.BinaryOperator.{BinaryOperator}
use Rattle.au_syntax.specs.declared.expressions.BinaryOperator.TheVariants.{And, Or}
use Rattle.au_syntax.specs.Expressions.{Node, number, negative, text, truth, nil, path, arrow, call}
use Rattle.au_syntax.specs.Expressions.{named_call, parenthesized, dereference, borrow, borrow_part, binary}
use Rattle.au_syntax.specs.Expressions.{negation, typed, choice}
use Rattle.au_syntax.specs.Plain.{PlainExpression}
use Rattle.au_types.specs.Types as mean
use Rattle.au_types.specs.Types.{Meaning}
use Rattle.au_typing.specs.Scopes.{Scope}
use Rattle.au_typing.specs.Bare.{is_arithmetic, is_bare}
use Rattle.au_typing.specs.Faults.{Fault, Noting, ◌>>=◌, unknown}
use Rattle.au_typing.specs.Good.{IsNoting}
use Rattle.au_typing.specs.Lookups.{value_type, variable_type}
use Rattle.au_typing.specs.Notes.{Mode, Note, NotedExpression, mode_of, noted_at, type_of}
use Rattle.au_typing.specs.Operands.{before, behind_it, of_one_type, paired}
use Rattle.au_typing.specs.Order.{JudgedNext, Paired, both_bare_first, none_bare_first, left_first}
use Rattle.au_typing.specs.Order.{right_first, both_bare_next, none_bare_next, right_next, left_next}
use Rattle.au_typing.specs.Rules.{is_logical, noted}
use Rattle.au_typing.specs.Search.{arrow_note, borrow_part_note, borrowed, literal_note, note_expression, path_note}
use Rattle.au_typing.proofs.FoundParts.{paired_found}
use Rattle.au_typing.proofs.Refused.{noting_is_given}
use Rattle.au_typing.proofs.Sound.{sound}
use Rattle.au_typing.proofs.SoundParts.{paired_sound}
use Rattle.au_typing.proofs.Steps.{bind_found}
use Rattle.au_typing.proofs.OrderLemmas.{bind_fails}
use Rattle.au_laws.specs.Clauses.{Clause, TellsFirst, has_type}
use Rattle.au_laws.specs.FirstFaults.{FirstFault, PairNoted, a_leaf, of_a_part, of_the_node}
use Rattle.au_laws.specs.NodeClauses.{of_arrow, of_borrow, of_borrowed_part, of_leaf, of_path}
use Rattle.au_laws.proofs.ClauseLemmas.{Tells, arrow_tells, bind_failed, borrow_part_tells}
use Rattle.au_laws.proofs.ClauseLemmas.{borrow_tells, fails_first, first_fails, known_tells, literal_tells}
use Rattle.au_laws.proofs.ClauseLemmas.{noted_tells, path_tells}

pub not_logical : (op : BinaryOperator) → is_arithmetic op ≡ true → is_logical op ≡ false
not_logical And h = absurd cc
not_logical Or h = absurd cc
not_logical op h = refl

-- what is noted of an expression
abbrev pub Telling : Scope → PlainExpression → Type 0
Telling scope e =
    (mode : Mode) (f : Fault) → note_expression scope e mode ≡ Err f → FirstFault scope e mode f

module _ (scope : Scope) where
  -- ---- expressions without operands

  abbrev is_leaf : PlainExpression → Bool
  is_leaf (number u l) = true
  is_leaf (negative u l) = true
  is_leaf (text u t) = true
  is_leaf (truth u b) = true
  is_leaf (nil u) = true
  is_leaf (path u x fields) = true
  is_leaf (arrow u x fields) = true
  is_leaf (borrow u m x) = true
  is_leaf (borrow_part u x fields) = true
  is_leaf e = false

  leaf_tells : (e : PlainExpression) (mode : Mode) → is_leaf e ≡ true
      → Tells (note_expression scope e mode) (of_leaf scope e mode)
  leaf_tells (number u l) mode h = literal_tells mode l.value (λ n. Ok (number (noted_at u n) l)) (λ n. refl)
  leaf_tells (negative u l) mode h =
      literal_tells mode (neg_ℤ l.value) (λ n. Ok (negative (noted_at u n) l)) (λ n. refl)
  leaf_tells (text u t) mode h = noted_tells mode mean.text (λ n. Ok (text (noted_at u n) t)) [] (λ n. refl)
  leaf_tells (truth u b) mode h = noted_tells mode mean.truth (λ n. Ok (truth (noted_at u n) b)) [] (λ n. refl)
  leaf_tells (nil u) mode h = noted_tells mode mean.unit (λ n. Ok (nil (noted_at u n))) [] (λ n. refl)
  leaf_tells (path u x fields) mode h =
      known_tells (unknown x.name) (value_type scope x.name)
      (λ t. path_note scope mode fields t >>= λ n. Ok (path (noted_at u n) x fields)) (of_path scope mode fields)
      (λ t. path_tells scope mode fields t (λ n. Ok (path (noted_at u n) x fields)) (λ n. refl))
  leaf_tells (arrow u x fields) mode h =
      known_tells (unknown x.name) (value_type scope x.name)
      (λ t. arrow_note scope mode fields t >>= λ n. Ok (arrow (noted_at u n) x fields))
      (of_arrow scope mode fields)
      (λ t. arrow_tells scope mode fields t (λ n. Ok (arrow (noted_at u n) x fields)) (λ n. refl))
  leaf_tells (borrow u m x) mode h =
      known_tells (unknown x.name) (variable_type scope x.name)
      (λ t. borrowed m t >>= λ of. noted mode of >>= λ n. Ok (borrow (noted_at u n) m x)) (of_borrow m mode)
      (λ t. borrow_tells m mode t (λ n. Ok (borrow (noted_at u n) m x)) (λ n. refl))
  leaf_tells (borrow_part u x fields) mode h =
      known_tells (unknown x.name) (value_type scope x.name)
      (λ t. borrow_part_note scope mode fields t >>= λ n. Ok (borrow_part (noted_at u n) x fields))
      (of_borrowed_part scope mode fields)
      (λ t. borrow_part_tells scope mode fields t (λ n. Ok (borrow_part (noted_at u n) x fields)) (λ n. refl))
  leaf_tells e mode h = absurd cc

  pub leaf_failed : (e : PlainExpression) (mode : Mode) (f : Fault) → is_leaf e ≡ true
      → note_expression scope e mode ≡ Err f → FirstFault scope e mode f
  leaf_failed e mode f is h =
      of_the_node e mode f (a_leaf e mode f
      (fails_first (note_expression scope e mode) (of_leaf scope e mode) f (leaf_tells e mode is) h))

  by_leaf : (b : Bool) (e : PlainExpression) (mode : Mode) (f : Fault) → is_leaf e ≡ b
      → (is_leaf e ≡ false → of_leaf scope e mode ≡ []) → TellsFirst (of_leaf scope e mode) f
      → note_expression scope e mode ≡ Err f
  by_leaf true e mode f is none h =
      first_fails (note_expression scope e mode) (of_leaf scope e mode) f (leaf_tells e mode is) h
  by_leaf false e mode f is none h = absurd (subst (λ (cs : List Clause). TellsFirst cs f) (none is) h)

  no_clauses : (e : PlainExpression) (mode : Mode) → is_leaf e ≡ false → of_leaf scope e mode ≡ []
  no_clauses (number u l) mode h = absurd cc
  no_clauses (negative u l) mode h = absurd cc
  no_clauses (text u t) mode h = absurd cc
  no_clauses (truth u b) mode h = absurd cc
  no_clauses (nil u) mode h = absurd cc
  no_clauses (path u x fields) mode h = absurd cc
  no_clauses (arrow u x fields) mode h = absurd cc
  no_clauses (borrow u m x) mode h = absurd cc
  no_clauses (borrow_part u x fields) mode h = absurd cc
  no_clauses e mode h = refl

  pub leaf_fails : (e : PlainExpression) (mode : Mode) (f : Fault) → TellsFirst (of_leaf scope e mode) f
      → note_expression scope e mode ≡ Err f
  leaf_fails e mode f h = by_leaf (is_leaf e) e mode f refl (no_clauses e mode) h

  -- ---- one operand

  pub one_operand : (e d : PlainExpression) (mode own : Mode) (next : NotedExpression → Noting NotedExpression)
      (f : Fault) → JudgedNext scope e mode d own → Telling scope d
      → ((x : NotedExpression) → IsNoting scope d own x → next x ≡ Err f → FirstFault scope e mode f)
      → (note_expression scope d own >>= next) ≡ Err f → FirstFault scope e mode f
  one_operand e d mode own next f judged of_part of_rest h =
      by (bind_failed (note_expression scope d own) next f h)
    where
      by : (note_expression scope d own ≡ Err f)
          ⊎ ((x : NotedExpression) × (note_expression scope d own ≡ Ok x) × (next x ≡ Err f))
          → FirstFault scope e mode f
      by (inl failed) = of_a_part e d mode own f judged (of_part own f failed)
      by (inr z) = of_rest z.0 (sound scope d own z.0 z.1) z.2

  -- ---- two paired operands

  pub pair_given : (a b : PlainExpression) (mode : Mode) (x y : NotedExpression) → PairNoted scope a b mode x y
      → paired (is_bare a) (is_bare b) (note_expression scope a) (note_expression scope b) mode ≡ Ok (x, y)
  pair_given a b mode x y p =
      paired_found (is_bare a) (is_bare b) (note_expression scope a) (note_expression scope b) mode x y
      (noting_is_given scope a (mode_of x) x (p.first, refl, p.first_is))
      (noting_is_given scope b (mode_of y) y (p.second, refl, p.second_is)) p.modes

  pub pair_made : (a b : PlainExpression) (mode : Mode) (z : NotedExpression × NotedExpression)
      → paired (is_bare a) (is_bare b) (note_expression scope a) (note_expression scope b) mode ≡ Ok z
      → PairNoted scope a b mode z.0 z.1
  pair_made a b mode z h =
      let i = paired_sound scope (is_bare a) (is_bare b) (note_expression scope a) (note_expression scope b) a b
      mode z (sound scope a) (sound scope b) h in
      record { first = i.0; second = i.1; first_is = i.2; second_is = i.3; modes = i.4 }

  -- two operands, of which one fails in its turn
  abbrev pair : PlainExpression → PlainExpression → Mode → Bool → Bool → Noting (NotedExpression × NotedExpression)
  pair a b mode x y = paired x y (note_expression scope a) (note_expression scope b) mode

  tests : (a b : PlainExpression) (mode : Mode) (x y : Bool) → is_bare a ≡ x → is_bare b ≡ y
      → pair a b mode (is_bare a) (is_bare b) ≡ pair a b mode x y
  tests a b mode x y left right =
      ap (λ (t : Bool). pair a b mode t (is_bare b)) left ∙ ap (pair a b mode x) right

  second_fails : (a b d e : PlainExpression) (mode first : Mode) (second : NotedExpression → Mode)
      (pack : NotedExpression → NotedExpression → Noting (NotedExpression × NotedExpression)) (n : NotedExpression)
      (f : Fault) → IsNoting scope d first n → note_expression scope e (second n) ≡ Err f
      → (note_expression scope d first >>= λ x. note_expression scope e (second x) >>= pack x) ≡ Err f
  second_fails a b d e mode first second pack n f is h =
      bind_found (λ (x : NotedExpression). note_expression scope e (second x) >>= pack x)
      (noting_is_given scope d first n is)
      ∙ bind_fails (pack n) h

  pub pair_fails : (a b d : PlainExpression) (mode own : Mode) (f : Fault) → Paired scope a b mode d own
      → note_expression scope d own ≡ Err f
      → paired (is_bare a) (is_bare b) (note_expression scope a) (note_expression scope b) mode ≡ Err f
  pair_fails a b d mode own f (both_bare_first x y) h =
      tests a b mode true true x y
      ∙ bind_fails (λ (n : NotedExpression). note_expression scope b mode >>= behind_it n) h
  pair_fails a b d mode own f (none_bare_first x y) h =
      tests a b mode false false x y
      ∙ bind_fails (λ (n : NotedExpression). note_expression scope b mode >>= behind_it n) h
  pair_fails a b d mode own f (left_first x y) h =
      tests a b mode false true x y
      ∙ bind_fails (λ (n : NotedExpression). note_expression scope b (Some (type_of n)) >>= behind_it n) h
  pair_fails a b d mode own f (right_first x y) h =
      tests a b mode true false x y
      ∙ bind_fails (λ (n : NotedExpression). note_expression scope a (Some (type_of n)) >>= before n) h
  pair_fails a b d mode own f (both_bare_next n x y is) h =
      tests a b mode true true x y ∙ second_fails a b a b mode mode (λ m. mode) behind_it n f is h
  pair_fails a b d mode own f (none_bare_next n x y is) h =
      tests a b mode false false x y ∙ second_fails a b a b mode mode (λ m. mode) behind_it n f is h
  pair_fails a b d mode own f (right_next n x y is) h =
      tests a b mode false true x y
      ∙ second_fails a b a b mode mode (λ m. Some (type_of m)) behind_it n f is h
  pair_fails a b d mode own f (left_next n x y is) h =
      tests a b mode true false x y ∙ second_fails a b b a mode mode (λ m. Some (type_of m)) before n f is h

  -- what fails of two operands
  abbrev pub PairFails : PlainExpression → PlainExpression → Mode → Fault → Type 0
  PairFails a b mode f =
      (d : PlainExpression) × (own : Mode) × Paired scope a b mode d own × FirstFault scope d own f

  two_in_turn : (a b d e : PlainExpression) (mode first : Mode) (second : NotedExpression → Mode)
      (pack : NotedExpression → NotedExpression → NotedExpression × NotedExpression) (f : Fault)
      → Paired scope a b mode d first
      → ((x : NotedExpression) → IsNoting scope d first x → Paired scope a b mode e (second x))
      → Telling scope d → Telling scope e
      → (note_expression scope d first
      >>= λ x. note_expression scope e (second x) >>= λ y. Ok (pack x y)) ≡ Err f
      → PairFails a b mode f
  two_in_turn a b d e mode first second pack f one two tells_d tells_e h =
      by (bind_failed (note_expression scope d first)
      (λ x. note_expression scope e (second x) >>= λ y. Ok (pack x y)) f h)
    where
      never : (y : NotedExpression × NotedExpression)
          → ◌≡◌ {A = Noting (NotedExpression × NotedExpression)} (Ok y) (Err f) → ⊥
      never y h = cc

      later : (x : NotedExpression) → IsNoting scope d first x
          → (note_expression scope e (second x) ≡ Err f)
          ⊎ ((y : NotedExpression) × (note_expression scope e (second x) ≡ Ok y)
          × (◌≡◌ {A = Noting (NotedExpression × NotedExpression)} (Ok (pack x y)) (Err f)))
          → PairFails a b mode f
      later x is (inl failed) = (e, second x, two x is, tells_e (second x) f failed)
      later x is (inr z) = absurd (never (pack x z.0) z.2)

      by : (note_expression scope d first ≡ Err f)
          ⊎ ((x : NotedExpression) × (note_expression scope d first ≡ Ok x)
          × ((note_expression scope e (second x) >>= λ y. Ok (pack x y)) ≡ Err f)) → PairFails a b mode f
      by (inl failed) = (d, first, one, tells_d first f failed)
      by (inr z) =
          later z.0 (sound scope d first z.0 z.1)
          (bind_failed (note_expression scope e (second z.0)) (λ y. Ok (pack z.0 y)) f z.2)

  pub pair_failed : (x y : Bool) (a b : PlainExpression) (mode : Mode) (f : Fault) → is_bare a ≡ x → is_bare b ≡ y
      → Telling scope a → Telling scope b
      → paired x y (note_expression scope a) (note_expression scope b) mode ≡ Err f → PairFails a b mode f
  pair_failed true true a b mode f left right tells_a tells_b h =
      two_in_turn a b a b mode mode (λ x. mode) (λ x y. (x, y)) f (both_bare_first left right)
      (λ x is. both_bare_next x left right is) tells_a tells_b h
  pair_failed false false a b mode f left right tells_a tells_b h =
      two_in_turn a b a b mode mode (λ x. mode) (λ x y. (x, y)) f (none_bare_first left right)
      (λ x is. none_bare_next x left right is) tells_a tells_b h
  pair_failed true false a b mode f left right tells_a tells_b h =
      two_in_turn a b b a mode mode (λ x. Some (type_of x)) (λ x y. (y, x)) f (right_first left right)
      (λ x is. left_next x left right is) tells_b tells_a h
  pair_failed false true a b mode f left right tells_a tells_b h =
      two_in_turn a b a b mode mode (λ x. Some (type_of x)) (λ x y. (x, y)) f (left_first left right)
      (λ x is. right_next x left right is) tells_a tells_b h

  pub two_operands : (e a b : PlainExpression) (mode pair : Mode)
      (next : NotedExpression × NotedExpression → Noting NotedExpression) (f : Fault)
      → ((d : PlainExpression) (own : Mode) → Paired scope a b pair d own → JudgedNext scope e mode d own)
      → Telling scope a → Telling scope b
      → ((z : NotedExpression × NotedExpression) → PairNoted scope a b pair z.0 z.1 → next z ≡ Err f
      → FirstFault scope e mode f)
      → (paired (is_bare a) (is_bare b) (note_expression scope a) (note_expression scope b) pair >>= next)
      ≡ Err f
      → FirstFault scope e mode f
  two_operands e a b mode pair next f judged tells_a tells_b of_rest h =
      by (bind_failed (paired (is_bare a) (is_bare b) (note_expression scope a) (note_expression scope b) pair)
      next f h)
    where
      by : (paired (is_bare a) (is_bare b) (note_expression scope a) (note_expression scope b) pair ≡ Err f)
          ⊎ ((z : NotedExpression × NotedExpression)
          × (paired (is_bare a) (is_bare b) (note_expression scope a) (note_expression scope b) pair ≡ Ok z)
          × (next z ≡ Err f)) → FirstFault scope e mode f
      by (inl failed) =
          let k = pair_failed (is_bare a) (is_bare b) a b pair f refl refl tells_a tells_b failed in
          of_a_part e k.0 mode k.1 f (judged k.0 k.1 k.2) k.3
      by (inr z) = of_rest z.0 (pair_made a b pair z.0 z.1) z.2
