-- What is found is good.
use Rattle.std.proofs.Common.{◌≡◌, ℕ, Bool, true, false, List, [], ◌∷◌, refl, sym, ap, subst, ◌∙◌, Some, None}
use Rattle.std.proofs.Common.{Ok, neg_ℤ}
use Rattle.au_syntax.specs.declared.expressions.BinaryOperator.{BinaryOperator}
use Rattle.au_syntax.specs.Expressions.{Node, number, negative, text, truth, nil, path, arrow, call}
use Rattle.au_syntax.specs.Expressions.{named_call, parenthesized, dereference, borrow, borrow_part, binary}
use Rattle.au_syntax.specs.Expressions.{negation, typed, choice, no_expressions, expressions, no_arguments}
use Rattle.au_syntax.specs.Expressions.{arguments}
use Rattle.au_syntax.specs.Plain.{Bytes, PlainArguments, PlainExpression, PlainExpressions}
use Rattle.au_types.specs.Types as mean
use Rattle.au_types.specs.Types.{Meaning}
use Rattle.au_judged_types.specs.Reasons.{means}
use Rattle.au_typing.specs.Scopes.{Scope}
use Rattle.au_typing.specs.Bare.{is_arithmetic, is_bare}
use Rattle.au_typing.specs.Calls.{GoodCall, by_labels, in_order}
use Rattle.au_typing.specs.Faults.{◌>>=◌, unknown, known_or}
use Rattle.au_typing.specs.Good.{AllGoodIn, AllGoodLabelled, IsNoting, ArePaired, GoodBinary, GoodBorrow}
use Rattle.au_typing.specs.Good.{PairedModes, count_of, items_of, labels_of, shown, values_of}
use Rattle.au_typing.specs.Lookups.{value_type, variable_type, written_means, written_type}
use Rattle.au_typing.specs.Notes.{Mode, Note, NotedExpression, erase, erase_all, erase_arguments, note_of}
use Rattle.au_typing.specs.Notes.{noted_at, type_of}
use Rattle.au_typing.specs.Operands.{Noter, of_one_type, paired}
use Rattle.au_typing.specs.Rules.{is_logical, noted}
use Rattle.au_typing.specs.Search.{another_number, arithmetic_note, arrow_note, binary_noted}
use Rattle.au_typing.specs.Search.{borrow_part_note, borrowed, comparison_note, dereference_note, labelled}
use Rattle.au_typing.specs.Search.{labelled_operands, listed, literal_note, note_expression, operands}
use Rattle.au_typing.specs.Search.{other_labels, path_note}
use Rattle.au_typing.specs.SearchCalls.{call_noted}
use Rattle.au_typing.proofs.Found.{bare_kept, count_kept, labels_kept}
use Rattle.au_typing.proofs.SoundCalls.{AllSound, AreNotings, call_sound}
use Rattle.au_typing.proofs.SoundParts.{IsPair, Sounds, arithmetic_sound, arrow_sound, borrow_part_sound}
use Rattle.au_typing.proofs.SoundParts.{borrow_sound, comparison_sound, dereference_sound, literal_sound}
use Rattle.au_typing.proofs.SoundParts.{one_type_sound, outcome_sound, paired_sound, path_sound}
use Rattle.au_typing.proofs.Steps.{bind_ok, known_ok, names_kept, noted_ok, ok_same}

-- ---- arguments

-- notings of arguments in the place of these, and their erasure
listed_is : (args : List NotedExpression) → items_of (listed args) ≡ args
listed_is [] = refl
listed_is (a ∷ args) = ap (λ (rest : List NotedExpression). a ∷ rest) (listed_is args)

module _ (scope : Scope) where
  listed_good : (es : PlainExpressions) (args : List NotedExpression) → AreNotings scope (items_of es) args →
      AllGoodIn scope (listed args) × (erase_all (listed args) ≡ es)
  listed_good no_expressions [] h = (tt, refl)
  listed_good (expressions e es) (a ∷ args) h =
      let rest = listed_good es args h.2 in (
        (h.0, rest.0),
        ap (λ (x : PlainExpression). expressions x (erase_all (listed args))) h.1
            ∙ ap (expressions e) rest.1,
      )
  listed_good no_expressions (a ∷ args) h = absurd h
  listed_good (expressions e es) [] h = absurd h

  labelled_good : (es : PlainArguments) (args : List NotedExpression) → AreNotings scope (values_of es) args →
      AllGoodLabelled scope (labelled es args) × (erase_arguments (labelled es args) ≡ es)
      × (values_of (labelled es args) ≡ args)
  labelled_good no_arguments [] h = (tt, refl, refl)
  labelled_good (arguments label e es) (a ∷ args) h =
      let rest = labelled_good es args h.2 in (
        (h.0, rest.0),
        ap (λ (x : PlainExpression). arguments label x (erase_arguments (labelled es args))) h.1
            ∙ ap (arguments label e) rest.1,
        ap (λ (others : List NotedExpression). a ∷ others) rest.2,
      )
  labelled_good no_arguments (a ∷ args) h = absurd h
  labelled_good (arguments label e es) [] h = absurd h

  -- ---- paired operands

  pair_good : (p q : PlainExpression) (mode : Mode) (z : NotedExpression × NotedExpression) →
      IsPair scope (is_bare p) (is_bare q) p q mode z → PairedModes (is_bare z.0) (is_bare z.1) mode
      (note_of z.0) (note_of z.1)
  pair_good p q mode z i =
      let left : is_bare p ≡ is_bare z.0 = ap is_bare (sym i.2) ∙ bare_kept z.0 in
      let right : is_bare q ≡ is_bare z.1 = ap is_bare (sym i.3) ∙ bare_kept z.1 in
      subst (λ (x : Bool). PairedModes x (is_bare z.1) mode (note_of z.0) (note_of z.1)) left
      (subst (λ (y : Bool). PairedModes (is_bare p) y mode (note_of z.0) (note_of z.1)) right i.4)

  binary_sound : (arithmetic logical : Bool) (u : Node (Unit {0})) (op : BinaryOperator) (e d : Noter)
      (p q : PlainExpression) (mode : Mode) (a : NotedExpression) → is_arithmetic op ≡ arithmetic →
      is_logical op ≡ logical → Sounds scope e p → Sounds scope d q → binary_noted scope arithmetic logical u op
      (is_bare p) (is_bare q) e d mode ≡ Ok a → IsNoting scope (binary u op p q) mode a
  binary_sound true logical u op e d p q mode a is logical_is f g h =
      let b = bind_ok (paired (is_bare p) (is_bare q) e d mode)
      (λ (z : NotedExpression × NotedExpression). of_one_type z.0 z.1 (arithmetic_note mode (type_of z.0))
      >>= λ (n : Note). Ok (binary (noted_at u n) op z.0 z.1)) a h in
      let x : NotedExpression = b.0.0 in
      let y : NotedExpression = b.0.1 in
      let c = bind_ok (of_one_type x y (arithmetic_note mode (type_of x)))
      (λ (n : Note). Ok (binary (noted_at u n) op x y)) a b.2 in
      let i = paired_sound scope (is_bare p) (is_bare q) e d p q mode b.0 f g b.1 in
      let o = one_type_sound x y (arithmetic_note mode (type_of x)) c.0 c.1 in
      let k = arithmetic_sound mode (type_of x) c.0 o.1 in
      let pair : ArePaired c.0.mode x y =
      record {
        modes = subst (λ (m : Mode). PairedModes (is_bare x) (is_bare y) m (note_of x) (note_of y))
            (sym k.1) (pair_good p q mode b.0 i);
        one_type = o.0;
      } in
      let good : GoodBinary (is_arithmetic op) (is_logical op) op c.0 x y =
      subst (λ (t : Bool). GoodBinary t (is_logical op) op c.0 x y) (sym is)
      (record { paired = pair; of = k.2; is_whole = k.3 }) in
      subst (IsNoting scope (binary u op p q) mode) (ok_same (binary (noted_at u c.0) op x y) a c.2) (
        (k.0, good, i.0, i.1),
        k.1,
        ap (λ (l : PlainExpression). binary u op l (erase y)) i.2
            ∙ ap (binary u op p) i.3,
      )
  binary_sound false true u op e d p q mode a is logical_is f g h =
      let b = bind_ok (e (Some mean.truth))
      (λ (left : NotedExpression). d (Some mean.truth) >>= λ (right : NotedExpression). noted mode
      mean.truth >>= λ (n : Note). Ok (binary (noted_at u n) op left right)) a h in
      let x : NotedExpression = b.0 in
      let c = bind_ok (d (Some mean.truth)) (λ (right : NotedExpression). noted mode mean.truth >>=
      λ (n : Note). Ok (binary (noted_at u n) op x right)) a b.2 in
      let y : NotedExpression = c.0 in
      let n = bind_ok (noted mode mean.truth) (λ (n : Note). Ok (binary (noted_at u n) op x y)) a c.2 in
      let i = f (Some mean.truth) x b.1 in
      let j = g (Some mean.truth) y c.1 in
      let k = noted_ok mode mean.truth n.0 n.1 in
      let logically : GoodBinary false true op n.0 x y = record { first = i.1; second = j.1; of = k.2 } in
      let good : GoodBinary (is_arithmetic op) (is_logical op) op n.0 x y =
      subst (λ (t : Bool). GoodBinary t (is_logical op) op n.0 x y) (sym is)
      (subst (λ (t : Bool). GoodBinary false t op n.0 x y) (sym logical_is) logically) in
      subst (IsNoting scope (binary u op p q) mode) (ok_same (binary (noted_at u n.0) op x y) a n.2) (
        (k.0, good, i.0, j.0),
        k.1,
        ap (λ (l : PlainExpression). binary u op l (erase y)) i.2
            ∙ ap (binary u op p) j.2,
      )
  binary_sound false false u op e d p q mode a is logical_is f g h =
      let b = bind_ok (paired (is_bare p) (is_bare q) e d None)
      (λ (z : NotedExpression × NotedExpression). comparison_note op mode z.0 z.1 >>=
      λ (n : Note). Ok (binary (noted_at u n) op z.0 z.1)) a h in
      let x : NotedExpression = b.0.0 in
      let y : NotedExpression = b.0.1 in
      let c = bind_ok (comparison_note op mode x y) (λ (n : Note). Ok (binary (noted_at u n) op x y)) a b.2 in
      let i = paired_sound scope (is_bare p) (is_bare q) e d p q None b.0 f g b.1 in
      let k = comparison_sound op mode x y c.0 c.1 in
      let pair : ArePaired None x y = record { modes = pair_good p q None b.0 i; one_type = k.3 } in
      let compared : GoodBinary false false op c.0 x y = record { paired = pair; compared = k.4; of = k.2 } in
      let good : GoodBinary (is_arithmetic op) (is_logical op) op c.0 x y =
      subst (λ (t : Bool). GoodBinary t (is_logical op) op c.0 x y) (sym is)
      (subst (λ (t : Bool). GoodBinary false t op c.0 x y) (sym logical_is) compared) in
      subst (IsNoting scope (binary u op p q) mode) (ok_same (binary (noted_at u c.0) op x y) a c.2) (
        (k.0, good, i.0, i.1),
        k.1,
        ap (λ (l : PlainExpression). binary u op l (erase y)) i.2
            ∙ ap (binary u op p) i.3,
      )

  -- ---- every kind

  mutual
    pub sound : (e : PlainExpression) (mode : Mode) (a : NotedExpression) → note_expression scope e mode
        ≡ Ok a → IsNoting scope e mode a
    sound (number u l) mode a h =
        let b = bind_ok (literal_note mode l.value) (λ (n : Note). Ok (number (noted_at u n) l)) a h in
        let k = literal_sound mode l.value b.0 b.1 in
        subst (IsNoting scope (number u l) mode) (ok_same (number (noted_at u b.0) l) a b.2) ((k.0, k.2), k.1, refl)
    sound (negative u l) mode a h =
        let b = bind_ok (literal_note mode (neg_ℤ l.value)) (λ (n : Note). Ok (negative (noted_at u n) l)) a h in
        let k = literal_sound mode (neg_ℤ l.value) b.0 b.1 in
        subst (IsNoting scope (negative u l) mode) (ok_same (negative (noted_at u b.0) l) a b.2) ((k.0, k.2), k.1, refl)
    sound (text u t) mode a h =
        let b = bind_ok (noted mode mean.text) (λ (n : Note). Ok (text (noted_at u n) t)) a h in
        let k = noted_ok mode mean.text b.0 b.1 in
        subst (IsNoting scope (text u t) mode) (ok_same (text (noted_at u b.0) t) a b.2) ((k.0, k.2), k.1, refl)
    sound (truth u t) mode a h =
        let b = bind_ok (noted mode mean.truth) (λ (n : Note). Ok (truth (noted_at u n) t)) a h in
        let k = noted_ok mode mean.truth b.0 b.1 in
        subst (IsNoting scope (truth u t) mode) (ok_same (truth (noted_at u b.0) t) a b.2) ((k.0, k.2), k.1, refl)
    sound (nil u) mode a h =
        let b = bind_ok (noted mode mean.unit) (λ (n : Note). Ok (nil (noted_at u n))) a h in
        let k = noted_ok mode mean.unit b.0 b.1 in
        subst (IsNoting scope (nil u) mode) (ok_same (nil (noted_at u b.0)) a b.2) ((k.0, k.2), k.1, refl)
    sound (path u x fields) mode a h =
        let v = bind_ok (known_or (unknown x.name) (value_type scope x.name))
        (λ (t : Meaning). path_note scope mode fields t >>= λ (n : Note). Ok (path (noted_at u n) x fields))
        a h in
        let b = bind_ok (path_note scope mode fields v.0) (λ (n : Note). Ok (path (noted_at u n) x fields)) a v.2 in
        let k = path_sound scope mode fields v.0 b.0 b.1 in
        let known = known_ok (unknown x.name) (value_type scope x.name) v.0 v.1 in
        subst (IsNoting scope (path u x fields) mode) (ok_same (path (noted_at u b.0) x fields) a b.2)
        ((k.0, (v.0, known, k.2)), k.1, ap (path u x) (names_kept fields))
    sound (arrow u x fields) mode a h =
        let v = bind_ok (known_or (unknown x.name) (value_type scope x.name))
        (λ (t : Meaning). arrow_note scope mode fields t >>=
        λ (n : Note). Ok (arrow (noted_at u n) x fields)) a h in
        let b = bind_ok (arrow_note scope mode fields v.0) (λ (n : Note). Ok (arrow (noted_at u n) x fields)) a v.2 in
        let k = arrow_sound scope mode fields v.0 b.0 b.1 in
        let known = known_ok (unknown x.name) (value_type scope x.name) v.0 v.1 in
        subst (IsNoting scope (arrow u x fields) mode) (ok_same (arrow (noted_at u b.0) x fields) a b.2)
        ((k.2.0, (v.0, k.0, known, k.1, k.2.2)), k.2.1, ap (arrow u x) (names_kept fields))
    sound (call u f es c) mode a h =
        let b = bind_ok (call_noted scope f.name (in_order (count_of es)) another_number mode
        (operands scope es)) (λ (z : Note × List NotedExpression). Ok
        (call (noted_at u z.0) f (listed z.1) tt)) a h in
        let k = call_sound scope f.name (in_order (count_of es)) another_number mode (operands scope es)
        (items_of es) b.0 (all_sound es) b.1 in
        let l = listed_good es b.0.1 k.2 in
        let count : count_of es ≡ count_of (listed b.0.1) = ap count_of (sym l.1) ∙ count_kept (listed b.0.1) in
        let counted = subst (λ (n : ℕ). GoodCall scope b.0.0 f.name (in_order n) (shown b.0.1)) count k.0 in
        let good = subst (λ (args : List NotedExpression). GoodCall scope b.0.0 f.name
        (in_order (count_of (listed b.0.1))) (shown args)) (sym (listed_is b.0.1)) counted in
        subst (IsNoting scope (call u f es c) mode)
        (ok_same (call (noted_at u b.0.0) f (listed b.0.1) tt) a b.2)
        ((good, l.0), k.1, ap (λ (x : PlainExpressions). call u f x c) l.1)
    sound (named_call u f es c) mode a h =
        let b = bind_ok (call_noted scope f.name (by_labels (labels_of es)) other_labels mode
        (labelled_operands scope es)) (λ (z : Note × List NotedExpression). Ok
        (named_call (noted_at u z.0) f (labelled es z.1) tt)) a h in
        let k = call_sound scope f.name (by_labels (labels_of es)) other_labels mode
        (labelled_operands scope es) (values_of es) b.0 (all_labelled_sound es) b.1 in
        let l = labelled_good es b.0.1 k.2 in
        let labels : labels_of es ≡ labels_of (labelled es b.0.1) = ap labels_of (sym l.1)
        ∙ labels_kept (labelled es b.0.1) in
        let named = subst (λ (names : List Bytes). GoodCall scope b.0.0 f.name (by_labels names)
        (shown b.0.1)) labels k.0 in
        let good = subst (λ (args : List NotedExpression). GoodCall scope b.0.0 f.name
        (by_labels (labels_of (labelled es b.0.1))) (shown args)) (sym l.2) named in
        subst (IsNoting scope (named_call u f es c) mode)
        (ok_same (named_call (noted_at u b.0.0) f (labelled es b.0.1) tt) a b.2)
        ((good, l.0), k.1, ap (λ (x : PlainArguments). named_call u f x c) l.1)
    sound (parenthesized u e) mode a h =
        let o = bind_ok (note_expression scope e mode)
        (λ (x : NotedExpression). noted mode (type_of x) >>=
        λ (n : Note). Ok (parenthesized (noted_at u n) x)) a h in
        let b = bind_ok (noted mode (type_of o.0)) (λ (n : Note). Ok (parenthesized (noted_at u n) o.0)) a o.2 in
        let i = sound e mode o.0 o.1 in
        let k = noted_ok mode (type_of o.0) b.0 b.1 in
        subst (IsNoting scope (parenthesized u e) mode) (ok_same (parenthesized (noted_at u b.0) o.0) a b.2)
        ((k.0, (i.1 ∙ sym k.1, k.2), i.0), k.1, ap (parenthesized u) i.2)
    sound (dereference u e) mode a h =
        let o = bind_ok (note_expression scope e None)
        (λ (x : NotedExpression). dereference_note scope mode (type_of x) >>=
        λ (n : Note). Ok (dereference (noted_at u n) x)) a h in
        let b = bind_ok (dereference_note scope mode (type_of o.0))
        (λ (n : Note). Ok (dereference (noted_at u n) o.0)) a o.2 in
        let i = sound e None o.0 o.1 in
        let k = dereference_sound scope mode (type_of o.0) b.0 b.1 in
        subst (IsNoting scope (dereference u e) mode) (ok_same (dereference (noted_at u b.0) o.0) a b.2)
        ((k.0, (i.1, k.2, k.3), i.0), k.1, ap (dereference u) i.2)
    sound (borrow u m x) mode a h =
        let v = bind_ok (known_or (unknown x.name) (variable_type scope x.name))
        (λ (t : Meaning). borrowed m t >>= λ (of : Meaning). noted mode of >>=
        λ (n : Note). Ok (borrow (noted_at u n) m x)) a h in
        let r = bind_ok (borrowed m v.0)
        (λ (of : Meaning). noted mode of >>= λ (n : Note). Ok (borrow (noted_at u n) m x)) a v.2 in
        let b = bind_ok (noted mode r.0) (λ (n : Note). Ok (borrow (noted_at u n) m x)) a r.2 in
        let k = noted_ok mode r.0 b.0 b.1 in
        let known = known_ok (unknown x.name) (variable_type scope x.name) v.0 v.1 in
        subst (IsNoting scope (borrow u m x) mode) (ok_same (borrow (noted_at u b.0) m x) a b.2)
        ((k.0, (v.0, known, subst (GoodBorrow m v.0) (sym k.2) (borrow_sound m v.0 r.0 r.1))), k.1, refl)
    sound (borrow_part u x fields) mode a h =
        let v = bind_ok (known_or (unknown x.name) (value_type scope x.name))
        (λ (t : Meaning). borrow_part_note scope mode fields t >>=
        λ (n : Note). Ok (borrow_part (noted_at u n) x fields)) a h in
        let b = bind_ok (borrow_part_note scope mode fields v.0)
        (λ (n : Note). Ok (borrow_part (noted_at u n) x fields)) a v.2 in
        let k = borrow_part_sound scope mode fields v.0 b.0 b.1 in
        let known = known_ok (unknown x.name) (value_type scope x.name) v.0 v.1 in
        subst (IsNoting scope (borrow_part u x fields) mode)
        (ok_same (borrow_part (noted_at u b.0) x fields) a b.2) (
          (k.0, (k.2.0, k.2.1, k.2.2, known ∙ ap (λ (t : Meaning). Some t) k.2.3, k.2.4, k.2.5, k.2.6)),
          k.1,
          ap (borrow_part u x) (names_kept fields),
        )
    sound (binary u op p q) mode a h =
        binary_sound (is_arithmetic op) (is_logical op) u op (note_expression scope p)
        (note_expression scope q) p q mode a refl refl (sound p) (sound q) h
    sound (negation u e) mode a h =
        let o = bind_ok (note_expression scope e (Some mean.truth))
        (λ (x : NotedExpression). noted mode mean.truth >>= λ (n : Note). Ok (negation (noted_at u n) x)) a
        h in
        let b = bind_ok (noted mode mean.truth) (λ (n : Note). Ok (negation (noted_at u n) o.0)) a o.2 in
        let i = sound e (Some mean.truth) o.0 o.1 in
        let k = noted_ok mode mean.truth b.0 b.1 in
        subst (IsNoting scope (negation u e) mode) (ok_same (negation (noted_at u b.0) o.0) a b.2)
        ((k.0, (i.1, k.2), i.0), k.1, ap (negation u) i.2)
    sound (typed u e t) mode a h =
        let w = bind_ok (written_type scope t) (λ (of : Meaning). note_expression scope e (Some of) >>=
        λ (x : NotedExpression). noted mode of >>= λ (n : Note). Ok (typed (noted_at u n) x t)) a h in
        let o = bind_ok (note_expression scope e (Some w.0))
        (λ (x : NotedExpression). noted mode w.0 >>= λ (n : Note). Ok (typed (noted_at u n) x t)) a w.2 in
        let b = bind_ok (noted mode w.0) (λ (n : Note). Ok (typed (noted_at u n) o.0 t)) a o.2 in
        let i = sound e (Some w.0) o.0 o.1 in
        let k = noted_ok mode w.0 b.0 b.1 in
        subst (IsNoting scope (typed u e t) mode) (ok_same (typed (noted_at u b.0) o.0 t) a b.2) (
          (
            k.0,
            (
              outcome_sound (written_means scope t) w.0 w.1 ∙ ap means (sym k.2),
              i.1
                  ∙ ap (λ (x : Meaning). Some x) (sym k.2),
            ),
            i.0,
          ),
          k.1,
          ap (λ (x : PlainExpression). typed u x t) i.2,
        )
    sound (choice u c p q) mode a h =
        let o = bind_ok (note_expression scope c (Some mean.truth))
        (λ (test : NotedExpression). paired (is_bare p) (is_bare q) (note_expression scope p)
        (note_expression scope q) mode >>= λ (z : NotedExpression × NotedExpression). of_one_type z.0 z.1
        (noted mode (type_of z.0)) >>= λ (n : Note). Ok (choice (noted_at u n) test z.0 z.1)) a h in
        let test : NotedExpression = o.0 in
        let r = bind_ok (paired (is_bare p) (is_bare q) (note_expression scope p) (note_expression scope q)
        mode) (λ (z : NotedExpression × NotedExpression). of_one_type z.0 z.1 (noted mode (type_of z.0)) >>=
        λ (n : Note). Ok (choice (noted_at u n) test z.0 z.1)) a o.2 in
        let x : NotedExpression = r.0.0 in
        let y : NotedExpression = r.0.1 in
        let b = bind_ok (of_one_type x y (noted mode (type_of x)))
        (λ (n : Note). Ok (choice (noted_at u n) test x y)) a r.2 in
        let i = sound c (Some mean.truth) test o.1 in
        let j = paired_sound scope (is_bare p) (is_bare q) (note_expression scope p) (note_expression scope q)
        p q mode r.0 (sound p) (sound q) r.1 in
        let s = one_type_sound x y (noted mode (type_of x)) b.0 b.1 in
        let k = noted_ok mode (type_of x) b.0 s.1 in
        let pair : ArePaired b.0.mode x y =
        record {
          modes = subst (λ (m : Mode). PairedModes (is_bare x) (is_bare y) m (note_of x) (note_of y))
              (sym k.1) (pair_good p q mode r.0 j);
          one_type = s.0;
        } in
        subst (IsNoting scope (choice u c p q) mode) (ok_same (choice (noted_at u b.0) test x y) a b.2) (
          (k.0, (i.1, pair, k.2), i.0, j.0, j.1),
          k.1,
          ap (λ (t : PlainExpression). choice u t (erase x) (erase y)) i.2
              ∙ (ap (λ (t : PlainExpression). choice u c t (erase y)) j.2 ∙ ap (choice u c p) j.3),
        )

    all_sound : (es : PlainExpressions) → AllSound scope (operands scope es) (items_of es)
    all_sound no_expressions = tt
    all_sound (expressions e es) = (refl, sound e, all_sound es)

    all_labelled_sound : (es : PlainArguments) → AllSound scope (labelled_operands scope es) (values_of es)
    all_labelled_sound no_arguments = tt
    all_labelled_sound (arguments label e es) = (refl, sound e, all_labelled_sound es)
