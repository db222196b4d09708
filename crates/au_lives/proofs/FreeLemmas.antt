-- A variable whose type is Free is never consumed.
use Rattle.std.proofs.Common.{◌≡◌, ◌+◌, Bool, true, false, List, [], ◌∷◌, refl, if◌then◌else◌}
use Rattle.std.specs.Str.{bytes_eq}
use Rattle.au_base.proofs.NumberLemmas.{sum_none}
use Rattle.au_syntax.specs.declared.expressions.BorrowMode.{BorrowMode}
use Rattle.au_syntax.specs.declared.expressions.BorrowMode.TheVariants as modes
use Rattle.au_syntax.specs.declared.types.Access.{Access}
use Rattle.au_syntax.specs.declared.types.Access.TheVariants as access
use Rattle.au_syntax.specs.Names.{Placed}
use Rattle.au_syntax.specs.Expressions.{number, negative, text, truth, nil, path, arrow, call, named_call}
use Rattle.au_syntax.specs.Expressions.{parenthesized, dereference, borrow, borrow_part, binary, negation}
use Rattle.au_syntax.specs.Expressions.{typed, choice, no_expressions, expressions, no_arguments, arguments}
use Rattle.au_syntax.specs.Plain.{Bytes, PlainExpression, PlainExpressions, PlainArguments}
use Rattle.au_lives.specs.declared.lives.Sort.TheVariants as sorts
use Rattle.au_lives.specs.Mentions.{Counts, unmentioned, one_look, one_write_borrow, mentioned_with}
use Rattle.au_lives.specs.Mentions.{borrowed_by, counts_in, counts_in_all, counts_in_arguments}
use Rattle.au_lives.specs.Paths.{Met, whole, opening, assignment, assignment_behind, Step}
use Rattle.au_lives.specs.Lives.{Hold, unlent, read_lent, write_lent, hidden, unless_hidden, opening_counts}
use Rattle.au_lives.specs.Lives.{met_counts, held_around, consumptions}

none_named : (b : Bool) (k : Counts) → k.consumed ≡ 0 → (if b then k else unmentioned).consumed ≡ 0
none_named true k h = h
none_named false k h = refl

none_looked : (fields : List (Placed Bytes)) → (mentioned_with true fields).consumed ≡ 0
none_looked [] = refl
none_looked (field ∷ fields) = refl

pub none_borrowed : (mode : BorrowMode) → (borrowed_by mode).consumed ≡ 0
none_borrowed modes.Read = refl
none_borrowed modes.Write = refl
none_borrowed modes.Reborrow = refl

none_opened : (a : Access) → (opening_counts a).consumed ≡ 0
none_opened access.Read = refl
none_opened access.Write = refl

none_seen : (h : Hold) (k : Counts) → k.consumed ≡ 0 → (unless_hidden h k).consumed ≡ 0
none_seen unlent k e = e
none_seen read_lent k e = e
none_seen write_lent k e = e
none_seen hidden k e = refl

module _ (x : Bytes) where
  mutual
    none_in : (e : PlainExpression) → (counts_in x true e).consumed ≡ 0
    none_in (number node literal) = refl
    none_in (negative node literal) = refl
    none_in (text node bytes) = refl
    none_in (truth node value) = refl
    none_in (nil node) = refl
    none_in (path node name fields) =
        none_named (bytes_eq name.name x) (mentioned_with true fields) (none_looked fields)
    none_in (arrow node name fields) = none_named (bytes_eq name.name x) one_look refl
    none_in (call node name args note) = none_in_all args
    none_in (named_call node name args note) = none_in_arguments args
    none_in (parenthesized node e) = none_in e
    none_in (dereference node e) = none_in e
    none_in (borrow node mode name) =
        none_named (bytes_eq name.name x) (borrowed_by mode) (none_borrowed mode)
    none_in (borrow_part node name fields) = none_named (bytes_eq name.name x) one_look refl
    none_in (binary node operator a b) =
        sum_none (counts_in x true a).consumed (counts_in x true b).consumed (none_in a) (none_in b)
    none_in (negation node e) = none_in e
    none_in (typed node e t) = none_in e
    none_in (choice node c a b) =
        sum_none (counts_in x true c).consumed
        ((counts_in x true a).consumed + (counts_in x true b).consumed) (none_in c)
        (sum_none (counts_in x true a).consumed (counts_in x true b).consumed (none_in a) (none_in b))

    none_in_all : (es : PlainExpressions) → (counts_in_all x true es).consumed ≡ 0
    none_in_all no_expressions = refl
    none_in_all (expressions e rest) =
        sum_none (counts_in x true e).consumed (counts_in_all x true rest).consumed (none_in e)
        (none_in_all rest)

    none_in_arguments : (es : PlainArguments) → (counts_in_arguments x true es).consumed ≡ 0
    none_in_arguments no_arguments = refl
    none_in_arguments (arguments label e rest) =
        sum_none (counts_in x true e).consumed (counts_in_arguments x true rest).consumed (none_in e)
        (none_in_arguments rest)

  none_met : (m : Met) → (met_counts x true m).consumed ≡ 0
  none_met (whole e) = none_in e
  none_met (opening a y) = none_named (bytes_eq y x) (opening_counts a) (none_opened a)
  none_met (assignment y) = none_named (bytes_eq y x) one_write_borrow refl
  none_met (assignment_behind y) = none_named (bytes_eq y x) one_look refl

  pub none_consumed : (ss : List Step) → consumptions x sorts.Free ss ≡ 0
  none_consumed [] = refl
  none_consumed (s ∷ ss) =
      sum_none (unless_hidden (held_around x s.around) (met_counts x true s.what)).consumed
      (consumptions x sorts.Free ss)
      (none_seen (held_around x s.around) (met_counts x true s.what) (none_met s.what)) (none_consumed ss)
