-- What one step does to a variable, at most.
use Rattle.std.specs.Prelude.{◌≡◌, Bool, true, false, ◌||◌, List, [], ◌∷◌, if◌then◌else◌}
use Rattle.std.specs.Str.{bytes_eq}
use Rattle.au_syntax.specs.declared.expressions.BorrowMode.{BorrowMode}
use Rattle.au_syntax.specs.declared.expressions.BorrowMode.TheVariants as modes
use Rattle.au_syntax.specs.declared.types.Access.{Access}
use Rattle.au_syntax.specs.declared.types.Access.TheVariants as access
use Rattle.au_syntax.specs.Names.{Placed}
use Rattle.au_syntax.specs.Expressions.{number, negative, text, truth, nil, path, arrow, call, named_call}
use Rattle.au_syntax.specs.Expressions.{parenthesized, dereference, borrow, borrow_part, binary, negation}
use Rattle.au_syntax.specs.Expressions.{typed, choice, no_expressions, expressions, no_arguments, arguments}
use Rattle.au_syntax.specs.Plain.{Bytes, PlainExpression, PlainExpressions, PlainArguments}
use Rattle.au_lives.specs.Mentions.{Counts, counts, unmentioned, is_variable, may_skip}
use Rattle.au_lives.specs.Lives.{Hold, unlent, read_lent, write_lent, hidden}
pub use Rattle.au_clearing.specs.declared.touches.Touch.{Touch}
pub use Rattle.au_clearing.specs.declared.touches.Touch.TheVariants.{Untouched, Quiet, Written, Consumed}
pub use Rattle.au_clearing.specs.declared.touches.Touch.TheVariants.{Broken}

-- The variable is mentioned so in a step that touches it so: not at all; neither consumed nor write-borrowed;
-- write-borrowed once and no more; consumed once and no more; or anyhow.
abbrev pub Fits : Touch → Counts → Type 0
Fits Untouched k = k ≡ unmentioned
Fits Quiet k = (k.consumed ≡ 0) × (k.written ≡ 0)
Fits Written k = k ≡ counts 0 1 0 0
Fits Consumed k = k ≡ counts 1 0 0 0
Fits Broken k = Unit {0}

-- two parts of one step
abbrev pub both : Touch → Touch → Touch
both Untouched t = t
both Quiet Untouched = Quiet
both Quiet Quiet = Quiet
both Written Untouched = Written
both Consumed Untouched = Consumed
both s t = Broken

-- the worse of two touches, of two steps
abbrev pub worse : Touch → Touch → Touch
worse Untouched t = t
worse Quiet Untouched = Quiet
worse Quiet t = t
worse Written Untouched = Written
worse Written Quiet = Written
worse Written t = t
worse Consumed Broken = Broken
worse Consumed t = Consumed
worse Broken t = Broken

-- what may not be consumed
abbrev pub kept : Touch → Touch
kept Consumed = Broken
kept t = t

abbrev pub is_consumed : Touch → Bool
is_consumed Consumed = true
is_consumed t = false

-- a touch behind a step, by whether the step may have consumed the variable
abbrev pub behind_spent : Bool → Touch → Touch
behind_spent false t = t
behind_spent true Untouched = Untouched
behind_spent true t = Broken

-- a borrow statement on the variable round a touch
abbrev pub lent : Access → Touch → Touch
lent access.Read Untouched = Quiet
lent access.Read Quiet = Quiet
lent access.Write Untouched = Written
lent way t = Broken

-- a name that hides the variable touches nothing
abbrev pub unless_hidden : Hold → Touch → Touch
unless_hidden unlent t = t
unless_hidden read_lent t = t
unless_hidden write_lent t = t
unless_hidden hidden t = Untouched

-- a variable alone is consumed, unless it is only looked at; in a part that may be left out it may not be
abbrev pub alone : Bool → Bool → List (Placed Bytes) → Touch
alone true part [] = Quiet
alone false true [] = Broken
alone false false [] = Consumed
alone free part (field ∷ fields) = Quiet

abbrev pub borrowed : BorrowMode → Touch
borrowed modes.Read = Quiet
borrowed modes.Write = Written
borrowed modes.Reborrow = Written

module _ (x : Bytes) where
  -- a mention of a name
  abbrev pub where_named : Bytes → Touch → Touch
  where_named name t = if bytes_eq name x then t else Untouched

  -- a mention of a name where x is held so
  abbrev pub touch_at : Hold → Bytes → Touch → Touch
  touch_at h name t = unless_hidden h (where_named name t)

  abbrev mutual
    -- what an expression does to x, by whether x is only looked at, and by whether the expression may be left
    -- out
    pub touched : Bool → Bool → PlainExpression → Touch
    touched free part (number node literal) = Untouched
    touched free part (negative node literal) = Untouched
    touched free part (text node bytes) = Untouched
    touched free part (truth node value) = Untouched
    touched free part (nil node) = Untouched
    touched free part (path node name fields) = where_named name.name (alone free part fields)
    touched free part (arrow node name fields) = where_named name.name Quiet
    touched free part (call node name args note) = touched_in_all free part args
    touched free part (named_call node name args note) = touched_in_arguments free part args
    touched free part (parenthesized node e) = touched free part e
    touched free part (dereference node e) = touched (free || is_variable e) part e
    touched free part (borrow node mode name) = where_named name.name (borrowed mode)
    touched free part (borrow_part node name fields) = where_named name.name Quiet
    touched free part (binary node operator a b) =
        both (touched free part a) (touched free (part || may_skip operator) b)
    touched free part (negation node e) = touched free part e
    touched free part (typed node e t) = touched free part e
    touched free part (choice node c a b) =
        both (touched free part c) (both (touched free true a) (touched free true b))

    pub touched_in_all : Bool → Bool → PlainExpressions → Touch
    touched_in_all free part no_expressions = Untouched
    touched_in_all free part (expressions e rest) = both (touched free part e) (touched_in_all free part rest)

    pub touched_in_arguments : Bool → Bool → PlainArguments → Touch
    touched_in_arguments free part no_arguments = Untouched
    touched_in_arguments free part (arguments label e rest) =
        both (touched free part e) (touched_in_arguments free part rest)

  -- what a whole expression does to x where x is held so, by whether its type is Free
  abbrev pub touched_at : Bool → Hold → PlainExpression → Touch
  touched_at free h e = unless_hidden h (touched free false e)
