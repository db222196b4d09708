-- Where a variable is consumed, in text order.
use Rattle.std.specs.Prelude.{Bool, true, false, ◌||◌, List, [], ◌∷◌, ◌++◌, if◌then◌else◌}
use Rattle.std.specs.Str.{bytes_eq}
use Rattle.au_base.specs.declared.places.Pos.{Pos}
use Rattle.au_syntax.specs.Names.{Placed}
use Rattle.au_syntax.specs.Expressions.{number, negative, text, truth, nil, path, arrow, call, named_call}
use Rattle.au_syntax.specs.Expressions.{parenthesized, dereference, borrow, borrow_part, binary, negation}
use Rattle.au_syntax.specs.Expressions.{typed, choice, no_expressions, expressions, no_arguments, arguments}
use Rattle.au_syntax.specs.Statements.{skip, declare, destructure, assign, assign_through, conditional}
use Rattle.au_syntax.specs.Statements.{conditional_else, case_of, while_loop, for_loop, borrow_in}
use Rattle.au_syntax.specs.Statements.{borrow_typed, discard, return_of, no_statements, statements}
use Rattle.au_syntax.specs.Statements.{no_branches, branches, no_arms, arms}
use Rattle.au_syntax.specs.Plain.{Bytes, PlainExpression, PlainExpressions, PlainArguments, PlainStatement}
use Rattle.au_syntax.specs.Plain.{PlainStatements, PlainBranches, PlainArms}
use Rattle.au_lives.specs.declared.lives.Sort.{Sort}
use Rattle.au_lives.specs.Mentions.{is_variable, may_skip}
use Rattle.au_lives.specs.Paths.{lent, declared, declared_by, bound_names, access_of}
use Rattle.au_lives.specs.Lives.{Hold, unlent, read_lent, write_lent, hidden, held_from, is_free}

-- a variable alone is consumed where its type isn't Free
abbrev pub place_of : Bool → Pos → List (Placed Bytes) → List Pos
place_of true at [] = []
place_of false at [] = at ∷ []
place_of free at (field ∷ fields) = []

module _ (x : Bytes) where
  abbrev mutual
    -- where x is consumed in an expression, by whether its type is Free
    pub consumed_at : Bool → PlainExpression → List Pos
    consumed_at free (number node literal) = []
    consumed_at free (negative node literal) = []
    consumed_at free (text node bytes) = []
    consumed_at free (truth node value) = []
    consumed_at free (nil node) = []
    consumed_at free (path node name fields) =
        if bytes_eq name.name x then place_of free node.at fields else []
    consumed_at free (arrow node name fields) = []
    consumed_at free (call node name args note) = consumed_at_all free args
    consumed_at free (named_call node name args note) = consumed_at_arguments free args
    consumed_at free (parenthesized node e) = consumed_at free e
    consumed_at free (dereference node e) = consumed_at (free || is_variable e) e
    consumed_at free (borrow node mode name) = []
    consumed_at free (borrow_part node name fields) = []
    consumed_at free (binary node operator a b) = consumed_at free a ++ consumed_at free b
    consumed_at free (negation node e) = consumed_at free e
    consumed_at free (typed node e t) = consumed_at free e
    consumed_at free (choice node c a b) = consumed_at free c ++ (consumed_at free a ++ consumed_at free b)

    pub consumed_at_all : Bool → PlainExpressions → List Pos
    consumed_at_all free no_expressions = []
    consumed_at_all free (expressions e rest) = consumed_at free e ++ consumed_at_all free rest

    pub consumed_at_arguments : Bool → PlainArguments → List Pos
    consumed_at_arguments free no_arguments = []
    consumed_at_arguments free (arguments label e rest) = consumed_at free e
        ++ consumed_at_arguments free rest

  abbrev mutual
    -- where x is consumed in a branch of a conditional expression or in the right side of `and` or `or`
    pub parted_at : Bool → PlainExpression → List Pos
    parted_at free (number node literal) = []
    parted_at free (negative node literal) = []
    parted_at free (text node bytes) = []
    parted_at free (truth node value) = []
    parted_at free (nil node) = []
    parted_at free (path node name fields) = []
    parted_at free (arrow node name fields) = []
    parted_at free (call node name args note) = parted_at_all free args
    parted_at free (named_call node name args note) = parted_at_arguments free args
    parted_at free (parenthesized node e) = parted_at free e
    parted_at free (dereference node e) = parted_at free e
    parted_at free (borrow node mode name) = []
    parted_at free (borrow_part node name fields) = []
    parted_at free (binary node operator a b) =
        parted_at free a ++ (if may_skip operator then consumed_at free b else parted_at free b)
    parted_at free (negation node e) = parted_at free e
    parted_at free (typed node e t) = parted_at free e
    parted_at free (choice node c a b) = parted_at free c ++ (consumed_at free a ++ consumed_at free b)

    pub parted_at_all : Bool → PlainExpressions → List Pos
    parted_at_all free no_expressions = []
    parted_at_all free (expressions e rest) = parted_at free e ++ parted_at_all free rest

    pub parted_at_arguments : Bool → PlainArguments → List Pos
    parted_at_arguments free no_arguments = []
    parted_at_arguments free (arguments label e rest) = parted_at free e ++ parted_at_arguments free rest

-- a name that hides x stands for another variable
abbrev pub places_unless_hidden : Hold → List Pos → List Pos
places_unless_hidden unlent places = places
places_unless_hidden read_lent places = places
places_unless_hidden write_lent places = places
places_unless_hidden hidden places = []

-- the places of all expressions of a statement, by those of one
module _ (x : Bytes) (places : Hold → PlainExpression → List Pos) where
  abbrev mutual
    pub gathered : PlainStatement → Hold → List Pos
    gathered (skip at) h = []
    gathered (declare at binding name t e) h = places h e
    gathered (destructure at binds e) h = places h e
    gathered (assign at name fields e) h = places h e
    gathered (assign_through at name fields e) h = places h e
    gathered (conditional at bs) h = gathered_in_branches bs h
    gathered (conditional_else at bs b) h = gathered_in_branches bs h ++ gathered_in_block b h
    gathered (case_of at e rest) h = places h e ++ gathered_in_arms rest h
    gathered (while_loop at e b) h = places h e ++ gathered_in_block b h
    gathered (for_loop at name a z b) h =
        places h a ++ (places h z ++ gathered_in_block b (held_from x (declared name.name ∷ []) h))
    gathered (borrow_in at access y r region b stop) h =
        gathered_in_block b (held_from x (declared r.name ∷ lent access y.name ∷ []) h)
    gathered (borrow_typed at r t mode y b stop) h =
        gathered_in_block b (held_from x (declared r.name ∷ lent (access_of mode) y.name ∷ []) h)
    gathered (discard at e) h = places h e
    gathered (return_of at e) h = places h e

    pub gathered_in_block : PlainStatements → Hold → List Pos
    gathered_in_block no_statements h = []
    gathered_in_block (statements s more) h = gathered s h
        ++ gathered_in_block more (held_from x (declared_by s) h)

    pub gathered_in_branches : PlainBranches → Hold → List Pos
    gathered_in_branches no_branches h = []
    gathered_in_branches (branches e b more) h = places h e
        ++ (gathered_in_block b h ++ gathered_in_branches more h)

    pub gathered_in_arms : PlainArms → Hold → List Pos
    gathered_in_arms no_arms h = []
    gathered_in_arms (arms when' name binds b more) h =
        gathered_in_block b (held_from x (bound_names binds) h) ++ gathered_in_arms more h

  abbrev mutual
    -- only those in loops
    pub looped : PlainStatement → Hold → List Pos
    looped (skip at) h = []
    looped (declare at binding name t e) h = []
    looped (destructure at binds e) h = []
    looped (assign at name fields e) h = []
    looped (assign_through at name fields e) h = []
    looped (conditional at bs) h = looped_in_branches bs h
    looped (conditional_else at bs b) h = looped_in_branches bs h ++ looped_in_block b h
    looped (case_of at e rest) h = looped_in_arms rest h
    looped (while_loop at e b) h = places h e ++ gathered_in_block b h
    looped (for_loop at name a z b) h = gathered_in_block b (held_from x (declared name.name ∷ []) h)
    looped (borrow_in at access y r region b stop) h =
        looped_in_block b (held_from x (declared r.name ∷ lent access y.name ∷ []) h)
    looped (borrow_typed at r t mode y b stop) h =
        looped_in_block b (held_from x (declared r.name ∷ lent (access_of mode) y.name ∷ []) h)
    looped (discard at e) h = []
    looped (return_of at e) h = []

    pub looped_in_block : PlainStatements → Hold → List Pos
    looped_in_block no_statements h = []
    looped_in_block (statements s more) h = looped s h ++ looped_in_block more (held_from x (declared_by s) h)

    pub looped_in_branches : PlainBranches → Hold → List Pos
    looped_in_branches no_branches h = []
    looped_in_branches (branches e b more) h = looped_in_block b h ++ looped_in_branches more h

    pub looped_in_arms : PlainArms → Hold → List Pos
    looped_in_arms no_arms h = []
    looped_in_arms (arms when' name binds b more) h =
        looped_in_block b (held_from x (bound_names binds) h) ++ looped_in_arms more h

module _ (x : Bytes) (sort : Sort) where
  -- where x is consumed in an expression, unless its name is that of another variable there
  abbrev pub consumptions_at : Hold → PlainExpression → List Pos
  consumptions_at h e = places_unless_hidden h (consumed_at x (is_free sort) e)

  abbrev pub partings_at : Hold → PlainExpression → List Pos
  partings_at h e = places_unless_hidden h (parted_at x (is_free sort) e)

  -- where x is consumed in a loop of its scope
  abbrev pub loop_places : PlainStatements → List Pos
  loop_places b = looped_in_block x consumptions_at b unlent

  -- where x is consumed in a branch of a conditional expression or in the right side of `and` or `or`
  abbrev pub part_places : PlainStatements → List Pos
  part_places b = gathered_in_block x partings_at b unlent
