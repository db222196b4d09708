-- No consumption stands somewhere exactly where it has no place there.
use Rattle.std.proofs.Common.{◌≡◌, ℕ, suc, ◌+◌, ◌==◌, Bool, true, false, ◌||◌, ◌&&◌, List, [], ◌∷◌, ◌++◌}
use Rattle.std.proofs.Common.{length, refl, sym, ap, ◌∙◌, arith, if◌then◌else◌}
use Rattle.std.specs.Str.{bytes_eq}
use Rattle.std.proofs.lemmas.List.{length-append}
use Rattle.au_base.specs.declared.places.Pos.{Pos}
use Rattle.au_base.proofs.NumberLemmas.{not_none}
use Rattle.au_syntax.specs.declared.expressions.BorrowMode.{BorrowMode}
use Rattle.au_syntax.specs.declared.expressions.BorrowMode.TheVariants as modes
use Rattle.au_syntax.specs.Names.{Placed}
use Rattle.au_syntax.specs.Expressions.{number, negative, text, truth, nil, path, arrow, call, named_call}
use Rattle.au_syntax.specs.Expressions.{parenthesized, dereference, borrow, borrow_part, binary, negation}
use Rattle.au_syntax.specs.Expressions.{typed, choice, no_expressions, expressions, no_arguments, arguments}
use Rattle.au_syntax.specs.Statements.{skip, declare, destructure, assign, assign_through, conditional}
use Rattle.au_syntax.specs.Statements.{conditional_else, case_of, while_loop, for_loop, borrow_in}
use Rattle.au_syntax.specs.Statements.{borrow_typed, discard, return_of, no_statements, statements}
use Rattle.au_syntax.specs.Statements.{no_branches, branches, no_arms, arms}
use Rattle.au_syntax.specs.Plain.{Bytes, PlainExpression, PlainExpressions, PlainArguments, PlainStatement}
use Rattle.au_syntax.specs.Plain.{PlainStatements, PlainBranches, PlainArms}
use Rattle.au_lives.specs.declared.lives.Sort.{Sort}
use Rattle.au_lives.specs.Mentions.{Counts, unmentioned, one_look, mentioned_with, borrowed_by, is_variable}
use Rattle.au_lives.specs.Mentions.{may_skip, counts_in, counts_in_all, counts_in_arguments, is_kept}
use Rattle.au_lives.specs.Mentions.{keeps_parts, keeps_parts_of_all, keeps_parts_of_arguments}
use Rattle.au_lives.specs.Paths.{lent, declared, declared_by, bound_names, access_of}
use Rattle.au_lives.specs.Lives.{Hold, unlent, read_lent, write_lent, hidden, held_from, is_free, keeps}
use Rattle.au_lives.specs.Lives.{keeps_in_parts, each_in, each_in_block, each_in_branches, each_in_arms}
use Rattle.au_lives.specs.Lives.{each_loop, each_loop_of_block, each_loop_of_branches, each_loop_of_arms}
use Rattle.au_lives.specs.Lives.{keeps_loops, keeps_all_parts}
use Rattle.au_lives.specs.Places.{place_of, consumed_at, consumed_at_all, consumed_at_arguments, parted_at}
use Rattle.au_lives.specs.Places.{parted_at_all, parted_at_arguments, gathered, gathered_in_block}
use Rattle.au_lives.specs.Places.{gathered_in_branches, gathered_in_arms, looped, looped_in_block}
use Rattle.au_lives.specs.Places.{looped_in_branches, looped_in_arms, consumptions_at, partings_at}
use Rattle.au_lives.specs.Places.{loop_places, part_places}

abbrev is_none : List Pos → Bool
is_none [] = true
is_none (p ∷ ps) = false

pub none_is : (ps : List Pos) → is_none ps ≡ true → ps ≡ []
none_is [] h = refl
none_is (p ∷ ps) h = let wrong : false ≡ true = h in absurd (cc)

joined : (ps qs : List Pos) → is_none (ps ++ qs) ≡ (is_none ps && is_none qs)
joined [] qs = refl
joined (p ∷ ps) qs = refl

-- both parts
pair : (a b : Bool) (ps qs : List Pos) → a ≡ is_none ps → b ≡ is_none qs → (a && b) ≡ is_none (ps ++ qs)
pair a b ps qs g h = ap (λ c. c && b) g ∙ ap (λ c. is_none ps && c) h ∙ sym (joined ps qs)

-- How many places there are.
sum_of : (ps qs : List Pos) (m n : ℕ) → length ps ≡ m → length qs ≡ n → length (ps ++ qs) ≡ m + n
sum_of ps qs m n g h = let e = length-append ps qs in omega (arith, e, g, h)

alone : (free : Bool) (at : Pos) (fields : List (Placed Bytes)) → length (place_of free at fields)
    ≡ (mentioned_with free fields).consumed
alone true at [] = refl
alone false at [] = refl
alone free at (field ∷ fields) = refl

named : (b : Bool) (ps : List Pos) (k : Counts) → length ps ≡ k.consumed → length (if b then ps else [])
    ≡ (if b then k else unmentioned).consumed
named true ps k h = h
named false ps k h = refl

looks : (b : Bool) → 0 ≡ (if b then one_look else unmentioned).consumed
looks true = refl
looks false = refl

borrows : (b : Bool) (mode : BorrowMode) → 0 ≡ (if b then borrowed_by mode else unmentioned).consumed
borrows true modes.Read = refl
borrows true modes.Write = refl
borrows true modes.Reborrow = refl
borrows false mode = refl

module _ (x : Bytes) where
  mutual
    many : (free : Bool) (e : PlainExpression) → length (consumed_at x free e) ≡ (counts_in x free e).consumed
    many free (number node literal) = refl
    many free (negative node literal) = refl
    many free (text node bytes) = refl
    many free (truth node value) = refl
    many free (nil node) = refl
    many free (path node name fields) =
        named (bytes_eq name.name x) (place_of free node.at fields) (mentioned_with free fields)
        (alone free node.at fields)
    many free (arrow node name fields) = looks (bytes_eq name.name x)
    many free (call node name args note) = many_all free args
    many free (named_call node name args note) = many_arguments free args
    many free (parenthesized node e) = many free e
    many free (dereference node e) = many (free || is_variable e) e
    many free (borrow node mode name) = borrows (bytes_eq name.name x) mode
    many free (borrow_part node name fields) = looks (bytes_eq name.name x)
    many free (binary node operator a b) =
        sum_of (consumed_at x free a) (consumed_at x free b) (counts_in x free a).consumed
        (counts_in x free b).consumed (many free a) (many free b)
    many free (negation node e) = many free e
    many free (typed node e t) = many free e
    many free (choice node c a b) =
        sum_of (consumed_at x free c) (consumed_at x free a ++ consumed_at x free b)
        (counts_in x free c).consumed ((counts_in x free a).consumed + (counts_in x free b).consumed)
        (many free c)
        (sum_of (consumed_at x free a) (consumed_at x free b) (counts_in x free a).consumed
        (counts_in x free b).consumed (many free a) (many free b))

    many_all : (free : Bool) (es : PlainExpressions) → length (consumed_at_all x free es)
        ≡ (counts_in_all x free es).consumed
    many_all free no_expressions = refl
    many_all free (expressions e rest) =
        sum_of (consumed_at x free e) (consumed_at_all x free rest) (counts_in x free e).consumed
        (counts_in_all x free rest).consumed (many free e) (many_all free rest)

    many_arguments : (free : Bool) (es : PlainArguments) → length (consumed_at_arguments x free es)
        ≡ (counts_in_arguments x free es).consumed
    many_arguments free no_arguments = refl
    many_arguments free (arguments label e rest) =
        sum_of (consumed_at x free e) (consumed_at_arguments x free rest) (counts_in x free e).consumed
        (counts_in_arguments x free rest).consumed (many free e) (many_arguments free rest)

zero_of : (ps : List Pos) (n : ℕ) → length ps ≡ n → (n == 0) ≡ is_none ps
zero_of [] n h = ap (λ (m : ℕ). m == 0) (sym h)
zero_of (p ∷ ps) n h = ap (λ (m : ℕ). m == 0) (sym h) ∙ not_none (length ps) (suc (length ps) == 0) refl

skipped : (c a b : Bool) (ps qs : List Pos) → a ≡ is_none ps → b ≡ is_none qs → (if c then a else b)
    ≡ is_none (if c then ps else qs)
skipped true a b ps qs g h = g
skipped false a b ps qs g h = h

module _ (x : Bytes) where
  kept_none : (free : Bool) (e : PlainExpression) → is_kept x free e ≡ is_none (consumed_at x free e)
  kept_none free e = zero_of (consumed_at x free e) (counts_in x free e).consumed (many x free e)

  mutual
    parted : (free : Bool) (e : PlainExpression) → keeps_parts x free e ≡ is_none (parted_at x free e)
    parted free (number node literal) = refl
    parted free (negative node literal) = refl
    parted free (text node bytes) = refl
    parted free (truth node value) = refl
    parted free (nil node) = refl
    parted free (path node name fields) = refl
    parted free (arrow node name fields) = refl
    parted free (call node name args note) = parted_all free args
    parted free (named_call node name args note) = parted_arguments free args
    parted free (parenthesized node e) = parted free e
    parted free (dereference node e) = parted free e
    parted free (borrow node mode name) = refl
    parted free (borrow_part node name fields) = refl
    parted free (binary node operator a b) =
        pair (keeps_parts x free a) (if may_skip operator then is_kept x free b else keeps_parts x free b)
        (parted_at x free a) (if may_skip operator then consumed_at x free b else parted_at x free b)
        (parted free a)
        (skipped (may_skip operator) (is_kept x free b) (keeps_parts x free b) (consumed_at x free b)
        (parted_at x free b) (kept_none free b) (parted free b))
    parted free (negation node e) = parted free e
    parted free (typed node e t) = parted free e
    parted free (choice node c a b) =
        pair (keeps_parts x free c) (is_kept x free a && is_kept x free b) (parted_at x free c)
        (consumed_at x free a ++ consumed_at x free b) (parted free c)
        (pair (is_kept x free a) (is_kept x free b) (consumed_at x free a) (consumed_at x free b)
        (kept_none free a) (kept_none free b))

    parted_all : (free : Bool) (es : PlainExpressions) → keeps_parts_of_all x free es
        ≡ is_none (parted_at_all x free es)
    parted_all free no_expressions = refl
    parted_all free (expressions e rest) =
        pair (keeps_parts x free e) (keeps_parts_of_all x free rest) (parted_at x free e)
        (parted_at_all x free rest) (parted free e) (parted_all free rest)

    parted_arguments : (free : Bool) (es : PlainArguments) → keeps_parts_of_arguments x free es
        ≡ is_none (parted_at_arguments x free es)
    parted_arguments free no_arguments = refl
    parted_arguments free (arguments label e rest) =
        pair (keeps_parts x free e) (keeps_parts_of_arguments x free rest) (parted_at x free e)
        (parted_at_arguments x free rest) (parted free e) (parted_arguments free rest)

-- A test of expressions and the places where it fails.
module _ (x : Bytes) (test : Hold → PlainExpression → Bool) (places : Hold → PlainExpression → List Pos)
    (agrees : (h : Hold) (e : PlainExpression) → test h e ≡ is_none (places h e)) where
  mutual
    each_none : (s : PlainStatement) (h : Hold) → each_in x test s h ≡ is_none (gathered x places s h)
    each_none (skip at) h = refl
    each_none (declare at binding name t e) h = agrees h e
    each_none (destructure at binds e) h = agrees h e
    each_none (assign at name fields e) h = agrees h e
    each_none (assign_through at name fields e) h = agrees h e
    each_none (conditional at bs) h = each_branch bs h
    each_none (conditional_else at bs b) h =
        pair (each_in_branches x test bs h) (each_in_block x test b h) (gathered_in_branches x places bs h)
        (gathered_in_block x places b h) (each_branch bs h) (each_block b h)
    each_none (case_of at e rest) h =
        pair (test h e) (each_in_arms x test rest h) (places h e) (gathered_in_arms x places rest h)
        (agrees h e) (each_arm rest h)
    each_none (while_loop at e b) h =
        pair (test h e) (each_in_block x test b h) (places h e) (gathered_in_block x places b h) (agrees h e)
        (each_block b h)
    each_none (for_loop at name a z b) h =
        let inner = held_from x (declared name.name ∷ []) h in
        pair (test h a) (test h z && each_in_block x test b inner) (places h a) (places h z
        ++ gathered_in_block x places b inner) (agrees h a)
        (pair (test h z) (each_in_block x test b inner) (places h z) (gathered_in_block x places b inner)
        (agrees h z) (each_block b inner))
    each_none (borrow_in at access y r region b stop) h =
        each_block b (held_from x (declared r.name ∷ lent access y.name ∷ []) h)
    each_none (borrow_typed at r t mode y b stop) h =
        each_block b (held_from x (declared r.name ∷ lent (access_of mode) y.name ∷ []) h)
    each_none (discard at e) h = agrees h e
    each_none (return_of at e) h = agrees h e

    each_block : (b : PlainStatements) (h : Hold) → each_in_block x test b h
        ≡ is_none (gathered_in_block x places b h)
    each_block no_statements h = refl
    each_block (statements s more) h =
        let inner = held_from x (declared_by s) h in
        pair (each_in x test s h) (each_in_block x test more inner) (gathered x places s h)
        (gathered_in_block x places more inner) (each_none s h) (each_block more inner)

    each_branch : (bs : PlainBranches) (h : Hold) → each_in_branches x test bs h
        ≡ is_none (gathered_in_branches x places bs h)
    each_branch no_branches h = refl
    each_branch (branches e b more) h =
        pair (test h e) (each_in_block x test b h && each_in_branches x test more h) (places h e)
        (gathered_in_block x places b h ++ gathered_in_branches x places more h) (agrees h e)
        (pair (each_in_block x test b h) (each_in_branches x test more h) (gathered_in_block x places b h)
        (gathered_in_branches x places more h) (each_block b h) (each_branch more h))

    each_arm : (rest : PlainArms) (h : Hold) → each_in_arms x test rest h
        ≡ is_none (gathered_in_arms x places rest h)
    each_arm no_arms h = refl
    each_arm (arms when' name binds b more) h =
        let inner = held_from x (bound_names binds) h in
        pair (each_in_block x test b inner) (each_in_arms x test more h) (gathered_in_block x places b inner)
        (gathered_in_arms x places more h) (each_block b inner) (each_arm more h)

  mutual
    loop_none : (s : PlainStatement) (h : Hold) → each_loop x test s h ≡ is_none (looped x places s h)
    loop_none (skip at) h = refl
    loop_none (declare at binding name t e) h = refl
    loop_none (destructure at binds e) h = refl
    loop_none (assign at name fields e) h = refl
    loop_none (assign_through at name fields e) h = refl
    loop_none (conditional at bs) h = loop_branch bs h
    loop_none (conditional_else at bs b) h =
        pair (each_loop_of_branches x test bs h) (each_loop_of_block x test b h)
        (looped_in_branches x places bs h) (looped_in_block x places b h) (loop_branch bs h) (loop_block b h)
    loop_none (case_of at e rest) h = loop_arm rest h
    loop_none (while_loop at e b) h =
        pair (test h e) (each_in_block x test b h) (places h e) (gathered_in_block x places b h) (agrees h e)
        (each_block b h)
    loop_none (for_loop at name a z b) h = each_block b (held_from x (declared name.name ∷ []) h)
    loop_none (borrow_in at access y r region b stop) h =
        loop_block b (held_from x (declared r.name ∷ lent access y.name ∷ []) h)
    loop_none (borrow_typed at r t mode y b stop) h =
        loop_block b (held_from x (declared r.name ∷ lent (access_of mode) y.name ∷ []) h)
    loop_none (discard at e) h = refl
    loop_none (return_of at e) h = refl

    loop_block : (b : PlainStatements) (h : Hold) → each_loop_of_block x test b h
        ≡ is_none (looped_in_block x places b h)
    loop_block no_statements h = refl
    loop_block (statements s more) h =
        let inner = held_from x (declared_by s) h in
        pair (each_loop x test s h) (each_loop_of_block x test more inner) (looped x places s h)
        (looped_in_block x places more inner) (loop_none s h) (loop_block more inner)

    loop_branch : (bs : PlainBranches) (h : Hold) → each_loop_of_branches x test bs h
        ≡ is_none (looped_in_branches x places bs h)
    loop_branch no_branches h = refl
    loop_branch (branches e b more) h =
        pair (each_loop_of_block x test b h) (each_loop_of_branches x test more h)
        (looped_in_block x places b h) (looped_in_branches x places more h) (loop_block b h)
        (loop_branch more h)

    loop_arm : (rest : PlainArms) (h : Hold) → each_loop_of_arms x test rest h
        ≡ is_none (looped_in_arms x places rest h)
    loop_arm no_arms h = refl
    loop_arm (arms when' name binds b more) h =
        let inner = held_from x (bound_names binds) h in
        pair (each_loop_of_block x test b inner) (each_loop_of_arms x test more h)
        (looped_in_block x places b inner) (looped_in_arms x places more h) (loop_block b inner)
        (loop_arm more h)

keeps_none : (x : Bytes) (sort : Sort) (h : Hold) (e : PlainExpression) → keeps x (is_free sort) h e
    ≡ is_none (consumptions_at x sort h e)
keeps_none x sort unlent e = kept_none x (is_free sort) e
keeps_none x sort read_lent e = kept_none x (is_free sort) e
keeps_none x sort write_lent e = kept_none x (is_free sort) e
keeps_none x sort hidden e = refl

parts_none : (x : Bytes) (sort : Sort) (h : Hold) (e : PlainExpression) → keeps_in_parts x (is_free sort) h e
    ≡ is_none (partings_at x sort h e)
parts_none x sort unlent e = parted x (is_free sort) e
parts_none x sort read_lent e = parted x (is_free sort) e
parts_none x sort write_lent e = parted x (is_free sort) e
parts_none x sort hidden e = refl

module _ (x : Bytes) (sort : Sort) (b : PlainStatements) where
  loops_are : keeps_loops x sort b ≡ is_none (loop_places x sort b)
  loops_are = loop_block x (keeps x (is_free sort)) (consumptions_at x sort) (keeps_none x sort) b unlent

  parts_are : keeps_all_parts x sort b ≡ is_none (part_places x sort b)
  parts_are = each_block x (keeps_in_parts x (is_free sort)) (partings_at x sort) (parts_none x sort) b unlent

  pub no_loop_place : keeps_loops x sort b ≡ true → loop_places x sort b ≡ []
  no_loop_place h = none_is (loop_places x sort b) (sym loops_are ∙ h)

  pub loops_kept : loop_places x sort b ≡ [] → keeps_loops x sort b ≡ true
  loops_kept h = loops_are ∙ ap is_none h

  pub no_part_place : keeps_all_parts x sort b ≡ true → part_places x sort b ≡ []
  no_part_place h = none_is (part_places x sort b) (sym parts_are ∙ h)

  pub parts_kept : part_places x sort b ≡ [] → keeps_all_parts x sort b ≡ true
  parts_kept h = parts_are ∙ ap is_none h
