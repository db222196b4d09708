-- When the life of a variable is good, and how one is broken.
use Rattle.std.specs.Prelude.{◌≡◌, ◌≢◌, ℕ, ◌+◌, ◌≤◌, ◌==◌, Bool, true, false, not, ◌||◌, ◌&&◌, List, [], ◌∷◌}
use Rattle.std.specs.Prelude.{◌++◌, if◌then◌else◌, IsTrue}
use Rattle.std.specs.List.{All}
use Rattle.std.specs.Str.{bytes_eq}
use Rattle.au_syntax.specs.declared.types.Access.{Access}
use Rattle.au_syntax.specs.declared.types.Access.TheVariants as access
use Rattle.au_syntax.specs.Statements.{skip, declare, destructure, assign, assign_through, conditional}
use Rattle.au_syntax.specs.Statements.{conditional_else, case_of, while_loop, for_loop, borrow_in}
use Rattle.au_syntax.specs.Statements.{borrow_typed, discard, return_of, no_statements, statements}
use Rattle.au_syntax.specs.Statements.{no_branches, branches, no_arms, arms}
use Rattle.au_syntax.specs.Plain.{Bytes, PlainExpression, PlainStatement, PlainStatements, PlainBranches}
use Rattle.au_syntax.specs.Plain.{PlainArms}
use Rattle.au_lives.specs.declared.lives.LifeKind.{LifeKind}
use Rattle.au_lives.specs.declared.lives.LifeKind.TheVariants as kinds
use Rattle.au_lives.specs.declared.lives.Sort.{Sort}
use Rattle.au_lives.specs.declared.lives.Sort.TheVariants as sorts
use Rattle.au_lives.specs.Mentions.{Counts, counts, unmentioned, one_write_borrow, one_read_borrow, one_look}
use Rattle.au_lives.specs.Mentions.{where_named, counts_in, keeps_parts}
use Rattle.au_lives.specs.Paths.{Met, whole, opening, assignment, assignment_behind, Around, lent, declared}
use Rattle.au_lives.specs.Paths.{Step, follow_block, declared_by, bound_names, access_of}

abbrev pub is_free : Sort → Bool
is_free sorts.Free = true
is_free sorts.WriteReference = false
is_free sorts.Linear = false

-- How the open borrow statements on a variable hold it: not at all, for reading or for writing. Or its name
-- is that of another variable there.
pub data Hold : Type 0 where
  unlent : Hold
  read_lent : Hold
  write_lent : Hold
  hidden : Hold

-- one more borrow statement
abbrev pub tighter : Access → Hold → Hold
tighter access hidden = hidden
tighter access.Write h = write_lent
tighter access.Read unlent = read_lent
tighter access.Read read_lent = read_lent
tighter access.Read write_lent = write_lent

-- a name that hides x counts for nothing
abbrev pub unless_hidden : Hold → Counts → Counts
unless_hidden unlent k = k
unless_hidden read_lent k = k
unless_hidden write_lent k = k
unless_hidden hidden k = unmentioned

-- the opening of a borrow statement borrows
abbrev pub opening_counts : Access → Counts
opening_counts access.Read = one_read_borrow
opening_counts access.Write = one_write_borrow

module _ (x : Bytes) where
  -- how x is held inside what stands round, where it is held so outside
  abbrev pub held_from : List Around → Hold → Hold
  held_from [] h = h
  held_from (lent a y ∷ os) h = if bytes_eq y x then tighter a (held_from os h) else held_from os h
  held_from (declared y ∷ os) h = if bytes_eq y x then hidden else held_from os h

  abbrev pub held_around : List Around → Hold
  held_around os = held_from os unlent

  -- The mentions of the name x in a step, by whether the type of x is Free: an assignment to x or its part
  -- write-borrows, one to what lies behind x looks.
  abbrev pub met_counts : Bool → Met → Counts
  met_counts free (whole e) = counts_in x free e
  met_counts free (opening a y) = where_named x y (opening_counts a)
  met_counts free (assignment y) = where_named x y one_write_borrow
  met_counts free (assignment_behind y) = where_named x y one_look

  -- the mentions of the variable x, and of no other of that name
  abbrev pub step_counts : Bool → Step → Counts
  step_counts free s = unless_hidden (held_around s.around) (met_counts free s.what)

-- neither consumed nor write-borrowed
abbrev pub is_quiet : Counts → Bool
is_quiet k = (k.consumed == 0) && (k.written == 0)

abbrev pub is_exactly : Counts → Counts → Bool
is_exactly one k =
    (k.consumed == one.consumed)
    && ((k.written == one.written) && ((k.read == one.read) && (k.looked == one.looked)))

abbrev pub is_untouched : Counts → Bool
is_untouched k = is_exactly unmentioned k

-- In one step a variable is read-borrowed and looked at, or write-borrowed once, or consumed once.
abbrev pub is_ordinary : Counts → Bool
is_ordinary k = is_quiet k || (is_exactly (counts 0 1 0 0) k || is_exactly (counts 1 0 0 0) k)

-- While it is lent for reading, it is only read-borrowed and looked at; while it is lent for writing, it
-- isn't met.
abbrev pub is_allowed : Hold → Counts → Bool
is_allowed unlent k = true
is_allowed read_lent k = is_quiet k
is_allowed write_lent k = is_untouched k
is_allowed hidden k = true

-- how often a variable is consumed on a whole path: once, or at most once where it is a write reference, or
-- never where it is Free
abbrev pub IsSpent : Sort → ℕ → Type 0
IsSpent sorts.Free n = n ≡ 0
IsSpent sorts.WriteReference n = n ≤ 1
IsSpent sorts.Linear n = n ≡ 1

module _ (x : Bytes) (sort : Sort) where
  abbrev pub counts_at : Step → Counts
  counts_at s = step_counts x (is_free sort) s

  -- after a step that consumes it, the variable isn't met
  abbrev pub UntouchedAfterwards : List Step → Type 0
  UntouchedAfterwards [] = Unit {0}
  UntouchedAfterwards (s ∷ ss) =
      ((counts_at s).consumed ≢ 0 → All (λ t. IsTrue (is_untouched (counts_at t))) ss)
      × UntouchedAfterwards ss

  abbrev pub consumptions : List Step → ℕ
  consumptions [] = 0
  consumptions (s ∷ ss) = (counts_at s).consumed + consumptions ss

  -- the steps of one path use the variable as they may
  pub record GoodPath (steps : List Step) : Type 0 where
    pub ordinary : All (λ s. IsTrue (is_ordinary (counts_at s))) steps
    pub allowed : All (λ s. IsTrue (is_allowed (held_around x s.around) (counts_at s))) steps
    pub afterwards : UntouchedAfterwards steps
    pub spent : IsSpent sort (consumptions steps)

-- Tests of an expression at a place where x is held so. Where its name is hidden, nothing counts.
module _ (x : Bytes) (free : Bool) where
  -- the expression doesn't consume the variable
  abbrev pub keeps : Hold → PlainExpression → Bool
  keeps h e = (unless_hidden h (counts_in x free e)).consumed == 0

  -- the expression doesn't consume the variable where it may leave out to look
  abbrev pub keeps_in_parts : Hold → PlainExpression → Bool
  keeps_in_parts unlent e = keeps_parts x free e
  keeps_in_parts read_lent e = keeps_parts x free e
  keeps_in_parts write_lent e = keeps_parts x free e
  keeps_in_parts hidden e = true

-- each expression of a statement passes a test, which is told how x is held there
module _ (x : Bytes) (test : Hold → PlainExpression → Bool) where
  abbrev mutual
    pub each_in : PlainStatement → Hold → Bool
    each_in (skip at) h = true
    each_in (declare at binding name t e) h = test h e
    each_in (destructure at binds e) h = test h e
    each_in (assign at name fields e) h = test h e
    each_in (assign_through at name fields e) h = test h e
    each_in (conditional at bs) h = each_in_branches bs h
    each_in (conditional_else at bs b) h = each_in_branches bs h && each_in_block b h
    each_in (case_of at e rest) h = test h e && each_in_arms rest h
    each_in (while_loop at e b) h = test h e && each_in_block b h
    each_in (for_loop at name a z b) h =
        test h a && (test h z && each_in_block b (held_from x (declared name.name ∷ []) h))
    each_in (borrow_in at access y r region b stop) h =
        each_in_block b (held_from x (declared r.name ∷ lent access y.name ∷ []) h)
    each_in (borrow_typed at r t mode y b stop) h =
        each_in_block b (held_from x (declared r.name ∷ lent (access_of mode) y.name ∷ []) h)
    each_in (discard at e) h = test h e
    each_in (return_of at e) h = test h e

    pub each_in_block : PlainStatements → Hold → Bool
    each_in_block no_statements h = true
    each_in_block (statements s more) h = each_in s h && each_in_block more (held_from x (declared_by s) h)

    pub each_in_branches : PlainBranches → Hold → Bool
    each_in_branches no_branches h = true
    each_in_branches (branches e b more) h = test h e && (each_in_block b h && each_in_branches more h)

    pub each_in_arms : PlainArms → Hold → Bool
    each_in_arms no_arms h = true
    each_in_arms (arms when' name binds b more) h =
        each_in_block b (held_from x (bound_names binds) h) && each_in_arms more h

-- each loop of a statement passes a test of its expressions; the test of a `while` stands in the loop, the
-- bounds of a `for` don't
module _ (x : Bytes) (test : Hold → PlainExpression → Bool) where
  abbrev mutual
    pub each_loop : PlainStatement → Hold → Bool
    each_loop (skip at) h = true
    each_loop (declare at binding name t e) h = true
    each_loop (destructure at binds e) h = true
    each_loop (assign at name fields e) h = true
    each_loop (assign_through at name fields e) h = true
    each_loop (conditional at bs) h = each_loop_of_branches bs h
    each_loop (conditional_else at bs b) h = each_loop_of_branches bs h && each_loop_of_block b h
    each_loop (case_of at e rest) h = each_loop_of_arms rest h
    each_loop (while_loop at e b) h = test h e && each_in_block x test b h
    each_loop (for_loop at name a z b) h = each_in_block x test b (held_from x (declared name.name ∷ []) h)
    each_loop (borrow_in at access y r region b stop) h =
        each_loop_of_block b (held_from x (declared r.name ∷ lent access y.name ∷ []) h)
    each_loop (borrow_typed at r t mode y b stop) h =
        each_loop_of_block b (held_from x (declared r.name ∷ lent (access_of mode) y.name ∷ []) h)
    each_loop (discard at e) h = true
    each_loop (return_of at e) h = true

    pub each_loop_of_block : PlainStatements → Hold → Bool
    each_loop_of_block no_statements h = true
    each_loop_of_block (statements s more) h =
        each_loop s h && each_loop_of_block more (held_from x (declared_by s) h)

    pub each_loop_of_branches : PlainBranches → Hold → Bool
    each_loop_of_branches no_branches h = true
    each_loop_of_branches (branches e b more) h = each_loop_of_block b h && each_loop_of_branches more h

    pub each_loop_of_arms : PlainArms → Hold → Bool
    each_loop_of_arms no_arms h = true
    each_loop_of_arms (arms when' name binds b more) h =
        each_loop_of_block b (held_from x (bound_names binds) h) && each_loop_of_arms more h

module _ (x : Bytes) (sort : Sort) where
  -- no consumption of x stands in a loop of the block
  abbrev pub keeps_loops : PlainStatements → Bool
  keeps_loops b = each_loop_of_block x (keeps x (is_free sort)) b unlent

  -- no consumption of x stands in a branch of a conditional expression or in the right side of `and` or `or`
  abbrev pub keeps_all_parts : PlainStatements → Bool
  keeps_all_parts b = each_in_block x (keeps_in_parts x (is_free sort)) b unlent

  -- every path through the block that is its scope uses x as its type asks for
  abbrev pub GoodPaths : PlainStatements → Type 0
  GoodPaths b = (choices : List ℕ) → GoodPath x sort (follow_block b [] choices).steps

  -- the life of x is good: on every path, and no consumption stands in a loop, or where an expression may
  -- leave out to look
  pub record GoodLife (b : PlainStatements) : Type 0 where
    pub paths : GoodPaths b
    pub loops : IsTrue (keeps_loops b)
    pub parts : IsTrue (keeps_all_parts b)

-- what the steps of a path have done so far: the variable is consumed or not, or one of them broke its life
pub data Fate : Type 0 where
  going : Bool → Fate
  broken : LifeKind → Fate

-- a step that finds the variable consumed
abbrev pub if_spent : Counts → Fate
if_spent k = if is_untouched k then going true else broken kinds.Again

-- a step that finds it alive
abbrev pub if_live : Hold → Counts → Fate
if_live h k =
    if is_ordinary k then (if is_allowed h k then going (not (k.consumed == 0)) else broken kinds.Borrowed)
    else broken kinds.Clash

-- what a step does
abbrev pub verdict : Hold → Counts → Bool → Fate
verdict h k true = if_spent k
verdict h k false = if_live h k

-- what is broken stays so
abbrev pub onward : (Bool → Fate) → Fate → Fate
onward f (going s) = f s
onward f (broken k) = broken k

-- the end of a path
abbrev pub at_end : Sort → Bool → Fate
at_end sorts.Linear false = broken kinds.Unused
at_end sorts.Linear true = going true
at_end sorts.WriteReference s = going s
at_end sorts.Free s = going s

module _ (x : Bytes) (sort : Sort) where
  -- step after step
  abbrev pub judge : Fate → List Step → Fate
  judge v [] = v
  judge v (s ∷ ss) = judge (onward (verdict (held_around x s.around) (counts_at x sort s)) v) ss

  -- A path: its first step that breaks the life decides, else its end.
  abbrev pub fate : List Step → Fate
  fate ss = onward (at_end sort) (judge (going false) ss)

-- the last number isn't 0
abbrev pub EndsWell : List ℕ → Type 0
EndsWell [] = Unit {0}
EndsWell (n ∷ []) = n ≢ 0
EndsWell (n ∷ m ∷ ms) = EndsWell (m ∷ ms)

-- A path that breaks the life of x, in that way first. Its numbers are read, each is the least that takes the
-- same way, and the last isn't 0.
pub record BadPath (x : Bytes) (sort : Sort) (b : PlainStatements) (kind : LifeKind) (path : List ℕ) : Type 0
  where
    pub breaks : fate x sort (follow_block b [] path).steps ≡ broken kind
    pub least : (more : List ℕ) × ((follow_block b [] path).taken ≡ path ++ more)
    pub short : EndsWell path
