-- How a part of a body deals with a variable, on all its paths together.
use Rattle.std.specs.Prelude.{ℕ, zero, suc, ◌+◌, ◌==◌, Bool, true, false, not, ◌||◌, ◌&&◌, nat_lt, [], ◌∷◌}
use Rattle.std.specs.Prelude.{if◌then◌else◌}
use Rattle.std.specs.Str.{bytes_eq}
use Rattle.au_syntax.specs.declared.types.Access.{Access}
use Rattle.au_syntax.specs.Statements.{skip, declare, destructure, assign, assign_through, conditional}
use Rattle.au_syntax.specs.Statements.{conditional_else, case_of, while_loop, for_loop, borrow_in}
use Rattle.au_syntax.specs.Statements.{borrow_typed, discard, return_of, no_statements, statements}
use Rattle.au_syntax.specs.Statements.{no_branches, branches, no_arms, arms}
use Rattle.au_syntax.specs.Plain.{Bytes, PlainStatement, PlainStatements, PlainBranches, PlainArms}
use Rattle.au_lives.specs.declared.lives.Sort.{Sort}
use Rattle.au_lives.specs.declared.lives.Sort.TheVariants as sorts
use Rattle.au_lives.specs.Paths.{lent as lent_name, declared, declared_by, bound_names, access_of}
use Rattle.au_lives.specs.Lives.{Hold, unlent, read_lent, write_lent, hidden, held_from, is_free}
use Rattle.au_lives.specs.Scopes.{Scope}
use Rattle.au_lives.specs.Choices.{counted}
pub use Rattle.au_clearing.specs.declared.dealings.Dealing.{Dealing}
use Rattle.au_clearing.specs.declared.dealings.Dealings.{Dealings}
use Rattle.au_clearing.specs.declared.dealings.Life.{Life}
use Rattle.au_clearing.specs.Touches.{Touch, Untouched, Quiet, Written, Broken, worse, kept, is_consumed}
use Rattle.au_clearing.specs.Touches.{behind_spent, lent, touch_at, touched_at}

-- A dealing says what the steps do at most; whether a path that finds the variable alive may go on with it
-- alive, or with it consumed; and how many of the returns are reached by no path with it alive, as far as can
-- be counted.

abbrev pub dealing : Touch → Bool → Bool → ℕ → Dealing
dealing t l s n = record { touch = t; lives = l; spends = s; spared = n }

-- no step
abbrev pub nothing : Dealing
nothing = dealing Untouched true false 0

-- no path
abbrev pub never : Dealing
never = dealing Untouched false false 0

-- one step
abbrev pub once : Touch → Dealing
once t = dealing t (not (is_consumed t)) (is_consumed t) 0

-- two numbers, as far as can be counted
abbrev pub sum : ℕ → ℕ → ℕ
sum zero n = n
sum (suc m) n = counted (suc m + n)

-- one part and then another that has so many returns
abbrev pub chain : ℕ → Dealing → Dealing → Dealing
chain n d e =
    dealing (worse d.touch (behind_spent d.spends e.touch)) (d.lives && e.lives)
    ((d.spends && e.lives) || (d.lives && e.spends)) (sum d.spared (if d.lives then e.spared else n))

-- one part or another
abbrev pub fork : Dealing → Dealing → Dealing
fork d e =
    dealing (worse d.touch e.touch) (d.lives || e.lives) (d.spends || e.spends) (sum d.spared e.spared)

-- the turns of a loop
abbrev pub turns : Dealing → Dealing
turns d = dealing (kept d.touch) true false d.spared

-- a borrow statement on the variable round a part
abbrev pub lend : Access → Dealing → Dealing
lend access d = dealing (lent access d.touch) d.lives d.spends d.spared

-- a borrow statement, by whether it is on the variable
abbrev pub lend_by : Bool → Access → Hold → Dealing → Dealing
lend_by named access hidden d = d
lend_by named access unlent d = if named then lend access d else d
lend_by named access read_lent d = if named then lend access d else d
lend_by named access write_lent d = if named then lend access d else d

-- a borrow statement on the variable of a name
abbrev pub lend_named : Bytes → Bytes → Access → Hold → Dealing → Dealing
lend_named x y access h d = lend_by (bytes_eq y x) access h d

abbrev mutual
  -- how many returns there are
  pub returns_in : PlainStatement → ℕ
  returns_in (skip at) = 0
  returns_in (declare at binding name t e) = 0
  returns_in (destructure at binds e) = 0
  returns_in (assign at name fields e) = 0
  returns_in (assign_through at name fields e) = 0
  returns_in (conditional at bs) = returns_in_branches bs 0
  returns_in (conditional_else at bs b) = returns_in_branches bs (returns_in_block b)
  returns_in (case_of at e rest) = returns_in_arms rest
  returns_in (while_loop at e b) = returns_in_block b
  returns_in (for_loop at name a z b) = returns_in_block b
  returns_in (borrow_in at access x r region b stop) = returns_in_block b
  returns_in (borrow_typed at r t mode x b stop) = returns_in_block b
  returns_in (discard at e) = 0
  returns_in (return_of at e) = 1

  pub returns_in_block : PlainStatements → ℕ
  returns_in_block no_statements = 0
  returns_in_block (statements s more) = sum (returns_in s) (returns_in_block more)

  -- with those where no test holds
  pub returns_in_branches : PlainBranches → ℕ → ℕ
  returns_in_branches no_branches other = other
  returns_in_branches (branches e b more) other = sum (returns_in_block b) (returns_in_branches more other)

  pub returns_in_arms : PlainArms → ℕ
  returns_in_arms no_arms = 0
  returns_in_arms (arms when' name binds b more) = sum (returns_in_block b) (returns_in_arms more)

module _ (x : Bytes) (free : Bool) where
  -- a step that mentions a name
  abbrev pub mention : Bytes → Touch → Hold → Dealing
  mention name t h = once (touch_at x h name t)

  -- behind the expression of a case: no arm, or one of its arms
  abbrev pub cased : PlainArms → Dealing → Dealing
  cased no_arms d = nothing
  cased (arms when' name binds b more) d = d

  abbrev mutual
    -- how a statement deals with x, by whether the type of x is Free, where x is held so
    pub deal : PlainStatement → Hold → Dealing
    deal (skip at) h = nothing
    deal (declare at binding name t e) h = once (touched_at x free h e)
    deal (destructure at binds e) h = once (touched_at x free h e)
    deal (assign at name fields e) h =
        chain 0 (once (touched_at x free h e)) (mention name.name Written h)
    deal (assign_through at name fields e) h =
        chain 0 (once (touched_at x free h e)) (mention name.name Quiet h)
    deal (conditional at bs) h = deal_branches bs nothing 0 h
    deal (conditional_else at bs b) h = deal_branches bs (deal_block b h) (returns_in_block b) h
    deal (case_of at e rest) h =
        chain (returns_in_arms rest) (once (touched_at x free h e)) (cased rest (deal_arms rest h))
    deal (while_loop at e b) h =
        chain (returns_in_block b) (once (kept (touched_at x free h e))) (turns (deal_block b h))
    deal (for_loop at name a z b) h =
        chain (returns_in_block b) (once (touched_at x free h a))
        (chain (returns_in_block b) (once (touched_at x free h z))
        (turns (deal_block b (held_from x (declared name.name ∷ []) h))))
    deal (borrow_in at access y r region b stop) h =
        lend_named x y.name access h
        (deal_block b (held_from x (declared r.name ∷ lent_name access y.name ∷ []) h))
    deal (borrow_typed at r t mode y b stop) h =
        lend_named x y.name (access_of mode) h
        (deal_block b (held_from x (declared r.name ∷ lent_name (access_of mode) y.name ∷ []) h))
    deal (discard at e) h = once (touched_at x free h e)
    deal (return_of at e) h = chain 1 (once (touched_at x free h e)) never

    pub deal_block : PlainStatements → Hold → Dealing
    deal_block no_statements h = nothing
    deal_block (statements s more) h =
        chain (returns_in_block more) (deal s h) (deal_block more (held_from x (declared_by s) h))

    -- the branches of a conditional, and what is done where no test holds, with so many returns
    pub deal_branches : PlainBranches → Dealing → ℕ → Hold → Dealing
    deal_branches no_branches other n h = other
    deal_branches (branches e b more) other n h =
        chain (sum (returns_in_block b) (returns_in_branches more n)) (once (touched_at x free h e))
        (fork (deal_block b h) (deal_branches more other n h))

    pub deal_arms : PlainArms → Hold → Dealing
    deal_arms no_arms h = never
    deal_arms (arms when' name binds b more) h =
        fork (deal_block b (held_from x (bound_names binds) h)) (deal_arms more h)

-- what no step breaks
abbrev pub is_whole : Touch → Bool
is_whole Broken = false
is_whole t = true

-- no path ends with the variable alive, and each of so many returns is spared, where they could be counted
abbrev pub is_spent : ℕ → Dealing → Bool
is_spent n d = not d.lives && ((d.spared == n) && nat_lt n 18446744073709551615)

-- a dealing of the whole scope of a variable that clears it, by what its type asks for
abbrev pub clears : Sort → ℕ → Dealing → Bool
clears sorts.Free n d = is_whole d.touch
clears sorts.WriteReference n d = is_whole d.touch
clears sorts.Linear n d = is_whole d.touch && is_spent n d

-- the dealing of the block that is the scope of x clears x
abbrev pub is_cleared : Bytes → Sort → PlainStatements → Bool
is_cleared x sort b = clears sort (returns_in_block b) (deal_block x (is_free sort) b unlent)

-- how a part deals with a variable whose type isn't Free, or is
abbrev pub by_type : Bool → Dealings → Dealing
by_type false d = d.owned
by_type true d = d.free

-- what is known of a variable: how its scope deals with it, and how many returns there are
abbrev pub life_of : Scope → Life
life_of s = record {
  dealings = record {
    owned = deal_block s.name.name false s.block unlent;
    free = deal_block s.name.name true s.block unlent;
  };
  returns = returns_in_block s.block;
}
