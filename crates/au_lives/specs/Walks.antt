-- What the steps of a block do to the fate of a variable, and a walk that finds it for all paths at once.
use Rattle.std.specs.Prelude.{ℕ, zero, suc, ◌+◌, ◌==◌, Bool, true, false, List, [], ◌∷◌, ◌++◌, length, drop}
use Rattle.std.specs.Prelude.{min, Option, None, Some, Result, Ok, Err, if◌then◌else◌}
use Rattle.au_syntax.specs.Statements.{skip, declare, destructure, assign, assign_through, conditional}
use Rattle.au_syntax.specs.Statements.{conditional_else, case_of, while_loop, for_loop, borrow_in}
use Rattle.au_syntax.specs.Statements.{borrow_typed, discard, return_of, no_statements, statements}
use Rattle.au_syntax.specs.Statements.{no_branches, branches, no_arms, arms}
use Rattle.au_syntax.specs.Plain.{Bytes, PlainStatement, PlainStatements, PlainBranches, PlainArms}
use Rattle.au_lives.specs.declared.lives.LifeKind.{LifeKind}
use Rattle.au_lives.specs.declared.lives.Sort.{Sort}
use Rattle.au_lives.specs.Paths.{Met, whole, opening, assignment, assignment_behind, lent, declared, first}
use Rattle.au_lives.specs.Paths.{count_of_branches, count_of_arms, declared_by, bound_names, access_of}
use Rattle.au_lives.specs.Lives.{Hold, unlent, held_from, met_counts, unless_hidden, is_free, Fate, going}
use Rattle.au_lives.specs.Lives.{broken, verdict, onward, at_end}

-- which states of a variable are possible at a place, not consumed and consumed, each with a path to it
pub record Reach : Type 0 where
  pub live : Option (List ℕ)
  pub spent : Option (List ℕ)

abbrev pub reach : Option (List ℕ) → Option (List ℕ) → Reach
reach a b = record { live = a; spent = b }

abbrev pub at_state : Reach → Bool → Option (List ℕ)
at_state r false = r.live
at_state r true = r.spent

-- how a life is broken, and on which path
pub record Breach : Type 0 where
  pub kind : LifeKind
  pub path : List ℕ

abbrev pub Walk : Type 0
Walk = Result Reach Breach

abbrev pub breach : LifeKind → List ℕ → Walk
breach k p = Err (record { kind = k; path = p })

-- one walk after another
infixl 10 ◌>>=◌
abbrev pub ◌>>=◌ : Walk → (Reach → Walk) → Walk
(Ok r) >>= f = f r
(Err e) >>= f = Err e

-- no path leads there
abbrev pub nowhere : Reach
nowhere = reach None None

abbrev pub either : Option (List ℕ) → Option (List ℕ) → Option (List ℕ)
either (Some p) b = Some p
either None b = b

-- where two ways meet
abbrev pub merge : Reach → Reach → Reach
merge a b = reach (either a.live b.live) (either a.spent b.spent)

abbrev pub push : ℕ → Option (List ℕ) → Option (List ℕ)
push n None = None
push n (Some p) = Some (p ++ n ∷ [])

-- each path with one more number
abbrev pub choose : ℕ → Reach → Reach
choose n r = reach (push n r.live) (push n r.spent)

-- a path that ends in this number, where it breaks
abbrev pub noted : ℕ → Walk → Walk
noted n (Ok r) = Ok r
noted n (Err b) = breach b.kind (b.path ++ n ∷ [])

abbrev pub only : Bool → Option (List ℕ) → Reach
only false p = reach p None
only true p = reach None p

-- what becomes of one state
abbrev pub land : Option (List ℕ) → Fate → Walk
land None f = Ok nowhere
land (Some p) (going s) = Ok (only s (Some p))
land (Some p) (broken k) = breach k p

abbrev pub landed : Walk → Reach → Walk
landed other a = other >>= (λ b. Ok (merge a b))

-- what a step does where the variable was consumed, and where it wasn't
unfoldable pub walk_by : Fate → Fate → Reach → Walk
walk_by s l r = land r.spent s >>= landed (land r.live l)

abbrev pub walk_step : (Bool → Fate) → Reach → Walk
walk_step f r = walk_by (f true) (f false) r

abbrev pub joined : Reach → Reach → Walk
joined out o = Ok (merge out o)

-- the end of each path
abbrev pub finish : Sort → Reach → Walk
finish sort r = walk_step (at_end sort) r

abbrev pub stop : Reach → Walk
stop r = Ok nowhere

abbrev pub returned : Sort → Reach → Walk
returned sort r = finish sort r >>= stop

abbrev pub left : Reach → Reach → Walk
left r o = Ok (choose 0 r)

-- a loop from behind its test: one turn, which leaves the state as it is, and then out of it
abbrev pub turned : (Reach → Walk) → Reach → Walk
turned body r = body (choose 1 r) >>= left r

-- what a part does to a fate, the numbers that it took, those that are left, and whether it returned
pub record Drive : Type 0 where
  pub fate : Fate
  pub taken : List ℕ
  pub rest : List ℕ
  pub returned : Bool

abbrev pub drives : Fate → List ℕ → List ℕ → Bool → Drive
drives v t cs b = record { fate = v; taken = t; rest = cs; returned = b }

-- what drives a fate by choices
abbrev pub Machine : Type 0
Machine = Fate → List ℕ → Drive

abbrev pub taking : List ℕ → Drive → Drive
taking t d = drives d.fate (t ++ d.taken) d.rest d.returned

abbrev pub picking : ℕ → Drive → Drive
picking n d = drives d.fate (n ∷ d.taken) d.rest d.returned

abbrev pub onto : Drive → Machine → Drive
onto d k = if d.returned then d else taking d.taken (k d.fate d.rest)

abbrev pub step_by : (Bool → Fate) → Machine
step_by f v cs = drives (onward f v) [] cs false

abbrev pub in_turn : Machine → Machine → Machine
in_turn m k v cs = onto (m v cs) k

abbrev pub ending : (Bool → Fate) → Machine
ending f v cs = drives (onward f v) [] cs true

abbrev pub leave : Machine
leave v cs = drives v (0 ∷ []) (drop 1 cs) false

abbrev pub turning : Machine → Machine
turning body v cs = picking 1 (body v (drop 1 cs))

abbrev pub turns_by : Machine → Machine → ℕ → Machine
turns_by test body zero v cs = onto (test v cs) leave
turns_by test body (suc n) v cs =
    onto (test v cs) (λ w ds.
    if first ds == 0 then leave w ds else onto (turning body w ds) (turns_by test body n))

abbrev pub looping : Machine → Machine → Machine
looping test body v cs = turns_by test body (length cs) v cs

-- a test that comes before each arm, the arm, and those after it
abbrev pub armed : Machine → Machine → (ℕ → Machine) → ℕ → Machine
armed t m others zero = in_turn t m
armed t m others (suc n) = in_turn t (others n)

-- the arm of the number that is read
abbrev pub chosen : ℕ → (ℕ → Machine) → Machine
chosen last ms v cs = picking (min (first cs) last) (ms (first cs) v (drop 1 cs))

module _ (x : Bytes) (sort : Sort) where
  -- what a step does to x where it is held so
  abbrev pub does : Met → Hold → Bool → Fate
  does m h = verdict h (unless_hidden h (met_counts x (is_free sort) m))

  abbrev mutual
    pub drive : PlainStatement → Hold → Machine
    drive (skip at) h = step_by going
    drive (declare at binding name t e) h = step_by (does (whole e) h)
    drive (destructure at binds e) h = step_by (does (whole e) h)
    drive (assign at name fields e) h =
        in_turn (step_by (does (whole e) h)) (step_by (does (assignment name.name) h))
    drive (assign_through at name fields e) h =
        in_turn (step_by (does (whole e) h)) (step_by (does (assignment_behind name.name) h))
    drive (conditional at bs) h = chosen (count_of_branches bs) (drive_branches bs h (step_by going))
    drive (conditional_else at bs b) h = chosen (count_of_branches bs) (drive_branches bs h (drive_block b h))
    drive (case_of at e no_arms) h = in_turn (step_by (does (whole e) h)) (chosen 0 (λ n. step_by going))
    drive (case_of at e (arms when' name binds b more)) h =
        in_turn (step_by (does (whole e) h))
        (chosen (count_of_arms more) (drive_arms more h (drive_block b (held_from x (bound_names binds) h))))
    drive (while_loop at e b) h = looping (step_by (does (whole e) h)) (drive_block b h)
    drive (for_loop at name a z b) h =
        in_turn (in_turn (step_by (does (whole a) h)) (step_by (does (whole z) h)))
        (looping (step_by going) (drive_block b (held_from x (declared name.name ∷ []) h)))
    drive (borrow_in at access y r region b stop) h =
        in_turn (step_by (does (opening access y.name) h))
        (drive_block b (held_from x (declared r.name ∷ lent access y.name ∷ []) h))
    drive (borrow_typed at r t mode y b stop) h =
        in_turn (step_by (does (opening (access_of mode) y.name) h))
        (drive_block b (held_from x (declared r.name ∷ lent (access_of mode) y.name ∷ []) h))
    drive (discard at e) h = step_by (does (whole e) h)
    drive (return_of at e) h = in_turn (step_by (does (whole e) h)) (ending (at_end sort))

    pub drive_block : PlainStatements → Hold → Machine
    drive_block no_statements h = step_by going
    drive_block (statements s more) h = in_turn (drive s h) (drive_block more (held_from x (declared_by s) h))

    pub drive_branches : PlainBranches → Hold → Machine → ℕ → Machine
    drive_branches no_branches h other n = other
    drive_branches (branches e b more) h other n =
        armed (step_by (does (whole e) h)) (drive_block b h) (drive_branches more h other) n

    pub drive_arms : PlainArms → Hold → Machine → ℕ → Machine
    drive_arms no_arms h this n = this
    drive_arms (arms when' name binds b more) h this n =
        armed (step_by going) this (drive_arms more h (drive_block b (held_from x (bound_names binds) h))) n

  abbrev mutual
    -- The walk: each statement once, with the states that are possible before it.
    pub walk : PlainStatement → Hold → Reach → Walk
    walk (skip at) h r = Ok r
    walk (declare at binding name t e) h r = walk_step (does (whole e) h) r
    walk (destructure at binds e) h r = walk_step (does (whole e) h) r
    walk (assign at name fields e) h r =
        walk_step (does (whole e) h) r >>= walk_step (does (assignment name.name) h)
    walk (assign_through at name fields e) h r =
        walk_step (does (whole e) h) r >>= walk_step (does (assignment_behind name.name) h)
    walk (conditional at bs) h r = walk_branches bs h Ok 0 r nowhere
    walk (conditional_else at bs b) h r = walk_branches bs h (walk_block b h) 0 r nowhere
    walk (case_of at e no_arms) h r =
        walk_step (does (whole e) h) r >>= (λ q. Ok (choose 0 q) >>= joined nowhere)
    walk (case_of at e (arms when' name binds b more)) h r =
        walk_step (does (whole e) h) r
        >>= (λ q. walk_arms more h (walk_block b (held_from x (bound_names binds) h)) 0 q nowhere)
    walk (while_loop at e b) h r = walk_step (does (whole e) h) r >>= turned (walk_block b h)
    walk (for_loop at name a z b) h r =
        walk_step (does (whole a) h) r >>= walk_step (does (whole z) h)
        >>= turned (walk_block b (held_from x (declared name.name ∷ []) h))
    walk (borrow_in at access y r' region b stop) h r =
        walk_step (does (opening access y.name) h) r
        >>= walk_block b (held_from x (declared r'.name ∷ lent access y.name ∷ []) h)
    walk (borrow_typed at r' t mode y b stop) h r =
        walk_step (does (opening (access_of mode) y.name) h) r
        >>= walk_block b (held_from x (declared r'.name ∷ lent (access_of mode) y.name ∷ []) h)
    walk (discard at e) h r = walk_step (does (whole e) h) r
    walk (return_of at e) h r = walk_step (does (whole e) h) r >>= returned sort

    pub walk_block : PlainStatements → Hold → Reach → Walk
    walk_block no_statements h r = Ok r
    walk_block (statements s more) h r = walk s h r >>= walk_block more (held_from x (declared_by s) h)

    pub walk_branches : PlainBranches → Hold → (Reach → Walk) → ℕ → Reach → Reach → Walk
    walk_branches no_branches h other i r out = other (choose i r) >>= joined out
    walk_branches (branches e b more) h other i r out =
        noted i (walk_step (does (whole e) h) r)
        >>= (λ q. walk_block b h (choose i q) >>= (λ o. walk_branches more h other (i + 1) q (merge out o)))

    pub walk_arms : PlainArms → Hold → (Reach → Walk) → ℕ → Reach → Reach → Walk
    walk_arms no_arms h this i r out = this (choose i r) >>= joined out
    walk_arms (arms when' name binds b more) h this i r out =
        this (choose i r)
        >>= (λ o. walk_arms more h (walk_block b (held_from x (bound_names binds) h)) (i + 1) r (merge out o))

  -- the walk over the whole scope of x
  abbrev pub checked : PlainStatements → Walk
  checked b = walk_block b unlent (reach (Some []) None) >>= finish sort
