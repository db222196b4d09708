-- What the values of the walk stand for.
use Rattle.std.specs.Prelude.{◌≡◌, ℕ, ◌+◌, Bool, true, false, List, Option, None, Some, Result, Ok, Err, Vec}
use Rattle.std.specs.Global.{Global}
use Rattle.au_syntax.specs.Plain.{Bytes, PlainExpression, PlainStatements, PlainBranches, PlainArms}
use Rattle.au_syntax.specs.Statements.{no_arms, arms, branches}
use Rattle.au_lives.specs.declared.lives.Sort.{Sort}
use Rattle.au_lives.specs.Lives.{Hold, unlent, read_lent, write_lent, hidden, Fate, going, broken, held_from}
use Rattle.au_lives.specs.Paths.{bound_names}
use Rattle.au_lives.specs.Walks.{Reach, reach, nowhere, Breach, Walk, choose, merge, joined, walk_block}
use Rattle.au_lives.specs.Walks.{walk_branches, walk_arms, ◌>>=◌}
use Rattle.au_lives.specs.declared.steps.Verdict.{Verdict}
use Rattle.au_lives.specs.declared.steps.Verdict.TheVariants as verdicts
use Rattle.au_paths.specs.declared.holds.Hold.{Hold as CodeHold}
use Rattle.au_paths.specs.declared.holds.Hold.TheVariants as holds
use Rattle.au_paths.specs.declared.fates.Fate.{Fate as CodeFate}
use Rattle.au_paths.specs.declared.fates.Fate.TheVariants as fates
use Rattle.au_paths.specs.declared.fates.Effect.{Effect}
use Rattle.au_paths.specs.declared.reaches.Reached.{Reached}
use Rattle.au_paths.specs.declared.reaches.Fork.{Fork}
use Rattle.au_paths.specs.declared.reaches.Broken.{Broken}
use Rattle.au_paths.specs.declared.reaches.Stop.{Stop}
use Rattle.au_paths.specs.declared.reaches.Stop.TheVariants as stops

abbrev pub hold_of : CodeHold → Hold
hold_of holds.Unlent = unlent
hold_of holds.ReadLent = read_lent
hold_of holds.WriteLent = write_lent
hold_of holds.Hidden = hidden

abbrev pub fate_of : CodeFate → Fate
fate_of (fates.Going spent) = going spent
fate_of (fates.Broken kind) = broken kind

-- the variable stays as it is
abbrev pub stays : Verdict → Bool
stays verdicts.Stay = true
stays verdicts.Spend = false
stays verdicts.Bad = false

-- what a step does in both states
pub record Does (e : Effect) (f : Bool → Fate) : Type 0 where
  pub spent : fate_of e.spent ≡ f true
  pub live : fate_of e.live ≡ f false

abbrev pub path_of : Option (Vec ℕ Global) → Option (List ℕ)
path_of None = None
path_of (Some v) = Some v.items

abbrev pub reach_of : Reached → Reach
reach_of r = reach (path_of r.live) (path_of r.spent)

abbrev pub breach_of : Broken → Breach
breach_of b = record { kind = b.kind; path = b.path.items }

-- why a function has no states to give
abbrev pub Stops : Stop → Walk → Type 0
Stops stops.Memory w = Unit {0}
Stops (stops.Breach b) w = w ≡ Err (breach_of b)

-- what a function gives is what the walk gives, unless memory ran out
abbrev pub Gives : Result Reached Stop → Walk → Type 0
Gives (Ok r) w = w ≡ Ok (reach_of r)
Gives (Err e) w = Stops e w

-- one walk behind another
abbrev pub then_on : Walk → (Reach → Walk) → Walk
then_on w more = w >>= more

-- the arms of a case from one on, each from the states behind the expression, with the states behind them
abbrev pub walk_each : Bytes → Sort → PlainArms → Hold → ℕ → Reach → Reach → Walk
walk_each x sort no_arms h i r out = Ok out
walk_each x sort (arms when' name binds b more) h i r out =
    walk_block x sort b (held_from x (bound_names binds) h) (choose i r)
    >>= (λ o. walk_each x sort more h (i + 1) r (merge out o))

-- what a case does behind its expression
abbrev pub walk_case : Bytes → Sort → PlainArms → Hold → Reach → Walk
walk_case x sort no_arms h q = Ok (choose 0 q) >>= joined nowhere
walk_case x sort (arms when' name binds b more) h q =
    walk_arms x sort more h (walk_block x sort b (held_from x (bound_names binds) h)) 0 q nowhere

-- The branches of a conditional: what is done where no test holds comes with the states of the fork.
abbrev pub Forks : Result Fork Stop → ℕ → ((Reach → Walk) → Walk) → Type 0
Forks (Ok f) n w =
    (other : Reach → Walk) → w other ≡ (other (choose n (reach_of f.at)) >>= joined (reach_of f.out))
Forks (Err e) n w = (other : Reach → Walk) → Stops e (w other)

-- one branch more
abbrev pub Branches : Bytes → Sort → Hold → Result Fork Stop → PlainExpression → PlainStatements → ℕ →
    Fork → Type 0
Branches x sort h (Ok f) e b i before =
    (more : PlainBranches) (other : Reach → Walk)
    → walk_branches x sort (branches e b more) h other i (reach_of before.at) (reach_of before.out)
    ≡ walk_branches x sort more h other (i + 1) (reach_of f.at) (reach_of f.out)
Branches x sort h (Err s) e b i before =
    (more : PlainBranches) (other : Reach → Walk)
    → Stops s (walk_branches x sort (branches e b more) h other i (reach_of before.at) (reach_of before.out))
