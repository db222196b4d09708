-- Which step of a path breaks the life of a variable first, and how.
use Rattle.std.specs.Prelude.{◌≡◌, List, ◌∷◌, ◌++◌, ◌⊎◌, IsTrue, IsFalse}
use Rattle.std.specs.List.{All}
use Rattle.au_syntax.specs.Plain.{Bytes}
use Rattle.au_lives.specs.declared.lives.LifeKind.{LifeKind}
use Rattle.au_lives.specs.declared.lives.LifeKind.TheVariants as kinds
use Rattle.au_lives.specs.declared.lives.Sort.{Sort}
use Rattle.au_lives.specs.declared.lives.Sort.TheVariants as sorts
use Rattle.au_lives.specs.Paths.{Step}
use Rattle.au_lives.specs.Lives.{is_untouched, is_ordinary, is_allowed, held_around, counts_at}
use Rattle.au_lives.specs.Lives.{UntouchedAfterwards}
use Rattle.au_lives.specs.Lives.{consumptions}

module _ (x : Bytes) (sort : Sort) where
  -- each step keeps the rules on one step and on open borrow statements, and none that meets x follows a
  -- consumption
  pub record KeepsRules (steps : List Step) : Type 0 where
    pub ordinary : All (λ s. IsTrue (is_ordinary (counts_at x sort s))) steps
    pub allowed : All (λ s. IsTrue (is_allowed (held_around x s.around) (counts_at x sort s))) steps
    pub afterwards : UntouchedAfterwards x sort steps

  -- How a step breaks the life behind others: it meets x after a consumption; or else what it does can't be
  -- done in one step; or else an open borrow statement forbids it.
  abbrev pub Breaks : LifeKind → List Step → Step → Type 0
  Breaks kinds.Again before s = (consumptions x sort before ≡ 1) × IsFalse (is_untouched (counts_at x sort s))
  Breaks kinds.Clash before s = (consumptions x sort before ≡ 0) × IsFalse (is_ordinary (counts_at x sort s))
  Breaks kinds.Borrowed before s =
      (consumptions x sort before ≡ 0)
      × (IsTrue (is_ordinary (counts_at x sort s))
      × IsFalse (is_allowed (held_around x s.around) (counts_at x sort s)))
  Breaks kinds.Unused before s = ⊥

  -- a step of a path breaks the life, and those before it keep the rules
  pub record BreaksAtStep (kind : LifeKind) (steps : List Step) : Type 0 where
    pub before : List Step
    pub at : Step
    pub after : List Step
    pub splits : steps ≡ before ++ (at ∷ after)
    pub keeps : KeepsRules before
    pub breaks : Breaks kind before at

  -- all steps keep the rules, but x isn't consumed and had to be
  pub record BreaksAtEnd (kind : LifeKind) (steps : List Step) : Type 0 where
    pub unused : kind ≡ kinds.Unused
    pub owed : sort ≡ sorts.Linear
    pub keeps : KeepsRules steps
    pub never : consumptions x sort steps ≡ 0

  abbrev pub BreaksFirst : LifeKind → List Step → Type 0
  BreaksFirst kind steps = BreaksAtStep kind steps ⊎ BreaksAtEnd kind steps
